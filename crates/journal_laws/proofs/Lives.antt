-- A file that isn't gone was counted before, and its inode exists.
use Rattle.std.proofs.Common.{◌≡◌, ℕ, ◌<◌, suc, Bool, true, false, cond, List, [], ◌∷◌, length, None, refl, ◌∙◌, ap, subst, arith}
use Rattle.std.specs.Prelude.{◌==◌}
use Rattle.std.proofs.lemmas.Bool.{eqb-true}
use Rattle.inode_meta.specs.declared.step.Who.{Who}
use Rattle.inode_events.specs.Files.{counted}
use Rattle.inode_events.specs.Inode.{Inode}
use Rattle.inode_events.specs.Legal.{EachFollows, Follows}
use Rattle.inode_events.specs.Stage.{Stage, stage, next_stage, may_check, is_gone}
use Rattle.inode_events.specs.Stage.{Gone, Counted, Asked, Collecting, Collected, Settled, CloseCollecting, CloseCollected}
use Rattle.inode_events.specs.State.{present, present_after}
use Rattle.inode_events.specs.declared.deed.Deed.{Deed}
use Rattle.inode_events.specs.declared.deed.Deed.TheVariants as deed
use Rattle.inode_events.specs.declared.told.Event.{Event}
use Rattle.inode_events.specs.declared.told.Told.{Told}
use Rattle.inode_events.specs.declared.told.Told.TheVariants as told

-- a file that may be checked isn't gone
pub check_alive : (l : Stage) → may_check l ≡ true → is_gone l ≡ false
check_alive Gone m = cc
check_alive Counted m = refl
check_alive Asked m = refl
check_alive Collecting m = refl
check_alive Collected m = refl
check_alive Settled m = refl
check_alive CloseCollecting m = refl
check_alive CloseCollected m = refl

-- a file that isn't gone was counted before, and its inode exists
abbrev pub Lives : Inode → List Event → Type 0
Lives i p = (f : ℕ) → is_gone (stage i f p) ≡ false → (f < length p) × (present p ≡ true)

-- if a deed names no file that is gone, a file that isn't gone after it wasn't gone before
was : (b : Bool) (after old : Stage) → (b ≡ true → is_gone old ≡ false)
    → is_gone (cond b after old) ≡ false → is_gone old ≡ false
was true after old m a = m refl
was false after old m a = a

-- if the stage stays, a file that isn't gone after the event wasn't gone before
was_same : (b : Bool) (x : Stage) → is_gone (cond b x x) ≡ false → is_gone x ≡ false
was_same true x a = a
was_same false x a = a

-- a file at a stage other than gone isn't gone under an equal name
pub named : (i : Inode) (p : List Event) (g f : ℕ) (l : Stage) → stage i g p ≡ l → is_gone l ≡ false
    → (g == f) ≡ true → is_gone (stage i f p) ≡ false
named i p g f l e n h =
    subst (λ (x : ℕ). is_gone (stage i x p) ≡ false) (eqb-true g f h) (ap is_gone e ∙ n)

-- one more event keeps that the file was counted and the inode exists
later : (f : ℕ) (p : List Event) → (f < length p) × (present p ≡ true) → (f < suc (length p))
    × (present p ≡ true)
later f p h = (omega (arith, h.0), h.1)

-- a count keeps that files were counted and the inode exists
count_lives : (f place : ℕ) (old : Stage) (p : List Event) → place ≡ length p
    → (is_gone old ≡ false → (f < length p) × (present p ≡ true))
    → (b : Bool) → (place == f) ≡ b → is_gone (cond b Counted old) ≡ false → (f < suc (length p))
    × (true ≡ true)
count_lives f place old p e h true q a =
    let s : place ≡ f = eqb-true place f q in (omega arith, refl)
count_lives f place old p e h false q a = (omega (arith, (h a).0), refl)

-- in an empty journal every file is gone
no_stage : (i : Inode) (p : List Event) (f : ℕ) → p ≡ [] → is_gone (stage i f p) ≡ false → ⊥
no_stage i p f e a = let z : is_gone (stage i f []) ≡ false =
    subst (λ (q : List Event). is_gone (stage i f q) ≡ false) e a in cc

-- a count of another file leaves whether this one is gone
apart_count : (f : ℕ) (p : List Event) (old : Stage) → f < length p
    → is_gone (cond (length p == f) Counted old) ≡ false → is_gone old ≡ false
apart_count f p old b a = at (length p == f) refl a where
  at : (x : Bool) → (length p == f) ≡ x → is_gone (cond x Counted old) ≡ false → is_gone old ≡ false
  at true q h = let s : length p ≡ f = eqb-true (length p) f q in absurd (omega arith)
  at false q h = h

-- if the event counts no file, one that isn't gone after it wasn't gone before it
pub alive_kept : (i : Inode) (p : List Event) (who : Who) (d : Deed) (t : Told)
    → Follows i p who d t → counted d t ≡ None → (f : ℕ)
    → is_gone (next_stage i f (length p) d t (stage i f p)) ≡ false → is_gone (stage i f p) ≡ false
alive_kept i p who deed.Birth t h n f a = a
alive_kept i p who (deed.Count how) told.Held h n f a = absurd (cc)
alive_kept i p who (deed.Count how) t h n f a = was_same (length p == f) (stage i f p) a
alive_kept i p who (deed.Check g func action rules) t h n f a =
    was (g == f) _ (stage i f p) (named i p g f (stage i g p) refl (check_alive (stage i g p) h.1))
    a
alive_kept i p who (deed.Take g) t h n f a =
    was (g == f) _ (stage i f p) (named i p g f Asked h.1 refl) a
alive_kept i p who (deed.Chunk g) t h n f a =
    was (g == f) _ (stage i f p) (named i p g f Collecting h.1 refl) a
alive_kept i p who (deed.Finish g) t h n f a =
    was (g == f) _ (stage i f p) (named i p g f Collected h.1 refl) a
alive_kept i p who (deed.Read g from len) t h n f a =
    was (g == f) _ (stage i f p) (named i p g f Settled h.1.0 refl) a
alive_kept i p who (deed.Write g from bytes) t h n f a =
    was (g == f) _ (stage i f p) (named i p g f Settled h.1.0 refl) a
alive_kept i p who (deed.Trunc g len) t h n f a =
    was (g == f) _ (stage i f p) (named i p g f Settled h.1.0 refl) a
alive_kept i p who (deed.SetAttr name bytes admin) t h n f a = a
alive_kept i p who (deed.SetMeta change) t h n f a = a
alive_kept i p who (deed.Close g) t h n f a =
    was (g == f) _ (stage i f p) (named i p g f Settled h.1.0 refl) a
alive_kept i p who (deed.CloseTake g) t h n f a =
    was (g == f) _ (stage i f p) (named i p g f Settled h.1.0 refl) a
alive_kept i p who (deed.CloseChunk g) t h n f a =
    was (g == f) _ (stage i f p) (named i p g f CloseCollecting h.1 refl) a
alive_kept i p who (deed.CloseFinish g) t h n f a =
    was (g == f) _ (stage i f p) (named i p g f CloseCollected h.1 refl) a
alive_kept i p who (deed.Post sem) t h n f a = absurd h.1
alive_kept i p who (deed.Wait sem) t h n f a = absurd h.1

-- a file that was counted before the event and isn't gone after it wasn't gone before it
pub alive_before : (i : Inode) (p : List Event) (who : Who) (d : Deed) (t : Told)
    → Follows i p who d t → (f : ℕ) → f < length p
    → is_gone (next_stage i f (length p) d t (stage i f p)) ≡ false → is_gone (stage i f p) ≡ false
alive_before i p who (deed.Count how) told.Held h f b a = apart_count f p (stage i f p) b a
alive_before i p who d t h f b a = alive_kept i p who d t h refl f a

-- each event keeps the law; only a count adds a file
step : (i : Inode) (p : List Event) (who : Who) (d : Deed) (t : Told) → Follows i p who d t
    → Lives i p → (f : ℕ)
    → is_gone (next_stage i f (length p) d t (stage i f p)) ≡ false → (f < suc (length p))
    × (present_after d t (present p) ≡ true)
step i p who deed.Birth t h v f a = absurd (no_stage i p f h.0 a)
step i p who (deed.Count how) told.Held h v f a =
    count_lives f (length p) (stage i f p) p refl (v f) (length p == f) refl a
step i p who d t h v f a = later f p (v f (alive_kept i p who d t h refl f a))

-- the law holds for every journal
pub lives : (i : Inode) (p : List Event) → EachFollows i p → Lives i p
lives i [] h f a = cc
lives i (e ∷ before) h f a = step i before e.who e.deed e.told h.0 (lives i before h.1) f a

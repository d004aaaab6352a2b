-- After a measuring check without a violation, nothing is written while the file is held: any
-- writer was counted later, and its check would find the reader.
use Rattle.std.proofs.Common.{◌≡◌, ℕ, ◌<◌, Bool, true, false, ◌&&◌, cond, List, [], ◌∷◌, length, Option, Some, None, refl, sym, ◌∙◌, ap, subst, arith}
use Rattle.std.specs.Prelude.{◌==◌, nat_lt, option_map}
use Rattle.std.proofs.lemmas.Bool.{cond-true, cond-false, eqb-true, lt-ltb, ne_eqb, or_left}
use Rattle.inode_meta.specs.declared.step.Who.{Who}
use Rattle.inode_events.specs.policy.declared.access.Action.{Action}
use Rattle.inode_events.specs.policy.declared.rule.Func.{Func}
use Rattle.inode_events.specs.Checks.{asks}
use Rattle.inode_events.specs.Coverage.{violation_places}
use Rattle.inode_events.specs.Files.{files, find_file, held, holds, is_reader, is_writer, is_writing, less_file, readers, writers}
use Rattle.inode_events.specs.Inode.{Inode}
use Rattle.inode_events.specs.Integrity.{Collection, Digests, collected_more, collecting, in_force, digests_of}
use Rattle.inode_events.specs.Legal.{Follows}
use Rattle.inode_events.specs.Stage.{Stage, stage, next_stage, touches, is_gone}
use Rattle.inode_events.specs.Stage.{Gone, Counted, Asked, Collecting, Collected, Settled, CloseCollecting, CloseCollected}
use Rattle.inode_events.specs.Marks.{must_measure}
use Rattle.inode_events.specs.Says.{check_told}
use Rattle.inode_events.specs.State.{content, modified_since}
use Rattle.inode_events.specs.declared.deed.Deed.{Deed}
use Rattle.inode_events.specs.declared.deed.Deed.TheVariants as deed
use Rattle.inode_events.specs.declared.deed.How.{How}
use Rattle.inode_events.specs.declared.told.Event.{Event}
use Rattle.inode_events.specs.declared.told.Told.{Told}
use Rattle.inode_events.specs.declared.told.Told.TheVariants as told
use Rattle.journal_laws.proofs.Fresh.{unmodified}
use Rattle.journal_laws.proofs.FreshSteps.{closing_writer}
use Rattle.journal_laws.proofs.Small.{cond_same, event}
use Rattle.journal_laws.proofs.Stages.{Stages}
use Rattle.journal_laws.proofs.Tallies.{find-less, tally_held}

-- ---- a file stays as it was opened

-- a count leaves files that were counted before
held_apart : (f : ℕ) (how : How) (p : List Event) → f < length p
    → find_file f ((length p, how) ∷ files p) ≡ held f p
held_apart f how p b =
    cond-false (length p == f) (Some how) (held f p) (ne_eqb (length p) f (λ e. omega arith))

-- a drop leaves how other files are held
held_dropped : (i : Inode) (f g : ℕ) (p : List Event) (old : Stage)
    → is_gone (cond (g == f) Gone old) ≡ false → find_file f (less_file g (files p)) ≡ held f p
held_dropped i f g p old a = at (g == f) refl a where
  at : (b : Bool) → (g == f) ≡ b → is_gone (cond b Gone old) ≡ false
      → find_file f (less_file g (files p)) ≡ held f p
  at true e h = cc
  at false e h = find-less g f (files p) e

-- an event leaves how a file is held, if the file isn't gone after it
pub held_same : (i : Inode) (p : List Event) (who : Who) (d : Deed) (t : Told) → (f : ℕ)
    → f < length p
    → is_gone (next_stage i f (length p) d t (stage i f p)) ≡ false
    → held f (event who d t ∷ p) ≡ held f p
held_same i p who (deed.Count how) told.Held f b a = held_apart f how p b
held_same i p who (deed.Close g) told.Dropped f b a = held_dropped i f g p (stage i f p) a
held_same i p who (deed.CloseTake g) told.Dropped f b a = held_dropped i f g p (stage i f p) a
held_same i p who (deed.CloseFinish g) told.Dropped f b a = held_dropped i f g p (stage i f p) a
held_same i p who (deed.CloseFinish g) told.LabelledDropped f b a =
    held_dropped i f g p (stage i f p) a
held_same i p who d t f b a = refl

-- ---- what holds after the check

-- nothing was written since the collection of the digests in force began
abbrev pub DigestsClean : List Event → Option Digests → Type 0
DigestsClean p None = Unit {0}
DigestsClean p (Some x) = modified_since x.begin p ≡ false

-- nothing was written since the open collection began
abbrev pub CollectionClean : List Event → Option Collection → Type 0
CollectionClean p None = Unit {0}
CollectionClean p (Some c) = modified_since c.begin p ≡ false

-- no writer has been checked yet
abbrev pub Unchecked : Inode → List Event → Type 0
Unchecked i p =
    (g : ℕ) → is_gone (stage i g p) ≡ false → is_writing g p ≡ true → stage i g p ≡ Counted

-- while no violation occurs: the content stays, the mark is set, and no writer has been checked
pub record Guarded (i : Inode) (bytes : List ℕ) (p : List Event) : Type 0 where
  pub same : content p ≡ bytes
  pub marked : must_measure p ≡ true
  pub unchecked : Unchecked i p
  pub clean_digests : DigestsClean p (in_force i p)
  pub clean_collecting : CollectionClean p (collecting i p)

-- an event that writes nothing leaves the digests clean
digests_kept : (p q : List Event) → ((place : ℕ) → modified_since place q ≡ modified_since place p)
    → (o : Option Digests) → DigestsClean p o → DigestsClean q o
digests_kept p q since None h = tt
digests_kept p q since (Some x) h = since x.begin ∙ h

-- digests in force that may be voided are clean
digests_cond : (q : List Event) (b : Bool) (o : Option Digests) → DigestsClean q o
    → DigestsClean q (cond b None o)
digests_cond q true o h = tt
digests_cond q false o h = h

-- a clean collection gives clean digests
digests_made : (q : List Event) (o : Option Collection) → CollectionClean q o
    → DigestsClean q (option_map digests_of o)
digests_made q None h = tt
digests_made q (Some c) h = h

-- an event that writes nothing leaves the collection clean
collection_kept : (p q : List Event)
    → ((place : ℕ) → modified_since place q ≡ modified_since place p) → (o : Option Collection)
    → CollectionClean p o → CollectionClean q o
collection_kept p q since None h = tt
collection_kept p q since (Some c) h = since c.begin ∙ h

-- one more piece leaves the collection clean
collection_more : (q : List Event) (bytes : List ℕ) (complete : Bool) (o : Option Collection)
    → CollectionClean q o → CollectionClean q (collected_more bytes complete o)
collection_more q bytes complete None h = tt
collection_more q bytes complete (Some c) h = h

-- whether the file was counted and not checked yet
is_counted : Stage → Bool
is_counted Counted = true
is_counted _ = false

-- an event on a file that isn't at its count leaves writers unchecked
unchecked_named : (i : Inode) (p : List Event) (g : ℕ) (after : Stage) (l : Stage) → stage i g p ≡ l
    → is_counted l ≡ false → is_gone l ≡ false → Unchecked i p
    → (x : ℕ) → is_gone (cond (g == x) after (stage i x p)) ≡ false → is_writing x p ≡ true
    → cond (g == x) after (stage i x p) ≡ Counted
unfolding is_counted
unchecked_named i p g after l e n a u x alive w = at (g == x) refl alive where
  at : (b : Bool) → (g == x) ≡ b → is_gone (cond b after (stage i x p)) ≡ false
      → cond b after (stage i x p) ≡ Counted
  at true q h =
      let same : g ≡ x = eqb-true g x q in
      let z : stage i x p ≡ l = subst (λ (y : ℕ). stage i y p ≡ l) same e in
      let c : stage i x p ≡ Counted = u x (ap is_gone z ∙ a) w in
      let d : is_counted l ≡ true = sym (ap is_counted z) ∙ ap is_counted c in cc
  at false q h = u x h w

-- an event that changes no stage leaves writers unchecked
unchecked_same : (i : Inode) (p : List Event) (b : Bool) (x : ℕ) → Unchecked i p
    → is_gone (cond b (stage i x p) (stage i x p)) ≡ false → is_writing x p ≡ true
    → cond b (stage i x p) (stage i x p) ≡ Counted
unchecked_same i p b x u a w =
    cond_same b (stage i x p) ∙ u x (sym (ap is_gone (cond_same b (stage i x p))) ∙ a) w

-- a count leaves writers unchecked, the new one included
unchecked_counted : (i : Inode) (p : List Event) (how : How) → Unchecked i p → (x : ℕ)
    → is_gone (cond (length p == x) Counted (stage i x p)) ≡ false
    → holds is_writer (cond (length p == x) (Some how) (held x p)) ≡ true
    → cond (length p == x) Counted (stage i x p) ≡ Counted
unchecked_counted i p how u x a w = at (length p == x) a w where
  at : (b : Bool) → is_gone (cond b Counted (stage i x p)) ≡ false
      → holds is_writer (cond b (Some how) (held x p)) ≡ true
      → cond b Counted (stage i x p) ≡ Counted
  at true a w = refl
  at false a w = u x a w

-- an event after which a file is gone leaves writers unchecked
unchecked_closed : (i : Inode) (p : List Event) (g : ℕ) → Unchecked i p → (x : ℕ)
    → is_gone (cond (g == x) Gone (stage i x p)) ≡ false
    → holds is_writer (find_file x (less_file g (files p))) ≡ true
    → cond (g == x) Gone (stage i x p) ≡ Counted
unchecked_closed i p g u x a w = at (g == x) refl a where
  at : (b : Bool) → (g == x) ≡ b → is_gone (cond b Gone (stage i x p)) ≡ false
      → cond b Gone (stage i x p) ≡ Counted
  at true e h = cc
  at false e h = u x h (sym (ap (holds is_writer) (find-less g x (files p) e)) ∙ w)

-- a check without a violation isn't a writer's
no_violation : (readers writers place : ℕ) (must writing measure : Bool) (func : Func)
    (action : Action) (g rules : ℕ) (t : Told) → 0 < readers → must ≡ true
    → Some (check_told writing measure readers writers must place) ≡ Some t
    → violation_places (deed.Check g func action rules) t ≡ [] → writing ≡ false
no_violation readers writers place must false measure func action g rules t r m e v = refl
no_violation readers writers place must true measure func action g rules t r m e v =
    let seen : (nat_lt 0 readers && must) ≡ true = ap (λ (b : Bool). b && must) (lt-ltb 0 readers r)
    ∙ m in
    let told : told.ToMToU place ≡ t = sym (cond-true _ (told.ToMToU place) told.Quiet seen)
    ∙ parted e in
    let listed : violation_places (deed.Check g func action rules) t ≡ place ∷ [] =
    sym (ap (violation_places (deed.Check g func action rules)) told) in cc where
      parted : Some (check_told true measure readers writers must place) ≡ Some t
          → check_told true measure readers writers must place ≡ t
      parted e = cc

-- a check of a file that isn't open for writing leaves writers unchecked
unchecked_check : (i : Inode) (p : List Event) (g : ℕ) (after : Stage) → is_writing g p ≡ false
    → Unchecked i p
    → (x : ℕ) → is_gone (cond (g == x) after (stage i x p)) ≡ false → is_writing x p ≡ true
    → cond (g == x) after (stage i x p) ≡ Counted
unchecked_check i p g after n u x alive w = at (g == x) refl alive where
  at : (b : Bool) → (g == x) ≡ b → is_gone (cond b after (stage i x p)) ≡ false
      → cond b after (stage i x p) ≡ Counted
  at true q h = let z : is_writing x p ≡ false = subst (λ (y : ℕ). is_writing y p ≡ false)
      (eqb-true g x q) n in cc
  at false q h = u x h w

-- while no writer has been checked, no file past its count is open for writing
no_writer : (i : Inode) (p : List Event) (g : ℕ) (l : Stage) → stage i g p ≡ l
    → is_counted l ≡ false → is_gone l ≡ false → is_writing g p ≡ true → Unchecked i p → ⊥
unfolding is_counted
no_writer i p g l e n a w u =
    let c : stage i g p ≡ Counted = u g (ap is_gone e ∙ a) w in
    let d : is_counted l ≡ true = sym (ap is_counted e) ∙ ap is_counted c in cc

-- each event without a violation keeps the guard
pub guard_step : (i : Inode) (bytes : List ℕ) (p : List Event) (who : Who) (d : Deed) (t : Told)
    (f : ℕ) → Follows i p who d t → Stages i p
    → holds is_reader (held f p) ≡ true → violation_places d t ≡ [] → Guarded i bytes p
    → Guarded i bytes (event who d t ∷ p)
unfolding is_counted
guard_step i bytes p who deed.Birth t f h s r v g = let e : held f p ≡ None = ap (held f) h.0 in cc
guard_step i bytes p who (deed.Count how) told.Held f h s r v g = record {
  same = g.same;
  marked = g.marked;
  unchecked = unchecked_counted i p how g.unchecked;
  clean_digests = digests_kept p (event who (deed.Count how) told.Held ∷ p) (λ place. refl)
      (in_force i p) g.clean_digests;
  clean_collecting = collection_kept p (event who (deed.Count how) told.Held ∷ p) (λ place. refl)
      (collecting i p) g.clean_collecting;
}
guard_step i bytes p who (deed.Check x func action rules) told.Quiet f h s r v g = record {
  same = g.same;
  marked = or_left _ _ g.marked;
  unchecked = unchecked_check i p x (cond (asks i action) Asked Settled)
      (no_violation (readers p) (writers p) _ (must_measure p) (is_writing x p) action.measure func
      action x rules told.Quiet (tally_held is_reader f (files p) r) g.marked h.2 refl)
      g.unchecked;
  clean_digests = digests_kept p (event who (deed.Check x func action rules) told.Quiet ∷ p)
      (λ place. refl) (in_force i p) g.clean_digests;
  clean_collecting = collection_kept p (event who (deed.Check x func action rules) told.Quiet ∷ p)
      (λ place. refl) (collecting i p) g.clean_collecting;
}
guard_step i bytes p who (deed.Check x func action rules) (told.OpenWriters place) f h s r v g = cc
guard_step i bytes p who (deed.Check x func action rules) (told.ToMToU place) f h s r v g = cc
guard_step i bytes p who (deed.Check x func action rules) t f h s r v g = record {
  same = g.same;
  marked = g.marked;
  unchecked = unchecked_check i p x (cond (asks i action) Asked Settled)
      (no_violation (readers p) (writers p) _ (must_measure p) (is_writing x p) action.measure func
      action x rules t (tally_held is_reader f (files p) r) g.marked h.2 refl) g.unchecked;
  clean_digests = digests_kept p (event who (deed.Check x func action rules) t ∷ p) (λ place. refl)
      (in_force i p) g.clean_digests;
  clean_collecting = collection_kept p (event who (deed.Check x func action rules) t ∷ p)
      (λ place. refl) (collecting i p) g.clean_collecting;
}
guard_step i bytes p who (deed.Take x) told.Begun f h s r v g = record {
  same = g.same;
  marked = g.marked;
  unchecked = unchecked_named i p x Collecting Asked h.1 refl refl g.unchecked;
  clean_digests = digests_kept p (event who (deed.Take x) told.Begun ∷ p) (λ place. refl)
      (in_force i p) g.clean_digests;
  clean_collecting = unmodified (length p) p (omega arith);
}
guard_step i bytes p who (deed.Take x) (told.Grant grant) f h s r v g = record {
  same = g.same;
  marked = g.marked;
  unchecked = unchecked_named i p x Settled Asked h.1 refl refl g.unchecked;
  clean_digests = digests_cond (event who (deed.Take x) (told.Grant grant) ∷ p) grant.labelled
      (in_force i p) (digests_kept p (event who (deed.Take x) (told.Grant grant) ∷ p)
      (λ place. refl) (in_force i p) g.clean_digests);
  clean_collecting = collection_kept p (event who (deed.Take x) (told.Grant grant) ∷ p)
      (λ place. refl) (collecting i p) g.clean_collecting;
}
guard_step i bytes p who (deed.Chunk x) told.More f h s r v g = record {
  same = g.same;
  marked = g.marked;
  unchecked = λ y. unchecked_same i p (x == y) y g.unchecked;
  clean_digests = digests_kept p (event who (deed.Chunk x) told.More ∷ p) (λ place. refl)
      (in_force i p) g.clean_digests;
  clean_collecting = collection_more (event who (deed.Chunk x) told.More ∷ p) (content p) false
      (collecting i p) (collection_kept p (event who (deed.Chunk x) told.More ∷ p) (λ place. refl)
      (collecting i p) g.clean_collecting);
}
guard_step i bytes p who (deed.Chunk x) told.Last f h s r v g = record {
  same = g.same;
  marked = g.marked;
  unchecked = unchecked_named i p x Collected Collecting h.1 refl refl g.unchecked;
  clean_digests = digests_kept p (event who (deed.Chunk x) told.Last ∷ p) (λ place. refl)
      (in_force i p) g.clean_digests;
  clean_collecting = collection_more (event who (deed.Chunk x) told.Last ∷ p) (content p) true
      (collecting i p) (collection_kept p (event who (deed.Chunk x) told.Last ∷ p) (λ place. refl)
      (collecting i p) g.clean_collecting);
}
guard_step i bytes p who (deed.Finish x) (told.Grant grant) f h s r v g = record {
  same = g.same;
  marked = g.marked;
  unchecked = unchecked_named i p x Settled Collected h.1 refl refl g.unchecked;
  clean_digests = digests_cond (event who (deed.Finish x) (told.Grant grant) ∷ p) grant.labelled
      (option_map digests_of (collecting i p))
      (digests_made (event who (deed.Finish x) (told.Grant grant) ∷ p) (collecting i p)
      (collection_kept p (event who (deed.Finish x) (told.Grant grant) ∷ p) (λ place. refl)
      (collecting i p) g.clean_collecting));
  clean_collecting = tt;
}
guard_step i bytes p who (deed.Write x from more) told.Done f h s r v g =
    absurd (no_writer i p x Settled h.1.0 refl refl h.1.1 g.unchecked)
guard_step i bytes p who (deed.Trunc x len) told.Done f h s r v g =
    absurd (no_writer i p x Settled h.1.0 refl refl h.1.1 g.unchecked)
guard_step i bytes p who (deed.SetAttr name more admin) told.Done f h s r v g = record {
  same = g.same;
  marked = g.marked;
  unchecked = g.unchecked;
  clean_digests = tt;
  clean_collecting = collection_kept p (event who (deed.SetAttr name more admin) told.Done ∷ p)
      (λ place. refl) (collecting i p) g.clean_collecting;
}
guard_step i bytes p who (deed.Close x) told.Dropped f h s r v g = record {
  same = g.same;
  marked = g.marked;
  unchecked = unchecked_closed i p x g.unchecked;
  clean_digests = digests_kept p (event who (deed.Close x) told.Dropped ∷ p) (λ place. refl)
      (in_force i p) g.clean_digests;
  clean_collecting = collection_kept p (event who (deed.Close x) told.Dropped ∷ p) (λ place. refl)
      (collecting i p) g.clean_collecting;
}
guard_step i bytes p who (deed.CloseTake x) t f h s r v g =
    absurd (no_writer i p x Settled h.1.0 refl refl h.1.1 g.unchecked)
guard_step i bytes p who (deed.CloseChunk x) told.More f h s r v g = record {
  same = g.same;
  marked = g.marked;
  unchecked = λ y. unchecked_same i p (x == y) y g.unchecked;
  clean_digests = digests_kept p (event who (deed.CloseChunk x) told.More ∷ p) (λ place. refl)
      (in_force i p) g.clean_digests;
  clean_collecting = collection_more (event who (deed.CloseChunk x) told.More ∷ p) (content p) false
      (collecting i p) (collection_kept p (event who (deed.CloseChunk x) told.More ∷ p)
      (λ place. refl) (collecting i p) g.clean_collecting);
}
guard_step i bytes p who (deed.CloseChunk x) told.Last f h s r v g = record {
  same = g.same;
  marked = g.marked;
  unchecked = unchecked_named i p x CloseCollected CloseCollecting h.1 refl refl g.unchecked;
  clean_digests = digests_kept p (event who (deed.CloseChunk x) told.Last ∷ p) (λ place. refl)
      (in_force i p) g.clean_digests;
  clean_collecting = collection_more (event who (deed.CloseChunk x) told.Last ∷ p) (content p) true
      (collecting i p) (collection_kept p (event who (deed.CloseChunk x) told.Last ∷ p)
      (λ place. refl) (collecting i p) g.clean_collecting);
}
guard_step i bytes p who (deed.CloseFinish x) t f h s r v g =
    absurd (no_writer i p x CloseCollected h.1 refl refl (closing_writer i p x h.1 s) g.unchecked)
guard_step i bytes p who d t f h s r v g = record {
  same = g.same;
  marked = g.marked;
  unchecked = λ y. unchecked_same i p (touches y (length p) d) y g.unchecked;
  clean_digests = digests_kept p (event who d t ∷ p) (λ place. refl) (in_force i p) g.clean_digests;
  clean_collecting =
      collection_kept p (event who d t ∷ p) (λ place. refl) (collecting i p) g.clean_collecting;
}

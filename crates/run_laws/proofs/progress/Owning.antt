-- What a task's own entries say of its files.
use Rattle.std.proofs.Common.{◌≡◌, ℕ, suc, ◌<◌, ◌≤◌, Bool, true, false, cond, List, [], ◌∷◌, length, Option, Some, None, refl, sym, ◌∙◌, ap, subst, arith}
use Rattle.std.specs.Prelude.{◌==◌, option_map}
use Rattle.std.proofs.lemmas.Bool.{eqb-true, ne_eqb, cond-true, cond-false}
use Rattle.std.proofs.lemmas.Option.{same_Some}
use Rattle.inode_events.specs.meta.declared.step.Who.{Who}
use Rattle.call_steps.specs.templates.declared.entry.Placed.{Placed}
use Rattle.inode_events.specs.Callers.{caller_of}
use Rattle.journal_laws.specs.Standing.{event_at}
use Rattle.inode_events.specs.pages.Content.{is_last_piece}
use Rattle.inode_events.specs.Files.{execs, held, writers}
use Rattle.inode_events.specs.Inode.{Inode}
use Rattle.inode_events.specs.Integrity.{Collection, Digests, collecting, in_force}
use Rattle.inode_events.specs.Legal.{EachFollows, Follows}
use Rattle.inode_events.specs.Says.{chunk_told, count_told, finish_told, placed_in, take_told, unless_collecting}
use Rattle.inode_events.specs.State.{content, present}
use Rattle.inode_events.specs.declared.deed.Deed.{Deed}
use Rattle.inode_events.specs.declared.deed.Deed.TheVariants as deed
use Rattle.inode_events.specs.declared.deed.How.{How}
use Rattle.inode_events.specs.declared.told.Event.{Event}
use Rattle.inode_events.specs.declared.told.Told.{Told}
use Rattle.inode_events.specs.declared.told.Told.TheVariants as told
use Rattle.journal_laws.proofs.Guards.{held_same}
use Rattle.journal_laws.proofs.Lives.{alive_before}
use Rattle.journal_laws.proofs.Small.{event}
use Rattle.journal_laws.specs.Own.{counter, own_past}
use Rattle.run_laws.proofs.progress.Rows.{told_fits}
use Rattle.inode_events.specs.Stage.{is_gone, next_stage, stage}

-- ---- how a file was counted

abbrev pub how_with : ℕ → ℕ → Deed → Told → Option How → Option How
how_with f place (deed.Count how) told.Held old = cond (place == f) (Some how) old
how_with f place d t old = old

abbrev pub how_in : ℕ → List (ℕ × Event) → Option How
how_in f [] = None
how_in f (x ∷ xs) = how_with f x.0 x.1.deed x.1.told (how_in f xs)

-- each outcome fits its deed, and no file was counted before at the place of an entry
abbrev pub AreGood : List (ℕ × Event) → Type 0
AreGood [] = Unit {0}
AreGood (x ∷ xs) = (told_fits x.1.deed x.1.told ≡ true) × (how_in x.0 xs ≡ None) × AreGood xs

how_within_with : (f place : ℕ) (d : Deed) (t : Told) (old : Option How) (h : How)
    → (old ≡ Some h → f < place) → how_with f place d t old ≡ Some h → f < suc place
how_within_with f place (deed.Count how) told.Held old h ih e = at (place == f) refl e where
  at : (b : Bool) → (place == f) ≡ b → cond b (Some how) old ≡ Some h → f < suc place
  at true q g = let s : place ≡ f = eqb-true place f q in omega arith
  at false q g = let s : f < place = ih g in omega arith
how_within_with f place d t old h ih e = let s : f < place = ih e in omega arith

pub how_within : (n f : ℕ) (p : List Event) (h : How) → how_in f (own_past n p) ≡ Some h
    → f < length p
how_within n f [] h e = absurd (cc)
how_within n f (x ∷ p) h e = at (n == caller_of x) (how_within n f p h) e where
  at : (b : Bool) → (how_in f (own_past n p) ≡ Some h → f < length p)
      → how_in f (cond b ((length p, x) ∷ own_past n p) (own_past n p)) ≡ Some h
      → f < suc (length p)
  at true ih g = how_within_with f (length p) x.deed x.told (how_in f (own_past n p)) h ih g
  at false ih g = let s : f < length p = ih g in omega arith

no_how : (n f : ℕ) (p : List Event) → length p ≤ f → (o : Option How) → how_in f (own_past n p) ≡ o
    → o ≡ None
no_how n f p l None e = refl
no_how n f p l (Some h) e = let s : f < length p = how_within n f p h e in absurd (omega arith)

-- ---- legal events

count_fits : (how : How) (a b : Bool) → told_fits (deed.Count how)
    (cond a told.NotFound (cond b told.TextBusy told.Held)) ≡ true
count_fits how true b = refl
count_fits how false true = refl
count_fits how false false = refl

take_at : (i : Inode) (f : ℕ) (placed : Placed) (p : List Event) (c : Option Collection)
    (o : Option Digests) (t : Told) → unless_collecting c (take_told i f placed o p) ≡ Some t
    → told_fits (deed.Take f) t ≡ true
take_at i f placed p None None t h = ap (told_fits (deed.Take f)) (sym (same_Some _ t h))
take_at i f placed p None (Some x) t h = ap (told_fits (deed.Take f)) (sym (same_Some _ t h))
take_at i f placed p (Some c) o t h = absurd (cc)

chunk_is : (f : ℕ) (b : Bool) → (told_fits (deed.Chunk f) (cond b told.Last told.More) ≡ true)
    × (told_fits (deed.CloseChunk f) (cond b told.Last told.More) ≡ true)
chunk_is f true = (refl, refl)
chunk_is f false = (refl, refl)

chunk_at : (f : ℕ) (text : List ℕ) (c : Option Collection) (t : Told) → chunk_told text c ≡ Some t
    → (told_fits (deed.Chunk f) t ≡ true) × (told_fits (deed.CloseChunk f) t ≡ true)
chunk_at f text None t h = absurd (cc)
chunk_at f text (Some c) t h =
    subst (λ (u : Told). (told_fits (deed.Chunk f) u ≡ true)
    × (told_fits (deed.CloseChunk f) u ≡ true)) (same_Some _ t h)
    (chunk_is f (is_last_piece text c.pieces))

finish_at : (i : Inode) (p : List Event) (f : ℕ) (placed : Placed) (o : Option Collection)
    (t : Told) → finish_told i f placed o p ≡ Some t → told_fits (deed.Finish f) t ≡ true
finish_at i p f placed None t h = absurd (cc)
finish_at i p f placed (Some c) t h = ap (told_fits (deed.Finish f)) (sym (same_Some _ t h))

legal_fits : (i : Inode) (p : List Event) (who : Who) (d : Deed) (t : Told) → Follows i p who d t
    → told_fits d t ≡ true
legal_fits i p who (deed.Count how) t h =
    ap (told_fits (deed.Count how)) (sym (same_Some
    (count_told how (present p) (writers p) (execs p)) t h.2)) ∙ count_fits how _ _
legal_fits i p who (deed.Take f) t h =
    take_at i f (placed_in t) p (collecting i p) (in_force i p) t h.2
legal_fits i p who (deed.Chunk f) t h = (chunk_at f (content p) (collecting i p) t h.2).0
legal_fits i p who (deed.CloseChunk f) t h = (chunk_at f (content p) (collecting i p) t h.2).1
legal_fits i p who (deed.Finish f) t h = finish_at i p f (placed_in t) (collecting i p) t h.2
legal_fits i p who d t h = refl

pub own_good : (i : Inode) (n : ℕ) (p : List Event) → EachFollows i p → AreGood (own_past n p)
own_good i n [] h = tt
own_good i n (e ∷ p) h = at (n == caller_of e) (own_good i n p h.1) where
  at : (b : Bool) → AreGood (own_past n p) → AreGood
      (cond b ((length p, e) ∷ own_past n p) (own_past n p))
  at true g = (
    legal_fits i p e.who e.deed e.told h.0,
    no_how n (length p) p (omega arith) (how_in (length p) (own_past n p)) refl,
    g,
  )
  at false g = g

-- ---- a file of the task, in the journal

below : (f place : ℕ) → f < place → (place == f) ≡ false
below f place b = ne_eqb place f (λ e. absurd (omega arith))

own_counter_with : (n f place m : ℕ) (d : Deed) (t : Told) (old : Option How) (h : How)
    (c : Option ℕ) → m ≡ n → (old ≡ Some h → f < place) → (old ≡ Some h → c ≡ Some n)
    → how_with f place d t old ≡ Some h → cond (place == f) (Some m) c ≡ Some n
own_counter_with n f place m (deed.Count how) told.Held old h c e l ih g = at (place == f) g where
  at : (b : Bool) → cond b (Some how) old ≡ Some h → cond b (Some m) c ≡ Some n
  at true q = ap (λ (x : ℕ). Some x) e
  at false q = ih q
own_counter_with n f place m d t old h c e l ih g =
    cond-false (place == f) (Some m) c (below f place (l g)) ∙ ih g

-- who added the event at a place, after one more event
counter_at : (f : ℕ) (x : Event) (p : List Event) (b : Bool)
    → option_map caller_of (cond b (Some x) (event_at f p))
    ≡ cond b (Some (caller_of x)) (counter f p)
counter_at f x p true = refl
counter_at f x p false = refl

pub own_counter : (n f : ℕ) (p : List Event) (h : How) → how_in f (own_past n p) ≡ Some h
    → counter f p ≡ Some n
own_counter n f [] h e = absurd (cc)
own_counter n f (x ∷ p) h e =
    counter_at f x p (length p == f) ∙ at (n == caller_of x) refl (own_counter n f p h) e where
      at : (b : Bool) → (n == caller_of x) ≡ b → (how_in f (own_past n p) ≡ Some h
          → counter f p ≡ Some n) → how_in f (cond b ((length p, x) ∷ own_past n p) (own_past n p))
          ≡ Some h
          → cond (length p == f) (Some (caller_of x)) (counter f p) ≡ Some n
      at true q ih g =
          own_counter_with n f (length p) (caller_of x) x.deed x.told (how_in f (own_past n p)) h
          (counter f p) (sym (eqb-true n (caller_of x) q)) (how_within n f p h) ih g
      at false q ih g =
          cond-false (length p == f) (Some (caller_of x)) (counter f p)
          (below f (length p) (how_within n f p h g)) ∙ ih g

held_kept : (i : Inode) (p : List Event) (who : Who) (d : Deed) (t : Told) (f : ℕ) (h : How)
    → Follows i p who d t → f < length p → (is_gone (stage i f p) ≡ false → held f p ≡ Some h)
    → is_gone (next_stage i f (length p) d t (stage i f p)) ≡ false
    → held f (event who d t ∷ p) ≡ Some h
held_kept i p who d t f h legal b ih a =
    held_same i p who d t f b a ∙ ih (alive_before i p who d t legal f b a)

held_with : (i : Inode) (p : List Event) (who : Who) (d : Deed) (t : Told) (f : ℕ) (h : How)
    (old : Option How) → Follows i p who d t → (old ≡ Some h → f < length p)
    → (old ≡ Some h → is_gone (stage i f p) ≡ false → held f p ≡ Some h)
    → how_with f (length p) d t old ≡ Some h
    → is_gone (next_stage i f (length p) d t (stage i f p)) ≡ false
    → held f (event who d t ∷ p) ≡ Some h
held_with i p who (deed.Count how) told.Held f h old legal l ih g a =
    at (length p == f) refl g where
      at : (b : Bool) → (length p == f) ≡ b → cond b (Some how) old ≡ Some h
          → held f (event who (deed.Count how) told.Held ∷ p) ≡ Some h
      at true q w = cond-true (length p == f) (Some how) (held f p) q ∙ w
      at false q w = held_kept i p who (deed.Count how) told.Held f h legal (l w) (ih w) a
held_with i p who d t f h old legal l ih g a = held_kept i p who d t f h legal (l g) (ih g) a

pub own_held : (i : Inode) (n f : ℕ) (p : List Event) (h : How) → EachFollows i p
    → how_in f (own_past n p) ≡ Some h → is_gone (stage i f p) ≡ false → held f p ≡ Some h
own_held i n f [] h legal e a = absurd (cc)
own_held i n f (x ∷ p) h legal e a = at (n == caller_of x) (own_held i n f p h legal.1) e where
  at : (b : Bool) → (how_in f (own_past n p) ≡ Some h → is_gone (stage i f p) ≡ false
      → held f p ≡ Some h) → how_in f (cond b ((length p, x) ∷ own_past n p) (own_past n p))
      ≡ Some h
      → held f (x ∷ p) ≡ Some h
  at true ih g =
      held_with i p x.who x.deed x.told f h (how_in f (own_past n p)) legal.0
      (how_within n f p h) ih g a
  at false ih g = held_kept i p x.who x.deed x.told f h legal.0 (how_within n f p h g) (ih g) a

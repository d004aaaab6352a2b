-- The pass stays in agreement with the journal.
use Rattle.std.proofs.Common.{◌≡◌, ℕ, ◌<◌, ◌≤◌, List, [], ◌∷◌, ◌++◌, length, Option, Some, None, refl, sym, ◌∙◌, ap, subst, arith, length-append}
use Rattle.std.specs.Prelude.{All}
use Rattle.std.proofs.lemmas.List.{append-nil}
use Rattle.std.proofs.lemmas.List.Elements.{All-nil, All-cons, All-weaker}
use Rattle.std.proofs.Math.Seq.{take-append_seam}
use mathlib.Core.List.{IsPrefix}
use Rattle.grow_list.proofs.Prefixes.{prefix_append, prefix_length, prefix_refl, prefix_trans}
use Rattle.ima_templates.specs.Same.{add, add_by, place_of_same, placed, placed_by}
use Rattle.ima_templates.specs.declared.entry.Entry.{Entry}
use Rattle.ima_templates.specs.declared.entry.Placed.TheVariants.{Added}
use Rattle.inode_meta.specs.declared.step.Who.{Who}
use Rattle.inode_events.specs.Asked.{asked, placed_for}
use Rattle.inode_events.specs.Inode.{Inode}
use Rattle.inode_events.specs.Listing.{IsFirstIn, Listed, StandsIn, adds, finds, listed_in}
use Rattle.inode_events.specs.Merged.{Named, named, places_named}
use Rattle.inode_events.specs.Says.{says}
use Rattle.inode_events.specs.declared.deed.Deed.{Deed}
use Rattle.inode_events.specs.declared.told.Event.{Event}
use Rattle.inode_events.specs.declared.told.Told.{Told}
use Rattle.journal_laws.proofs.Covering.{first_shows}
use Rattle.journal_laws.specs.Asked.{added_by, added_for, found_by, found_for}
use Rattle.journal_laws.specs.Booked.{Books, BooksEntry, IsBooked, IsNewIn, KeptAtBirth, KeptByLook, KeptByOutcome, told_on}
use Rattle.journal_laws.proofs.Prefixed.{get_end, listed_prefix, new_prefix}
use Rattle.journal_laws.proofs.Asking.{adds_asked, asked_new, none_new}

-- ---- a look

-- places below the length of a list are below that of a longer one
below_more : (i : Inode) (p : List Event) (xs ys : List Entry) → IsPrefix xs ys
    → All (λ named. named.1 < length xs) (places_named i p) → All (λ named. named.1 < length ys)
    (places_named i p)
below_more i p xs ys a h =
    let le : length xs ≤ length ys = prefix_length xs ys a in
    All-weaker (λ (n : Named). n.1 < length xs) (λ (n : Named). n.1 < length ys)
    (λ n b. omega arith) (places_named i p) h

-- the pass agrees with the journal after a look
pub kept_look : KeptByLook
kept_look i p seen seen2 mine a b = record {
  mine_is = b.mine_is;
  listed = listed_prefix i seen seen2 p a b.listed;
  adds_new = new_prefix i seen seen2 p a b.below b.adds_new;
  rise = b.rise;
  below = below_more i p seen seen2 a b.below;
}

-- a birth names no place
pub kept_birth : KeptAtBirth
kept_birth i who t = record {
  mine_is = refl;
  listed = (tt, tt, tt);
  adds_new = (tt, tt);
  rise = (All-nil _, tt);
  below = All-nil (λ (n : Named). n.1 < 0);
}

-- ---- an event

-- all places that were named before lie below this one
abbrev RisesAbove : Inode → List Event → Named → Type 0
RisesAbove i p added = All (λ n. n.1 < added.1) (places_named i p)

-- what has to be shown for an event that adds `a` and finds `f`
record Step (i : Inode) (p : List Event) (who : Who) (a f : Option Listed)
    (seen : List Entry) : Type 0 where
  stands : StandsIn seen a
  first : IsFirstIn seen f
  is_new : IsNewIn seen a
  rise : All (RisesAbove i p) (named who a)
  below : All (λ n. n.1 < length seen) (named who a ++ named who f ++ places_named i p)

-- agreement after one more event, from the facts of that event
from_step : (i : Inode) (p : List Event) (who : Who) (d : Deed) (t : Told) (seen : List Entry)
    (had has : List Listed)
    → Step i p who (adds i d t p) (finds i d t p) seen → IsBooked i p seen had
    → has ≡ had ++ listed_in (adds i d t p)
    → IsBooked i (told_on who d t p) seen has
from_step i p who d t seen had has s b m = record {
  mine_is = m ∙ ap (λ (l : List Listed). l ++ listed_in (adds i d t p)) b.mine_is;
  listed = (s.stands, s.first, b.listed);
  adds_new = (s.is_new, b.adds_new);
  rise = (s.rise, b.rise);
  below = s.below;
}

-- agreement after one more event, for an entry that is only equal to the event's
step_at : (i : Inode) (p : List Event) (who : Who) (d : Deed) (t : Told) (a f : Option Listed)
    (seen : List Entry)
    → adds i d t p ≡ a → finds i d t p ≡ f → Step i p who a f seen
    → Step i p who (adds i d t p) (finds i d t p) seen
step_at i p who d t a f seen ea ef s =
    subst (λ (x : Option Listed). Step i p who x (finds i d t p) seen) (sym ea)
    (subst (λ (x : Option Listed). Step i p who a x seen) (sym ef) s)

-- an event that asks for nothing adds and finds nothing
kept_none : (i : Inode) (p : List Event) (who : Who) (d : Deed) (t : Told) (seen : List Entry)
    (mine : List Listed)
    → IsBooked i p seen mine → asked i d p ≡ None → says i p (Added 0) d ≡ Some t
    → IsBooked i (told_on who d t p) seen mine
kept_none i p who d t seen mine b q h =
    let n = adds_asked i p (Added 0) d t (none_new d 0) h in
    let ea : adds i d t p ≡ None = n.0 ∙ ap (added_for (Added 0)) q in
    let ef : finds i d t p ≡ None = n.1 ∙ ap (found_for (Added 0)) q in
    from_step i p who d t seen mine mine
    (step_at i p who d t None None seen ea ef
    (record {
      stands = tt;
      first = tt;
      is_new = tt;
      rise = All-nil (RisesAbove i p);
      below =
          b.below;
    }))
    b (sym (append-nil mine) ∙ ap (λ (o : Option Listed). mine ++ listed_in o) (sym ea))

-- the facts of an event that asks for an entry, given the place of the first that is the same
asked_step : (i : Inode) (p : List Event) (who : Who) (list : List Entry) (e : Entry)
    (seen : List Entry) (o : Option ℕ) → place_of_same list e ≡ o
    → IsPrefix seen list → All (λ n. n.1 < length seen) (places_named i p)
    → Step i p who (added_by (placed_by o (length list)) e) (found_by (placed_by o (length list)) e)
    (add_by o list e)
asked_step i p who list e seen None h a b =
    let le : length seen ≤ length list = prefix_length seen list a in
    let end : length list < length (list ++ e ∷ []) = omega (arith, length-append list (e ∷ [])) in
    record {
      stands = get_end list e;
      first = tt;
      is_new = ap (λ (l : List Entry). place_of_same l e) (take-append_seam list (e ∷ [])) ∙ h;
      rise = All-cons (RisesAbove i p) (who, length list) []
          (All-weaker (λ (n : Named). n.1 < length seen) (λ (n : Named). n.1 < length list)
          (λ n x. omega arith) (places_named i p) b) (All-nil (RisesAbove i p));
      below = All-cons (λ (n : Named). n.1 < length (list ++ e ∷ [])) (who, length list)
          (places_named i p) end
          (All-weaker (λ (n : Named). n.1 < length seen)
          (λ (n : Named). n.1 < length (list ++ e ∷ [])) (λ n x. omega arith)
          (places_named i p) b);
    }
asked_step i p who list e seen (Some k) h a b =
    let in' : k < length list = (first_shows list e k h).2 in
    record {
      stands = tt;
      first = h;
      is_new = tt;
      rise = All-nil (RisesAbove i p);
      below = All-cons (λ (n : Named). n.1 < length list) (who, k) (places_named i p) in'
          (below_more i p seen list a b);
    }

-- adding an entry extends the list
add_prefix : (list : List Entry) (e : Entry) (o : Option ℕ) → IsPrefix list (add_by o list e)
add_prefix list e None = prefix_append list (e ∷ [])
add_prefix list e (Some k) = prefix_refl list

-- an event that asks for an entry keeps the pass in agreement
kept_added : (i : Inode) (p : List Event) (who : Who) (d : Deed) (t : Told) (list : List Entry)
    (e : Entry) (seen seen2 : List Entry) (mine mine2 : List Listed)
    → IsBooked i p seen mine → asked i d p ≡ Some e → BooksEntry list e seen seen2 mine mine2
    → says i p (placed list e) d ≡ Some t
    → IsBooked i (told_on who d t p) seen2 mine2
kept_added i p who d t list e seen seen2 mine mine2 b q x h =
    let n = adds_asked i p (placed list e) d t (asked_new i p d list e q) h in
    let ea : adds i d t p ≡ added_by (placed list e) e = n.0 ∙ ap (added_for (placed list e)) q in
    let ef : finds i d t p ≡ found_by (placed list e) e = n.1 ∙ ap (found_for (placed list e)) q in
    let m : mine2 ≡ mine ++ listed_in (adds i d t p) = x.mine
    ∙ ap (λ (o : Option Listed). mine ++ listed_in o) (sym ea) in
    let step : Step i p who (added_by (placed list e) e) (found_by (placed list e) e) (add list e) =
    asked_step i p who list e seen (place_of_same list e) refl x.before b.below in
    let seen_more : IsPrefix seen (add list e) = prefix_trans seen list (add list e) x.before
    (add_prefix list e (place_of_same list e)) in
    subst (λ (l : List Entry). IsBooked i (told_on who d t p) l mine2) (sym x.seen)
    (from_step i p who d t (add list e) mine mine2
    (step_at i p who d t (added_by (placed list e) e) (found_by (placed list e) e)
    (add list e) ea ef step)
    (kept_look i p seen (add list e) mine seen_more b) m)

-- each event keeps the pass in agreement, whatever it asks for
books : (i : Inode) (p : List Event) (who : Who) (d : Deed) (t : Told)
    (list seen seen2 : List Entry) (mine mine2 : List Listed) (o : Option Entry) → asked i d p ≡ o
    → IsBooked i p seen mine → Books list o seen seen2 mine mine2
    → says i p (placed_for list o) d ≡ Some t → IsBooked i (told_on who d t p) seen2 mine2
books i p who d t list seen seen2 mine mine2 None q b x h =
    subst (λ (l : List Entry). IsBooked i (told_on who d t p) l mine2) (sym x.0)
    (subst (λ (l : List Listed). IsBooked i (told_on who d t p) seen l) (sym x.1)
    (kept_none i p who d t seen mine b q h))
books i p who d t list seen seen2 mine mine2 (Some e) q b x h =
    kept_added i p who d t list e seen seen2 mine mine2 b q x h

-- the law for an outcome that the journal gives for the list's answer
pub kept_outcome : KeptByOutcome
kept_outcome i p who d t list seen seen2 mine mine2 b x h =
    books i p who d t list seen seen2 mine mine2 (asked i d p) refl b x h

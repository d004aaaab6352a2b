-- What a list has, each longer list that it begins has too.
use Rattle.std.proofs.Common.{◌≡◌, ℕ, suc, ◌+◌, ◌<◌, Bool, true, false, cond, List, [], ◌∷◌, ◌++◌, length, append_assoc, Option, Some, None, refl, ◌∙◌, ap, subst, arith, length-append}
use Rattle.std.specs.Prelude.{All, slice_get, nat_lt, not}
use Rattle.std.specs.List.{position, position_or_len}
use Rattle.std.proofs.lemmas.List.Elements.{All-head, All-tail}
use Rattle.std.proofs.lemmas.Bool.{ltb-true, lt-ltb, cond-true}
use Rattle.std.proofs.lemmas.Option.{cond_some}
use mathlib.Core.List.{IsPrefix}
use Rattle.ima_templates.specs.Same.{place_of_same, same}
use Rattle.ima_templates.specs.declared.entry.Entry.{Entry}
use Rattle.inode_events.specs.Inode.{Inode}
use Rattle.inode_events.specs.Listing.{IsFirstIn, IsListed, Listed, StandsIn, adds, finds}
use Rattle.inode_events.specs.Merged.{Named, named, places_named}
use Rattle.inode_meta.specs.declared.step.Who.{Who}
use Rattle.inode_events.specs.declared.told.Event.{Event}
use Rattle.journal_laws.specs.Booked.{AddsNew, IsNewIn}
use Rattle.grow_list.proofs.Prefixes.{prefix_get, prefix_take}

-- the last element of a list with one appended is the appended one
pub get_end : {A : Type 0} (xs : List A) (x : A) → slice_get (xs ++ x ∷ []) (length xs) ≡ Some x
get_end [] x = refl
get_end (y ∷ xs) x = get_end xs x

-- a search that succeeds doesn't read further
first_more : {A : Type 0} (p : A → Bool) (xs ys : List A) → position_or_len p xs < length xs
    → position_or_len p (xs ++ ys) ≡ position_or_len p xs
first_more p [] ys h = absurd (omega arith)
first_more p (x ∷ xs) ys h = at (first_more p xs ys) (not (p x)) h where
  at : (position_or_len p xs < length xs → position_or_len p (xs ++ ys) ≡ position_or_len p xs)
      → (b : Bool) → cond b (1 + position_or_len p xs) 0 < suc (length xs)
      → cond b (1 + position_or_len p (xs ++ ys)) 0 ≡ cond b (1 + position_or_len p xs) 0
  at ih true g = ap (λ (n : ℕ). 1 + n) (ih (omega arith))
  at ih false g = refl

-- a search that succeeds finds the same place in a longer list
pub position_more : {A : Type 0} (p : A → Bool) (xs ys : List A) (k : ℕ) → position p xs ≡ Some k
    → position p (xs ++ ys) ≡ Some k
position_more p xs ys k h =
    let a : (nat_lt (position_or_len p xs) (length xs) ≡ true) × (position_or_len p xs ≡ k) =
    cond_some (nat_lt (position_or_len p xs) (length xs)) (position_or_len p xs) k h in
    let short : position_or_len p xs < length xs = ltb-true (position_or_len p xs)
    (length xs) a.0 in
    let same : position_or_len p (xs ++ ys) ≡ position_or_len p xs = first_more p xs ys short in
    let inside : position_or_len p (xs ++ ys) < length (xs ++ ys) =
    omega (arith, length-append xs ys) in
    cond-true (nat_lt (position_or_len p (xs ++ ys)) (length (xs ++ ys))) _ None
    (lt-ltb (position_or_len p (xs ++ ys)) (length (xs ++ ys)) inside)
    ∙ ap (λ (n : ℕ). Some n) (same ∙ a.1)

-- the first entry that is the same as this one is the first in a longer list
pub first_prefix : (xs ys : List Entry) (e : Entry) (k : ℕ) → IsPrefix xs ys
    → place_of_same xs e ≡ Some k → place_of_same ys e ≡ Some k
first_prefix xs ys e k a h = subst (λ (l : List Entry). place_of_same l e ≡ Some k) a.1
    (position_more (λ (y : Entry). same y e) xs a.0 k h)

-- an entry at its place in a list is there in a longer list
stands_prefix : (xs ys : List Entry) (o : Option Listed) → IsPrefix xs ys → StandsIn xs o
    → StandsIn ys o
stands_prefix xs ys None a s = tt
stands_prefix xs ys (Some x) a s = prefix_get xs ys x.0 x.1 a s

-- an entry that is found first in a list is found first in a longer list
first_in_prefix : (xs ys : List Entry) (o : Option Listed) → IsPrefix xs ys → IsFirstIn xs o
    → IsFirstIn ys o
first_in_prefix xs ys None a s = tt
first_in_prefix xs ys (Some x) a s = first_prefix xs ys x.1 x.0 a s

-- what a list shows of the journal, a longer list shows
pub listed_prefix : (i : Inode) (xs ys : List Entry) (p : List Event) → IsPrefix xs ys
    → IsListed i xs p → IsListed i ys p
listed_prefix i xs ys [] a h = tt
listed_prefix i xs ys (e ∷ before) a h = (
  stands_prefix xs ys (adds i e.deed e.told before) a h.0,
  first_in_prefix xs ys (finds i e.deed e.told before) a h.1,
  listed_prefix i xs ys before a h.2,
)

-- ---- what is added is new

-- an entry added within the prefix is as new in a longer list
new_in_prefix : (xs ys : List Entry) (who : Who) (o : Option Listed) (rest : List Named)
    → IsPrefix xs ys
    → All (λ n. n.1 < length xs) (named who o ++ rest) → IsNewIn xs o → IsNewIn ys o
new_in_prefix xs ys who None rest a b s = tt
new_in_prefix xs ys who (Some x) rest a b s =
    let l : x.0 < length xs = All-head (λ (n : Named). n.1 < length xs) (who, x.0) rest b in
    ap (λ (zs : List Entry). place_of_same zs x.1) (prefix_take xs ys x.0 a (omega arith)) ∙ s

-- if all elements of two joined lists have a property, so do those of the second
all_rest : (P : Named → Type 0) (xs ys : List Named) → All P (xs ++ ys) → All P ys
all_rest P [] ys h = h
all_rest P (x ∷ xs) ys h = all_rest P xs ys (All-tail P x (xs ++ ys) h)

-- the entries that a journal adds are as new in a longer list
pub new_prefix : (i : Inode) (xs ys : List Entry) (p : List Event) → IsPrefix xs ys
    → All (λ n. n.1 < length xs) (places_named i p)
    → AddsNew i xs p → AddsNew i ys p
new_prefix i xs ys [] a b h = tt
new_prefix i xs ys (e ∷ before) a b h = (
  new_in_prefix xs ys e.who (adds i e.deed e.told before)
      (named e.who (finds i e.deed e.told before) ++ places_named i before) a
      (subst (All (λ (n : Named). n.1 < length xs))
      (append_assoc (named e.who (adds i e.deed e.told before))
      (named e.who (finds i e.deed e.told before)) (places_named i before)) b) h.0,
  new_prefix i xs ys before a
      (all_rest (λ (n : Named). n.1 < length xs)
      (named e.who (adds i e.deed e.told before) ++ named e.who (finds i e.deed e.told before))
      (places_named i before) b) h.1,
)

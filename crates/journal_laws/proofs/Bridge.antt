-- The list that callers share, oldest event first, and the journal, newest event first.
use Rattle.std.proofs.Common.{◌≡◌, ◌≢◌, ℕ, zero, suc, Bool, true, false, cond, eqb, List, [], ◌∷◌, ◌++◌, length, map, Some, refl, sym, ◌∙◌, ap}
use Rattle.std.specs.Prelude.{◌==◌, reverse, slice_get}
use Rattle.std.proofs.lemmas.Bool.{eqb-true, eq-eqb}
use Rattle.std.proofs.lemmas.List.{map-append, reverse-append, length-map, reverse-reverse, length-reverse}
use Rattle.grow_list.specs.Entries.{entries_of}
use Rattle.grow_list.proofs.Counting.{entries-below, entries-other, entries-same}
use Rattle.inode_events.specs.Callers.{caller_of}
use Rattle.inode_events.specs.NewestFirst.{newest_first}
use Rattle.inode_events.specs.declared.told.Event.{Event}
use Rattle.journal_laws.specs.Standing.{event_at}
use Rattle.journal_laws.specs.Own.{own_past}
use Rattle.journal_laws.specs.OwnLaws.{EventIsAt, OwnIsOwn, OwnIsWithin}

-- ---- own entries

-- the entries of one number, if each element has the number of its caller
abbrev owns : ℕ → List Event → List (ℕ × Event)
owns n list = entries_of n (map caller_of list) list

-- a test isn't both true and false
not_both : (b : Bool) → b ≡ true → b ≡ false → ⊥
not_both b y n = cc

-- one more event adds one own entry or none
owns_more : (n : ℕ) (list : List Event) (e : Event)
    → owns n (list ++ e ∷ []) ≡ cond (eqb n (caller_of e)) (owns n list ++ (length list, e) ∷ [])
    (owns n list)
owns_more n list e =
    ap (λ ms. entries_of n ms (list ++ e ∷ [])) (map-append caller_of list (e ∷ []))
    ∙ at (eqb n (caller_of e)) refl where
      even : length (map caller_of list) ≡ length list
      even = length-map list caller_of

      at : (b : Bool) → eqb n (caller_of e) ≡ b
          → entries_of n (map caller_of list ++ caller_of e ∷ []) (list ++ e ∷ []) ≡ cond b
          (owns n list ++ (length list, e) ∷ []) (owns n list)
      at true q =
          ap (λ (m : ℕ). entries_of n (map caller_of list ++ m ∷ []) (list ++ e ∷ []))
          (sym (eqb-true n (caller_of e) q))
          ∙ entries-same n (map caller_of list) list e even
      at false q =
          entries-other n (caller_of e) (map caller_of list) list e
          (λ is. not_both (eqb n (caller_of e)) (eq-eqb n (caller_of e) is) q) even

-- own entries, by induction on the newest event
newest : (n : ℕ) (p : List Event) → own_past n p ≡ reverse (owns n (reverse p))
newest n [] = refl
newest n (e ∷ before) =
    let split : reverse (e ∷ before) ≡ reverse before ++ e ∷ [] = reverse-append (e ∷ []) before in
    sym (ap (λ (l : List Event). reverse (owns n l)) split
    ∙ ap reverse (owns_more n (reverse before) e)
    ∙ at (eqb n (caller_of e)) (length-reverse before) (newest n before)) where
      at : (b : Bool) → length (reverse before) ≡ length before
          → own_past n before ≡ reverse (owns n (reverse before))
          → reverse (cond b (owns n (reverse before) ++ (length (reverse before), e) ∷ [])
          (owns n (reverse before)))
          ≡ cond b ((length before, e) ∷ own_past n before) (own_past n before)
      at true len ih =
          reverse-append (owns n (reverse before)) ((length (reverse before), e) ∷ [])
          ∙ (λ i. (len i, e) ∷ sym ih i)
      at false len ih = sym ih

-- own entries, in the order of the shared list
pub own_bridge : OwnIsOwn
unfolding newest_first
own_bridge n list =
    newest n (reverse list) ∙ ap (λ (l : List Event). reverse (owns n l)) (reverse-reverse list)

-- the place of an own entry is below the length of the list
pub within : OwnIsWithin
within n list = entries-below n (map caller_of list) list

-- ---- places

-- the last element of a list with one appended is the appended one
get_end : (xs : List Event) (x : Event) → slice_get (xs ++ x ∷ []) (length xs) ≡ Some x
get_end [] x = refl
get_end (y ∷ xs) x = get_end xs x

-- appending leaves the elements at other places
get_other : (xs : List Event) (x : Event) (k : ℕ) → length xs ≢ k
    → slice_get (xs ++ x ∷ []) k ≡ slice_get xs k
get_other [] x zero ne = absurd (ne refl)
get_other [] x (suc k) ne = refl
get_other (y ∷ xs) x zero ne = refl
get_other (y ∷ xs) x (suc k) ne = get_other xs x k (λ e. ne (ap suc e))

-- the element at a place of a list with one appended
get_more : (xs : List Event) (x : Event) (k : ℕ) (b : Bool) → (length xs == k) ≡ b
    → slice_get (xs ++ x ∷ []) k ≡ cond b (Some x) (slice_get xs k)
get_more xs x k true q =
    ap (slice_get (xs ++ x ∷ [])) (sym (eqb-true (length xs) k q)) ∙ get_end xs x
get_more xs x k false q =
    get_other xs x k (λ e. not_both (length xs == k) (eq-eqb (length xs) k e) q)

-- the event at a place, by induction on the newest event
there : (k : ℕ) (p : List Event) → event_at k p ≡ slice_get (reverse p) k
there k [] = refl
there k (e ∷ before) =
    let split : reverse (e ∷ before) ≡ reverse before ++ e ∷ [] = reverse-append (e ∷ []) before in
    let len : length (reverse before) ≡ length before = length-reverse before in
    ap (cond (length before == k) (Some e)) (there k before)
    ∙ sym (get_more (reverse before) e k (length before == k) (ap (λ (n : ℕ). n == k) len))
    ∙ sym (ap (λ (l : List Event). slice_get l k) split)

-- the event at a place, in the order of the shared list
pub event_there : EventIsAt
unfolding newest_first
event_there k list =
    there k (reverse list) ∙ ap (λ (l : List Event). slice_get l k) (reverse-reverse list)

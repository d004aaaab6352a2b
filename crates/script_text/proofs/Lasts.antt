-- Lists of which the last element is changed, or to which one is appended.
use Rattle.std.proofs.Common.{◌≡◌, ℕ, ◌+◌, ◌-◌, ◌≤◌, Bool, true, false, not, ◌&&◌, List, [], ◌∷◌, ◌++◌, length, map, take, slice_get, Some, IfSome, refl, sym, ap, ◌∙◌, inl, inr, arith, length-append, append_assoc}
use Rattle.std.specs.List.{AllByRecursion, list_all, sum_by}
use Rattle.std.proofs.Math.Seq.{take-append_seam}
use Rattle.std.proofs.lemmas.Bool.{cases_Bool, false≢true}
use Rattle.std.proofs.lemmas.List.{append-nil, map-append}
use Rattle.std.proofs.lemmas.List.Folds.{list_all-append}
use Rattle.std.proofs.lemmas.List.Sums.{sum_by_push}
use Rattle.script_text.specs.Draft.{change_last, changed, last_of}
use Rattle.script_text.specs.Forms.{are_apart}
use Rattle.call_lines.proofs.Holding.{left_true, right_true}

-- induction on a list from its end
pub by_last : {A : Type 0} (P : List A → Type 0) → P []
    → ((xs : List A) (x : A) → P (xs ++ x ∷ [])) → (xs : List A) → P xs
by_last P none some [] = none
by_last P none some (x ∷ xs) =
    by_last (λ ys. P (x ∷ ys)) (some [] x) (λ ys y. some (x ∷ ys) y) xs

get_last : {A : Type 0} (xs : List A) (x : A) → slice_get (xs ++ x ∷ []) (length xs) ≡ Some x
get_last [] x = refl
get_last (y ∷ ys) x = get_last ys x

before_last : {A : Type 0} (xs : List A) (x : A) → length (xs ++ x ∷ []) - 1 ≡ length xs
before_last xs x = omega (arith, length-append xs (x ∷ []))

pub last_after : {A : Type 0} (xs : List A) (x : A) → last_of (xs ++ x ∷ []) ≡ Some x
last_after xs x =
    ap (λ (n : ℕ). slice_get (xs ++ x ∷ []) n) (before_last xs x) ∙ get_last xs x

pub change_after : {A : Type 0} (f : A → A) (xs : List A) (x : A)
    → change_last f (xs ++ x ∷ []) ≡ xs ++ f x ∷ []
unfolding change_last
change_after f xs x =
    ap (changed f (xs ++ x ∷ [])) (last_after xs x)
    ∙ ap (λ (front : List _). front ++ f x ∷ [])
    (ap (λ (n : ℕ). take n (xs ++ x ∷ [])) (before_last xs x) ∙ take-append_seam xs (x ∷ []))

pub change_none : {A : Type 0} (f : A → A) → change_last f [] ≡ []
unfolding change_last
change_none f = refl

-- ---- a property of each element

pub each_after : {A : Type 0} (P : A → Type 0) (xs : List A) (x : A) → AllByRecursion P xs → P x
    → AllByRecursion P (xs ++ x ∷ [])
each_after P [] x all h = (h, tt)
each_after P (y ∷ ys) x all h = (all.0, each_after P ys x all.1 h)

pub each_before : {A : Type 0} (P : A → Type 0) (xs : List A) (x : A)
    → AllByRecursion P (xs ++ x ∷ []) → AllByRecursion P xs × P x
each_before P [] x all = (tt, all.0)
each_before P (y ∷ ys) x all = let h = each_before P ys x all.1 in ((all.0, h.0), h.1)

pub each_weaker : {A : Type 0} (P Q : A → Type 0) → ((x : A) → P x → Q x) → (xs : List A)
    → AllByRecursion P xs → AllByRecursion Q xs
each_weaker P Q f [] all = tt
each_weaker P Q f (x ∷ xs) all = (f x all.0, each_weaker P Q f xs all.1)

-- a word that isn't among those before it stays apart from them when it is appended
pub apart_after : (among : List (List ℕ) → List ℕ → Bool) (before ws : List (List ℕ)) (w : List ℕ)
    → are_apart among before ws ≡ true → among (before ++ ws) w ≡ false
    → are_apart among before (ws ++ w ∷ []) ≡ true
apart_after among before [] w h new =
    let here : among before w ≡ false =
    ap (λ (vs : List (List ℕ)). among vs w) (sym (append-nil before)) ∙ new in
    rw here refl
apart_after among before (v ∷ vs) w h new = elim (cases_Bool (not (among before v))) [
  | inl e ↦ rw e (apart_after among (before ++ v ∷ []) vs w (rw e at h)
      (ap (λ (us : List (List ℕ)). among us w) (append_assoc before (v ∷ []) vs) ∙ new))
  | inr e ↦ absurd (false≢true (rw e at h))
]

-- ---- the last element is changed

module _ {A : Type 0} (f : A → A) where
  pub length_changed : (xs : List A) → length (change_last f xs) ≡ length xs
  length_changed =
      by_last (λ ys. length (change_last f ys) ≡ length ys) (rw (change_none f) refl)
      (λ ys y. rw (change_after f ys y)
      (length-append ys (f y ∷ []) ∙ sym (length-append ys (y ∷ []))))

  -- a property of each element is preserved if the changed last element satisfies it
  pub each_changed : (P Q : A → Type 0) → ((x : A) → P x → Q x → P (f x)) → (xs : List A)
      → AllByRecursion P xs → IfSome (last_of xs) Q → AllByRecursion P (change_last f xs)
  each_changed P Q h =
      by_last (λ ys. AllByRecursion P ys → IfSome (last_of ys) Q
      → AllByRecursion P (change_last f ys))
      (λ all last. rw (change_none f) tt)
      (λ ys y all last. rw (change_after f ys y)
      (let parts = each_before P ys y all in
      each_after P ys (f y) parts.0 (h y parts.1 (rw (last_after ys y) at last))))

  pub all_changed : (p : A → Bool) → ((x : A) → p x ≡ true → p (f x) ≡ true) → (xs : List A)
      → list_all p xs ≡ true → list_all p (change_last f xs) ≡ true
  all_changed p h =
      by_last (λ ys. list_all p ys ≡ true → list_all p (change_last f ys) ≡ true)
      (λ all. rw (change_none f) refl)
      (λ ys y all. rw (change_after f ys y) (
      let parts : (list_all p ys && (p y && true)) ≡ true =
      rw (list_all-append p ys (y ∷ [])) at all in
      let front : list_all p ys ≡ true = left_true (list_all p ys) (p y && true) parts in
      let end : p (f y) ≡ true =
      h y (left_true (p y) true (right_true (list_all p ys) (p y && true) parts)) in
      rw (list_all-append p ys (f y ∷ []), front, end) refl
      ))

  pub last_changed : (Q R : A → Type 0) → ((x : A) → Q x → R (f x)) → (xs : List A)
      → IfSome (last_of xs) Q → IfSome (last_of (change_last f xs)) R
  last_changed Q R h =
      by_last (λ ys. IfSome (last_of ys) Q → IfSome (last_of (change_last f ys)) R)
      (λ last. rw (change_none f) tt)
      (λ ys y last. rw (change_after f ys y)
      (rw (last_after ys (f y)) (h y (rw (last_after ys y) at last))))

  -- changing the last element increases a sum by at most its own increase
  pub sum_changed : (g : A → ℕ) (n : ℕ) → ((x : A) → g (f x) ≤ g x + n) → (xs : List A)
      → sum_by g (change_last f xs) ≤ sum_by g xs + n
  sum_changed g n h =
      by_last (λ ys. sum_by g (change_last f ys) ≤ sum_by g ys + n)
      (rw (change_none f) (omega arith))
      (λ ys y. rw (change_after f ys y)
      (omega (arith, sum_by_push g ys (f y), sum_by_push g ys y, h y)))

  -- mapping by a function that the change preserves gives the same list
  pub map_changed : {B : Type 0} (v : A → B) → ((x : A) → v (f x) ≡ v x) → (xs : List A)
      → map v (change_last f xs) ≡ map v xs
  map_changed v h =
      by_last (λ ys. map v (change_last f ys) ≡ map v ys) (rw (change_none f) refl)
      (λ ys y. rw (change_after f ys y)
      (map-append v ys (f y ∷ []) ∙ ap (λ b. map v ys ++ b ∷ []) (h y)
      ∙ sym (map-append v ys (y ∷ []))))

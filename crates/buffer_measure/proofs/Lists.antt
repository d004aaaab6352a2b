-- Lists by their places, and two lists side by side.
use Rattle.std.proofs.Common.{◌≡◌, ℕ, suc, ◌+◌, ◌<◌, ◌==◌, Bool, true, false, ◌||◌, cond, List, [], ◌∷◌, ◌++◌, length, map, get_or, Option, Some, None, refl, sym, ap, subst, ◌∙◌, arith, zero-add, length-append}
use Rattle.std.specs.Prelude.{All, count_by, nat_lt, slice_get}
use Rattle.std.specs.List.{AllByRecursion, AllZip, list_any, position, position_or_len, zip}
use Rattle.std.specs.Option.{option_map}
use Rattle.std.proofs.lemmas.Bool.{cond-true, eqb-true, lt-ltb, ne_eqb}
use Rattle.std.proofs.lemmas.List.{get_or_append_left, map-append, map-id}
use Rattle.std.proofs.lemmas.List.Quantifiers.{position-Some}
use Rattle.std.proofs.lemmas.List.Sums.{position_or_len_is}
use Rattle.std.proofs.lemmas.Option.{get_or_from_slice_get, none-some, same_Some, slice_get-get_or, slice_get-map, slice_get_within}
use Rattle.report_text.proofs.about_growing.Others.{bit, count_by-cons}

-- ---- places

-- a search that succeeds finds the same place in a longer list
pub position_longer : {A : Type 0} (p : A → Bool) (xs ys : List A) (k : ℕ) (d : A)
    → position p xs ≡ Some k → position p (xs ++ ys) ≡ Some k
position_longer p xs ys k d h =
    let w = position-Some p xs k d h in
    let within : k < length (xs ++ ys) = omega (arith, w.0, length-append xs ys) in
    let is : position_or_len p (xs ++ ys) ≡ k =
    position_or_len_is p (xs ++ ys) k d (omega (arith, within))
    (λ j below. ap p (get_or_append_left xs ys d j (omega (arith, below, w.0))) ∙ w.2 j below)
    (λ _. ap p (get_or_append_left xs ys d k w.0) ∙ w.1) in
    ap (λ (n : ℕ). cond (nat_lt n (length (xs ++ ys))) (Some n) None) is
    ∙ cond-true (nat_lt k (length (xs ++ ys))) (Some k) None
    (lt-ltb k (length (xs ++ ys)) within)

-- an element of a mapped list comes from the element at the same place
mapped_from : {A B : Type 0} (f : A → B) (o : Option A) (y : B) → option_map f o ≡ Some y
    → (x : A) × ((o ≡ Some x) × (f x ≡ y))
mapped_from f None y e = absurd (none-some y e)
mapped_from f (Some x) y e = (x, (refl, same_Some (f x) y e))

pub mapped_at : {A B : Type 0} (f : A → B) (xs : List A) (k : ℕ) (y : B)
    → slice_get (map f xs) k ≡ Some y → (x : A) × ((slice_get xs k ≡ Some x) × (f x ≡ y))
mapped_at f xs k y e = mapped_from f (slice_get xs k) y (sym (slice_get-map f xs k) ∙ e)

-- the image of an element is at the same place of the mapped list
pub mapped : {A B : Type 0} (f : A → B) (xs : List A) (k : ℕ) (x : A) → slice_get xs k ≡ Some x
    → slice_get (map f xs) k ≡ Some (f x)
mapped f xs k x e = slice_get-map f xs k ∙ ap (option_map f) e

-- one more element at the end of two lists whose images are the same
pub mapped_alike : {A B C : Type 0} (f : A → C) (g : B → C) (xs more : List A) (ys : List B)
    (x : A) (y : B) → more ≡ xs ++ x ∷ [] → map f xs ≡ map g ys → f x ≡ g y
    → map f more ≡ map g (ys ++ y ∷ [])
mapped_alike f g xs more ys x y pushed alike same =
    ap (map f) pushed ∙ map-append f xs (x ∷ [])
    ∙ (λ i. alike i ++ same i ∷ []) ∙ sym (map-append g ys (y ∷ []))

-- the image of one more element is at the end
pub mapped_more : {A B : Type 0} (f : A → B) (out more : List B) (xs : List A) (x : A)
    → more ≡ out ++ f x ∷ [] → out ≡ map f xs → more ≡ map f (xs ++ x ∷ [])
mapped_more {A} {B} f out more xs x pushed so_far =
    pushed ∙ ap (λ (l : List B). l ++ f x ∷ []) so_far ∙ sym (map-append f xs (x ∷ []))

-- a property of the element at each place holds of all
pub all_by_get : {A : Type 0} (P : A → Type 0) (xs : List A)
    → ((k : ℕ) (x : A) → slice_get xs k ≡ Some x → P x) → All P xs
all_by_get P xs each = λ k d below. each k (get_or xs k d) (slice_get-get_or xs k d below)

pub all_at : {A : Type 0} (P : A → Type 0) (xs : List A) (k : ℕ) (x : A) → All P xs
    → slice_get xs k ≡ Some x → P x
all_at P xs k x all e =
    subst P (get_or_from_slice_get xs k x x e) (all k x (slice_get_within xs k x e))

-- ---- two lists side by side

pub zip_push : {A B : Type 0} (R : A → B → Type 0) (xs : List A) (ys : List B) (x : A) (y : B)
    → AllZip R xs ys → R x y → AllZip R (xs ++ x ∷ []) (ys ++ y ∷ [])
zip_push R [] [] x y all h = (h, tt)
zip_push R [] (b ∷ ys) x y all h = absurd all
zip_push R (a ∷ xs) [] x y all h = absurd all
zip_push R (a ∷ xs) (b ∷ ys) x y all h = (all.0, zip_push R xs ys x y all.1 h)

pub zip_weaker : {A B : Type 0} (R S : A → B → Type 0) → ((x : A) (y : B) → R x y → S x y)
    → (xs : List A) (ys : List B) → AllZip R xs ys → AllZip S xs ys
zip_weaker R S f [] [] all = tt
zip_weaker R S f [] (b ∷ ys) all = absurd all
zip_weaker R S f (a ∷ xs) [] all = absurd all
zip_weaker R S f (a ∷ xs) (b ∷ ys) all = (f a b all.0, zip_weaker R S f xs ys all.1)

-- the first parts of pairs that are two lists of the same length side by side
pub firsts : {A B : Type 0} (xs : List A) (ys : List B) (ps : List (A × B))
    → length xs ≡ length ys → map (λ (p : A × B). (p.0, p.1)) ps ≡ zip xs ys
    → map (λ (p : A × B). p.0) ps ≡ xs
firsts {A} {B} xs ys ps even are =
    ap (map (λ (p : A × B). p.0)) (sym (map-id ps) ∙ are) ∙ of xs ys even
  where
    of : (xs : List A) (ys : List B) → length xs ≡ length ys
        → map (λ (p : A × B). p.0) (zip xs ys) ≡ xs
    of [] ys even = refl
    of (x ∷ xs) [] even = absurd (omega (arith, even))
    of (x ∷ xs) (y ∷ ys) even = ap (λ (l : List A). x ∷ l) (of xs ys (omega (arith, even)))

-- their second parts
pub seconds : {A B : Type 0} (xs : List A) (ys : List B) (ps : List (A × B))
    → length xs ≡ length ys → map (λ (p : A × B). (p.0, p.1)) ps ≡ zip xs ys
    → map (λ (p : A × B). p.1) ps ≡ ys
seconds {A} {B} xs ys ps even are =
    ap (map (λ (p : A × B). p.1)) (sym (map-id ps) ∙ are) ∙ of xs ys even
  where
    of : (xs : List A) (ys : List B) → length xs ≡ length ys
        → map (λ (p : A × B). p.1) (zip xs ys) ≡ ys
    of [] [] even = refl
    of [] (y ∷ ys) even = absurd (omega (arith, even))
    of (x ∷ xs) [] even = absurd (omega (arith, even))
    of (x ∷ xs) (y ∷ ys) even = ap (λ (l : List B). y ∷ l) (of xs ys (omega (arith, even)))

-- lists of the same length, with related elements at each place
pub zip_by_get : {A B : Type 0} (R : A → B → Type 0) (xs : List A) (ys : List B)
    → length xs ≡ length ys
    → ((k : ℕ) (x : A) (y : B) → slice_get xs k ≡ Some x → slice_get ys k ≡ Some y → R x y)
    → AllZip R xs ys
zip_by_get R [] [] even each = tt
zip_by_get R [] (y ∷ ys) even each = absurd (omega (arith, even))
zip_by_get R (x ∷ xs) [] even each = absurd (omega (arith, even))
zip_by_get R (x ∷ xs) (y ∷ ys) even each =
    (each 0 x y refl refl, zip_by_get R xs ys (omega (arith, even)) (λ k. each (suc k)))

-- a property of the element at each place holds of each
pub each_by_get : {A : Type 0} (P : A → Type 0) (xs : List A)
    → ((k : ℕ) (x : A) → slice_get xs k ≡ Some x → P x) → AllByRecursion P xs
each_by_get P [] each = tt
each_by_get P (x ∷ xs) each = (each 0 x refl, each_by_get P xs (λ k. each (suc k)))

-- a property of each element of two lists holds of each of both
pub each_join : {A : Type 0} (P : A → Type 0) (xs ys : List A) → AllByRecursion P xs
    → AllByRecursion P ys → AllByRecursion P (xs ++ ys)
each_join P [] ys a b = b
each_join P (x ∷ xs) ys a b = (a.0, each_join P xs ys a.1 b)

pub each_left : {A : Type 0} (P : A → Type 0) (xs ys : List A) → AllByRecursion P (xs ++ ys)
    → AllByRecursion P xs
each_left P [] ys all = tt
each_left P (x ∷ xs) ys all = (all.0, each_left P xs ys all.1)

pub each_right : {A : Type 0} (P : A → Type 0) (xs ys : List A) → AllByRecursion P (xs ++ ys)
    → AllByRecursion P ys
each_right P [] ys all = all
each_right P (x ∷ xs) ys all = each_right P xs ys all.1

pub each_both : {A : Type 0} (P Q R : A → Type 0) → ((x : A) → P x → Q x → R x) → (xs : List A)
    → AllByRecursion P xs → AllByRecursion Q xs → AllByRecursion R xs
each_both P Q R f [] a b = tt
each_both P Q R f (x ∷ xs) a b = (f x a.0 b.0, each_both P Q R f xs a.1 b.1)

-- ---- rising numbers

-- each number is below all later ones
abbrev pub Rising : List ℕ → Type 0
Rising [] = Unit {0}
Rising (n ∷ ns) = AllByRecursion (λ m. n < m) ns × Rising ns

-- numbers above k are not k
pub none_above : (k : ℕ) (ns : List ℕ) → AllByRecursion (λ m. k < m) ns
    → count_by (λ m. m == k) ns ≡ 0
none_above k [] h = refl
none_above k (n ∷ ns) h =
    let above : k < n = h.0 in
    let other : (n == k) ≡ false = ne_eqb n k (λ e. absurd (omega (arith, e, above))) in
    count_by-cons (λ m. m == k) n ns
    ∙ (λ i. bit (other i) + none_above k ns h.1 i)

-- a rising list has each number at most once
pub once_in : (k : ℕ) (ns : List ℕ) → Rising ns
    → count_by (λ m. m == k) ns ≡ bit (list_any (λ m. m == k) ns)
once_in k [] h = refl
once_in k (n ∷ ns) h =
    count_by-cons (λ m. m == k) n ns ∙ at (once_in k ns h.1) (n == k) refl
  where
    at : count_by (λ m. m == k) ns ≡ bit (list_any (λ m. m == k) ns) → (b : Bool) → (n == k) ≡ b
        → bit (n == k) + count_by (λ m. m == k) ns ≡ bit ((n == k) || list_any (λ m. m == k) ns)
    at ih true e =
        let is : n ≡ k = eqb-true n k e in
        let none : count_by (λ m. m == k) ns ≡ 0 =
        none_above k ns (subst (λ (j : ℕ). AllByRecursion (λ m. j < m) ns) is h.0) in
        (λ i. bit (e i) + none i)
        ∙ sym (ap (λ (b : Bool). bit (b || list_any (λ m. m == k) ns)) e)
    at ih false e =
        (λ i. bit (e i) + ih i) ∙ zero-add (bit (list_any (λ m. m == k) ns))
        ∙ sym (ap (λ (b : Bool). bit (b || list_any (λ m. m == k) ns)) e)

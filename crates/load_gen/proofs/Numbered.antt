-- Paths and bytes by their numbers, which are few enough to test each.
use Rattle.std.proofs.Common.{◌≡◌, ℕ, zero, suc, ◌+◌, ◌<◌, ◌≤◌, ◌==◌, Bool, true, false, ◌&&◌, List, [], ◌∷◌, ◌++◌, length, Option, Some, None, is_some, refl, sym, ap, ◌∙◌, inl, inr, arith, add-one, length-append}
use Rattle.std.specs.Prelude.{codes}
use Rattle.std.specs.Cmp.Lexicographic.{bytes_decides}
use Rattle.std.specs.Fmt.{decimal, digits}
use Rattle.std.specs.Str.{bytes_eq}
use Rattle.std.proofs.lemmas.Bool.{cases_Bool, cases_lt, eqb-true, false≢true}
use Rattle.hex.specs.Hex.{encode_lower, encode_with}
use Rattle.text_forms.specs.Paths.{is_path}
use Rattle.script_words.specs.Forms.{small_of}
use Rattle.script_words.specs.Value.{end_byte}
use Rattle.script_text.specs.Places.{one_on, place_in}
use Rattle.script_text.proofs.Holding.{left_true, right_true}
use Rattle.script_spelling.proofs.PathsAgain.{place_first}
use Rattle.script_spelling.proofs.Words.{small_back}

-- ---- tests of all numbers below a bound

-- whether the test holds of each number below n
abbrev pub all_below : (ℕ → Bool) → ℕ → Bool
all_below p zero = true
all_below p (suc n) = p n && all_below p n

-- a test that holds of all numbers below n holds of one of them
pub below_at : (p : ℕ → Bool) (n k : ℕ) → all_below p n ≡ true → k < n → p k ≡ true
below_at p zero k h lt = absurd (omega (arith, lt))
below_at p (suc n) k h lt = elim (cases_lt k n) [
  | inl below ↦ below_at p n k (right_true (p n) (all_below p n) h) below
  | inr top ↦
      let e : k ≡ n = omega (arith, lt, top) in
      ap (λ (m : ℕ). p m) e ∙ left_true (p n) (all_below p n) h
]

abbrev is_it : Option ℕ → ℕ → Bool
is_it None n = false
is_it (Some m) n = m == n

-- an option that passes `is_it` has the number in it
it_is : (o : Option ℕ) (n : ℕ) → is_it o n ≡ true → o ≡ Some n
it_is None n h = absurd (false≢true h)
it_is (Some m) n h = ap (λ (k : ℕ). Some k) (eqb-true m n h)

-- ---- bytes

-- the end of a `fill`: a colon and the two digits of the byte
abbrev pub fill_end : ℕ → List ℕ
fill_end b = 58 ∷ encode_lower (b ∷ [])

ends_tested : all_below (λ b. is_it (end_byte (fill_end b)) b) 64 ≡ true
unfolding encode_with
ends_tested = refl

-- the digits of a byte are read as the byte
pub end_back : (b : ℕ) → b < 64 → end_byte (fill_end b) ≡ Some b
end_back b lt =
    it_is (end_byte (fill_end b)) b
    (below_at (λ k. is_it (end_byte (fill_end k)) k) 64 b ends_tested lt)

-- ---- paths

-- the path of the file with this number
abbrev pub path_of : ℕ → List ℕ
path_of i = codes "/f" ++ decimal i

paths_tested : all_below (λ i. is_path (path_of i)) 64 ≡ true
unfolding digits
paths_tested = refl

pub path_is : (i : ℕ) → i < 64 → is_path (path_of i) ≡ true
path_is i lt = below_at (λ k. is_path (path_of k)) 64 i paths_tested lt

-- files with equal paths have equal numbers
same_file : (i j : ℕ) → i < 64 → j < 64 → path_of i ≡ path_of j → i ≡ j
same_file i j li lj h =
    let digits : decimal i ≡ decimal j = cc h in
    let read : Some i ≡ Some j =
    sym (small_back i li) ∙ ap (λ (t : List ℕ). small_of t) digits ∙ small_back j lj in
    cc read

-- the paths of the first n files
abbrev pub paths_to : ℕ → List (List ℕ)
paths_to zero = []
paths_to (suc n) = paths_to n ++ path_of n ∷ []

pub length_paths : (n : ℕ) → length (paths_to n) ≡ n
length_paths zero = refl
length_paths (suc n) =
    let rest = length_paths n in
    omega (arith, rest, length-append (paths_to n) (path_of n ∷ []))

pub paths_more : (n : ℕ) → paths_to n ++ path_of n ∷ [] ≡ paths_to (n + 1)
paths_more n = rw add-one refl

on_none : (o : Option ℕ) → one_on o ≡ None → o ≡ None
on_none None h = refl
on_none (Some n) h = absurd (cc h)

-- a path that is neither among the paths nor the one after them isn't found
place_none : (ps : List (List ℕ)) (p w : List ℕ) → place_in ps w ≡ None → bytes_eq w p ≡ false
    → place_in (ps ++ p ∷ []) w ≡ None
place_none [] p w h e = rw e refl
place_none (q ∷ qs) p w h e = elim (cases_Bool (bytes_eq w q)) [
  | inl same ↦ let no : Some 0 ≡ None = rw same at h in absurd (cc no)
  | inr other ↦
      let rest : one_on (place_in qs w) ≡ None = rw other at h in
      rw (other, place_none qs p w (on_none (place_in qs w) rest) e) refl
]

-- a path that is found among some paths is found at the same place among more
on_found : (o r : Option ℕ) (k : ℕ) → one_on o ≡ Some k → ((j : ℕ) → o ≡ Some j → r ≡ Some j)
    → one_on r ≡ Some k
on_found None r k h more = absurd (cc h)
on_found (Some j) r k h more = ap (λ (a : Option ℕ). one_on a) (more j refl) ∙ h

place_found : (ps rest : List (List ℕ)) (w : List ℕ) (k : ℕ) → place_in ps w ≡ Some k
    → place_in (ps ++ rest) w ≡ Some k
place_found [] rest w k h = absurd (cc h)
place_found (q ∷ qs) rest w k h = elim (cases_Bool (bytes_eq w q)) [
  | inl same ↦ let here : Some 0 ≡ Some k = rw same at h in rw same here
  | inr other ↦
      let on : one_on (place_in qs w) ≡ Some k = rw other at h in
      rw other (on_found (place_in qs w) (place_in (qs ++ rest) w) k on
      (λ j e. place_found qs rest w j e))
]

apart : (k n : ℕ) → n < k → k < 64 → bytes_eq (path_of k) (path_of n) ≡ false
apart k n lt fits = elim (cases_Bool (bytes_eq (path_of k) (path_of n))) [
  | inl e ↦
      let same = same_file k n fits (omega (arith, lt, fits))
      ((bytes_decides (path_of k) (path_of n)).0 e) in
      absurd (omega (arith, same, lt))
  | inr e ↦ e
]

-- the path of a later file is not among those of the earlier ones
pub new_path : (n k : ℕ) → n ≤ k → k < 64 → place_in (paths_to n) (path_of k) ≡ None
new_path zero k le lt = refl
new_path (suc n) k le lt =
    place_none (paths_to n) (path_of n) (path_of k) (new_path n k (omega (arith, le)) lt)
    (apart k n (omega (arith, le)) lt)

-- the path of a file is found at the file's number
pub found_path : (n k : ℕ) → k < n → n ≤ 64 → place_in (paths_to n) (path_of k) ≡ Some k
found_path zero k lt few = absurd (omega (arith, lt))
found_path (suc n) k lt few = elim (cases_lt k n) [
  | inl below ↦
      place_found (paths_to n) (path_of n ∷ []) (path_of k) k
      (found_path n k below (omega (arith, few)))
  | inr top ↦
      let e : k ≡ n = omega (arith, lt, top) in
      let new = new_path n n (omega arith) (omega (arith, few)) in
      ap (λ (m : ℕ). place_in (paths_to n ++ path_of n ∷ []) (path_of m)) e
      ∙ place_first (paths_to n) [] (path_of n) (ap (λ (o : Option ℕ). is_some o) new)
      ∙ ap (λ (m : ℕ). Some m) (length_paths n ∙ sym e)
]

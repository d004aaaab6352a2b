-- Lemmas about bytes in pieces.
use Rattle.std.proofs.Common.{◌≡◌, ℕ, zero, suc, ◌+◌, ◌-◌, ◌<◌, ◌≤◌, List, [], ◌∷◌, ◌++◌, length, take, drop, get_or, refl, ap, sym, ◌∙◌, subst, arith, append_assoc, take-append-drop, length-take-le, length-append}
use Rattle.std.specs.List.{flat_map}
use Rattle.std.proofs.KnownBytes.{Appends-trans}
use Rattle.std.proofs.Common.{Option}
use Rattle.std.proofs.Math.Seq.{take-append_seam}
use Rattle.std.proofs.lemmas.List.{drop-drop, take_rest}
use Rattle.std.specs.Io.KnownBytes.{Appends}
use Rattle.ima_io.specs.Bytes.{TookPart}

-- the buffer begins with the bytes that a read copied to it
pub front_given : (xs buf front : List ℕ) (g n : ℕ) → front ≡ take n (drop g xs)
    → n ≤ length (drop g xs)
    → drop g xs ≡ take n (front ++ drop n buf) ++ drop (g + n) xs
front_given xs buf front g n e h =
    let long : length front ≡ n = ap length e ∙ length-take-le n (drop g xs) h in
    let begins : take n (front ++ drop n buf) ≡ front =
    ap (λ k. take k (front ++ drop n buf)) (sym long) ∙ take-append_seam front (drop n buf) in
    sym (ap (λ ys. ys ++ drop (g + n) xs) (begins ∙ e)
    ∙ ap (λ ys. take n (drop g xs) ++ ys) (sym (drop-drop n g xs))
    ∙ take-append-drop n (drop g xs))

-- the length of a list followed by a prefix of another
pub length-append-take : (xs ys : List ℕ) (n : ℕ) → n ≤ length ys
    → length (xs ++ take n ys) ≡ length xs + n
length-append-take xs ys n h = length-append xs (take n ys)
    ∙ ap (λ k. length xs + k) (length-take-le n ys h)

-- the parts before and after are still the whole, after a prefix of the second part is moved to the
-- first
pub moves_front : (all done rest : List ℕ) (n : ℕ) → all ≡ done ++ rest
    → all ≡ (done ++ take n rest) ++ take (length rest - n) (drop n rest)
moves_front all done rest n e =
    e ∙ ap (λ ys. done ++ ys) (sym (take-append-drop n rest))
    ∙ sym (append_assoc done (take n rest) (drop n rest))
    ∙ ap (λ ys. (done ++ take n rest) ++ ys) (sym (take_rest rest n))

-- if a rest of the piece is left, only a part of the piece was taken
pub TookPart-of_rest : (a b : Option (List ℕ)) (piece done rest : List ℕ) → piece ≡ done ++ rest
    → 0 < length rest → Appends a b done
    → TookPart a b piece
TookPart-of_rest a b piece done rest e more taken = (
  length done,
  omega (arith, ap length e, length-append done rest),
  subst (Appends a b) (sym (ap (take (length done)) e ∙ take-append_seam done rest)) taken,
)

-- a prefix of two parts that ends within the first
take_within : (xs ys : List ℕ) (n : ℕ) → n ≤ length xs → take n (xs ++ ys) ≡ take n xs
take_within xs ys zero h = refl
take_within [] ys (suc n) h = absurd (omega (arith, h))
take_within (x ∷ xs) ys (suc n) h = ap (λ l. x ∷ l) (take_within xs ys n (omega (arith, h)))

-- a prefix of two parts that ends after the first
take_past : (xs ys : List ℕ) (n m : ℕ) → m ≡ length xs + n → take m (xs ++ ys) ≡ xs ++ take n ys
take_past [] ys n m e = let same : m ≡ n = omega (arith, e) in rw same refl
take_past (x ∷ xs) ys n zero e = absurd (omega (arith, e))
take_past (x ∷ xs) ys n (suc m) e = ap (λ l. x ∷ l) (take_past xs ys n m (omega (arith, e)))

-- the bytes of all elements are those before an index, those at the index and those after it
pub flat_at : {X : Type 0} (f : X → List ℕ) (xs : List X) (i : ℕ) (x : X) → i < length xs
    → x ≡ get_or xs i x
    → flat_map f xs ≡ flat_map f (take i xs) ++ (f x ++ flat_map f (drop (suc i) xs))
flat_at f [] i x h e = absurd (omega (arith, h))
flat_at f (y ∷ ys) zero x h e = ap (λ z. f z ++ flat_map f ys) (sym e)
flat_at f (y ∷ ys) (suc i) x h e =
    ap (λ l. f y ++ l) (flat_at f ys i x (omega (arith, h)) e)
    ∙ sym (append_assoc (f y) (flat_map f (take i ys)) (f x ++ flat_map f (drop (suc i) ys)))

-- if whole parts were taken and then a part of the next, a part of all the bytes was taken
pub TookPart-after : (a b d : Option (List ℕ)) (all done piece rest : List ℕ)
    → all ≡ done ++ (piece ++ rest) → Appends a b done → TookPart b d piece → TookPart a d all
TookPart-after a b d all done piece rest e taken part =
    let n = part.0 in
    let front : take (length done + n) all ≡ done ++ take n piece =
    ap (take (length done + n)) e ∙ take_past done (piece ++ rest) n _ refl
    ∙ ap (λ l. done ++ l) (take_within piece rest n (omega (arith, part.1))) in (
      length done + n,
      omega (
        arith,
        ap length e,
        length-append done (piece ++ rest),
        length-append piece rest,
        part.1,
      ),
      subst (Appends a d) (sym front) (Appends-trans a b d done (take n piece) taken part.2),
    )

-- Counting the files that are held.
use Rattle.std.proofs.Common.{◌≡◌, ℕ, ◌+◌, ◌<◌, Bool, true, false, List, [], ◌∷◌, Option, Some, refl, sym, ◌∙◌, ap, subst, cond, arith}
use Rattle.std.specs.Prelude.{◌==◌}
use Rattle.std.proofs.lemmas.Bool.{cond-false, eqb-true, eq-eqb}
use Rattle.inode_events.specs.Files.{tally, find_file, less_file, holds}
use Rattle.inode_events.specs.declared.deed.How.{How}

-- 1 if the test holds, else 0
abbrev one_if : Bool → ℕ
one_if b = cond b 1 0

-- a held file that passes the test is counted
pub tally_held : (test : How → Bool) (file : ℕ) (hs : List (ℕ × How))
    → holds test (find_file file hs) ≡ true → 0 < tally test hs
tally_held test file [] h = cc
tally_held test file (x ∷ xs) h = held_at (tally_held test file xs) (x.0 == file) refl h where
  held_at : (holds test (find_file file xs) ≡ true → 0 < tally test xs) → (b : Bool)
      → (x.0 == file) ≡ b → holds test (cond b (Some x.1) (find_file file xs)) ≡ true
      → 0 < one_if (test x.1) + tally test xs
  held_at ih true e g = rw g (omega arith)
  held_at ih false e g = let t : 0 < tally test xs = ih g in omega arith

-- two held files that pass the test are counted as at least two
pub tally_two : (test : How → Bool) (f g : ℕ) (hs : List (ℕ × How)) → (f == g) ≡ false
    → holds test (find_file f hs) ≡ true → holds test (find_file g hs) ≡ true → 1 < tally test hs
tally_two test f g [] n hf hg = cc
tally_two test f g (x ∷ xs) n hf hg =
    two_at (tally_two test f g xs n) (x.0 == f) refl (x.0 == g) refl hf hg where
      two_at : (holds test (find_file f xs) ≡ true → holds test (find_file g xs) ≡ true
          → 1 < tally test xs) → (b : Bool) → (x.0 == f) ≡ b → (c : Bool) → (x.0 == g) ≡ c
          → holds test (cond b (Some x.1) (find_file f xs)) ≡ true
          → holds test (cond c (Some x.1) (find_file g xs)) ≡ true
          → 1 < one_if (test x.1) + tally test xs
      two_at ih true e true e' p q =
          let s : f ≡ g = sym (eqb-true x.0 f e) ∙ eqb-true x.0 g e' in cc (eq-eqb f g s)
      two_at ih true e false e' p q =
          let t : 0 < tally test xs = tally_held test g xs q in rw p (omega arith)
      two_at ih false e true e' p q =
          let t : 0 < tally test xs = tally_held test f xs p in rw q (omega arith)
      two_at ih false e false e' p q = let t : 1 < tally test xs = ih p q in omega arith

-- dropping a file subtracts what the file counted as
pub tally-less : (test : How → Bool) (file : ℕ) (hs : List (ℕ × How))
    → tally test (less_file file hs) + one_if (holds test (find_file file hs)) ≡ tally test hs
tally-less test file [] = refl
tally-less test file (x ∷ xs) = less_at (tally-less test file xs) (x.0 == file) where
  less_at : tally test (less_file file xs) + one_if (holds test (find_file file xs)) ≡ tally test xs
      → (b : Bool)
      → tally test (cond b xs (x ∷ less_file file xs)) + one_if
      (holds test (cond b (Some x.1) (find_file file xs))) ≡ one_if (test x.1) + tally test xs
  less_at ih true = omega arith
  less_at ih false = omega arith

-- dropping a file leaves how another is held
pub find-less : (f g : ℕ) (hs : List (ℕ × How)) → (f == g) ≡ false
    → find_file g (less_file f hs) ≡ find_file g hs
find-less f g [] n = refl
find-less f g (x ∷ xs) n = less_at (find-less f g xs n) (x.0 == f) refl where
  less_at : find_file g (less_file f xs) ≡ find_file g xs → (b : Bool) → (x.0 == f) ≡ b
      → find_file g (cond b xs (x ∷ less_file f xs)) ≡ find_file g (x ∷ xs)
  less_at ih true e =
      sym (cond-false _ (Some x.1) _
      (subst (λ (n : ℕ). (n == g) ≡ false) (sym (eqb-true x.0 f e)) n))
  less_at ih false e = ap (λ (r : Option How). cond (x.0 == g) (Some x.1) r) ih

-- The lines of a section are read one block after another.
use Rattle.std.proofs.Common.{◌≡◌, ℕ, suc, ◌+◌, List, [], ◌∷◌, ◌++◌, length, Some, refl, sym, ap, ◌∙◌, append_assoc, arith}
use Rattle.std.proofs.lemmas.List.{append-nil}
use Rattle.report_text.specs.Words.{Line}
use Rattle.report_draft.specs.Draft.{Draft}
use Rattle.report_read.proofs.Fold.{end_of, end_of-append, fold, fold-append, step}

pub fold_one : (begin : ℕ) (d t : Draft) (ws : Line) → step begin d ws ≡ Some t
    → fold begin d (ws ∷ []) ≡ Some t
fold_one begin d t ws h = rw h refl

pub length_push : {X : Type 0} (xs : List X) (x : X) → length (xs ++ x ∷ []) ≡ length xs + 1
length_push [] x = refl
length_push (y ∷ xs) x = let more = length_push xs x in omega (arith, more)

module _ {X : Type 0} (f : ℕ → X → List Line) where
  -- the blocks of things that are numbered
  abbrev pub blocks : ℕ → List X → List Line
  blocks n [] = []
  blocks n (x ∷ xs) = f n x ++ blocks (n + 1) xs

  blocks-append : (xs ys : List X) (n : ℕ)
      → blocks n (xs ++ ys) ≡ blocks n xs ++ blocks (n + length xs) ys
  blocks-append [] ys n = ap (λ (k : ℕ). blocks k ys) (omega arith)
  blocks-append (x ∷ xs) ys n =
      ap (λ (ls : List Line). f n x ++ ls) (blocks-append xs ys (n + 1))
      ∙ (sym (append_assoc (f n x) (blocks (n + 1) xs) (blocks ((n + 1) + length xs) ys))
      ∙ ap (λ (k : ℕ). (f n x ++ blocks (n + 1) xs) ++ blocks k ys) (omega arith))

  pub blocks_push : (xs : List X) (x : X)
      → blocks 0 (xs ++ x ∷ []) ≡ blocks 0 xs ++ f (length xs) x
  blocks_push xs x =
      blocks-append xs (x ∷ []) 0
      ∙ (ap (λ (ls : List Line). blocks 0 xs ++ ls) (append-nil (f (0 + length xs) x))
      ∙ ap (λ (k : ℕ). blocks 0 xs ++ f k x) (omega arith))

  -- each of the things may come after those before it
  abbrev pub AllGood : (List X → X → Type 0) → List X → List X → Type 0
  AllGood Good done [] = Unit {0}
  AllGood Good done (x ∷ left) = Good done x × AllGood Good (done ++ x ∷ []) left

  -- a draft goes through a section, if it goes through the block of each thing
  pub chain : (Good : List X → X → Type 0) (begin : ℕ) (D : List X → List X → Draft)
      → ((done : List X) (x : X) (left : List X) → Good done x
      → fold (end_of begin (blocks 0 done)) (D done (x ∷ left)) (f (length done) x)
      ≡ Some (D (done ++ x ∷ []) left))
      → (left done : List X) → AllGood Good done left
      → fold (end_of begin (blocks 0 done)) (D done left) (blocks (length done) left)
      ≡ Some (D (done ++ left) [])
  chain Good begin D each [] done good =
      ap (λ (xs : List X). Some (D xs [])) (sym (append-nil done))
  chain Good begin D each (x ∷ left) done good =
      let here : ℕ = end_of begin (blocks 0 done) in
      let there : end_of here (f (length done) x) ≡ end_of begin (blocks 0 (done ++ x ∷ []))
      = sym (ap (end_of begin) (blocks_push done x)
      ∙ end_of-append (blocks 0 done) (f (length done) x) begin) in
      fold-append (f (length done) x) (blocks (length done + 1) left) here (D done (x ∷ left))
      (D (done ++ x ∷ []) left) (each done x left good.0)
      ∙ (ap (λ (n : ℕ). fold n (D (done ++ x ∷ []) left) (blocks (length done + 1) left)) there
      ∙ (ap (λ (k : ℕ). fold (end_of begin (blocks 0 (done ++ x ∷ []))) (D (done ++ x ∷ []) left)
      (blocks k left)) (sym (length_push done x))
      ∙ (chain Good begin D each left (done ++ x ∷ []) good.1
      ∙ ap (λ (xs : List X). Some (D xs [])) (append_assoc done (x ∷ []) left))))

  -- a draft goes through a whole section
  pub chain_whole : (Good : List X → X → Type 0) (begin : ℕ) (D : List X → List X → Draft)
      → ((done : List X) (x : X) (left : List X) → Good done x
      → fold (end_of begin (blocks 0 done)) (D done (x ∷ left)) (f (length done) x)
      ≡ Some (D (done ++ x ∷ []) left))
      → (xs : List X) → AllGood Good [] xs
      → fold begin (D [] xs) (blocks 0 xs) ≡ Some (D xs [])
  chain_whole Good begin D each xs good = chain Good begin D each xs [] good

  -- what is read of each block, which may depend on where it begins
  module _ {Y : Type 0} (h : ℕ → X → ℕ → Y) where
    abbrev pub values : ℕ → ℕ → List X → List Y
    values begin n [] = []
    values begin n (x ∷ xs) = h n x begin ∷ values (end_of begin (f n x)) (n + 1) xs

    pub length-values : (begin n : ℕ) (xs : List X) → length (values begin n xs) ≡ length xs
    length-values begin n [] = refl
    length-values begin n (x ∷ xs) =
        ap (λ (k : ℕ). suc k) (length-values (end_of begin (f n x)) (n + 1) xs)

    values-append : (xs ys : List X) (begin n : ℕ)
        → values begin n (xs ++ ys)
        ≡ values begin n xs ++ values (end_of begin (blocks n xs)) (n + length xs) ys
    values-append [] ys begin n = ap (λ (k : ℕ). values begin k ys) (omega arith)
    values-append (x ∷ xs) ys begin n =
        ap (λ (vs : List Y). h n x begin ∷ vs)
        (values-append xs ys (end_of begin (f n x)) (n + 1)
        ∙ (ap
        (λ (b : ℕ). values (end_of begin (f n x)) (n + 1) xs
        ++ values b ((n + 1) + length xs) ys)
        (sym (end_of-append (f n x) (blocks (n + 1) xs) begin))
        ∙ ap (λ (k : ℕ). values (end_of begin (f n x)) (n + 1) xs
        ++ values (end_of begin (f n x ++ blocks (n + 1) xs)) k ys) (omega arith)))

    pub values_push : (begin : ℕ) (xs : List X) (x : X)
        → values begin 0 (xs ++ x ∷ [])
        ≡ values begin 0 xs ++ h (length xs) x (end_of begin (blocks 0 xs)) ∷ []
    values_push begin xs x =
        values-append xs (x ∷ []) begin 0
        ∙ ap (λ (k : ℕ). values begin 0 xs ++ h k x (end_of begin (blocks 0 xs)) ∷ []) (omega arith)

-- Iterating over a list, as a loop does that reads a text line by line.
use Rattle.std.proofs.Common.{◌≡◌, ℕ, suc, ◌+◌, ◌<◌, ◌≤◌, List, [], ◌∷◌, length, get_or, drop, Result, Ok, Err, refl, sym, ap, ◌∙◌, add-one, arith}
use Rattle.std.specs.List.{enumerate_from}
use Rattle.std.proofs.lemmas.List.FromFn.{length-enumerate_from, get_or-enumerate_from}
use Rattle.std.proofs.Math.ListN.{drop_of_length-le}
use Rattle.std.proofs.Math.Seq.{drop-cons}
use Rattle.text_forms.specs.Lines.{from_lines, IsFirstBad}

-- the item of one iteration, if the rest of the list begins with it
pub next_item : {A : Type 0} (xs : List A) (n : ℕ) (x : A) → (n < length xs) × (x ≡ get_or xs n x)
    → drop n xs ≡ x ∷ drop (n + 1) xs
next_item xs n x h =
    let e : drop n xs ≡ get_or xs n x ∷ drop (suc n) xs = drop-cons xs n x h.0 in
    rw (add-one, h.1) e

-- the item of one iteration, and its number, in a numbered list
pub numbered_item : {A : Type 0} (xs : List A) (n i : ℕ) (x : A)
    → (n < length (enumerate_from 0 xs)) × ((i, x) ≡ get_or (enumerate_from 0 xs) n (i, x))
    → (i ≡ n) × (drop n xs ≡ x ∷ drop (n + 1) xs)
numbered_item {A} xs n i x h =
    let lt : n < length xs = omega (arith, h.0, length-enumerate_from 0 xs) in
    let e : (i, x) ≡ (0 + n, get_or xs n x) = h.1 ∙ get_or-enumerate_from 0 xs n (i, x) lt in
    (omega (arith, ap (λ (p : ℕ × A). p.0) e), next_item xs n x (lt, ap (λ (p : ℕ × A). p.1) e))

module _ {S C F : Type 0} (fault : ℕ → C → F) (step : S → List ℕ → Result S C) (ls : List (List ℕ))
    (whole : Result S F) where
  -- the number of a line is one more than the number of lines before it
  pub goes_on : (n m : ℕ) (s t : S) (line : List ℕ) → drop n ls ≡ line ∷ drop (n + 1) ls
      → step s line ≡ Ok t → m ≡ n + 1
      → from_lines fault step (n + 1) s (drop n ls) ≡ whole
      → from_lines fault step (m + 1) t (drop m ls) ≡ whole
  goes_on n m s t line item good is so_far = rw is (rw (item, good) at so_far)

  pub stops : (n : ℕ) (s : S) (line : List ℕ) (cause : C) → drop n ls ≡ line ∷ drop (n + 1) ls
      → step s line ≡ Err cause
      → from_lines fault step (n + 1) s (drop n ls) ≡ whole → whole ≡ Err (fault (n + 1) cause)
  stops n s line cause item bad so_far = sym (rw (item, bad) at so_far)

  pub is_done : (n : ℕ) (s : S) → length ls ≤ n → from_lines fault step (n + 1) s (drop n ls)
      ≡ whole → whole ≡ Ok s
  is_done n s le so_far = sym (rw (drop_of_length-le ls le) at so_far)

module _ {S C F : Type 0} (fault : ℕ → C → F) (step : S → List ℕ → Result S C) where
  here_or_later : (l : List ℕ) (ls : List (List ℕ)) (n : ℕ) (s : S) (f : F) (o : Result S C)
      → step s l ≡ o
      → ((t : S) → from_lines fault step (n + 1) t ls ≡ Err f
      → IsFirstBad S C F fault step (n + 1) t ls f)
      → from_lines fault step n s (l ∷ ls) ≡ Err f → IsFirstBad S C F fault step n s (l ∷ ls) f
  here_or_later l ls n s f (Ok t) is later e =
      let h = later t (rw is at e) in
      let further : n + 1 + length h.before ≡ n + length (l ∷ h.before) = omega arith in
      record {
        before = l ∷ h.before;
        line = h.line;
        after = h.after;
        reached = h.reached;
        cause = h.cause;
        parts = ap (λ (ks : List (List ℕ)). l ∷ ks) h.parts;
        good = rw is h.good;
        bad = h.bad;
        is = h.is ∙ ap (λ (k : ℕ). fault k h.cause) further;
      }
  here_or_later l ls n s f (Err c) is later e =
      let at_n : Err (fault n c) ≡ Err f = rw is at e in
      let same : f ≡ fault n c = cc at_n in
      let start : n ≡ n + 0 = omega arith in
      record {
        before = [];
        line = l;
        after = ls;
        reached = s;
        cause = c;
        parts = refl;
        good = refl;
        bad = is;
        is = same ∙ ap (λ (k : ℕ). fault k c) start;
      }

  -- a text that is refused has a first bad line
  pub first_bad : (ls : List (List ℕ)) (n : ℕ) (s : S) (f : F) → from_lines fault step n s ls
      ≡ Err f → IsFirstBad S C F fault step n s ls f
  first_bad [] n s f e = absurd (cc)
  first_bad (l ∷ ls) n s f e =
      here_or_later l ls n s f (step s l) refl (λ t. first_bad ls (n + 1) t f) e

-- Sections with one line or more for each of their items.
use Rattle.std.proofs.Common.{◌≡◌, ℕ, ◌≤◌, ◌<◌, Bool, true, nat_le, nat_lt, List, [], ◌∷◌, map, flat_map, refl, subst, arith}
use Rattle.std.proofs.lemmas.Bool.Decides.{nat_tests}
use Rattle.std.proofs.lemmas.List.Concat.{flat_map_single}
use Rattle.script_text.specs.Draft.{Draft}
use Rattle.script_text.specs.Heads.{in_order}
use Rattle.call_lines.specs.Lines.{Line}
use Rattle.script_spelling.proofs.Steps.{Reads, followed, nothing}

-- the lines lead to the draft of a state that satisfies Q
pub record Leads (S : Type 0) (draft : S → Draft) (d : Draft) (ls : List Line) (Q : S → Type 0)
    : Type 0 where
  pub to : S
  pub reads : Reads d ls (draft to)
  pub is : Q to

module _ {A S : Type 0} (draft : S → Draft) (lines : A → List Line) (Inv : S → List A → Type 0)
    (step : (x : A) (xs : List A) (s : S) → Inv s (x ∷ xs)
    → Leads S draft (draft s) (lines x) (λ t. Inv t xs)) where
  -- the items are read one after another
  pub many : (xs : List A) (s : S) → Inv s xs
      → Leads S draft (draft s) (flat_map lines xs) (λ t. Inv t [])
  many [] s h = record { to = s; reads = nothing (draft s); is = h }
  many (x ∷ xs) s h =
      let first = step x xs s h in
      let others = many xs first.to first.is in
      record {
        to = others.to;
        reads = followed (lines x) (flat_map lines xs) (draft s) (draft first.to)
            (draft others.to) first.reads others.reads;
        is = others.is;
      }

-- the items are read with one line for each
pub by_map : {A : Type 0} (line : A → Line) (xs : List A) (d e : Draft)
    → Reads d (flat_map (λ x. line x ∷ []) xs) e → Reads d (map line xs) e
by_map line xs d e h =
    let P : List Line → Type 0 = λ ls. Reads d ls e in subst P (flat_map_single line xs) h

-- a rank after the first line, and at most `most`
pub record IsAt (n most : ℕ) : Type 0 where
  pub some : 1 ≤ n
  pub few : n ≤ most

first : (n : ℕ) → 1 ≤ n → nat_le 1 n ≡ true
first n h = grind (arith, nat_tests)

below : (n m : ℕ) → n < m → nat_lt n m ≡ true
below n m h = grind (arith, nat_tests)

repeated : (rank n : ℕ) → 1 ≤ n → n ≤ rank → in_order rank true n ≡ true
repeated rank n some le = grind (arith, nat_tests)

pub above : (rank n most : ℕ) (again : Bool) → IsAt n most → most < rank
    → in_order rank again n ≡ true
above rank n most again h lt =
    let some : nat_le 1 n ≡ true = first n h.some in
    let less : nat_lt n rank ≡ true = below n rank (omega (arith, h.few)) in
    rw (some, less) refl

pub again_at : (rank n : ℕ) → IsAt n rank → in_order rank true n ≡ true
again_at rank n h = repeated rank n h.some h.few

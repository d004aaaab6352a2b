-- The book's own pass, which has added the first entry, and the other passes.
use Rattle.std.proofs.Common.{◌≡◌, ℕ, ◌+◌, ◌==◌, ◌||◌, true, false, List, [], ◌∷◌, refl, ap, sym, ◌∙◌, arith}
use Rattle.std.specs.Prelude.{count_by}
use Rattle.grow_list.specs.Entries.{has_place}
use Rattle.grow_list.specs.Others.{beside_own}
use Rattle.grow_list.specs.Shown.{Grown, Passed}
use Rattle.grow_list.proofs.Others.{beside, bit, count_by-cons}
use Rattle.ima_templates.specs.declared.entry.Entry.{Entry}
use Rattle.measure_book.specs.BookFields.{HasBooted}

-- the pass with the entry at index 0 has that index and no other
one_place : (k : ℕ) (boot : Entry) → has_place k ((0, boot) ∷ []) ≡ (0 == k)
one_place k boot = elim (0 == k) as (λ b. (b || false) ≡ b) [ true ↦ refl | false ↦ refl ]

-- if each index belongs to one pass, every index except the own pass's belongs to one of the others
pub places-others : (list : Grown Entry) (own : Passed Entry) (passes : List (Passed Entry)) (k : ℕ)
    → HasBooted list own
    → count_by (λ p. has_place k p.mine) (own ∷ passes) ≡ 1
    → count_by (λ p. has_place k p.mine) passes ≡ beside_own k
places-others list own passes k booted all =
    let is : has_place k own.mine
    ≡ (0 == k) = ap (has_place k) booted.mine ∙ one_place k booted.boot in
    let parts : bit (0 == k) + count_by (λ p. has_place k p.mine) passes ≡ 1 =
    (λ i. bit (sym is i) + count_by (λ p. has_place k p.mine) passes)
    ∙ sym (count_by-cons (λ p. has_place k p.mine) own passes) ∙ all in
    omega (arith, parts, beside k)

-- if the own pass has added only the first entry, it and the others have each index once
pub places-all : (own : Passed Entry) (boot : Entry) (passes : List (Passed Entry)) (k : ℕ)
    → own.mine ≡ (0, boot) ∷ []
    → count_by (λ p. has_place k p.mine) passes ≡ beside_own k
    → count_by (λ p. has_place k p.mine) (own ∷ passes) ≡ 1
places-all own boot passes k mine others =
    count_by-cons (λ p. has_place k p.mine) own passes
    ∙ (λ i. bit ((ap (has_place k) mine ∙ one_place k boot) i) + others i)
    ∙ beside k

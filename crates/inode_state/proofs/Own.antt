-- The journal's own pass among all passes.
use Rattle.std.proofs.Common.{◌≡◌, ℕ, ◌+◌, ◌==◌, ◌||◌, true, false, List, [], ◌∷◌, refl, ap, sym, ◌∙◌, arith}
use Rattle.std.specs.Prelude.{count_by}
use Rattle.grow_list.specs.Entries.{has_place}
use Rattle.grow_list.specs.Shown.{Grown, HasEach, Passed}
use Rattle.grow_list.proofs.Others.{bit, beside, count_by-cons, HasEach-others as each_of, HasOthers-rest as rest_of}
use Rattle.inode_events.specs.declared.told.Event.{Event}
use Rattle.inode_state.specs.Value.{HasOthers, JournalValue, beside_own}

-- the own pass has added only the birth
pub record HasBirth (list : Grown Event) (own : Passed Event) : Type 0 where
  pub name : own.name ≡ list.name
  pub number : own.number ≡ 0
  pub birth : Event
  pub mine : own.mine ≡ (0, birth) ∷ []

-- the list of a journal, without what its passes don't depend on
abbrev grown_of : JournalValue → Grown Event
grown_of j = record { name = j.name; callers = j.callers; spare = 0; list = []; numbers = [] }

-- the own pass and the others are all passes of the list
pub HasEach-others : (list : Grown Event) (book : JournalValue) (own : Passed Event) (passes : List
    (Passed Event)) → book.name ≡ list.name → book.callers ≡ list.callers
    → HasBirth list own → HasOthers book passes → HasEach list (own ∷ passes)
HasEach-others list book own passes name callers booted others =
    each_of list (grown_of book) own passes name callers booted.name booted.number
    (record { of_list = others.of_journal; one_each = others.one_each })

-- all passes without the own one are the others
pub HasOthers-rest : (list : Grown Event) (book : JournalValue) (own : Passed Event) (passes : List
    (Passed Event)) → book.name ≡ list.name → book.callers ≡ list.callers
    → own.number ≡ 0 → HasEach list (own ∷ passes) → HasOthers book passes
HasOthers-rest list book own passes name callers number each =
    let others = rest_of list (grown_of book) own passes name callers number each in
    record { of_journal = others.of_list; one_each = others.one_each }

one_place : (k : ℕ) (birth : Event) → has_place k ((0, birth) ∷ []) ≡ (0 == k)
one_place k birth = elim (0 == k) as (λ b. (b || false) ≡ b) [ true ↦ refl | false ↦ refl ]

-- if each place belongs to one pass, the others have every place except the own pass's
pub places-others : (list : Grown Event) (own : Passed Event) (passes : List (Passed Event)) (k :
    ℕ) → HasBirth list own
    → count_by (λ p. has_place k p.mine) (own ∷ passes) ≡ 1
    → count_by (λ p. has_place k p.mine) passes ≡ beside_own k
places-others list own passes k booted all =
    let is : has_place k own.mine ≡ (0 == k) = ap (has_place k) booted.mine
    ∙ one_place k booted.birth in
    let parts : bit (0 == k) + count_by (λ p. has_place k p.mine) passes ≡ 1 =
    (λ i. bit (sym is i) + count_by (λ p. has_place k p.mine) passes)
    ∙ sym (count_by-cons (λ p. has_place k p.mine) own passes) ∙ all in
    omega (arith, parts, beside k)

-- The book's own pass is the first of those that the list creates, and it adds the first entry.
use Rattle.std.proofs.Common.{◌≡◌, List, [], ◌∷◌, ◌++◌, length, refl, sym, ap, subst, ◌∙◌, arith}
use Rattle.grow_list.specs.Shown.{Passed, fresh}
use Rattle.grow_list.specs.Shown.{HasEach}
use Rattle.grow_list.proofs.Others.{HasOthers-rest, first_is, rest_fresh, split_first}
use Rattle.ima_templates.specs.IsEntry.{IsEntry}
use Rattle.measure_book.specs.Replay.{extended_by}
use Rattle.ima_templates.specs.declared.entry.Entry.{Entry}
use Rattle.pcr_bank.specs.declared.banks.Banks.{Banks}
use Rattle.measure_book.proofs.Keeping.{IsBook-start}
use Rattle.measure_book.proofs.book.Book.start.Goals as goal

own_is : (c : goal.After-push-2) → c.remove-own.result ≡ fresh c.in_ok-list.list.name 0
own_is c =
    first_is c.in_ok-list.passes.items c.remove-own.result (fresh c.in_ok-list.list.name 0)
    (c.in_ok-list.ensures.passes 0 (omega (arith, c.requires))) c.remove-own.ensures.value

split : (c : goal.After-push-2)
    → c.in_ok-list.passes.items ≡ c.remove-own.result ∷ c.remove-own.new.self.items
split c =
    split_first c.in_ok-list.passes.items c.remove-own.result (fresh c.in_ok-list.list.name 0)
    (c.in_ok-list.ensures.passes 0 (omega (arith, c.requires))) (own_is c)
    ∙ ap (λ (rest : List (Passed Entry)). c.remove-own.result ∷ rest)
    (sym c.remove-own.ensures.items)

name_is : (c : goal.After-push-2) → c.push-2.new.self.name ≡ c.in_ok-list.list.name
name_is c = c.push-2.ensures.kept.0 ∙ c.reserve.ensures.list.name

list_is : (c : goal.After-push-2) → c.reserve.new.self.list ≡ []
list_is c = c.reserve.ensures.list.list ∙ c.in_ok-list.ensures.list.0

pub with_buckets-requires-clause-power : goal.with_buckets-requires-clause-power
with_buckets-requires-clause-power c = (1, refl)

pub invariant_of-book : goal.invariant_of-book
invariant_of-book c =
    IsBook-start _ c.args.boot (subst IsEntry c.boot.view_is c.boot.invariant.entry)
    (c.extend.ensures ∙ ap (λ (b : Banks). extended_by b c.args.boot) c.new-banks.ensures)
    (c.push.ensures.keys ∙ (λ i. (ap (λ t. t.keys) c.in_ok-places.ensures) i
    ++ c.key_of.ensures i ∷ []))
    (c.push-2.ensures.list ∙ ap (λ (l : List Entry). l ++ c.args.boot ∷ []) (list_is c))
    (c.push-2.ensures.same_pass.0 ∙ ap (λ (p : Passed Entry). p.name) (own_is c) ∙ sym (name_is c))
    (c.push-2.ensures.same_pass.1 ∙ ap (λ (p : Passed Entry). p.number) (own_is c))
    (c.push-2.ensures.mine
    ∙ (λ i. (ap (λ (p : Passed Entry). p.mine) (own_is c)) i
    ++ ((c.push-2.ensures.place ∙ ap length (list_is c)) i, c.args.boot) ∷ []))

pub returns-clause-numbers : goal.returns-clause-numbers
returns-clause-numbers c =
    c.push-2.ensures.numbers
    ∙ (λ i. (c.reserve.ensures.list.numbers ∙ c.in_ok-list.ensures.list.1) i
    ++ (ap (λ (p : Passed Entry). p.number) (own_is c)) i ∷ [])

pub returns-clause-passes : goal.returns-clause-passes
returns-clause-passes c =
    rest_fresh c.in_ok-list.passes.items c.remove-own.new.self.items c.remove-own.result
    c.in_ok-list.list.name c.push-2.new.self.name
    c.args.callers (split c) c.in_ok-list.ensures.count (name_is c) c.in_ok-list.ensures.passes

pub returns-clause-others : goal.returns-clause-others
returns-clause-others c =
    HasOthers-rest c.in_ok-list.list _ c.remove-own.result c.remove-own.new.self.items
    (name_is c) (c.push-2.ensures.kept.1 ∙ c.reserve.ensures.list.callers)
    (ap (λ (p : Passed Entry). p.number) (own_is c))
    (subst (HasEach c.in_ok-list.list) (split c) c.in_ok-list.ensures.each)

pub returns-clause-list : goal.returns-clause-list
returns-clause-list c =
    c.push-2.ensures.list ∙ ap (λ (l : List Entry). l ++ c.args.boot ∷ []) (list_is c)

pub returns-clause-callers : goal.returns-clause-callers
returns-clause-callers c =
    c.push-2.ensures.kept.1 ∙ c.reserve.ensures.list.callers ∙ c.in_ok-list.ensures.list.2

pub returns-clause-count : goal.returns-clause-count
returns-clause-count c = omega (arith, c.in_ok-list.ensures.count, ap length (split c))

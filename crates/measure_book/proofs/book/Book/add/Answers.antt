-- The book after one more entry keeps its invariant.
use Rattle.std.proofs.Common.{◌≡◌, ℕ, [], ◌∷◌, ◌++◌, length, append-nil, length-append, arith, Option, None, refl, sym, ap, subst, ◌∙◌}
use mathlib.Core.List.{IsPrefix}
use Rattle.grow_list.specs.Shown.{Grown}
use Rattle.ima_templates.specs.IsEntry.{IsEntry}
use Rattle.ima_templates.specs.declared.entry.Entry.{Entry}
use Rattle.ima_templates.specs.declared.entry.Placed.TheVariants.{Added}
use Rattle.ima_templates.specs.Same.{add_by, place_of_same, placed_by}
use Rattle.measure_book.proofs.Keeping.{IsBook-push}
use Rattle.measure_book.proofs.book.Book.add.Goals as goal

pub invariant_of-self-in-None : goal.invariant_of-self-in-None
invariant_of-self-in-None c =
    let none : place_of_same c.self.inside.list.list c.args.e ≡ None =
    ap (λ (b : Grown Entry). place_of_same b.list c.args.e) c.self.view_is
    ∙ sym c.place_of_same.ensures ∙ c.in-None.is in
    IsBook-push c.self.inside _ c.args.e c.self.invariant none
    (subst IsEntry c.e.view_is c.e.invariant.entry) c.extend.ensures
    (c.push.ensures.keys ∙ ap (λ (k : Option ℕ). c.self.inside.places.keys ++ k ∷ [])
    c.key_of.ensures)
    c.push-in-None.ensures.list c.push-in-None.ensures.kept.0 refl

pub returns-in-Some-clause-placed : goal.returns-in-Some-clause-placed
returns-in-Some-clause-placed c =
    ap (λ (o : Option ℕ). placed_by o (length c.args.self.now.list)) c.in-Some.ensures

pub returns-in-Some-clause-list : goal.returns-in-Some-clause-list
returns-in-Some-clause-list c =
    c.look.ensures.list.list ∙ ap (λ (b : Grown Entry). b.list) c.self.view_is
    ∙ ap (λ (o : Option ℕ). add_by o c.args.self.now.list c.args.e) c.in-Some.ensures

pub returns-in-Some-clause-before : goal.returns-in-Some-clause-before
returns-in-Some-clause-before c =
    subst (IsPrefix c.args.pass.now.seen) (ap (λ (b : Grown Entry). b.list) c.self.view_is)
    c.look.ensures.before

pub returns-in-Some-clause-mine : goal.returns-in-Some-clause-mine
returns-in-Some-clause-mine c = c.look.ensures.mine ∙ sym (append-nil c.args.pass.now.mine)

pub returns-in-Some-clause-valid : goal.returns-in-Some-clause-valid
returns-in-Some-clause-valid c = subst IsEntry c.e.view_is c.e.invariant.entry

pub returns-in-None-clause-placed : goal.returns-in-None-clause-placed
returns-in-None-clause-placed c =
    ap Added (c.push-in-None.ensures.place
    ∙ ap (λ (b : Grown Entry). length b.list) c.self.view_is)
    ∙ ap (λ (o : Option ℕ). placed_by o (length c.args.self.now.list)) c.in-None.ensures

pub returns-in-None-clause-list : goal.returns-in-None-clause-list
returns-in-None-clause-list c =
    c.push-in-None.ensures.list
    ∙ ap (λ (b : Grown Entry). b.list ++ c.args.e ∷ []) c.self.view_is
    ∙ ap (λ (o : Option ℕ). add_by o c.args.self.now.list c.args.e) c.in-None.ensures

pub returns-in-None-clause-numbers : goal.returns-in-None-clause-numbers
returns-in-None-clause-numbers c =
    c.push-in-None.ensures.numbers
    ∙ ap (λ (b : Grown Entry). b.numbers ++ c.args.pass.now.number ∷ []) c.self.view_is

pub returns-in-None-clause-before : goal.returns-in-None-clause-before
returns-in-None-clause-before c =
    subst (IsPrefix c.args.pass.now.seen) (ap (λ (b : Grown Entry). b.list) c.self.view_is)
    c.push-in-None.ensures.before

pub returns-in-None-clause-own : goal.returns-in-None-clause-own
returns-in-None-clause-own c = c.push-in-None.ensures.own

pub returns-in-None-clause-valid : goal.returns-in-None-clause-valid
returns-in-None-clause-valid c = subst IsEntry c.e.view_is c.e.invariant.entry

pub returns-in-Some-clause-spare : goal.returns-in-Some-clause-spare
returns-in-Some-clause-spare c =
    omega (arith, ap (λ (b : Grown Entry). b.spare) c.self.view_is, c.look.ensures.spare)

pub returns-in-Some-clause-below : goal.returns-in-Some-clause-below
returns-in-Some-clause-below c = c.look.ensures.placed

pub returns-in-Some-clause-own : goal.returns-in-Some-clause-own
returns-in-Some-clause-own c = c.look.ensures.own

pub returns-in-None-clause-spare : goal.returns-in-None-clause-spare
returns-in-None-clause-spare c =
    omega (
      arith,
      ap (λ (b : Grown Entry). b.spare) c.self.view_is,
      c.push-in-None.ensures.spare,
      c.push.ensures.buckets,
      ap length c.push.ensures.keys,
      length-append c.self.inside.places.keys (c.key_of.result ∷ []),
    )

pub returns-in-None-clause-below : goal.returns-in-None-clause-below
returns-in-None-clause-below c = c.push-in-None.ensures.placed

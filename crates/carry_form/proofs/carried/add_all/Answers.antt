-- The entries are added one by one, up to one that isn't new.
use Rattle.std.proofs.Common.{List, [], ◌∷◌, ◌++◌, ap, append-nil, subst, sym, ◌∙◌}
use Rattle.std.proofs.lemmas.List.{append_assoc, nil_from_length}
use Rattle.std.proofs.lemmas.Result.{err_from_is_err_and}
use Rattle.ima_templates.specs.declared.entry.Entry.{Entry}
use Rattle.carry_form.specs.Books.{Extends}
use Rattle.carry_form.specs.Reading.{all_new, if_new}
use Rattle.carry_form.proofs.BookLemmas.{Extends-append, Extends-none, new_entry, passed, refused_entry}
use Rattle.carry_form.proofs.carried.add_all.Goals as goal

pub loop-e-init : goal.loop-e-init
loop-e-init c =
    let items = c.into_iter-e-iterator.ensures.into_iter_gives.0 in
    record {
      split = sym items;
      book = Extends-none c.args.book.now;
      new = ap (λ (l : List Entry). all_new c.args.book.now.list l) items;
      name = c.requires.name;
      number = c.requires.number;
    }

pub loop-e-preserved : goal.loop-e-preserved
loop-e-preserved c =
    let old = c.loop-e.invariant in
    let step = c.in-Some.ensures.steps in
    record {
      split = old.split ∙ ap (λ xs. c.loop-e.yielded ++ xs) step.0
          ∙ sym (append_assoc c.loop-e.yielded (c.in-Some.e ∷ []) c.next.new.self.rest.items);
      book = Extends-append c.args.book.now c.loop-e.book c.add_new.new.book c.loop-e.yielded
          (c.in-Some.e ∷ []) old.book c.in_ok-add_new.ensures.book;
      new = new_entry c.loop-e.book.list c.add_new.new.book.list c.in-Some.e
          c.next.new.self.rest.items c.loop-e.e-iterator.rest.items _ step.0
          c.in_ok-add_new.ensures.book.list (passed _ c.in_ok-add_new.ensures.new) old.new;
      name = c.in_ok-add_new.ensures.name;
      number = c.in_ok-add_new.ensures.number;
    }

pub returns-in_err-add_new-clause-new : goal.returns-in_err-add_new-clause-new
returns-in_err-add_new-clause-new c =
    let p = err_from_is_err_and c.from_residual.result c.from_residual.ensures.1 in
    rw (p.1, p.2) (refused_entry _ c.loop-e.book.list c.in-Some.e c.next.new.self.rest.items
    c.loop-e.e-iterator.rest.items _ c.in-Some.ensures.steps.0 c.loop-e.invariant.new
    c.in_err-add_new.ensures.new)

pub returns-in_err-add_new-clause-book : goal.returns-in_err-add_new-clause-book
returns-in_err-add_new-clause-book c =
    let p = err_from_is_err_and c.from_residual.result c.from_residual.ensures.1 in
    rw p.1 tt

pub returns-in_err-add_new-clause-name : goal.returns-in_err-add_new-clause-name
returns-in_err-add_new-clause-name c =
    let p = err_from_is_err_and c.from_residual.result c.from_residual.ensures.1 in
    rw p.1 tt

pub returns-in_err-add_new-clause-number : goal.returns-in_err-add_new-clause-number
returns-in_err-add_new-clause-number c =
    let p = err_from_is_err_and c.from_residual.result c.from_residual.ensures.1 in
    rw p.1 tt

pub returns-clause-new : goal.returns-clause-new
returns-clause-new c =
    ap if_new
    (sym c.loop-e.invariant.new
    ∙ ap (λ (l : List Entry). all_new c.loop-e.book.list l)
    (nil_from_length c.loop-e.e-iterator.rest.items
    (sym c.loop-e.e-iterator.rest.ok.0 ∙ c.in-None.ensures.steps.0)))

pub returns-clause-book : goal.returns-clause-book
returns-clause-book c =
    subst (λ (l : List Entry). Extends c.args.book.now c.loop-e.book l)
    (sym (c.loop-e.invariant.split
    ∙ ap (λ (l : List Entry). c.loop-e.yielded ++ l)
    (nil_from_length c.loop-e.e-iterator.rest.items
    (sym c.loop-e.e-iterator.rest.ok.0 ∙ c.in-None.ensures.steps.0))
    ∙ append-nil c.loop-e.yielded))
    c.loop-e.invariant.book

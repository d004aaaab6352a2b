-- The steps of loading are those of the definition.
use Rattle.std.proofs.Common.{◌≡◌, List, Result, None, Some, sym, subst}
use Rattle.std.proofs.lemmas.List.{take_rest}
use Rattle.std.proofs.lemmas.Result.{IfOk-weaker, err_from_is_err_and}
use Rattle.ima_templates.specs.declared.entry.Entry.{Entry}
use Rattle.carry_form.specs.Form.{IsCarried, carried_form}
use Rattle.carry_form.specs.Reading.{Loads}
use Rattle.carry_form.specs.declared.causes.CarryCause.{CarryCause}
use Rattle.carry_form.proofs.FormLemmas.{HasParts-counted, IsBytes-fits, IsLoaded, load_of-counted, load_of-refused, loaded_by, not_empty}
use Rattle.carry_form.proofs.reading.load.Goals as goal

pub returns-in_err-count-clause-list : goal.returns-in_err-count-clause-list
returns-in_err-count-clause-list c =
    let p = err_from_is_err_and c.from_residual.result c.from_residual.ensures.1 in
    rw (p.1, p.2) (load_of-refused c.args.b.now c.in_err-count.field-0.0 c.in_err-count.ensures)

pub returns-in_err-count-clause-carried : goal.returns-in_err-count-clause-carried
returns-in_err-count-clause-carried c =
    let p = err_from_is_err_and c.from_residual.result c.from_residual.ensures.1 in
    rw p.1 tt

pub returns-in_err-count-clause-saves : goal.returns-in_err-count-clause-saves
returns-in_err-count-clause-saves c =
    let p = err_from_is_err_and c.from_residual.result c.from_residual.ensures.1 in
    rw p.1 tt

pub slice_bounds-records_in-count : goal.slice_bounds-records_in-count
slice_bounds-records_in-count c =
    (HasParts-counted c.args.b.now c.in_ok-count.count c.in_ok-count.ensures).long

pub slice_bounds-records_in-start : goal.slice_bounds-records_in-start
slice_bounds-records_in-start c =
    (HasParts-counted c.args.b.now c.in_ok-count.count c.in_ok-count.ensures).long

pub returns-in_err-list-clause-list : goal.returns-in_err-list-clause-list
returns-in_err-list-clause-list c =
    let p = err_from_is_err_and c.from_residual-in_err-list.result
    c.from_residual-in_err-list.ensures.1 in
    rw (p.1, p.2) tt

pub returns-in_err-list-clause-carried : goal.returns-in_err-list-clause-carried
returns-in_err-list-clause-carried c =
    let p = err_from_is_err_and c.from_residual-in_err-list.result
    c.from_residual-in_err-list.ensures.1 in
    rw p.1 tt

pub returns-in_err-list-clause-saves : goal.returns-in_err-list-clause-saves
returns-in_err-list-clause-saves c =
    let p = err_from_is_err_and c.from_residual-in_err-list.result
    c.from_residual-in_err-list.ensures.1 in
    rw p.1 tt

pub returns-in_default-clause-list : goal.returns-in_default-clause-list
returns-in_default-clause-list c =
    load_of-counted c.args.b.now c.in_ok-count.count None c.in_ok-count.ensures
    (rw (c.in_default.is, take_rest c.args.b.now 24) at c.in_ok-list.ensures)

pub of_entries-requires : goal.of_entries-requires
of_entries-requires c =
    not_empty c.args.b.now c.in_ok-count.count c.in-Some.list.items
    (IsBytes-fits c.args.b.now c.type_inv.b) c.in_ok-count.ensures
    (rw (c.in-Some.is, take_rest c.args.b.now 24) at c.in_ok-list.ensures)

pub returns-clause-list : goal.returns-clause-list
returns-clause-list c =
    subst (λ (s : Result (List Entry) CarryCause). Loads c.of_entries.result s)
    (sym (load_of-counted c.args.b.now c.in_ok-count.count (Some c.in-Some.list.items)
    c.in_ok-count.ensures (rw (c.in-Some.is, take_rest c.args.b.now 24) at c.in_ok-list.ensures)))
    c.of_entries.ensures

pub returns-clause-carried : goal.returns-clause-carried
returns-clause-carried c =
    IfOk-weaker c.of_entries.result (IsLoaded c.args.b.now) IsCarried (λ list h. h.carried)
    (loaded_by c.of_entries.result c.args.b.now (IsBytes-fits c.args.b.now c.type_inv.b)
    (returns-clause-list c))

pub returns-clause-saves : goal.returns-clause-saves
returns-clause-saves c =
    IfOk-weaker c.of_entries.result (IsLoaded c.args.b.now)
    (λ list. carried_form list ≡ c.args.b.now) (λ list h. h.form)
    (loaded_by c.of_entries.result c.args.b.now (IsBytes-fits c.args.b.now c.type_inv.b)
    (returns-clause-list c))

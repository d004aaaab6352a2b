use Rattle.std.proofs.Common.{Some, ap, ltb-false, sym, ◌∙◌}
use Rattle.std.proofs.lemmas.Option.{slice_get-get_or, slice_get_past}
use Rattle.report_text.specs.model.events.templates.declared.entry.Entry.{Entry}
use Rattle.order_outcomes.specs.Calls.{shows, shows_at}
use Rattle.order_outcomes.proofs.calls.shows_at.Goals as goal

pub returns-in-Some-get : goal.returns-in-Some-get
returns-in-Some-get c =
    let found = c.in-Some-get.ensures.lookup in
    c.shows.ensures
    ∙ ap (shows c.args.content.now) (ap (λ (e : Entry). Some e) found.1
    ∙ sym (slice_get-get_or c.args.list.now c.in-Some.place c.in-Some-get.entry.now found.3.0))
    ∙ ap (shows_at c.args.list.now c.args.content.now) (sym c.in-Some.is)

pub returns-in-None : goal.returns-in-None
returns-in-None c =
    sym (ap (shows_at c.args.list.now c.args.content.now) c.in-Some.is
    ∙ ap (shows c.args.content.now)
    (slice_get_past c.args.list.now c.in-Some.place
    (ltb-false c.in-Some.place _ (sym c.in-None.ensures.lookup.0))))

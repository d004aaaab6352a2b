use Rattle.std.proofs.Common.{Some, ap, ltb-false, sym, ◌∙◌}
use Rattle.std.proofs.lemmas.Option.{slice_get-get_or, slice_get_past}
use Rattle.report_draft.specs.Draft.{opens}
use Rattle.report_words.specs.declared.event.Event.{Event}
use Rattle.report_draft.proofs.fits.opens.Goals as goal

pub returns-in-Some : goal.returns-in-Some
returns-in-Some c =
    let found = c.in-Some.ensures.lookup in
    c.is_held.ensures
    ∙ ap opens (ap (λ (e : Event). Some e) found.1
    ∙ sym (slice_get-get_or c.args.before.now c.args.place c.in-Some.event.now found.3.0))

pub returns-in-None : goal.returns-in-None
returns-in-None c =
    sym (ap opens (slice_get_past c.args.before.now c.args.place
    (ltb-false c.args.place _ (sym c.in-None.ensures.lookup.0))))

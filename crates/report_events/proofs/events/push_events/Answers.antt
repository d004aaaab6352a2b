use Rattle.std.proofs.Common.{◌∷◌, ◌++◌, [], refl, sym, ap, ◌∙◌}
use Rattle.std.proofs.lemmas.List.{append-nil}
use Rattle.report_events.specs.Texts.{line_text}
use Rattle.report_events.specs.Words.{event_lines, event_words}
use Rattle.report_events.proofs.Joins.{lines_on, lines_end}
use Rattle.report_events.proofs.events.push_events.Goals as goal

pub loop-place-preserved : goal.loop-place-preserved
loop-place-preserved c =
    let t = c.args.default in
    let g = c.args.grows in
    let e = c.index-events-place.result in
    let k = c.loop-place.place in
    lines_on (event_lines t g) (λ n x. event_words t g n x ∷ []) (λ n x xs. refl) _ _ _
    c.args.events.now k e
    c.loop-place-test.true c.index-events-place.is c.loop-place.invariant
    (c.in_ok-push_event.ensures
    ∙ ap (λ l. c.loop-place.out.items ++ l) (sym (append-nil (line_text (event_words t g k e)))))

pub returns : goal.returns
returns c =
    lines_end (event_lines c.args.default c.args.grows) (λ k. refl) _ _ c.args.events.now
    c.loop-place.place
    c.loop-place-test.false c.loop-place.invariant

use Rattle.std.proofs.Common.{◌≡◌, ℕ, ◌+◌, Bool, List, ◌++◌, drop, get_or, ap, sym, ◌∙◌, arith}
use Rattle.std.proofs.lemmas.List.{at_drop_all, at_drop_more}
use Rattle.view_page.specs.journals.reading.words.declared.event.Span.{Span}
use Rattle.view_tables.specs.Entries.{is_violation, row_at, rows_from}
use Rattle.view_plan.specs.Order.{counted}
use Rattle.view_page.specs.Parts.{page_of}
use Rattle.view_page.specs.declared.part.Part.{Part}
use Rattle.view_page.proofs.Joined.{going, gone}
use Rattle.view_tables.proofs.entries.push_rows.Goals as goal

abbrev none : Span
none = record { at = 0; len = 0 }

pub loop-place-preserved : goal.loop-place-preserved
loop-place-preserved c =
    let text : List ℕ = c.args.text.now in
    let i : ℕ = c.loop-place.place in
    let marks : ℕ = c.loop-place.marks in
    let line : Span = get_or c.args.lines.now i none in
    let rows : ℕ → List Part
    = λ m. rows_from text c.args.side c.args.shown.now c.args.added.now m (i + 1)
    (drop (i + 1) c.args.lines.now) in
    let same : c.counted-marks.result ≡ counted (is_violation text line) marks
    = c.counted-marks.ensures ∙ ap (λ (b : Bool). counted b marks) c.is_violation.ensures in
    ap (λ (m : ℕ). c.push_row_at.new.out.items ++ page_of text (rows m)) same
    ∙ going text _ c.loop-place.out.items c.push_row_at.new.out.items
    (row_at text c.args.side c.args.shown.now c.args.added.now marks i line)
    (rows (counted (is_violation text line) marks)) c.in_ok-push_row_at.ensures
    (ap (λ (ps : List Part). c.loop-place.out.items ++ page_of text ps)
    (sym (at_drop_more (rows_from text c.args.side c.args.shown.now c.args.added.now marks i)
    c.args.lines.now i none c.loop-place-test.true))
    ∙ c.loop-place.invariant)

pub returns : goal.returns
returns c =
    gone c.args.text.now c.args.out.now.items c.loop-place.out.items
    (rows_from c.args.text.now c.args.side c.args.shown.now c.args.added.now 0 0 c.args.lines.now)
    _
    (at_drop_all (rows_from c.args.text.now c.args.side c.args.shown.now c.args.added.now
    c.loop-place.marks c.loop-place.place) c.args.lines.now c.loop-place.place (omega arith))
    c.loop-place.invariant

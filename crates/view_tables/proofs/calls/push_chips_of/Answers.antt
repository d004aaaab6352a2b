use Rattle.std.proofs.Common.{◌≡◌, ℕ, ◌+◌, false, List, ◌++◌, drop, get_or, ap, sym, ◌∙◌, arith}
use Rattle.std.proofs.lemmas.List.{at_drop_all, at_drop_more}
use Rattle.std.specs.Prelude.{not}
use Rattle.view_page.specs.journals.reading.lines.declared.report.Reply.{Reply}
use Rattle.view_tables.specs.Calls.{chip_at, chips_from}
use Rattle.view_plan.specs.Order.{counted}
use Rattle.view_page.specs.Parts.{page_of}
use Rattle.view_page.specs.declared.part.Part.{Part}
use Rattle.view_page.proofs.Joined.{going, gone}
use Rattle.view_tables.proofs.calls.push_chips_of.Goals as goal

abbrev none : Reply
none = record { line = record { at = 0; len = 0 }; ok = false }

pub loop-call-preserved : goal.loop-call-preserved
loop-call-preserved c =
    let text : List ℕ = c.args.text.now in
    let i : ℕ = c.loop-call.call in
    let marks : ℕ = c.loop-call.marks in
    let r : Reply = get_or c.args.replies.now i none in
    let rest : ℕ → List Part
    = λ m. chips_from text c.args.side c.args.shown.now c.args.inodes.now c.args.firsts.now m
    (i + 1) (drop (i + 1) c.args.replies.now) in
    let same : c.counted-marks.result ≡ counted (not r.ok) marks = c.counted-marks.ensures in
    ap (λ (m : ℕ). c.push_chip_at.new.out.items ++ page_of text (rest m)) same
    ∙ going text _ c.loop-call.out.items c.push_chip_at.new.out.items
    (chip_at text c.args.side c.args.shown.now c.args.inodes.now c.args.firsts.now marks i r)
    (rest (counted (not r.ok) marks)) c.in_ok-push_chip_at.ensures
    (ap (λ (ps : List Part). c.loop-call.out.items ++ page_of text ps)
    (sym (at_drop_more (chips_from text c.args.side c.args.shown.now c.args.inodes.now
    c.args.firsts.now marks i) c.args.replies.now i none c.loop-call-test.true))
    ∙ c.loop-call.invariant)

pub returns : goal.returns
returns c =
    gone c.args.text.now c.args.out.now.items c.loop-call.out.items
    (chips_from c.args.text.now c.args.side c.args.shown.now c.args.inodes.now c.args.firsts.now
    0 0 c.args.replies.now) _
    (at_drop_all (chips_from c.args.text.now c.args.side c.args.shown.now c.args.inodes.now
    c.args.firsts.now c.loop-call.marks c.loop-call.call) c.args.replies.now c.loop-call.call
    (omega arith))
    c.loop-call.invariant

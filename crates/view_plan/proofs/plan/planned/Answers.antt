use Rattle.std.proofs.Common.{ℕ, ◌+◌, ◌++◌, List, append-nil, ap, drop, get_or, refl, sym, ◌∙◌}
use Rattle.list_lemmas.proofs.Remaining.{none_left, one_less}
use Rattle.view_journal.specs.reading.words.declared.event.Event.{Event}
use Rattle.view_plan.specs.Plan.{fitting, journal_at, planned, room_after, shown_from, shown_of}
use Rattle.view_plan.specs.declared.plan.Shown.{Shown}
use Rattle.view_plan.proofs.plan.planned.Goals as goal

pub loop-number-init : goal.loop-number-init
loop-number-init c =
    ap (λ (ss : List Shown). ss ++ planned c.args.inodes.now c.args.order.now)
    c.new-shown.ensures.items

pub loop-number-preserved : goal.loop-number-preserved
loop-number-preserved c =
    let i : ℕ = c.loop-number.number-index in
    let n : ℕ = get_or c.args.order.now i 0 in
    let room : ℕ = c.loop-number.room in
    let journal : List Event = journal_at c.args.inodes.now n in
    rw (c.in_ok-room.ensures.room, c.journal_at-journal.ensures)
    (one_less c.loop-number.shown.items (shown_from room c.args.inodes.now) c.args.order.now i 0
    (shown_of n (fitting room journal))
    (shown_from (room_after room journal) c.args.inodes.now (drop (i + 1) c.args.order.now))
    c.loop-number-test.true refl c.loop-number.invariant
    (rw c.journal_at-journal.ensures at c.in_ok-room.ensures.windows))

pub returns : goal.returns
returns c =
    sym (append-nil c.loop-number.shown.items)
    ∙ none_left c.loop-number.shown.items (shown_from c.loop-number.room c.args.inodes.now)
    c.args.order.now c.loop-number.number-index c.loop-number-test.false c.loop-number.invariant

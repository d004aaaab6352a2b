use Rattle.std.proofs.Common.{ℕ, ◌+◌, ◌*◌, [], ◌∷◌, drop, get_or, refl, arith}
use Rattle.view_journal.specs.declared.bars.Bar.{Bar}
use Rattle.view_lanes.specs.Lanes.{seats_of}
use Rattle.view_lanes.proofs.NoItems.{no_bar}
use Rattle.view_lanes.proofs.Paired.{none_left, one_less}
use Rattle.view_lanes.proofs.lanes.push_rows.Goals as goal

pub loop-at-preserved : goal.loop-at-preserved
loop-at-preserved c =
    let i : ℕ = c.loop-at.at in
    let b : Bar = get_or c.args.bars.now i no_bar in
    one_less c.loop-at.seats.items (seats_of c.args.top) c.args.bars.now c.args.rows.now i no_bar 0
    (record { bar = b; y = c.args.top + 4 + 22 * get_or c.args.rows.now i 0 } ∷ [])
    (seats_of c.args.top (drop (i + 1) c.args.bars.now) (drop (i + 1) c.args.rows.now))
    c.loop-at-test.true (omega (arith, c.requires.each, c.loop-at-test.true)) refl
    c.loop-at.invariant c.in_ok-push.ensures.items

pub returns : goal.returns
returns c =
    none_left c.loop-at.seats.items (seats_of c.args.top) c.args.bars.now c.args.rows.now
    c.loop-at.at (omega arith) refl c.loop-at.invariant

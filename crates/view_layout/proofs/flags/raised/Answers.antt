use Rattle.std.proofs.Common.{ℕ, ◌+◌, ◌*◌, List, [], ◌∷◌, ◌++◌, drop, get_or, refl, ap, arith}
use Rattle.view_layout.specs.declared.flags.Flag.{Flag}
use Rattle.view_layout.specs.declared.flags.Noted.{Noted}
use Rattle.view_layout.specs.Flags.{raised}
use Rattle.view_layout.proofs.NoItems.{no_noted}
use Rattle.view_lanes.proofs.Paired.{none_left, one_less}
use Rattle.view_layout.proofs.flags.raised.Goals as goal

pub loop-at-init : goal.loop-at-init
loop-at-init c =
    ap (λ (fs : List Flag). fs ++ raised c.args.noted.now c.args.rows.now) c.new-flags.ensures.items

pub loop-at-preserved : goal.loop-at-preserved
loop-at-preserved c =
    let i : ℕ = c.loop-at.at in
    let n : Noted = get_or c.args.noted.now i no_noted in
    one_less c.loop-at.flags.items raised c.args.noted.now c.args.rows.now i no_noted 0
    (record { x = n.x; event = n.event; note = n.note; up = 17 * (get_or c.args.rows.now i 0 + 1) }
    ∷ [])
    (raised (drop (i + 1) c.args.noted.now) (drop (i + 1) c.args.rows.now)) c.loop-at-test.true
    (omega (arith, c.requires.each, c.loop-at-test.true)) refl c.loop-at.invariant
    c.in_ok-push.ensures.items

pub returns : goal.returns
returns c =
    none_left c.loop-at.flags.items raised c.args.noted.now c.args.rows.now c.loop-at.at
    (omega arith) refl c.loop-at.invariant

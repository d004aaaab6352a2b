-- A post or a wait, or no memory for its event.
use Rattle.std.proofs.Common.{◌∙◌}
use Rattle.std.proofs.lemmas.Result.{err_from_is_err_and}
use Rattle.world_locks.proofs.Signals.{signal_fails, signal_met}
use Rattle.world_locks.proofs.tagged.TaggedSemaphores.signal.Goals as goal

pub returns-in_err-reserve : goal.returns-in_err-reserve
returns-in_err-reserve g c =
    let p = err_from_is_err_and c.from_residual.result c.from_residual.ensures.1 in
    rw (p.1) (signal_fails c.args.pass.now c.args.who c.args.deed p.0)

pub returns : goal.returns
returns g c =
    signal_met c.args.pass.now c.signal.new.pass c.args.who c.args.deed c.reserve.new.self.list
    c.signal.result c.signalled.result c.signalled.ensures c.signal.ensures.says
    c.signal.ensures.place
    (c.signal.ensures.seen ∙ c.signal.ensures.list) c.signal.ensures.mine
    c.signal.ensures.same_pass

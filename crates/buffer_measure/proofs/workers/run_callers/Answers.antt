-- Each caller is ready before it runs, and has run afterwards.
use Rattle.std.proofs.Common.{◌<◌, length, subst, sym, arith, rules}
use Rattle.buffer_measure.specs.Workers.{IsDone, IsReady}
use Rattle.buffer_measure.proofs.workers.run_callers.Goals as goal

pub for_each_mut-requires-clause-accepts : goal.for_each_mut-requires-clause-accepts
for_each_mut-requires-clause-accepts g c = λ κs out i p below is. (
  (
    c.requires.shared,
    subst (IsReady g.N.Name.constants i) (sym is) (c.requires.ready.each i p.now below),
  ),
  search rules,
)

pub returns : goal.returns
returns g c = record {
  even = omega (arith, c.requires.ready.even);
  each = λ i d below.
      let within : i < length c.args.workers.now = omega (arith, below) in
      let at = (c.for_each_mut.ensures i d within).1 in
      subst (IsDone g.N.Name.constants i) at.left at.call;
}

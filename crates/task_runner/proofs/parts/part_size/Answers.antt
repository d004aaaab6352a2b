-- The parts hold all tasks, and fewer or shorter ones wouldn't.
use Rattle.std.proofs.Common.{◌≤◌, arith}
use Rattle.std.specs.Int.{div_ceil}
use Rattle.std.proofs.lemmas.Grind.{div_ceil_times}
use Rattle.std.proofs.Math.Nat.{mul-le-mul_right}
use Rattle.task_runner.proofs.parts.part_size.Goals as goal

pub returns-clause-few : goal.returns-clause-few
returns-clause-few c =
    let least : div_ceil c.args.count c.args.n ≤ c.max.result = omega arith in
    omega (
      arith,
      div_ceil_times c.args.count c.args.n (omega arith),
      mul-le-mul_right c.args.n least,
    )

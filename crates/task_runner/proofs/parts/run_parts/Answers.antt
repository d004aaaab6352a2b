-- Each part is over, and no part is longer than so many parts need.
use Rattle.std.proofs.Common.{◌≤◌, length, arith}
use Rattle.std.specs.Int.{div_ceil}
use Rattle.std.proofs.lemmas.Grind.{div_ceil_times}
use Rattle.std.proofs.lemmas.Result.{on_ok_weaker}
use Rattle.task_runner.proofs.Passing.{few_enough, over_most}
use Rattle.task_runner.specs.Passes.{AreOver}
use Rattle.task_runner.proofs.parts.run_parts.Goals as goal

pub returns-clause-parts : goal.returns-clause-parts
returns-clause-parts g c =
    let consts = g.N.Name.consts in
    let old = c.args.tasks.now in
    let new = c.run_halves.new.tasks in
    let size = c.part_size-size.result in
    let count = c.max-count.result in
    let n = c.args.n in
    let spans = div_ceil_times (length old) size (omega (arith, c.part_size-size.ensures.some)) in
    let least : div_ceil (length old) size ≤ n =
    few_enough (div_ceil (length old) size) n size (length old) c.part_size-size.ensures.few
    spans.1 in
    let few : count ≤ n = omega (arith, least, c.requires.threads) in
    on_ok_weaker c.run_halves.result
    (λ (over : AreOver consts count size old new). record {
      size = size;
      short = c.part_size-size.ensures.short;
      over = over_most consts count n size old new few over;
    })
    c.run_halves.ensures.parts

use Rattle.order_runs.proofs.Playing.{sighted}
use Rattle.order_runs.proofs.play.Play.sight.Goals as goal

pub returns : goal.returns
returns c =
    sighted c.args.self.now c.args.turns.now c.in_ok-closing.closing
    c.in_ok-closing.closing_tasks.items (record {
      ended = c.in_ok-ended.ended;
      world = c.in_ok-world.world;
      tasks = c.in_ok-world.tasks;
    }) c.in_ok-closing.ensures c.in_ok-ended.ensures.ended
    c.in_ok-ended.ensures.finished c.in_ok-world.ensures

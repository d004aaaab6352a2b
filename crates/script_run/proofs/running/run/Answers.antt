use Rattle.script_run.proofs.Ending.{run_is, same_run_all, within}
use Rattle.script_run.proofs.running.run.Goals as goal

pub turn_all-requires-clause-turns : goal.turn_all-requires-clause-turns
turn_all-requires-clause-turns g c =
    λ κs out. within c.args.script c.in_ok-world.world c.in_ok-world.tasks.items
    c.in_ok-world.ending c.keeps.ensures c.in_ok-world.ensures

pub close-requires-clause-count : goal.close-requires-clause-count
close-requires-clause-count g c =
    same_run_all c.args.script c.in_ok-world.world c.in_ok-after.after c.in_ok-world.tasks.items
    c.turn_all.new.tasks.items c.in_ok-world.ending c.in_ok-world.ensures
    c.in_ok-after.ensures.still

pub returns : goal.returns
returns g c =
    run_is c.args.script c.keeps.ensures c.in_ok-world.world c.in_ok-after.after
    c.in_ok-world.tasks.items c.turn_all.new.tasks.items c.in_ok-world.ending
    c.in_ok-world.ensures c.in_ok-after.ensures.still c.in_ok-after.ensures.run c.close.result
    c.rules_kept.ensures c.close.ensures.ended c.close.ensures.ends c.close.ensures.shown

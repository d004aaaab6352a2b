use Rattle.std.specs.Prelude.{codes}
use Rattle.script_spelling.proofs.Pieces.{turns_put}
use Rattle.script_print.proofs.calls.push_schedule.Goals as goal

pub returns : goal.returns
returns c =
    turns_put c.args.out.now.items c.extend_from_slice.new.self.items c.push_turns.new.out.items
    c.push.new.self.items (codes "schedule") c.args.turns.now
    c.in_ok-extend_from_slice.ensures.items c.in_ok-push_turns.ensures c.in_ok-push.ensures.items

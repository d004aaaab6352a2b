use Rattle.std.proofs.Common.{Option, sym, ◌∙◌, ap}
use Rattle.script_scene.specs.Scene.{program_of}
use Rattle.world_model.specs.model.Scene.{Program}
use Rattle.audit_trail.proofs.Placed.{mapped_past, mapped_there}
use Rattle.audit_trail.specs.Asked.{asker_in}
use Rattle.audit_trail.proofs.asked.asker.Goals as goal

pub returns-in-Some : goal.returns-in-Some
returns-in-Some c =
    c.asker_by.ensures
    ∙ ap (λ (o : Option Program). asker_in o c.args.who.call)
    (sym (mapped_there program_of c.args.tasks.now c.args.who.task c.in-Some.task.now
    c.in-Some.ensures.lookup.3.0 c.in-Some.ensures.lookup.1))

pub returns-in-None : goal.returns-in-None
returns-in-None c =
    sym (ap (λ (o : Option Program). asker_in o c.args.who.call)
    (mapped_past program_of c.args.tasks.now c.args.who.task c.in-None.ensures.lookup.3))

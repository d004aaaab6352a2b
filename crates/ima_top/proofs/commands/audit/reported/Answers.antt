use Rattle.std.proofs.Common.{true, subst}
use Rattle.std.proofs.Math.Bool.{Bool-set}
use Rattle.audit_trail.specs.Trail.{IsOfRun}
use Rattle.script_run.specs.Run.{HasRun}
use Rattle.script_run.specs.model.EndedValue.{EndedValue}
use Rattle.script_run.specs.scenes.Scene.{IsForFiles, scene_of}
use Rattle.script_text.specs.ScriptValue.{ScriptValue}
use Rattle.policy_text.specs.rules.RuleValue.{is_named_template}
use Rattle.ima_top.specs.commands.Audit.{trail_of}
use Rattle.ima_top.proofs.Ran.{joined}
use Rattle.ima_top.proofs.commands.audit.reported.Goals as goal

-- a run of the script leaves this state
of_run : (s : ScriptValue) (e : EndedValue) → HasRun s e → (for_files : IsForFiles s)
    → IsOfRun (scene_of s for_files) s.ending e
of_run s e has for_files =
    subst (λ (f : IsForFiles s). IsOfRun (scene_of s f) s.ending e)
    (Bool-set (is_named_template s.template) true has.for_files for_files)
    (record { run = has.run; shown = has.promised.shown; leaves = has.promised.leaves })

pub trail-requires : goal.trail-requires
trail-requires c = of_run c.args.script c.args.ended c.requires.has_run

pub returns : goal.returns
returns c =
    joined trail_of c.args.script c.args.ended c.in_ok-trail.trail.items
    c.in_ok-answer.answer.stuck c.in_ok-answer.answer.output c.requires.has_run
    c.in_ok-trail.ensures c.in_ok-answer.ensures.stuck c.in_ok-answer.ensures.output

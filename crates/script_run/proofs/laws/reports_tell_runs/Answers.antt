-- The names of the script's scene are such that a report tells its run.
use Rattle.report_laws.proofs.Runs.{report_determines}
use Rattle.script_run.proofs.Names.{script_names}
use Rattle.script_run.proofs.laws.reports_tell_runs.Goals as goal
use Rattle.script_start.specs.scenes.Scene.{scene_of}

pub returns : goal.returns
returns c = λ for_files a b first second same.
    let s = c.args.script.now in
    report_determines (scene_of s for_files) s.ending a b
    (script_names s c.keeps.ensures c.rules_kept.ensures for_files) first second same

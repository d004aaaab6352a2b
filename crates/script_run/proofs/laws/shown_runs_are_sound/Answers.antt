use Rattle.script_run.proofs.Forms.{script_forms}
use Rattle.script_run.proofs.laws.shown_runs_are_sound.Goals as goal
use Rattle.script_start.specs.scenes.Scene.{scene_of}
use Rattle.run_laws.proofs.shown.Sound.{sound_there}

pub returns : goal.returns
returns c = λ s kept for_files run shown.
    sound_there (scene_of s for_files) s.ending run shown (script_forms s kept for_files)

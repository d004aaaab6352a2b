use Rattle.ima_top.specs.commands.Gen.{IsGenOutput}
use Rattle.ima_top.proofs.Through.{goes_through}
use Rattle.ima_top.proofs.commands.gen_.summarize.Goals as goal

pub returns : goal.returns
unfolding IsGenOutput
returns g c =
    let has = c.in_ok-ended.ensures in record {
      script = c.in_ok-script.script;
      size = c.in_ok-script.size;
      loaded = c.in_ok-script.ensures;
      ended = c.in_ok-ended.ended;
      has_run = has;
      goes_through = goes_through c.in_ok-script.script c.in_ok-ended.ended
          c.in_ok-script.ensures.load has;
      summary = c.in_ok-output.ensures;
    }

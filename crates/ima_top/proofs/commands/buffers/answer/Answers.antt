use Rattle.std.proofs.Common.{◌∙◌, refl}
use Rattle.buffer_measure.specs.texts.Grammar.{buffers_of}
use Rattle.ima_top.specs.commands.Buffers.{IsBuffersOutput, IsPrintedRun}
use Rattle.ima_top.proofs.Ran.{of_read}
use Rattle.ima_top.proofs.commands.buffers.answer.Goals as goal

pub returns : goal.returns
unfolding IsBuffersOutput
returns g c =
    let run = c.in_ok-run.run' in
    let is_run = c.in_ok-run.ensures in
    let text = c.in_ok-output.ensures in (
      c.in_ok-text.ensures.0,
      (
        refl,
        of_read (λ t. IsPrintedRun t c.in_ok-output.output) (buffers_of c.args.input.now)
            c.in_ok-text.text c.in_ok-text.ensures.1
            (record {
              run = run;
              is_run = is_run;
              text = text;
              alone = c.runs_alone.ensures c.in_ok-text.text run is_run;
              only = λ other is same. c.print_determines.ensures c.in_ok-text.text other run
                  c.keeps.ensures is is_run (same ∙ text);
            }),
      ),
    )

use Rattle.std.proofs.Common.{[], add-one, ap, ◌∙◌, arith, drop-cons}
use Rattle.clap.specs.Simple.{App, app_of, with_subcommand}
use Rattle.command_line.proofs.parser.with_commands.Goals as goal

pub loop-name-preserved : goal.loop-name-preserved
loop-name-preserved c =
    let at = c.loop-name in
    let next = drop-cons c.args.names.now at.name-index (record { ref_ptr = (0, 0); now = [] })
    (omega arith) in
    let added = c.in_ok-program.ensures.shape c.new.ensures.local
    ∙ ap (λ (a : App). with_subcommand (app_of at.program) a.top) c.new.ensures.app in
    rw (added, add-one) (rw next at at.invariant)

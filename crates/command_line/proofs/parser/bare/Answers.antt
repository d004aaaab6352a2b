use Rattle.std.proofs.Common.{true, ap, ◌∙◌}
use Rattle.clap.specs.Simple.{App, app_of_fields, on_top}
use Rattle.command_line.proofs.parser.bare.Goals as goal

pub returns : goal.returns
returns c =
    ap app_of_fields c.subcommand_required.ensures
    ∙ ap (λ (a : App). on_top (λ s. record s { subcommand_required = true }) a)
    (ap app_of_fields c.disable_version_flag.ensures
    ∙ ap (λ (a : App). on_top (λ s. record s { disable_version_flag = true }) a)
    (ap app_of_fields c.disable_help_subcommand.ensures
    ∙ ap (λ (a : App). on_top (λ s. record s { disable_help_subcommand = true }) a)
    (ap app_of_fields c.disable_help_flag.ensures
    ∙ ap (λ (a : App). on_top (λ s. record s { disable_help_flag = true }) a)
    (ap app_of_fields c.no_binary_name.ensures
    ∙ ap (λ (a : App). on_top (λ s. record s { no_binary_name = true }) a)
    c.new.ensures.app))))

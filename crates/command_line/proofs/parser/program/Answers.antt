use Rattle.std.proofs.Common.{◌≡◌, ◌&&◌, Bool, true, false, not, map, IfOk, refl, ap, ◌∙◌, subst}
use Rattle.std.specs.Prelude.{codes}
use Rattle.clap.specs.Simple.{App, Shape, app_of, with_subcommand}
use Rattle.command_line.specs.Program.{bare, numbered, with_words}
use Rattle.command_line.specs.Words.{lone_commands}
use Rattle.command_line.proofs.parser.program.Goals as goal

third_is_false : (a b c d : Bool) → (a && (b && (not c && d))) ≡ true → c ≡ false
third_is_false true true false d h = refl
third_is_false true true true d h = absurd (cc)
third_is_false true false c d h = absurd (cc)
third_is_false false b c d h = absurd (cc)

-- the numbered command is plain, so it has no global argument
pub returns : goal.returns
returns c =
    let shape = c.in_ok-numbered.ensures in
    let local = third_is_false _ _ _ _ (ap (λ (s : Shape). s.is_plain) shape) in
    let program : app_of c.in_ok-program.program ≡ with_subcommand bare (numbered (codes "gen")) =
    c.in_ok-program.ensures.shape local
    ∙ ap (λ (s : Shape). with_subcommand (app_of c.bare.result) s) shape
    ∙ ap (λ (a : App). with_subcommand a (numbered (codes "gen"))) c.bare.ensures in
    subst (λ (a : App). IfOk c.with_commands.result
    (λ p. app_of p ≡ with_words a (map (λ e. e.0) lone_commands))) program
    c.with_commands.ensures

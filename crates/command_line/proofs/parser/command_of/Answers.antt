use Rattle.std.proofs.Common.{◌≡◌, false, map, string_bytes, List, sym, ap, ◌∙◌, inl, inr, subst}
use Rattle.std.specs.List.{list_any}
use Rattle.clap.specs.Words.{IsAmong, kind_of}
use Rattle.clap.specs.Walk.{Text}
use Rattle.clap.specs.Faults.{fault_of, is_simple_and_free}
use Rattle.clap.specs.Simple.{App}
use Rattle.clap.proofs.WalkLemmas.{list_any-map}
use Rattle.command_line.specs.Words.{is_option}
use Rattle.command_line.proofs.Outcomes.{simple}
use Rattle.command_line.proofs.Answered.{met_command, option_command, refused_command}
use Rattle.command_line.proofs.parser.command_of.Goals as goal

pub returns-in-Ok : goal.returns-in-Ok
returns-in-Ok c =
    let words : List Text = map string_bytes c.args.words.now in
    let none : list_any is_option words ≡ false =
    sym (list_any-map is_option string_bytes c.args.words.now) ∙ sym c.has_option.ensures
    ∙ c.if-has_option.false in
    let is = c.in_ok-program.ensures in
    c.command_met.ensures
    ∙ met_command _ words c.in-Ok.matches is c.in-Ok.ensures.matches none
    (c.in-Ok.ensures.kinds (ap is_simple_and_free is ∙ simple))

pub returns : goal.returns
returns c =
    let words : List Text = map string_bytes c.args.words.now in
    let none : list_any is_option words ≡ false =
    sym (list_any-map is_option string_bytes c.args.words.now) ∙ sym c.has_option.ensures
    ∙ c.if-has_option.false in
    let is = c.in_ok-program.ensures in
    elim (c.in-Err.ensures.kinds (ap is_simple_and_free is ∙ simple)) [
      | inl memory ↦ absurd (c.in_default.not-OutOfMemory (c.kind.ensures ∙ memory))
      | inr among ↦
          let P : App → Type 0 = λ a. IsAmong (kind_of c.in-Err.error) (fault_of a words) in
          sym (refused_command words (kind_of c.in-Err.error) none (subst P is among))
    ]

pub returns-then-has_option : goal.returns-then-has_option
returns-then-has_option c =
    sym (option_command (map string_bytes c.args.words.now)
    (sym (list_any-map is_option string_bytes c.args.words.now) ∙ sym c.has_option.ensures
    ∙ c.if-has_option.true))

use Rattle.std.proofs.Common.{map, ap, ◌∙◌}
use Rattle.std.specs.List.{flat_map}
use Rattle.script_text.specs.Grammar.{script_of}
use Rattle.script_spelling.specs.Spelling.{evm_lines, file_lines, script_text, setting_lines, super_line, work_lines}
use Rattle.script_spelling.proofs.Pieces.{halves_put}
use Rattle.script_print.proofs.ScriptAgain.{script_again}
use Rattle.script_print.proofs.script.print.Goals as goal

pub returns-clause-text : goal.returns-clause-text
unfolding script_text
returns-clause-text c =
    let s = c.args.script.now in
    halves_put c.new-out.result.items c.push_system.new.out.items c.push_work.new.out.items
    (setting_lines s) (evm_lines s) (map super_line s.supers) (flat_map file_lines s.files)
    (work_lines s) c.new-out.ensures.items c.in_ok-push_system.ensures
    c.in_ok-push_work.ensures.text

pub returns-clause-again : goal.returns-clause-again
returns-clause-again c =
    ap (λ t. script_of t) (returns-clause-text c)
    ∙ script_again c.args.script.now c.keeps.ensures c.in_ok-push_work.ensures.rules
    c.in_ok-push_work.ensures.tasks

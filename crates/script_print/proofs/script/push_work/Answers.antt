use Rattle.std.proofs.Common.{◌≡◌, ◌++◌, ℕ, Bor, List, map, ap, ◌∙◌, subst}
use Rattle.std.specs.List.{AllByRecursion, flat_map}
use Rattle.std.proofs.lemmas.Result.{on_ok_weaker}
use Rattle.policy_text.specs.rules.RuleValue.{RuleValue}
use Rattle.script_text.specs.Forms.{path_of_block}
use Rattle.script_text.specs.ScriptValue.{ScriptValue}
use Rattle.script_text.specs.declared.blocks.TaskBlock.{TaskBlock}
use Rattle.call_lines.specs.Lines.{line_text, lines_text}
use Rattle.call_lines.specs.Rules.{IsReadRule}
use Rattle.script_spelling.specs.Rules.{AreReadRules}
use Rattle.script_spelling.specs.Spelling.{ending_line, rule_line, task_lines}
use Rattle.script_spelling.proofs.Pieces.{text_of_flat, text_of_map, three_put}
use Rattle.script_print.proofs.script.push_work.Goals as goal

pub returns-clause-text : goal.returns-clause-text
returns-clause-text c =
    let s = c.args.script.now in
    let rules : c.rules.result.now ≡ s.rules =
    c.rules.ensures.rules ∙ ap (λ (v : ScriptValue). v.rules) c.script.view_is in
    let files : c.deref.result.now ≡ s.files =
    c.deref.ensures.value ∙ ap (λ (v : ScriptValue). v.files) c.script.view_is in
    let paths_are : map (λ p. p.now) c.deref-2.result.now ≡ map path_of_block s.files =
    ap (λ (ps : List (Bor (List ℕ))). map (λ p. p.now) ps) c.deref-2.ensures.value
    ∙ c.in_ok-paths.ensures ∙ ap (map path_of_block) files in
    let tasks : c.deref-3.result.now ≡ s.tasks =
    c.deref-3.ensures.value ∙ ap (λ (v : ScriptValue). v.tasks) c.script.view_is in
    let ending : c.script.inside.ending ≡ s.ending =
    ap (λ (v : ScriptValue). v.ending) c.script.view_is in
    let rule_text = flat_map (λ r. line_text (rule_line r)) c.rules.result.now in
    let task_text =
    flat_map (λ t. lines_text (task_lines (map (λ p. p.now) c.deref-2.result.now) t))
    c.deref-3.result.now in
    let rules_are : rule_text ≡ lines_text (map rule_line s.rules) =
    rw rules (text_of_map rule_line s.rules) in
    let paths = map path_of_block s.files in
    let tasks_are : task_text ≡ lines_text (flat_map (task_lines paths) s.tasks) =
    ap (λ ps. flat_map (λ t. lines_text (task_lines ps t)) c.deref-3.result.now) paths_are
    ∙ ap (λ ts. flat_map (λ t. lines_text (task_lines paths t)) ts) tasks
    ∙ text_of_flat (task_lines paths) s.tasks in
    on_ok_weaker c.push_ending.result
    (λ k. three_put c.args.out.now.items c.push_rules.new.out.items c.push_tasks.new.out.items
    c.push_ending.new.out.items (map rule_line s.rules) (flat_map (task_lines paths) s.tasks)
    rule_text task_text (ending_line s.ending) rules_are c.in_ok-push_rules.ensures.text tasks_are
    c.in_ok-push_tasks.ensures.text
    (k ∙ ap (λ e. c.push_tasks.new.out.items ++ line_text (ending_line e)) ending))
    c.push_ending.ensures

pub returns-clause-rules : goal.returns-clause-rules
returns-clause-rules c =
    let P : List RuleValue → Type 0 = λ l. AllByRecursion IsReadRule l in
    let rules : c.rules.result.now ≡ c.args.script.now.rules =
    c.rules.ensures.rules ∙ ap (λ (v : ScriptValue). v.rules) c.script.view_is in
    on_ok_weaker c.push_ending.result (λ k. subst P rules c.in_ok-push_rules.ensures.rules)
    c.push_ending.ensures

pub returns-clause-tasks : goal.returns-clause-tasks
returns-clause-tasks c =
    let Q : List TaskBlock → Type 0 = λ l. AllByRecursion AreReadRules l in
    let tasks : c.deref-3.result.now ≡ c.args.script.now.tasks =
    c.deref-3.ensures.value ∙ ap (λ (v : ScriptValue). v.tasks) c.script.view_is in
    on_ok_weaker c.push_ending.result (λ k. subst Q tasks c.in_ok-push_tasks.ensures.rules)
    c.push_ending.ensures

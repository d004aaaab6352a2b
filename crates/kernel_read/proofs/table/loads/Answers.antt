use Rattle.std.proofs.Common.{List, ℕ, ◌≡◌, ◌++◌, length, ◌∙◌, ap}
use Rattle.script_text.specs.ScriptValue.{ScriptValue}
use Rattle.script_text.specs.events.forms.Words.{text_of}
use Rattle.report_text.specs.Words.{Line}
use Rattle.run_laws.specs.model.EndedValue.{EndedValue}
use Rattle.kernel_read.specs.Lines.{table_text}
use Rattle.kernel_read.specs.Places.{calls_in}
use Rattle.kernel_read.specs.Table.{calls_of, loads_of, task_lines}
use Rattle.kernel_read.proofs.Printing.{table_is}
use Rattle.kernel_read.proofs.table.loads.Goals as goal

pub returns : goal.returns
returns c =
    let tasks : c.as_slice-tasks.result.now ≡ c.args.script.now.tasks =
    c.as_slice-tasks.ensures.value ∙ ap (λ (s : ScriptValue). s.tasks) c.script.view_is in
    let inodes : c.as_slice-inodes.result.now ≡ c.args.ended.now.inodes =
    c.as_slice-inodes.ensures.value ∙ ap (λ (e : EndedValue). e.inodes) c.ended.view_is in
    let ended : c.as_slice.result.now ≡ c.args.ended.now.tasks =
    c.as_slice.ensures.value ∙ ap (λ (e : EndedValue). e.tasks) c.ended.view_is in
    let same : task_lines c.as_slice-inodes.result.now 0 (calls_in c.as_slice-tasks.result.now)
    c.as_slice.result.now ≡ loads_of (calls_of c.args.script.now) c.args.ended.now =
    (λ i. task_lines (inodes i) 0 (calls_in (tasks i)) (ended i)) in
    let body : c.push_tasks.new.out.items
    ≡ text_of (loads_of (calls_of c.args.script.now) c.args.ended.now) =
    c.in_ok-count.ensures.text
    ∙ (λ i. c.new-lines.ensures.items i ++ text_of (same i)) in
    let count : c.in_ok-count.count
    ≡ length (loads_of (calls_of c.args.script.now) c.args.ended.now) =
    c.in_ok-count.ensures.count ∙ ap (λ (l : List Line). length l) same in
    c.in_ok-push_table.ensures
    ∙ ap (λ (l : List ℕ). l ++ table_text c.in_ok-count.count c.as_slice-3.result.now)
    c.new-out.ensures.items
    ∙ table_is c.in_ok-count.count c.as_slice-3.result.now
    (loads_of (calls_of c.args.script.now) c.args.ended.now) count
    (c.as_slice-3.ensures.value ∙ body)

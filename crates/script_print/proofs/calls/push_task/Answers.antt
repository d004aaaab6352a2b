use Rattle.std.proofs.Common.{map}
use Rattle.std.specs.List.{flat_map}
use Rattle.std.proofs.lemmas.Result.{on_ok_weaker}
use Rattle.call_lines.specs.Lines.{line_text}
use Rattle.call_lines.specs.Calls.{call_line}
use Rattle.script_spelling.specs.Spelling.{task_line}
use Rattle.script_spelling.proofs.Pieces.{block_put, text_of_map}
use Rattle.script_print.proofs.calls.push_task.Goals as goal

pub returns-clause-text : goal.returns-clause-text
returns-clause-text c =
    let line = call_line (map (λ p. p.now) c.args.paths.now) in
    let calls = c.args.task.now.calls in
    on_ok_weaker c.push_calls.result
    (λ k. block_put c.args.out.now.items c.push_cred.new.out.items c.push_calls.new.out.items
    (task_line c.args.task.now.cred) (map line calls)
    (flat_map (λ x. line_text (line x)) calls) c.in_ok-push_cred.ensures (text_of_map line calls)
    (rw c.as_slice.ensures at k)) c.push_calls.ensures.text

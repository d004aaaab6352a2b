use Rattle.std.proofs.Common.{List, ◌≡◌, ℕ, ◌+◌, ◌<◌, ◌++◌, length, drop, Some, refl, sym, ◌∙◌, ap, arith}
use Rattle.std.proofs.lemmas.Option.{slice_get-get_or}
use Rattle.script_text.specs.steps.declared.call.Call.{Call}
use Rattle.script_text.specs.steps.declared.reply.Reply.{Reply}
use Rattle.run_laws.specs.kernel_reads.Reads.{read_by}
use Rattle.kernel_read.specs.Table.{call_line, call_lines}
use Rattle.kernel_read.proofs.Printing.{count_end, count_on, no_replies, pairs_end, pairs_more, text_end, text_on}
use Rattle.kernel_read.proofs.lines.push_task.Goals as goal

pub loop-call-init : goal.loop-call-init
loop-call-init c = record { text = refl; count = omega arith; grows = omega arith }

pub push_call-requires : goal.push_call-requires
push_call-requires c =
    c.requires c.loop-call.call c.index-calls-call.result
    (slice_get-get_or c.args.calls.now c.loop-call.call c.index-calls-call.result
    (omega (arith, c.min-call-end.ensures, c.loop-call-test.true))
    ∙ ap (λ (x : Call). Some x) (sym c.index-calls-call.is))

pub loop-call-preserved : goal.loop-call-preserved
loop-call-preserved c =
    let k : ℕ = c.loop-call.call in
    let calls : List Call = c.args.calls.now in
    let replies : List Reply = c.args.replies.now in
    let a : c.loop-call.call < length c.args.calls.now =
    omega (arith, c.min-call-end.ensures, c.loop-call-test.true) in
    let b : c.loop-call.call < length c.args.replies.now =
    omega (arith, c.min-call-end.ensures, c.loop-call-test.true) in
    let parts : call_lines c.args.inodes.now c.args.task c.loop-call.call
    (drop c.loop-call.call c.args.calls.now) (drop c.loop-call.call c.args.replies.now)
    ≡ call_line c.args.inodes.now c.args.task c.loop-call.call c.index-calls-call.result
    c.index-replies-call.result (read_by c.index-calls-call.result)
    ++ call_lines c.args.inodes.now c.args.task (c.loop-call.call + 1)
    (drop (c.loop-call.call + 1) c.args.calls.now)
    (drop (c.loop-call.call + 1) c.args.replies.now) =
    pairs_more (call_lines c.args.inodes.now c.args.task)
    (λ n x r. call_line c.args.inodes.now c.args.task n x r (read_by x)) (λ n x xs r rs. refl)
    c.args.calls.now c.args.replies.now c.loop-call.call c.index-calls-call.result
    c.index-replies-call.result a b c.index-calls-call.is c.index-replies-call.is in
    record {
      text = text_on _ c.loop-call.out.items c.push_call.new.out.items _ _ _
          c.loop-call.invariant.text parts c.in_ok-lines.ensures.text;
      count = count_on c.loop-call.lines c.in_ok-lines.field-0 _ _ _ _
          c.loop-call.invariant.count parts c.in_ok-lines.ensures.count;
      grows = omega (arith, c.loop-call.invariant.grows, c.in_ok-lines.ensures.grows);
    }

pub returns-clause-text : goal.returns-clause-text
returns-clause-text c =
    text_end _ c.loop-call.out.items _
    (pairs_end (call_lines c.args.inodes.now c.args.task) (λ n rs. refl)
    (no_replies c.args.inodes.now c.args.task) c.args.calls.now c.args.replies.now c.loop-call.call
    (omega (arith, c.min-call-end.ensures, c.loop-call-test.false))) c.loop-call.invariant.text

pub returns-clause-count : goal.returns-clause-count
returns-clause-count c =
    count_end c.loop-call.lines _ _
    (pairs_end (call_lines c.args.inodes.now c.args.task) (λ n rs. refl)
    (no_replies c.args.inodes.now c.args.task) c.args.calls.now c.args.replies.now c.loop-call.call
    (omega (arith, c.min-call-end.ensures, c.loop-call-test.false))) c.loop-call.invariant.count

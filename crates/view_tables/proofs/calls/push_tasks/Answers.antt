use Rattle.std.proofs.Common.{ℕ, ◌+◌, List, ◌++◌, drop, get_or, ap, sym, ◌∙◌, arith}
use Rattle.std.proofs.lemmas.List.{at_drop_all, at_drop_more}
use Rattle.view_page.specs.journals.reading.Report.{TaskValue}
use Rattle.view_tables.specs.Calls.{task, tasks_from}
use Rattle.view_page.specs.Parts.{Pushed, page_of}
use Rattle.view_page.specs.declared.part.Part.{Part}
use Rattle.view_page.proofs.Joined.{as_parts, going, gone}
use Rattle.view_tables.proofs.calls.push_tasks.Goals as goal

pub loop-number-preserved : goal.loop-number-preserved
loop-number-preserved c =
    let text : List ℕ = c.args.text.now in
    let i : ℕ = c.loop-number.number in
    let t : TaskValue = c.index-tasks-number.result in
    let row : TaskValue → List Part
    = λ u. task text c.args.side c.args.shown.now c.args.inodes.now i u in
    let now : List ℕ = c.loop-number.out.items in
    let next : List ℕ = c.push_task.new.out.items in
    let pushed : Pushed text now next (row t) = c.in_ok-push_task.ensures in
    going text _ now next (row (get_or c.args.tasks.now i t))
    (tasks_from text c.args.side c.args.shown.now c.args.inodes.now (i + 1)
    (drop (i + 1) c.args.tasks.now))
    (as_parts pushed (ap row c.index-tasks-number.is))
    (ap (λ (ps : List Part). now ++ page_of text ps)
    (sym (at_drop_more (tasks_from text c.args.side c.args.shown.now c.args.inodes.now i)
    c.args.tasks.now i t c.loop-number-test.true))
    ∙ c.loop-number.invariant)

pub returns : goal.returns
returns c =
    gone c.args.text.now c.args.out.now.items c.loop-number.out.items
    (tasks_from c.args.text.now c.args.side c.args.shown.now c.args.inodes.now 0
    c.args.tasks.now) _
    (at_drop_all (tasks_from c.args.text.now c.args.side c.args.shown.now c.args.inodes.now
    c.loop-number.number) c.args.tasks.now c.loop-number.number (omega arith))
    c.loop-number.invariant

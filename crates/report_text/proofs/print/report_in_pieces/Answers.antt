use Rattle.std.proofs.Common.{◌≡◌, ap}
use Rattle.run_model.specs.EndedValue.{EndedValue}
use Rattle.report_text.specs.Report.{all_inode_lines, all_task_lines, appended_lines, head_lines, pcr_lines}
use Rattle.report_text.proofs.Pushed.{report_pushed}
use Rattle.report_text.proofs.print.report_in_pieces.Goals as goal

pub returns : goal.returns
returns c =
    let e = c.args.e in
    let grows_is : c.e.inside.grows ≡ e.grows = ap (λ (v : EndedValue). v.grows) c.e.view_is in
    let template_is : c.e.inside.template ≡ e.template =
    ap (λ (v : EndedValue). v.template) c.e.view_is in
    let inodes_are : c.e.inside.inodes.items ≡ e.inodes =
    ap (λ (v : EndedValue). v.inodes) c.e.view_is in
    let tasks_are : c.e.inside.tasks.items ≡ e.tasks =
    ap (λ (v : EndedValue). v.tasks) c.e.view_is in
    rw (
      c.in_ok-text.ensures,
      c.in_ok-first.ensures,
      grows_is,
      template_is,
      inodes_are,
      tasks_are,
    )
    (report_pushed (head_lines e) e.list (pcr_lines e.list e.banks)
    (appended_lines e.grows e.base e.rules)
    (all_inode_lines e.template e.grows 0 e.inodes) (all_task_lines 0 e.tasks))

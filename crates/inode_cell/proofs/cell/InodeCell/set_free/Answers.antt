use Rattle.std.proofs.Common.{Option, Some, ℕ, List, refl, ap, ◌∙◌}
use Rattle.inode_events.specs.declared.deed.Deed.TheVariants as deed
use Rattle.inode_events.specs.declared.told.Told.{Told}
use Rattle.inode_events.specs.NewestFirst.{newest_first}
use Rattle.inode_answers.specs.Answers.{set_told}
use Rattle.inode_cell.proofs.Acting.{acts_refused, same_self}
use Rattle.inode_events.specs.Says.{set_attr_told}
use Rattle.inode_cell.proofs.cell.InodeCell.set_free.Goals as goal

pub returns-in_default : goal.returns-in_default
returns-in_default c =
    let old = c.args.self.now in
    let told_at : List ℕ → Option (List ℕ) → Told = λ n v.
    set_attr_told old.inode n v c.args.admin (newest_first old.list) in
    let answer = c.attr_answer.ensures
    ∙ ap (λ (n : List ℕ). Some (told_at n c.get.result.now)) c.as_slice.ensures.bytes
    ∙ ap (λ (v : Option (List ℕ)). Some (told_at c.args.name v)) c.get.ensures in
    record {
      acts = λ list.
          acts_refused old old c.step.new.self list list c.args.pass.now c.step.new.pass c.args.who
          (deed.SetAttr c.args.name c.args.value c.args.admin) c.set_outcome.result
          (told_at c.args.name c.args.value) (set_told c.attr_answer.result) refl (same_self old)
          (c.set_outcome.ensures (told_at c.args.name c.args.value) answer) answer
          (c.step.ensures list);
      err = tt;
    }

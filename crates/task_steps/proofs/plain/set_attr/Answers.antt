-- The name and the value are copied from the call's.
use Rattle.std.proofs.Common.{◌≡◌, ℕ, Bool, List, Option, Some, sym, ◌∙◌, ap}
use Rattle.inode_events.specs.declared.deed.Deed.TheVariants as deed
use Rattle.std.specs.Option.{option_copied}
use Rattle.task_steps.proofs.Leaving.{acts_by, stays_by}
use Rattle.world_model.specs.inodes.answers.Answers.{set_told}
use Rattle.task_steps.proofs.plain.set_attr.Goals.{in-Some, in-None}
use Rattle.task_steps.proofs.plain.set_attr.Goals as goal

-- the deed with equal words
same_deed : {a b : List ℕ} {v w : Option (List ℕ)} (admin : Bool) → a ≡ b → v ≡ w
    → deed.SetAttr b w admin ≡ deed.SetAttr a v admin
same_deed admin name value = λ i. deed.SetAttr (sym name i) (sym value i) admin

pub returns : goal.returns
returns c = record {
  acts = acts_by c.args.cell.now c.set_attr.new.self c.args.pass.now c.set_attr.new.pass c.args.who
      set_told c.set_attr.result c.change_answer.result
      (same_deed c.args.cred.admin c.as_slice-2.ensures.bytes (elim c.match-get.branch [
        | in-Some w ↦ ap option_copied w.value-is
            ∙ ap Some w.as_slice.ensures.bytes
            ∙ sym w.in-Some.is ∙ c.get.ensures
        | in-None w ↦ ap option_copied w.value-is ∙ sym w.in-None.is ∙ c.get.ensures
      ])) c.change_answer.ensures c.set_attr.ensures.acts;
  err = stays_by _ set_told c.set_attr.result c.change_answer.result c.change_answer.ensures
      c.set_attr.ensures.err;
}

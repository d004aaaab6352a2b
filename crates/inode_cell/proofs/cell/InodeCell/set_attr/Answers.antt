use Rattle.std.proofs.Common.{◌≡◌, ℕ, false, List, sym, subst, ◌∙◌}
use Rattle.inode_events.specs.declared.deed.Deed.TheVariants as deed
use Rattle.inode_events.specs.NewestFirst.{newest_first}
use Rattle.inode_events.specs.Integrity.{collecting}
use Rattle.inode_answers.specs.Answers.{set_told}
use Rattle.inode_cell.proofs.Acting.{acts_from, blocked, same_value}
use Rattle.std.proofs.Common.{Option}
use Rattle.std.specs.Prelude.{IfOk, is_some}
use Rattle.std.proofs.lemmas.Result.{IfOk-weaker}
use Rattle.ima_templates.specs.declared.entry.Entry.{Entry}
use Rattle.inode_cell.specs.Acts.{Acts}
use Rattle.inode_cell.specs.Value.{CellValue}
use Rattle.inode_events.specs.Says.{set_attr_told}
use Rattle.std.specs.Option.{option_copied}
use Rattle.inode_cell.proofs.cell.InodeCell.set_attr.Goals as goal

pub returns-then-is_collecting-clause-acts : goal.returns-then-is_collecting-clause-acts
returns-then-is_collecting-clause-acts c = λ list.
    let v = c.args.self.now in
    c.block.ensures list c.args.who (deed.SetAttr c.args.name.now (option_copied c.args.value)
    c.args.cred.now.admin)
    (blocked (collecting v.inode (newest_first v.list)) (set_attr_told v.inode
    c.args.name.now (option_copied c.args.value) c.args.cred.now.admin (newest_first v.list)) (sym
    c.is_collecting.ensures ∙ c.if-is_collecting.true))

pub set_free-requires-clause-free : goal.set_free-requires-clause-free
set_free-requires-clause-free c =
    let room = c.in_ok-reserve.ensures in
    subst (λ (v : CellValue). is_some (collecting v.inode (newest_first v.list)) ≡ false)
    (sym (same_value c.args.self.now c.reserve.new.self room.list room.same))
    (sym c.is_collecting.ensures ∙ c.if-is_collecting.false)

pub returns-clause-acts : goal.returns-clause-acts
returns-clause-acts c =
    let old = c.args.self.now in
    let mid = c.reserve.new.self in
    let new = c.set_free.new.self in
    let admin = c.args.cred.now.admin in
    let room = c.in_ok-reserve.ensures in
    let Ends : CellValue → List ℕ → Option (List ℕ) → Type 0 = λ v n o.
    IfOk c.set_free.result (λ s. (list : List Entry) → Acts v new list list c.args.pass.now
    c.set_free.new.pass c.args.who (deed.SetAttr n o admin) (set_told s)) in
    let moved : Ends old c.in_ok-name.name c.in_ok-value.value = IfOk-weaker c.set_free.result
    (λ s. (list : List Entry) → Acts mid new list list c.args.pass.now c.set_free.new.pass
    c.args.who (deed.SetAttr c.in_ok-name.name c.in_ok-value.value admin) (set_told s))
    (λ s. (list : List Entry) → Acts old new list list c.args.pass.now c.set_free.new.pass
    c.args.who (deed.SetAttr c.in_ok-name.name c.in_ok-value.value admin) (set_told s))
    (λ s x list. acts_from old mid new list list c.args.pass.now c.set_free.new.pass c.args.who
    (deed.SetAttr c.in_ok-name.name c.in_ok-value.value admin) (set_told s) room.list room.same
    (x list)) c.set_free.ensures.acts in
    subst (λ (n : List ℕ). Ends old n (option_copied c.args.value)) c.in_ok-name.ensures.bytes
    (subst (Ends old c.in_ok-name.name) c.in_ok-value.ensures moved)

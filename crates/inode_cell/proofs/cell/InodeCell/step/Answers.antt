use Rattle.std.proofs.Common.{[], sym, subst, ◌∙◌}
use Rattle.ima_templates.specs.declared.entry.Placed.TheVariants.{Added}
use Rattle.inode_events.specs.NewestFirst.{newest_first}
use Rattle.inode_cell.specs.Acts.{IsPlain}
use Rattle.inode_cell.specs.Value.{CellValue}
use Rattle.inode_cell.proofs.Steps.{books_quiet, holds_on, outcome_quiet, placed_back}
use Rattle.inode_cell.proofs.cell.InodeCell.step.Goals as goal

plain : (c : goal.After-enter-arg-2-1)
    → IsPlain c.self.inside.kept.inode (newest_first c.self.inside.kept.list) c.args.who c.args.deed
    c.args.told c.args.facts.now
plain c = subst (λ (v : CellValue). IsPlain v.inode (newest_first v.list) c.args.who c.args.deed
    c.args.told c.args.facts.now) (sym c.self.view_is) c.requires.plain

pub enter-requires-clause-told : goal.enter-requires-clause-told
enter-requires-clause-told c =
    placed_back c.self.inside.kept.inode (newest_first c.self.inside.kept.list)
    (Added 0) c.args.deed c.args.told (plain c).told

pub invariant_of-self : goal.invariant_of-self
invariant_of-self c =
    let k = c.self.inside.kept in
    let p = newest_first k.list in
    let h = c.self.invariant in
    let x : IsPlain k.inode p c.args.who c.args.deed c.args.told c.args.facts.now = subst (λ (v :
    CellValue). IsPlain v.inode (newest_first v.list) c.args.who c.args.deed c.args.told
    c.args.facts.now) (sym c.self.view_is) c.requires.plain in
    rw c.enter.ensures.inode
    (holds_on k.inode k.list c.enter.new.self.list c.args.who c.args.deed c.args.told
    c.self.inside.content c.self.inside.content c.self.inside.attrs c.self.inside.attrs []
    c.self.inside.book.seen c.self.inside.book.seen c.self.inside.book.mine
    c.self.inside.book.mine
    h c.enter.ensures.list (h.content ∙ sym x.content) (h.attributes
    ∙ sym x.attributes) (books_quiet k.inode [] c.self.inside.book.seen c.self.inside.book.mine
    c.args.deed p x.quiet) (outcome_quiet k.inode [] c.args.deed p c.args.told x.quiet x.told))

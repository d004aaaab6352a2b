-- The attributes are rewritten, and the event is entered.
use Rattle.std.proofs.Common.{[], Option, Some, refl, sym, ap, subst, ◌∙◌}
use Rattle.std.specs.Option.{option_copied}
use Rattle.ima_templates.specs.declared.entry.Entry.{Entry}
use Rattle.ima_templates.specs.declared.entry.Placed.TheVariants.{Added}
use Rattle.inode_events.specs.Asked.{list_after}
use Rattle.inode_events.specs.NewestFirst.{newest_first}
use Rattle.inode_cell.specs.Acts.{Acts, IsChange}
use Rattle.inode_answers.specs.Changes.{rewritten}
use Rattle.inode_cell.specs.Fields.{value_of}
use Rattle.inode_cell.specs.Value.{CellValue}
use Rattle.inode_cell.proofs.Steps.{books_quiet, holds_on, outcome_quiet, placed_back}
use Rattle.inode_cell.proofs.cell.InodeCell.step_with.Goals as goal

change : (c : goal.After-enter-arg-2-1)
    → IsChange c.self.inside.kept.inode (newest_first c.self.inside.kept.list)
    c.args.who c.args.deed c.args.told c.args.facts.now (option_copied c.args.digest)
change c = subst (λ (v : CellValue). IsChange v.inode (newest_first v.list) c.args.who c.args.deed
    c.args.told c.args.facts.now (option_copied c.args.digest)) (sym c.self.view_is)
    c.requires.changes

pub enter-requires-clause-told : goal.enter-requires-clause-told
enter-requires-clause-told c =
    placed_back c.self.inside.kept.inode (newest_first c.self.inside.kept.list)
    (Added 0) c.args.deed c.args.told (change c).told

-- the invariant holds if memory ran out, since nothing changed
pub invariant_of-self : goal.invariant_of-self
invariant_of-self c = rw c.in_err-rewrite.ensures.err c.self.invariant

pub invariant_of-self-2 : goal.invariant_of-self-2
invariant_of-self-2 c =
    let k = c.self.inside.kept in
    let p = newest_first k.list in
    let h = c.self.invariant in
    let b = c.self.inside.book in
    let digest = option_copied c.args.digest in
    let x : IsChange k.inode p c.args.who c.args.deed c.args.told c.args.facts.now digest =
    subst (λ (v : CellValue). IsChange v.inode (newest_first v.list) c.args.who
    c.args.deed c.args.told
    c.args.facts.now (option_copied c.args.digest)) (sym c.self.view_is) c.requires.changes in
    let settings = c.settings.ensures in
    let meta = c.state.ensures.kept.meta in
    let attrs = h.attributes in
    let rewritten_is = c.in_ok-rewrite.ensures.ok
    ∙ (λ i. rewritten (settings i).evm c.args.deed digest (meta i) (attrs i)) in
    rw c.enter.ensures.inode
    (holds_on k.inode k.list c.enter.new.self.list c.args.who c.args.deed c.args.told
    c.self.inside.content c.self.inside.content c.self.inside.attrs c.rewrite.new.attrs []
    b.seen b.seen b.mine b.mine
    h c.enter.ensures.list (h.content ∙ sym x.content) (rewritten_is ∙ sym x.attributes)
    (books_quiet k.inode [] b.seen b.mine c.args.deed p x.quiet)
    (outcome_quiet k.inode [] c.args.deed p c.args.told x.quiet x.told))

pub returns-clause-acts : goal.returns-clause-acts
returns-clause-acts c = λ list.
    let k = c.self.inside.kept in
    let p = newest_first k.list in
    let x : IsChange k.inode p c.args.who c.args.deed c.args.told c.args.facts.now (option_copied
    c.args.digest) = subst (λ (v : CellValue). IsChange v.inode (newest_first v.list) c.args.who
    c.args.deed c.args.told c.args.facts.now (option_copied c.args.digest)) (sym c.self.view_is)
    c.requires.changes in
    let entered = c.enter.ensures in
    let new : CellValue = value_of (record c.self.inside {
      kept = c.enter.new.self;
      attrs = c.rewrite.new.attrs;
    }) in
    subst (λ (v : CellValue). Acts v new list list c.args.pass.now c.enter.new.pass c.args.who
    c.args.deed (Some c.args.told)) c.self.view_is
    (record {
      told = sym (outcome_quiet k.inode list c.args.deed p c.args.told x.quiet x.told);
      journal = entered.list;
      book = sym (ap (λ (o : Option Entry). list_after list o (Some c.args.told)) x.quiet);
      seen = entered.seen;
      mine = entered.mine;
      pass_name = entered.pass.0;
      pass_number = entered.pass.1;
      same = record {
        inode = entered.inode;
        journal = entered.same.0;
        callers = entered.same.1;
        book = refl;
        booked = refl;
      };
    })

use Rattle.std.proofs.Common.{◌≡◌, ◌+◌, [], Some, ℕ, List, length, refl, sym, ap, subst, ◌∙◌}
use Rattle.inode_events.specs.Says.{write_told}
use Rattle.inode_events.specs.State.{content_after}
use Rattle.inode_events.specs.declared.deed.Deed.{Deed}
use Rattle.inode_events.specs.declared.deed.Deed.TheVariants as deed
use Rattle.inode_pages.specs.Content.{overwritten}
use Rattle.inode_answers.specs.Answers.{wrote_told}
use Rattle.inode_cell.specs.Acts.{Acts}
use Rattle.inode_cell.specs.Fields.{value_of}
use Rattle.inode_cell.specs.Value.{CellValue}
use Rattle.inode_cell.proofs.Acting.{acts_inside}
use Rattle.inode_cell.proofs.Steps.{holds_on}
use Rattle.inode_cell.proofs.WritingLemmas.{told_by, too_big_copy, unchanged, wrote_content}
use Rattle.inode_cell.proofs.cell.InodeCell.write.Goals as goal

pub enter-requires-clause-told : goal.enter-requires-clause-told
enter-requires-clause-told c =
    told_by c.write.result c.in_ok-wrote.wrote (c.args.from + length c.in_ok-copy.copy)
    c.wrote_told-told.result c.in_ok-wrote.ensures.ok
    (too_big_copy c.write.result c.args.from _ _ c.in_ok-copy.ensures.bytes c.write.ensures.too_big)
    c.wrote_told-told.ensures

-- the invariant holds if memory ran out, since nothing changed
pub invariant_of-self : goal.invariant_of-self
invariant_of-self c = rw (unchanged c.write.result c.self.inside.content c.write.new.self
    c.in_err-wrote.ensures.err c.write.ensures.err) c.self.invariant

pub invariant_of-self-2 : goal.invariant_of-self-2
invariant_of-self-2 c =
    let k = c.self.inside.kept in
    let h = c.self.invariant in
    let b = c.self.inside.book in
    let old : List ℕ = c.self.inside.content in
    let d : Deed = deed.Write c.args.file c.args.from c.in_ok-copy.copy in
    let told_is : Some (write_told (c.args.from + length c.in_ok-copy.copy))
    ≡ Some c.wrote_told-told.result =
    told_by c.write.result c.in_ok-wrote.wrote _ _ c.in_ok-wrote.ensures.ok
    (too_big_copy c.write.result c.args.from _ _ c.in_ok-copy.ensures.bytes c.write.ensures.too_big)
    c.wrote_told-told.ensures in
    rw c.enter.ensures.inode
    (holds_on k.inode k.list c.enter.new.self.list c.args.who d c.wrote_told-told.result old
    c.write.new.self c.self.inside.attrs c.self.inside.attrs [] b.seen b.seen b.mine b.mine
    h c.enter.ensures.list
    (wrote_content c.write.result c.in_ok-wrote.wrote d old c.write.new.self
    (overwritten old c.args.from c.args.bytes.now) c.in_ok-wrote.ensures.ok c.write.ensures.ok
    c.write.ensures.err (ap (overwritten old c.args.from) c.in_ok-copy.ensures.bytes) refl
    ∙ (λ j. content_after d (sym c.wrote_told-told.ensures j) (h.content j)))
    h.attributes (refl, refl) told_is)

pub returns-clause-acts : goal.returns-clause-acts
returns-clause-acts c = λ list.
    let x = c.self.inside in
    let room = c.in_ok-reserve.ensures in
    let entered = c.enter.ensures in
    let d : Deed = deed.Write c.args.file c.args.from c.in_ok-copy.copy in
    let said : Some c.wrote_told-told.result
    ≡ Some (write_told (c.args.from + length c.in_ok-copy.copy)) =
    sym (told_by c.write.result c.in_ok-wrote.wrote _ _ c.in_ok-wrote.ensures.ok
    (too_big_copy c.write.result c.args.from _ _ c.in_ok-copy.ensures.bytes c.write.ensures.too_big)
    c.wrote_told-told.ensures) in
    let new : CellValue =
    value_of (record x { kept = c.enter.new.self; content = c.write.new.self }) in
    subst (λ (y : List ℕ). Acts c.args.self.now new list list c.args.pass.now c.enter.new.pass
    c.args.who (deed.Write c.args.file c.args.from y) (Some (wrote_told c.in_ok-wrote.wrote)))
    c.in_ok-copy.ensures.bytes
    (acts_inside c.args.self.now c.reserve.new.self (value_of x) new list list c.args.pass.now
    c.enter.new.pass c.args.who d c.wrote_told-told.result (wrote_told c.in_ok-wrote.wrote)
    room.list room.same c.self.view_is c.wrote_told-told.ensures
    (record {
      told = said;
      journal = entered.list;
      book = refl;
      seen = entered.seen;
      mine = entered.mine;
      pass_name = entered.pass.0;
      pass_number = entered.pass.1;
      same = record {
        inode = entered.inode;
        journal = entered.same.0;
        callers = entered.same.1;
        book = refl;
        booked = refl;
      };
    }))

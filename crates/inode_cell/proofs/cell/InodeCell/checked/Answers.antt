-- A check enters the violation that it finds.
use Rattle.std.proofs.Common.{◌≡◌, List, Option, Some, sym, ◌∙◌, ap, subst}
use Rattle.ima_templates.specs.declared.entry.Entry.{Entry}
use Rattle.inode_events.specs.Asked.{asked, list_after, outcome, placed_for}
use Rattle.inode_events.specs.NewestFirst.{newest_first}
use Rattle.inode_events.specs.declared.deed.Deed.{Deed}
use Rattle.inode_events.specs.declared.deed.Deed.TheVariants as deed
use Rattle.inode_events.specs.declared.told.Told.{Told}
use Rattle.inode_state.specs.laws_of_journals.Booked.{Books}
use Rattle.inode_cell.specs.Acts.{Acts}
use Rattle.inode_cell.specs.Fields.{value_of}
use Rattle.inode_cell.specs.Value.{CellValue, IsSameCell}
use Rattle.inode_cell.proofs.Acting.{acts_from}
use Rattle.inode_cell.proofs.CheckLemmas.{Enters, entering, with_same}
use Rattle.inode_cell.proofs.Steps.{holds_on, placed_back}
use Rattle.inode_cell.proofs.cell.InodeCell.checked.Goals as goal

pub enter-requires-clause-told : goal.enter-requires-clause-told
enter-requires-clause-told c =
    let k = c.self-2.inside.kept in
    let p = newest_first k.list in
    let d : Deed = deed.Check c.args.file c.args.func c.args.action.now c.args.rules in
    let l = c.reserve_with.new.book.list in
    let e = c.in_ok-entry.entry in
    let t : Told = c.found_told-told.result in
    let enters : Enters k.inode p d l e t =
    entering _ _ _ (value_of c.self-2.inside) c.args.file c.args.func c.args.action.now c.args.rules
    _ _ c.found-found.result _ l e _ _ t c.self.view_is c.requires.may.may c.how_at.ensures
    c.counts_as-writing.ensures c.found-found.ensures c.in_ok-entry.ensures
    c.in_ok-reserve_with.ensures.list c.in_ok-reserve_with.ensures.same c.self-2.view_is
    c.list_asked-placed.ensures.placed c.place_of.ensures c.found_at-found.ensures
    c.found_told-told.ensures in
    placed_back k.inode p (placed_for l (asked k.inode d p)) d t enters.told

pub invariant_of-self : goal.invariant_of-self
invariant_of-self c =
    let k = c.self-2.inside.kept in
    let p = newest_first k.list in
    let d : Deed = deed.Check c.args.file c.args.func c.args.action.now c.args.rules in
    let l = c.reserve_with.new.book.list in
    let e = c.in_ok-entry.entry in
    let t : Told = c.found_told-told.result in
    let enters : Enters k.inode p d l e t =
    entering _ _ _ (value_of c.self-2.inside) c.args.file c.args.func c.args.action.now c.args.rules
    _ _ c.found-found.result _ l e _ _ t c.self.view_is c.requires.may.may c.how_at.ensures
    c.counts_as-writing.ensures c.found-found.ensures c.in_ok-entry.ensures
    c.in_ok-reserve_with.ensures.list c.in_ok-reserve_with.ensures.same c.self-2.view_is
    c.list_asked-placed.ensures.placed c.place_of.ensures c.found_at-found.ensures
    c.found_told-told.ensures in
    let h = c.self-2.invariant in
    let b = c.self-2.inside.book in
    rw c.enter.ensures.inode
    (holds_on k.inode k.list c.enter.new.self.list c.args.who d t c.self-2.inside.content
    c.self-2.inside.content c.self-2.inside.attrs c.self-2.inside.attrs l
    b.seen c.list_asked-placed.new.pass.seen b.mine c.list_asked-placed.new.pass.mine h
    c.enter.ensures.list h.content h.attributes
    (subst (λ (o : Option Entry). Books l o b.seen c.list_asked-placed.new.pass.seen b.mine
    c.list_asked-placed.new.pass.mine) enters.entry c.list_asked-placed.ensures.books)
    enters.told)

pub returns-clause-acts : goal.returns-clause-acts
returns-clause-acts c =
    let k = c.self-2.inside.kept in
    let p = newest_first k.list in
    let d : Deed = deed.Check c.args.file c.args.func c.args.action.now c.args.rules in
    let l = c.reserve_with.new.book.list in
    let e = c.in_ok-entry.entry in
    let t : Told = c.found_told-told.result in
    let enters : Enters k.inode p d l e t =
    entering _ _ _ (value_of c.self-2.inside) c.args.file c.args.func c.args.action.now c.args.rules
    _ _ c.found-found.result _ l e _ _ t c.self.view_is c.requires.may.may c.how_at.ensures
    c.counts_as-writing.ensures c.found-found.ensures c.in_ok-entry.ensures
    c.in_ok-reserve_with.ensures.list c.in_ok-reserve_with.ensures.same c.self-2.view_is
    c.list_asked-placed.ensures.placed c.place_of.ensures c.found_at-found.ensures
    c.found_told-told.ensures in
    let old = c.args.self.now in
    let mid : CellValue = value_of c.self-2.inside in
    let book = c.args.book.now.list in
    let new : CellValue = value_of (record {
      kept = c.enter.new.self;
      book =
          c.list_asked-placed.new.pass;
      content = c.self-2.inside.content;
      attrs =
          c.self-2.inside.attrs;
      alloc = c.self-2.inside.alloc;
    }) in
    let same_list : l ≡ book = c.in_ok-reserve_with.ensures.book.list in
    let inner : Acts mid new book c.list_asked-placed.new.book.list c.args.pass.now
    c.enter.new.pass c.args.who d (Some t) = record {
      told = sym (subst (λ (x : List Entry). outcome k.inode x d p ≡ Some t) same_list enters.told);
      journal = c.enter.ensures.list;
      book = c.list_asked-placed.ensures.list ∙ with_same l e t
          ∙ (λ j. list_after (same_list j) (enters.entry j) (Some t));
      seen = c.enter.ensures.seen;
      mine = c.enter.ensures.mine;
      pass_name = c.enter.ensures.pass.0;
      pass_number = c.enter.ensures.pass.1;
      same = record {
        inode = c.enter.ensures.inode;
        journal = c.enter.ensures.same.0;
        callers =
            c.enter.ensures.same.1;
        book = c.list_asked-placed.ensures.same_pass.0;
        booked =
            c.list_asked-placed.ensures.same_pass.1;
      };
    } in
    let mid_list : mid.list ≡ old.list = ap (λ (v : CellValue). v.list) c.self-2.view_is
    ∙ c.in_ok-reserve_with.ensures.list in
    let mid_same : IsSameCell old mid = subst (λ (v : CellValue). IsSameCell old v) (sym
    c.self-2.view_is) c.in_ok-reserve_with.ensures.same in
    let outer = acts_from old mid new book c.list_asked-placed.new.book.list c.args.pass.now
    c.enter.new.pass c.args.who d (Some t) mid_list mid_same inner in
    subst (λ (x : Told). Acts old new book c.list_asked-placed.new.book.list c.args.pass.now
    c.enter.new.pass c.args.who d (Some x)) c.found_told-told.ensures outer

-- The attributes are mended, the entry is listed, and the event is entered.
use Rattle.std.proofs.Common.{◌≡◌, Option, Some, sym, ◌∙◌, ap, subst}
use Rattle.ima_templates.specs.declared.entry.Entry.{Entry}
use Rattle.ima_templates.specs.declared.entry.Placed.{Placed}
use Rattle.inode_events.specs.Asked.{asked, list_after, outcome, placed_for}
use Rattle.inode_events.specs.Grants.{placed_if_measured}
use Rattle.inode_events.specs.Integrity.{attributes, fixed_by}
use Rattle.inode_events.specs.NewestFirst.{newest_first}
use Rattle.inode_events.specs.State.{metadata}
use Rattle.inode_events.specs.declared.told.Grant.{Grant}
use Rattle.inode_events.specs.declared.told.Told.TheVariants as told
use Rattle.inode_state.specs.laws_of_journals.Booked.{Books}
use Rattle.inode_answers.specs.Changes.{mended_on}
use Rattle.inode_cell.specs.Acts.{Acts}
use Rattle.inode_cell.specs.Fields.{value_of}
use Rattle.inode_cell.specs.Granting.{IsEntering, placing}
use Rattle.inode_cell.specs.Value.{CellValue}
use Rattle.inode_cell.proofs.CheckLemmas.{with_same}
use Rattle.inode_cell.proofs.GrantLemmas.{mended_is}
use Rattle.inode_cell.proofs.Steps.{holds_on, placed_back}
use Rattle.inode_cell.proofs.cell.InodeCell.enter_grant.Goals as goal

pub enter-requires-clause-facts : goal.enter-requires-clause-facts
enter-requires-clause-facts c =
    let gr : IsEntering c.self.inside.kept.inode (newest_first c.self.inside.kept.list) c.args.who
    c.args.deed c.args.action.now c.args.digest.now c.args.grant c.args.entry c.args.facts.now =
    subst (λ (v : CellValue). IsEntering v.inode (newest_first v.list) c.args.who c.args.deed
    c.args.action.now c.args.digest.now c.args.grant c.args.entry c.args.facts.now)
    (sym c.self.view_is) c.requires.enters in
    gr.facts (record c.args.grant { placed = c.placed_if_measured.result })

pub enter-requires-clause-told : goal.enter-requires-clause-told
enter-requires-clause-told c =
    let i = c.self.inside.kept.inode in
    let p = newest_first c.self.inside.kept.list in
    let gr : IsEntering i p c.args.who c.args.deed c.args.action.now c.args.digest.now c.args.grant
    c.args.entry c.args.facts.now =
    subst (λ (v : CellValue). IsEntering v.inode (newest_first v.list) c.args.who c.args.deed
    c.args.action.now c.args.digest.now c.args.grant c.args.entry c.args.facts.now)
    (sym c.self.view_is) c.requires.enters in
    placed_back i p c.list_asked-placed.result c.args.deed (told.Grant (record c.args.grant {
      placed = c.placed_if_measured.result;
    })) (gr.tells c.list_asked-placed.result ∙ sym (λ j. Some (told.Grant (record c.args.grant {
      placed = c.placed_if_measured.ensures j;
    }))))

-- the invariant holds if memory ran out, since nothing changed
pub invariant_of-self : goal.invariant_of-self
invariant_of-self c = rw c.in_err-mend_on.ensures.err c.self.invariant

pub invariant_of-self-2 : goal.invariant_of-self-2
invariant_of-self-2 c =
    let k = c.self.inside.kept in
    let i = k.inode in
    let p = newest_first k.list in
    let h = c.self.invariant in
    let b = c.self.inside.book in
    let l = c.args.book.now.list in
    let digest = c.args.digest.now in
    let mends = c.args.grant.labelled in
    let gr : IsEntering i p c.args.who c.args.deed c.args.action.now digest c.args.grant
    c.args.entry c.args.facts.now =
    subst (λ (v : CellValue). IsEntering v.inode (newest_first v.list) c.args.who c.args.deed
    c.args.action.now digest c.args.grant c.args.entry c.args.facts.now)
    (sym c.self.view_is) c.requires.enters in
    let g : Grant = record c.args.grant { placed = c.placed_if_measured.result } in
    let meta_is : c.meta-meta.result ≡ metadata p =
    subst (λ (v : CellValue). c.meta-meta.result ≡ metadata (newest_first v.list))
    (sym c.self.view_is) c.meta-meta.ensures in
    let evm_is = c.settings.ensures in
    let attrs_is = h.attributes in
    let fixed_is : c.mend_on.new.attrs ≡ fixed_by i mends (Some digest) (metadata p)
    (attributes i p) = c.in_ok-mend_on.ensures.ok
    ∙ (λ j. mended_on (evm_is j).evm mends digest (meta_is j) (attrs_is j))
    ∙ mended_is i mends digest (metadata p) (attributes i p) in
    let placed : Placed = placed_for l (asked i c.args.deed p) in
    let placed_is : c.list_asked-placed.result ≡ placed = c.list_asked-placed.ensures.placed
    ∙ ap (placed_for l) gr.lists in
    let grant_is : placing c.args.action.now placed c.args.grant ≡ g =
    sym (λ j. record c.args.grant {
      placed = (c.placed_if_measured.ensures
          ∙ ap (placed_if_measured c.args.action.now) placed_is) j;
    }) in
    let told_is : outcome i l c.args.deed p ≡ Some (told.Grant g) = gr.tells placed
    ∙ ap (λ (x : Grant). Some (told.Grant x)) grant_is in
    rw c.enter.ensures.inode
    (holds_on i k.list c.enter.new.self.list c.args.who c.args.deed (told.Grant g)
    c.self.inside.content c.self.inside.content c.self.inside.attrs c.mend_on.new.attrs l
    b.seen c.list_asked-placed.new.pass.seen b.mine c.list_asked-placed.new.pass.mine h
    c.enter.ensures.list (h.content ∙ sym (gr.keeps g))
    (fixed_is ∙ sym (gr.leaves g))
    (subst (λ (o : Option Entry). Books l o b.seen c.list_asked-placed.new.pass.seen b.mine
    c.list_asked-placed.new.pass.mine) gr.lists c.list_asked-placed.ensures.books)
    told_is)

pub returns-clause-acts : goal.returns-clause-acts
returns-clause-acts c =
    let x = c.self.inside in
    let i = x.kept.inode in
    let p = newest_first x.kept.list in
    let l = c.args.book.now.list in
    let d = c.args.deed in
    let gr : IsEntering i p c.args.who d c.args.action.now c.args.digest.now c.args.grant
    c.args.entry c.args.facts.now =
    subst (λ (v : CellValue). IsEntering v.inode (newest_first v.list) c.args.who d
    c.args.action.now c.args.digest.now c.args.grant c.args.entry c.args.facts.now)
    (sym c.self.view_is) c.requires.enters in
    let g : Grant = record c.args.grant { placed = c.placed_if_measured.result } in
    let listed = c.list_asked-placed.ensures in
    let entered = c.enter.ensures in
    let placed_is : c.list_asked-placed.result ≡ placed_for l (asked i d p) = listed.placed
    ∙ ap (placed_for l) gr.lists in
    let told_is : outcome i l d p ≡ Some (told.Grant g) = gr.tells (placed_for l (asked i d p))
    ∙ sym (λ j. Some (told.Grant (record c.args.grant {
      placed = (c.placed_if_measured.ensures
          ∙ ap (placed_if_measured c.args.action.now) placed_is) j;
    }))) in
    let new : CellValue = value_of (record x {
      kept = c.enter.new.self;
      book = c.list_asked-placed.new.pass;
      attrs = c.mend_on.new.attrs;
    }) in
    subst (λ (v : CellValue). Acts v new l c.list_asked-placed.new.book.list c.args.pass.now
    c.enter.new.pass c.args.who d (Some (told.Grant g))) c.self.view_is
    (record {
      told = sym told_is;
      journal = entered.list;
      book = listed.list ∙ with_same l c.args.entry (told.Grant g)
          ∙ ap (λ (o : Option Entry). list_after l o (Some (told.Grant g))) gr.lists;
      seen = entered.seen;
      mine = entered.mine;
      pass_name = entered.pass.0;
      pass_number = entered.pass.1;
      same = record {
        inode = entered.inode;
        journal = entered.same.0;
        callers = entered.same.1;
        book = listed.same_pass.0;
        booked = listed.same_pass.1;
      };
    })

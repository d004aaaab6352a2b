-- The parts of an inode are those of its fields.
use Rattle.std.proofs.Common.{◌≡◌, List, ap, ◌∙◌, subst}
use Rattle.std.specs.Prelude.{OnOk}
use Rattle.view_page.specs.journals.reading.Report.{InodeValue}
use Rattle.view_page.specs.journals.reading.words.declared.event.Event.{Event}
use Rattle.view_page.specs.journals.reading.words.declared.event.Span.{Span}
use Rattle.view_page.specs.journals.reading.lines.declared.report.InodeHead.{InodeHead}
use Rattle.view_pages.specs.Pair.{side_by}
use Rattle.view_page.specs.Parts.{Pushed}
use Rattle.view_pages.proofs.pair.push_side.Goals as goal

pub returns : goal.returns
returns c =
    let i = c.args.inode.now in
    let o = c.args.other.now in
    let head_is : c.inode.inside.head ≡ i.head =
    ap (λ (v : InodeValue). v.head) c.inode.view_is in
    let attrs_are : c.deref.result.now ≡ i.attrs =
    c.deref.ensures.value ∙ ap (λ (v : InodeValue). v.attrs) c.inode.view_is in
    let events_are : c.deref-2.result.now ≡ i.events =
    c.deref-2.ensures.value ∙ ap (λ (v : InodeValue). v.events) c.inode.view_is in
    let others_are : c.deref-3.result.now ≡ o.events =
    c.deref-3.ensures.value ∙ ap (λ (v : InodeValue). v.events) c.other.view_is in
    subst (λ (x : InodeHead × (List Span × (List Event × List Event))).
    OnOk c.push_side_by.result
    (Pushed c.args.text.now c.args.out.now.items c.push_side_by.new.out.items
    (side_by c.args.text.now c.args.view x.0 x.1.0 x.1.1.0 x.1.1.1)))
    (λ k. (head_is k, (attrs_are k, (events_are k, others_are k)))) c.push_side_by.ensures

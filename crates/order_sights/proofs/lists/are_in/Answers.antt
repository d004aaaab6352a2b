use Rattle.std.proofs.Common.{List, subst}
use Rattle.std.specs.Prelude.{All}
use Rattle.std.proofs.lemmas.List.{take_all}
use Rattle.std.proofs.lemmas.List.Elements.{All-more}
use Rattle.inode_events.specs.templates.declared.entry.Entry.{Entry}
use Rattle.order_outcomes.specs.alike.Alike.{IsIn}
use Rattle.order_sights.proofs.Listing.{all_at}
use Rattle.order_sights.proofs.lists.are_in.Goals as goal

pub loop-entry-preserved : goal.loop-entry-preserved
loop-entry-preserved c =
    All-more (IsIn c.args.list.now) c.args.other.now c.loop-entry.entry-index
    c.entry-item.result c.loop-entry-test.true c.loop-entry.invariant
    (subst (λ (e : Entry). IsIn c.args.list.now e) c.entry-item.is
    (c.is_in.ensures c.if-not-is_in.false))

pub returns : goal.returns
returns c = λ _.
    all_at (IsIn c.args.list.now) c.args.other.now
    (subst (λ (es : List Entry). All (IsIn c.args.list.now) es)
    (take_all c.loop-entry.entry-index c.args.other.now c.loop-entry-test.false)
    c.loop-entry.invariant)

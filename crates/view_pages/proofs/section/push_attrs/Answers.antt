use Rattle.std.proofs.Common.{take}
use Rattle.view_pages.specs.Section.{attr}
use Rattle.view_page.proofs.Joined.{no_parts, one_more}
use Rattle.view_pages.proofs.section.push_attrs.Goals as goal

pub loop-line-init : goal.loop-line-init
loop-line-init c = no_parts c.args.text.now c.args.out.now.items

pub loop-line-preserved : goal.loop-line-preserved
loop-line-preserved c =
    one_more (attr c.args.text.now) (take c.min.result c.args.lines.now) c.loop-line.line-index
    (record { at = 0; len = 0 }) c.loop-line-test.true c.loop-line.invariant
    c.in_ok-push_attr.ensures

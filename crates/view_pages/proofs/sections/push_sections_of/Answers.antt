use Rattle.std.proofs.Common.{ap}
use Rattle.std.proofs.lemmas.List.{take_all}
use Rattle.view_pages.specs.Sections.{section_at, sections_of}
use Rattle.view_page.proofs.Joined.{as_parts, no_parts, one_more}
use Rattle.view_pages.proofs.sections.push_sections_of.Goals as goal

pub loop-number-init : goal.loop-number-init
loop-number-init c = no_parts c.args.text.now c.args.out.now.items

pub loop-number-preserved : goal.loop-number-preserved
loop-number-preserved c =
    one_more (section_at c.args.text.now c.args.detail c.args.side c.args.shown.now
    c.args.inodes.now)
    c.args.order.now c.loop-number.number-index 0 c.loop-number-test.true
    c.loop-number.invariant c.in_ok-push_section_at.ensures

pub returns : goal.returns
returns c =
    as_parts c.loop-number.invariant
    (ap (sections_of c.args.text.now c.args.detail c.args.side c.args.shown.now c.args.inodes.now)
    (take_all c.loop-number.number-index c.args.order.now c.loop-number-test.false))

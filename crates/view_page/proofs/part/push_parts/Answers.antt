use Rattle.std.proofs.Common.{arith, rules}
use Rattle.std.proofs.lemmas.Grind.{common_steps}
use Rattle.view_page.specs.Parts.{page_of}
use Rattle.view_page.proofs.part.push_parts.Goals as goal

pub loop-part-init : goal.loop-part-init
unfolding page_of
loop-part-init c = search rules

pub loop-part-preserved : goal.loop-part-preserved
unfolding page_of
loop-part-preserved c = grind (arith, common_steps)

pub returns : goal.returns
unfolding page_of
returns c = record { is = grind (arith, common_steps) }

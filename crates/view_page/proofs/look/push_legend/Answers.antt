use Rattle.view_page.specs.Look.{legend}
use Rattle.view_page.proofs.look.push_legend.Goals as goal

pub returns : goal.returns
unfolding legend
returns c = c.push_lines.ensures

use Rattle.view_page.specs.Look.{style}
use Rattle.view_page.proofs.look.push_style.Goals as goal

pub returns : goal.returns
unfolding style
returns c = c.push_lines.ensures

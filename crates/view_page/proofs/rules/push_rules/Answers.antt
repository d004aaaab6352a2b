use Rattle.view_page.specs.Rules.{rules}
use Rattle.view_page.proofs.rules.push_rules.Goals as goal

pub returns : goal.returns
unfolding rules
returns c = c.push_lines.ensures

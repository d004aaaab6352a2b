use Rattle.view_pages.proofs.InWindows.{drawn_in}
use Rattle.view_pages.proofs.law.links_lead_to_drawn_events.Goals as goal

pub returns : goal.returns
returns c = drawn_in

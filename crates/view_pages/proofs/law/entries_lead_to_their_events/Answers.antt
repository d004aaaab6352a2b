use Rattle.view_pages.proofs.Links.{entries_lead}
use Rattle.view_pages.proofs.law.entries_lead_to_their_events.Goals as goal

pub returns : goal.returns
returns c = entries_lead

use Rattle.view_pages.proofs.Links.{calls_lead}
use Rattle.view_pages.proofs.law.calls_lead_to_their_events.Goals as goal

pub returns : goal.returns
returns c = calls_lead

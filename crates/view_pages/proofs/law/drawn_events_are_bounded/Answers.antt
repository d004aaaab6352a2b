use Rattle.view_pages.proofs.Bounded.{is_bounded}
use Rattle.view_pages.proofs.law.drawn_events_are_bounded.Goals as goal

pub returns : goal.returns
returns c = is_bounded

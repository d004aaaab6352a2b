use Rattle.view_drawing.proofs.Marks.{each_event_has_one_mark}
use Rattle.view_drawing.proofs.law.each_event_has_one_mark.Goals as goal

pub returns : goal.returns
returns c = each_event_has_one_mark

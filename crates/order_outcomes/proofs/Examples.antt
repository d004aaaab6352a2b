-- The examples, each by computing.
use Rattle.std.proofs.Common.{refl}
use Rattle.report_text.specs.Numerals.{numeral}
use Rattle.report_text.specs.model.events.NewestFirst.{newest_first}
use Rattle.order_outcomes.specs.Examples.{OrderExamples}

pub examples : OrderExamples
unfolding newest_first numeral
examples = record {
  none = refl;
  post_first = refl;
  blocked = refl;
  unfinished = refl;
  whole = refl;
  over = refl;
  mixed = refl;
  short = refl;
  stuck = refl;
  six = refl;
  first = refl;
  among = refl;
  again = refl;
  place = refl;
  no_place = refl;
  verdict = refl;
  no_verdict = refl;
  other_task = refl;
  unlisted = refl;
  no_read = refl;
  shows_none = refl;
  not_measured = refl;
  not_violated = refl;
  lines = refl;
  tasks = refl;
}

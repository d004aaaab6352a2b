-- The examples, each by computing.
use Rattle.std.proofs.Common.{refl}
use Rattle.order_counts.specs.Examples.{CountExamples}

pub examples : CountExamples
examples = record {
  mixed = refl;
  one = refl;
  resting = refl;
  short = refl;
  nowhere = refl;
  whole = refl;
  unfinished = refl;
  blocked = refl;
  unnamed = refl;
  there = refl;
  stuck = refl;
  rested = refl;
  moving = refl;
  among = refl;
  not_among = refl;
  apart = refl;
  twins = refl;
  earlier = refl;
  later = refl;
  longer = refl;
  itself = refl;
  all_ways = refl;
  some_ways = refl;
  no_ways = refl;
  all_rows = refl;
  some_rows = refl;
  no_outcome = refl;
  from_none = refl;
  one_more = refl;
  joined_first = refl;
  joined_second = refl;
  sums = refl;
}

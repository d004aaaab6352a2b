-- Walks over a journal in a loop: one more event at each place.
use Rattle.std.proofs.Common.{◌≡◌, ℕ, ◌+◌, ◌<◌, ◌^◌, length, arith}
use Rattle.view_journal.specs.Walk.{IsSmall, Walk, walked}
use Rattle.report_read.specs.words.declared.event.Deed.TheVariants as deed
use Rattle.report_read.specs.words.declared.event.Event.{Event}
use Rattle.report_read.specs.words.declared.event.Outcome.TheVariants as outcome
use Rattle.view_journal.proofs.Small.{held_next, small_next}

-- an event for where there is none
abbrev pub no_event : Event
no_event = record {
  line = record { at = 0; len = 0 };
  who = record { task = 0; call = 0; step = 0 };
  deed = deed.Birth;
  outcome = outcome.Born;
}

-- a walk over so many events
pub record IsAt (place : ℕ) (w : Walk) : Type 0 where
  pub held : length w.held ≡ place
  pub small : IsSmall w

-- one more event
pub next_at : (place : ℕ) (w next : Walk) (e : Event) → next ≡ walked e w → IsAt place w
    → place + 1 < 2 ^ 32 → IsAt (place + 1) next
next_at place w next e is at room = record {
  held = omega (arith, held_next w next e is, at.held);
  small = small_next w next e is at.small (omega (arith, at.held, room));
}

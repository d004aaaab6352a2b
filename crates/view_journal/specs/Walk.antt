-- What the strips show after each event of a journal, and a walk that finds it event by event.
use Rattle.std.specs.Prelude.{ℕ, ◌+◌, ◌-◌, ◌≤◌, ◌<◌, ◌^◌, Bool, false, length, List, [], ◌∷◌, ◌++◌, slice_get, slice_set, Option, Some, None, if◌then◌else◌}
use Rattle.report_read.specs.words.declared.event.Deed.{Deed}
use Rattle.report_read.specs.words.declared.event.Event.{Event}
use Rattle.report_read.specs.words.declared.event.Kind.{Kind}
use Rattle.report_read.specs.words.declared.event.Outcome.{Outcome}
use Rattle.view_journal.specs.declared.kinds.Collection.{Collection}
use Rattle.view_journal.specs.declared.kinds.Freshness.{Freshness}
use Rattle.view_journal.specs.declared.kinds.Freshness.TheVariants as fresh
use Rattle.view_journal.specs.declared.walk.State.{State}
use Rattle.view_journal.specs.Files.{dropped, execs, is_exec, is_reader, is_writer, opened, readers, writers}
use Rattle.view_journal.specs.State.{collecting_after, freshness, freshness_after}

-- what the strips show after these events, which are newest first
abbrev pub state_after : List Event → State
state_after before = record {
  readers = readers before;
  writers = writers before;
  execs = execs before;
  freshness = freshness before;
}

abbrev pub states_from : List Event → List Event → List State
states_from before [] = []
states_from before (e ∷ es) = state_after (e ∷ before) ∷ states_from (e ∷ before) es

-- what the strips show after each event of a journal
abbrev pub states_of : List Event → List State
states_of journal = states_from [] journal

-- ---- the walk

pub record Walk : Type 0 where
  -- for each place, the kind of the file that its event opened, while that file is open
  pub held : List (Option Kind)
  pub readers : ℕ
  pub writers : ℕ
  pub execs : ℕ
  pub collecting : Option Collection
  pub freshness : Freshness

abbrev pub start : Walk
start = record {
  held = [];
  readers = 0;
  writers = 0;
  execs = 0;
  collecting = None;
  freshness = fresh.NotHashed;
}

abbrev pub joined : Option (Option Kind) → Option Kind
joined None = None
joined (Some kind) = kind

-- the kind of a file, while it is open
abbrev pub kind_at : List (Option Kind) → Option ℕ → Option Kind
kind_at held None = None
kind_at held (Some file) = joined (slice_get held file)

abbrev pub cleared : List (Option Kind) → Option ℕ → List (Option Kind)
cleared held None = held
cleared held (Some file) = slice_set held file None

abbrev pub passes : (Kind → Bool) → Option Kind → Bool
passes test None = false
passes test (Some kind) = test kind

abbrev pub one : Bool → ℕ
one b = if b then 1 else 0

-- a count after a file that counts was dropped, and another one opened
abbrev pub recounted : Bool → Bool → ℕ → ℕ
recounted drop new count = (count - one drop) + one new

abbrev pub walked_by : Deed → Outcome → Option Kind → Option Kind → Walk → Walk
walked_by d o drop new w = record {
  held = cleared w.held (dropped d o) ++ new ∷ [];
  readers = recounted (passes is_reader drop) (passes is_reader new) w.readers;
  writers = recounted (passes is_writer drop) (passes is_writer new) w.writers;
  execs = recounted (passes is_exec drop) (passes is_exec new) w.execs;
  collecting = collecting_after d o w.collecting;
  freshness = freshness_after d o w.collecting w.freshness;
}

-- the walk after one more event
abbrev pub walked : Event → Walk → Walk
walked e w =
    walked_by e.deed e.outcome (kind_at w.held (dropped e.deed e.outcome))
    (opened e.deed e.outcome) w

abbrev pub state_of : Walk → State
state_of w = record {
  readers = w.readers;
  writers = w.writers;
  execs = w.execs;
  freshness = w.freshness;
}

abbrev pub pieces_of : Option Collection → ℕ
pieces_of None = 0
pieces_of (Some c) = c.pieces

-- the numbers of a walk are at most that of its events
pub record IsSmall (w : Walk) : Type 0 where
  pub readers : w.readers ≤ length w.held
  pub writers : w.writers ≤ length w.held
  pub execs : w.execs ≤ length w.held
  pub pieces : pieces_of w.collecting ≤ length w.held
  pub held : length w.held < 2 ^ 32

-- what a walk finds after each of these events
abbrev pub shown_by : Walk → List Event → List State
shown_by w [] = []
shown_by w (e ∷ es) = state_of (walked e w) ∷ shown_by (walked e w) es

-- What a task learns from a look at all lists.
use Rattle.std.specs.Prelude.{◌≡◌, ℕ, ◌+◌, List, [], length, Some, slice_get}
use mathlib.Core.List.{IsPrefix}
use Rattle.grow_list.specs.Shown.{Passed}
use Rattle.inode_events.specs.declared.told.Event.{Event}
use Rattle.run_model.specs.History.{Answer}
use Rattle.run_model.specs.Served.{events_of, rules_of}
use Rattle.run_model.specs.Turns.{State}
use Rattle.world_model.specs.WorldConsts.{InodeConsts, WorldConsts, inode_in}
use Rattle.world_model.specs.Runs.{HasMade}
use Rattle.world_model.specs.Tasks.{HasPlayed, IsTask, PassesValue, Tasked}
use Rattle.world_model.specs.Plays.{task_left}
use Rattle.world_model.specs.Ready.{HasLooked}
use Rattle.world_model.specs.Steps.{Adds}

-- the task's pass of journal i, brought up to date with the journal
pub record InodeLooked (consts : WorldConsts) (n i : ℕ) (journals : List (List Event))
    (old : List (Passed Event)) (new : Passed Event) : Type 0 where
  pub before : Passed Event
  pub at : slice_get old i ≡ Some before
  pub name : new.name ≡ before.name
  pub number : new.number ≡ before.number
  pub mine : new.mine ≡ before.mine
  pub journal : List Event
  pub journal_at : slice_get journals i ≡ Some journal
  pub seen : new.seen ≡ journal
  pub looked : (s : InodeConsts) → slice_get consts.each_inode i ≡ Some s
      → HasLooked (inode_in consts s) n before.seen journal before.mine

-- the task's passes, brought up to date with all lists
pub record HasLookedAtAll (consts : WorldConsts) (t : Tasked) (s : State) (passes : PassesValue)
    : Type 0 where
  pub even : length passes.inodes ≡ length t.passes.inodes
  pub journals : length s.journals ≡ length consts.each_inode
  pub inodes : (i : ℕ) (q : Passed Event) → slice_get passes.inodes i ≡ Some q
      → InodeLooked consts (t.number + 1) i s.journals t.passes.inodes q
  pub sems : Adds t.passes.sems passes.sems []
  pub signals : events_of t.number s.signals ≡ passes.sems.mine
  pub book : Adds t.passes.book passes.book []
  pub book_before : IsPrefix t.passes.book.seen s.list
  pub book_seen : passes.book.seen ≡ s.list
  pub rules : Adds t.passes.rules passes.rules []
  pub rules_before : IsPrefix t.passes.rules.seen s.added
  pub rules_seen : passes.rules.seen ≡ s.added
  pub appended : rules_of t.number s.added ≡ passes.rules.mine

-- a look at all lists preserves the task's history
abbrev pub LookIsPlayed : Type 0
LookIsPlayed = (consts : WorldConsts) (t : Tasked) (h : List Answer) (s : State)
    (passes : PassesValue) → HasPlayed consts t h → HasLookedAtAll consts t s passes
    → HasPlayed consts (task_left t passes t.hash_state) h

-- after a look at all lists the entries of the task's number in each list are those of its history
abbrev pub LookIsMade : Type 0
LookIsMade = (consts : WorldConsts) (t : Tasked) (s : State) (passes : PassesValue)
    → IsTask consts t → HasLookedAtAll consts t s passes
    → HasMade consts s (task_left t passes t.hash_state)

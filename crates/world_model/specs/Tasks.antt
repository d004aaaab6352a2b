-- The value of a task that contracts see, and its invariants with the constants of its world.
use Rattle.std.specs.Prelude.{◌≡◌, ℕ, ◌+◌, ◌<◌, All, List, [], ◌∷◌, length, Option, Some, slice_get}
use Rattle.grow_list.specs.Shown.{Passed}
use Rattle.hash_algos.specs.Digest.{digest_of}
use Rattle.hash_algos.specs.declared.algo.Algo.TheVariants.{Sha1}
use Rattle.run_laws.specs.templates.declared.entry.Entry.{Entry}
use Rattle.run_laws.specs.meta.declared.appraisal.Mode.{Mode}
use Rattle.run_laws.specs.policy.ActionValue.{ActionValue}
use Rattle.run_laws.specs.events.Checks.{no_action}
use Rattle.run_laws.specs.events.Inode.{Inode}
use Rattle.run_laws.specs.events.Integrity.{Collection, collecting, digest_from}
use Rattle.run_laws.specs.events.NewestFirst.{newest_first}
use Rattle.run_laws.specs.events.declared.deed.Deed.{Deed}
use Rattle.run_laws.specs.events.declared.deed.Deed.TheVariants as deed
use Rattle.run_laws.specs.events.declared.told.Event.{Event}
use Rattle.inode_hashing.specs.Hashing.{HasHashed}
use Rattle.run_laws.specs.steps.CallState.{Step}
use Rattle.run_laws.specs.steps.CallState.{Does, Checks}
use Rattle.run_laws.specs.steps.declared.call.Call.{Call}
use Rattle.run_laws.specs.Logs.{log}
use Rattle.run_laws.specs.Steps.{RisesWithin}
use Rattle.run_laws.specs.rules.declared.cell.RuleEntry.{RuleEntry}
use Rattle.run_laws.specs.Checks.{ChecksFit, seen_by}
use Rattle.run_laws.specs.model.History.{Answer, own, own_rules, own_signals, position, step_at}
use Rattle.run_laws.specs.model.Scene.{Program}
use Rattle.run_laws.specs.progress.NextSteps.{IsFit}
use Rattle.run_laws.specs.progress.ScriptFiles.{IsWithin}
use Rattle.world_model.specs.WorldConsts.{InodeConsts, WorldConsts, inode_in, mode_in, scene_of}
use Rattle.world_model.specs.declared.hash_state.HashState.{HashState}
use Rattle.world_model.specs.declared.hash_state.HashState.TheVariants as hash_state
use Rattle.task_state.specs.Value.{TaskValue}

-- ---- passes

-- one pass for each inode's journal, and one each for the journal of the semaphores, the
-- measurement list and the appended rules
pub record PassesValue : Type 0 where
  pub inodes : List (Passed Event)
  pub sems : Passed Event
  pub book : Passed Entry
  pub rules : Passed RuleEntry

-- The passes are those of task n: it is caller n + 1 in the journals, follows the inodes in the
-- measurement list, and is caller n among those who append rules.
pub record ArePassesOf (consts : WorldConsts) (n : ℕ) (passes : PassesValue) : Type 0 where
  pub even : length passes.inodes ≡ length consts.each_inode
  pub inodes : (i : ℕ) (s : InodeConsts) (q : Passed Event) → slice_get consts.each_inode i ≡ Some s
      → slice_get passes.inodes i ≡ Some q → (q.name ≡ s.journal) × (q.number ≡ n + 1)
  pub sems : (passes.sems.name ≡ consts.signals) × (passes.sems.number ≡ n + 1)
  pub book : (passes.book.name ≡ consts.book)
      × (passes.book.number ≡ 1 + length consts.each_inode + n)
  pub rules : (passes.rules.name ≡ consts.rules) × (passes.rules.number ≡ n)

-- no pass has an entry of its own
pub record AreUnused (passes : PassesValue) : Type 0 where
  pub inodes : All (λ (q : Passed Event). q.mine ≡ []) passes.inodes
  pub sems : passes.sems.mine ≡ []
  pub book : passes.book.mine ≡ []
  pub rules : passes.rules.mine ≡ []

-- ---- what a task has hashed

-- after these events a collection is open that satisfies P
pub record Collects (inode : Inode) (events : List Event) (P : Collection → Type 0)
    : Type 0 where
  pub collection : Collection
  pub is_open : collecting inode events ≡ Some collection
  pub has : P collection

-- exactly the bytes that the collection took are hashed
abbrev pub HasTakenIn : HashState → Collection → Type 0
HasTakenIn (hash_state.Running hashing) c = HasHashed hashing c.algo c.bytes
HasTakenIn _ c = ⊥

-- both digests of the collection's bytes are computed: by its own algorithm, and by SHA-1
abbrev pub HasSummed : HashState → Collection → Type 0
HasSummed (hash_state.Done chosen sha1) c =
    (chosen ≡ digest_from c) × (sha1 ≡ digest_of Sha1 c.bytes)
HasSummed _ c = ⊥

-- if the deed continues or ends a collection, the task has hashed exactly what that collection
-- took, according to the journal as the task last saw it
abbrev pub HashesBefore : Inode → List Event → HashState → Deed → Type 0
HashesBefore inode seen g (deed.Chunk file) = Collects inode (newest_first seen) (HasTakenIn g)
HashesBefore inode seen g (deed.CloseChunk file) = Collects inode (newest_first seen) (HasTakenIn g)
HashesBefore inode seen g (deed.Finish file) = Collects inode (newest_first seen) (HasSummed g)
HashesBefore inode seen g (deed.CloseFinish file) = Collects inode (newest_first seen) (HasSummed g)
HashesBefore inode seen g _ = Unit {0}

-- what the task has hashed suits its next step, if that is a deed on an inode (see `HashesBefore`)
abbrev pub HashesFor : WorldConsts → List (Passed Event) → HashState → Option Step → Type 0
HashesFor consts passes g (Some (Does i d)) =
    (s : InodeConsts) (q : Passed Event) → slice_get consts.each_inode i ≡ Some s
    → slice_get passes i ≡ Some q → HashesBefore (inode_in consts s) q.seen g d
HashesFor consts passes g _ = Unit {0}

-- ---- the last check of a task

abbrev pub action_by : Option Step → Answer → ActionValue → ActionValue
action_by (Some (Checks inode file func mask)) a old = a.action
action_by _ a old = old

-- the action of the last check in the history
abbrev pub last_action : Mode → Program → List Answer → ActionValue
last_action mode p [] = no_action
last_action mode p (a ∷ before) =
    action_by (step_at p (position mode p before).call_state) a (last_action mode p before)

-- ---- a task

-- a task as contracts see it: its number, its state, its hashing, and its passes
pub record Tasked : Type 0 where
  pub number : ℕ
  pub task_state : TaskValue
  pub hash_state : HashState
  pub passes : PassesValue

-- the calls are those of a script with this many inodes
abbrev pub AreCallsOf : ℕ → List Call → Type 0
AreCallsOf count calls =
    (k : ℕ) (c : Call) → slice_get calls k ≡ Some c → IsFit c × IsWithin count c

-- The task has made exactly the steps of the history: its position results from them, and the own
-- entries of its passes are those that the history adds to each list.
pub record HasPlayed (consts : WorldConsts) (t : Tasked) (h : List Answer) : Type 0 where
  pub calls : AreCallsOf (length consts.each_inode) t.task_state.program.calls
  pub stands : position (mode_in consts) t.task_state.program h ≡ t.task_state.position
  pub checked : t.task_state.checked ≡ last_action (mode_in consts) t.task_state.program h
  pub passes : ArePassesOf consts t.number t.passes
  pub events : (i : ℕ) (q : Passed Event) → slice_get t.passes.inodes i ≡ Some q
      → q.mine ≡ own (mode_in consts) t.number t.task_state.program i h
  -- the task's events are at places that its passes have seen
  pub placed : (i : ℕ) (q : Passed Event) → slice_get t.passes.inodes i ≡ Some q
      → All (λ x. x.0 < length q.seen) q.mine
  pub signals : t.passes.sems.mine
      ≡ own_signals (mode_in consts) t.number t.task_state.program h
  pub rules : t.passes.rules.mine ≡ own_rules (mode_in consts) t.number t.task_state.program h
  -- the task adds nothing to the measurement list itself
  pub unlisted : t.passes.book.mine ≡ []
  -- the task's checks were decided by rules that it has seen
  pub checks : (programs : List Program) → ChecksFit (scene_of consts programs) t.task_state.program
      (seen_by t.passes.inodes t.passes.rules) h
  -- the places of the measurement list in the task's answers increase, within what it has seen
  pub rises : RisesWithin (log (mode_in consts) t.number t.task_state.program h) t.passes.book.seen
  pub hashed : HashesFor consts t.passes.inodes t.hash_state
      (step_at t.task_state.program t.task_state.position.call_state)

-- the task has made the steps of some history
pub record IsTask (consts : WorldConsts) (t : Tasked) : Type 0 where
  pub history : List Answer
  pub played : HasPlayed consts t history

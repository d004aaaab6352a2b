-- The run of a script, the state that it leaves, and what is proved of both.
use Rattle.std.specs.Prelude.{◌≡◌, ℕ, ◌<◌, ◌≤◌, ◌++◌, false, All, List}
use Rattle.std.specs.List.{AllByRecursion}
use Rattle.measure_book.specs.Replay.{replay}
use Rattle.run_model.specs.registers.Banks.{register}
use Rattle.ima_templates.specs.meta.declared.measurement.Bank.{Bank}
use Rattle.run_model.specs.EndedValue.{EndedValue, ended_of}
use Rattle.run_model.specs.Rounds.{IsRunOf, RoundsTo, moves}
use Rattle.run_model.specs.Scene.{Scene}
use Rattle.run_model.specs.Served.{Run}
use Rattle.run_model.specs.Shown.{IsShown}
use Rattle.run_model.specs.Turns.{Moment, turns_of}
use Rattle.call_steps.specs.declared.call.Call.{Call}
use Rattle.call_steps.specs.declared.call.Call.TheVariants as call
use Rattle.call_steps.specs.declared.ending.Ending.{Ending}
use Rattle.call_steps.specs.declared.ending.Ending.TheVariants as ending
use Rattle.policy_rules.specs.RuleValue.{IsRule}
use Rattle.report_laws.specs.Law.{IsSameRun}
use Rattle.report_text.specs.Report.{report_of}
use Rattle.script_start.specs.scenes.Scene.{IsForFiles, scene_of}
use Rattle.script_text.specs.ScriptValue.{ScriptValue}
use Rattle.script_text.specs.declared.blocks.TaskBlock.{TaskBlock}
use Rattle.task_runner.specs.Passes.{HasRunOnThreads}
use Rattle.task_runner.specs.worlds.Tasks.{Tasked}
use Rattle.task_runner.specs.worlds.World.{WorldValue}
use Rattle.run_laws.specs.shown.Laws.{AreAdmitted, AreDenied, AreLabelled, AreReadsCovered, IsFresh, IsRarelyHashed}

-- what is promised of a run of this scene with this ending, and of the state `e` that it leaves
pub record Promised (scene : Scene) (ending : Ending) (run : Run) (e : EndedValue) : Type 0 where
  -- the journals are legal; after the boot aggregate, the list has just the entries that they add;
  -- the replies and the events are those of the tasks' calls; and the run has gone on for as long
  -- as its ending asks
  pub shown : IsShown scene ending run
  -- with a schedule or rounds, this is the script's only run
  pub own : IsRunOf scene ending run
  -- `e` is the state that the run leaves
  pub leaves : e ≡ ended_of scene run
  -- while no writer holds an inode, its digest and its verdicts in force are those computed afresh
  pub fresh : IsFresh scene run
  -- content read through a read-only descriptor that a rule measured has its digest in the list, or
  -- the list has a violation of the inode
  pub covered : AreReadsCovered scene run
  -- each register of both banks is the replay of the list
  pub replayed : (bank : Bank) (pcr : ℕ) → pcr < 24 → register e.banks bank pcr
      ≡ replay e.list bank pcr
  -- enforcing appraisal admits an unmodified file exactly if its digest and its HMAC fit
  pub admitted : AreAdmitted scene run
  -- a call whose file was refused is answered with a denial that names the verdict's cause
  pub denied : AreDenied scene run
  -- the label that a last writer's close writes is that of the content at that step
  pub labelled : AreLabelled scene run
  -- takes hash the content at most once more than events voided its digest
  pub rarely_hashed : IsRarelyHashed scene run

-- the script has a run that leaves the state `e`
pub record HasRun (s : ScriptValue) (e : EndedValue) : Type 0 where
  pub for_files : IsForFiles s
  pub run : Run
  pub promised : Promised (scene_of s for_files) s.ending run e
  -- each run that may be shown for the script is this run if its report begins a text that the
  -- report of `e` begins too, whatever follows the reports
  pub only : (other : Run) (x y : List ℕ) → IsShown (scene_of s for_files) s.ending other
      → report_of (ended_of (scene_of s for_files) other) ++ x ≡ report_of e ++ y
      → IsSameRun other run

-- ---- the rules that tasks append

-- if the call appends a rule, a line can express it
abbrev pub KeepsRule : Call → Type 0
KeepsRule (call.AddRule rule) = IsRule rule
KeepsRule _ = Unit {0}

abbrev pub AreRulesKept : ScriptValue → Type 0
AreRulesKept s = AllByRecursion (λ (b : TaskBlock). AllByRecursion KeepsRule b.calls) s.tasks

-- ---- intermediate states

-- a schedule names only tasks below `count`, and `threads` asks for at least one thread
abbrev pub AreWithin : ℕ → Ending → Type 0
AreWithin count (ending.Schedule turns) = All (λ k. k < count) turns
AreWithin count ending.Rounds = Unit {0}
AreWithin count (ending.Threads n) = 1 ≤ n

-- the turns of an ending lead from one moment to the other: with a schedule, exactly its turns;
-- with rounds, rounds until none of the `count` tasks moves; with threads, any steps until none of
-- them moves
abbrev pub LeadsTo : Scene → ℕ → Ending → Moment → Moment → Type 0
LeadsTo scene count (ending.Schedule turns) m end = end ≡ turns_of scene m turns
LeadsTo scene count ending.Rounds m end =
    RoundsTo scene m end × ((k : ℕ) → k < count → moves scene end k ≡ false)
LeadsTo scene count (ending.Threads n) m end = (k : ℕ) → k < count → moves scene end k ≡ false

-- with `threads n`, the tasks have run in at most n parts
abbrev pub HaveRunAs : Ending → WorldValue → WorldValue → List Tasked → List Tasked → Type 0
HaveRunAs (ending.Threads n) world after old new = HasRunOnThreads world after n old new
HaveRunAs _ world after old new = Unit {0}

-- A task's checks, related to what its passes have seen of the journals and the appended rules.
use Rattle.std.specs.Prelude.{◌≡◌, ℕ, ◌<◌, ◌≤◌, List, [], ◌∷◌, length, map, Option, Some, None, slice_get, slice_set, take}
use Rattle.std.specs.List.{AllZip}
use Rattle.grow_list.specs.Shown.{Passed}
use mathlib.Core.List.{IsPrefix}
use Rattle.policy_rules.specs.declared.rule.Func.{Func}
use Rattle.inode_events.specs.NewestFirst.{newest_first}
use Rattle.inode_events.specs.State.{metadata}
use Rattle.inode_events.specs.declared.told.Event.{Event}
use Rattle.inode_events.specs.declared.told.Told.TheVariants as told
use Rattle.run_model.specs.steps.CallState.{Step}
use Rattle.run_model.specs.steps.CallState.{Nothing, Does, Checks, Signals, Appends}
use Rattle.run_model.specs.History.{Answer, plain_answer, position, step_at}
use Rattle.run_model.specs.Scene.{Program, Scene, ScriptFile, decided, mode_of, rules_with}
use Rattle.run_model.specs.Served.{AreSuited, Run, rules_known}
use Rattle.run_model.specs.rules.declared.cell.RuleEntry.{RuleEntry}

-- what a task's passes have seen of each inode's journal and of the appended rules
pub record Seen : Type 0 where
  pub journals : List (List Event)
  pub added : List RuleEntry

-- ---- a check

-- the check at this place was decided by the first of the rules seen, as many as its answer says
pub record IsDecidedIn (scene : Scene) (s : Seen) (p : Program) (known : ℕ) (a : Answer)
    (inode : ℕ) (func : Func) (mask : ℕ) : Type 0 where
  pub script_file : ScriptFile
  pub journal : List Event
  pub at : slice_get scene.script_files inode ≡ Some script_file
  pub journal_at : slice_get s.journals inode ≡ Some journal
  pub within : a.place ≤ length journal
  pub known_rules : known ≤ a.rules
  pub final : a.rules ≤ length (rules_with scene s.added)
  pub action : a.action ≡ decided (take a.rules (rules_with scene s.added)) p.cred script_file.place
      (metadata (newest_first (take a.place journal))) func mask

-- ---- any step

abbrev pub SuitsIn : Scene → Seen → Program → ℕ → Option Step → Answer → Type 0
SuitsIn scene s p known None a = ⊥
SuitsIn scene s p known (Some Nothing) a = a ≡ plain_answer 0 told.Nothing
SuitsIn scene s p known (Some (Does inode d)) a =
    (inode < length scene.script_files) × (a ≡ plain_answer a.place a.told)
SuitsIn scene s p known (Some (Checks inode file func mask)) a =
    IsDecidedIn scene s p known a inode func mask
SuitsIn scene s p known (Some (Signals d)) a = a ≡ plain_answer a.place told.Done
SuitsIn scene s p known (Some (Appends rule)) a =
    (a ≡ plain_answer a.place told.Done) × (a.place < length s.added)

abbrev pub SuitIn : Scene → Seen → Program → List Answer → Type 0
SuitIn scene s p [] = Unit {0}
SuitIn scene s p (a ∷ before) =
    SuitsIn scene s p (rules_known scene p before)
    (step_at p (position (mode_of scene) p before).call_state) a × SuitIn scene s p before

-- the task's checks fit: each was decided rightly according to what is seen now, and the rules that
-- the task knows of are seen
pub record ChecksFit (scene : Scene) (p : Program) (s : Seen) (h : List Answer) : Type 0 where
  pub suit : SuitIn scene s p h
  pub known : rules_known scene p h ≤ length (rules_with scene s.added)

-- ---- more seen

pub record Longer (journals : List (List Event)) (i : ℕ) (journal : List Event) : Type 0 where
  pub longer : List Event
  pub there : slice_get journals i ≡ Some longer
  pub before : IsPrefix journal longer

abbrev pub JournalsGrow : List (List Event) → List (List Event) → Type 0
JournalsGrow old new =
    (i : ℕ) (journal : List Event) → slice_get old i ≡ Some journal → Longer new i journal

pub record SeesMore (old new : Seen) : Type 0 where
  pub journals : JournalsGrow old.journals new.journals
  pub added : IsPrefix old.added new.added

-- ---- the laws

abbrev pub FitsAtFirst : Type 0
FitsAtFirst = (scene : Scene) (p : Program) (s : Seen) → ChecksFit scene p s []

abbrev pub FitsWithMore : Type 0
FitsWithMore =
    (scene : Scene) (p : Program) (old new : Seen) (h : List Answer) → SeesMore old new
    → ChecksFit scene p old h → ChecksFit scene p new h

-- the answer to a step that isn't a check
abbrev pub IsPlainStep : Scene → Seen → Option Step → Answer → Type 0
IsPlainStep scene s None a = ⊥
IsPlainStep scene s (Some Nothing) a = a ≡ plain_answer 0 told.Nothing
IsPlainStep scene s (Some (Does inode d)) a =
    (inode < length scene.script_files) × (a ≡ plain_answer a.place a.told)
IsPlainStep scene s (Some (Checks inode file func mask)) a = ⊥
IsPlainStep scene s (Some (Signals d)) a = a ≡ plain_answer a.place told.Done
IsPlainStep scene s (Some (Appends rule)) a =
    (a ≡ plain_answer a.place told.Done) × (a.place < length s.added)

abbrev pub FitsByStep : Type 0
FitsByStep =
    (scene : Scene) (p : Program) (old new : Seen) (h : List Answer) (a : Answer)
    → SeesMore old new → ChecksFit scene p old h
    → IsPlainStep scene new (step_at p (position (mode_of scene) p h).call_state) a
    → ChecksFit scene p new (a ∷ h)

-- the answer to a check that was decided by all rules that the task's pass has now seen, for the
-- journal before the check
pub record IsCheckStep (scene : Scene) (s : Seen) (p : Program) (a : Answer) (inode : ℕ)
    (func : Func) (mask : ℕ) : Type 0 where
  pub script_file : ScriptFile
  pub before : List Event
  pub at : slice_get scene.script_files inode ≡ Some script_file
  pub journal : Longer s.journals inode before
  pub place : a.place ≡ length before
  pub rules : a.rules ≡ length (rules_with scene s.added)
  pub action : a.action ≡ decided (rules_with scene s.added) p.cred script_file.place
      (metadata (newest_first before)) func mask

abbrev pub FitsByCheck : Type 0
FitsByCheck =
    (scene : Scene) (p : Program) (old new : Seen) (h : List Answer) (a : Answer) (inode file : ℕ)
    (func : Func) (mask : ℕ) → SeesMore old new → ChecksFit scene p old h
    → step_at p (position (mode_of scene) p h).call_state ≡ Some (Checks inode file func mask)
    → IsCheckStep scene new p a inode func mask → ChecksFit scene p new (a ∷ h)

-- the journals and rules of a whole run
abbrev pub seen_of : Run → Seen
seen_of run = record { journals = run.journals; added = run.added }

abbrev pub FitsAreSuited : Type 0
FitsAreSuited =
    (scene : Scene) (p : Program) (s : Seen) (run : Run) (h : List Answer)
    → SeesMore s (seen_of run) → ChecksFit scene p s h → AreSuited scene run p h

-- ---- by the passes

-- what the passes have seen
abbrev pub seen_by : List (Passed Event) → Passed RuleEntry → Seen
seen_by passes rules =
    record { journals = map (λ (q : Passed Event). q.seen) passes; added = rules.seen }

-- a look of one inode's pass and of the rules' pass only adds to what the task has seen
abbrev pub SeesByLook : Type 0
SeesByLook =
    (passes : List (Passed Event)) (rules rules2 : Passed RuleEntry) (i : ℕ)
    (old new : Passed Event) → slice_get passes i ≡ Some old → IsPrefix old.seen new.seen
    → IsPrefix rules.seen rules2.seen → SeesMore (seen_by passes rules)
    (seen_by (slice_set passes i new) rules2)

-- a run extends what the passes have seen
abbrev pub SeesFromPasses : Type 0
SeesFromPasses =
    (passes : List (Passed Event)) (rules : Passed RuleEntry) (run : Run)
    → AllZip (λ (q : Passed Event)
    (journal : List Event). IsPrefix q.seen journal) passes run.journals
    → IsPrefix rules.seen run.added → SeesMore (seen_by passes rules) (seen_of run)

-- the pass that made a step has seen what the journal had before it
abbrev pub StandsByLook : Type 0
StandsByLook =
    (passes : List (Passed Event)) (rules : Passed RuleEntry) (i : ℕ) (old new : Passed Event)
    (before : List Event) → slice_get passes i ≡ Some old
    → IsPrefix before new.seen → Longer (seen_by (slice_set passes i new) rules).journals i before

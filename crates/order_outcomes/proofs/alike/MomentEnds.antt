-- Moments that are alike have the same outcome: it depends on the list, on the replies, and on what
-- the journals tell of each call.
use Rattle.std.proofs.Common.{◌≡◌, ℕ, suc, ◌+◌, ◌<◌, List, [], ◌∷◌, ◌++◌, codes, get_or, length, map, Some, slice_get, refl, ap, sym, subst, ◌∙◌, inl, inr, arith}
use Rattle.std.specs.List.{join_with_byte}
use Rattle.std.specs.Option.{option_or}
use Rattle.order_outcomes.specs.Calls.{listed_in, listed_of, verdict_in, verdict_of}
use Rattle.order_outcomes.specs.Orders.{outcome_at}
use Rattle.order_outcomes.specs.Outcome.{call_text, calls_text, lines_of, lines_text, listed_text, tasks_text, verdict_text, done_text}
use Rattle.order_outcomes.specs.declared.lines.Kind.TheVariants.{Measurements, Violations}
use Rattle.report_text.specs.Numerals.{numeral}
use Rattle.report_text.specs.Report.{reply_words}
use Rattle.report_text.specs.model.Ended.{is_done}
use Rattle.report_text.specs.model.EndedValue.{EndedTaskValue, inodes_ended, tasks_ended}
use Rattle.report_text.specs.model.History.{Position}
use Rattle.report_text.specs.model.Scene.{Program, Scene, ScriptFile}
use Rattle.report_text.specs.model.Turns.{Moment, journal_at}
use Rattle.report_text.specs.model.events.EndedInode.{EndedInodeValue}
use Rattle.report_text.specs.model.events.NewestFirst.{newest_first}
use Rattle.report_text.specs.model.events.declared.told.Event.{Event}
use Rattle.report_text.specs.model.events.templates.declared.entry.Entry.{Entry}
use Rattle.report_text.specs.model.steps.declared.reply.Reply.{Reply}
use Rattle.order_outcomes.specs.alike.Alike.{IsAlike, IsAlikeBy}
use Rattle.order_outcomes.specs.alike.Names.{Naming, position_named}

-- the journals of an inode tell the same of each call
record TellSame (list list2 : List Entry) (j j2 : List Event) : Type 0 where
  some : 0 < length j
  some2 : 0 < length j2
  told : (task n : ℕ) → verdict_in task n j2 ≡ verdict_in task n j
  listed : (task n : ℕ)
      → listed_in list2 task n (newest_first j2) ≡ listed_in list task n (newest_first j)

-- the journals of all these inodes do
abbrev AllTellSame : List Entry → List Entry → List ScriptFile → List (List Event)
    → List (List Event) → Type 0
AllTellSame list list2 ss js js2 =
    (k : ℕ) (s : ScriptFile) → slice_get ss k ≡ Some s
    → TellSame list list2 (get_or js k []) (get_or js2 k [])

-- then each call has the same verdict
verdicts_same : (list list2 : List Entry) (scene : Scene) (task n : ℕ) (ss : List ScriptFile)
    (js js2 : List (List Event)) → AllTellSame list list2 ss js js2
    → verdict_of task n (inodes_ended scene ss js2) ≡ verdict_of task n (inodes_ended scene ss js)
verdicts_same list list2 scene task n [] js js2 same = refl
verdicts_same list list2 scene task n (s ∷ ss) [] js2 same =
    let some = (same 0 s refl).some in absurd (omega (arith, some))
verdicts_same list list2 scene task n (s ∷ ss) (j ∷ js) [] same =
    let some = (same 0 s refl).some2 in absurd (omega (arith, some))
verdicts_same list list2 scene task n (s ∷ ss) (j ∷ js) (j2 ∷ js2) same =
    let here = (same 0 s refl).told task n in
    let rest = verdicts_same list list2 scene task n ss js js2
    (λ k script_file e. same (suc k) script_file e) in
    λ i. option_or (here i) (rest i)

-- and the same is said of what it has read
listed_same : (list list2 : List Entry) (scene : Scene) (task n : ℕ) (ss : List ScriptFile)
    (js js2 : List (List Event)) → AllTellSame list list2 ss js js2
    → listed_of list2 task n (inodes_ended scene ss js2)
    ≡ listed_of list task n (inodes_ended scene ss js)
listed_same list list2 scene task n [] js js2 same = refl
listed_same list list2 scene task n (s ∷ ss) [] js2 same =
    let some = (same 0 s refl).some in absurd (omega (arith, some))
listed_same list list2 scene task n (s ∷ ss) (j ∷ js) [] same =
    let some = (same 0 s refl).some2 in absurd (omega (arith, some))
listed_same list list2 scene task n (s ∷ ss) (j ∷ js) (j2 ∷ js2) same =
    let here = (same 0 s refl).listed task n in
    let rest = listed_same list list2 scene task n ss js js2
    (λ k script_file e. same (suc k) script_file e) in
    λ i. option_or (here i) (rest i)

-- ---- the texts

module _ (list list2 : List Entry) (is is2 : List EndedInodeValue)
    (verdicts : (task n : ℕ) → verdict_of task n is2 ≡ verdict_of task n is)
    (listed : (task n : ℕ) → listed_of list2 task n is2 ≡ listed_of list task n is) where
  -- the text of a call is the same
  call_same : (task n : ℕ) (rep : Reply)
      → call_text list2 is2 task n rep ≡ call_text list is task n rep
  call_same task n rep =
      let verdict = verdicts task n in
      let read = listed task n in
      λ j. numeral n ++ codes " " ++ join_with_byte 32 (reply_words rep)
      ++ verdict_text (verdict j) ++ listed_text (read j) ++ codes "\n"

  -- the texts of all calls of a task are the same
  calls_same : (task n : ℕ) (replies : List Reply)
      → calls_text list2 is2 task n replies ≡ calls_text list is task n replies
  calls_same task n [] = refl
  calls_same task n (rep ∷ replies) =
      let first = call_same task n rep in
      let rest = calls_same task (n + 1) replies in
      λ j. first j ++ rest j

  -- and so are those of all tasks
  tasks_same : (task : ℕ) (ts : List EndedTaskValue)
      → tasks_text list2 is2 task ts ≡ tasks_text list is task ts
  tasks_same task [] = refl
  tasks_same task (t ∷ ts) =
      let calls = calls_same task 0 t.replies in
      let rest = tasks_same (task + 1) ts in
      λ j. (codes "task " ++ numeral task ++ done_text t.done ++ calls j) ++ rest j

-- the replies don't depend on the names of files
tasks_named : (r : Naming) (ps : List Program) (ts : List Position)
    → tasks_ended ps (map (position_named r) ts) ≡ tasks_ended ps ts
tasks_named r [] ts = refl
tasks_named r (p ∷ ps) [] = refl
tasks_named r (p ∷ ps) (t ∷ ts) =
    ap (λ (rest : List EndedTaskValue). record { done = is_done p t; replies = t.replies } ∷ rest)
    (tasks_named r ps ts)

-- ---- the outcome

-- the outcome by its lines, the list, the inodes and the tasks
abbrev outcome_by : List (List ℕ) → List (List ℕ) → List Entry → List EndedInodeValue
    → List EndedTaskValue → List ℕ
outcome_by measured violations list inodes tasks =
    lines_text Measurements measured ++ lines_text Violations violations
    ++ tasks_text list inodes 0 tasks

-- moments that are alike by names have the same outcome
outcome_same : (scene : Scene) (r : Naming) (a b : Moment) → IsAlikeBy scene r a b
    → outcome_at scene a ≡ outcome_at scene b
outcome_same scene r a b alike =
    let is = inodes_ended scene scene.script_files a.state.journals in
    let is2 = inodes_ended scene scene.script_files b.state.journals in
    let tasks = ap (tasks_ended scene.programs) alike.positions
    ∙ tasks_named r scene.programs a.positions in
    let measured = alike.lists.lines Measurements in
    let violations = alike.lists.lines Violations in
    let same : outcome_at scene b ≡ outcome_by (lines_of Measurements a.state.list)
    (lines_of Violations a.state.list) b.state.list is2 (tasks_ended scene.programs a.positions)
    = λ j. outcome_by (measured j) (violations j) b.state.list is2 (tasks j) in
    let texts = tasks_same a.state.list b.state.list is is2
    (λ task n. verdicts_same a.state.list b.state.list scene task n scene.script_files
    a.state.journals b.state.journals tell)
    (λ task n. listed_same a.state.list b.state.list scene task n scene.script_files
    a.state.journals b.state.journals tell)
    0 (tasks_ended scene.programs a.positions) in
    sym (same ∙ ap (λ (text : List ℕ). lines_text Measurements (lines_of Measurements a.state.list)
    ++ lines_text Violations (lines_of Violations a.state.list) ++ text) texts)
  where
    tell : AllTellSame a.state.list b.state.list scene.script_files a.state.journals
        b.state.journals
    tell k s e =
        let inode = alike.inodes k s e in
        record {
          some = inode.below 0 refl;
          some2 =
              subst (λ (f : ℕ). f < length (journal_at b.state k)) (alike.none k)
              (inode.below2 0 refl);
          told = inode.told;
          listed = inode.listed;
        }

-- and so have moments that are alike
pub alike_ends : (scene : Scene) (a b : Moment) → IsAlike scene a b
    → outcome_at scene a ≡ outcome_at scene b
alike_ends scene a b (inl e) = ap (outcome_at scene) e
alike_ends scene a b (inr x) = outcome_same scene x.0 a b x.1

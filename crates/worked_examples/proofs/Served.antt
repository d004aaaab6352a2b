-- The examples of runs that are served or aren't, and of turns and rounds.
use Rattle.std.proofs.Common.{◌≡◌, ℕ, zero, suc, ◌<◌, ◌≤◌, Bool, true, false, List, [], ◌∷◌, Some, refl, subst, arith, lit<}
use Rattle.std.specs.Prelude.{◌&&◌, leb, All, slice_get}
use Rattle.std.proofs.lemmas.Bool.{and_parts, leb-true}
use Rattle.std.proofs.lemmas.List.Elements.{All-cons, All-contains, All-nil}
use Rattle.std.proofs.lemmas.Option.{none-some, same_Some}
use Rattle.inode_events.specs.Callers.{caller_of}
use Rattle.inode_events.specs.Checks.{no_action}
use Rattle.inode_events.specs.NewestFirst.{newest_first}
use Rattle.inode_events.specs.declared.deed.Deed.TheVariants as deed
use Rattle.inode_events.specs.declared.deed.How.TheVariants as how
use Rattle.inode_events.specs.declared.told.Event.{Event}
use Rattle.inode_events.specs.declared.told.Told.TheVariants as told
use Rattle.inode_events.specs.meta.declared.appraisal.Mode.TheVariants.{Off}
use Rattle.inode_events.specs.policy.declared.rule.Func.TheVariants.{BprmCheck, FileCheck}
use Rattle.run_laws.specs.model.History.{Answer, Position, own, plain_answer}
use Rattle.run_laws.specs.model.Rounds.{rounds}
use Rattle.run_laws.specs.model.Scene.{Program}
use Rattle.run_laws.specs.model.Served.{IsDecided, IsServed, RulesRise, Run, Served, events_of}
use Rattle.run_laws.specs.model.Turns.{start_of, turns_of}
use Rattle.run_laws.specs.model.rules.declared.cell.RuleEntry.{RuleEntry}
use Rattle.run_laws.specs.model.steps.declared.call.Call.TheVariants as call
use Rattle.worked_examples.specs.Served.{ServedExamples, both, counting, counting_journal, counting_run, growing, grown, has_finished, has_opened, measure_at, opening, script_file, task}
use Rattle.worked_examples.specs.Shared.{birth, did, file_a, who}

-- ---- the run in which the counted rules rise

-- the run
abbrev run : Run
run = counting_run 1 2

-- its journal
abbrev journal : List Event
journal = counting_journal 1 2

-- the program of a task that opens the file
abbrev opener : Program
opener = task (opening ∷ [])

-- the program of the task that appends a rule
abbrev adder : Program
adder = task (call.AddRule (measure_at BprmCheck) ∷ [])

-- the answer to a check at this place that counted this number of rules
abbrev checked : ℕ → ℕ → Answer
checked place rules = record { place = place; told = told.Quiet; action = no_action; rules = rules }

-- the answers to the calls of the two tasks that open the file, newest first
abbrev first : List Answer
first = checked 2 1 ∷ plain_answer 1 told.Held ∷ []

abbrev second : List Answer
second = checked 4 2 ∷ plain_answer 3 told.Held ∷ []

-- no rule concerns either check
first_decided : IsDecided counting run opener 1 (checked 2 1) 0 FileCheck 4
unfolding newest_first
first_decided = record {
  script_file = script_file;
  journal = journal;
  at = refl;
  journal_at = refl;
  known_rules = omega arith;
  final = omega arith;
  action = refl;
}

second_decided : IsDecided counting run opener 1 (checked 4 2) 0 FileCheck 4
unfolding newest_first
second_decided = record {
  script_file = script_file;
  journal = journal;
  at = refl;
  journal_at = refl;
  known_rules = omega arith;
  final = omega arith;
  action = refl;
}

-- the events of a task in the only journal are those of its history
events_by : (n : ℕ) (p : Program) (h : List Answer) → events_of n journal ≡ own Off n p 0 h
    → (i : ℕ) (j : List Event) → slice_get (journal ∷ []) i ≡ Some j
    → events_of n j ≡ own Off n p i h
events_by n p h same zero j e =
    subst (λ (x : List Event). events_of n x ≡ own Off n p 0 h) (same_Some journal j e) same
events_by n p h same (suc i) j e = absurd (none-some j e)

-- task 0 is served
first_served : IsServed counting run 0 opener (has_opened 1)
first_served = record {
  history = first;
  stands = refl;
  suited = (first_decided, ((lit< tt, refl), tt));
  events = events_by 0 opener first refl;
  rules = refl;
}

-- task 1 is served
second_served : IsServed counting run 1 opener (has_opened 3)
second_served = record {
  history = second;
  stands = refl;
  suited = (second_decided, ((lit< tt, refl), tt));
  events = events_by 1 opener second refl;
  rules = refl;
}

-- task 2 is served
third_served : IsServed counting run 2 adder has_finished
third_served = record {
  history = plain_answer 0 told.Done ∷ [];
  stands = refl;
  suited = (refl, tt);
  events = events_by 2 adder (plain_answer 0 told.Done ∷ []) refl;
  rules = refl;
}

-- the same task, with its program and its position under other names
task_is : (n : ℕ) (p p2 : Program) (t t2 : Position) → Some p ≡ Some p2 → Some t ≡ Some t2
    → IsServed counting run n p t → IsServed counting run n p2 t2
task_is n p p2 t t2 e f served =
    subst (λ (q : Program). IsServed counting run n q t2) (same_Some p p2 e)
    (subst (λ (u : Position). IsServed counting run n p u) (same_Some t t2 f) served)

-- each task is served
tasks : (n : ℕ) (p : Program) (t : Position) → slice_get counting.programs n ≡ Some p
    → slice_get run.positions n ≡ Some t → IsServed counting run n p t
tasks zero p t e f = task_is 0 opener p (has_opened 1) t e f first_served
tasks (suc zero) p t e f = task_is 1 opener p (has_opened 3) t e f second_served
tasks (suc (suc zero)) p t e f = task_is 2 adder p has_finished t e f third_served
tasks (suc (suc (suc n))) p t e f = absurd (none-some p e)

-- the event is the birth, or one of the three tasks'
abbrev IsOfThree : Event → Type 0
IsOfThree e = caller_of e ≤ 3

-- a test of all events of a list for that
abbrev are_of_three : List Event → Bool
are_of_three [] = true
are_of_three (e ∷ es) = leb (caller_of e) 3 && are_of_three es

-- the test means it
all_of_three : (es : List Event) → are_of_three es ≡ true → All IsOfThree es
all_of_three [] is = All-nil IsOfThree
all_of_three (e ∷ es) is =
    let parts = and_parts (leb (caller_of e) 3) (are_of_three es) is in
    All-cons IsOfThree e es (leb-true (caller_of e) 3 parts.0) (all_of_three es parts.1)

-- along the journal, checks count 1 rule and then 2
rules_rise : RulesRise 1 (newest_first journal)
unfolding newest_first
rules_rise = (omega arith, (omega arith, (omega arith, (omega arith, (omega arith, tt)))))

-- the run is served
rising : Served counting run
rising = record {
  journals = refl;
  positions = refl;
  tasks = tasks;
  no_other_events = All-cons (All IsOfThree) journal [] (all_of_three journal refl)
      (All-nil (All IsOfThree));
  no_other_rules = All-cons (λ (r : RuleEntry). r.who.task < 3)
      (record { who = who 2 0 0; rule = measure_at BprmCheck }) [] (lit< tt)
      (All-nil (λ (r : RuleEntry). r.who.task < 3));
  rules_rise = All-cons (λ (j : List Event). RulesRise 1 (newest_first j)) journal [] rules_rise
      (All-nil (λ (j : List Event). RulesRise 1 (newest_first j)));
}

-- ---- the run in which they fall

-- along the journal, checks count 2 rules and then 1
falls : RulesRise 1 (newest_first (counting_journal 2 1)) → ⊥
unfolding newest_first
falls rise = let fell : 2 ≤ 1 = rise.0 in absurd (omega arith)

-- so that run isn't served
falling : Served counting (counting_run 2 1) → ⊥
falling served = falls (All-contains (λ (j : List Event). RulesRise 1 (newest_first j))
    (counting_journal 2 1 ∷ []) (counting_journal 2 1) served.rules_rise (0, omega arith, refl))

-- ---- turns and rounds

-- the turns, by computing
turns : (turns_of growing (start_of growing) (1 ∷ 0 ∷ 0 ∷ 0 ∷ 2 ∷ 1 ∷ [])).state ≡ grown
unfolding newest_first
turns = refl

-- the round, by computing
round : (rounds both 1 (start_of both)).state.journals
    ≡ (birth file_a ∷ did 0 0 0 (deed.Count (how.Read false)) told.Held
    ∷ did 1 0 0 (deed.Count (how.Read false)) told.Held ∷ []) ∷ []
unfolding newest_first
round = refl

-- the examples, together
pub examples : ServedExamples
examples = record { rising = rising; falling = falling; turns = turns; round = round }

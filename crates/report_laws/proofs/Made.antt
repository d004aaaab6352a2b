-- What a script's calls, appended rules and events have in common: each event is a deed of a call.
use Rattle.std.proofs.Common.{◌≡◌, ℕ, zero, suc, ◌+◌, ◌<◌, ◌≤◌, ◌==◌, Bool, true, false, List, [], ◌∷◌, ◌++◌, length, map, Option, Some, None, if◌then◌else◌, refl, sym, ap, ◌∙◌, subst, inl, inr, arith}
use Rattle.std.specs.Prelude.{All, reverse, slice_get}
use Rattle.std.specs.List.{AllByRecursion}
use Rattle.std.proofs.lemmas.Bool.{cases_Bool, false≢true}
use Rattle.std.proofs.lemmas.Bool.Decides.{nat_tests}
use Rattle.std.proofs.lemmas.List.{reverse-append, reverse-reverse}
use Rattle.std.proofs.lemmas.List.Elements.{recursion_from_All}
use Rattle.inode_meta.specs.declared.appraisal.Mode.{Mode}
use Rattle.inode_meta.specs.declared.step.Who.{Who}
use Rattle.inode_events.specs.Callers.{caller_in, caller_of}
use Rattle.inode_events.specs.NewestFirst.{newest_first}
use Rattle.inode_events.specs.declared.deed.Deed.{Deed}
use Rattle.inode_events.specs.declared.deed.Deed.TheVariants as deed
use Rattle.inode_events.specs.declared.told.Event.{Event}
use Rattle.call_steps.specs.CallState.{CallState, Progress, Step, deed_of, plain_step, progress_of, step_by}
use Rattle.call_steps.specs.CallState.{Nothing, Does, Checks, Signals, Appends}
use Rattle.call_steps.specs.declared.ask.Ask.{Ask}
use Rattle.call_steps.specs.declared.ask.Ask.TheVariants as ask
use Rattle.call_steps.specs.declared.call.Call.{Call}
use Rattle.call_steps.specs.declared.call.Call.TheVariants as call
use Rattle.run_model.specs.growing.Entries.{entries_from}
use Rattle.run_model.specs.rules.declared.cell.RuleEntry.{RuleEntry}
use Rattle.run_model.specs.History.{Answer, call_at, event, event_in, own, own_rules, position, rule_in, step_at, step_in, who_at}
use Rattle.run_model.specs.Scene.{Program, Scene, mode_of}
use Rattle.run_model.specs.Served.{Run, Served}
use Rattle.report_text.specs.Ranges.{IsDeed}
use Rattle.call_steps.specs.policy.RuleValue.{IsRule}
use Rattle.report_laws.specs.Law.{IsNamedCall}
use Rattle.report_laws.proofs.NoRules.{some_at}
use Rattle.report_laws.proofs.Own.{is_there, some_same, same_number}

-- ---- lists

-- what holds of two lists holds of both in a row
pub each_append : {X : Type 0} (P : X → Type 0) (xs ys : List X) → AllByRecursion P xs
    → AllByRecursion P ys → AllByRecursion P (xs ++ ys)
each_append P [] ys h k = k
each_append P (x ∷ xs) ys h k = (h.0, each_append P xs ys h.1 k)

-- what holds of two lists in a row holds of the first
pub each_left : {X : Type 0} (P : X → Type 0) (xs ys : List X) → AllByRecursion P (xs ++ ys)
    → AllByRecursion P xs
each_left P [] ys h = tt
each_left P (x ∷ xs) ys h = (h.0, each_left P xs ys h.1)

-- what holds of two lists in a row holds of the second
pub each_right : {X : Type 0} (P : X → Type 0) (xs ys : List X) → AllByRecursion P (xs ++ ys)
    → AllByRecursion P ys
each_right P [] ys h = h
each_right P (x ∷ xs) ys h = each_right P xs ys h.1

-- what holds of a list holds of its element at a place
pub each_at : {X : Type 0} (P : X → Type 0) (xs : List X) (i : ℕ) (x : X) → AllByRecursion P xs
    → slice_get xs i ≡ Some x → P x
each_at P [] i x h e = absurd (false≢true (ap is_there e))
each_at P (y ∷ xs) zero x h e = subst P (some_same y x e) h.0
each_at P (y ∷ xs) (suc i) x h e = each_at P xs i x h.1 e

-- what holds of a list holds of it in reverse
pub each_reverse : {X : Type 0} (P : X → Type 0) (xs : List X) → AllByRecursion P xs
    → AllByRecursion P (reverse xs)
each_reverse {X} P [] h = tt
each_reverse {X} P (x ∷ xs) h =
    subst (λ (ys : List X). AllByRecursion P ys) (sym (reverse-append (x ∷ []) xs))
    (each_append P (reverse xs) (x ∷ []) (each_reverse P xs h.1) (h.0, tt))

-- what holds of the events of a journal, newest first, holds of its events
pub each_from_past : (P : Event → Type 0) (journal : List Event)
    → AllByRecursion P (newest_first journal) → AllByRecursion P journal
unfolding newest_first
each_from_past P journal h =
    subst (λ (es : List Event). AllByRecursion P es) (reverse-reverse journal)
    (each_reverse P (reverse journal) h)

-- what holds of the events of a journal holds of them newest first
pub each_past : (P : Event → Type 0) (journal : List Event) → AllByRecursion P journal
    → AllByRecursion P (newest_first journal)
unfolding newest_first
each_past P journal h = each_reverse P journal h

-- what holds of a list holds of the entries of each caller
pub each_entry : {X : Type 0} (P : X → Type 0) (n k : ℕ) (ms : List ℕ) (xs : List X)
    → AllByRecursion P xs → AllByRecursion (λ (y : ℕ × X). P y.1) (entries_from n k ms xs)
each_entry P n k [] xs h = tt
each_entry P n k (m ∷ ms) [] h = tt
each_entry P n k (m ∷ ms) (x ∷ xs) h = elim (cases_Bool (n == m)) [
  | inl e ↦ rw e (h.0, each_entry P n (k + 1) ms xs h.1)
  | inr e ↦ rw e (each_entry P n (k + 1) ms xs h.1)
]

-- what holds of the entries of each caller in a list holds of the list
pub each_caller : {X : Type 0} (P : X → Type 0) (IsCaller : ℕ → Type 0) (f : X → ℕ) (k : ℕ)
    (xs : List X) → AllByRecursion (λ (x : X). IsCaller (f x)) xs
    → ((n : ℕ) → IsCaller n
    → AllByRecursion (λ (y : ℕ × X). P y.1) (entries_from n k (map f xs) xs))
    → AllByRecursion P xs
each_caller {X} P IsCaller f k [] callers h = tt
each_caller {X} P IsCaller f k (x ∷ xs) callers h = (
  (rw (same_number (f x)) at (h (f x) callers.0)).0,
  each_caller P IsCaller f (k + 1) xs callers.1 (λ n is. later n (h n is)),
) where
  later : (n : ℕ)
      → AllByRecursion (λ (y : ℕ × X). P y.1) (entries_from n k (f x ∷ map f xs) (x ∷ xs))
      → AllByRecursion (λ (y : ℕ × X). P y.1) (entries_from n (k + 1) (map f xs) xs)
  later n all = elim (cases_Bool (n == f x)) [
    | inl e ↦ (rw e at all).1
    | inr e ↦ rw e at all
  ]

-- ---- steps

-- the deed or the rule of a step has the form of one that a call can name
abbrev IsNamedStep : Step → Type 0
IsNamedStep (Does i d) = IsDeed d
IsNamedStep (Appends rule) = IsRule rule
IsNamedStep _ = Unit {0}

abbrev IfNamed : Option Step → Type 0
IfNamed None = Unit {0}
IfNamed (Some s) = IsNamedStep s

deed_named : (admin : Bool) (c : Call) (file : ℕ) → IsNamedCall c → IsDeed (deed_of admin c file)
deed_named admin (call.SetAttr inode name value) file h = h
deed_named admin (call.SetMeta inode change) file h = h
deed_named admin c file h = tt

plain_named : (admin : Bool) (c : Call) → IsNamedCall c → IsNamedStep (plain_step admin c)
plain_named true (call.AddRule rule) h = h
plain_named false (call.AddRule rule) h = tt
plain_named admin c h = tt

step_named : (admin : Bool) (c : Call) (g : Progress) (a : Ask) → IsNamedCall c
    → IsNamedStep (step_by admin c g a)
step_named admin c g ask.Write h = deed_named admin c g.file h
step_named admin c g ask.SetAttr h = deed_named admin c g.file h
step_named admin c g ask.SetMeta h = deed_named admin c g.file h
step_named admin c g ask.Plain h = plain_named admin c h
step_named admin c g a h = tt

named_in : (p : Program) (o : Option Call) (m : CallState)
    → ((c : Call) → o ≡ Some c → IsNamedCall c) → IfNamed (step_in p o m)
named_in p None m h = tt
named_in p (Some c) m h = step_named p.cred.admin c (progress_of p.cred.admin c m)
    (progress_of p.cred.admin c m).due.ask (h c refl)

-- the next step of a program whose calls are named
next_named : (p : Program) (m : CallState) → AllByRecursion IsNamedCall p.calls
    → IfNamed (step_at p m)
next_named p m h = named_in p (call_at p m) m (λ c e. each_at IsNamedCall p.calls m.at c h e)

one_named : (b : Bool) (x : ℕ × Event) → IsDeed x.1.deed
    → AllByRecursion (λ (y : ℕ × Event). IsDeed y.1.deed) (if b then x ∷ [] else [])
one_named true x h = (h, tt)
one_named false x h = tt

event_named : (i : ℕ) (who : Who) (o : Option Step) (a : Answer) → IfNamed o
    → AllByRecursion (λ (y : ℕ × Event). IsDeed y.1.deed) (event_in i who o a)
event_named i who None a h = tt
event_named i who (Some Nothing) a h = tt
event_named i who (Some (Does inode d)) a h =
    one_named (inode == i) (a.place, event who d a.told) h
event_named i who (Some (Checks inode file func mask)) a h =
    one_named (inode == i) (a.place, event who (deed.Check file func a.action a.rules) a.told) tt
event_named i who (Some (Signals d)) a h = tt
event_named i who (Some (Appends rule)) a h = tt

rule_named : (who : Who) (o : Option Step) (a : Answer) → IfNamed o
    → AllByRecursion (λ (y : ℕ × RuleEntry). IsRule y.1.rule) (rule_in who o a)
rule_named who None a h = tt
rule_named who (Some Nothing) a h = tt
rule_named who (Some (Does inode d)) a h = tt
rule_named who (Some (Checks inode file func mask)) a h = tt
rule_named who (Some (Signals d)) a h = tt
rule_named who (Some (Appends rule)) a h = (h, tt)

-- ---- histories

-- the events that a task makes have deeds of its calls
own_named : (mode : Mode) (n : ℕ) (p : Program) (i : ℕ) (h : List Answer)
    → AllByRecursion IsNamedCall p.calls
    → AllByRecursion (λ (y : ℕ × Event). IsDeed y.1.deed) (own mode n p i h)
own_named mode n p i [] k = tt
own_named mode n p i (a ∷ h) k =
    let m = (position mode p h).call_state in
    each_append (λ (y : ℕ × Event). IsDeed y.1.deed) (own mode n p i h)
    (event_in i (who_at n p m) (step_at p m) a) (own_named mode n p i h k)
    (event_named i (who_at n p m) (step_at p m) a (next_named p m k))

-- the rules that a task appends are those of its calls
own_rules_named : (mode : Mode) (n : ℕ) (p : Program) (h : List Answer)
    → AllByRecursion IsNamedCall p.calls
    → AllByRecursion (λ (y : ℕ × RuleEntry). IsRule y.1.rule) (own_rules mode n p h)
own_rules_named mode n p [] k = tt
own_rules_named mode n p (a ∷ h) k =
    let m = (position mode p h).call_state in
    each_append (λ (y : ℕ × RuleEntry). IsRule y.1.rule) (own_rules mode n p h)
    (rule_in (who_at n p m) (step_at p m) a) (own_rules_named mode n p h k)
    (rule_named (who_at n p m) (step_at p m) a (next_named p m k))

-- ---- runs

birth_named : (t : ℕ) (d : Deed) → (0 == caller_in t d) ≡ true → IsDeed d
birth_named t (deed.SetAttr name bytes admin) h =
    absurd (let no : (0 == t + 1) ≡ false = grind (arith, nat_tests) in false≢true (sym no ∙ h))
birth_named t (deed.SetMeta change) h =
    absurd (let no : (0 == t + 1) ≡ false = grind (arith, nat_tests) in false≢true (sym no ∙ h))
birth_named t d h = tt

-- the events of no task are births
births_named : (k : ℕ) (xs : List Event) → AllByRecursion (λ (y : ℕ × Event). IsDeed y.1.deed)
    (entries_from 0 k (map caller_of xs) xs)
births_named k [] = tt
births_named k (x ∷ xs) = elim (cases_Bool (0 == caller_of x)) [
  | inl e ↦ rw e (birth_named x.who.task x.deed e, births_named (k + 1) xs)
  | inr e ↦ rw e (births_named (k + 1) xs)
]

module _ (scene : Scene) (run : Run) (served : Served scene run)
    (named : AllByRecursion (λ (p : Program). AllByRecursion IsNamedCall p.calls) scene.programs)
  where
    -- each event of a run has a deed of a call, or is a birth
    pub journal_named : (i : ℕ) (journal : List Event) → slice_get run.journals i ≡ Some journal
        → AllByRecursion (λ (e : Event). IsDeed e.deed) journal
    journal_named i journal at =
        each_caller (λ (e : Event). IsDeed e.deed) (λ n. n ≤ length scene.programs) caller_of 0
        journal
        (recursion_from_All (λ (e : Event). caller_of e ≤ length scene.programs) journal
        (each_at (λ (j : List Event). All (λ (e : Event). caller_of e ≤ length scene.programs) j)
        run.journals i journal
        (recursion_from_All (λ (j : List Event). All
        (λ (e : Event). caller_of e ≤ length scene.programs) j) run.journals
        served.no_other_events) at))
        callers where
          callers : (n : ℕ) → n ≤ length scene.programs
              → AllByRecursion (λ (y : ℕ × Event). IsDeed y.1.deed)
              (entries_from n 0 (map caller_of journal) journal)
          callers zero is = births_named 0 journal
          callers (suc n) is =
              let p = some_at scene.programs n (omega (arith, is)) in
              let t = some_at run.positions n (omega (arith, is, served.positions)) in
              let task = served.tasks n p.0 t.0 p.1 t.1 in
              let next : n + 1 ≡ suc n = omega arith in
              subst (λ (k : ℕ). AllByRecursion (λ (y : ℕ × Event). IsDeed y.1.deed)
              (entries_from k 0 (map caller_of journal) journal)) next
              (subst (λ (l : List (ℕ × Event)). AllByRecursion
              (λ (y : ℕ × Event). IsDeed y.1.deed) l) (sym (task.events i journal at))
              (own_named (mode_of scene) n p.0 i task.history
              (each_at (λ (q : Program). AllByRecursion IsNamedCall q.calls) scene.programs n p.0
              named p.1)))

    -- each appended rule of a run is that of a call
    pub added_named : AllByRecursion (λ (r : RuleEntry). IsRule r.rule) run.added
    added_named =
        each_caller (λ (r : RuleEntry). IsRule r.rule) (λ n. n < length scene.programs)
        (λ (r : RuleEntry). r.who.task) 0 run.added
        (recursion_from_All (λ (r : RuleEntry). r.who.task < length scene.programs) run.added
        served.no_other_rules)
        (λ n is.
        let p = some_at scene.programs n is in
        let t = some_at run.positions n (omega (arith, is, served.positions)) in
        let task = served.tasks n p.0 t.0 p.1 t.1 in
        subst (λ (l : List (ℕ × RuleEntry)). AllByRecursion
        (λ (y : ℕ × RuleEntry). IsRule y.1.rule) l) (sym task.rules)
        (own_rules_named (mode_of scene) n p.0 task.history
        (each_at (λ (q : Program). AllByRecursion IsNamedCall q.calls) scene.programs n p.0 named
        p.1)))

-- A post, a wait or an appended rule under its lock, from the view of its task.
use Rattle.std.proofs.Common.{◌≡◌, ℕ, List, [], ◌∷◌, ◌++◌, length, Option, Some, None, refl, sym, ◌∙◌, ap, subst}
use Rattle.std.specs.Prelude.{IfOk, IfSome, OnErr, OnOk, Result, Ok, Err, option_map}
use Rattle.std.proofs.lemmas.List.{append-nil}
use mathlib.Core.List.{IsPrefix}
use Rattle.grow_list.specs.Shown.{Passed}
use Rattle.inode_meta.specs.declared.step.Who.{Who}
use Rattle.inode_events.specs.Asked.{entered, made}
use Rattle.inode_events.specs.NewestFirst.{newest_first}
use Rattle.inode_events.specs.Semaphores.{semaphore_says}
use Rattle.inode_events.specs.declared.deed.Deed.{Deed}
use Rattle.inode_events.specs.declared.told.Event.{Event}
use Rattle.inode_events.specs.declared.told.Told.{Told}
use Rattle.inode_events.specs.declared.told.Told.TheVariants as told
use Rattle.policy_cell.specs.declared.cell.RuleEntry.{RuleEntry}
use Rattle.world_close.specs.worlds.Tasks.{PassesValue}
use Rattle.task_steps.proofs.about_worlds.Eventing.{adds_none}
use Rattle.task_steps.specs.Acting.{IsPlacedAt, told_of}
use Rattle.task_steps.specs.declared.answers.StepResult.{StepResult}
use Rattle.world_locks.specs.Tagged.{AppendMet, SignalMet, appended_in, signalled_at}
use Rattle.world_locks.specs.Met.{AppendsMet, SignalsMet, state_seen}

-- when memory runs out, the pass is as it was
pub signal_fails : {E : Type 0} (pass : Passed Event) (who : Who) (d : Deed) (e : E)
    → SignalMet pass pass who d (Err e)
signal_fails pass who d e = record {
  journal = pass.seen;
  seen = sym (append-nil pass.seen);
  adds = adds_none pass pass refl;
  told = tt;
}

-- the outcome of a post or a wait is `Done`, unless it was blocked
told_signalled : (place : Option ℕ)
    → told_of (signalled_at place) ≡ option_map (λ (k : ℕ). told.Done) place
told_signalled None = refl
told_signalled (Some k) = refl

-- the answer gives the place at which the event was put
placed_signalled : (place : Option ℕ) (n : ℕ) → IfSome place (λ k. k ≡ n)
    → IsPlacedAt n (signalled_at place)
placed_signalled None n h = tt
placed_signalled (Some k) n h = (h, refl)

-- if memory suffices, the post or wait met the journal at the end of which its event was put
pub signal_met : {E : Type 0} (pass pass2 : Passed Event) (who : Who) (d : Deed)
    (journal : List Event) (place : Option ℕ) (o : Option StepResult) → o ≡ signalled_at place
    → option_map (λ (k : ℕ). told.Done) place ≡ semaphore_says (newest_first journal) d
    → IfSome place (λ k. k ≡ length journal)
    → pass2.seen ≡ journal ++ made who d (semaphore_says (newest_first journal) d)
    → pass2.mine ≡ pass.mine
    ++ entered (length journal) who d (semaphore_says (newest_first journal) d)
    → (pass2.name ≡ pass.name) × (pass2.number ≡ pass.number)
    → SignalMet {E = E} pass pass2 who d (Ok o)
signal_met {E} pass pass2 who d journal place o is says at seen mine same =
    let said : told_of o ≡ semaphore_says (newest_first journal) d =
    ap (λ (x : Option StepResult). told_of x) is ∙ told_signalled place ∙ says in
    record {
      journal = journal;
      seen = seen ∙ ap (λ (x : Option Told). journal ++ made who d x) (sym said);
      adds = record {
        name = same.0;
        number = same.1;
        mine = mine
            ∙ ap (λ (x : Option Told). pass.mine ++ entered (length journal) who d x) (sym said);
      };
      told = (
        said,
        subst (λ (x : Option StepResult). IsPlacedAt (length journal) x) (sym is)
            (placed_signalled place (length journal) at),
      );
    }

-- if memory suffices, the rule was appended after those that the pass has then seen
pub append_met : {A E : Type 0} (pass pass2 : Passed RuleEntry) (entry : RuleEntry)
    (list list2 : List RuleEntry) (place : ℕ) (r : Result A E) (o : Result StepResult E)
    → o ≡ appended_in place r → place ≡ length list → OnOk r (IsPrefix pass.seen list)
    → OnOk r (pass2.seen ≡ list2) → OnOk r (list2 ≡ list ++ entry ∷ [])
    → OnOk r (pass2.mine ≡ pass.mine ++ (length list, entry) ∷ [])
    → (pass2.name ≡ pass.name) × (pass2.number ≡ pass.number)
    → IfOk o (λ a. AppendMet pass pass2 entry a)
append_met {E} pass pass2 entry list list2 place (Ok x) o is at before seen more mine same =
    subst (λ (y : Result StepResult E). IfOk y (λ a. AppendMet pass pass2 entry a)) (sym is)
    (record {
      added = list;
      before = before;
      seen = seen ∙ more;
      adds = record { name = same.0; number = same.1; mine = mine };
      told = (at, refl, refl);
    })
append_met {E} pass pass2 entry list list2 place (Err x) o is at before seen more mine same =
    subst (λ (y : Result StepResult E). IfOk y (λ a. AppendMet pass pass2 entry a)) (sym is) tt

-- without an answer all is as it was
pub append_fails : {A E : Type 0} (P Q : Type 0) (place : ℕ) (r : Result A E)
    (o : Result StepResult E)
    → o ≡ appended_in place r → OnErr r (P × Q) → OnErr o Q
append_fails {E} P Q place (Ok x) o is same =
    subst (λ (y : Result StepResult E). OnErr y Q) (sym is) tt
append_fails {E} P Q place (Err x) o is same =
    subst (λ (y : Result StepResult E). OnErr y Q) (sym is) same.1

-- the task's passes have seen the journal of the semaphores as the post or wait left it
pub signals_met : {E : Type 0} (passes passes2 : PassesValue) (who : Who) (d : Deed)
    (r : Result (Option StepResult) E) → passes2 ≡ record passes { sems = passes2.sems }
    → SignalMet passes.sems passes2.sems who d r → SignalsMet passes passes2 who d r
signals_met passes passes2 who d r others m = record {
  old = record (state_seen passes) { signals = m.journal };
  signals = record {
    state = ap (λ (p : PassesValue). state_seen p) others
        ∙ ap (λ (xs : List Event). record (state_seen passes) { signals = xs }) m.seen;
    sems = m.adds;
    others = others;
  };
  told = m.told;
}

-- the task's pass has seen the rules with the appended one
pub appends_met : (passes passes2 : PassesValue) (entry : RuleEntry) (a : StepResult)
    → passes2 ≡ record passes { rules = passes2.rules }
    → AppendMet passes.rules passes2.rules entry a → AppendsMet passes passes2 entry a
appends_met passes passes2 entry a others m = record {
  old = record (state_seen passes) { added = m.added };
  appends = record {
    state = ap (λ (p : PassesValue). state_seen p) others
        ∙ ap (λ (xs : List RuleEntry). record (state_seen passes) { added = xs }) m.seen;
    rules = m.adds;
    before = m.before;
    seen = refl;
    others = others;
  };
  told = m.told;
}

-- Which list blocks a step on a world that threads share, as its task's pass has seen it.
use Rattle.std.proofs.Common.{◌≡◌, ℕ, ◌+◌, List, length, Option, Some, None, refl, sym, ◌∙◌, ap, subst}
use Rattle.std.specs.Prelude.{IfOk, Result, Ok, Err, slice_get}
use Rattle.std.proofs.lemmas.List.{append-nil}
use Rattle.grow_list.specs.Shown.{Passed}
use Rattle.ima_templates.specs.declared.entry.Entry.{Entry}
use Rattle.inode_events.specs.Asked.{outcome}
use Rattle.inode_events.specs.NewestFirst.{newest_first}
use Rattle.inode_events.specs.Semaphores.{semaphore_says}
use Rattle.inode_events.specs.declared.deed.Deed.{Deed}
use Rattle.inode_events.specs.declared.told.Event.{Event}
use Rattle.inode_meta.specs.declared.identity.Cred.{Cred}
use Rattle.inode_meta.specs.declared.step.Who.{Who}
use Rattle.run_model.specs.Turns.{State}
use Rattle.task_core.specs.Shared.{IsBlockedOn}
use Rattle.world_model.specs.WorldConsts.{InodeConsts, WorldConsts, inode_in}
use Rattle.world_model.specs.Tasks.{PassesValue}
use Rattle.world_model.specs.declared.hash_state.HashState.{HashState}
use Rattle.world_model.specs.declared.hash_state.HashState.TheVariants as hash_state
use Rattle.world_locks.proofs.about_worlds.Eventing.{get_set}
use Rattle.world_locks.specs.Met.{CheckMet, EventMet, SignalsMet, state_seen}
use Rattle.world_locks.specs.acts.Acting.{EventIn, IsPlacedAt, IsSaid, told_in, told_of}
use Rattle.world_locks.specs.acts.Checking.{CheckIn}
use Rattle.world_locks.specs.acts.Sharing.{SignalsOn}
use Rattle.world_locks.specs.acts.Turning.{turn_result_of}
use Rattle.world_locks.specs.acts.declared.answers.StepResult.{StepResult}
use Rattle.world_locks.specs.acts.declared.answers.TurnResult.{TurnResult}
use Rattle.world_locks.specs.acts.declared.answers.TurnResult.TheVariants as turn_result
use Rattle.world_locks.specs.acts.declared.listed.Checks.{Checks as Asked}
use Rattle.world_locks.specs.worlds.Events.{EventOn}
use Rattle.world_locks.specs.worlds.Ready.{HasLooked}

-- a turn with an answer wasn't blocked
pub told_moves : {E : Type 0} (a : StepResult)
    → ◌≡◌ {A = Result TurnResult E} (Ok (turn_result.Told a)) (Ok turn_result.Blocked) → ⊥
told_moves a e = cc

-- a turn of a program that was over wasn't blocked
pub over_ends : {E : Type 0}
    → ◌≡◌ {A = Result TurnResult E} (Ok turn_result.Over) (Ok turn_result.Blocked) → ⊥
over_ends e = cc

-- a turn that ran out of memory wasn't blocked
pub err_fails : {E : Type 0} (x : E)
    → ◌≡◌ {A = Result TurnResult E} (Err x) (Ok turn_result.Blocked) → ⊥
err_fails x e = cc

-- a turn that was blocked had no answer
pub no_answer : {E : Type 0} (r : Result (Option StepResult) E)
    → ◌≡◌ {A = Result TurnResult E} (turn_result_of r) (Ok turn_result.Blocked) → r ≡ Ok None
no_answer (Ok (Some a)) e = absurd (cc)
no_answer (Ok None) e = refl
no_answer (Err x) e = absurd (cc)

module _ (consts : WorldConsts) (passes passes2 : PassesValue) (w : Who) where
  -- a deed without an outcome is blocked by the journal that its task's pass has seen
  event_blocks : (i : ℕ) (s : InodeConsts) (d : Deed) (old : State) (g g2 : HashState)
      → EventOn consts i s w d old (state_seen passes2) passes passes2 g g2 None
      → ((journal : List Event) → slice_get old.journals i ≡ Some journal
      → None ≡ outcome (inode_in consts s) old.list d (newest_first journal))
      → IsBlockedOn consts w.task i s d passes passes2
  event_blocks i s d old g g2 e none =
      let seen : e.pass2.seen ≡ e.journal = e.seen ∙ append-nil e.journal in
      let list : passes2.book.seen ≡ old.list = ap (λ (x : State). x.list) e.state in
      record {
        pass = e.pass;
        pass_at = e.pass_at;
        pass2 = e.pass2;
        pass2_at = ap (λ (qs : List (Passed Event)). slice_get qs i) e.inodes
            ∙ get_set passes.inodes i e.pass2 e.pass e.pass_at;
        looked = subst (λ (xs : List Event). HasLooked (inode_in consts s) (w.task + 1) e.pass.seen
            xs e.pass.mine) (sym seen) e.looked;
        told = ap (λ (xs : List Entry). outcome (inode_in consts s) xs d
            (newest_first e.pass2.seen)) list
            ∙ ap (λ (xs : List Event). outcome (inode_in consts s) old.list d (newest_first xs))
            seen ∙ sym (none e.journal e.journal_at);
      }

  -- a blocked deed on this inode
  pub deed_blocks : {E : Type 0} (i : ℕ) (d : Deed) (g g2 : HashState)
      (r : Result (Option StepResult) E) → EventMet consts i w d passes passes2 g g2 r → r ≡ Ok None
      → (s : InodeConsts) → slice_get consts.each_inode i ≡ Some s
      → IsBlockedOn consts w.task i s d passes passes2
  deed_blocks {E} i d g g2 r m e s at =
      let event : EventOn consts i s w d m.old (state_seen passes2) passes passes2 g g2 None =
      subst (λ (x : Option InodeConsts). EventIn consts i x w d m.old (state_seen passes2) passes
      passes2 g g2 None) at
      (subst (λ (y : Result (Option StepResult) E). EventIn consts i (slice_get consts.each_inode i)
      w d m.old (state_seen passes2) passes passes2 g g2 (told_in y)) e m.event) in
      let said : IsSaid consts i d m.old None =
      subst (λ (y : Result (Option StepResult) E). IfOk y (λ o. IsSaid consts i d m.old o)) e
      m.told in
      event_blocks i s d m.old g g2 event (λ journal there. (said s journal at there).0)

  -- a check is blocked only if there is no such inode
  pub check_blocks : {E : Type 0} (i : ℕ) (cred : Cred) (asked : Asked)
      (r : Result (Option StepResult) E) → CheckMet consts i w cred asked passes passes2 r
      → r ≡ Ok None → slice_get consts.each_inode i ≡ None
  check_blocks {E} i cred asked r m e =
      by_inode_consts (slice_get consts.each_inode i)
      (subst (λ (y : Result (Option StepResult) E). CheckIn consts i (slice_get consts.each_inode i)
      w cred asked m.old (state_seen passes2) passes passes2 hash_state.Idle y) e
      (m.check hash_state.Idle)) where
        by_inode_consts : (x : Option InodeConsts) → CheckIn {E = E} consts i x w cred asked m.old
            (state_seen passes2) passes passes2 hash_state.Idle (Ok None) → x ≡ None
        by_inode_consts None c = refl
        by_inode_consts (Some s) c = absurd c.told

  -- a wait is blocked by the count of its semaphore
  pub signal_blocks : {E : Type 0} (d : Deed) (r : Result (Option StepResult) E)
      → SignalsMet passes passes2 w d r → r ≡ Ok None
      → semaphore_says (newest_first passes2.sems.seen) d ≡ None
  signal_blocks {E} d r m e =
      let on : SignalsOn m.old (state_seen passes2) passes passes2 w d None =
      subst (λ (y : Result (Option StepResult) E). SignalsOn m.old (state_seen passes2)
      passes passes2 w d (told_in y)) e m.signals in
      let none : None ≡ semaphore_says (newest_first m.old.signals) d =
      (subst (λ (y : Result (Option StepResult) E). IfOk y (λ o.
      (told_of o ≡ semaphore_says (newest_first m.old.signals) d)
      × IsPlacedAt (length m.old.signals) o)) e m.told).0 in
      ap (λ (xs : List Event). semaphore_says (newest_first xs) d)
      (ap (λ (x : State). x.signals) on.state ∙ append-nil m.old.signals)
      ∙ sym none

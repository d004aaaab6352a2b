-- A take that is due comes right after a check of its file.
use Rattle.std.proofs.Common.{◌≡◌, ℕ, List, [], ◌∷◌, Option, Some, None, refl, sym, ◌∙◌, ap, subst}
use Rattle.std.specs.Prelude.{◌==◌}
use Rattle.std.proofs.lemmas.Bool.{eq-eqb, cond-true}
use Rattle.std.proofs.lemmas.Option.{same_Some}
use Rattle.inode_meta.specs.declared.appraisal.Mode.{Mode}
use Rattle.inode_meta.specs.declared.appraisal.Slot.{Slot}
use Rattle.inode_meta.specs.declared.step.Who.{Who}
use Rattle.policy_rules.specs.Accesses.{func_of_purpose, slot_of}
use Rattle.policy_rules.specs.declared.access.Action.{Action}
use Rattle.policy_rules.specs.declared.rule.Func.{Func}
use Rattle.inode_events.specs.declared.deed.Deed.TheVariants as deed
use Rattle.inode_events.specs.declared.told.Event.{Event}
use Rattle.inode_events.specs.declared.told.Told.{Told}
use Rattle.call_steps.specs.Handles.{hand_of}
use Rattle.call_steps.specs.CallState.{CallState, Progress, begun, file_after, moved, progress_of, step_by}
use Rattle.call_steps.specs.CallState.{Checks}
use Rattle.call_steps.specs.Steps.{course_of, next, purpose_of}
use Rattle.call_steps.specs.declared.ask.Ask.{Ask}
use Rattle.call_steps.specs.declared.ask.Ask.TheVariants as ask
use Rattle.call_steps.specs.declared.call.Call.{Call}
use Rattle.call_steps.specs.declared.due.Next.{Next}
use Rattle.call_steps.specs.declared.due.Next.TheVariants.{On, Over}
use Rattle.world_model.specs.laws_of_journals.Own.{check_in}
use Rattle.run_model.specs.History.{Answer, Position, call_at, position, resume_in, step_at, step_in}
use Rattle.run_model.specs.Scene.{Program}
use Rattle.world_model.proofs.Rows.{Begins, ComesAfter, IsCheck, IsFor, IsIdle, Follows, first_begins, nothing_after, row}

-- the last step was a check of the file, of a function with this slot
pub record ByCheck (mode : Mode) (p : Program) (h : List Answer) (inode file : ℕ) (slot : Slot)
    : Type 0 where
  pub answer : Answer
  pub before : List Answer
  pub func : Func
  pub mask : ℕ
  pub is : h ≡ answer ∷ before
  pub check : step_at p (position mode p before).call_state ≡ Some (Checks inode file func mask)
  pub slot_is : slot ≡ slot_of func

-- ---- each check is of the function of its call

module _ (mode : Mode) (p : Program) where
  abbrev call_state_of : List Answer → CallState
  call_state_of h = (position mode p h).call_state

  abbrev due_of : Call → CallState → Ask
  due_of c m = (progress_of p.cred.admin c m).due.ask

  -- the properties of the first ask of a call
  begun_for : (c : Call) (m : CallState)
      → Begins (course_of c) (begun p.cred.admin m.handles c).due.ask
  begun_for c m = first_begins c (hand_of p.cred.admin m.handles c)

  -- the properties of the ask that comes next
  abbrev Said : Call → Ask → Next → Type 0
  Said c k n = Follows (course_of c) k (Unit {0}) (Unit {0}) n

  said : (c : Call) (m : CallState) (a : Answer)
      → Said c (due_of c m) (next mode c (progress_of p.cred.admin c m).due a.told a.action)
  said c m a =
      row mode (course_of c) (progress_of p.cred.admin c m).due.reply a.action (Unit {0}) (Unit {0})
      (due_of c m) a.told (nothing_after (due_of c m) a.told)

  moved_for : (c d : Call) (m : CallState) (g : Progress) (place : ℕ) (n : Next) (k : Ask)
      → call_at p m ≡ Some c → Said c k n → call_at p (moved c m g place n).0 ≡ Some d
      → IsFor (course_of d) (due_of d (moved c m g place n).0)
  moved_for c d m g place (Over r) k e x f = (begun_for d (moved c m g place (Over r)).0).1
  moved_for c d m g place (On s) k e x f =
      subst (λ (z : Call). IsFor (course_of z) s.ask) (same_Some c d (sym e ∙ f)) x.check

  resumed_for : (d : Call) (t : Position) (a : Answer) (o : Option Call)
      → call_at p t.call_state ≡ o
      → ((c : Call) → call_at p t.call_state ≡ Some c → IsFor (course_of c) (due_of c t.call_state))
      → call_at p (resume_in mode p o t a).call_state ≡ Some d
      → IsFor (course_of d) (due_of d (resume_in mode p o t a).call_state)
  resumed_for d t a None e ih f = ih d f
  resumed_for d t a (Some c) e ih f =
      moved_for c d t.call_state (progress_of p.cred.admin c t.call_state) a.place
      (next mode c (progress_of p.cred.admin c t.call_state).due a.told a.action)
      (due_of c t.call_state) e (said c t.call_state a) f

  pub for_call : (h : List Answer) (c : Call) → call_at p (call_state_of h) ≡ Some c
      → IsFor (course_of c) (due_of c (call_state_of h))
  for_call [] c e = (begun_for c (call_state_of [])).1
  for_call (a ∷ h) c e =
      resumed_for c (position mode p h) a (call_at p (call_state_of h)) refl (for_call h) e

  -- ---- a take

  abbrev pub IfTake : List Answer → ℕ → ℕ → Ask → Type 0
  IfTake h inode file (ask.Take slot) = ByCheck mode p h inode file slot
  IfTake h inode file _ = Unit {0}

  idle_take : (h : List Answer) (inode file : ℕ) (k : Ask) → IsIdle k → IfTake h inode file k
  idle_take h inode file (ask.Take slot) x = absurd x
  idle_take h inode file k x = tt

  -- the step of ask k was a check
  check_step : (c : Call) (m : CallState) (k : Ask) → IsCheck k → due_of c m ≡ k
      → IsFor (course_of c) k → call_at p m ≡ Some c → (func : Func) × ((mask : ℕ)
      × ((step_at p m ≡ Some (Checks (progress_of p.cred.admin c m).inode
      (progress_of p.cred.admin c m).file func mask))
      × (func ≡ func_of_purpose (purpose_of (course_of c)))))
  check_step c m (ask.Check func mask) x e f at =
      let g = progress_of p.cred.admin c m in (
        func,
        (
          mask,
          (
            ap (λ (o : Option Call). step_in p o m) at
                ∙ ap (λ (k : Ask). Some (step_by p.cred.admin c g k)) e,
            f,
          ),
        ),
      )
  check_step c m (ask.Take slot) x e f at = absurd x
  check_step c m k x e f at = absurd x

  same_file : (k : Ask) (place file : ℕ) → IsCheck k → file_after k place file ≡ file
  same_file (ask.Check func mask) place file x = refl
  same_file k place file x = absurd x

  by_row : (h : List Answer) (a : Answer) (c : Call) (k : Ask)
      → call_at p (call_state_of h) ≡ Some c
      → ComesAfter (course_of c) (due_of c (call_state_of h)) k
      → IfTake (a ∷ h) (progress_of p.cred.admin c (call_state_of h)).inode
      (file_after (due_of c (call_state_of h)) a.place
      (progress_of p.cred.admin c (call_state_of h)).file) k
  by_row h a c (ask.Take slot) e x =
      let m = call_state_of h in
      let g = progress_of p.cred.admin c m in
      let s = check_step c m (due_of c m) x.0 refl (for_call h c e) e in
      let same : file_after (due_of c m) a.place g.file ≡ g.file =
      same_file (due_of c m) a.place g.file x.0 in
      record {
        answer = a;
        before = h;
        func = s.0;
        mask = s.1.0;
        is = refl;
        check = s.1.1.0
            ∙ ap (λ (f : ℕ). Some (Checks g.inode f s.0 s.1.0)) (sym same);
        slot_is = x.1 ∙ ap slot_of (sym s.1.1.1);
      }
  by_row h a c k e x = tt

  moved_take : (h : List Answer) (a : Answer) (c d : Call) (n : Next)
      → call_at p (call_state_of h) ≡ Some c → Said c (due_of c (call_state_of h)) n
      → (λ (m : CallState). call_at p m ≡ Some d
      → IfTake (a ∷ h) (progress_of p.cred.admin d m).inode (progress_of p.cred.admin d m).file
      (due_of d m)) (moved c (call_state_of h) (progress_of p.cred.admin c (call_state_of h))
      a.place n).0
  moved_take h a c d (Over r) e x f =
      let m = (moved c (call_state_of h) (progress_of p.cred.admin c (call_state_of h)) a.place
      (Over r)).0 in
      idle_take (a ∷ h) (progress_of p.cred.admin d m).inode (progress_of p.cred.admin d m).file
      (due_of d m) (begun_for d m).0
  moved_take h a c d (On s) e x f = by_row h a c s.ask e x.take

  resumed_take : (h : List Answer) (a : Answer) (d : Call) (o : Option Call)
      → call_at p (call_state_of h) ≡ o
      → (λ (m : CallState). call_at p m ≡ Some d
      → IfTake (a ∷ h) (progress_of p.cred.admin d m).inode (progress_of p.cred.admin d m).file
      (due_of d m)) (resume_in mode p o (position mode p h) a).call_state
  resumed_take h a d None e f = absurd (cc)
  resumed_take h a d (Some c) e f =
      moved_take h a c d
      (next mode c (progress_of p.cred.admin c (call_state_of h)).due a.told a.action) e
      (said c (call_state_of h) a) f

  pub take_law : (h : List Answer) (c : Call) → call_at p (call_state_of h) ≡ Some c
      → IfTake h (progress_of p.cred.admin c (call_state_of h)).inode
      (progress_of p.cred.admin c (call_state_of h)).file (due_of c (call_state_of h))
  take_law [] c e =
      let m = call_state_of [] in
      idle_take [] (progress_of p.cred.admin c m).inode (progress_of p.cred.admin c m).file
      (due_of c m) (begun_for c m).0
  take_law (a ∷ h) c e = resumed_take h a c (call_at p (call_state_of h)) refl e

  -- ---- the last check, by the task's own events

  pub checked_by : (file place : ℕ) (who : Who) (func : Func) (action : Action) (rules : ℕ)
      (t : Told)
      (xs : List (ℕ × Event))
      → check_in file ((
        place,
        record {
          who = who;
          deed = deed.Check file func action rules;
          told = t;
        },
      ) ∷ xs) ≡ record { func = func; action = action }
  checked_by file place who func action rules t xs =
      cond-true (file == file) _ _ (eq-eqb file file refl)

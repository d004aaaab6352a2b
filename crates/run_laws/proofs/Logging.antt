-- The steps of a history.
use Rattle.std.proofs.Common.{◌≡◌, ℕ, ◌+◌, ◌<◌, Bool, true, false, cond, List, [], ◌∷◌, ◌++◌, Option, Some, None, refl, sym, ◌∙◌, ap, subst, arith, inl, inr}
use Rattle.std.specs.Prelude.{◌==◌}
use Rattle.std.proofs.lemmas.List.{append-nil}
use Rattle.std.proofs.lemmas.List.Elements.{All-nil}
use Rattle.inode_meta.specs.declared.appraisal.Mode.{Mode}
use Rattle.inode_meta.specs.declared.step.Who.{Who}
use Rattle.inode_events.specs.Merged.{is_earlier}
use Rattle.inode_events.specs.declared.deed.Deed.TheVariants as deed
use Rattle.run_model.specs.steps.CallState.{CallState, Step, ask_of, moved, progress_of}
use Rattle.run_model.specs.steps.CallState.{Nothing, Does, Checks, Signals, Appends}
use Rattle.inode_events.specs.declared.told.Event.{Event}
use Rattle.run_model.specs.steps.Steps.{next}
use Rattle.run_model.specs.steps.declared.due.Next.{Next}
use Rattle.run_model.specs.steps.declared.due.Next.TheVariants.{On, Over}
use Rattle.run_model.specs.steps.declared.call.Call.{Call}
use Rattle.run_model.specs.History.{Answer, Position, call_at, event, event_in, position, position_with, resume_in, step_at, step_in, who_at, who_in}
use Rattle.run_model.specs.Scene.{Program}
use Rattle.run_laws.specs.Steps.{Made, OrderedBefore, own_in}
use Rattle.run_laws.proofs.Rising.{earlier_from, ordered_event, ordered_plain}
use Rattle.run_laws.specs.Laws.{LogIsOrdered, LogIsOwn}
use Rattle.run_laws.specs.Logs.{log, logged}

-- adding an entry or not is the same as adding a list of one or none
own_more : (i j : ℕ) (xs : List (ℕ × Event)) (x : ℕ × Event)
    → cond (j == i) (xs ++ x ∷ []) xs ≡ xs ++ cond (j == i) (x ∷ []) []
own_more i j xs x = at (j == i) where
  at : (b : Bool) → cond b (xs ++ x ∷ []) xs ≡ xs ++ cond b (x ∷ []) []
  at true = refl
  at false = sym (append-nil xs)

-- the event of a step is its task's own
logged_own : (i : ℕ) (who : Who) (o : Option Step) (a : Answer) (rest : List Made)
    → own_in i (logged who o a ++ rest) ≡ own_in i rest ++ event_in i who o a
logged_own i who None a rest = sym (append-nil (own_in i rest))
logged_own i who (Some Nothing) a rest = sym (append-nil (own_in i rest))
logged_own i who (Some (Does j d)) a rest =
    own_more i j (own_in i rest) (a.place, event who d a.told)
logged_own i who (Some (Checks j file func mask)) a rest =
    own_more i j (own_in i rest) (a.place, event who (deed.Check file func a.action a.rules) a.told)
logged_own i who (Some (Signals d)) a rest = sym (append-nil (own_in i rest))
logged_own i who (Some (Appends rule)) a rest = sym (append-nil (own_in i rest))

-- own entries along a history
pub log_own : LogIsOwn
log_own mode n p i [] = refl
log_own mode n p i (a ∷ h) =
    logged_own i (who_at n p (position mode p h).call_state)
    (step_at p (position mode p h).call_state) a (log mode n p h)
    ∙ ap (λ (l : List (ℕ × Event)). l ++ event_in i (who_at n p (position mode p h).call_state)
    (step_at p (position mode p h).call_state) a) (log_own mode n p i h)

-- ---- the order

-- a step after earlier ones keeps the order
logged_ordered : (due next : Who) (o : Option Step) (a : Answer) (xs : List Made)
    → OrderedBefore xs due → is_earlier due next ≡ true → OrderedBefore (logged due o a ++ xs) next
logged_ordered due next None a xs w e = ordered_plain xs due next w e
logged_ordered due next (Some Nothing) a xs w e = ordered_plain xs due next w e
logged_ordered due next (Some (Does j d)) a xs w e =
    ordered_event xs j a.place due next d a.told w e
logged_ordered due next (Some (Checks j file func mask)) a xs w e =
    ordered_event xs j a.place due next (deed.Check file func a.action a.rules) a.told w e
logged_ordered due next (Some (Signals d)) a xs w e = ordered_plain xs due next w e
logged_ordered due next (Some (Appends rule)) a xs w e = ordered_plain xs due next w e

-- the task and the call of a Who
who_parts : (n : ℕ) (p : Program) (o : Option Call) (m : CallState) → ((who_in n p o m).task ≡ n)
    × ((who_in n p o m).call ≡ m.at)
who_parts n p None m = (refl, refl)
who_parts n p (Some c) m = (refl, refl)

-- the next step comes after the one just made
advances : (n : ℕ) (p : Program) (t : Position) (c : Call) (place : ℕ) (x : Next)
    → call_at p t.call_state ≡ Some c
    → is_earlier (who_in n p (Some c) t.call_state)
    (who_at n p
    (position_with t (moved c t.call_state (progress_of p.cred.admin c t.call_state) place
    x)).call_state) ≡ true
advances n p t c place (On due) at =
    subst (λ (o : Option Call). is_earlier (who_in n p (Some c) t.call_state)
    (who_in n p o (moved c t.call_state (progress_of p.cred.admin c t.call_state) place (On due)).0)
    ≡ true) (sym at)
    (earlier_from (who_in n p (Some c) t.call_state)
    (who_in n p (Some c)
    (moved c t.call_state (progress_of p.cred.admin c t.call_state) place (On due)).0)
    refl (inr (refl, omega arith)))
advances n p t c place (Over r) at =
    let parts =
    who_parts n p
    (call_at p (moved c t.call_state (progress_of p.cred.admin c t.call_state) place (Over r)).0)
    (moved c t.call_state (progress_of p.cred.admin c t.call_state) place (Over r)).0 in
    let call : (who_at n p
    (moved c t.call_state (progress_of p.cred.admin c t.call_state) place (Over r)).0).call
    ≡ t.call_state.at + 1 = parts.1 in
    earlier_from (who_in n p (Some c) t.call_state)
    (who_at n p (moved c t.call_state (progress_of p.cred.admin c t.call_state) place (Over r)).0)
    (sym parts.0)
    (inl (subst (λ (k : ℕ). t.call_state.at < k) (sym call) (omega arith)))

-- a step keeps the order, whether or not the program is over
step_ordered : (mode : Mode) (n : ℕ) (p : Program) (t : Position) (a : Answer) (xs : List Made)
    (o : Option Call) → call_at p t.call_state ≡ o → OrderedBefore xs (who_in n p o t.call_state)
    → OrderedBefore (logged (who_in n p o t.call_state) (step_in p o t.call_state) a ++ xs)
    (who_at n p (resume_in mode p o t a).call_state)
step_ordered mode n p t a xs None at w =
    subst (λ (o : Option Call). OrderedBefore xs (who_in n p o t.call_state)) (sym at) w
step_ordered mode n p t a xs (Some c) at w =
    logged_ordered (who_in n p (Some c) t.call_state)
    (who_at n p (resume_in mode p (Some c) t a).call_state)
    (Some (ask_of p.cred.admin c t.call_state)) a xs w
    (advances n p t c a.place
    (next mode c (progress_of p.cred.admin c t.call_state).due a.told a.action) at)

-- the order along a history
pub log_ordered : LogIsOrdered
log_ordered mode n p [] =
    record {
      ordered = tt;
      before =
          All-nil
          (λ (b : Made). is_earlier b.event.who (who_at n p (position mode p []).call_state)
          ≡ true);
    }
log_ordered mode n p (a ∷ h) =
    step_ordered mode n p (position mode p h) a (log mode n p h)
    (call_at p (position mode p h).call_state) refl (log_ordered mode n p h)

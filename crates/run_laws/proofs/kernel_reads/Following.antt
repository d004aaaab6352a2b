-- One module or firmware call, along the history of its task.
use Rattle.std.proofs.Common.{◌≡◌, ℕ, ◌+◌, ◌<◌, Bool, true, false, cond, List, [], ◌∷◌, ◌++◌, length, Option, Some, None, refl, sym, ◌∙◌, ap, subst, arith, inl, inr}
use Rattle.std.specs.Prelude.{◌⊎◌, ◌==◌, slice_get, unwrap_or}
use Rattle.std.proofs.lemmas.Bool.{eq-eqb, eqb-true}
use Rattle.std.proofs.lemmas.List.{append-nil}
use Rattle.std.proofs.lemmas.Option.{none-some, same_Some, slice_get_past}
use Rattle.call_steps.specs.CallState.{Progress, Step, begun, file_after, is_done, moved, progress_of, step_by}
use Rattle.call_steps.specs.CallState.{Nothing, Does, Checks, Signals, Appends}
use Rattle.call_steps.specs.Steps.{course_of, next}
use Rattle.call_steps.specs.declared.call.Call.{Call}
use Rattle.call_steps.specs.declared.call.Call.TheVariants as call
use Rattle.call_steps.specs.declared.course.Course.TheVariants as course
use Rattle.call_steps.specs.declared.due.Next.{Next}
use Rattle.call_steps.specs.declared.due.Next.TheVariants.{On, Over}
use Rattle.call_steps.specs.declared.held.Handle.{Handle}
use Rattle.call_steps.specs.declared.reply.Reply.{Reply}
use Rattle.inode_events.specs.declared.deed.Deed.TheVariants as deed
use Rattle.inode_events.specs.declared.deed.How.TheVariants as how
use Rattle.inode_events.specs.declared.told.Event.{Event}
use Rattle.inode_events.specs.meta.declared.appraisal.Mode.{Mode}
use Rattle.inode_events.specs.meta.declared.step.Who.{Who}
use Rattle.run_model.specs.History.{Answer, Position, call_at, event, event_in, own, position, position_with, resume_in, step_in, who_in}
use Rattle.run_model.specs.Scene.{Program}
use Rattle.run_model.proofs.about_growing.Own.{slice_get-push}
use Rattle.run_laws.proofs.shown.Denied.{IsEven, even, get_left, one_there}
use Rattle.run_laws.specs.kernel_reads.Reads.{read_by}
use Rattle.run_laws.proofs.kernel_reads.Tracking.{HasLoaded, IsLoad, NextIs, NoneOf, StepFits, Underway, counts_first, each_both, get_pushed, is_told, keeps, loaded_more, who_of}

-- ---- what the history says of call k

-- before the call begins, no event is of it; while it is in progress, and once it was answered with
-- success, its events are those of a read by the kernel
record Tracked (n k i : ℕ) (t : Position) (xs : List (ℕ × Event)) : Type 0 where
  pub ahead : t.call_state.at < k → NoneOf k xs
  pub begins : t.call_state.at ≡ k → t.call_state.progress ≡ None → NoneOf k xs
  pub goes : (g : Progress) → t.call_state.at ≡ k → t.call_state.progress ≡ Some g
      → Underway n k i g.inode g.file g.due.ask g.due.reply xs
  pub done : (r : Reply) → slice_get t.replies k ≡ Some r → is_done r ≡ true → HasLoaded n k r xs

-- each outcome is one that its deed can have in a legal journal
abbrev pub AreTold : List (ℕ × Event) → Type 0
AreTold xs = (j : ℕ) (x : ℕ × Event) → slice_get xs j ≡ Some x
    → is_told x.1.deed x.1.told ≡ true

-- ---- the kernel's calls

-- a module is read as the kernel reads its files, and so is a firmware file
module_loads : IsLoad course.Module
module_loads = record { admits = refl; reads = λ r. refl; refuses = λ cause. refl }

-- the course of a firmware file is that of a module
firmware_loads : IsLoad course.Firmware
firmware_loads = record { admits = refl; reads = λ r. refl; refuses = λ cause. refl }

-- so each call by which the kernel reads has such a course
loads : (c : Call) (i : ℕ) → read_by c ≡ Some i → IsLoad (course_of c)
loads (call.Module inode) i e = module_loads
loads (call.Firmware inode) i e = firmware_loads
loads c i e = absurd (none-some i e)

-- ---- a step of the call itself

-- the outcome of the step fits its deed, if the events do
step_fits : (i : ℕ) (who : Who) (s : Step) (a : Answer) (xs : List (ℕ × Event))
    → AreTold (xs ++ event_in i who (Some s) a) → StepFits i s a.told
step_fits i who (Does j d) a xs fit = λ e. at (j == i) (eq-eqb j i e) fit where
  at : (b : Bool) → b ≡ true → AreTold (xs ++ cond b ((a.place, event who d a.told) ∷ []) [])
      → is_told d a.told ≡ true
  at true e f = f (length xs) (a.place, event who d a.told)
      (slice_get-push xs (a.place, event who d a.told))
  at false e f = absurd (cc)
step_fits i who Nothing a xs fit = tt
step_fits i who (Checks j file func mask) a xs fit = tt
step_fits i who (Signals d) a xs fit = tt
step_fits i who (Appends rule) a xs fit = tt

-- what holds after the step of the call with this progress
abbrev Moves : Mode → Bool → ℕ → ℕ → ℕ → Call → List (ℕ × Event) → Answer → Progress → Type 0
Moves mode admin n k i c xs a g =
    AreTold (xs ++ event_in i (who_of n k g.step) (Some (step_by admin c g g.due.ask)) a)
    → NextIs n k i g.inode (file_after g.due.ask a.place g.file)
    (xs ++ event_in i (who_of n k g.step) (Some (step_by admin c g g.due.ask)) a)
    (next mode c g.due a.told a.action)

-- the call goes on
moves_on : (mode : Mode) (admin : Bool) (n k i : ℕ) (c : Call) (xs : List (ℕ × Event)) (a : Answer)
    (g : Progress) → IsLoad (course_of c)
    → Underway n k i g.inode g.file g.due.ask g.due.reply xs → Moves mode admin n k i c xs a g
moves_on mode admin n k i c xs a g load u fit =
    keeps mode admin n k i c (course_of c) load g.due.ask g.due.reply g.step g.inode g.file g.how xs
    a u (step_fits i (who_of n k g.step) (step_by admin c g g.due.ask) a xs fit)

-- the call begins
moves_first : (mode : Mode) (admin : Bool) (n k i : ℕ) (c : Call) (hs : List Handle)
    (xs : List (ℕ × Event)) (a : Answer) → read_by c ≡ Some i → NoneOf k xs
    → Moves mode admin n k i c xs a (begun admin hs c)
moves_first mode admin n k i (call.Module j) hs xs a e none =
    subst (λ (x : ℕ). Moves mode admin n k x (call.Module j) xs a (begun admin hs (call.Module j)))
    (same_Some j i e) (λ fit. counts_first n k j a.place 0 course.Module module_loads a.told xs none
    (step_fits j (who_of n k 0) (Does j (deed.Count how.Exec)) a xs fit refl))
moves_first mode admin n k i (call.Firmware j) hs xs a e none =
    subst
    (λ (x : ℕ). Moves mode admin n k x (call.Firmware j) xs a (begun admin hs (call.Firmware j)))
    (same_Some j i e) (λ fit. counts_first n k j a.place 0 course.Firmware firmware_loads a.told xs
    none (step_fits j (who_of n k 0) (Does j (deed.Count how.Exec)) a xs fit refl))
moves_first mode admin n k i c hs xs a e none = absurd (none-some i e)

-- either way
moves : (mode : Mode) (p : Program) (n i : ℕ) (c : Call) (t : Position) (xs : List (ℕ × Event))
    (a : Answer) → read_by c ≡ Some i → Tracked n t.call_state.at i t xs
    → Moves mode p.cred.admin n t.call_state.at i c xs a (progress_of p.cred.admin c t.call_state)
moves mode p n i c t xs a e tr = at t.call_state.progress refl where
  at : (o : Option Progress) → t.call_state.progress ≡ o
      → Moves mode p.cred.admin n t.call_state.at i c xs a
      (unwrap_or o (begun p.cred.admin t.call_state.handles c))
  at None q = moves_first mode p.cred.admin n t.call_state.at i c t.call_state.handles xs a e
      (tr.begins refl q)
  at (Some g) q = moves_on mode p.cred.admin n t.call_state.at i c xs a g (loads c i e)
      (tr.goes g refl q)

-- what the step leaves is tracked
moved_here : (n i : ℕ) (c : Call) (t : Position) (g : Progress) (place : ℕ) (xs : List (ℕ × Event))
    (x : Next) → IsEven t
    → NextIs n t.call_state.at i g.inode (file_after g.due.ask place g.file) xs x
    → Tracked n t.call_state.at i (position_with t (moved c t.call_state g place x)) xs
moved_here n i c t g place xs (On s) even u = record {
  ahead = λ l. absurd (omega arith);
  begins = λ e q. absurd (cc);
  goes = λ g2 e q. subst
      (λ (y : Progress). Underway n t.call_state.at i y.inode y.file y.due.ask y.due.reply xs)
      (same_Some (record g {
        due = s;
        step = g.step + 1;
        file = file_after g.due.ask place g.file;
      }) g2 q) u;
  done = λ r h d. absurd (none-some r
      (sym (slice_get_past t.replies t.call_state.at (omega (arith, even))) ∙ h));
}
moved_here n i c t g place xs (Over r) even u = record {
  ahead = λ l. absurd (omega arith);
  begins = λ e q. absurd (omega arith);
  goes = λ g2 e q. absurd (omega arith);
  done = λ r2 h d. at r2 d (get_pushed t.replies r t.call_state.at r2 h);
} where
  at : (r2 : Reply) → is_done r2 ≡ true
      → (slice_get t.replies t.call_state.at ≡ Some r2)
      ⊎ ((t.call_state.at ≡ length t.replies) × (r ≡ r2)) → HasLoaded n t.call_state.at r2 xs
  at r2 d (inl h) = absurd (none-some r2
      (sym (slice_get_past t.replies t.call_state.at (omega (arith, even))) ∙ h))
  at r2 d (inr h) =
      subst (λ (y : Reply). is_done y ≡ true → HasLoaded n t.call_state.at y xs) h.1 u d

-- ---- a step of another call

-- an event of a step has the step's Who
event_who : (i : ℕ) (who : Who) (o : Option Step) (a : Answer) (j : ℕ) (x : ℕ × Event)
    → slice_get (event_in i who o a) j ≡ Some x → who ≡ x.1.who
event_who i who None a j x h = absurd (cc)
event_who i who (Some Nothing) a j x h = absurd (cc)
event_who i who (Some (Does inode d)) a j x h = ap (λ (y : ℕ × Event). y.1.who)
    (one_there (inode == i) (a.place, event who d a.told) j x h)
event_who i who (Some (Checks inode file func mask)) a j x h = ap (λ (y : ℕ × Event). y.1.who)
    (one_there (inode == i) (a.place, event who (deed.Check file func a.action a.rules) a.told) j x
    h)
event_who i who (Some (Signals d)) a j x h = absurd (cc)
event_who i who (Some (Appends rule)) a j x h = absurd (cc)

-- a step of another call adds no event of call k
event_other : (i k : ℕ) (who : Who) (o : Option Step) (a : Answer) → (who.call ≡ k → ⊥)
    → NoneOf k (event_in i who o a)
event_other i k who o a other j x h s =
    other (ap (λ (w : Who). w.call) (event_who i who o a j x h) ∙ s)

-- none of call k in both parts
none_more : (k : ℕ) (xs ys : List (ℕ × Event)) → NoneOf k ys → NoneOf k xs → NoneOf k (xs ++ ys)
none_more k xs ys b a = each_both k (λ x. ⊥) xs ys a b

-- a step of another call leaves call k tracked
moved_apart : (n k i : ℕ) (c : Call) (t : Position) (g : Progress) (place : ℕ)
    (xs ys : List (ℕ × Event)) (x : Next) → IsEven t → (t.call_state.at ≡ k → ⊥) → NoneOf k ys
    → Tracked n k i t xs
    → Tracked n k i (position_with t (moved c t.call_state g place x)) (xs ++ ys)
moved_apart n k i c t g place xs ys (On s) even other none tr = record {
  ahead = λ l. none_more k xs ys none (tr.ahead l);
  begins = λ e q. absurd (other e);
  goes = λ g2 e q. absurd (other e);
  done = λ r h d. loaded_more n k r xs ys none (tr.done r h d);
}
moved_apart n k i c t g place xs ys (Over r) even other none tr = record {
  ahead = λ l. none_more k xs ys none (tr.ahead (omega arith));
  begins = λ e q. none_more k xs ys none (tr.ahead (omega arith));
  goes = λ g2 e q. absurd (cc);
  done = λ r2 h d. at r2 d (get_pushed t.replies r k r2 h);
} where
  at : (r2 : Reply) → is_done r2 ≡ true
      → (slice_get t.replies k ≡ Some r2) ⊎ ((k ≡ length t.replies) × (r ≡ r2))
      → HasLoaded n k r2 (xs ++ ys)
  at r2 d (inl h) = loaded_more n k r2 xs ys none (tr.done r2 h d)
  at r2 d (inr h) = absurd (other (sym (h.0 ∙ even)))

-- ---- the history

-- the events so far are told
told_before : (xs ys : List (ℕ × Event)) → AreTold (xs ++ ys) → AreTold xs
told_before xs ys fit j x e = fit j x (get_left xs ys j x e)

-- a step of a task keeps call k tracked
tracked_step : (mode : Mode) (n : ℕ) (p : Program) (i k : ℕ) (c : Call) (t : Position) (a : Answer)
    (xs : List (ℕ × Event)) (o : Option Call) → slice_get p.calls k ≡ Some c → read_by c ≡ Some i
    → call_at p t.call_state ≡ o → IsEven t
    → AreTold (xs ++ event_in i (who_in n p o t.call_state) (step_in p o t.call_state) a)
    → Tracked n k i t xs
    → Tracked n k i (resume_in mode p o t a)
    (xs ++ event_in i (who_in n p o t.call_state) (step_in p o t.call_state) a)
tracked_step mode n p i k c t a xs None is reads here even fit tr =
    subst (λ (l : List (ℕ × Event)). Tracked n k i t l) (sym (append-nil xs)) tr
tracked_step mode n p i k c t a xs (Some c2) is reads here even fit tr =
    at (t.call_state.at == k) refl where
      g : Progress
      g = progress_of p.cred.admin c2 t.call_state

      mine : (m : ℕ) → t.call_state.at ≡ m → slice_get p.calls m ≡ Some c → Tracked n m i t xs
          → Tracked n m i (resume_in mode p (Some c2) t a)
          (xs ++ event_in i (who_in n p (Some c2) t.call_state)
          (step_in p (Some c2) t.call_state) a)
      mine m e is2 tr2 =
          subst (λ (y : ℕ). Tracked n y i t xs → Tracked n y i (resume_in mode p (Some c2) t a)
          (xs ++ event_in i (who_in n p (Some c2) t.call_state) (step_in p (Some c2) t.call_state)
          a)) e (λ tr3. moved_here n i c2 t (progress_of p.cred.admin c2 t.call_state) a.place
          (xs ++ event_in i (who_in n p (Some c2) t.call_state)
          (step_in p (Some c2) t.call_state) a)
          (next mode c2 (progress_of p.cred.admin c2 t.call_state).due a.told a.action) even
          (moves mode p n i c2 t xs a
          (subst (λ (y : Call). read_by y ≡ Some i) (same_Some c c2
          (sym is2 ∙ ap (slice_get p.calls) (sym e) ∙ here)) reads) tr3 fit)) tr2

      at : (b : Bool) → (t.call_state.at == k) ≡ b → Tracked n k i (resume_in mode p (Some c2) t a)
          (xs ++ event_in i (who_in n p (Some c2) t.call_state)
          (step_in p (Some c2) t.call_state) a)
      at true e = mine k (eqb-true t.call_state.at k e) is tr
      at false e =
          let other : t.call_state.at ≡ k → ⊥ = λ s. cc (eq-eqb t.call_state.at k s) in
          moved_apart n k i c2 t (progress_of p.cred.admin c2 t.call_state) a.place xs
          (event_in i (who_in n p (Some c2) t.call_state) (step_in p (Some c2) t.call_state) a)
          (next mode c2 (progress_of p.cred.admin c2 t.call_state).due a.told a.action) even other
          (event_other i k (who_in n p (Some c2) t.call_state) (step_in p (Some c2) t.call_state) a
          other) tr

-- call k is tracked along the whole history
tracked : (mode : Mode) (n : ℕ) (p : Program) (i k : ℕ) (c : Call) → slice_get p.calls k ≡ Some c
    → read_by c ≡ Some i → (h : List Answer) → AreTold (own mode n p i h)
    → Tracked n k i (position mode p h) (own mode n p i h)
tracked mode n p i k c is reads [] fit = record {
  ahead = λ l j x e s. absurd (cc);
  begins = λ e q j x e2 s. absurd (cc);
  goes = λ g e q. absurd (cc);
  done = λ r e d. absurd (cc);
}
tracked mode n p i k c is reads (a ∷ h) fit =
    tracked_step mode n p i k c (position mode p h) a (own mode n p i h)
    (call_at p (position mode p h).call_state) is reads refl (even mode p h) fit
    (tracked mode n p i k c is reads h (told_before (own mode n p i h)
    (event_in i (who_in n p (call_at p (position mode p h).call_state)
    (position mode p h).call_state)
    (step_in p (call_at p (position mode p h).call_state) (position mode p h).call_state) a) fit))

-- a call of the kernel that was answered with success has counted, read and closed its file
pub loaded : (mode : Mode) (n : ℕ) (p : Program) (i k : ℕ) (c : Call) (h : List Answer) (r : Reply)
    → slice_get p.calls k ≡ Some c → read_by c ≡ Some i → AreTold (own mode n p i h)
    → slice_get (position mode p h).replies k ≡ Some r → is_done r ≡ true
    → HasLoaded n k r (own mode n p i h)
loaded mode n p i k c h r is reads fit replied done =
    (tracked mode n p i k c is reads h fit).done r replied done

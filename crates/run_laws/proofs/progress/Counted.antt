-- The posts and waits of a task, counted by its history and by its replies.
use Rattle.std.proofs.Common.{◌≡◌, ℕ, zero, suc, ◌+◌, ◌<◌, ◌≤◌, Bool, true, false, cond, List, [], ◌∷◌, ◌++◌, length, Option, Some, None, refl, sym, ◌∙◌, ap, subst, arith, length-append}
use Rattle.std.specs.Prelude.{slice_get, take, unwrap_or}
use Rattle.std.proofs.lemmas.List.{append-nil}
use Rattle.std.proofs.lemmas.Option.{same_Some, slice_get_within}
use Rattle.inode_meta.specs.declared.appraisal.Mode.{Mode}
use Rattle.inode_meta.specs.declared.step.Who.{Who}
use Rattle.inode_events.specs.Semaphores.{is_post, is_wait}
use Rattle.inode_events.specs.declared.deed.Deed.{Deed}
use Rattle.inode_events.specs.declared.deed.Deed.TheVariants as deed
use Rattle.inode_events.specs.declared.told.Event.{Event}
use Rattle.call_steps.specs.CallState.{Progress, ask_of, begun, handles_after, moved, plain_step, progress_of, step_by}
use Rattle.call_steps.specs.Steps.{next}
use Rattle.call_steps.specs.declared.ask.Ask.{Ask}
use Rattle.call_steps.specs.declared.ask.Ask.TheVariants as ask
use Rattle.call_steps.specs.declared.call.Call.{Call}
use Rattle.call_steps.specs.declared.call.Call.TheVariants as call
use Rattle.call_steps.specs.declared.held.Handle.{Handle}
use Rattle.call_steps.specs.declared.reply.Reply.{Reply}
use Rattle.call_steps.specs.declared.reply.Reply.TheVariants as reply
use Rattle.run_model.specs.Ended.{how_many, posts_to, waits_for}
use Rattle.run_model.specs.History.{Answer, Position, call_at, resume_in, own_signals, signal_in, step_in, position, position_with, who_at}
use Rattle.run_model.specs.Scene.{Program}
use Rattle.call_steps.specs.declared.due.Next.{Next}
use Rattle.call_steps.specs.declared.due.Next.TheVariants.{On, Over}

-- the deed on the semaphores that the call makes, if any
abbrev pub signal_of : Call → Option Deed
signal_of (call.Post sem) = Some (deed.Post sem)
signal_of (call.Wait sem) = Some (deed.Wait sem)
signal_of _ = None

-- a test of deeds and a test of calls that agree
pub record Agree (on_deed : Deed → Bool) (on_call : Call → Bool) : Type 0 where
  pub quiet : (c : Call) → signal_of c ≡ None → on_call c ≡ false
  pub signal : (c : Call) (d : Deed) → signal_of c ≡ Some d → on_call c ≡ on_deed d

-- the number of these events that pass
abbrev pub passing : (Deed → Bool) → List (ℕ × Event) → ℕ
passing on_deed [] = 0
passing on_deed (x ∷ xs) = cond (on_deed x.1.deed) (1 + passing on_deed xs) (passing on_deed xs)

plain_quiet : (admin : Bool) (c : Call) → signal_of c ≡ None → (who : Who) (a : Answer)
    → signal_in who (Some (plain_step admin c)) a ≡ []
plain_quiet true (call.AddRule rule) q who a = refl
plain_quiet false (call.AddRule rule) q who a = refl
plain_quiet admin (call.Post sem) q who a = absurd (cc)
plain_quiet admin (call.Wait sem) q who a = absurd (cc)
plain_quiet admin c q who a = refl

step_quiet : (admin : Bool) (c : Call) (g : Progress) (k : Ask) → signal_of c ≡ None
    → (who : Who) (a : Answer) → signal_in who (Some (step_by admin c g k)) a ≡ []
step_quiet admin c g ask.Plain q who a = plain_quiet admin c q who a
step_quiet admin c g k q who a = refl

abbrev pub bit : Bool → ℕ
bit b = cond b 1 0

-- the task's position matches its replies, and its deeds on the semaphores match its answered calls
pub record Fits (on_deed : Deed → Bool) (on_call : Call → Bool) (p : Program) (t : Position)
    (xs : List (ℕ × Event)) : Type 0 where
  pub even : length t.replies ≡ t.call_state.at
  pub within : t.call_state.at ≤ length p.calls
  pub begins : (c : Call) (d : Deed) → call_at p t.call_state ≡ Some c → signal_of c ≡ Some d
      → t.call_state.progress ≡ None
  pub counted : how_many on_call (take t.call_state.at p.calls) ≡ passing on_deed xs

how_many_more : (test : Call → Bool) (cs : List Call) (k : ℕ) (c : Call) → slice_get cs k ≡ Some c
    → how_many test (take (suc k) cs) ≡ how_many test (take k cs) + bit (test c)
how_many_more test [] k c h = absurd (cc)
how_many_more test (x ∷ cs) zero c h = let e : bit (test x) ≡ bit (test c) =
    ap (λ (y : Call). bit (test y)) (same_Some x c h) in omega arith
how_many_more test (x ∷ cs) (suc k) c h = at (test x) (how_many_more test cs k c h) where
  at : (b : Bool) → how_many test (take (suc k) cs) ≡ how_many test (take k cs) + bit (test c)
      → cond b (1 + how_many test (take (suc k) cs)) (how_many test (take (suc k) cs))
      ≡ cond b (1 + how_many test (take k cs)) (how_many test (take k cs)) + bit (test c)
  at true e = omega arith
  at false e = e

pub passing_append : (on_deed : Deed → Bool) (xs ys : List (ℕ × Event))
    → passing on_deed (xs ++ ys) ≡ passing on_deed xs + passing on_deed ys
passing_append on_deed [] ys = omega arith
passing_append on_deed (x ∷ xs) ys = at (on_deed x.1.deed) (passing_append on_deed xs ys) where
  at : (b : Bool) → passing on_deed (xs ++ ys) ≡ passing on_deed xs + passing on_deed ys
      → cond b (1 + passing on_deed (xs ++ ys)) (passing on_deed (xs ++ ys))
      ≡ cond b (1 + passing on_deed xs) (passing on_deed xs) + passing on_deed ys
  at true e = omega arith
  at false e = e

-- answering the call keeps the match
answered_fits : (on_deed : Deed → Bool) (on_call : Call → Bool) (p : Program) (t : Position)
    (xs ys : List (ℕ × Event)) (c : Call) (r : Reply) (hs : List Handle)
    → Fits on_deed on_call p t xs → call_at p t.call_state ≡ Some c
    → passing on_deed ys ≡ bit (on_call c) → Fits on_deed on_call p (record {
      call_state = record {
        at = t.call_state.at + 1;
        progress = None;
        handles = hs;
      };
      replies = t.replies ++ r ∷ [];
    }) (xs ++ ys)
answered_fits on_deed on_call p t xs ys c r hs f at e =
    let even : length t.replies ≡ t.call_state.at = f.even in
    let inside : t.call_state.at < length p.calls = slice_get_within p.calls t.call_state.at c at in
    let next : t.call_state.at + 1 ≡ suc t.call_state.at = omega arith in
    let more : how_many on_call (take (suc t.call_state.at) p.calls)
    ≡ how_many on_call (take t.call_state.at p.calls) + bit
    (on_call c) = how_many_more on_call p.calls t.call_state.at c at in
    let old : how_many on_call (take t.call_state.at p.calls) ≡ passing on_deed xs = f.counted in
    let both : passing on_deed (xs ++ ys) ≡ passing on_deed xs + passing on_deed ys =
    passing_append on_deed xs ys in
    let whole : how_many on_call (take (suc t.call_state.at) p.calls) ≡ passing on_deed (xs ++ ys) =
    omega arith in
    record {
      even = omega (arith, length-append t.replies (r ∷ []));
      within = omega arith;
      begins = λ c' d g s. refl;
      counted = ap (λ (n : ℕ). how_many on_call (take n p.calls)) next ∙ whole;
    }

-- a call that is neither a post nor a wait keeps the match
quiet_fits : (on_deed : Deed → Bool) (on_call : Call → Bool) → Agree on_deed on_call
    → (p : Program) (t : Position) (xs : List (ℕ × Event)) (c : Call) (g : Progress) (place : ℕ)
    (x : Next)
    → Fits on_deed on_call p t xs → call_at p t.call_state ≡ Some c → signal_of c ≡ None
    → Fits on_deed on_call p (position_with t (moved c t.call_state g place x)) (xs ++ [])
quiet_fits on_deed on_call agree p t xs c g place (On plan) f at q = record {
  even = f.even;
  within = f.within;
  begins = λ c' d h s. let e : c ≡ c' =
      same_Some c c' (sym at ∙ h) in let z : signal_of c ≡ Some d =
      ap signal_of e ∙ s in absurd (cc);
  counted = f.counted ∙ ap (passing on_deed) (sym (append-nil xs));
}
quiet_fits on_deed on_call agree p t xs c g place (Over r) f at q =
    answered_fits on_deed on_call p t xs [] c r (handles_after c g r t.call_state.handles) f at
    (sym (ap bit (agree.quiet c q)))

-- a post or a wait keeps the match
signal_fits : (on_deed : Deed → Bool) (on_call : Call → Bool) → Agree on_deed on_call
    → (mode : Mode) (p : Program) (t : Position) (a : Answer) (who : Who) (xs : List (ℕ × Event))
    (c : Call) (d : Deed)
    → Fits on_deed on_call p t xs → call_at p t.call_state ≡ Some c → signal_of c ≡ Some d
    → (g : Progress) → g ≡ begun p.cred.admin t.call_state.handles c
    → Fits on_deed on_call p (position_with t (moved c t.call_state g a.place
    (next mode c g.due a.told a.action)))
    (xs ++ signal_in who (Some (step_by p.cred.admin c g g.due.ask)) a)
signal_fits on_deed on_call agree mode p t a who xs c d f at s g e =
    subst (λ (y : Progress). Fits on_deed on_call p
    (position_with t (moved c t.call_state y a.place (next mode c y.due a.told a.action)))
    (xs ++ signal_in who (Some (step_by p.cred.admin c y y.due.ask)) a)) (sym e)
    (by_call c d s at) where
      by_call : (c : Call) (d : Deed) → signal_of c ≡ Some d → call_at p t.call_state ≡ Some c
          → Fits on_deed on_call p (position_with t
          (moved c t.call_state (begun p.cred.admin t.call_state.handles c) a.place
          (next mode c (begun p.cred.admin t.call_state.handles c).due a.told a.action)))
          (xs ++ signal_in who
          (Some (step_by p.cred.admin c (begun p.cred.admin t.call_state.handles c)
          (begun p.cred.admin t.call_state.handles c).due.ask)) a)
      by_call (call.Post sem) d s at =
          answered_fits on_deed on_call p t xs ((
            a.place,
            record { who = who; deed = deed.Post sem; told = a.told },
          ) ∷ [])
          (call.Post sem) reply.Done _ f at (sym
          (ap bit (agree.signal (call.Post sem) (deed.Post sem) refl)))
      by_call (call.Wait sem) d s at =
          answered_fits on_deed on_call p t xs ((
            a.place,
            record { who = who; deed = deed.Wait sem; told = a.told },
          ) ∷ [])
          (call.Wait sem) reply.Done _ f at (sym
          (ap bit (agree.signal (call.Wait sem) (deed.Wait sem) refl)))
      by_call c d s at = absurd (cc)

call_fits : (on_deed : Deed → Bool) (on_call : Call → Bool) → Agree on_deed on_call
    → (mode : Mode) (p : Program) (t : Position) (a : Answer) (who : Who) (xs : List (ℕ × Event))
    (c : Call) (o : Option Deed)
    → Fits on_deed on_call p t xs → call_at p t.call_state ≡ Some c → signal_of c ≡ o
    → Fits on_deed on_call p (resume_in mode p (Some c) t a)
    (xs ++ signal_in who (Some (ask_of p.cred.admin c t.call_state)) a)
call_fits on_deed on_call agree mode p t a who xs c None f at q =
    let g : Progress = progress_of p.cred.admin c t.call_state in
    subst (λ (l : List (ℕ × Event)). Fits on_deed on_call p (resume_in mode p (Some c) t a)
    (xs ++ l)) (sym (step_quiet p.cred.admin c (progress_of p.cred.admin c t.call_state)
    (progress_of p.cred.admin c t.call_state).due.ask q who a))
    (quiet_fits on_deed on_call agree p t xs c (progress_of p.cred.admin c t.call_state) a.place
    (next mode c (progress_of p.cred.admin c t.call_state).due a.told a.action) f at q)
call_fits on_deed on_call agree mode p t a who xs c (Some d) f at s =
    signal_fits on_deed on_call agree mode p t a who xs c d f at s
    (progress_of p.cred.admin c t.call_state)
    (ap (λ (o : Option Progress). unwrap_or o (begun p.cred.admin t.call_state.handles c))
    (f.begins c d at s))

step_fits : (on_deed : Deed → Bool) (on_call : Call → Bool) → Agree on_deed on_call
    → (mode : Mode) (p : Program) (t : Position) (a : Answer) (who : Who) (xs : List (ℕ × Event))
    (o : Option Call)
    → Fits on_deed on_call p t xs → call_at p t.call_state ≡ o
    → Fits on_deed on_call p (resume_in mode p o t a)
    (xs ++ signal_in who (step_in p o t.call_state) a)
step_fits on_deed on_call agree mode p t a who xs None f at =
    subst (Fits on_deed on_call p t) (sym (append-nil xs)) f
step_fits on_deed on_call agree mode p t a who xs (Some c) f at =
    call_fits on_deed on_call agree mode p t a who xs c (signal_of c) f at refl

pub history_fits : (on_deed : Deed → Bool) (on_call : Call → Bool) → Agree on_deed on_call
    → (mode : Mode) (n : ℕ) (p : Program) (h : List Answer)
    → Fits on_deed on_call p (position mode p h) (own_signals mode n p h)
history_fits on_deed on_call agree mode n p [] =
    record { even = refl; within = omega arith; begins = λ c d x y. refl; counted = refl }
history_fits on_deed on_call agree mode n p (a ∷ h) =
    step_fits on_deed on_call agree mode p (position mode p h) a
    (who_at n p (position mode p h).call_state) (own_signals mode n p h)
    (call_at p (position mode p h).call_state)
    (history_fits on_deed on_call agree mode n p h) refl

pub posts_agree : (sem : ℕ) → Agree (is_post sem) (posts_to sem)
posts_agree sem = record { quiet = quiet; signal = signal } where
  quiet : (c : Call) → signal_of c ≡ None → posts_to sem c ≡ false
  quiet (call.Post other) q = absurd (cc)
  quiet c q = refl

  signal : (c : Call) (d : Deed) → signal_of c ≡ Some d → posts_to sem c ≡ is_post sem d
  signal (call.Post other) d q = ap (is_post sem) (same_Some (deed.Post other) d q)
  signal (call.Wait other) d q = ap (is_post sem) (same_Some (deed.Wait other) d q)
  signal c d q = absurd (cc)

pub waits_agree : (sem : ℕ) → Agree (is_wait sem) (waits_for sem)
waits_agree sem = record { quiet = quiet; signal = signal } where
  quiet : (c : Call) → signal_of c ≡ None → waits_for sem c ≡ false
  quiet (call.Wait other) q = absurd (cc)
  quiet c q = refl

  signal : (c : Call) (d : Deed) → signal_of c ≡ Some d → waits_for sem c ≡ is_wait sem d
  signal (call.Post other) d q = ap (is_wait sem) (same_Some (deed.Post other) d q)
  signal (call.Wait other) d q = ap (is_wait sem) (same_Some (deed.Wait other) d q)
  signal c d q = absurd (cc)

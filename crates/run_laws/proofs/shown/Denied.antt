-- The call of a refused file is denied with the cause of the verdict.
use Rattle.std.proofs.Common.{◌≡◌, ℕ, zero, suc, ◌+◌, ◌<◌, ◌≤◌, Bool, true, false, List, [], ◌∷◌, ◌++◌, length, map, Option, Some, None, refl, sym, ◌∙◌, ap, subst, arith, inl, inr, length-append, ◌⊎◌}
use Rattle.std.specs.Prelude.{All, reverse, slice_get, unwrap_or, ◌==◌, if◌then◌else◌}
use Rattle.std.proofs.lemmas.List.{reverse-append, reverse-reverse}
use Rattle.std.proofs.lemmas.List.Elements.{All-contains}
use Rattle.std.proofs.lemmas.Option.{get_or_from_slice_get, none-some, same_Some, slice_get_past, slice_get_within}
use Rattle.run_model.specs.growing.Shown.{no_name}
use Rattle.run_model.proofs.about_growing.Own.{own_has, slice_get-push}
use Rattle.inode_meta.specs.declared.appraisal.Mode.{Mode}
use Rattle.inode_meta.specs.declared.step.Who.{Who}
use Rattle.label_values.specs.declared.verdict.Cause.{Cause}
use Rattle.label_values.specs.declared.verdict.Verdict.{Verdict}
use Rattle.label_values.specs.declared.verdict.Verdict.TheVariants.{Deny}
use Rattle.inode_events.specs.policy.declared.access.Action.{Action}
use Rattle.inode_events.specs.Admission.{granted_file}
use Rattle.inode_events.specs.Callers.{caller_in, caller_of}
use Rattle.inode_events.specs.Files.{is_writer}
use Rattle.inode_events.specs.NewestFirst.{newest_first}
use Rattle.inode_events.specs.declared.deed.Deed.{Deed}
use Rattle.inode_events.specs.declared.deed.Deed.TheVariants as deed
use Rattle.inode_events.specs.declared.deed.How.{How}
use Rattle.inode_events.specs.declared.told.Event.{Event}
use Rattle.inode_events.specs.declared.told.Grant.{Grant}
use Rattle.inode_events.specs.declared.told.Told.{Told}
use Rattle.inode_events.specs.declared.told.Told.TheVariants as told
use Rattle.call_steps.specs.CallState.{CallState, Progress, Step, ask_of, begun, deed_of, file_after, moved, plain_step, progress_of, step_by}
use Rattle.call_steps.specs.CallState.{Nothing, Does, Checks, Signals, Appends}
use Rattle.call_steps.specs.Steps.{after_chunk, after_close, close, course_of, granted, how_of, next, next_by, refused, refused_by, admitted}
use Rattle.call_steps.specs.declared.ask.Ask.{Ask}
use Rattle.call_steps.specs.declared.ask.Ask.TheVariants as ask
use Rattle.call_steps.specs.declared.call.Call.{Call}
use Rattle.call_steps.specs.declared.call.Call.TheVariants as call
use Rattle.call_steps.specs.declared.course.Course.{Course}
use Rattle.call_steps.specs.declared.course.Course.TheVariants as course
use Rattle.call_steps.specs.declared.due.Next.{Next}
use Rattle.call_steps.specs.declared.due.Next.TheVariants.{On, Over}
use Rattle.call_steps.specs.declared.reply.Reply.{Reply}
use Rattle.call_steps.specs.declared.reply.Reply.TheVariants as reply
use Rattle.run_model.specs.History.{Answer, Position, call_at, event, event_in, own, position, position_with, resume_in, step_at, step_in, who_at, who_in}
use Rattle.run_model.specs.Scene.{Program, Scene, mode_of}
use Rattle.run_model.specs.Served.{IsServed, Run, events_of}
use Rattle.run_laws.specs.shown.Laws.{ShownIsDenied}

-- ---- lists

-- an element of the front is at the same place of the whole list
pub get_left : {A : Type 0} (xs ys : List A) (k : ℕ) (x : A) → slice_get xs k ≡ Some x
    → slice_get (xs ++ ys) k ≡ Some x
get_left [] ys k x h = absurd (cc)
get_left (y ∷ xs) ys zero x h = h
get_left (y ∷ xs) ys (suc k) x h = get_left xs ys k x h

-- an element of the whole list is in the front or in the rest
pub get_parts : {A : Type 0} (xs ys : List A) (k : ℕ) (x : A) → slice_get (xs ++ ys) k ≡ Some x
    → (slice_get xs k ≡ Some x) ⊎ ((j : ℕ) × (slice_get ys j ≡ Some x))
get_parts [] ys k x h = inr (k, h)
get_parts (y ∷ xs) ys zero x h = inl h
get_parts (y ∷ xs) ys (suc k) x h = get_parts xs ys k x h

-- a list has an element at each place below its length
pub get_within : {A : Type 0} (xs : List A) (k : ℕ) → k < length xs
    → (x : A) × (slice_get xs k ≡ Some x)
get_within [] k l = absurd (omega arith)
get_within (x ∷ xs) zero l = (x, refl)
get_within (x ∷ xs) (suc k) l = get_within xs k (omega arith)

-- the map of a list has the image of an element at the same place
pub map_get : {A B : Type 0} (f : A → B) (xs : List A) (k : ℕ) (x : A) → slice_get xs k ≡ Some x
    → slice_get (map f xs) k ≡ Some (f x)
map_get f [] k x h = absurd (cc)
map_get f (y ∷ xs) zero x h = λ i. Some (f (same_Some y x h i))
map_get f (y ∷ xs) (suc k) x h = map_get f xs k x h

-- ---- there is a reply to each answered call, and to no other

abbrev pub IsEven : Position → Type 0
IsEven t = length t.replies ≡ t.call_state.at

even_next : (c : Call) (t : Position) (g : Progress) (place : ℕ) (n : Next) → IsEven t
    → IsEven (position_with t (moved c t.call_state g place n))
even_next c t g place (On s) e = e
even_next c t g place (Over r) e = omega (arith, e, length-append t.replies (r ∷ []))

even_step : (mode : Mode) (p : Program) (t : Position) (a : Answer) (o : Option Call) → IsEven t
    → IsEven (resume_in mode p o t a)
even_step mode p t a None e = e
even_step mode p t a (Some c) e =
    even_next c t (progress_of p.cred.admin c t.call_state) a.place
    (next mode c (progress_of p.cred.admin c t.call_state).due a.told a.action) e

pub even : (mode : Mode) (p : Program) (h : List Answer) → IsEven (position mode p h)
even mode p [] = refl
even mode p (a ∷ h) =
    even_step mode p (position mode p h) a (call_at p (position mode p h).call_state)
    (even mode p h)

-- ---- a call that is closing its file with this reply

abbrev is_closing : Ask → Bool
is_closing ask.Close = true
is_closing ask.CloseTake = true
is_closing ask.CloseChunk = true
is_closing ask.CloseFinish = true
is_closing _ = false

-- the next ask closes the file with this reply, or the call ends with it
abbrev Closes : Reply → Next → Type 0
Closes r (On s) = (is_closing s.ask ≡ true) × (s.reply ≡ r)
Closes r (Over x) = x ≡ r

closing_take : (r : Reply) (t : Told) → Closes r (after_close r t)
closing_take r told.Begun = (refl, refl)
closing_take r t = refl

closing_chunk : (r : Reply) (t : Told)
    → Closes r (after_chunk ask.CloseChunk ask.CloseFinish r t)
closing_chunk r told.More = (refl, refl)
closing_chunk r t = (refl, refl)

closing_next : (mode : Mode) (c : Course) (k : Ask) (r : Reply) (t : Told) (action : Action)
    → is_closing k ≡ true → Closes r (next_by mode c k r t action)
closing_next mode c ask.Close r t action e = refl
closing_next mode c ask.CloseTake r t action e = closing_take r t
closing_next mode c ask.CloseChunk r t action e = closing_chunk r t
closing_next mode c ask.CloseFinish r t action e = refl
closing_next mode c k r t action e = absurd (cc)

-- the task is at call k, which is closing its file with this reply
record IsClosing (k : ℕ) (r : Reply) (t : Position) : Type 0 where
  pub at : t.call_state.at ≡ k
  pub progress : Progress
  pub goes : t.call_state.progress ≡ Some progress
  pub closing : is_closing progress.due.ask ≡ true
  pub reply : progress.due.reply ≡ r

-- call k is closing its file with this reply, or has been answered with it
abbrev Answers : ℕ → Reply → Position → Type 0
Answers k r t = IsClosing k r t ⊎ (slice_get t.replies k ≡ Some r)

next_answers : (c : Call) (t : Position) (g : Progress) (place : ℕ) (n : Next) (k : ℕ) (r : Reply)
    → Closes r n → t.call_state.at ≡ k → IsEven t
    → Answers k r (position_with t (moved c t.call_state g place n))
next_answers c t g place (On s) k r closes at even = inl (record {
  at = at;
  progress = record g {
    due = s;
    step = g.step + 1;
    file = file_after g.due.ask place g.file;
  };
  goes = refl;
  closing = closes.0;
  reply = closes.1;
})
next_answers c t g place (Over x) k r closes at even =
    inr (ap (slice_get (t.replies ++ x ∷ [])) (sym (even ∙ at))
    ∙ slice_get-push t.replies x ∙ ap (λ (y : Reply). Some y) closes)

-- a call's reply remains while the task goes on
stays : (c : Call) (t : Position) (g : Progress) (place : ℕ) (n : Next) (k : ℕ) (r : Reply)
    → slice_get t.replies k ≡ Some r
    → slice_get (position_with t (moved c t.call_state g place n)).replies k ≡ Some r
stays c t g place (On s) k r h = h
stays c t g place (Over x) k r h = get_left t.replies (x ∷ []) k r h

answers_step : (mode : Mode) (p : Program) (t : Position) (a : Answer) (o : Option Call) (k : ℕ)
    (r : Reply) → IsEven t → Answers k r t → Answers k r (resume_in mode p o t a)
answers_step mode p t a None k r even h = h
answers_step mode p t a (Some c) k r even (inr h) =
    inr (stays c t (progress_of p.cred.admin c t.call_state) a.place
    (next mode c (progress_of p.cred.admin c t.call_state).due a.told a.action) k r h)
answers_step mode p t a (Some c) k r even (inl h) =
    subst (λ (g : Progress). Answers k r (position_with t (moved c t.call_state g a.place
    (next mode c g.due a.told a.action))))
    (sym (ap (λ (o : Option Progress). unwrap_or o (begun p.cred.admin t.call_state.handles c))
    h.goes)) (next_answers c t h.progress a.place (next mode c h.progress.due a.told a.action) k r
    (subst (λ (x : Reply). Closes x (next mode c h.progress.due a.told a.action)) h.reply
    (closing_next mode (course_of c) h.progress.due.ask h.progress.due.reply a.told a.action
    h.closing)) h.at even)

answers_later : (mode : Mode) (p : Program) (later before : List Answer) (k : ℕ) (r : Reply)
    → Answers k r (position mode p before) → Answers k r (position mode p (later ++ before))
answers_later mode p [] before k r h = h
answers_later mode p (a ∷ later) before k r h =
    answers_step mode p (position mode p (later ++ before)) a
    (call_at p (position mode p (later ++ before)).call_state) k r (even mode p (later ++ before))
    (answers_later mode p later before k r h)

-- ---- a refusal

close_closes : (h : How) → is_closing (close h) ≡ true
close_closes h = at (is_writer h) where
  at : (b : Bool) → is_closing (if b then ask.CloseTake else ask.Close) ≡ true
  at true = refl
  at false = refl

refused_closes : (c : Course) (cause : Cause) → Closes (reply.Denied cause) (refused c cause)
refused_closes course.Mmap cause = refl
refused_closes c cause = (close_closes (how_of c), refl)

granted_closes : (c : Course) (g : Grant) (cause : Cause) → g.admitted ≡ false
    → g.verdict ≡ Some (Deny cause) → Closes (reply.Denied cause) (granted c g)
granted_closes c g cause barred verdict =
    subst (λ (b : Bool). Closes (reply.Denied cause)
    (if b then admitted c else refused_by c g.verdict)) (sym barred)
    (subst (λ (v : Option Verdict). Closes (reply.Denied cause) (refused_by c v)) (sym verdict)
    (refused_closes c cause))

-- the step asks for a grant
abbrev AsksGrant : Ask → Type 0
AsksGrant (ask.Take slot) = Unit {0}
AsksGrant ask.Finish = Unit {0}
AsksGrant _ = ⊥

grant_next : (mode : Mode) (c : Course) (k : Ask) (r : Reply) (g : Grant) (action : Action)
    → AsksGrant k → next_by mode c k r (told.Grant g) action ≡ granted c g
grant_next mode c (ask.Take slot) r g action h = refl
grant_next mode c ask.Finish r g action h = refl
grant_next mode c k r g action h = absurd h

-- ---- which step made the event

abbrev deed_in : Step → Deed
deed_in (Does i d) = d
deed_in _ = deed.Birth

deed_grants : (admin : Bool) (c : Call) (f : ℕ) → granted_file (deed_of admin c f) ≡ None
deed_grants admin (call.Write fd from bytes) f = refl
deed_grants admin (call.SetAttr inode name value) f = refl
deed_grants admin (call.SetMeta inode change) f = refl
deed_grants admin c f = refl

plain_grants : (admin : Bool) (c : Call) → granted_file (deed_in (plain_step admin c)) ≡ None
plain_grants admin (call.Post sem) = refl
plain_grants admin (call.Wait sem) = refl
plain_grants true (call.AddRule rule) = refl
plain_grants false (call.AddRule rule) = refl
plain_grants admin c = refl

step_grants : (admin : Bool) (c : Call) (g : Progress) (k : Ask) (file : ℕ)
    → granted_file (deed_in (step_by admin c g k)) ≡ Some file → AsksGrant k
step_grants admin c g (ask.Take slot) file h = tt
step_grants admin c g ask.Finish file h = tt
step_grants admin c g ask.Write file h =
    absurd (none-some file (sym (deed_grants admin c g.file) ∙ h))
step_grants admin c g ask.SetAttr file h =
    absurd (none-some file (sym (deed_grants admin c g.file) ∙ h))
step_grants admin c g ask.SetMeta file h =
    absurd (none-some file (sym (deed_grants admin c g.file) ∙ h))
step_grants admin c g ask.Plain file h =
    absurd (none-some file (sym (plain_grants admin c) ∙ h))
step_grants admin c g k file h = absurd (none-some file h)

-- a step whose event grants something does the deed of that event
record IsDeedOf (who : Who) (o : Option Step) (a : Answer) (x : ℕ × Event) : Type 0 where
  pub step : Step
  pub is : o ≡ Some step
  pub event_is : event who (deed_in step) a.told ≡ x.1

pub one_there : (b : Bool) (y : ℕ × Event) (j : ℕ) (x : ℕ × Event)
    → slice_get (if b then y ∷ [] else []) j ≡ Some x → y ≡ x
one_there true y zero x h = same_Some y x h
one_there true y (suc j) x h = absurd (cc)
one_there false y j x h = absurd (cc)

deed_made : (i : ℕ) (who : Who) (o : Option Step) (a : Answer) (j : ℕ) (x : ℕ × Event) (file : ℕ)
    → slice_get (event_in i who o a) j ≡ Some x → granted_file x.1.deed ≡ Some file
    → IsDeedOf who o a x
deed_made i who None a j x file h g = absurd (cc)
deed_made i who (Some Nothing) a j x file h g = absurd (cc)
deed_made i who (Some (Does inode d)) a j x file h g =
    let same = one_there (inode == i) (a.place, event who d a.told) j x h in
    record { step = Does inode d; is = refl; event_is = ap (λ (y : ℕ × Event). y.1) same }
deed_made i who (Some (Checks inode f func mask)) a j x file h g =
    let same = one_there (inode == i)
    (a.place, event who (deed.Check f func a.action a.rules) a.told) j x h in
    absurd (none-some file (ap (λ (y : ℕ × Event). granted_file y.1.deed) same ∙ g))
deed_made i who (Some (Signals d)) a j x file h g = absurd (cc)
deed_made i who (Some (Appends rule)) a j x file h g = absurd (cc)

-- an event of a task is made by a step of the task's history
record IsMade (mode : Mode) (n : ℕ) (p : Program) (i : ℕ) (h : List Answer) (x : ℕ × Event)
    : Type 0 where
  pub later : List Answer
  pub next : Answer
  pub before : List Answer
  pub is : h ≡ later ++ next ∷ before
  pub number : ℕ
  pub there : slice_get (event_in i (who_at n p (position mode p before).call_state)
      (step_at p (position mode p before).call_state) next) number ≡ Some x

own_made : (mode : Mode) (n : ℕ) (p : Program) (i : ℕ) (h : List Answer) (j : ℕ) (x : ℕ × Event)
    → slice_get (own mode n p i h) j ≡ Some x → IsMade mode n p i h x
own_made mode n p i [] j x e = absurd (cc)
own_made mode n p i (a ∷ h) j x e =
    at (own_made mode n p i h j x)
    (get_parts (own mode n p i h) (event_in i (who_at n p (position mode p h).call_state)
    (step_at p (position mode p h).call_state) a) j x e) where
      longer : IsMade mode n p i h x → IsMade mode n p i (a ∷ h) x
      longer m = record {
        later = a ∷ m.later;
        next = m.next;
        before = m.before;
        is = ap (λ (l : List Answer). a ∷ l) m.is;
        number = m.number;
        there = m.there;
      }

      at : (slice_get (own mode n p i h) j ≡ Some x → IsMade mode n p i h x)
          → (slice_get (own mode n p i h) j ≡ Some x)
          ⊎ ((k : ℕ) × (slice_get (event_in i (who_at n p (position mode p h).call_state)
          (step_at p (position mode p h).call_state) a) k ≡ Some x)) → IsMade mode n p i (a ∷ h) x
      at rest (inl w) = longer (rest w)
      at rest (inr w) = record {
        later = [];
        next = a;
        before = h;
        is = refl;
        number = w.0;
        there = w.1;
      }

-- ---- the refusal in the history

refusal : (mode : Mode) (p : Program) (n : ℕ) (t : Position) (a : Answer) (o : Option Call)
    (g : Grant) (cause : Cause) (file : ℕ) (s : Step) → step_in p o t.call_state ≡ Some s
    → granted_file (deed_in s) ≡ Some file → a.told ≡ told.Grant g → g.admitted ≡ false
    → g.verdict ≡ Some (Deny cause) → IsEven t
    → Answers t.call_state.at (reply.Denied cause) (resume_in mode p o t a)
refusal mode p n t a None g cause file s is grants said barred verdict even = absurd (cc)
refusal mode p n t a (Some c) g cause file s is grants said barred verdict even =
    next_answers c t (progress_of p.cred.admin c t.call_state) a.place
    (next mode c (progress_of p.cred.admin c t.call_state).due a.told a.action) t.call_state.at
    (reply.Denied cause)
    (subst (λ (x : Told). Closes (reply.Denied cause)
    (next mode c (progress_of p.cred.admin c t.call_state).due x a.action)) (sym said)
    (subst (λ (x : Next). Closes (reply.Denied cause) x)
    (sym (grant_next mode (course_of c) (progress_of p.cred.admin c t.call_state).due.ask
    (progress_of p.cred.admin c t.call_state).due.reply g a.action asks))
    (granted_closes (course_of c) g cause barred verdict))) refl even where
      asks : AsksGrant (progress_of p.cred.admin c t.call_state).due.ask
      asks = step_grants p.cred.admin c (progress_of p.cred.admin c t.call_state)
          (progress_of p.cred.admin c t.call_state).due.ask file
          (ap (λ (y : Step). granted_file (deed_in y))
          (same_Some (ask_of p.cred.admin c t.call_state) s is) ∙ grants)

-- the call that a `Who` names is the one at which the task's state is
who_call : (n : ℕ) (p : Program) (m : CallState) → (who_at n p m).call ≡ m.at
who_call n p m = at (call_at p m) where
  at : (o : Option Call) → (who_in n p o m).call ≡ m.at
  at None = refl
  at (Some c) = refl

-- if a served task's call of a refused file is answered, its reply is a denial
denied_by : (scene : Scene) (run : Run) (n : ℕ) (p : Program) (t : Position) (i k : ℕ)
    (journal : List Event) (who : Who) (d : Deed) (g : Grant) (file : ℕ) (cause : Cause)
    (r : Reply) → IsServed scene run n p t → slice_get run.journals i ≡ Some journal
    → slice_get journal k ≡ Some (record { who = who; deed = d; told = told.Grant g })
    → caller_in who.task d ≡ n + 1 → granted_file d ≡ Some file → g.admitted ≡ false
    → g.verdict ≡ Some (Deny cause) → slice_get t.replies who.call ≡ Some r
    → r ≡ reply.Denied cause
denied_by scene run n p t i k journal who d g file cause r s at here caller grants barred verdict
    replied = ends (own_made (mode_of scene) n p i s.history found.0
    (k, record { who = who; deed = d; told = told.Grant g })
    (ap (λ (l : List (ℕ × Event)). slice_get l found.0) (sym (s.events i journal at)) ∙ found.1))
  where
    found : (j : ℕ) × (slice_get (events_of n journal) j
        ≡ Some (k, record { who = who; deed = d; told = told.Grant g }))
    found = own_has
        (record {
          name = no_name;
          callers = 0;
          spare = 0;
          list = journal;
          numbers = map caller_of journal;
        })
        (record { name = no_name; number = n + 1; seen = []; mine = events_of n journal })
        refl k (record { who = who; deed = d; told = told.Grant g }) here
        (map_get caller_of journal k (record { who = who; deed = d; told = told.Grant g }) here
        ∙ ap (λ (x : ℕ). Some x) caller)

    decide : (k : ℕ) → who.call ≡ k → IsEven t → Answers k (reply.Denied cause) t
        → r ≡ reply.Denied cause
    decide k same even (inl c) =
        absurd (none-some r
        (sym (slice_get_past t.replies who.call (omega (arith, even, same, c.at))) ∙ replied))
    decide k same even (inr h) =
        same_Some r (reply.Denied cause) (sym replied ∙ ap (slice_get t.replies) same ∙ h)

    ends : IsMade (mode_of scene) n p i s.history
        (k, record { who = who; deed = d; told = told.Grant g }) → r ≡ reply.Denied cause
    ends m = by (deed_made i (who_at n p (position (mode_of scene) p m.before).call_state)
        (step_at p (position (mode_of scene) p m.before).call_state) m.next m.number
        (k, record { who = who; deed = d; told = told.Grant g }) file m.there grants) where
          by : IsDeedOf (who_at n p (position (mode_of scene) p m.before).call_state)
              (step_at p (position (mode_of scene) p m.before).call_state) m.next
              (k, record { who = who; deed = d; told = told.Grant g }) → r ≡ reply.Denied cause
          by made =
              let before = position (mode_of scene) p m.before in
              let refused_at = refusal (mode_of scene) p n before m.next
              (call_at p before.call_state) g cause file made.step made.is
              (ap (λ (e : Event). granted_file e.deed) made.event_is ∙ grants)
              (ap (λ (e : Event). e.told) made.event_is) barred verdict
              (even (mode_of scene) p m.before) in
              let later = answers_later (mode_of scene) p m.later (m.next ∷ m.before)
              before.call_state.at (reply.Denied cause) refused_at in
              let stands : position (mode_of scene) p (m.later ++ m.next ∷ m.before) ≡ t =
              ap (position (mode_of scene) p) (sym m.is) ∙ s.stands in
              decide before.call_state.at
              (ap (λ (e : Event). e.who.call) (sym made.event_is)
              ∙ who_call n p before.call_state)
              (subst IsEven s.stands (even (mode_of scene) p s.history))
              (subst (λ (u : Position). Answers before.call_state.at (reply.Denied cause) u)
              stands later)

-- an event of the past is at some place of the journal
pub place_of : (journal later p : List Event) (e : Event) → newest_first journal ≡ later ++ e ∷ p
    → (k : ℕ) × (slice_get journal k ≡ Some e)
unfolding newest_first
place_of journal later p e is = (
  length (reverse p),
  ap (λ (l : List Event). slice_get l (length (reverse p)))
      (sym (reverse-reverse journal) ∙ ap reverse is ∙ reverse-append later (e ∷ p)
      ∙ ap (λ (l : List Event). l ++ reverse later) (reverse-append (e ∷ []) p))
      ∙ get_left (reverse p ++ e ∷ []) (reverse later) (length (reverse p)) e
      (slice_get-push (reverse p) e),
)

-- a deed that may be granted is a task's
granted_caller : (d : Deed) (file task : ℕ) → granted_file d ≡ Some file
    → caller_in task d ≡ task + 1
granted_caller (deed.Take f) file task h = refl
granted_caller (deed.Finish f) file task h = refl
granted_caller d file task h = absurd (none-some file h)

-- proof of `ShownIsDenied`
pub denied_there : ShownIsDenied
denied_there scene ending run shown inode p who d grant file cause t r s grants barred verdict at
    replied = by (place_of s.journal s.later p e s.is) where
      e : Event
      e = record { who = who; deed = d; told = told.Grant grant }

      by : (k : ℕ) × (slice_get s.journal k
          ≡ Some (record { who = who; deed = d; told = told.Grant grant }))
          → r ≡ reply.Denied cause
      by k =
          let caller = granted_caller d file who.task grants in
          let all = All-contains (λ (j : List Event).
          All (λ (x : Event). caller_of x ≤ length scene.programs) j) run.journals s.journal
          shown.served.no_other_events (
            s.number,
            slice_get_within run.journals s.number s.journal s.journal_at,
            get_or_from_slice_get run.journals s.number s.journal s.journal s.journal_at,
          ) in
          let one = All-contains (λ (x : Event). caller_of x ≤ length scene.programs) s.journal
          (record { who = who; deed = d; told = told.Grant grant }) all (
            k.0,
            slice_get_within s.journal k.0
                (record { who = who; deed = d; told = told.Grant grant }) k.1,
            get_or_from_slice_get s.journal k.0
                (record { who = who; deed = d; told = told.Grant grant })
                (record { who = who; deed = d; told = told.Grant grant }) k.1,
          ) in
          let below : who.task < length scene.programs = within caller one in
          let program = get_within scene.programs who.task below in
          denied_by scene run who.task program.0 t s.number k.0 s.journal who d grant file cause r
          (shown.served.tasks who.task program.0 t program.1 at) s.journal_at k.1 caller grants
          barred verdict replied
        where
          within : caller_in who.task d ≡ who.task + 1
              → caller_in who.task d ≤ length scene.programs → who.task < length scene.programs
          within a b = omega arith

-- A task with an open collection continues it.
use Rattle.std.proofs.Common.{◌≡◌, ℕ, ◌+◌, Bool, true, false, cond, List, [], ◌∷◌, ◌++◌, map, Option, Some, None, refl, sym, ◌∙◌, ap, subst}
use Rattle.std.specs.Prelude.{◌==◌, All, reverse, unwrap_or}
use Rattle.std.proofs.lemmas.Bool.{eqb-true, eq-eqb}
use Rattle.std.proofs.lemmas.List.{append-nil, reverse-append}
use Rattle.std.proofs.lemmas.List.Elements.{All-nil, All-cons, All-head, All-tail, All-contains, Contains-append_right}
use Rattle.std.proofs.lemmas.Option.{same_Some}
use Rattle.grow_list.specs.Entries.{entries_from}
use Rattle.inode_meta.specs.declared.appraisal.Mode.{Mode}
use Rattle.inode_meta.specs.declared.step.Who.{Who}
use Rattle.inode_events.specs.policy.declared.access.Action.{Action}
use Rattle.inode_events.specs.Callers.{caller_of}
use Rattle.inode_events.specs.Checks.{asks}
use Rattle.inode_events.specs.Inode.{Inode}
use Rattle.inode_events.specs.Integrity.{Collection, collecting}
use Rattle.inode_events.specs.Files.{writers}
use Rattle.inode_events.specs.Legal.{EachFollows, Follows}
use Rattle.inode_events.specs.NewestFirst.{newest_first}
use Rattle.inode_events.specs.Says.{close_finish_told, finish_told, placed_in}
use Rattle.inode_events.specs.templates.declared.entry.Placed.{Placed}
use Rattle.inode_events.specs.declared.deed.Deed.{Deed}
use Rattle.inode_events.specs.declared.deed.Deed.TheVariants as deed
use Rattle.inode_events.specs.declared.deed.How.{How}
use Rattle.inode_events.specs.declared.told.Event.{Event}
use Rattle.inode_events.specs.declared.told.Told.{Told}
use Rattle.inode_events.specs.declared.told.Told.TheVariants as told
use Rattle.call_steps.specs.CallState.{CallState, Progress, Step, ask_of, begun, deed_of, moved, plain_step, progress_of, step_by}
use Rattle.call_steps.specs.CallState.{Nothing, Does, Checks, Signals, Appends}
use Rattle.call_steps.specs.Steps.{course_of, next_by}
use Rattle.call_steps.specs.declared.ask.Ask.{Ask}
use Rattle.call_steps.specs.declared.ask.Ask.TheVariants as ask
use Rattle.call_steps.specs.declared.call.Call.{Call}
use Rattle.call_steps.specs.declared.call.Call.TheVariants as call
use Rattle.call_steps.specs.declared.reply.Reply.{Reply}
use Rattle.run_model.specs.History.{Answer, Position, call_at, event, event_in, own, position, resume_in, step_at, step_in, who_at}
use Rattle.run_model.specs.Scene.{Program}
use Rattle.list_lemmas.proofs.Containing.{has_reverse}
use Rattle.list_lemmas.proofs.Properties.{all_from, all_left}
use Rattle.run_laws.specs.progress.Busy.{BusyOfHistory, finish_fits}
use Rattle.run_laws.specs.progress.Resting.{GoesOn}
use Rattle.inode_events.specs.Stage.{Asked, CloseCollected, CloseCollecting, Collected, Collecting, Gone, Settled, Stage, is_collecting, next_stage, stage_after, stage_in, touches}

-- ---- legal events

close_finish_fits : (b : Bool) (f : ℕ) → finish_fits (deed.CloseFinish f)
    (cond b told.LabelledDropped told.Dropped) ≡ true
close_finish_fits true f = refl
close_finish_fits false f = refl

finish_at : (i : Inode) (p : List Event) (f : ℕ) (placed : Placed) (o : Option Collection)
    (t : Told) → finish_told i f placed o p ≡ Some t → finish_fits (deed.Finish f) t ≡ true
finish_at i p f placed None t h = absurd (cc)
finish_at i p f placed (Some c) t h = ap (finish_fits (deed.Finish f)) (sym (same_Some _ t h))

legal_fits : (i : Inode) (p : List Event) (who : Who) (d : Deed) (t : Told) → Follows i p who d t
    → finish_fits d t ≡ true
legal_fits i p who (deed.Finish f) t h = finish_at i p f (placed_in t) (collecting i p) t h.2
legal_fits i p who (deed.CloseFinish f) t h =
    sym (ap (finish_fits (deed.CloseFinish f)) (same_Some (close_finish_told (writers p)) t h.2))
    ∙ close_finish_fits (writers p == 1) f
legal_fits i p who d t h = refl

abbrev FitsEvent : Event → Type 0
FitsEvent e = finish_fits e.deed e.told ≡ true

all_legal : (i : Inode) (p : List Event) → EachFollows i p → All FitsEvent p
all_legal i [] h = All-nil FitsEvent
all_legal i (e ∷ p) h =
    All-cons FitsEvent e p (legal_fits i p e.who e.deed e.told h.0) (all_legal i p h.1)

all_past : (list : List Event) → All FitsEvent (newest_first list) → All FitsEvent list
unfolding newest_first
all_past list h =
    all_from FitsEvent list (λ e c. All-contains FitsEvent (reverse list) e h
    (has_reverse list e c))

abbrev FitsPlaced : ℕ × Event → Type 0
FitsPlaced x = FitsEvent x.1

entries_fit : (n k : ℕ) (ms : List ℕ) (list : List Event) → All FitsEvent list
    → All FitsPlaced (entries_from n k ms list)
entries_fit n k [] list h = All-nil FitsPlaced
entries_fit n k (m ∷ ms) [] h = All-nil FitsPlaced
entries_fit n k (m ∷ ms) (e ∷ list) h =
    at (n == m) (All-head FitsEvent e list h)
    (entries_fit n (k + 1) ms list (All-tail FitsEvent e list h)) where
      at : (b : Bool) → FitsEvent e → All FitsPlaced (entries_from n (k + 1) ms list)
          → All FitsPlaced (cond b ((k, e) ∷ entries_from n (k + 1) ms list)
          (entries_from n (k + 1) ms list))
      at true x xs = All-cons FitsPlaced (k, e) (entries_from n (k + 1) ms list) x xs
      at false x xs = xs

-- ---- the next step

abbrev IsGoing : Ask → Type 0
IsGoing ask.Chunk = Unit {0}
IsGoing ask.Finish = Unit {0}
IsGoing ask.CloseChunk = Unit {0}
IsGoing ask.CloseFinish = Unit {0}
IsGoing _ = ⊥

abbrev Going : Progress → ℕ → ℕ → Type 0
Going g i f = (g.inode ≡ i) × (g.file ≡ f) × IsGoing g.due.ask

-- the call in progress acts on this file
abbrev GoesAt : Program → CallState → ℕ → ℕ → Type 0
GoesAt p m i f =
    (c : Call) × (g : Progress) × (call_at p m ≡ Some c) × (m.progress ≡ Some g) × Going g i f

-- whether the event opens no collection
abbrev calm : Deed → Told → Bool
calm (deed.Take f) told.Begun = false
calm (deed.CloseTake f) told.Begun = false
calm (deed.Chunk f) told.Last = false
calm (deed.CloseChunk f) told.Last = false
calm _ _ = true

asked_calm : (b : Bool) → is_collecting (cond b Asked Settled) ≡ false
asked_calm true = refl
asked_calm false = refl

calm_life : (inode : Inode) (d : Deed) (t : Told) (l : Stage) → calm d t ≡ true
    → is_collecting (stage_after inode d t l) ≡ true → is_collecting l ≡ true
calm_life inode (deed.Count how) told.Held l c h = absurd (cc)
calm_life inode (deed.Check file func action rules) t l c h =
    let n : is_collecting (cond (asks inode action) Asked Settled)
    ≡ false = asked_calm (asks inode action) in absurd (cc)
calm_life inode (deed.Take file) told.Begun l c h = absurd (cc)
calm_life inode (deed.Take file) (told.Grant grant) l c h = absurd (cc)
calm_life inode (deed.Chunk file) told.Last l c h = absurd (cc)
calm_life inode (deed.Finish file) (told.Grant grant) l c h = absurd (cc)
calm_life inode (deed.Close file) told.Dropped l c h = absurd (cc)
calm_life inode (deed.CloseTake file) told.Begun l c h = absurd (cc)
calm_life inode (deed.CloseTake file) told.Dropped l c h = absurd (cc)
calm_life inode (deed.CloseChunk file) told.Last l c h = absurd (cc)
calm_life inode (deed.CloseFinish file) told.Dropped l c h = absurd (cc)
calm_life inode (deed.CloseFinish file) told.LabelledDropped l c h = absurd (cc)
calm_life inode d t l c h = h

calm_lived : (inode : Inode) (f place : ℕ) (d : Deed) (t : Told) (a : Bool) (l : Stage)
    → calm d t ≡ true → is_collecting (cond a (next_stage inode f place d t l) l) ≡ true
    → is_collecting l ≡ true
calm_lived inode f place d t false l c h = h
calm_lived inode f place d t true l c h = at (touches f place d) h where
  at : (b : Bool) → is_collecting (cond b (stage_after inode d t l) l) ≡ true
      → is_collecting l ≡ true
  at true g = calm_life inode d t l c g
  at false g = g

-- a file that collects after the event is the event's, or collected before
split : (gi gf i f : ℕ) (x l : Stage) → (is_collecting l ≡ true → (gi ≡ i) × (gf ≡ f))
    → is_collecting (cond (gi == i) (cond (gf == f) x l) l) ≡ true
    → (gi ≡ i) × (gf ≡ f) × (is_collecting x ≡ true)
split gi gf i f x l ih h = at (gi == i) refl (gf == f) refl h where
  at : (a : Bool) → (gi == i) ≡ a → (b : Bool) → (gf == f) ≡ b
      → is_collecting (cond a (cond b x l) l) ≡ true
      → (gi ≡ i) × (gf ≡ f) × (is_collecting x ≡ true)
  at true p true q h = (eqb-true gi i p, eqb-true gf f q, h)
  at true p false q h = let z : (gf == f) ≡ true = eq-eqb gf f (ih h).1 in absurd (cc)
  at false p b q h = let z : (gi == i) ≡ true = eq-eqb gi i (ih h).0 in absurd (cc)

abbrev mk : Ask → Reply → ℕ → ℕ → ℕ → How → Progress
mk k r step gi gf how =
    record { due = record { ask = k; reply = r }; step = step; inode = gi; file = gf; how = how }

-- the stage of file f in journal i after a step
abbrev pub after_step : Inode → ℕ → ℕ → Step → Answer → Stage → Stage
after_step inode i f (Does j d) a l = cond (j == i) (next_stage inode f a.place d a.told l) l
after_step inode i f (Checks j file func mask) a l =
    cond (j == i) (next_stage inode f a.place (deed.Check file func a.action a.rules) a.told l) l
after_step inode i f _ a l = l

abbrev step_fits : ℕ → Step → Answer → Type 0
step_fits i (Does j d) a = j ≡ i → finish_fits d a.told ≡ true
step_fits i _ a = Unit {0}

abbrev answer : ℕ → Told → Action → ℕ → Answer
answer place u action rules = record { place = place; told = u; action = action; rules = rules }

plain_keeps : (inode : Inode) (i f : ℕ) (admin : Bool) (c : Call) (a : Answer) (l : Stage)
    → after_step inode i f (plain_step admin c) a l ≡ l
plain_keeps inode i f true (call.AddRule rule) a l = refl
plain_keeps inode i f false (call.AddRule rule) a l = refl
plain_keeps inode i f admin c a l = refl

deed_calm : (admin : Bool) (c : Call) (file : ℕ) (t : Told) → calm (deed_of admin c file) t ≡ true
deed_calm admin (call.Write fd from bytes) file t = refl
deed_calm admin (call.SetAttr inode name value) file t = refl
deed_calm admin (call.SetMeta inode change) file t = refl
deed_calm admin c file t = refl

busy_step : (inode : Inode) (mode : Mode) (p : Program) (m : CallState) (c : Call)
    → call_at p m ≡ Some c → (k : Ask) (r : Reply) (step gi gf : ℕ) (how : How) (i f place : ℕ)
    (u : Told) (action : Action) (rules : ℕ) (l : Stage)
    → (is_collecting l ≡ true → Going (mk k r step gi gf how) i f)
    → step_fits i (step_by p.cred.admin c (mk k r step gi gf how) k)
    (answer place u action rules)
    → is_collecting (after_step inode i f (step_by p.cred.admin c (mk k r step gi gf how) k)
    (answer place u action rules) l) ≡ true
    → GoesAt p (moved c m (mk k r step gi gf how) place
    (next_by mode (course_of c) k r u action)).0 i f
busy_step inode mode p m c at ask.Count r step gi gf how i f place u action rules l ih fits h =
    absurd (ih (calm_lived inode f place (deed.Count how) u (gi == i) l (refl) h)).2
busy_step inode mode p m c at
    (ask.Check func mask) r step gi gf how i f place u action rules l ih fits h = absurd
    (ih (calm_lived inode f place (deed.Check gf func action rules) u (gi == i) l (refl) h)).2
busy_step inode mode p m c at
    (ask.Take slot) r step gi gf how i f place told.Begun action rules l ih fits h = let e =
    split gi gf i f Collecting l (λ b. absurd (ih b).2) h in (c, _, at, refl, (e.0, e.1, tt))
busy_step inode mode p m c at
    (ask.Take slot) r step gi gf how i f place u action rules l ih fits h =
    absurd (ih (calm_lived inode f place (deed.Take gf) u (gi == i) l (refl) h)).2
busy_step inode mode p m c at ask.Chunk r step gi gf how i f place told.More action rules l ih fits
    h = let e = split gi gf i f l l (λ b. ((ih b).0, (ih b).1)) h
    in (c, _, at, refl, (e.0, e.1, tt))
busy_step inode mode p m c at ask.Chunk r step gi gf how i f place told.Last action rules l ih fits
    h = let e = split gi gf i f Collected l (λ b. ((ih b).0, (ih b).1)) h
    in (c, _, at, refl, (e.0, e.1, tt))
busy_step inode mode p m c at ask.Chunk r step gi gf how i f place u action rules l ih fits h =
    let e = split gi gf i f l l (λ b. ((ih b).0, (ih b).1)) h in (c, _, at, refl, (e.0, e.1, tt))
busy_step inode mode p m c at ask.Finish r step gi gf how i f place
    (told.Grant grant) action rules l ih fits h = let e = split gi gf i f Settled l
    (λ b. ((ih b).0, (ih b).1)) h in let z : false ≡ true = e.2 in absurd (cc)
busy_step inode mode p m c at ask.Finish r step gi gf how i f place u action rules l ih fits h =
    let e = split gi gf i f l l (λ b. ((ih b).0, (ih b).1)) h in let z : false
    ≡ true = fits e.0 in absurd (cc)
busy_step inode mode p m c at
    (ask.Read from len) r step gi gf how i f place u action rules l ih fits h = absurd
    (ih (calm_lived inode f place (deed.Read gf from len) u (gi == i) l (refl) h)).2
busy_step inode mode p m c at ask.Write r step gi gf how i f place u action rules l ih fits h =
    absurd (ih (calm_lived inode f place (deed_of p.cred.admin c gf) u (gi == i) l
    (deed_calm p.cred.admin c gf u) h)).2
busy_step inode mode p m c at
    (ask.Trunc len) r step gi gf how i f place u action rules l ih fits h =
    absurd (ih (calm_lived inode f place (deed.Trunc gf len) u (gi == i) l (refl) h)).2
busy_step inode mode p m c at ask.SetAttr r step gi gf how i f place u action rules l ih fits h =
    absurd (ih (calm_lived inode f place (deed_of p.cred.admin c gf) u (gi == i) l
    (deed_calm p.cred.admin c gf u) h)).2
busy_step inode mode p m c at ask.SetMeta r step gi gf how i f place u action rules l ih fits h =
    absurd (ih (calm_lived inode f place (deed_of p.cred.admin c gf) u (gi == i) l
    (deed_calm p.cred.admin c gf u) h)).2
busy_step inode mode p m c at ask.Close r step gi gf how i f place u action rules l ih fits h =
    absurd (ih (calm_lived inode f place (deed.Close gf) u (gi == i) l (refl) h)).2
busy_step inode mode p m c at ask.CloseTake r step gi gf how i f place told.Begun action rules l ih
    fits h = let e = split gi gf i f CloseCollecting l (λ b. absurd (ih b).2) h
    in (c, _, at, refl, (e.0, e.1, tt))
busy_step inode mode p m c at ask.CloseTake r step gi gf how i f place u action rules l ih fits h =
    absurd (ih (calm_lived inode f place (deed.CloseTake gf) u (gi == i) l (refl) h)).2
busy_step inode mode p m c at ask.CloseChunk r step gi gf how i f place told.More action rules l ih
    fits h = let e = split gi gf i f l l (λ b. ((ih b).0, (ih b).1)) h
    in (c, _, at, refl, (e.0, e.1, tt))
busy_step inode mode p m c at ask.CloseChunk r step gi gf how i f place told.Last action rules l ih
    fits h = let e = split gi gf i f CloseCollected l (λ b. ((ih b).0, (ih b).1)) h
    in (c, _, at, refl, (e.0, e.1, tt))
busy_step inode mode p m c at ask.CloseChunk r step gi gf how i f place u action rules l ih fits h =
    let e = split gi gf i f l l (λ b. ((ih b).0, (ih b).1)) h in (c, _, at, refl, (e.0, e.1, tt))
busy_step inode mode p m c at ask.CloseFinish r step gi gf how i f place told.Dropped action rules l
    ih fits h = let e = split gi gf i f Gone l (λ b. ((ih b).0, (ih b).1)) h in let z : false
    ≡ true = e.2 in absurd (cc)
busy_step inode mode p m c at ask.CloseFinish r step gi gf how i f place told.LabelledDropped action
    rules l ih fits h = let e = split gi gf i f Gone l (λ b. ((ih b).0, (ih b).1)) h
    in let z : false ≡ true = e.2 in absurd (cc)
busy_step inode mode p m c at ask.CloseFinish r step gi gf how i f place u action rules l ih fits h
    =
    let e = split gi gf i f l l (λ b. ((ih b).0, (ih b).1)) h in let z : false
    ≡ true = fits e.0 in absurd (cc)
busy_step inode mode p m c at ask.Plain r step gi gf how i f place u action rules l ih fits h =
    absurd (ih (sym (ap is_collecting (plain_keeps inode i f p.cred.admin c
    (answer place u action rules) l)) ∙ h)).2

-- ---- along a history

-- nothing added to a history
pub same_more : {A : Type 0} (F : List (ℕ × Event) → A) (xs : List (ℕ × Event))
    → F (reverse (xs ++ [])) ≡ F (reverse xs)
same_more F xs = ap (λ (l : List (ℕ × Event)). F (reverse l)) (append-nil xs)

lived_more : (inode : Inode) (i f j : ℕ) (xs : List (ℕ × Event)) (x : ℕ × Event)
    → stage_in inode f (reverse (xs ++ cond (j == i) (x ∷ []) []))
    ≡ cond (j == i) (next_stage inode f x.0 x.1.deed x.1.told (stage_in inode f (reverse xs)))
    (stage_in inode f (reverse xs))
lived_more inode i f j xs x = at (j == i) where
  at : (b : Bool) → stage_in inode f (reverse (xs ++ cond b (x ∷ []) []))
      ≡ cond b (next_stage inode f x.0 x.1.deed x.1.told (stage_in inode f (reverse xs)))
      (stage_in inode f (reverse xs))
  at true = ap (stage_in inode f) (reverse-append xs (x ∷ []))
  at false = same_more (stage_in inode f) xs

-- the state of a file after a step
pub life_step : (inode : Inode) (i f : ℕ) (who : Who) (s : Step) (a : Answer) (xs : List (ℕ × Event))
    → stage_in inode f (reverse (xs ++ event_in i who (Some s) a))
    ≡ after_step inode i f s a (stage_in inode f (reverse xs))
life_step inode i f who Nothing a xs = same_more (stage_in inode f) xs
life_step inode i f who (Does j d) a xs = lived_more inode i f j xs (a.place, event who d a.told)
life_step inode i f who (Checks j file func mask) a xs =
    lived_more inode i f j xs (a.place, event who (deed.Check file func a.action a.rules) a.told)
life_step inode i f who (Signals d) a xs = same_more (stage_in inode f) xs
life_step inode i f who (Appends rule) a xs = same_more (stage_in inode f) xs

all_right : {A : Type 0} (P : A → Type 0) (xs ys : List A) → All P (xs ++ ys) → All P ys
all_right P xs ys h =
    all_from P ys (λ x c. All-contains P (xs ++ ys) x h (Contains-append_right xs ys x c))

event_fits : (i : ℕ) (who : Who) (s : Step) (a : Answer)
    → All FitsPlaced (event_in i who (Some s) a) → step_fits i s a
event_fits i who Nothing a h = tt
event_fits i who (Does j d) a h = λ e. at (j == i) (eq-eqb j i e) h where
  at : (b : Bool) → b ≡ true → All FitsPlaced (cond b ((a.place, event who d a.told) ∷ []) [])
      → finish_fits d a.told ≡ true
  at true q x = All-head FitsPlaced (a.place, event who d a.told) [] x
  at false q x = absurd (cc)
event_fits i who (Checks j file func mask) a h = tt
event_fits i who (Signals d) a h = tt
event_fits i who (Appends rule) a h = tt

going_now : (p : Program) (m : CallState) (c : Call) (i f : ℕ) → GoesAt p m i f
    → Going (progress_of p.cred.admin c m) i f
going_now p m c i f g =
    subst (λ (x : Progress). Going x i f) (sym
    (ap (λ (o : Option Progress). unwrap_or o (begun p.cred.admin m.handles c)) g.3)) g.4

busy_call : (inode : Inode) (mode : Mode) (p : Program) (t : Position) (a : Answer) (who : Who)
    (i f : ℕ) (xs : List (ℕ × Event)) (o : Option Call) → call_at p t.call_state ≡ o
    → (is_collecting (stage_in inode f (reverse xs)) ≡ true → GoesAt p t.call_state i f)
    → All FitsPlaced (xs ++ event_in i who (step_in p o t.call_state) a)
    → is_collecting (stage_in inode f (reverse (xs ++ event_in i who (step_in p o t.call_state) a)))
    ≡ true → GoesAt p (resume_in mode p o t a).call_state i f
busy_call inode mode p t a who i f xs None at ih fits h =
    ih (sym (ap is_collecting (same_more (stage_in inode f) xs)) ∙ h)
busy_call inode mode p t a who i f xs (Some c) at ih fits h =
    let g : Progress = progress_of p.cred.admin c t.call_state in
    busy_step inode mode p t.call_state c at (progress_of p.cred.admin c t.call_state).due.ask
    (progress_of p.cred.admin c t.call_state).due.reply
    (progress_of p.cred.admin c t.call_state).step
    (progress_of p.cred.admin c t.call_state).inode (progress_of p.cred.admin c t.call_state).file
    (progress_of p.cred.admin c t.call_state).how i f a.place a.told a.action a.rules
    (stage_in inode f (reverse xs))
    (λ b. going_now p t.call_state c i f (ih b))
    (event_fits i who (ask_of p.cred.admin c t.call_state) a
    (all_right FitsPlaced xs (event_in i who (Some (ask_of p.cred.admin c t.call_state)) a) fits))
    (sym (ap is_collecting (life_step inode i f who (ask_of p.cred.admin c t.call_state) a xs)) ∙ h)

busy_history : (inode : Inode) (mode : Mode) (n : ℕ) (p : Program) (i f : ℕ) (h : List Answer)
    → All FitsPlaced (own mode n p i h)
    → is_collecting (stage_in inode f (reverse (own mode n p i h))) ≡ true
    → GoesAt p (position mode p h).call_state i f
busy_history inode mode n p i f [] fits b = absurd (cc)
busy_history inode mode n p i f (a ∷ h) fits b =
    busy_call inode mode p (position mode p h) a (who_at n p (position mode p h).call_state) i f
    (own mode n p i h) (call_at p (position mode p h).call_state) refl
    (busy_history inode mode n p i f h (all_left FitsPlaced (own mode n p i h)
    (event_in i (who_at n p (position mode p h).call_state)
    (step_at p (position mode p h).call_state) a) fits)) fits b

going_step : (admin : Bool) (c : Call) (k : Ask) (r : Reply) (step gi gf : ℕ) (how : How)
    → IsGoing k → (d : Deed) × (step_by admin c (mk k r step gi gf how) k ≡ Does gi d) × GoesOn gf d
going_step admin c ask.Chunk r step gi gf how g = (deed.Chunk gf, refl, refl)
going_step admin c ask.Finish r step gi gf how g = (deed.Finish gf, refl, refl)
going_step admin c ask.CloseChunk r step gi gf how g = (deed.CloseChunk gf, refl, refl)
going_step admin c ask.CloseFinish r step gi gf how g = (deed.CloseFinish gf, refl, refl)
going_step admin c k r step gi gf how g = absurd g

pub busy_goes : BusyOfHistory
busy_goes inode mode n p h i journal f legal owns b =
    let fits : All FitsPlaced (own mode n p i h) =
    subst (All FitsPlaced) owns (entries_fit (n + 1) 0 (map caller_of journal) journal
    (all_past journal (all_legal inode (newest_first journal) legal))) in
    let goes : GoesAt p (position mode p h).call_state i f =
    busy_history inode mode n p i f h fits b in
    finish goes where
      finish : GoesAt p (position mode p h).call_state i f
          → (d : Deed) × (step_at p (position mode p h).call_state ≡ Some (Does i d)) × GoesOn f d
      finish goes =
          let c : Call = goes.0 in
          let g : Progress = goes.1 in
          let s = going_step p.cred.admin goes.0 goes.1.due.ask goes.1.due.reply goes.1.step
          goes.1.inode goes.1.file goes.1.how goes.4.2 in
          let now : progress_of p.cred.admin goes.0 (position mode p h).call_state ≡ goes.1 =
          ap (λ (o : Option Progress). unwrap_or o
          (begun p.cred.admin (position mode p h).call_state.handles goes.0)) goes.3 in
          let at : step_at p (position mode p h).call_state
          ≡ Some (step_by p.cred.admin goes.0 goes.1 goes.1.due.ask) =
          ap (λ (o : Option Call). step_in p o (position mode p h).call_state) goes.2
          ∙ ap (λ (y : Progress). Some (step_by p.cred.admin goes.0 y y.due.ask)) now in (
            s.0,
            at ∙ ap (λ (x : Step). Some x) s.1 ∙ ap (λ (j : ℕ). Some (Does j s.0)) goes.4.0,
            subst (λ (y : ℕ). GoesOn y s.0) goes.4.1 s.2,
          )

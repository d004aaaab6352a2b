-- The steps of one module or firmware call, one after the other: which events of the task's own the
-- call has made so far.
use Rattle.std.proofs.Common.{◌≡◌, ℕ, zero, suc, Bool, true, false, ◌&&◌, not, cond, List, [], ◌∷◌, ◌++◌, length, Option, Some, None, refl, sym, ◌∙◌, subst, arith, inl, inr}
use Rattle.std.specs.Prelude.{◌⊎◌, ◌==◌, slice_get}
use Rattle.std.proofs.lemmas.Bool.{eq-eqb}
use Rattle.std.proofs.lemmas.Option.{none-some, same_Some}
use Rattle.call_steps.specs.CallState.{Progress, Step, file_after, is_done, step_by}
use Rattle.call_steps.specs.CallState.{Does}
use Rattle.call_steps.specs.Steps.{admitted, after_check, after_chunk, after_count, after_finish, after_take, asks_in, goes, granted, has_read, next_by, refused, refused_by, reply_of, take}
use Rattle.call_steps.specs.declared.ask.Ask.{Ask}
use Rattle.call_steps.specs.declared.ask.Ask.TheVariants as ask
use Rattle.call_steps.specs.declared.call.Call.{Call}
use Rattle.call_steps.specs.declared.course.Course.{Course}
use Rattle.call_steps.specs.declared.due.Next.{Next}
use Rattle.call_steps.specs.declared.due.Next.TheVariants.{On, Over}
use Rattle.call_steps.specs.declared.reply.Reply.{Reply}
use Rattle.call_steps.specs.declared.reply.Reply.TheVariants as reply
use Rattle.inode_events.specs.Admission.{granted_file}
use Rattle.inode_events.specs.declared.deed.Deed.{Deed}
use Rattle.inode_events.specs.declared.deed.Deed.TheVariants as deed
use Rattle.inode_events.specs.declared.deed.How.{How}
use Rattle.inode_events.specs.declared.deed.How.TheVariants as how
use Rattle.inode_events.specs.declared.told.Event.{Event}
use Rattle.inode_events.specs.declared.told.Grant.{Grant}
use Rattle.inode_events.specs.declared.told.Told.{Told}
use Rattle.inode_events.specs.declared.told.Told.TheVariants as told
use Rattle.inode_events.specs.labels.declared.verdict.Cause.{Cause}
use Rattle.inode_events.specs.labels.declared.verdict.Verdict.{Verdict}
use Rattle.inode_events.specs.labels.declared.verdict.Verdict.TheVariants.{Deny, Pass}
use Rattle.inode_events.specs.meta.declared.appraisal.Mode.{Mode}
use Rattle.inode_events.specs.meta.declared.step.Who.{Who}
use Rattle.inode_events.specs.pages.Content.{most_bytes}
use Rattle.inode_events.specs.policy.declared.access.Action.{Action}
use Rattle.journal_laws.specs.Own.{names_file}
use Rattle.run_model.specs.History.{Answer, event_in}
use Rattle.run_model.proofs.about_growing.Own.{slice_get-push}
use Rattle.run_laws.proofs.shown.Denied.{get_left, get_parts}
use Rattle.run_laws.specs.kernel_reads.Reads.{call_event}

-- ---- lists

-- an element of a list with one more is of the list, or is that one
pub get_pushed : {A : Type 0} (xs : List A) (y : A) (j : ℕ) (x : A)
    → slice_get (xs ++ y ∷ []) j ≡ Some x
    → (slice_get xs j ≡ Some x) ⊎ ((j ≡ length xs) × (y ≡ x))
get_pushed [] y zero x h = inr (refl, same_Some y x h)
get_pushed [] y (suc j) x h = absurd (cc)
get_pushed (z ∷ xs) y zero x h = inl h
get_pushed (z ∷ xs) y (suc j) x h = at (get_pushed xs y j x h) where
  at : (slice_get xs j ≡ Some x) ⊎ ((j ≡ length xs) × (y ≡ x))
      → (slice_get (z ∷ xs) (suc j) ≡ Some x) ⊎ ((suc j ≡ length (z ∷ xs)) × (y ≡ x))
  at (inl g) = inl g
  at (inr g) = let same : j ≡ length xs = g.0 in inr (omega arith, g.1)

-- ---- the events of one call among a task's own

-- each of these events that is of call k has the property
abbrev pub EachOf : ℕ → (ℕ × Event → Type 0) → List (ℕ × Event) → Type 0
EachOf k P xs = (j : ℕ) (x : ℕ × Event) → slice_get xs j ≡ Some x → x.1.who.call ≡ k → P x

-- none of these events is of call k
abbrev pub NoneOf : ℕ → List (ℕ × Event) → Type 0
NoneOf k xs = EachOf k (λ x. ⊥) xs

-- the event counts the file as an execution, or names it
abbrev pub IsOn : ℕ → ℕ × Event → Type 0
IsOn file x = ((x.0 ≡ file) × (x.1.deed ≡ deed.Count how.Exec)) ⊎ (names_file file x.1.deed ≡ true)

-- the verdict denies
abbrev pub is_denial : Option Verdict → Bool
is_denial (Some (Deny cause)) = true
is_denial _ = false

-- the grant refuses its file
abbrev pub is_barred : Grant → Bool
is_barred grant = not grant.admitted && is_denial grant.verdict

-- if the event is a grant, it doesn't refuse its file
abbrev pub IsPassed : ℕ × Event → Type 0
IsPassed x = (f : ℕ) (grant : Grant) → granted_file x.1.deed ≡ Some f
    → x.1.told ≡ told.Grant grant → is_barred grant ≡ false

-- the events have this one, of call k of task n, with its place
pub record HasStep (n k place : ℕ) (d : Deed) (t : Told) (xs : List (ℕ × Event)) : Type 0 where
  pub index : ℕ
  pub step : ℕ
  pub there : slice_get xs index ≡ Some (place, call_event n k step d t)

-- the call has read the whole file, with this reply
pub record HasRead (n k file : ℕ) (r : Reply) (xs : List (ℕ × Event)) : Type 0 where
  pub place : ℕ
  pub outcome : Told
  pub has : HasStep n k place (deed.Read file 0 most_bytes) outcome xs
  pub replied : r ≡ reply_of outcome

-- what the call has made before it asks for its next step, with the reply so far
abbrev pub AtAsk : ℕ → ℕ → ℕ → Ask → Reply → List (ℕ × Event) → Type 0
AtAsk n k file (ask.Check func mask) r xs = EachOf k IsPassed xs
AtAsk n k file (ask.Take slot) r xs = EachOf k IsPassed xs
AtAsk n k file ask.Chunk r xs = EachOf k IsPassed xs
AtAsk n k file ask.Finish r xs = EachOf k IsPassed xs
AtAsk n k file (ask.Read from len) r xs = (from ≡ 0) × (len ≡ most_bytes) × EachOf k IsPassed xs
AtAsk n k file ask.Close r xs = is_done r ≡ true → EachOf k IsPassed xs × HasRead n k file r xs
AtAsk n k file _ r xs = ⊥

-- call k, which reads inode i, has counted its file, and all its events are on it
pub record Underway (n k i inode file : ℕ) (a : Ask) (r : Reply) (xs : List (ℕ × Event))
    : Type 0 where
  pub inode_is : inode ≡ i
  pub counted : HasStep n k file (deed.Count how.Exec) told.Held xs
  pub on : EachOf k (IsOn file) xs
  pub at : AtAsk n k file a r xs

-- call k has counted, read and closed its file
pub record HasLoaded (n k : ℕ) (r : Reply) (xs : List (ℕ × Event)) : Type 0 where
  pub file : ℕ
  pub counted : HasStep n k file (deed.Count how.Exec) told.Held xs
  pub on : EachOf k (IsOn file) xs
  pub passed : EachOf k IsPassed xs
  pub read : HasRead n k file r xs
  pub place : ℕ
  pub outcome : Told
  pub closed : HasStep n k place (deed.Close file) outcome xs

-- so much holds after a step: the call goes on, or is over
abbrev pub NextIs : ℕ → ℕ → ℕ → ℕ → ℕ → List (ℕ × Event) → Next → Type 0
NextIs n k i inode file xs (On s) = Underway n k i inode file s.ask s.reply xs
NextIs n k i inode file xs (Over r) = is_done r ≡ true → HasLoaded n k r xs

-- ---- more events

-- a property of the call's events in both parts is one of those in the whole
pub each_both : (k : ℕ) (P : ℕ × Event → Type 0) (xs ys : List (ℕ × Event)) → EachOf k P xs
    → EachOf k P ys → EachOf k P (xs ++ ys)
each_both k P xs ys a b j x e s = at (get_parts xs ys j x e) where
  at : (slice_get xs j ≡ Some x) ⊎ ((l : ℕ) × (slice_get ys l ≡ Some x)) → P x
  at (inl h) = a j x h s
  at (inr h) = b h.0 x h.1 s

-- events of other calls have every property
pub each_none : (k : ℕ) (P : ℕ × Event → Type 0) (ys : List (ℕ × Event)) → NoneOf k ys
    → EachOf k P ys
each_none k P ys none j x e s = absurd (none j x e s)

-- a property of one event
pub each_one : (k : ℕ) (P : ℕ × Event → Type 0) (y : ℕ × Event) → P y → EachOf k P (y ∷ [])
each_one k P y h zero x e s = subst (λ (z : ℕ × Event). P z) (same_Some y x e) h
each_one k P y h (suc j) x e s = absurd (cc)

-- an event stays when more come
pub step_more : (n k place : ℕ) (d : Deed) (t : Told) (xs ys : List (ℕ × Event))
    → HasStep n k place d t xs → HasStep n k place d t (xs ++ ys)
step_more n k place d t xs ys h = record {
  index = h.index;
  step = h.step;
  there =
      get_left xs ys h.index (place, call_event n k h.step d t) h.there;
}

-- an event that comes is there
pub step_last : (n k place step : ℕ) (d : Deed) (t : Told) (xs : List (ℕ × Event))
    → HasStep n k place d t (xs ++ (place, call_event n k step d t) ∷ [])
step_last n k place step d t xs = record {
  index = length xs;
  step = step;
  there = slice_get-push xs (place, call_event n k step d t);
}

-- a read stays when more events come
pub read_more : (n k file : ℕ) (r : Reply) (xs ys : List (ℕ × Event)) → HasRead n k file r xs
    → HasRead n k file r (xs ++ ys)
read_more n k file r xs ys h = record {
  place = h.place;
  outcome = h.outcome;
  has = step_more n k h.place (deed.Read file 0 most_bytes) h.outcome xs ys h.has;
  replied = h.replied;
}

-- events of other calls change nothing of a call that is over
pub loaded_more : (n k : ℕ) (r : Reply) (xs ys : List (ℕ × Event)) → NoneOf k ys
    → HasLoaded n k r xs → HasLoaded n k r (xs ++ ys)
loaded_more n k r xs ys none h = record {
  file = h.file;
  counted = step_more n k h.file (deed.Count how.Exec) told.Held xs ys h.counted;
  on = each_both k (IsOn h.file) xs ys h.on (each_none k (IsOn h.file) ys none);
  passed = each_both k IsPassed xs ys h.passed (each_none k IsPassed ys none);
  read = read_more n k h.file r xs ys h.read;
  place = h.place;
  outcome = h.outcome;
  closed = step_more n k h.place (deed.Close h.file) h.outcome xs ys h.closed;
}

-- ---- the courses of the kernel's reads

-- the outcome is one that the deed can have in a legal journal
abbrev pub is_told : Deed → Told → Bool
is_told (deed.Count how) told.Held = true
is_told (deed.Count how) told.NotFound = true
is_told (deed.Count how) told.TextBusy = true
is_told (deed.Count how) _ = false
is_told (deed.Finish file) (told.Grant grant) = true
is_told (deed.Finish file) _ = false
is_told _ _ = true

-- once admitted, the kernel reads the whole file and closes it; once refused, it closes it
pub record IsLoad (co : Course) : Type 0 where
  pub admits : admitted co ≡ goes (ask.Read 0 most_bytes) reply.Done
  pub reads : (r : Reply) → has_read co r ≡ goes ask.Close r
  pub refuses : (cause : Cause) → refused co cause ≡ goes ask.Close (reply.Denied cause)

-- a grant admits the file, or its cause is the reply
granted_next : (co : Course) → IsLoad co → (grant : Grant)
    → ((granted co grant ≡ goes (ask.Read 0 most_bytes) reply.Done)
    × (is_barred grant ≡ false))
    ⊎ ((cause : Cause) × (granted co grant ≡ goes ask.Close (reply.Denied cause)))
granted_next co load grant = at grant.admitted grant.verdict where
  at : (b : Bool) (v : Option Verdict)
      → ((cond b (admitted co) (refused_by co v) ≡ goes (ask.Read 0 most_bytes) reply.Done)
      × ((not b && is_denial v) ≡ false))
      ⊎ ((cause : Cause)
      × (cond b (admitted co) (refused_by co v) ≡ goes ask.Close (reply.Denied cause)))
  at true v = inl (load.admits, refl)
  at false None = inl (load.admits, refl)
  at false (Some Pass) = inl (load.admits, refl)
  at false (Some (Deny cause)) = inr (cause, load.refuses cause)

-- ---- one step

module _ (n k i : ℕ) (co : Course) (load : IsLoad co) (place step inode file : ℕ)
    (xs : List (ℕ × Event)) (same : inode ≡ i) where
  -- the events with that of the step
  abbrev after : Deed → Told → List (ℕ × Event)
  after d t = xs ++ (place, call_event n k step d t) ∷ []

  -- a count is the call's first event, and the file is named by its place
  count_goes : (t : Told) (r : Reply) → NoneOf k xs → is_told (deed.Count how.Exec) t ≡ true
      → NextIs n k i inode place (after (deed.Count how.Exec) t) (after_count co r t)
  count_goes told.Held r none fits = record {
    inode_is = same;
    counted = step_last n k place step (deed.Count how.Exec) told.Held xs;
    on = each_both k (IsOn place) xs ((place, call_event n k step (deed.Count how.Exec) told.Held)
        ∷ []) (each_none k (IsOn place) xs none)
        (each_one k (IsOn place) (place, call_event n k step (deed.Count how.Exec) told.Held)
        (inl (refl, refl)));
    at = each_both k IsPassed xs ((place, call_event n k step (deed.Count how.Exec) told.Held) ∷ [])
        (each_none k IsPassed xs none)
        (each_one k IsPassed (place, call_event n k step (deed.Count how.Exec) told.Held)
        (λ f grant g e. absurd (none-some f g)));
  }
  count_goes told.NotFound r none fits = λ done. absurd (cc)
  count_goes told.TextBusy r none fits = λ done. absurd (cc)
  count_goes t r none fits = absurd (cc)

  module _ (counted : HasStep n k file (deed.Count how.Exec) told.Held xs)
      (on : EachOf k (IsOn file) xs) where
    -- the call goes on with an event that names its file
    goes_on : (d : Deed) (t : Told) (a : Ask) (r : Reply) → names_file file d ≡ true
        → AtAsk n k file a r (after d t) → Underway n k i inode file a r (after d t)
    goes_on d t a r names at = record {
      inode_is = same;
      counted = step_more n k file (deed.Count how.Exec) told.Held xs
          ((place, call_event n k step d t) ∷ []) counted;
      on = each_both k (IsOn file) xs ((place, call_event n k step d t) ∷ []) on
          (each_one k (IsOn file) (place, call_event n k step d t) (inr names));
      at = at;
    }

    -- an event that isn't a grant refuses nothing
    passes : (d : Deed) (t : Told) → EachOf k IsPassed xs → IsPassed
        (place, call_event n k step d t) → EachOf k IsPassed (after d t)
    passes d t passed h = each_both k IsPassed xs ((place, call_event n k step d t) ∷ []) passed
        (each_one k IsPassed (place, call_event n k step d t) h)

    check_goes : (mode : Mode) (d : Deed) (t : Told) (r : Reply) (action : Action)
        → names_file file d ≡ true → granted_file d ≡ None → EachOf k IsPassed xs
        → NextIs n k i inode file (after d t) (after_check mode co r action)
    check_goes mode d t r action names plain passed = at (asks_in mode action) where
      more : EachOf k IsPassed (after d t)
      more = passes d t passed (λ f grant g e. absurd (none-some f (sym plain ∙ g)))

      at : (b : Bool)
          → NextIs n k i inode file (after d t) (cond b (goes (take co) r) (admitted co))
      at true = goes_on d t (take co) r names more
      at false = subst (λ (x : Next). NextIs n k i inode file (after d t) x) (sym load.admits)
          (goes_on d t (ask.Read 0 most_bytes) reply.Done names (refl, refl, more))

    grant_goes : (d : Deed) (grant : Grant) → names_file file d ≡ true → EachOf k IsPassed xs
        → NextIs n k i inode file (after d (told.Grant grant)) (granted co grant)
    grant_goes d grant names passed = at (granted_next co load grant) where
      at : ((granted co grant ≡ goes (ask.Read 0 most_bytes) reply.Done)
          × (is_barred grant ≡ false))
          ⊎ ((cause : Cause) × (granted co grant ≡ goes ask.Close (reply.Denied cause)))
          → NextIs n k i inode file (after d (told.Grant grant)) (granted co grant)
      at (inl h) = subst (λ (x : Next). NextIs n k i inode file (after d (told.Grant grant)) x)
          (sym h.0) (goes_on d (told.Grant grant) (ask.Read 0 most_bytes) reply.Done names (
            refl,
            refl,
            passes d (told.Grant grant) passed (λ f g2 g e. let is : grant ≡ g2 = cc in
                subst (λ (y : Grant). is_barred y ≡ false) is h.1),
          ))
      at (inr h) = subst (λ (x : Next). NextIs n k i inode file (after d (told.Grant grant)) x)
          (sym h.1) (goes_on d (told.Grant grant) ask.Close (reply.Denied h.0) names
          (λ done. absurd (cc)))

    take_goes : (t : Told) (r : Reply) → EachOf k IsPassed xs
        → NextIs n k i inode file (after (deed.Take file) t) (after_take co r t)
    take_goes (told.Grant grant) r passed =
        grant_goes (deed.Take file) grant (eq-eqb file file refl) passed
    take_goes t r passed = goes_on (deed.Take file) t ask.Chunk r (eq-eqb file file refl)
        (passes (deed.Take file) t passed (λ f grant g e. absurd (cc)))

    chunk_goes : (t : Told) (r : Reply) → EachOf k IsPassed xs
        → NextIs n k i inode file (after (deed.Chunk file) t)
        (after_chunk ask.Chunk ask.Finish r t)
    chunk_goes told.More r passed = goes_on (deed.Chunk file) told.More ask.Chunk r
        (eq-eqb file file refl)
        (passes (deed.Chunk file) told.More passed (λ f grant g e. absurd (none-some f g)))
    chunk_goes t r passed = goes_on (deed.Chunk file) t ask.Finish r (eq-eqb file file refl)
        (passes (deed.Chunk file) t passed (λ f grant g e. absurd (none-some f g)))

    finish_goes : (t : Told) (r : Reply) → is_told (deed.Finish file) t ≡ true
        → EachOf k IsPassed xs
        → NextIs n k i inode file (after (deed.Finish file) t) (after_finish co r t)
    finish_goes (told.Grant grant) r fits passed =
        grant_goes (deed.Finish file) grant (eq-eqb file file refl) passed
    finish_goes t r fits passed = absurd (cc)

    read_goes : (from len : ℕ) (t : Told) → from ≡ 0 → len ≡ most_bytes → EachOf k IsPassed xs
        → NextIs n k i inode file (after (deed.Read file from len) t) (has_read co (reply_of t))
    read_goes from len t e f passed =
        subst (λ (x : Next). NextIs n k i inode file (after (deed.Read file from len) t) x)
        (sym (load.reads (reply_of t)))
        (goes_on (deed.Read file from len) t ask.Close (reply_of t) (eq-eqb file file refl)
        (λ done. (
          passes (deed.Read file from len) t passed (λ f2 grant g e2. absurd (none-some f2 g)),
          record {
            place = place;
            outcome = t;
            has = record {
              index = length xs;
              step = step;
              there =
                  slice_get-push xs (place, call_event n k step (deed.Read file from len) t)
                  ∙ (λ m. Some (place, call_event n k step (deed.Read file (e m) (f m)) t));
            };
            replied = refl;
          },
        )))

    close_goes : (t : Told) (r : Reply)
        → (is_done r ≡ true → EachOf k IsPassed xs × HasRead n k file r xs)
        → NextIs n k i inode file (after (deed.Close file) t) (Over r)
    close_goes t r had done =
        let x : ℕ × Event = (place, call_event n k step (deed.Close file) t) in
        record {
          file = file;
          counted = step_more n k file (deed.Count how.Exec) told.Held xs
              ((place, call_event n k step (deed.Close file) t) ∷ []) counted;
          on = each_both k (IsOn file) xs
              ((place, call_event n k step (deed.Close file) t) ∷ []) on
              (each_one k (IsOn file) (place, call_event n k step (deed.Close file) t)
              (inr (eq-eqb file file refl)));
          passed = passes (deed.Close file) t (had done).0
              (λ f grant g e. absurd (none-some f g));
          read = read_more n k file r xs
              ((place, call_event n k step (deed.Close file) t) ∷ []) (had done).1;
          place = place;
          outcome = t;
          closed = step_last n k place step (deed.Close file) t xs;
        }

-- ---- any step of the call

-- the event of a step on inode i is there
put : (n k i inode go place step : ℕ) (d : Deed) (t : Told) (xs : List (ℕ × Event)) (next : Next)
    → inode ≡ i → NextIs n k i inode go (xs ++ (place, call_event n k step d t) ∷ []) next
    → NextIs n k i inode go
    (xs ++ cond (inode == i) ((place, call_event n k step d t) ∷ []) []) next
put n k i inode go place step d t xs next same h =
    subst (λ (b : Bool). NextIs n k i inode go
    (xs ++ cond b ((place, call_event n k step d t) ∷ []) []) next)
    (sym (eq-eqb inode i same)) h

-- the outcome of an event on inode i fits its deed
abbrev pub StepFits : ℕ → Step → Told → Type 0
StepFits i (Does j d) t = j ≡ i → is_told d t ≡ true
StepFits i _ t = Unit {0}

-- the progress of a call, from its parts
abbrev pub progress : Ask → Reply → ℕ → ℕ → ℕ → How → Progress
progress a r step inode file h =
    record { due = record { ask = a; reply = r }; step = step; inode = inode; file = file; how = h }

-- the task's n-th step in call k
abbrev pub who_of : ℕ → ℕ → ℕ → Who
who_of n k step = record { task = n; call = k; step = step }

-- each further step keeps what holds of the call
pub keeps : (mode : Mode) (admin : Bool) (n k i : ℕ) (c : Call) (co : Course) → IsLoad co
    → (a : Ask) (r : Reply) (step inode file : ℕ) (h : How) (xs : List (ℕ × Event)) (ans : Answer)
    → Underway n k i inode file a r xs
    → StepFits i (step_by admin c (progress a r step inode file h) a) ans.told
    → NextIs n k i inode (file_after a ans.place file)
    (xs ++ event_in i (who_of n k step)
    (Some (step_by admin c (progress a r step inode file h) a)) ans)
    (next_by mode co a r ans.told ans.action)
keeps mode admin n k i c co load (ask.Check func mask) r step inode file h xs ans u fits =
    put n k i inode file ans.place step (deed.Check file func ans.action ans.rules) ans.told xs
    (after_check mode co r ans.action) u.inode_is
    (check_goes n k i co load ans.place step inode file xs u.inode_is u.counted u.on mode
    (deed.Check file func ans.action ans.rules) ans.told r ans.action (eq-eqb file file refl) refl
    u.at)
keeps mode admin n k i c co load (ask.Take slot) r step inode file h xs ans u fits =
    put n k i inode file ans.place step (deed.Take file) ans.told xs (after_take co r ans.told)
    u.inode_is (take_goes n k i co load ans.place step inode file xs u.inode_is u.counted u.on
    ans.told r u.at)
keeps mode admin n k i c co load ask.Chunk r step inode file h xs ans u fits =
    put n k i inode file ans.place step (deed.Chunk file) ans.told xs
    (after_chunk ask.Chunk ask.Finish r ans.told) u.inode_is
    (chunk_goes n k i co load ans.place step inode file xs u.inode_is u.counted u.on ans.told r
    u.at)
keeps mode admin n k i c co load ask.Finish r step inode file h xs ans u fits =
    put n k i inode file ans.place step (deed.Finish file) ans.told xs
    (after_finish co r ans.told) u.inode_is
    (finish_goes n k i co load ans.place step inode file xs u.inode_is u.counted u.on ans.told r
    (fits u.inode_is) u.at)
keeps mode admin n k i c co load (ask.Read from len) r step inode file h xs ans u fits =
    put n k i inode file ans.place step (deed.Read file from len) ans.told xs
    (has_read co (reply_of ans.told)) u.inode_is
    (read_goes n k i co load ans.place step inode file xs u.inode_is u.counted u.on from len
    ans.told u.at.0 u.at.1 u.at.2)
keeps mode admin n k i c co load ask.Close r step inode file h xs ans u fits =
    put n k i inode file ans.place step (deed.Close file) ans.told xs (Over r) u.inode_is
    (close_goes n k i co load ans.place step inode file xs u.inode_is u.counted u.on ans.told r
    u.at)
keeps mode admin n k i c co load a r step inode file h xs ans u fits = absurd u.at

-- the first step of the call, which counts the file
pub counts_first : (n k i place step : ℕ) (co : Course) → IsLoad co → (t : Told) (xs : List (ℕ × Event))
    → NoneOf k xs → is_told (deed.Count how.Exec) t ≡ true
    → NextIs n k i i place (xs ++ cond (i == i) ((
      place,
      call_event n k step
          (deed.Count how.Exec) t,
    ) ∷ []) []) (after_count co reply.Done t)
counts_first n k i place step co load t xs none fits =
    put n k i i place place step (deed.Count how.Exec) t xs (after_count co reply.Done t) refl
    (count_goes n k i co load place step i 0 xs refl t reply.Done none fits)

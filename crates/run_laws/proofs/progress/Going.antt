-- The conditions on a task's files hold along a history.
use Rattle.std.proofs.Common.{◌≡◌, ℕ, Bool, true, false, cond, List, [], ◌∷◌, ◌++◌, Option, Some, None, refl, sym, ◌∙◌, ap, subst}
use Rattle.std.specs.Prelude.{◌==◌, reverse, slice_get, unwrap_or}
use Rattle.std.proofs.lemmas.Bool.{eq-eqb}
use Rattle.std.proofs.lemmas.List.{append-nil, reverse-append}
use Rattle.std.proofs.lemmas.Option.{same_Some}
use Rattle.inode_events.specs.meta.declared.step.Who.{Who}
use Rattle.call_steps.specs.policy.declared.access.Action.{Action}
use Rattle.inode_events.specs.Inode.{Inode}
use Rattle.inode_events.specs.declared.deed.Deed.{Deed}
use Rattle.inode_events.specs.declared.deed.Deed.TheVariants as deed
use Rattle.inode_events.specs.declared.deed.How.{How}
use Rattle.inode_events.specs.declared.told.Event.{Event}
use Rattle.inode_events.specs.declared.told.Told.{Told}
use Rattle.inode_events.specs.declared.told.Told.TheVariants as told
use Rattle.call_steps.specs.Handles.{name_made}
use Rattle.call_steps.specs.CallState.{CallState, Progress, Step, ask_of, begun, deed_of, file_after, handle_made, handles_after, handles_left, is_done, moved, plain_step, progress_of, step_by}
use Rattle.call_steps.specs.CallState.{Nothing, Does, Checks, Signals, Appends}
use Rattle.call_steps.specs.Handles.{name_ended}
use Rattle.call_steps.specs.Steps.{course_of, next, next_by, reply_of}
use Rattle.call_steps.specs.declared.ask.Ask.{Ask}
use Rattle.call_steps.specs.declared.ask.Ask.TheVariants as ask
use Rattle.call_steps.specs.declared.call.Call.{Call}
use Rattle.call_steps.specs.declared.call.Call.TheVariants as call
use Rattle.call_steps.specs.declared.held.Handle.{Handle}
use Rattle.call_steps.specs.declared.held.Name.{Name}
use Rattle.call_steps.specs.declared.reply.Reply.{Reply}
use Rattle.call_steps.specs.declared.reply.Reply.TheVariants as reply
use Rattle.run_model.specs.History.{Answer, Position, call_at, event, event_in, own, position, resume_in, step_in, who_at}
use Rattle.run_model.specs.Scene.{Program}
use Rattle.run_laws.specs.progress.NextSteps.{IsFit}
use Rattle.run_laws.proofs.progress.Busy.{after_step, life_step, same_more}
use Rattle.run_laws.proofs.progress.Ready.{Each, IsAttr, IsWrite, NextTo, Ready, Strong, each_left, each_map, left, mk}
use Rattle.run_laws.proofs.progress.Rows.{attr_row, check_row, chunk_row, close_chunk_row, close_finish_row, close_row, close_take_row, counted_ready, finish_row, read_row, take_row, told_fits, trunc_row, write_row}
use Rattle.run_laws.proofs.progress.Begun.{begins}
use Rattle.run_laws.proofs.progress.Owning.{AreGood, how_in, how_with}
use Rattle.inode_events.specs.Stage.{Stage, stage_in}
use Rattle.call_steps.specs.declared.due.Next.{Next}
use Rattle.call_steps.specs.declared.due.Next.TheVariants.{On, Over}

-- ---- one step

-- how file f of journal i was opened, after a step
abbrev pub how_on : ℕ → ℕ → ℕ → Deed → ℕ → Told → Option How → Option How
how_on i f j (deed.Count how) place told.Held w = cond (j == i) (cond (place == f) (Some how) w) w
how_on i f j d place t w = w

abbrev pub how_step : ℕ → ℕ → Step → Answer → Option How → Option How
how_step i f (Does j d) a w = how_on i f j d a.place a.told w
how_step i f _ a w = w

abbrev pub StepGood : ℕ → Step → Answer → (ℕ → Option How) → Type 0
StepGood i (Does j d) a W = j ≡ i → (told_fits d a.told ≡ true) × (W a.place ≡ None)
StepGood i _ a W = Unit {0}

abbrev answer : ℕ → Told → Action → ℕ → Answer
answer place u action rules = record { place = place; told = u; action = action; rules = rules }

same_two : {A : Type 0} (a b : Bool) (x : A) → cond a (cond b x x) x ≡ x
same_two true true x = refl
same_two true false x = refl
same_two false b x = refl

same_one : {A : Type 0} (a : Bool) (x : A) → cond a x x ≡ x
same_one true x = refl
same_one false x = refl

strong_same : (i : ℕ) (L M : ℕ → Stage) (W : ℕ → Option How) → ((f : ℕ) → M f ≡ L f) → (h : Handle)
    → Strong i L W h → Strong i M W h
strong_same i L M W same h s e = ((s e).0, same h.file ∙ (s e).1)

bad : {A : Type 0} → false ≡ true → A
bad e = absurd (cc)

module _ (inode : Inode) (admin : Bool) (c : Call) (fit : IsFit c) (r : Reply) (step gi gf : ℕ)
    (hw : How) (hs : List Handle) (i : ℕ) (L : ℕ → Stage) (W : ℕ → Option How) (place : ℕ) where
  abbrev after : Step → Answer → ℕ → Stage
  after s a f = after_step inode i f s a (L f)

  abbrev hows : Step → Answer → ℕ → Option How
  hows s a f = how_step i f s a (W f)

  abbrev Keeps : Ask → Told → Action → ℕ → Type 0
  Keeps k u action rules =
      Ready c k r gi gf hw hs i L W → StepGood i (step_by admin c (mk k r step gi gf hw) k)
      (answer place u action rules) W
      → NextTo c gi gf (file_after k place gf) hw hs i
      (after (step_by admin c (mk k r step gi gf hw) k) (answer place u action rules))
      (hows (step_by admin c (mk k r step gi gf hw) k) (answer place u action rules))
      (next_by inode.settings.mode (course_of c) k r u action)

  refused_count : (t : Reply) → is_done t ≡ false → (M : ℕ → Stage) → ((f : ℕ) → M f ≡ L f)
      → Each (Strong i L W) hs → Each (Strong i M W) (left c t gi gf hw hs)
  refused_count t n M same s = at (is_done t) n where
    at : (b : Bool) → b ≡ false → Each (Strong i M W)
        (cond b (handles_left (name_ended c) hs
        ++ handle_made (name_made c) (mk ask.Plain t 0 gi gf hw)) hs)
    at true e = absurd (cc)
    at false e = each_map (Strong i L W) (Strong i M W) (strong_same i L M W same) hs s

  count_keeps : (u : Told) (action : Action) (rules : ℕ) → Keeps ask.Count u action rules
  count_keeps told.Held action rules a g =
      counted_ready inode c r gi place hw hs i L W (λ e. (g e).1) a.0 a.1 a.2
  count_keeps told.NotFound action rules a g =
      refused_count reply.NotFound refl (after (Does gi (deed.Count hw))
      (answer place told.NotFound action rules)) (λ f. same_two (gi == i) (place == f) (L f)) a.2
  count_keeps told.TextBusy action rules a g =
      refused_count reply.TextBusy refl (after (Does gi (deed.Count hw))
      (answer place told.TextBusy action rules)) (λ f. same_two (gi == i) (place == f) (L f)) a.2
  count_keeps u action rules a g =
      each_left (Strong i (λ f. cond (gi == i) (cond (place == f) (L f) (L f)) (L f)) W) c
      (reply_of u) gi gf hw hs
      (each_map (Strong i L W) (Strong i (λ f. cond (gi == i) (cond (place == f) (L f) (L f))
      (L f)) W) (strong_same i L (λ f. cond (gi == i) (cond (place == f) (L f) (L f)) (L f)) W
      (λ f. same_two (gi == i) (place == f) (L f))) hs a.2)
      (λ n e. bad (g e).0)

  write_keeps : (x : Call) → c ≡ x → IsWrite x → (u : Told) (action : Action) (rules : ℕ)
      → Ready c ask.Write r gi gf hw hs i L W
      → NextTo c gi gf gf hw hs i (after (Does gi (deed_of admin x gf))
      (answer place u action rules)) (hows (Does gi (deed_of admin x gf))
      (answer place u action rules)) (Over (reply_of u))
  write_keeps (call.Write fd from bytes) e w u action rules a =
      write_row inode c fit r gi gf hw hs i L W u action a
  write_keeps x e w u action rules a = absurd w

  attr_strong : (b : Bool) → Each (Strong i L W) hs → Each (Strong i (λ f. cond b (L f) (L f)) W) hs
  attr_strong b s =
      each_map (Strong i L W) (Strong i (λ f. cond b (L f) (L f)) W)
      (strong_same i L (λ f. cond b (L f) (L f)) W (λ f. same_one b (L f))) hs s

  attr_keeps : (x : Call) → IsAttr c → IsAttr x → (u : Told) (action : Action) (rules : ℕ)
      → Each (Strong i L W) hs
      → NextTo c gi gf gf hw hs i (after (Does gi (deed_of admin x gf))
      (answer place u action rules)) (hows (Does gi (deed_of admin x gf))
      (answer place u action rules)) (Over (reply_of u))
  attr_keeps (call.SetAttr j name value) w x u action rules s =
      attr_row inode c fit r gi gf hw hs i (λ f. cond (gi == i) (L f) (L f)) W (reply_of u) w
      (attr_strong (gi == i) s)
  attr_keeps (call.SetMeta j change) w x u action rules s =
      attr_row inode c fit r gi gf hw hs i (λ f. cond (gi == i) (L f) (L f)) W (reply_of u) w
      (attr_strong (gi == i) s)
  attr_keeps x w z u action rules s = absurd z

  plain_keeps : (x : Call) (b : Bool) (u : Told) (action : Action) (rules : ℕ)
      → Each (Strong i L W) (left c r gi gf hw hs)
      → Each (Strong i (after (plain_step b x) (answer place u action rules))
      (hows (plain_step b x) (answer place u action rules))) (left c r gi gf hw hs)
  plain_keeps (call.AddRule rule) true u action rules s = s
  plain_keeps (call.AddRule rule) false u action rules s = s
  plain_keeps (call.Post sem) b u action rules s = s
  plain_keeps (call.Wait sem) b u action rules s = s
  plain_keeps x b u action rules s = s

  pub keeps : (k : Ask) (u : Told) (action : Action) (rules : ℕ) → Keeps k u action rules
  keeps ask.Count u action rules a g = count_keeps u action rules a g
  keeps (ask.Check func mask) u action rules a g =
      check_row inode c fit r gi gf hw hs i L W func mask rules u action a (λ e. refl)
  keeps (ask.Take slot) u action rules a g =
      take_row inode c fit r gi gf hw hs i L W slot u action a (λ e. (g e).0)
  keeps ask.Chunk u action rules a g =
      chunk_row inode c fit r gi gf hw hs i L W u action a (λ e. (g e).0)
  keeps ask.Finish u action rules a g =
      finish_row inode c fit r gi gf hw hs i L W u action a (λ e. (g e).0)
  keeps (ask.Read from len) u action rules a g =
      read_row inode c fit r gi gf hw hs i L W from len u action a (λ e. (g e).0)
  keeps ask.Write u action rules a g = write_keeps c refl a.1.1 u action rules a
  keeps (ask.Trunc len) u action rules a g =
      trunc_row inode c fit r gi gf hw hs i L W len u action a (λ e. (g e).0)
  keeps ask.SetAttr u action rules a g = attr_keeps c a.0 a.0 u action rules a.1
  keeps ask.SetMeta u action rules a g = attr_keeps c a.0 a.0 u action rules a.1
  keeps ask.Close u action rules a g =
      close_row inode c fit r gi gf hw hs i L W u action a (λ e. (g e).0)
  keeps ask.CloseTake u action rules a g =
      close_take_row inode c fit r gi gf hw hs i L W u action a (λ e. (g e).0)
  keeps ask.CloseChunk u action rules a g =
      close_chunk_row inode c fit r gi gf hw hs i L W u action a (λ e. (g e).0)
  keeps ask.CloseFinish u action rules a g =
      close_finish_row inode c fit r gi gf hw hs i L W u action a (λ e. (g e).0)
  keeps ask.Plain u action rules a g = plain_keeps c admin u action rules a

-- ---- a history

abbrev pub FitsIn : Program → CallState → ℕ → (ℕ → Stage) → (ℕ → Option How) → Option Progress
    → Type 0
FitsIn p m i L W None = Each (Strong i L W) m.handles
FitsIn p m i L W (Some g) =
    (c : Call) → call_at p m ≡ Some c
    → Ready c g.due.ask g.due.reply g.inode g.file g.how m.handles i L W

abbrev pub Fits : Program → CallState → ℕ → (ℕ → Stage) → (ℕ → Option How) → Type 0
Fits p m i L W = FitsIn p m i L W m.progress

pub ready_now : (p : Program) (m : CallState) (i : ℕ) (L : ℕ → Stage) (W : ℕ → Option How)
    (c : Call) → call_at p m ≡ Some c → Fits p m i L W
    → (λ (g : Progress). Ready c g.due.ask g.due.reply g.inode g.file g.how m.handles i L W)
    (progress_of p.cred.admin c m)
ready_now p m i L W c e f = at m.progress f where
  at : (o : Option Progress) → FitsIn p m i L W o
      → (λ (g : Progress). Ready c g.due.ask g.due.reply g.inode g.file g.how m.handles i L W)
      (unwrap_or o (begun p.cred.admin m.handles c))
  at None s = begins p.cred.admin m.handles i L W s c
  at (Some g) s = s c e

made_same : (g : Progress) (r : Reply) (o : Option Name)
    → handle_made o (mk ask.Plain r 0 g.inode g.file g.how) ≡ handle_made o g
made_same g r None = refl
made_same g r (Some n) = refl

pub left_same : (c : Call) (g : Progress) (r : Reply) (hs : List Handle)
    → left c r g.inode g.file g.how hs ≡ handles_after c g r hs
left_same c g r hs =
    ap (λ (x : List Handle). cond (is_done r) (handles_left (name_ended c) hs ++ x) hs)
    (made_same g r (name_made c))

moved_fits : (p : Program) (m : CallState) (c : Call) (g : Progress) (place i : ℕ) (L : ℕ → Stage)
    (W : ℕ → Option How) (x : Next) → call_at p m ≡ Some c
    → NextTo c g.inode g.file (file_after g.due.ask place g.file) g.how m.handles i L W x
    → Fits p (moved c m g place x).0 i L W
moved_fits p m c g place i L W (On plan) e f =
    λ c2 e2. subst (λ (y : Call). Ready y plan.ask plan.reply g.inode
    (file_after g.due.ask place g.file) g.how m.handles i L W) (same_Some c c2 (sym e ∙ e2)) f
moved_fits p m c g place i L W (Over r) e f =
    subst (Each (Strong i L W)) (left_same c g r m.handles) f

abbrev lives : Inode → List (ℕ × Event) → ℕ → Stage
lives inode xs f = stage_in inode f (reverse xs)

abbrev hows_in : List (ℕ × Event) → ℕ → Option How
hows_in xs f = how_in f (reverse xs)

how_more : (i f j : ℕ) (xs : List (ℕ × Event)) (x : ℕ × Event)
    → how_in f (reverse (xs ++ cond (j == i) (x ∷ []) []))
    ≡ cond (j == i) (how_with f x.0 x.1.deed x.1.told (how_in f (reverse xs)))
    (how_in f (reverse xs))
how_more i f j xs x = at (j == i) where
  at : (b : Bool) → how_in f (reverse (xs ++ cond b (x ∷ []) []))
      ≡ cond b (how_with f x.0 x.1.deed x.1.told (how_in f (reverse xs))) (how_in f (reverse xs))
  at true = ap (how_in f) (reverse-append xs (x ∷ []))
  at false = same_more (how_in f) xs

how_same : (i f j : ℕ) (d : Deed) (place : ℕ) (t : Told) (w : Option How)
    → cond (j == i) (how_with f place d t w) w ≡ how_on i f j d place t w
how_same i f j (deed.Count how) place told.Held w = refl
how_same i f j d place t w = same_one (j == i) w

check_same : (b : Bool) (w : Option How) → cond b w w ≡ w
check_same b w = same_one b w

how_moved : (i f : ℕ) (who : Who) (s : Step) (a : Answer) (xs : List (ℕ × Event))
    → how_in f (reverse (xs ++ event_in i who (Some s) a))
    ≡ how_step i f s a (how_in f (reverse xs))
how_moved i f who Nothing a xs = same_more (how_in f) xs
how_moved i f who (Does j d) a xs =
    how_more i f j xs (a.place, event who d a.told)
    ∙ how_same i f j d a.place a.told (how_in f (reverse xs))
how_moved i f who (Checks j file func mask) a xs =
    how_more i f j xs (a.place, event who (deed.Check file func a.action a.rules) a.told)
    ∙ check_same (j == i) (how_in f (reverse xs))
how_moved i f who (Signals d) a xs = same_more (how_in f) xs
how_moved i f who (Appends rule) a xs = same_more (how_in f) xs

good_more : (b : Bool) (xs : List (ℕ × Event)) (x : ℕ × Event)
    → AreGood (reverse (xs ++ cond b (x ∷ []) []))
    → AreGood (reverse xs) × (b ≡ true → (told_fits x.1.deed x.1.told ≡ true)
    × (how_in x.0 (reverse xs) ≡ None))
good_more true xs x g = let y : AreGood (x ∷ reverse xs) =
    subst AreGood (reverse-append xs (x ∷ [])) g in (y.2, (λ e. (y.0, y.1)))
good_more false xs x g =
    (subst (λ (l : List (ℕ × Event)). AreGood (reverse l)) (append-nil xs) g, (λ e. bad e))

good_nil : (xs : List (ℕ × Event)) → AreGood (reverse (xs ++ [])) → AreGood (reverse xs)
good_nil xs g = subst (λ (l : List (ℕ × Event)). AreGood (reverse l)) (append-nil xs) g

good_step : (i : ℕ) (who : Who) (s : Step) (a : Answer) (xs : List (ℕ × Event))
    → AreGood (reverse (xs ++ event_in i who (Some s) a))
    → AreGood (reverse xs) × StepGood i s a (hows_in xs)
good_step i who Nothing a xs g = (good_nil xs g, tt)
good_step i who (Does j d) a xs g = let y =
    good_more (j == i) xs (a.place, event who d a.told) g in (y.0, (λ e. y.1 (eq-eqb j i e)))
good_step i who (Checks j file func mask) a xs g = (
  (good_more (j == i) xs (
    a.place,
    event who
        (deed.Check file func a.action a.rules) a.told,
  ) g).0,
  tt,
)
good_step i who (Signals d) a xs g = (good_nil xs g, tt)
good_step i who (Appends rule) a xs g = (good_nil xs g, tt)

fits_call : (inode : Inode) (p : Program) (t : Position) (a : Answer) (who : Who) (i : ℕ)
    (xs : List (ℕ × Event)) (o : Option Call) → call_at p t.call_state ≡ o
    → ((c : Call) → o ≡ Some c → IsFit c) → AreGood
    (reverse (xs ++ event_in i who (step_in p o t.call_state) a))
    → (AreGood (reverse xs) → Fits p t.call_state i (lives inode xs) (hows_in xs))
    → Fits p (resume_in inode.settings.mode p o t a).call_state i
    (lives inode (xs ++ event_in i who (step_in p o t.call_state) a))
    (hows_in (xs ++ event_in i who (step_in p o t.call_state) a))
fits_call inode p t a who i xs None at fit good ih =
    subst (λ (l : List (ℕ × Event)). Fits p t.call_state i (lives inode l) (hows_in l))
    (sym (append-nil xs)) (ih (good_nil xs good))
fits_call inode p t a who i xs (Some c) at fit good ih =
    let g : Progress = progress_of p.cred.admin c t.call_state in
    let y = good_step i who (ask_of p.cred.admin c t.call_state) a xs good in
    subst (λ (L : ℕ → Stage). Fits p (resume_in inode.settings.mode p (Some c) t a).call_state i L
    (hows_in (xs ++ event_in i who (Some (ask_of p.cred.admin c t.call_state)) a)))
    (λ k f. sym (life_step inode i f who (ask_of p.cred.admin c t.call_state) a xs) k)
    (subst (λ (W : ℕ → Option How). Fits p
    (resume_in inode.settings.mode p (Some c) t a).call_state i
    (λ f. after_step inode i f (ask_of p.cred.admin c t.call_state) a (lives inode xs f)) W)
    (λ k f. sym (how_moved i f who (ask_of p.cred.admin c t.call_state) a xs) k)
    (moved_fits p t.call_state c (progress_of p.cred.admin c t.call_state) a.place i
    (λ f. after_step inode i f (ask_of p.cred.admin c t.call_state) a (lives inode xs f))
    (λ f. how_step i f (ask_of p.cred.admin c t.call_state) a (hows_in xs f))
    (next inode.settings.mode c (progress_of p.cred.admin c t.call_state).due a.told a.action) at
    (keeps inode p.cred.admin c (fit c refl) (progress_of p.cred.admin c t.call_state).due.reply
    (progress_of p.cred.admin c t.call_state).step (progress_of p.cred.admin c t.call_state).inode
    (progress_of p.cred.admin c t.call_state).file
    (progress_of p.cred.admin c t.call_state).how t.call_state.handles i (lives inode xs)
    (hows_in xs) a.place (progress_of p.cred.admin c t.call_state).due.ask a.told a.action a.rules
    (ready_now p t.call_state i (lives inode xs) (hows_in xs) c at (ih y.0)) y.1)))

pub fits_history : (inode : Inode) (n : ℕ) (p : Program) (i : ℕ)
    → ((k : ℕ) (c : Call) → slice_get p.calls k ≡ Some c → IsFit c) → (h : List Answer)
    → AreGood (reverse (own inode.settings.mode n p i h))
    → Fits p (position inode.settings.mode p h).call_state i
    (lives inode (own inode.settings.mode n p i h)) (hows_in (own inode.settings.mode n p i h))
fits_history inode n p i fit [] good = tt
fits_history inode n p i fit (a ∷ h) good =
    fits_call inode p (position inode.settings.mode p h) a
    (who_at n p (position inode.settings.mode p h).call_state) i (own inode.settings.mode n p i h)
    (call_at p (position inode.settings.mode p h).call_state) refl
    (fit (position inode.settings.mode p h).call_state.at) good (fits_history inode n p i fit h)

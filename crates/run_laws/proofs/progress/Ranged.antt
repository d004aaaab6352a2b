-- The inode of each step exists.
use Rattle.std.proofs.Common.{◌≡◌, ℕ, zero, suc, ◌<◌, Bool, true, false, cond, List, [], ◌∷◌, ◌++◌, length, Option, Some, None, refl, sym, subst, arith, inl, inr}
use Rattle.std.specs.Prelude.{◌⊎◌, option_map, slice_get, unwrap_or}
use Rattle.std.proofs.lemmas.List.{append-nil}
use Rattle.inode_events.specs.meta.declared.appraisal.Mode.{Mode}
use Rattle.call_steps.specs.policy.declared.access.Action.{Action}
use Rattle.inode_events.specs.NewestFirst.{newest_first}
use Rattle.inode_events.specs.declared.deed.How.{How}
use Rattle.inode_events.specs.declared.told.Event.{Event}
use Rattle.inode_events.specs.declared.told.Told.{Told}
use Rattle.call_steps.specs.Handles.{handle_of, held_by, is_free}
use Rattle.call_steps.specs.CallState.{CallState, Progress, Step, begun, file_of, how_held, inode_of, is_done, moved, plain_step, progress_of, step_by}
use Rattle.call_steps.specs.CallState.{Nothing, Does, Checks, Signals, Appends}
use Rattle.call_steps.specs.Steps.{course_of, first, next, next_by}
use Rattle.call_steps.specs.declared.ask.Ask.{Ask}
use Rattle.call_steps.specs.declared.ask.Ask.TheVariants as ask
use Rattle.call_steps.specs.declared.call.Call.{Call}
use Rattle.call_steps.specs.declared.call.Call.TheVariants as call
use Rattle.call_steps.specs.declared.held.Hand.{Hand}
use Rattle.call_steps.specs.declared.held.Handle.{Handle}
use Rattle.call_steps.specs.declared.held.Name.{Name}
use Rattle.call_steps.specs.declared.held.Name.TheVariants as name
use Rattle.call_steps.specs.declared.reply.Reply.{Reply}
use Rattle.run_model.specs.History.{Answer, Position, call_at, position, resume_in, step_at, step_in}
use Rattle.run_model.specs.Scene.{Program, Scene, ScriptFile, mode_of}
use Rattle.run_model.specs.Scene.{inode_of as inode_at}
use Rattle.run_model.specs.Turns.{State}
use Rattle.run_laws.specs.progress.Resting.{MayStep}
use Rattle.run_laws.specs.progress.NextSteps.{MayMake}
use Rattle.run_laws.specs.progress.ScriptFiles.{IsWithin, StepsMay}
use Rattle.run_laws.proofs.progress.Ready.{Each, each_left, left}
use Rattle.run_laws.proofs.progress.Begun.{each_find}
use Rattle.run_laws.proofs.progress.Going.{left_same}
use Rattle.run_laws.proofs.progress.Making.{next_step_may}
use Rattle.call_steps.specs.declared.due.Next.{Next}
use Rattle.call_steps.specs.declared.due.Next.TheVariants.{On, Over}

abbrev is_plain : Ask → Bool
is_plain ask.Plain = true
is_plain _ = false

abbrev pub InRange : ℕ → Handle → Type 0
InRange count h = h.inode < count

abbrev Ranged : ℕ → Call → Ask → Reply → ℕ → ℕ → How → List Handle → Type 0
Ranged count c k r gi gf hw hs =
    ((is_plain k ≡ true) × Each (InRange count) (left c r gi gf hw hs))
    ⊎ ((gi < count) × Each (InRange count) hs)

module _ (count : ℕ) (admin : Bool) (hs : List Handle) (s : Each (InRange count) hs) where
  abbrev Begins : Call → Progress → Type 0
  Begins c g = Ranged count c g.due.ask g.due.reply g.inode g.file g.how hs

  abbrev begun_with : Call → Hand → Progress
  begun_with c hand =
      record {
        due = first c hand;
        step = 0;
        inode = inode_of c hand.held;
        file = file_of hand.held;
        how = how_held c hand.held;
      }

  abbrev hand_with : Option Handle → Bool → Hand
  hand_with o free = record { held = option_map (held_by hs) o; free = free; admin = admin }

  found : (n : Name) (h : Handle) → handle_of n hs ≡ Some h → h.inode < count
  found n h f = each_find (InRange count) n hs h s f

  same_left : (b : Bool) → Each (InRange count) (cond b (hs ++ []) hs)
  same_left true = subst (Each (InRange count)) (sym (append-nil hs)) s
  same_left false = s

  read_in : (fd from len : ℕ) (o : Option Handle) → handle_of (name.Descriptor fd) hs ≡ o
      → Begins (call.Read fd from len) (begun_with (call.Read fd from len) (hand_with o true))
  read_in fd from len None f = inl (refl, s)
  read_in fd from len (Some h) f = inr (found (name.Descriptor fd) h f, s)

  write_in : (fd from : ℕ) (bytes : List ℕ) (o : Option Handle)
      → handle_of (name.Descriptor fd) hs ≡ o
      → Begins (call.Write fd from bytes) (begun_with (call.Write fd from bytes) (hand_with o true))
  write_in fd from bytes None f = inl (refl, s)
  write_in fd from bytes (Some h) f = inr (found (name.Descriptor fd) h f, s)

  trunc_in : (fd len : ℕ) (o : Option Handle) → handle_of (name.Descriptor fd) hs ≡ o
      → Begins (call.Ftruncate fd len) (begun_with (call.Ftruncate fd len) (hand_with o true))
  trunc_in fd len None f = inl (refl, s)
  trunc_in fd len (Some h) f = inr (found (name.Descriptor fd) h f, s)

  close_in : (fd : ℕ) (o : Option Handle) → handle_of (name.Descriptor fd) hs ≡ o
      → Begins (call.Close fd) (begun_with (call.Close fd) (hand_with o true))
  close_in fd None f = inl (refl, s)
  close_in fd (Some h) f = inr (found (name.Descriptor fd) h f, s)

  map_in : (map fd : ℕ) (exec free : Bool) (o : Option Handle)
      → handle_of (name.Descriptor fd) hs ≡ o
      → Begins (call.Mmap map fd exec) (begun_with (call.Mmap map fd exec) (hand_with o free))
  map_in map fd exec true None f = inl (refl, s)
  map_in map fd exec false None f = inl (refl, s)
  map_in map fd exec free (Some h) f = inr (found (name.Descriptor fd) h f, s)

  mread_in : (map from len : ℕ) (o : Option Handle) → handle_of (name.Map map) hs ≡ o
      → Begins (call.Mread map from len) (begun_with (call.Mread map from len) (hand_with o true))
  mread_in map from len None f = inl (refl, s)
  mread_in map from len (Some h) f = inr (found (name.Map map) h f, s)

  unmap_in : (map : ℕ) (o : Option Handle) → handle_of (name.Map map) hs ≡ o
      → Begins (call.Munmap map) (begun_with (call.Munmap map) (hand_with o true))
  unmap_in map None f = inl (refl, s)
  unmap_in map (Some h) f = inr (found (name.Map map) h f, s)

  end_in : (run : ℕ) (o : Option Handle) → handle_of (name.Run run) hs ≡ o
      → Begins (call.Endexec run) (begun_with (call.Endexec run) (hand_with o true))
  end_in run None f = inl (refl, s)
  end_in run (Some h) f = inr (found (name.Run run) h f, s)

  begins_in : (c : Call) → IsWithin count c → Begins c (begun admin hs c)
  begins_in (call.Open fd inode h trunc) w = inr (w, s)
  begins_in (call.Read fd from len) w = read_in fd from len (handle_of (name.Descriptor fd) hs) refl
  begins_in (call.Write fd from bytes) w =
      write_in fd from bytes (handle_of (name.Descriptor fd) hs) refl
  begins_in (call.Ftruncate fd len) w = trunc_in fd len (handle_of (name.Descriptor fd) hs) refl
  begins_in (call.Close fd) w = close_in fd (handle_of (name.Descriptor fd) hs) refl
  begins_in (call.Mmap map fd exec) w =
      map_in map fd exec (is_free (name.Map map) hs) (handle_of (name.Descriptor fd) hs) refl
  begins_in (call.Mread map from len) w = mread_in map from len (handle_of (name.Map map) hs) refl
  begins_in (call.Munmap map) w = unmap_in map (handle_of (name.Map map) hs) refl
  begins_in (call.Exec run inode) w = inr (w, s)
  begins_in (call.Endexec run) w = end_in run (handle_of (name.Run run) hs) refl
  begins_in (call.SetAttr inode name value) w = inr (w, s)
  begins_in (call.SetMeta inode change) w = inr (w, s)
  begins_in (call.Post sem) w = inl (refl, same_left true)
  begins_in (call.Wait sem) w = inl (refl, same_left true)
  begins_in (call.AddRule rule) w =
      inl (refl, same_left (is_done (first (call.AddRule rule) (hand_with None true)).reply))
  begins_in (call.Module inode) w = inr (w, s)
  begins_in (call.Firmware inode) w = inr (w, s)

-- ---- along a history

abbrev FitsIn : ℕ → Program → CallState → Option Progress → Type 0
FitsIn count p m None = Each (InRange count) m.handles
FitsIn count p m (Some g) = (g.inode < count) × Each (InRange count) m.handles

abbrev RangeFits : ℕ → Program → CallState → Type 0
RangeFits count p m = FitsIn count p m m.progress

range_now : (count : ℕ) (p : Program) (m : CallState) (c : Call) → IsWithin count c
    → RangeFits count p m
    → (λ (g : Progress). Ranged count c g.due.ask g.due.reply g.inode g.file g.how m.handles)
    (progress_of p.cred.admin c m)
range_now count p m c w f = at m.progress f where
  at : (o : Option Progress) → FitsIn count p m o
      → (λ (g : Progress). Ranged count c g.due.ask g.due.reply g.inode g.file g.how m.handles)
      (unwrap_or o (begun p.cred.admin m.handles c))
  at None s = begins_in count p.cred.admin m.handles s c w
  at (Some g) s = inr s

range_moved : (count : ℕ) (p : Program) (m : CallState) (c : Call) (g : Progress) (place : ℕ)
    (x : Next)
    → g.inode < count → Each (InRange count) m.handles → RangeFits count p (moved c m g place x).0
range_moved count p m c g place (On plan) l s = (l, s)
range_moved count p m c g place (Over r) l s =
    subst (Each (InRange count)) (left_same c g r m.handles)
    (each_left (InRange count) c r g.inode g.file g.how m.handles s (λ n. l))

plain_over : (mode : Mode) (c : Call) (k : Ask) (r : Reply) (t : Told) (action : Action)
    → is_plain k ≡ true → next_by mode (course_of c) k r t action ≡ Over r
plain_over mode c ask.Plain r t action e = refl
plain_over mode c ask.Count r t action e = absurd (cc)
plain_over mode c (ask.Check func mask) r t action e = absurd (cc)
plain_over mode c (ask.Take slot) r t action e = absurd (cc)
plain_over mode c ask.Chunk r t action e = absurd (cc)
plain_over mode c ask.Finish r t action e = absurd (cc)
plain_over mode c (ask.Read from len) r t action e = absurd (cc)
plain_over mode c ask.Write r t action e = absurd (cc)
plain_over mode c (ask.Trunc len) r t action e = absurd (cc)
plain_over mode c ask.SetAttr r t action e = absurd (cc)
plain_over mode c ask.SetMeta r t action e = absurd (cc)
plain_over mode c ask.Close r t action e = absurd (cc)
plain_over mode c ask.CloseTake r t action e = absurd (cc)
plain_over mode c ask.CloseChunk r t action e = absurd (cc)
plain_over mode c ask.CloseFinish r t action e = absurd (cc)

range_step : (count : ℕ) (mode : Mode) (p : Program) (m : CallState) (c : Call) (g : Progress)
    (place : ℕ) (t : Told) (action : Action)
    → Ranged count c g.due.ask g.due.reply g.inode g.file g.how m.handles
    → RangeFits count p (moved c m g place (next mode c g.due t action)).0
range_step count mode p m c g place t action (inl (e, s)) =
    subst (λ (x : Next). RangeFits count p (moved c m g place x).0)
    (sym (plain_over mode c g.due.ask g.due.reply t action e))
    (subst (Each (InRange count)) (left_same c g g.due.reply m.handles) s)
range_step count mode p m c g place t action (inr (l, s)) =
    range_moved count p m c g place (next mode c g.due t action) l s

range_call : (count : ℕ) (mode : Mode) (p : Program) (t : Position) (a : Answer) (o : Option Call)
    → ((c : Call) → o ≡ Some c → IsWithin count c) → RangeFits count p t.call_state
    → RangeFits count p (resume_in mode p o t a).call_state
range_call count mode p t a None w f = f
range_call count mode p t a (Some c) w f =
    range_step count mode p t.call_state c (progress_of p.cred.admin c t.call_state) a.place
    a.told a.action (range_now count p t.call_state c (w c refl) f)

range_history : (count : ℕ) (mode : Mode) (p : Program)
    → ((k : ℕ) (c : Call) → slice_get p.calls k ≡ Some c → IsWithin count c) → (h : List Answer)
    → RangeFits count p (position mode p h).call_state
range_history count mode p w [] = tt
range_history count mode p w (a ∷ h) =
    range_call count mode p (position mode p h) a (call_at p (position mode p h).call_state)
    (w (position mode p h).call_state.at) (range_history count mode p w h)

abbrev StepWithin : ℕ → Option Step → Type 0
StepWithin count (Some (Does j d)) = j < count
StepWithin count (Some (Checks j file func mask)) = j < count
StepWithin count _ = Unit {0}

plain_within : (count : ℕ) (c : Call) (b : Bool) → StepWithin count (Some (plain_step b c))
plain_within count (call.AddRule rule) true = tt
plain_within count (call.AddRule rule) false = tt
plain_within count (call.Post sem) b = tt
plain_within count (call.Wait sem) b = tt
plain_within count c b = tt

inside : {A B : Type 0} → (false ≡ true) × A ⊎ B → B
inside (inl (e, a)) = absurd (cc)
inside (inr b) = b

step_within : (count : ℕ) (admin : Bool) (c : Call) (k : Ask) (r : Reply) (step gi gf : ℕ)
    (hw : How) (hs : List Handle) → Ranged count c k r gi gf hw hs
    → StepWithin count (Some (step_by admin c
    (record {
      due = record { ask = k; reply = r };
      step = step;
      inode = gi;
      file = gf;
      how = hw;
    }) k))
step_within count admin c ask.Count r step gi gf hw hs f = (inside f).0
step_within count admin c (ask.Check func mask) r step gi gf hw hs f = (inside f).0
step_within count admin c ask.Plain r step gi gf hw hs f = plain_within count c admin
step_within count admin c (ask.Take slot) r step gi gf hw hs f = (inside f).0
step_within count admin c ask.Chunk r step gi gf hw hs f = (inside f).0
step_within count admin c ask.Finish r step gi gf hw hs f = (inside f).0
step_within count admin c (ask.Read from len) r step gi gf hw hs f = (inside f).0
step_within count admin c ask.Write r step gi gf hw hs f = (inside f).0
step_within count admin c (ask.Trunc len) r step gi gf hw hs f = (inside f).0
step_within count admin c ask.SetAttr r step gi gf hw hs f = (inside f).0
step_within count admin c ask.SetMeta r step gi gf hw hs f = (inside f).0
step_within count admin c ask.Close r step gi gf hw hs f = (inside f).0
step_within count admin c ask.CloseTake r step gi gf hw hs f = (inside f).0
step_within count admin c ask.CloseChunk r step gi gf hw hs f = (inside f).0
step_within count admin c ask.CloseFinish r step gi gf hw hs f = (inside f).0

call_within : (count : ℕ) (p : Program) (m : CallState) (o : Option Call)
    → ((c : Call) → o ≡ Some c → IsWithin count c) → RangeFits count p m
    → StepWithin count (step_in p o m)
call_within count p m None w f = tt
call_within count p m (Some c) w f =
    step_within count p.cred.admin c (progress_of p.cred.admin c m).due.ask
    (progress_of p.cred.admin c m).due.reply (progress_of p.cred.admin c m).step
    (progress_of p.cred.admin c m).inode
    (progress_of p.cred.admin c m).file (progress_of p.cred.admin c m).how m.handles
    (range_now count p m c (w c refl) f)

-- ---- in a scene

get_within : {A : Type 0} (xs : List A) (k : ℕ) → k < length xs
    → (x : A) × (slice_get xs k ≡ Some x)
get_within [] k l = absurd (omega arith)
get_within (x ∷ xs) zero l = (x, refl)
get_within (x ∷ xs) (suc k) l = get_within xs k (omega arith)

scene_may : (scene : Scene) (s : State) (o : Option Step)
    → length s.journals ≡ length scene.script_files → StepWithin (length scene.script_files) o
    → ((i : ℕ) (script_file : ScriptFile) (journal : List Event)
    → slice_get scene.script_files i ≡ Some script_file → slice_get s.journals i ≡ Some journal
    → MayMake (inode_at scene script_file) i (newest_first journal) o)
    → MayStep scene s o
scene_may scene s None even w f = tt
scene_may scene s (Some Nothing) even w f = tt
scene_may scene s (Some (Does i d)) even w f =
    let a = get_within scene.script_files i w in
    let b = get_within s.journals i (subst (λ (k : ℕ). i < k) (sym even) w) in
    (a.0, b.0, a.1, b.1, f i a.0 b.0 a.1 b.1 refl)
scene_may scene s (Some (Checks i file func mask)) even w f = get_within scene.script_files i w
scene_may scene s (Some (Signals d)) even w f = tt
scene_may scene s (Some (Appends rule)) even w f = tt

pub all_steps_may : StepsMay
all_steps_may scene s n p h fit even legal owns =
    scene_may scene s (step_at p (position (mode_of scene) p h).call_state) even
    (call_within (length scene.script_files) p (position (mode_of scene) p h).call_state
    (call_at p (position (mode_of scene) p h).call_state)
    (λ c e. (fit (position (mode_of scene) p h).call_state.at c e).1)
    (range_history (length scene.script_files) (mode_of scene) p (λ k c e. (fit k c e).1) h))
    (λ i script_file journal a b. next_step_may (inode_at scene script_file) n p h i journal
    (λ k c e. (fit k c e).0) (legal i script_file journal a b).0 (legal i script_file journal a b).1
    (owns i journal b))

-- The conditions on a task's files hold after each step's outcome.
use Rattle.std.proofs.Common.{◌≡◌, ℕ, Bool, true, false, ◌&&◌, cond, List, [], ◌++◌, Option, Some, None, refl, sym, ◌∙◌, ap, subst}
use Rattle.std.specs.Prelude.{◌==◌}
use Rattle.std.proofs.lemmas.Bool.{eqb-true, eq-eqb, cond-true, cond-false}
use Rattle.std.proofs.lemmas.List.{append-nil}
use Rattle.inode_events.specs.labels.declared.verdict.Cause.{Cause}
use Rattle.inode_events.specs.labels.declared.verdict.Verdict.{Verdict}
use Rattle.inode_events.specs.labels.declared.verdict.Verdict.TheVariants.{Deny}
use Rattle.inode_events.specs.meta.declared.appraisal.Slot.{Slot}
use Rattle.call_steps.specs.policy.declared.access.Action.{Action}
use Rattle.call_steps.specs.policy.declared.rule.Func.{Func}
use Rattle.inode_events.specs.Checks.{asks}
use Rattle.inode_events.specs.Files.{can_read, is_writer}
use Rattle.inode_events.specs.Inode.{Inode}
use Rattle.inode_events.specs.declared.deed.Deed.{Deed}
use Rattle.inode_events.specs.declared.deed.Deed.TheVariants as deed
use Rattle.inode_events.specs.declared.deed.How.{How}
use Rattle.inode_events.specs.declared.told.Grant.{Grant}
use Rattle.inode_events.specs.declared.told.Told.{Told}
use Rattle.inode_events.specs.declared.told.Told.TheVariants as told
use Rattle.call_steps.specs.CallState.{is_done}
use Rattle.call_steps.specs.Steps.{course_of, admitted, check, close, granted, has_read, how_of, next_by, refused, refused_by, reply_of, take}
use Rattle.call_steps.specs.declared.ask.Ask.{Ask}
use Rattle.call_steps.specs.declared.ask.Ask.TheVariants as ask
use Rattle.call_steps.specs.declared.call.Call.{Call}
use Rattle.call_steps.specs.declared.call.Call.TheVariants as call
use Rattle.call_steps.specs.declared.held.Handle.{Handle}
use Rattle.call_steps.specs.declared.reply.Reply.{Reply}
use Rattle.call_steps.specs.declared.reply.Reply.TheVariants as reply
use Rattle.run_laws.specs.progress.NextSteps.{IsFit}
use Rattle.run_laws.proofs.progress.Ready.{At, But, Closes, Each, IsAttr, Mine, NextFits, NoName, Ready, Strong, admits, counts, each_map, left, mine_after, over_gone, over_settled, with_here, with_life}
use Rattle.inode_events.specs.Stage.{Asked, CloseCollected, CloseCollecting, Collected, Collecting, Counted, Settled, Stage, may_check, stage_after}
use Rattle.call_steps.specs.declared.due.Next.TheVariants.{On}

-- whether the outcome is one that a legal event has
abbrev pub told_fits : Deed → Told → Bool
told_fits (deed.Count how) told.Held = true
told_fits (deed.Count how) told.NotFound = true
told_fits (deed.Count how) told.TextBusy = true
told_fits (deed.Count how) _ = false
told_fits (deed.Take file) told.Begun = true
told_fits (deed.Take file) (told.Grant grant) = true
told_fits (deed.Take file) _ = false
told_fits (deed.Chunk file) told.More = true
told_fits (deed.Chunk file) told.Last = true
told_fits (deed.Chunk file) _ = false
told_fits (deed.Finish file) (told.Grant grant) = true
told_fits (deed.Finish file) _ = false
told_fits (deed.CloseChunk file) told.More = true
told_fits (deed.CloseChunk file) told.Last = true
told_fits (deed.CloseChunk file) _ = false
told_fits _ _ = true

bad : {A : Type 0} → false ≡ true → A
bad e = absurd (cc)

module _ (gi gf : ℕ) (hw : How) (hs : List Handle) (i : ℕ) (L : ℕ → Stage)
    (W : ℕ → Option How) where
  -- a call that closes the file that it counted is ready to
  close_ready : (c : Call) (r : Reply) (b : Bool) → is_writer hw ≡ b → Mine c gi gf hw hs i L W
      → Closes c r gi gf hw hs i → At gi gf i L Settled
      → Ready c (cond b ask.CloseTake ask.Close) r gi gf hw hs i L W
  close_ready c r true w m n s = (m, (w, n), s)
  close_ready c r false w m n s = (m, (w, n), s)

  counted_closes : (c : Call) (cause : Cause) → counts c ≡ true → Mine c gi gf hw hs i L W
      → At gi gf i L Settled → NextFits c gi gf hw hs i L W
      (On (record { ask = close (how_of (course_of c)); reply = reply.Denied cause }))
  counted_closes c cause k m s =
      close_ready c (reply.Denied cause) (is_writer (how_of (course_of c)))
      (ap is_writer (m.2 k).0) m (m.2 k).1 s

  refused_fits : (c : Call) (cause : Cause) → admits c ≡ true → Mine c gi gf hw hs i L W
      → At gi gf i L Settled → NextFits c gi gf hw hs i L W (refused (course_of c) cause)
  refused_fits (call.Mmap map fd exec) cause k m s =
      over_settled (call.Mmap map fd exec) (reply.Denied cause) gi gf hw hs i L W m s
  refused_fits c cause k m s = counted_closes c cause k m s

  admitted_fits : (c : Call) → IsFit c → Mine c gi gf hw hs i L W → At gi gf i L Settled
      → NextFits c gi gf hw hs i L W (admitted (course_of c))
  admitted_fits (call.Open fd inode h true) fit m s = (m, ap is_writer (m.2 refl).0 ∙ fit, s)
  admitted_fits (call.Exec run inode) fit m s = (m, ap can_read (m.2 refl).0, s)
  admitted_fits (call.Module inode) fit m s = (m, ap can_read (m.2 refl).0, s)
  admitted_fits (call.Firmware inode) fit m s = (m, ap can_read (m.2 refl).0, s)
  admitted_fits c fit m s = over_settled c reply.Done gi gf hw hs i L W m s

  refused_by_fits : (c : Call) (v : Option Verdict) → IsFit c → admits c ≡ true
      → Mine c gi gf hw hs i L W → At gi gf i L Settled
      → NextFits c gi gf hw hs i L W (refused_by (course_of c) v)
  refused_by_fits c (Some (Deny cause)) fit k m s = refused_fits c cause k m s
  refused_by_fits c v fit k m s = admitted_fits c fit m s

  granted_fits : (c : Call) (g : Grant) → IsFit c → admits c ≡ true → Mine c gi gf hw hs i L W
      → At gi gf i L Settled → NextFits c gi gf hw hs i L W (granted (course_of c) g)
  granted_fits c g fit k m s = at g.admitted where
    at : (b : Bool) → NextFits c gi gf hw hs i L W
        (cond b (admitted (course_of c)) (refused_by (course_of c) g.verdict))
    at true = admitted_fits c fit m s
    at false = refused_by_fits c g.verdict fit k m s

  same_left : (c : Call) (r : Reply) → Each (NoName gi gf i) hs → (b : Bool)
      → Each (NoName gi gf i) (cond b (hs ++ []) hs)
  same_left c r n true = subst (Each (NoName gi gf i)) (sym (append-nil hs)) n
  same_left c r n false = n

  read_fits : (c : Call) (r : Reply) → Mine c gi gf hw hs i L W → At gi gf i L Settled
      → NextFits c gi gf hw hs i L W (has_read (course_of c) r)
  read_fits (call.Module inode) r m s =
      (m, (ap is_writer (m.2 refl).0, same_left (call.Module inode) r (m.2 refl).1 (is_done r)), s)
  read_fits (call.Firmware inode) r m s = (
    m,
    (ap is_writer (m.2 refl).0, same_left (call.Firmware inode) r (m.2 refl).1 (is_done r)),
    s,
  )
  read_fits c r m s = over_settled c r gi gf hw hs i L W m s

  attr_left : (c : Call) (r : Reply) → IsAttr c → Each (Strong i L W) hs
      → Each (Strong i L W) (left c r gi gf hw hs)
  attr_left (call.SetAttr inode name value) r a e = at (is_done r) where
    at : (b : Bool) → Each (Strong i L W) (cond b (hs ++ []) hs)
    at true = subst (Each (Strong i L W)) (sym (append-nil hs)) e
    at false = e
  attr_left (call.SetMeta inode change) r a e = at (is_done r) where
    at : (b : Bool) → Each (Strong i L W) (cond b (hs ++ []) hs)
    at true = subst (Each (Strong i L W)) (sym (append-nil hs)) e
    at false = e
  attr_left c r a e = absurd a

-- ---- a step of a file that was counted; `x` is what the event makes of its stage

settle : (gi gf i : ℕ) (L : ℕ → Stage) (x : Stage → Stage) (l : Stage) → (gi ≡ i → x (L gf) ≡ l)
    → At gi gf i (with_life gi gf i x L) l
settle gi gf i L x l e q = with_here gi gf i x L q ∙ e q

module _ (inode : Inode) (c : Call) (fit : IsFit c) (r : Reply) (gi gf : ℕ) (hw : How)
    (hs : List Handle) (i : ℕ) (L : ℕ → Stage) (W : ℕ → Option How) where
  abbrev Row : Ask → Deed → Told → Action → Type 0
  Row k d u action = Ready c k r gi gf hw hs i L W → (gi ≡ i → told_fits d u ≡ true)
      → NextFits c gi gf hw hs i (with_life gi gf i (stage_after inode d u) L) W
      (next_by inode.settings.mode (course_of c) k r u action)

  moved_on : (x : Stage → Stage) → Mine c gi gf hw hs i L W
      → Mine c gi gf hw hs i (with_life gi gf i x L) W
  moved_on x m = mine_after c gi gf hw hs i L W x m

  pub check_row : (func : Func) (mask rules : ℕ) (u : Told) (action : Action)
      → Row (ask.Check func mask) (deed.Check gf func action rules) u action
  check_row func mask rules u action a fits = at (asks inode action) where
    at : (b : Bool) → NextFits c gi gf hw hs i (with_life gi gf i (λ l. cond b Asked Settled) L) W
        (cond b (On (record { ask = take (course_of c); reply = r })) (admitted (course_of c)))
    at true = (moved_on (λ l. Asked) a.0, a.1, settle gi gf i L (λ l. Asked) Asked (λ q. refl))
    at false = admitted_fits gi gf hw hs i (with_life gi gf i (λ l. Settled) L) W c fit
        (moved_on (λ l. Settled) a.0) (settle gi gf i L (λ l. Settled) Settled (λ q. refl))

  pub take_row : (slot : Slot) (u : Told) (action : Action)
      → Row (ask.Take slot) (deed.Take gf) u action
  take_row slot (told.Grant g) action a fits =
      granted_fits gi gf hw hs i (with_life gi gf i (λ l. Settled) L) W c g fit a.1
      (moved_on (λ l. Settled) a.0) (settle gi gf i L (λ l. Settled) Settled (λ q. refl))
  take_row slot told.Begun action a fits = (
    moved_on (λ l. Collecting) a.0,
    a.1,
    settle gi gf i L (λ l. Collecting) Collecting
        (λ q. refl),
  )
  take_row slot u action a fits = (moved_on (λ l. l) a.0, a.1, (λ q. bad (fits q)))

  pub chunk_row : (u : Told) (action : Action) → Row ask.Chunk (deed.Chunk gf) u action
  chunk_row told.More action a fits =
      (moved_on (λ l. l) a.0, a.1, settle gi gf i L (λ l. l) Collecting a.2)
  chunk_row told.Last action a fits =
      (moved_on (λ l. Collected) a.0, a.1, settle gi gf i L (λ l. Collected) Collected (λ q. refl))
  chunk_row u action a fits = (moved_on (λ l. l) a.0, a.1, (λ q. bad (fits q)))

  pub finish_row : (u : Told) (action : Action) → Row ask.Finish (deed.Finish gf) u action
  finish_row (told.Grant g) action a fits =
      granted_fits gi gf hw hs i (with_life gi gf i (λ l. Settled) L) W c g fit a.1
      (moved_on (λ l. Settled) a.0) (settle gi gf i L (λ l. Settled) Settled (λ q. refl))
  finish_row u action a fits =
      over_settled c r gi gf hw hs i (with_life gi gf i (λ l. l) L) W (moved_on (λ l. l) a.0)
      (λ q. bad (fits q))

  pub read_row : (from len : ℕ) (u : Told) (action : Action)
      → Row (ask.Read from len) (deed.Read gf from len) u action
  read_row from len u action a fits =
      read_fits gi gf hw hs i (with_life gi gf i (λ l. l) L) W c (reply_of u)
      (moved_on (λ l. l) a.0) (settle gi gf i L (λ l. l) Settled a.2)

  pub trunc_row : (len : ℕ) (u : Told) (action : Action)
      → Row (ask.Trunc len) (deed.Trunc gf len) u action
  trunc_row len u action a fits =
      over_settled c (reply_of u) gi gf hw hs i (with_life gi gf i (λ l. l) L) W
      (moved_on (λ l. l) a.0) (settle gi gf i L (λ l. l) Settled a.2)

  -- a write keeps the conditions, whatever its bytes
  pub write_row : (u : Told) (action : Action) → Ready c ask.Write r gi gf hw hs i L W
      → NextFits c gi gf hw hs i (with_life gi gf i (λ l. l) L) W
      (next_by inode.settings.mode (course_of c) ask.Write r u action)
  write_row u action a =
      over_settled c (reply_of u) gi gf hw hs i (with_life gi gf i (λ l. l) L) W
      (moved_on (λ l. l) a.0) (settle gi gf i L (λ l. l) Settled a.2)

  pub close_row : (u : Told) (action : Action) → Row ask.Close (deed.Close gf) u action
  close_row u action a fits =
      over_gone c r gi gf hw hs i (with_life gi gf i (stage_after inode (deed.Close gf) u) L) W
      (moved_on (stage_after inode (deed.Close gf) u) a.0) a.1.1

  pub close_take_row : (u : Told) (action : Action) → Row ask.CloseTake (deed.CloseTake gf) u action
  close_take_row told.Begun action a fits = (
    moved_on (λ l. CloseCollecting) a.0,
    a.1.1,
    settle gi gf i L (λ l. CloseCollecting) CloseCollecting (λ q. refl),
  )
  close_take_row u action a fits =
      over_gone c r gi gf hw hs i (with_life gi gf i (stage_after inode (deed.CloseTake gf) u) L) W
      (moved_on (stage_after inode (deed.CloseTake gf) u) a.0) a.1.1

  pub close_chunk_row : (u : Told) (action : Action)
      → Row ask.CloseChunk (deed.CloseChunk gf) u action
  close_chunk_row told.More action a fits =
      (moved_on (λ l. l) a.0, a.1, settle gi gf i L (λ l. l) CloseCollecting a.2)
  close_chunk_row told.Last action a fits = (
    moved_on (λ l. CloseCollected) a.0,
    a.1,
    settle gi gf i L (λ l. CloseCollected) CloseCollected (λ q. refl),
  )
  close_chunk_row u action a fits = (moved_on (λ l. l) a.0, a.1, (λ q. bad (fits q)))

  pub close_finish_row : (u : Told) (action : Action)
      → Row ask.CloseFinish (deed.CloseFinish gf) u action
  close_finish_row u action a fits =
      over_gone c r gi gf hw hs i (with_life gi gf i
      (stage_after inode (deed.CloseFinish gf) u) L) W
      (moved_on (stage_after inode (deed.CloseFinish gf) u) a.0) a.1

  -- a step that touches no file keeps the conditions
  pub attr_row : (r : Reply) → IsAttr c → Each (Strong i L W) hs
      → Each (Strong i L W) (left c r gi gf hw hs)
  attr_row r a e = attr_left gi gf hw hs i L W c r a e

-- ---- the count

abbrev pub how_after : Deed → Told → How → Bool
how_after (deed.Count how) told.Held hw = true
how_after d u hw = false

abbrev pub with_how : ℕ → ℕ → ℕ → How → (ℕ → Option How) → ℕ → Option How
with_how gi place i hw W f = cond (gi == i) (cond (place == f) (Some hw) (W f)) (W f)

module _ (inode : Inode) (c : Call) (r : Reply) (gi place : ℕ) (hw : How) (hs : List Handle)
    (i : ℕ) (L : ℕ → Stage) (W : ℕ → Option How) (new : gi ≡ i → W place ≡ None) where
  -- a handle is of a file that was counted earlier
  older : (h : Handle) → h.inode ≡ i → W h.file ≡ Some h.how → (gi ≡ i → (place == h.file) ≡ false)
  older h e w q = at (place == h.file) refl where
    at : (b : Bool) → (place == h.file) ≡ b → b ≡ false
    at false z = refl
    at true z = let y : W h.file ≡ None =
        ap W (sym (eqb-true place h.file z)) ∙ new q in absurd (cc)

  apart : {A : Type 0} (x l : A) (h : Handle) → h.inode ≡ i → W h.file ≡ Some h.how
      → cond (gi == i) (cond (place == h.file) x l) l ≡ l
  apart x l h e w = at (gi == i) refl where
    at : (b : Bool) → (gi == i) ≡ b → cond b (cond (place == h.file) x l) l ≡ l
    at false q = refl
    at true q = cond-false (place == h.file) x l (older h e w (eqb-true gi i q))

  strong_on : (h : Handle) → Strong i L W h → Strong i (with_life gi place i (λ l. Counted) L)
      (with_how gi place i hw W) h
  strong_on h s e = (
    apart (Some hw) (W h.file) h e (s e).0 ∙ (s e).0,
    apart Counted (L h.file) h e (s e).0 ∙ (s e).1,
  )

  no_name : (h : Handle) → Strong i L W h → NoName gi place i h
  no_name h s e = at (h.inode == gi) refl (h.file == place) refl where
    at : (a : Bool) → (h.inode == gi) ≡ a → (b : Bool) → (h.file == place) ≡ b → (a && b) ≡ false
    at false p b q = refl
    at true p false q = refl
    at true p true q =
        let z : (place == h.file) ≡ false = older h e (s e).0 (sym (eqb-true h.inode gi p) ∙ e) in
        let y : (place == h.file) ≡ true = eq-eqb place h.file (sym (eqb-true h.file place q)) in
        absurd (cc)

  counts_admits : (c : Call) → counts c ≡ true → admits c ≡ true
  counts_admits (call.Mmap map fd exec) e = refl
  counts_admits c e = e

  here : {A : Type 0} (x : A) (F : ℕ → A) → gi ≡ i
      → cond (gi == i) (cond (place == place) x (F place)) (F place) ≡ x
  here x F q =
      cond-true (gi == i) _ _ (eq-eqb gi i q)
      ∙ cond-true (place == place) _ _ (eq-eqb place place refl)

  pub counted_ready : counts c ≡ true → hw ≡ how_of (course_of c) → Each (Strong i L W) hs
      → Ready c (check (course_of c)) r gi place hw hs i (with_life gi place i (λ l. Counted) L)
      (with_how gi place i hw W)
  counted_ready k w s = (
    (
      here (Some hw) W,
      each_map (Strong i L W) (But gi place i (with_life gi place i (λ l. Counted) L)
          (with_how gi place i hw W)) (λ h x e.
          ((strong_on h x e).0, (λ z. (strong_on h x e).1))) hs s,
      (λ z. (w, each_map (Strong i L W) (NoName gi place i) no_name hs s)),
    ),
    counts_admits c k,
    (λ q. ap may_check (here Counted L q)),
  )

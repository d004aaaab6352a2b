-- After a look the next step of a task is ready.
use Rattle.std.proofs.Common.{◌≡◌, ℕ, ◌+◌, ◌<◌, Bool, true, false, List, [], ◌∷◌, ◌++◌, length, Option, Some, None, refl, sym, ◌∙◌, ap, subst}
use Rattle.std.specs.Prelude.{◌==◌, All, option_map, reverse, slice_get}
use Rattle.std.proofs.lemmas.Bool.{eq-eqb, cond-true}
use Rattle.std.proofs.lemmas.List.{reverse-append}
use Rattle.grow_list.specs.Shown.{Passed}
use Rattle.inode_meta.specs.declared.appraisal.Mode.{Mode}
use Rattle.inode_meta.specs.declared.appraisal.Slot.{Slot}
use Rattle.policy_rules.specs.ActionValue.{ActionValue}
use Rattle.inode_events.specs.Checks.{Check, last_check, no_action, slot_of}
use Rattle.inode_events.specs.Inode.{Inode}
use Rattle.inode_events.specs.Integrity.{Collection}
use Rattle.inode_events.specs.Legal.{May}
use Rattle.inode_events.specs.NewestFirst.{newest_first}
use Rattle.inode_events.specs.Stage.{CloseCollected, CloseCollecting, Collected, Collecting, Stage, is_collecting, is_gone, stage, stage_in}
use Rattle.inode_events.specs.declared.deed.Deed.{Deed}
use Rattle.inode_events.specs.declared.deed.Deed.TheVariants as deed
use Rattle.inode_events.specs.declared.told.Event.{Event}
use Rattle.call_steps.specs.CallState.{CallState, Progress, Step, deed_of, plain_step, progress_of, step_by}
use Rattle.call_steps.specs.CallState.{Nothing, Does, Checks, Signals, Appends}
use Rattle.call_steps.specs.declared.ask.Ask.{Ask}
use Rattle.call_steps.specs.declared.ask.Ask.TheVariants as ask
use Rattle.call_steps.specs.declared.call.Call.{Call}
use Rattle.call_steps.specs.declared.call.Call.TheVariants as call
use Rattle.world_model.specs.laws_of_journals.Own.{IsBy, check_in, counter}
use Rattle.world_model.proofs.laws_of_journals.Bridge.{own_bridge}
use Rattle.world_model.proofs.laws_of_journals.Owning.{stage_own}
use Rattle.run_model.specs.History.{Answer, Position, call_at, event_in, own, position, step_at, step_in, who_at}
use Rattle.run_model.specs.Scene.{Program}
use Rattle.run_model.specs.Served.{events_of}
use Rattle.world_model.specs.laws_of_progress.NextSteps.{MayMake}
use Rattle.world_model.proofs.laws_of_progress.Making.{next_step_may}
use Rattle.world_model.specs.WorldConsts.{InodeConsts, WorldConsts, inode_in, mode_in}
use Rattle.world_model.specs.Tasks.{Collects, HashesBefore, HashesFor, HasPlayed, HasSummed, HasTakenIn, Tasked, action_by, last_action}
use Rattle.world_model.specs.declared.hash_state.HashState.{HashState}
use Rattle.world_model.specs.Due.{slot_in}
use Rattle.world_model.specs.Ready.{AsksBy, HasLooked, IsReady, IsStepOn, ReadyByLook}
use Rattle.world_model.proofs.Mine.{StepBy, next_is_by}
use Rattle.world_model.proofs.Takes.{ByCheck, IfTake, checked_by, take_law}
use Rattle.world_model.specs.task_states.Value.{due_at}

may_of : (inode : Inode) (n i : ℕ) (p : List Event) (d : Deed) (o : Option Step)
    → MayMake inode i p o → StepBy i n p o → IsStepOn i d o → May inode p d × IsBy n d p
may_of inode n i p d None m b e = absurd e
may_of inode n i p d (Some Nothing) m b e = absurd e
may_of inode n i p d (Some (Does j x)) m b e = (
  subst (λ (y : Deed). May inode p y) e.1 (m e.0),
  subst (λ (y : Deed). IsBy n y p) e.1 (b e.0),
)
may_of inode n i p d (Some (Checks j file func mask)) m b e = (
  subst (λ (y : Deed). May inode p y) e.1 (m e.0 no_action 0),
  subst (λ (y : Deed). IsBy n y p) e.1 (b e.0),
)
may_of inode n i p d (Some (Signals x)) m b e = absurd e
may_of inode n i p d (Some (Appends rule)) m b e = absurd e

-- ---- what is hashed

hashes_of : (consts : WorldConsts) (passes : List (Passed Event)) (g : HashState) (i : ℕ)
    (s : InodeConsts)
    (q : Passed Event) (d : Deed) (o : Option Step) → slice_get consts.each_inode i ≡ Some s
    → slice_get passes i ≡ Some q → HashesFor consts passes g o → IsStepOn i d o
    → HashesBefore (inode_in consts s) q.seen g d
hashes_of consts passes g i s q d None a b x e = absurd e
hashes_of consts passes g i s q d (Some Nothing) a b x e = absurd e
hashes_of consts passes g i s q d (Some (Does j y)) a b x e =
    subst (λ (z : Deed). HashesBefore (inode_in consts s) q.seen g z) e.1
    (x s q (ap (slice_get consts.each_inode) e.0 ∙ a) (ap (slice_get passes) e.0 ∙ b))
hashes_of consts passes g i s q d (Some (Checks j file func mask)) a b x e =
    subst (λ (z : Deed). HashesBefore (inode_in consts s) q.seen g z) e.1 tt
hashes_of consts passes g i s q d (Some (Signals y)) a b x e = absurd e
hashes_of consts passes g i s q d (Some (Appends rule)) a b x e = absurd e

module _ (inode : Inode) (n : ℕ) (seen list : List Event) (mine : List (ℕ × Event))
    (l : HasLooked inode n seen list mine) where
  -- the task's own events determine the stage of a file that it opened
  own_stage : (f : ℕ) → counter f (newest_first list) ≡ Some n
      → stage_in inode f (reverse mine) ≡ stage inode f (newest_first list)
  own_stage f c =
      ap (λ (xs : List (ℕ × Event)). stage_in inode f xs)
      (sym (own_bridge n list ∙ ap reverse l.own))
      ∙ sym (stage_own inode n f (newest_first list) l.owned c)

  stays_open : (f : ℕ) (x : Stage) → is_collecting x ≡ true → stage inode f (newest_first list) ≡ x
      → counter f (newest_first list) ≡ Some n → All (λ y. y.0 < length seen) mine
      → (P : Collection → Type 0)
      → Collects inode (newest_first seen) P → Collects inode (newest_first list) P
  stays_open f x c m b below P y = record {
    collection = y.collection;
    is_open = l.tells.collection f below (ap is_collecting (own_stage f b ∙ m) ∙ c) ∙ y.is_open;
    has = y.has;
  }

  hashes_still : (g : HashState) (d : Deed) → May inode (newest_first list) d
      → IsBy n d (newest_first list)
      → All (λ y. y.0 < length seen) mine → HashesBefore inode seen g d
      → HashesBefore inode list g d
  hashes_still g (deed.Chunk f) m b below x =
      stays_open f Collecting refl m (b f (eq-eqb f f refl)) below (HasTakenIn g) x
  hashes_still g (deed.CloseChunk f) m b below x =
      stays_open f CloseCollecting refl m (b f (eq-eqb f f refl)) below (HasTakenIn g) x
  hashes_still g (deed.Finish f) m b below x =
      stays_open f Collected refl m (b f (eq-eqb f f refl)) below (HasSummed g) x
  hashes_still g (deed.CloseFinish f) m b below x =
      stays_open f CloseCollected refl m (b f (eq-eqb f f refl)) below (HasSummed g) x
  hashes_still g d m b below x = tt

-- ---- the slot and the action of a take

-- the action and the function of the last check of a file, by the history
pub record LastCheck (mode : Mode) (n : ℕ) (p : Program) (i : ℕ) (h : List Answer) (file : ℕ)
    (slot : Slot) : Type 0 where
  pub slot_is : slot ≡ slot_of (check_in file (reverse (own mode n p i h))).func
  pub action_is : last_action mode p h ≡ (check_in file (reverse (own mode n p i h))).action

last_check_is : (mode : Mode) (n : ℕ) (p : Program) (i : ℕ) (h : List Answer) (file : ℕ)
    (slot : Slot) → ByCheck mode p h i file slot → LastCheck mode n p i h file slot
last_check_is mode n p i h file slot r =
    let a = r.answer in
    let m = (position mode p r.before).call_state in
    let who = who_at n p m in
    let events : event_in i who (step_at p m) a
    ≡ (
      a.place,
      record {
        who = who;
        deed = deed.Check file r.func a.action a.rules;
        told = a.told;
      },
    ) ∷ [] =
    ap (λ (o : Option Step). event_in i who o a) r.check
    ∙ cond-true (i == i) _ _ (eq-eqb i i refl) in
    let mine : reverse (own mode n p i h) ≡ (
      a.place,
      record {
        who = who;
        deed = deed.Check file r.func a.action a.rules;
        told = a.told;
      },
    ) ∷ reverse (own mode n p i r.before) =
    ap (λ (x : List Answer). reverse (own mode n p i x)) r.is
    ∙ ap (λ (x : List (ℕ × Event)). reverse (own mode n p i r.before ++ x)) events
    ∙ reverse-append (own mode n p i r.before) _ in
    let last : check_in file (reverse (own mode n p i h))
    ≡ record { func = r.func; action = a.action } =
    ap (check_in file) mine
    ∙ checked_by mode p file a.place who r.func a.action a.rules a.told
    (reverse (own mode n p i r.before)) in
    record {
      slot_is = r.slot_is ∙ ap (λ (c : Check). slot_of c.func) (sym last);
      action_is = ap (last_action mode p) r.is
          ∙ ap (λ (o : Option Step). action_by o a (last_action mode p r.before)) r.check
          ∙ ap (λ (c : Check). c.action) (sym last);
    }

module _ (inode : Inode) (n : ℕ) (p : Program) (h : List Answer) (i : ℕ) (seen list : List Event)
    (mine : List (ℕ × Event)) (l : HasLooked inode (n + 1) seen list mine)
    (owns : mine ≡ own inode.settings.mode n p i h) where
  take_asks : (file : ℕ) (slot : Slot) → May inode (newest_first list) (deed.Take file)
      → IsBy (n + 1) (deed.Take file) (newest_first list)
      → ByCheck inode.settings.mode p h i file slot
      → AsksBy list (last_action inode.settings.mode p h) slot (deed.Take file)
  take_asks file slot m b r =
      let k = last_check_is inode.settings.mode n p i h file slot r in
      let here : last_check file (newest_first list) ≡ check_in file (reverse mine) =
      l.tells.check file
      (ap is_gone (own_stage inode (n + 1) seen list mine l file (b file (eq-eqb file file refl))
      ∙ m)) in
      let there : check_in file (reverse (own inode.settings.mode n p i h))
      ≡ last_check file (newest_first list) =
      ap (λ (xs : List (ℕ × Event)). check_in file (reverse xs)) (sym owns) ∙ sym here in (
        k.slot_is ∙ ap (λ (c : Check). slot_of c.func) there,
        k.action_is ∙ ap (λ (c : Check). c.action) there,
      )

  plain_asks : (checked : ActionValue) (slot : Slot) (admin : Bool) (j f : ℕ) (c : Call) (d : Deed)
      → IsStepOn i d (Some (Does j (deed_of admin c f))) → AsksBy list checked slot d
  plain_asks checked slot admin j f (call.Write fd from bytes) d e =
      subst (AsksBy list checked slot) e.1 tt
  plain_asks checked slot admin j f (call.SetAttr k name value) d e =
      subst (AsksBy list checked slot) e.1 tt
  plain_asks checked slot admin j f (call.SetMeta k change) d e =
      subst (AsksBy list checked slot) e.1 tt
  plain_asks checked slot admin j f c d e = subst (AsksBy list checked slot) e.1 tt

  no_asks : (checked : ActionValue) (slot : Slot) (c : Call) (admin : Bool) (d : Deed)
      → IsStepOn i d (Some (plain_step admin c)) → AsksBy list checked slot d
  no_asks checked slot (call.AddRule rule) true d e = absurd e
  no_asks checked slot (call.AddRule rule) false d e = absurd e
  no_asks checked slot (call.Post sem) admin d e = absurd e
  no_asks checked slot (call.Wait sem) admin d e = absurd e
  no_asks checked slot c admin d e = absurd e

  module _ (checked : ActionValue) (is : checked ≡ last_action inode.settings.mode p h) where
    take_row : (j f : ℕ) (slot : Slot) (d : Deed) → j ≡ i → deed.Take f ≡ d
        → May inode (newest_first list) d → IsBy (n + 1) d (newest_first list)
        → ByCheck inode.settings.mode p h j f slot → AsksBy list checked slot d
    take_row j f slot d a e m b r =
        subst (λ (x : Deed). May inode (newest_first list) x → IsBy (n + 1) x (newest_first list)
        → AsksBy list checked slot x) e
        (λ m2 b2. subst (λ (x : ActionValue). AsksBy list x slot (deed.Take f)) (sym is)
        (take_asks f slot m2 b2
        (subst (λ (k : ℕ). ByCheck inode.settings.mode p h k f slot) a r))) m b

    asks_row : (admin : Bool) (c : Call) (g : Progress) (d : Deed) (k : Ask)
        → May inode (newest_first list) d → IsBy (n + 1) d (newest_first list)
        → IsStepOn i d (Some (step_by admin c g k))
        → IfTake inode.settings.mode p h g.inode g.file k
        → AsksBy list checked (slot_in (Some k)) d
    asks_row admin c g d (ask.Take slot) m b e r = take_row g.inode g.file slot d e.0 e.1 m b r
    asks_row admin c g d ask.Count m b e r =
        subst (AsksBy list checked (slot_in (Some ask.Count))) e.1 tt
    asks_row admin c g d (ask.Check func mask) m b e r =
        subst (AsksBy list checked (slot_in (Some (ask.Check func mask)))) e.1 tt
    asks_row admin c g d ask.Chunk m b e r =
        subst (AsksBy list checked (slot_in (Some ask.Chunk))) e.1 tt
    asks_row admin c g d ask.Finish m b e r =
        subst (AsksBy list checked (slot_in (Some ask.Finish))) e.1 tt
    asks_row admin c g d (ask.Read from len) m b e r =
        subst (AsksBy list checked (slot_in (Some (ask.Read from len)))) e.1 tt
    asks_row admin c g d ask.Write m b e r =
        plain_asks checked (slot_in (Some ask.Write)) admin g.inode g.file c d e
    asks_row admin c g d (ask.Trunc len) m b e r =
        subst (AsksBy list checked (slot_in (Some (ask.Trunc len)))) e.1 tt
    asks_row admin c g d ask.SetAttr m b e r =
        plain_asks checked (slot_in (Some ask.SetAttr)) admin g.inode g.file c d e
    asks_row admin c g d ask.SetMeta m b e r =
        plain_asks checked (slot_in (Some ask.SetMeta)) admin g.inode g.file c d e
    asks_row admin c g d ask.Close m b e r =
        subst (AsksBy list checked (slot_in (Some ask.Close))) e.1 tt
    asks_row admin c g d ask.CloseTake m b e r =
        subst (AsksBy list checked (slot_in (Some ask.CloseTake))) e.1 tt
    asks_row admin c g d ask.CloseChunk m b e r =
        subst (AsksBy list checked (slot_in (Some ask.CloseChunk))) e.1 tt
    asks_row admin c g d ask.CloseFinish m b e r =
        subst (AsksBy list checked (slot_in (Some ask.CloseFinish))) e.1 tt
    asks_row admin c g d ask.Plain m b e r =
        no_asks checked (slot_in (Some ask.Plain)) c admin d e

    asks_call : (m : CallState) (d : Deed) (o : Option Call) → May inode (newest_first list) d
        → IsBy (n + 1) d (newest_first list) → IsStepOn i d (step_in p o m)
        → ((c : Call) → o ≡ Some c
        → IfTake inode.settings.mode p h (progress_of p.cred.admin c m).inode
        (progress_of p.cred.admin c m).file (progress_of p.cred.admin c m).due.ask)
        → AsksBy list checked
        (slot_in (option_map (λ (c : Call). (progress_of p.cred.admin c m).due.ask) o)) d
    asks_call m d None a b e r = absurd e
    asks_call m d (Some c) a b e r =
        asks_row p.cred.admin c (progress_of p.cred.admin c m) d
        (progress_of p.cred.admin c m).due.ask a b e (r c refl)

-- ---- all parts of readiness together

ready_at : (consts : WorldConsts) (t : Tasked) (h : List Answer) (i : ℕ) (s : InodeConsts)
    (q : Passed Event) (list : List Event) (d : Deed) (m : CallState) → HasPlayed consts t h
    → slice_get consts.each_inode i ≡ Some s → slice_get t.passes.inodes i ≡ Some q
    → HasLooked (inode_in consts s) (t.number + 1) q.seen list q.mine
    → (position (mode_in consts) t.task_state.program h).call_state ≡ m
    → HashesFor consts t.passes.inodes t.hash_state (step_at t.task_state.program m)
    → IsStepOn i d (step_at t.task_state.program m)
    → IsReady (inode_in consts s) (t.number + 1) list t.hash_state t.task_state.checked
    (slot_in (due_at t.task_state.program m)) d
ready_at consts t h i s q list d m x a b l same hashed e =
    let inode = inode_in consts s in
    let p = t.task_state.program in
    let own_is : q.mine ≡ own (mode_in consts) t.number p i h = x.events i q b in
    let owns : events_of t.number list ≡ own (mode_in consts) t.number p i h = l.own ∙ own_is in
    let fit = λ (k : ℕ) (c : Call) (z : slice_get p.calls k ≡ Some c). (x.calls k c z).0 in
    let may : MayMake inode i (newest_first list) (step_at p m) =
    subst (λ (y : CallState). MayMake inode i (newest_first list) (step_at p y)) same
    (next_step_may inode t.number p h i list fit l.legal.1 l.owned owns) in
    let by : StepBy i (t.number + 1) (newest_first list) (step_at p m) =
    subst (λ (y : CallState). StepBy i (t.number + 1) (newest_first list) (step_at p y)) same
    (next_is_by inode t.number p h i list fit l.legal.1 owns) in
    let both = may_of inode (t.number + 1) i (newest_first list) d (step_at p m) may by e in
    let takes : (c : Call) → call_at p m ≡ Some c
    → IfTake (mode_in consts) p h (progress_of p.cred.admin c m).inode
    (progress_of p.cred.admin c m).file (progress_of p.cred.admin c m).due.ask =
    subst (λ (y : CallState). (c : Call) → call_at p y ≡ Some c
    → IfTake (mode_in consts) p h (progress_of p.cred.admin c y).inode
    (progress_of p.cred.admin c y).file (progress_of p.cred.admin c y).due.ask) same
    (take_law (mode_in consts) p h) in
    record {
      may = both.0;
      by = both.1;
      hashes = hashes_still inode (t.number + 1) q.seen list q.mine l t.hash_state d both.0 both.1
          (x.placed i q b)
          (hashes_of consts t.passes.inodes t.hash_state i s q d (step_at p m) a b hashed e);
      asks = asks_call inode t.number p h i q.seen list q.mine l own_is t.task_state.checked
          x.checked m d (call_at p m) both.0 both.1 e takes;
    }

pub ready_by_look : ReadyByLook
ready_by_look consts t h i s q list d x a b l e =
    ready_at consts t h i s q list d t.task_state.position.call_state x a b l
    (ap (λ (y : Position). y.call_state) x.stands) x.hashed e

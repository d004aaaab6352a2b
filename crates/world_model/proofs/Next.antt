-- What a task must have hashed for the step that is due next.
use Rattle.std.proofs.Common.{◌≡◌, ℕ, Bool, true, false, List, Option, Some, None, refl, sym, subst}
use Rattle.std.specs.Prelude.{slice_get}
use Rattle.std.proofs.lemmas.Option.{same_Some}
use Rattle.grow_list.specs.Shown.{Passed}
use Rattle.inode_meta.specs.declared.appraisal.Mode.{Mode}
use Rattle.inode_events.specs.Inode.{Inode}
use Rattle.inode_events.specs.declared.deed.Deed.TheVariants as deed
use Rattle.inode_events.specs.declared.told.Event.{Event}
use Rattle.inode_events.specs.declared.told.Told.{Told}
use Rattle.inode_events.specs.declared.told.Told.TheVariants as told
use Rattle.call_steps.specs.Handles.{hand_of}
use Rattle.call_steps.specs.CallState.{CallState, Progress, Step, after_of, ask_of, begun, deed_of, moved, plain_step, progress_of, step_by}
use Rattle.call_steps.specs.CallState.{Does}
use Rattle.call_steps.specs.Steps.{course_of, next}
use Rattle.call_steps.specs.declared.ask.Ask.{Ask}
use Rattle.call_steps.specs.declared.ask.Ask.TheVariants as ask
use Rattle.call_steps.specs.declared.call.Call.{Call}
use Rattle.call_steps.specs.declared.call.Call.TheVariants as call
use Rattle.call_steps.specs.declared.due.Next.{Next}
use Rattle.call_steps.specs.declared.due.Next.TheVariants.{On, Over}
use Rattle.run_model.specs.History.{Answer, Position, call_at, resume, resume_in, step_at, step_in}
use Rattle.run_model.specs.Scene.{Program}
use Rattle.world_model.specs.WorldConsts.{InodeConsts, WorldConsts, inode_in}
use Rattle.world_model.specs.Tasks.{Collects, HashesFor, HasSummed, HasTakenIn}
use Rattle.inode_events.specs.NewestFirst.{newest_first}
use Rattle.world_model.specs.declared.hash_state.HashState.{HashState}
use Rattle.world_model.specs.Due.{HashesAfter, HashesAfterStep}
use Rattle.world_model.proofs.Rows.{Follows, HashesAfterAsk, HashesAsk, IsIdle, first_begins, row}

-- ---- what is hashed, by the ask and by its step

abbrev Takes : Inode → List Event → HashState → Type 0
Takes inode list g = Collects inode (newest_first list) (HasTakenIn g)

abbrev Sums : Inode → List Event → HashState → Type 0
Sums inode list g = Collects inode (newest_first list) (HasSummed g)

abbrev Hashes : Inode → List Event → HashState → Ask → Type 0
Hashes inode list g k = HashesAsk (Takes inode list g) (Sums inode list g) k

-- writes and changes of attributes hash nothing
plain_deed : (consts : WorldConsts) (passes : List (Passed Event)) (g : HashState) (admin : Bool)
    (i file : ℕ) (c : Call) → HashesFor consts passes g (Some (Does i (deed_of admin c file)))
plain_deed consts passes g admin i file (call.Write fd from bytes) = λ s q a b. tt
plain_deed consts passes g admin i file (call.SetAttr inode name value) = λ s q a b. tt
plain_deed consts passes g admin i file (call.SetMeta inode change) = λ s q a b. tt
plain_deed consts passes g admin i file c = λ s q a b. tt

no_deed : (consts : WorldConsts) (passes : List (Passed Event)) (g : HashState) (c : Call)
    (b : Bool) → HashesFor consts passes g (Some (plain_step b c))
no_deed consts passes g (call.AddRule rule) true = tt
no_deed consts passes g (call.AddRule rule) false = tt
no_deed consts passes g (call.Post sem) b = tt
no_deed consts passes g (call.Wait sem) b = tt
no_deed consts passes g c b = tt

pub by_ask : (consts : WorldConsts) (passes : List (Passed Event)) (g : HashState) (admin : Bool)
    (c : Call) (p : Progress) (k : Ask)
    → ((s : InodeConsts) (q : Passed Event) → slice_get consts.each_inode p.inode ≡ Some s
    → slice_get passes p.inode ≡ Some q → Hashes (inode_in consts s) q.seen g k)
    → HashesFor consts passes g (Some (step_by admin c p k))
by_ask consts passes g admin c p ask.Count x = λ s q a b. tt
by_ask consts passes g admin c p (ask.Check func mask) x = tt
by_ask consts passes g admin c p (ask.Take slot) x = λ s q a b. tt
by_ask consts passes g admin c p ask.Chunk x = x
by_ask consts passes g admin c p ask.Finish x = x
by_ask consts passes g admin c p (ask.Read from len) x = λ s q a b. tt
by_ask consts passes g admin c p ask.Write x = plain_deed consts passes g admin p.inode p.file c
by_ask consts passes g admin c p (ask.Trunc len) x = λ s q a b. tt
by_ask consts passes g admin c p ask.SetAttr x = plain_deed consts passes g admin p.inode p.file c
by_ask consts passes g admin c p ask.SetMeta x = plain_deed consts passes g admin p.inode p.file c
by_ask consts passes g admin c p ask.Close x = λ s q a b. tt
by_ask consts passes g admin c p ask.CloseTake x = λ s q a b. tt
by_ask consts passes g admin c p ask.CloseChunk x = x
by_ask consts passes g admin c p ask.CloseFinish x = x
by_ask consts passes g admin c p ask.Plain x = no_deed consts passes g c admin

idle_ask : (consts : WorldConsts) (s : InodeConsts) (q : Passed Event) (g : HashState) (k : Ask)
    → IsIdle k → Hashes (inode_in consts s) q.seen g k
idle_ask consts s q g (ask.Take slot) x = tt
idle_ask consts s q g ask.Chunk x = absurd x
idle_ask consts s q g ask.Finish x = absurd x
idle_ask consts s q g ask.CloseChunk x = absurd x
idle_ask consts s q g ask.CloseFinish x = absurd x
idle_ask consts s q g k x = tt

-- the hashing that a step leaves is the one that its ask leaves
after_ask : (consts : WorldConsts) (passes : List (Passed Event)) (g : HashState) (admin : Bool)
    (c : Call)
    (p : Progress) (t : Told) (k : Ask) → HashesAfterStep consts passes g (step_by admin c p k) t
    → (s : InodeConsts) (q : Passed Event) → slice_get consts.each_inode p.inode ≡ Some s
    → slice_get passes p.inode ≡ Some q
    → HashesAfterAsk (Takes (inode_in consts s) q.seen g) (Sums (inode_in consts s) q.seen g) k t
after_ask consts passes g admin c p t (ask.Take slot) x s q a b = take_after t (x s q a b) where
  take_after : (u : Told) → HashesAfter (inode_in consts s) q.seen g (deed.Take p.file) u
      → HashesAfterAsk (Takes (inode_in consts s) q.seen g) (Sums (inode_in consts s) q.seen g)
      (ask.Take slot) u
  take_after (told.Grant grant) y = y
  take_after u y = y
after_ask consts passes g admin c p t ask.Chunk x s q a b = chunk_after t (x s q a b) where
  chunk_after : (u : Told) → HashesAfter (inode_in consts s) q.seen g (deed.Chunk p.file) u
      → HashesAfterAsk (Takes (inode_in consts s) q.seen g) (Sums (inode_in consts s) q.seen g)
      ask.Chunk u
  chunk_after told.More y = y
  chunk_after u y = y
after_ask consts passes g admin c p t ask.CloseTake x s q a b = close_after t (x s q a b) where
  close_after : (u : Told) → HashesAfter (inode_in consts s) q.seen g (deed.CloseTake p.file) u
      → HashesAfterAsk (Takes (inode_in consts s) q.seen g) (Sums (inode_in consts s) q.seen g)
      ask.CloseTake u
  close_after told.Begun y = y
  close_after u y = y
after_ask consts passes g admin c p t ask.CloseChunk x s q a b = chunk_after t (x s q a b) where
  chunk_after : (u : Told) → HashesAfter (inode_in consts s) q.seen g (deed.CloseChunk p.file) u
      → HashesAfterAsk (Takes (inode_in consts s) q.seen g) (Sums (inode_in consts s) q.seen g)
      ask.CloseChunk u
  chunk_after told.More y = y
  chunk_after u y = y
after_ask consts passes g admin c p t k x s q a b = tt

-- ---- the state after a step

module _ (consts : WorldConsts) (passes : List (Passed Event)) (g : HashState) (p : Program) where
  -- a call that begins needs no hashing
  pub begins : (m : CallState) (o : Option Call)
      → HashesFor consts passes g (step_in p o (record m { progress = None }))
  begins m None = tt
  begins m (Some c) =
      let b = begun p.cred.admin m.handles c in
      by_ask consts passes g p.cred.admin c b b.due.ask
      (λ s q x y. idle_ask consts s q g b.due.ask
      (first_begins c (hand_of p.cred.admin m.handles c)).0)

  hashes_moved : (c : Call) (m : CallState) (gg : Progress) (place : ℕ) (n : Next) (k : Ask)
      → call_at p m ≡ Some c
      → ((s : InodeConsts) (q : Passed Event) → slice_get consts.each_inode gg.inode ≡ Some s
      → slice_get passes gg.inode ≡ Some q
      → Follows (course_of c) k (Takes (inode_in consts s) q.seen g)
      (Sums (inode_in consts s) q.seen g) n)
      → HashesFor consts passes g (step_at p (moved c m gg place n).0)
  hashes_moved c m gg place (Over r) k e x =
      let after : CallState = (moved c m gg place (Over r)).0 in begins after (call_at p after)
  hashes_moved c m gg place (On d) k e x =
      let after : CallState = (moved c m gg place (On d)).0 in
      subst (λ (o : Option Call). HashesFor consts passes g (step_in p o after)) (sym e)
      (by_ask consts passes g p.cred.admin c (progress_of p.cred.admin c after) d.ask
      (λ s q a b. (x s q a b).hashes))

  -- what is hashed suits the step that comes next
  hashes_next : (mode : Mode) (c : Call) (m : CallState) (a : Answer) → call_at p m ≡ Some c
      → HashesAfterStep consts passes g (ask_of p.cred.admin c m) a.told
      → HashesFor consts passes g
      (step_at p (after_of mode p.cred.admin c m a.place a.told a.action).0)
  hashes_next mode c m a e x =
      let gg = progress_of p.cred.admin c m in
      hashes_moved c m gg a.place (next mode c gg.due a.told a.action) gg.due.ask e
      (λ s q y z. row mode (course_of c) gg.due.reply a.action (Takes (inode_in consts s) q.seen g)
      (Sums (inode_in consts s) q.seen g) gg.due.ask a.told
      (after_ask consts passes g p.cred.admin c gg a.told gg.due.ask x s q y z))

  resumed_hashes : (mode : Mode) (t : Position) (a : Answer) (step : Step) (o : Option Call)
      → call_at p t.call_state ≡ o → step_in p o t.call_state ≡ Some step
      → HashesAfterStep consts passes g step a.told
      → HashesFor consts passes g (step_at p (resume_in mode p o t a).call_state)
  resumed_hashes mode t a step None e f x = absurd (cc)
  resumed_hashes mode t a step (Some c) e f x =
      hashes_next mode c t.call_state a e
      (subst (λ (s : Step). HashesAfterStep consts passes g s a.told)
      (sym (same_Some (ask_of p.cred.admin c t.call_state) step f)) x)

  pub hashes_resumed : (mode : Mode) (t : Position) (a : Answer) (step : Step)
      → step_at p t.call_state ≡ Some step → HashesAfterStep consts passes g step a.told
      → HashesFor consts passes g (step_at p (resume mode p t a).call_state)
  hashes_resumed mode t a step f x =
      resumed_hashes mode t a step (call_at p t.call_state) refl f x

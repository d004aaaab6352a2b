-- The conditions on a task's files imply that its next step may be made.
use Rattle.std.proofs.Common.{◌≡◌, ℕ, ◌+◌, Bool, true, false, List, Option, Some, None, refl, sym, ◌∙◌, ap, subst}
use Rattle.std.specs.Prelude.{reverse}
use Rattle.inode_events.specs.Files.{can_read, held, holds, is_writer}
use Rattle.inode_events.specs.Inode.{Inode}
use Rattle.inode_events.specs.Legal.{EachFollows, May}
use Rattle.inode_events.specs.NewestFirst.{newest_first}
use Rattle.inode_events.specs.declared.deed.How.{How}
use Rattle.inode_events.specs.declared.told.Event.{Event}
use Rattle.call_steps.specs.CallState.{CallState, deed_of, plain_step, progress_of, step_by}
use Rattle.call_steps.specs.declared.ask.Ask.{Ask}
use Rattle.call_steps.specs.declared.ask.Ask.TheVariants as ask
use Rattle.call_steps.specs.declared.call.Call.{Call}
use Rattle.call_steps.specs.declared.call.Call.TheVariants as call
use Rattle.call_steps.specs.declared.held.Handle.{Handle}
use Rattle.call_steps.specs.declared.reply.Reply.{Reply}
use Rattle.journal_laws.specs.Own.{IsOwned, own_past}
use Rattle.journal_laws.proofs.Bridge.{own_bridge}
use Rattle.journal_laws.proofs.Owning.{stage_own}
use Rattle.run_model.specs.History.{call_at, own, position, step_in}
use Rattle.run_model.specs.Scene.{Program}
use Rattle.run_laws.specs.progress.NextSteps.{IsFit, MayMake, NextMay}
use Rattle.run_laws.proofs.progress.Ready.{At, IsAttr, IsWrite, Mine, Ready, mk}
use Rattle.run_laws.proofs.progress.Owning.{AreGood, how_in, own_counter, own_good, own_held}
use Rattle.run_laws.proofs.progress.Going.{Fits, fits_history, ready_now}
use Rattle.inode_events.specs.Stage.{Asked, CloseCollected, CloseCollecting, Collected, Collecting, Settled, Stage, is_gone, may_check, stage, stage_in}

is_alive : (l m : Stage) → l ≡ m → is_gone m ≡ false → is_gone l ≡ false
is_alive l m e a = ap is_gone e ∙ a

module _ (inode : Inode) (n : ℕ) (p : List Event) (legal : EachFollows inode p)
    (owned : IsOwned p) where
  abbrev Lives : ℕ → Stage
  Lives f = stage_in inode f (own_past n p)

  abbrev Hows : ℕ → Option How
  Hows f = how_in f (own_past n p)

  known : (f : ℕ) (h : How) → Hows f ≡ Some h → stage inode f p ≡ Lives f
  known f h w = stage_own inode n f p owned (own_counter n f p h w)

  module _ (admin : Bool) (c : Call) (fit : IsFit c) (r : Reply) (step gi gf : ℕ) (hw : How)
      (hs : List Handle) (i : ℕ) where
    stands : (l : Stage) → Mine c gi gf hw hs i Lives Hows → At gi gf i Lives l → gi ≡ i
        → stage inode gf p ≡ l
    stands l m s e = known gf hw (m.0 e) ∙ s e

    opened : (l : Stage) → is_gone l ≡ false → Mine c gi gf hw hs i Lives Hows → At gi gf i Lives l
        → gi ≡ i → held gf p ≡ Some hw
    opened l a m s e =
        own_held inode n gf p hw legal (m.0 e) (is_alive (stage inode gf p) l (stands l m s e) a)

    write_may : (x : Call) → IsFit x → IsWrite x → Mine c gi gf hw hs i Lives Hows
        → is_writer hw ≡ true → At gi gf i Lives Settled → gi ≡ i → May inode p (deed_of admin x gf)
    write_may (call.Write fd from bytes) f w m b s e =
        (stands Settled m s e, ap (holds is_writer) (opened Settled refl m s e) ∙ b, f)
    write_may x f w m b s e = absurd w

    attr_may : (x : Call) → IsAttr x → May inode p (deed_of admin x gf)
    attr_may (call.SetAttr j name value) w = tt
    attr_may (call.SetMeta j change) w = tt
    attr_may x w = absurd w

    plain_may : (x : Call) (b : Bool) → MayMake inode i p (Some (plain_step b x))
    plain_may (call.AddRule rule) true = tt
    plain_may (call.AddRule rule) false = tt
    plain_may (call.Post sem) b = tt
    plain_may (call.Wait sem) b = tt
    plain_may x b = tt

    may_make : (k : Ask) → Ready c k r gi gf hw hs i Lives Hows
        → MayMake inode i p (Some (step_by admin c (mk k r step gi gf hw) k))
    may_make ask.Count a = λ e. tt
    may_make (ask.Check func mask) a =
        λ e action rules. ap may_check (known gf hw (a.0.0 e)) ∙ a.2 e
    may_make (ask.Take slot) a = stands Asked a.0 a.2
    may_make ask.Chunk a = stands Collecting a.0 a.2
    may_make ask.Finish a = stands Collected a.0 a.2
    may_make (ask.Read from len) a =
        λ e. (stands Settled a.0 a.2 e, ap (holds can_read) (opened Settled refl a.0 a.2 e) ∙ a.1)
    may_make ask.Write a = write_may c fit a.1.1 a.0 a.1.0 a.2
    may_make (ask.Trunc len) a =
        λ e. (stands Settled a.0 a.2 e, ap (holds is_writer) (opened Settled refl a.0 a.2 e) ∙ a.1)
    may_make ask.SetAttr a = λ e. attr_may c a.0
    may_make ask.SetMeta a = λ e. attr_may c a.0
    may_make ask.Close a =
        λ e. (
          stands Settled a.0 a.2 e,
          ap (holds is_writer) (opened Settled refl a.0 a.2 e)
              ∙ a.1.0,
        )
    may_make ask.CloseTake a =
        λ e. (
          stands Settled a.0 a.2 e,
          ap (holds is_writer) (opened Settled refl a.0 a.2 e)
              ∙ a.1.0,
        )
    may_make ask.CloseChunk a = stands CloseCollecting a.0 a.2
    may_make ask.CloseFinish a = stands CloseCollected a.0 a.2
    may_make ask.Plain a = plain_may c admin

  may_call : (prog : Program) (m : CallState) (i : ℕ) (o : Option Call) → call_at prog m ≡ o
      → ((c : Call) → o ≡ Some c → IsFit c) → Fits prog m i Lives Hows
      → MayMake inode i p (step_in prog o m)
  may_call prog m i None e fit f = tt
  may_call prog m i (Some c) e fit f =
      may_make prog.cred.admin c (fit c refl) (progress_of prog.cred.admin c m).due.reply
      (progress_of prog.cred.admin c m).step (progress_of prog.cred.admin c m).inode
      (progress_of prog.cred.admin c m).file
      (progress_of prog.cred.admin c m).how m.handles i (progress_of prog.cred.admin c m).due.ask
      (ready_now prog m i Lives Hows c e f)

pub next_step_may : NextMay
next_step_may inode n p h i journal fit legal owned owns =
    let same : own_past (n + 1) (newest_first journal) ≡ reverse (own inode.settings.mode n p i h) =
    own_bridge (n + 1) journal ∙ ap reverse owns in
    may_call inode (n + 1) (newest_first journal) legal owned p
    (position inode.settings.mode p h).call_state i
    (call_at p (position inode.settings.mode p h).call_state) refl
    (fit (position inode.settings.mode p h).call_state.at)
    (subst (λ (xs : List (ℕ × Event)). Fits p (position inode.settings.mode p h).call_state i
    (λ f. stage_in inode f xs) (λ f. how_in f xs))
    (sym (own_bridge (n + 1) journal ∙ ap reverse owns))
    (fits_history inode n p i fit h (subst AreGood (own_bridge (n + 1) journal ∙ ap reverse owns)
    (own_good inode (n + 1) (newest_first journal) legal))))

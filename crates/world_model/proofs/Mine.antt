-- The step that is due is on a file of the task's own, in the state that its deed requires.
use Rattle.std.proofs.Common.{◌≡◌, ℕ, ◌+◌, Bool, true, false, List, Option, Some, None, refl, sym, ◌∙◌, ap, subst}
use Rattle.std.specs.Prelude.{◌==◌, reverse, slice_get}
use Rattle.std.proofs.lemmas.Bool.{eqb-true}
use Rattle.inode_events.specs.Checks.{no_action}
use Rattle.inode_events.specs.Inode.{Inode}
use Rattle.inode_events.specs.Legal.{EachFollows}
use Rattle.inode_events.specs.NewestFirst.{newest_first}
use Rattle.inode_events.specs.Stage.{Stage, stage_in}
use Rattle.inode_events.specs.declared.deed.Deed.TheVariants as deed
use Rattle.inode_events.specs.declared.deed.How.{How}
use Rattle.inode_events.specs.declared.told.Event.{Event}
use Rattle.call_steps.specs.CallState.{CallState, Step, deed_of, plain_step, progress_of, step_by}
use Rattle.call_steps.specs.CallState.{Does, Checks}
use Rattle.call_steps.specs.declared.ask.Ask.{Ask}
use Rattle.call_steps.specs.declared.ask.Ask.TheVariants as ask
use Rattle.call_steps.specs.declared.call.Call.{Call}
use Rattle.call_steps.specs.declared.call.Call.TheVariants as call
use Rattle.call_steps.specs.declared.held.Handle.{Handle}
use Rattle.call_steps.specs.declared.reply.Reply.{Reply}
use Rattle.world_model.specs.laws_of_journals.Own.{IsBy, counter, own_past}
use Rattle.world_model.proofs.laws_of_journals.Bridge.{own_bridge}
use Rattle.run_model.specs.History.{Answer, call_at, own, position, step_in}
use Rattle.run_model.specs.Scene.{Program}
use Rattle.run_model.specs.Served.{events_of}
use Rattle.world_model.specs.laws_of_progress.NextSteps.{IsFit}
use Rattle.world_model.proofs.laws_of_progress.Ready.{IsAttr, IsWrite, Mine, Ready, mk}
use Rattle.world_model.proofs.laws_of_progress.Owning.{AreGood, how_in, own_counter, own_good}
use Rattle.world_model.proofs.laws_of_progress.Going.{Fits, fits_history, ready_now}

-- the step on this inode is on files of this caller
abbrev pub StepBy : ℕ → ℕ → List Event → Option Step → Type 0
StepBy i n p (Some (Does j d)) = j ≡ i → IsBy n d p
StepBy i n p (Some (Checks j file func mask)) =
    j ≡ i → IsBy n (deed.Check file func no_action 0) p
StepBy i n p _ = Unit {0}

module _ (inode : Inode) (n : ℕ) (p : List Event) where
  abbrev pub Lives : ℕ → Stage
  Lives f = stage_in inode f (own_past n p)

  abbrev pub Hows : ℕ → Option How
  Hows f = how_in f (own_past n p)

  module _ (admin : Bool) (c : Call) (r : Reply) (step gi gf : ℕ) (hw : How) (hs : List Handle)
      (i : ℕ) where
    by_file : Mine c gi gf hw hs i Lives Hows → gi ≡ i → (f : ℕ) → (gf == f) ≡ true
        → counter f p ≡ Some n
    by_file m e f b =
        subst (λ (k : ℕ). counter k p ≡ Some n) (eqb-true gf f b)
        (own_counter n gf p hw (m.0 e))

    no_file : (f : ℕ) → false ≡ true → counter f p ≡ Some n
    no_file f b = absurd (cc)

    write_by : (x : Call) → IsWrite x → Mine c gi gf hw hs i Lives Hows
        → gi ≡ i → IsBy n (deed_of admin x gf) p
    write_by (call.Write fd from bytes) w m e = by_file m e
    write_by x w m e = absurd w

    attr_by : (x : Call) → IsAttr x → IsBy n (deed_of admin x gf) p
    attr_by (call.SetAttr j name value) w = no_file
    attr_by (call.SetMeta j change) w = no_file
    attr_by x w = absurd w

    plain_by : (x : Call) (b : Bool) → StepBy i n p (Some (plain_step b x))
    plain_by (call.AddRule rule) true = tt
    plain_by (call.AddRule rule) false = tt
    plain_by (call.Post sem) b = tt
    plain_by (call.Wait sem) b = tt
    plain_by x b = tt

    pub step_is_by : (k : Ask) → Ready c k r gi gf hw hs i Lives Hows
        → StepBy i n p (Some (step_by admin c (mk k r step gi gf hw) k))
    step_is_by ask.Count a = λ e. no_file
    step_is_by (ask.Check func mask) a = by_file a.0
    step_is_by (ask.Take slot) a = by_file a.0
    step_is_by ask.Chunk a = by_file a.0
    step_is_by ask.Finish a = by_file a.0
    step_is_by (ask.Read from len) a = by_file a.0
    step_is_by ask.Write a = write_by c a.1.1 a.0
    step_is_by (ask.Trunc len) a = by_file a.0
    step_is_by ask.SetAttr a = λ e. attr_by c a.0
    step_is_by ask.SetMeta a = λ e. attr_by c a.0
    step_is_by ask.Close a = by_file a.0
    step_is_by ask.CloseTake a = by_file a.0
    step_is_by ask.CloseChunk a = by_file a.0
    step_is_by ask.CloseFinish a = by_file a.0
    step_is_by ask.Plain a = plain_by c admin

  call_by : (prog : Program) (m : CallState) (i : ℕ) (o : Option Call) → call_at prog m ≡ o
      → Fits prog m i Lives Hows → StepBy i n p (step_in prog o m)
  call_by prog m i None e f = tt
  call_by prog m i (Some c) e f =
      step_is_by prog.cred.admin c (progress_of prog.cred.admin c m).due.reply
      (progress_of prog.cred.admin c m).step (progress_of prog.cred.admin c m).inode
      (progress_of prog.cred.admin c m).file (progress_of prog.cred.admin c m).how m.handles i
      (progress_of prog.cred.admin c m).due.ask (ready_now prog m i Lives Hows c e f)

-- the journal has the task's files in the states that its history gives them
pub files_fit : (inode : Inode) (n : ℕ) (p : Program) (h : List Answer) (i : ℕ)
    (journal : List Event) → ((k : ℕ) (c : Call) → slice_get p.calls k ≡ Some c → IsFit c)
    → EachFollows inode (newest_first journal)
    → events_of n journal ≡ own inode.settings.mode n p i h
    → Fits p (position inode.settings.mode p h).call_state i
    (Lives inode (n + 1) (newest_first journal)) (Hows inode (n + 1) (newest_first journal))
files_fit inode n p h i journal fit legal owns =
    subst (λ (xs : List (ℕ × Event)). Fits p (position inode.settings.mode p h).call_state i
    (λ f. stage_in inode f xs) (λ f. how_in f xs))
    (sym (own_bridge (n + 1) journal ∙ ap reverse owns))
    (fits_history inode n p i fit h (subst AreGood (own_bridge (n + 1) journal ∙ ap reverse owns)
    (own_good inode (n + 1) (newest_first journal) legal)))

pub next_is_by : (inode : Inode) (n : ℕ) (p : Program) (h : List Answer) (i : ℕ)
    (journal : List Event) → ((k : ℕ) (c : Call) → slice_get p.calls k ≡ Some c → IsFit c)
    → EachFollows inode (newest_first journal)
    → events_of n journal ≡ own inode.settings.mode n p i h
    → StepBy i (n + 1) (newest_first journal)
    (step_in p (call_at p (position inode.settings.mode p h).call_state)
    (position inode.settings.mode p h).call_state)
next_is_by inode n p h i journal fit legal owns =
    call_by inode (n + 1) (newest_first journal) p (position inode.settings.mode p h).call_state i
    (call_at p (position inode.settings.mode p h).call_state) refl
    (files_fit inode n p h i journal fit legal owns)

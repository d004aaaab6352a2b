-- A step without an answer has added nothing of its task.
use Rattle.std.proofs.Common.{◌≡◌, ℕ, List, [], map, Option, Some, None, ◌∙◌, ap, subst}
use Rattle.std.specs.Prelude.{Result, slice_get}
use Rattle.std.proofs.lemmas.List.{append-nil}
use Rattle.grow_list.specs.Shown.{Passed}
use Rattle.inode_meta.specs.declared.identity.Cred.{Cred}
use Rattle.inode_meta.specs.declared.step.Who.{Who}
use Rattle.inode_events.specs.NewestFirst.{newest_first}
use Rattle.inode_events.specs.State.{metadata}
use Rattle.inode_events.specs.declared.deed.Deed.{Deed}
use Rattle.inode_events.specs.declared.told.Event.{Event}
use Rattle.inode_events.specs.declared.told.Told.{Told}
use Rattle.run_model.specs.Scene.{rules_with}
use Rattle.run_model.specs.Turns.{State}
use Rattle.task_steps.specs.declared.listed.Checks.{Checks}
use Rattle.world_close.specs.worlds.WorldConsts.{InodeConsts, WorldConsts, scene_of, super_at}
use Rattle.world_close.specs.worlds.Tasks.{PassesValue}
use Rattle.world_close.specs.worlds.declared.hash_state.HashState.{HashState}
use Rattle.world_close.specs.worlds.declared.hash_state.HashState.TheVariants as hash_state
use Rattle.task_steps.specs.worlds.Events.{EventOn}
use Rattle.task_steps.proofs.Lists.{map_same}
use Rattle.task_steps.specs.Acting.{EventIn, told_in}
use Rattle.task_steps.specs.Checking.{CheckIn, check_by}
use Rattle.task_steps.specs.Sharing.{SignalsOn}
use Rattle.task_steps.specs.declared.answers.StepResult.{StepResult}
use Rattle.world_locks.specs.Met.{CheckMet, EventMet, SignalsMet, mine_of, mines_of, state_seen}

event_on_idle : (consts : WorldConsts) (i : ℕ) (s : InodeConsts) (who : Who) (d : Deed)
    (old new : State) (passes passes2 : PassesValue) (g g2 : HashState)
    → EventOn consts i s who d old new passes passes2 g g2 None
    → mines_of passes2 ≡ mines_of passes
event_on_idle consts i s who d old new passes passes2 g g2 e =
    let journals : map mine_of passes2.inodes ≡ map mine_of passes.inodes =
    ap (λ (qs : List (Passed Event)). map mine_of qs) e.inodes
    ∙ map_same mine_of passes.inodes i e.pass e.pass2 e.pass_at
    (e.mine ∙ append-nil e.pass.mine) in
    λ k. record {
      journals = journals k;
      list = (e.book.mine ∙ append-nil passes.book.mine) k;
      signals = ap (λ (q : Passed Event). q.mine) e.sems k;
      added = (e.rules.mine ∙ append-nil passes.rules.mine) k;
    }

event_in_idle : (consts : WorldConsts) (i : ℕ) (x : Option InodeConsts) (who : Who) (d : Deed)
    (old new : State) (passes passes2 : PassesValue) (g g2 : HashState)
    → EventIn consts i x who d old new passes passes2 g g2 None
    → mines_of passes2 ≡ mines_of passes
event_in_idle consts i None who d old new passes passes2 g g2 e =
    ap (λ (p : PassesValue). mines_of p) e.left
event_in_idle consts i (Some s) who d old new passes passes2 g g2 e =
    event_on_idle consts i s who d old new passes passes2 g g2 e

pub event_idle : {E : Type 0} (consts : WorldConsts) (i : ℕ) (who : Who) (d : Deed)
    (passes passes2 : PassesValue) (g g2 : HashState) (r : Result (Option StepResult) E)
    → EventMet consts i who d passes passes2 g g2 r → told_in r ≡ None
    → mines_of passes2 ≡ mines_of passes
event_idle consts i who d passes passes2 g g2 r m e =
    event_in_idle consts i (slice_get consts.each_inode i) who d m.old (state_seen passes2)
    passes passes2 g g2
    (subst (λ (o : Option Told). EventIn consts i (slice_get consts.each_inode i) who d m.old
    (state_seen passes2) passes passes2 g g2 o) e m.event)

check_in_idle : {E : Type 0} (consts : WorldConsts) (i : ℕ) (x : Option InodeConsts) (who : Who)
    (cred : Cred) (asked : Checks) (old new : State) (passes passes2 : PassesValue) (g : HashState)
    (r : Result (Option StepResult) E)
    → CheckIn consts i x who cred asked old new passes passes2 g r
    → told_in r ≡ None → mines_of passes2 ≡ mines_of passes
check_in_idle consts i None who cred asked old new passes passes2 g r c e =
    ap (λ (p : PassesValue). mines_of p) c.left
check_in_idle consts i (Some s) who cred asked old new passes passes2 g r c e =
    let d : Deed =
    check_by (rules_with (scene_of consts []) old.added) cred (super_at consts s.place)
    (metadata (newest_first c.journal)) asked in
    event_on_idle consts i s who d old new passes passes2 g g
    (subst (λ (o : Option Told). EventOn consts i s who d old new passes passes2 g g o) e c.event)

pub check_idle : {E : Type 0} (consts : WorldConsts) (i : ℕ) (who : Who) (cred : Cred)
    (asked : Checks) (passes passes2 : PassesValue) (r : Result (Option StepResult) E)
    → CheckMet consts i who cred asked passes passes2 r → told_in r ≡ None
    → mines_of passes2 ≡ mines_of passes
check_idle consts i who cred asked passes passes2 r m e =
    check_in_idle consts i (slice_get consts.each_inode i) who cred asked m.old
    (state_seen passes2) passes passes2
    hash_state.Idle r (m.check hash_state.Idle) e

pub signals_idle : {E : Type 0} (passes passes2 : PassesValue) (who : Who) (d : Deed)
    (r : Result (Option StepResult) E) → SignalsMet passes passes2 who d r → told_in r ≡ None
    → mines_of passes2 ≡ mines_of passes
signals_idle passes passes2 who d r m e =
    let x : SignalsOn m.old (state_seen passes2) passes passes2 who d None =
    subst (λ (o : Option Told). SignalsOn m.old (state_seen passes2) passes passes2 who d o) e
    m.signals in
    ap (λ (p : PassesValue). mines_of p) x.others
    ∙ ap (λ (xs : List (ℕ × Event)). record (mines_of passes) { signals = xs })
    (x.sems.mine ∙ append-nil passes.sems.mine)

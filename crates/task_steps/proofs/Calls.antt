-- What a step of a task can rely on at the inode of its number.
use Rattle.std.proofs.Common.{◌≡◌, ℕ, ◌+◌, ◌<◌, List, length, Option, Some, sym, ◌∙◌, ap, subst}
use Rattle.std.specs.Prelude.{IfOk, Result, Ok, Err, slice_get}
use Rattle.std.proofs.lemmas.Option.{same_Some}
use Rattle.grow_list.specs.Shown.{Grown, Passed}
use Rattle.ima_templates.specs.declared.entry.Entry.{Entry}
use Rattle.task_steps.specs.inodes.Acts.{MayBy}
use Rattle.inode_meta.specs.declared.appraisal.Slot.{Slot}
use Rattle.inode_events.specs.Asked.{outcome}
use Rattle.inode_events.specs.Inode.{Inode}
use Rattle.inode_events.specs.NewestFirst.{newest_first}
use Rattle.inode_events.specs.declared.deed.Deed.{Deed}
use Rattle.inode_events.specs.declared.settings.Settings.{Settings}
use Rattle.inode_events.specs.declared.told.Event.{Event}
use Rattle.policy_cell.specs.Policy.{PolicyValue}
use Rattle.policy_rules.specs.ActionValue.{ActionValue}
use Rattle.policy_rules.specs.declared.access.Super.{Super}
use Rattle.task_steps.specs.laws_of_runs.ScriptFiles.{CountsAll}
use Rattle.run_model.specs.Turns.{State}
use Rattle.task_steps.specs.worlds.WorldConsts.{WorldConsts, inode_in}
use Rattle.task_steps.specs.worlds.Tasks.{ArePassesOf, PassesValue}
use Rattle.task_steps.specs.worlds.World.{WorldInodeValue, inode_consts_of, journal_of}
use Rattle.task_steps.specs.worlds.declared.hash_state.HashState.{HashState}
use Rattle.task_steps.proofs.about_worlds.Eventing.{get_map}
use Rattle.task_steps.specs.worlds.Ready.{HasLooked, IsReady}
use Rattle.task_steps.specs.task_states.Steps.{deed_in}
use Rattle.task_steps.specs.task_states.declared.step.DueDeed.{DueDeed}
use Rattle.task_steps.specs.task_states.declared.step.DueDeed.TheVariants as due
use Rattle.task_steps.specs.Acting.{IsPlacedAt, IsSaid, ReadyAt, told_of}
use Rattle.world_model.specs.Parts.{AreParts, consts_by, state_by}
use Rattle.task_steps.specs.declared.answers.StepResult.{StepResult}

-- no deed other than a check counts rules
pub does_count : (n : ℕ) (x : DueDeed) → CountsAll n (deed_in x)
does_count n due.Birth = tt
does_count n (due.Count how) = tt
does_count n (due.Take file) = tt
does_count n (due.Chunk file) = tt
does_count n (due.Finish file) = tt
does_count n (due.Read file from len) = tt
does_count n (due.Write file from bytes) = tt
does_count n (due.Trunc file len) = tt
does_count n (due.SetAttr name value admin) = tt
does_count n (due.SetMeta change) = tt
does_count n (due.Close file) = tt
does_count n (due.CloseTake file) = tt
does_count n (due.CloseChunk file) = tt
does_count n (due.CloseFinish file) = tt

module _ (settings : Settings) (world_inodes : List WorldInodeValue) (supers : List Super)
    (book : Grown Entry) (sems : Grown Event) (rules : PolicyValue) (tasks i : ℕ)
    (st : WorldInodeValue)
    (parts : AreParts (consts_by settings world_inodes supers book sems rules tasks) world_inodes
    book sems rules) (there : slice_get world_inodes i ≡ Some st) where
  abbrev F : WorldConsts
  F = consts_by settings world_inodes supers book sems rules tasks

  abbrev S : State
  S = state_by world_inodes book sems rules

  inode_consts_there : slice_get F.each_inode i ≡ Some (inode_consts_of st)
  inode_consts_there = get_map inode_consts_of world_inodes i st there

  inode_same : st.cell.inode ≡ inode_in F (inode_consts_of st)
  inode_same =
      ap (λ (x : Settings). record {
        path = st.cell.inode.path;
        settings = x;
        birth = st.cell.inode.birth;
      }) (parts.world_inodes i st there).settings

  -- the inode's journal belongs to this measurement list
  pub found_book : st.cell.book ≡ book.name
  found_book = (parts.world_inodes i st there).book

  pub found_place : st.place < length supers
  found_place = (parts.world_inodes i st there).place

  pub found_rules : st.rules.name ≡ rules.appended.name
  found_rules = (parts.world_inodes i st there).rules_name

  -- the task's pass is of the inode's journal
  pub found_pass : (n : ℕ) (passes : PassesValue) (pass : Passed Event) → ArePassesOf F n passes
      → slice_get passes.inodes i ≡ Some pass
      → (pass.name ≡ st.cell.journal) × (pass.number ≡ n + 1)
  found_pass n passes pass a at = a.inodes i (inode_consts_of st) pass inode_consts_there at

  -- after a look the deed is ready
  pub found_ready : (n : ℕ) (passes : List (Passed Event)) (pass : Passed Event) (g : HashState)
      (action : ActionValue) (slot : Slot) (d : Deed) → slice_get passes i ≡ Some pass
      → pass.number ≡ n + 1 → ReadyAt F i passes n g action slot d
      → HasLooked st.cell.inode pass.number pass.seen st.cell.list pass.mine
      → IsReady st.cell.inode pass.number st.cell.list g action slot d
  found_ready n passes pass g action slot d at number ready looked =
      subst (λ (k : ℕ). IsReady st.cell.inode k st.cell.list g action slot d) (sym number)
      (subst (λ (x : Inode). IsReady x (n + 1) st.cell.list g action slot d) (sym inode_same)
      (ready (inode_consts_of st) pass st.cell.list inode_consts_there at
      (subst (λ (x : Inode). HasLooked x (n + 1) pass.seen st.cell.list pass.mine) inode_same
      (subst (λ (k : ℕ). HasLooked st.cell.inode k pass.seen st.cell.list pass.mine) number
      looked))))

  pub found_may : (n : ℕ) (passes : List (Passed Event)) (pass : Passed Event) (g : HashState)
      (action : ActionValue) (slot : Slot) (d : Deed) → slice_get passes i ≡ Some pass
      → pass.number ≡ n + 1 → ReadyAt F i passes n g action slot d
      → HasLooked st.cell.inode pass.number pass.seen st.cell.list pass.mine
      → MayBy st.cell pass.number d
  found_may n passes pass g action slot d at number ready looked =
      let is = found_ready n passes pass g action slot d at number ready looked in
      record { may = is.may; by = is.by }

  -- the answer on this inode, as an answer of the world
  said_of : (d : Deed) (o : Option StepResult)
      → told_of o ≡ outcome st.cell.inode book.list d (newest_first st.cell.list)
      → IsPlacedAt (length st.cell.list) o → IsSaid F i d S o
  said_of d o told at s journal here journal_here =
      let inode_consts : inode_consts_of st ≡ s =
      same_Some (inode_consts_of st) s (sym inode_consts_there ∙ here) in
      let list : st.cell.list ≡ journal =
      same_Some st.cell.list journal
      (sym (get_map journal_of world_inodes i st there) ∙ journal_here) in (
        told
            ∙ ap (λ (x : Inode). outcome x book.list d (newest_first st.cell.list))
            (inode_same ∙ ap (inode_in F) inode_consts)
            ∙ ap (λ (xs : List Event). outcome (inode_in F s) book.list d (newest_first xs)) list,
        subst (λ (xs : List Event). IsPlacedAt (length xs) o) list at,
      )

  pub found_said : {E : Type 0} (r : Result (Option StepResult) E) (d : Deed)
      → IfOk r (λ o. told_of o ≡ outcome st.cell.inode book.list d (newest_first st.cell.list))
      → IfOk r (λ o. IsPlacedAt (length st.cell.list) o) → IfOk r (λ o. IsSaid F i d S o)
  found_said (Ok o) d told at = said_of d o told at
  found_said (Err e) d told at = tt

-- A world and the passes of a task, unpacked at the inode of a number.
use Rattle.std.proofs.Common.{◌≡◌, ℕ, ◌+◌, ◌<◌, List, length, get_or, Option, Some, refl, sym, ◌∙◌, ap, subst, arith}
use Rattle.std.specs.Prelude.{IfOk, Result, slice_get, slice_set}
use Rattle.std.proofs.lemmas.List.{length-map}
use Rattle.grow_list.proofs.Prefixes.{prefix_refl}
use Rattle.grow_list.specs.Shown.{Grown, Passed}
use Rattle.ima_templates.specs.declared.entry.Entry.{Entry}
use Rattle.world_model.specs.inodes.Acts.{MayBy}
use Rattle.inode_events.specs.Asked.{outcome}
use Rattle.inode_events.specs.NewestFirst.{newest_first}
use Rattle.inode_events.specs.declared.deed.Deed.{Deed}
use Rattle.inode_events.specs.declared.settings.Settings.{Settings}
use Rattle.inode_events.specs.declared.told.Event.{Event}
use Rattle.inode_events.specs.declared.told.Told.{Told}
use Rattle.inode_meta.specs.declared.appraisal.Slot.{Slot}
use Rattle.inode_meta.specs.declared.step.Who.{Who}
use Rattle.policy_cell.specs.Policy.{PolicyValue}
use Rattle.policy_cell.specs.declared.cell.RuleEntry.{RuleEntry}
use Rattle.policy_rules.specs.ActionValue.{ActionValue}
use Rattle.policy_rules.specs.declared.access.Super.{Super}
use Rattle.world_model.specs.laws_of_runs.ScriptFiles.{CountsAll}
use Rattle.world_model.specs.WorldConsts.{WorldConsts}
use Rattle.world_model.specs.Tasks.{ArePassesOf, PassesValue}
use Rattle.world_model.specs.World.{WorldInodeValue, WorldValue, inode_consts_of}
use Rattle.world_model.specs.declared.hash_state.HashState.{HashState}
use Rattle.world_locks.proofs.about_worlds.Eventing.{adds_none}
use Rattle.world_locks.specs.worlds.Ready.{HasLooked, IsReady}
use Rattle.world_close.specs.Closed.{AreSpares}
use Rattle.world_locks.proofs.about_acts.Calls.{found_may, found_pass, found_ready, found_said}
use Rattle.world_locks.proofs.about_acts.Looks.{at_index}
use Rattle.world_locks.proofs.about_acts.Lists.{consts_same, event_in, world_same}
use Rattle.world_locks.specs.acts.Acting.{EventIn, IsPlacedAt, IsSaid, ReadyAt, WorldInodeDid, told_of}
use Rattle.world_model.specs.Parts.{AreParts, consts_by, state_by}
use Rattle.world_locks.specs.acts.declared.answers.StepResult.{StepResult}

module _ (settings : Settings) (world_inodes : List WorldInodeValue) (supers : List Super)
    (book : Grown Entry) (sems : Grown Event) (rules : PolicyValue) (tasks : ℕ)
    (parts : AreParts (consts_by settings world_inodes supers book sems rules tasks) world_inodes
    book sems rules) (w : WorldValue)
    (view : ◌≡◌ {A = WorldValue} (record {
      consts = consts_by settings world_inodes supers book sems rules tasks;
      state = state_by world_inodes book sems rules;
    }) w) (inodes : List (Passed Event)) (signals : Passed Event) (lists : Passed Entry)
    (own : Passed RuleEntry) (p : PassesValue)
    (passes_view : ◌≡◌ {A = PassesValue} (record {
      inodes = inodes;
      sems = signals;
      book = lists;
      rules = own;
    }) p) (n : ℕ) (are : ArePassesOf w.consts n p) (i : ℕ) (st : WorldInodeValue)
    (pass : Passed Event) (within : i < length world_inodes) (st_is : st ≡ get_or world_inodes i st)
    (pass_is : pass ≡ get_or inodes i pass) where
  abbrev F : WorldConsts
  F = consts_by settings world_inodes supers book sems rules tasks

  abbrev P : PassesValue
  P = record { inodes = inodes; sems = signals; book = lists; rules = own }

  -- the passes are those of the task
  pub open_passes : ArePassesOf F n P
  open_passes =
      subst (λ (x : WorldValue). ArePassesOf x.consts n P) (sym view)
      (subst (λ (q : PassesValue). ArePassesOf w.consts n q) (sym passes_view) are)

  -- the inode and the pass of its journal are at their places
  pub open_there : slice_get world_inodes i ≡ Some st
  open_there = at_index world_inodes i st st within st_is

  open_within : i < length inodes
  open_within =
      let even : length inodes ≡ length world_inodes =
      open_passes.even ∙ length-map world_inodes inode_consts_of in
      omega arith

  pub open_pass : slice_get inodes i ≡ Some pass
  open_pass = at_index inodes i pass pass open_within pass_is

  -- the task's pass is of the inode's journal, and has the task's number
  pub open_found : (pass.name ≡ st.cell.journal) × (pass.number ≡ n + 1)
  open_found =
      found_pass settings world_inodes supers book sems rules tasks i st parts open_there n P pass
      open_passes open_pass

  -- the inode's journal belongs to the measurement list
  pub open_book : st.cell.book ≡ book.name
  open_book = (parts.world_inodes i st open_there).book

  -- after a look the deed is ready, and may be done
  open_ready_at : (g : HashState) (action : ActionValue) (slot : Slot) (d : Deed)
      → ReadyAt w.consts i p.inodes n g action slot d → ReadyAt F i inodes n g action slot d
  open_ready_at g action slot d ready =
      subst (λ (x : WorldValue). ReadyAt x.consts i inodes n g action slot d) (sym view)
      (subst (λ (q : PassesValue). ReadyAt w.consts i q.inodes n g action slot d) (sym passes_view)
      ready)

  pub open_ready : (g : HashState) (action : ActionValue) (slot : Slot) (d : Deed)
      → ReadyAt w.consts i p.inodes n g action slot d
      → HasLooked st.cell.inode pass.number pass.seen st.cell.list pass.mine
      → IsReady st.cell.inode pass.number st.cell.list g action slot d
  open_ready g action slot d ready =
      found_ready settings world_inodes supers book sems rules tasks i st parts open_there n
      inodes pass g action slot d open_pass open_found.1 (open_ready_at g action slot d ready)

  pub open_may : (g : HashState) (action : ActionValue) (slot : Slot) (d : Deed)
      → ReadyAt w.consts i p.inodes n g action slot d
      → HasLooked st.cell.inode pass.number pass.seen st.cell.list pass.mine
      → MayBy st.cell pass.number d
  open_may g action slot d ready =
      found_may settings world_inodes supers book sems rules tasks i st parts open_there n
      inodes pass g action slot d open_pass open_found.1 (open_ready_at g action slot d ready)

  -- the world after the deed
  module _ (st2 : WorldInodeValue) (book2 : Grown Entry) (pass2 : Passed Event)
      (lists2 : Passed Entry) (who : Who) (d : Deed) (g g2 : HashState) (o : Option Told)
      (counts : CountsAll (length F.base + length st.rules.seen) d) (task : n ≡ who.task)
      (did : WorldInodeDid st st2 book book2 pass pass2 lists lists2 who d g g2 o) where
    abbrev world_inodes2 : List WorldInodeValue
    world_inodes2 = slice_set world_inodes i st2

    -- the constants stay the same
    pub done_consts : consts_by settings world_inodes2 supers book2 sems rules tasks ≡ F
    done_consts =
        consts_same settings world_inodes supers book book2 sems rules tasks i st st2 pass
        pass2 lists lists2 who d g g2 o parts open_there did

    pub done_view : consts_by settings world_inodes2 supers book2 sems rules tasks ≡ w.consts
    done_view = done_consts ∙ ap (λ (x : WorldValue). x.consts) view

    -- each part belongs to the constants
    pub done_parts : AreParts (consts_by settings world_inodes2 supers book2 sems rules tasks)
        world_inodes2 book2 sems rules
    done_parts =
        world_same settings world_inodes supers book book2 sems rules tasks i st st2 pass
        pass2 lists lists2 who d g g2 o parts open_there did counts

    -- the spare passes stay unused
    pub done_spares : (spares : List (Passed RuleEntry)) → AreSpares F spares
        → AreSpares (consts_by settings world_inodes2 supers book2 sems rules tasks) spares
    done_spares spares h = subst (λ (x : WorldConsts). AreSpares x spares) (sym done_consts) h

    -- the deed is one of the task on this world
    pub done_event : EventIn w.consts i (slice_get w.consts.each_inode i) who d w.state
        (state_by world_inodes2 book2 sems rules) p
        (record { inodes = slice_set inodes i pass2; sems = signals; book = lists2; rules = own })
        g g2 o
    done_event =
        let p2 : PassesValue =
        record { inodes = slice_set inodes i pass2; sems = signals; book = lists2; rules = own } in
        subst (λ (x : WorldValue). EventIn x.consts i (slice_get x.consts.each_inode i) who
        d x.state (state_by world_inodes2 book2 sems rules) p p2 g g2 o) view
        (subst (λ (q : PassesValue). EventIn F i (slice_get F.each_inode i) who d
        (state_by world_inodes book sems rules) (state_by world_inodes2 book2 sems rules) q p2 g
        g2 o) passes_view
        (event_in settings world_inodes supers book book2 sems rules tasks i st st2 pass pass2 lists
        lists2 who d g g2 o parts open_there did P p2 open_pass refl refl
        (adds_none own own refl) (prefix_refl own.seen) refl refl
        (open_found.1 ∙ ap (λ (k : ℕ). k + 1) task)))

  -- the outcome in the answer is the deed's
  pub done_said : {E : Type 0} (r : Result (Option StepResult) E) (d : Deed)
      → IfOk r (λ o. told_of o ≡ outcome st.cell.inode book.list d (newest_first st.cell.list))
      → IfOk r (λ o. IsPlacedAt (length st.cell.list) o)
      → IfOk r (λ o. IsSaid w.consts i d w.state o)
  done_said r d told at =
      subst (λ (x : WorldValue). IfOk r (λ o. IsSaid x.consts i d x.state o)) view
      (found_said settings world_inodes supers book sems rules tasks i st parts open_there r d
      told at)

-- A world and the passes of a task, unpacked at the inode of a number that is to be checked.
use Rattle.std.proofs.Common.{◌≡◌, ℕ, ◌+◌, ◌<◌, List, length, get_or, Option, Some, refl, sym, ◌∙◌, ap, subst}
use Rattle.std.specs.Prelude.{Result, slice_get, slice_set}
use Rattle.grow_list.specs.Shown.{Grown, Passed}
use Rattle.ima_templates.specs.declared.entry.Entry.{Entry}
use Rattle.world_model.specs.inodes.Acts.{MayBy}
use Rattle.world_model.specs.inodes.Value.{CellValue}
use Rattle.inode_events.specs.NewestFirst.{newest_first}
use Rattle.inode_events.specs.State.{metadata}
use Rattle.inode_events.specs.declared.deed.Deed.{Deed}
use Rattle.inode_events.specs.declared.settings.Settings.{Settings}
use Rattle.inode_events.specs.declared.told.Event.{Event}
use Rattle.inode_meta.specs.declared.appraisal.Slot.{Slot}
use Rattle.inode_meta.specs.declared.identity.Cred.{Cred}
use Rattle.inode_meta.specs.declared.step.Who.{Who}
use Rattle.policy_cell.specs.Policy.{PolicyValue, in_force}
use Rattle.policy_cell.specs.declared.cell.RuleEntry.{RuleEntry}
use Rattle.policy_rules.specs.ActionValue.{ActionValue}
use Rattle.policy_rules.specs.RuleValue.{RuleValue}
use Rattle.policy_rules.specs.declared.access.Super.{Super}
use Rattle.task_core.proofs.Checks.{RulesLooked, check_consts, check_in, check_parts, check_spares}
use Rattle.task_core.proofs.Opens.{open_book, open_found, open_may, open_pass}
use Rattle.world_locks.specs.acts.declared.listed.Checks.{Checks}
use Rattle.world_model.specs.WorldConsts.{WorldConsts}
use Rattle.world_model.specs.Tasks.{ArePassesOf, PassesValue}
use Rattle.world_model.specs.World.{WorldInodeValue, WorldValue}
use Rattle.world_model.specs.declared.hash_state.HashState.{HashState}
use Rattle.world_model.specs.declared.hash_state.HashState.TheVariants as hash_state
use Rattle.world_locks.specs.worlds.Ready.{HasLooked}
use Rattle.world_close.specs.Closed.{AreSpares}
use Rattle.world_locks.proofs.about_acts.Calls.{found_place, found_rules}
use Rattle.world_locks.proofs.about_acts.Looks.{at_index}
use Rattle.world_locks.specs.acts.Acting.{ReadyAt, WorldInodeDid, told_in}
use Rattle.world_locks.specs.acts.Checking.{CheckIn, IsChecked, check_by}
use Rattle.world_model.specs.Parts.{AreParts, consts_by, state_by}
use Rattle.world_locks.specs.acts.declared.answers.StepResult.{StepResult}

module _ (settings : Settings) (world_inodes : List WorldInodeValue) (supers : List Super)
    (book : Grown Entry) (sems : Grown Event) (rules : PolicyValue) (tasks : ℕ)
    (parts : AreParts (consts_by settings world_inodes supers book sems rules tasks) world_inodes
    book sems
    rules) (i : ℕ) (cell : CellValue) (seen : Passed RuleEntry) (place : ℕ)
    (opened : WorldInodeValue) (world_inode_view : ◌≡◌ {A = WorldInodeValue}
    (record { cell = cell; rules = seen; place = place }) opened)
    (within : i < length world_inodes) (opened_is : opened ≡ get_or world_inodes i opened) where
  abbrev F : WorldConsts
  F = consts_by settings world_inodes supers book sems rules tasks

  abbrev st : WorldInodeValue
  st = record { cell = cell; rules = seen; place = place }

  -- the unpacked inode is at its place
  st_is : st ≡ get_or world_inodes i st
  st_is = subst (λ (x : WorldInodeValue). x ≡ get_or world_inodes i x)
      (sym world_inode_view) opened_is

  there : slice_get world_inodes i ≡ Some st
  there = at_index world_inodes i st st within st_is

  -- the inode's pass of the rules belongs to the rules
  pub inspect_rules : seen.name ≡ rules.appended.name
  inspect_rules = found_rules settings world_inodes supers book sems rules tasks i st parts there

  -- the number of the inode's file system is within bounds
  pub inspect_place : place < length supers
  inspect_place = found_place settings world_inodes supers book sems rules tasks i st parts there

  module _ (w : WorldValue)
      (view : ◌≡◌ {A = WorldValue} (record {
        consts = consts_by settings world_inodes supers book sems rules tasks;
        state = state_by world_inodes book sems rules;
      }) w) (inodes : List (Passed Event)) (signals : Passed Event) (lists : Passed Entry)
      (own : Passed RuleEntry) (p : PassesValue)
      (passes_view : ◌≡◌ {A = PassesValue} (record {
        inodes = inodes;
        sems = signals;
        book = lists;
        rules = own;
      }) p) (n : ℕ) (are : ArePassesOf w.consts n p) (pass : Passed Event)
      (pass_is : pass ≡ get_or inodes i pass) where
    -- the task's pass is of the inode's journal, and has the task's number
    pub inspect_found : (pass.name ≡ cell.journal) × (pass.number ≡ n + 1)
    inspect_found =
        open_found settings world_inodes supers book sems rules tasks parts w view inodes
        signals lists own p passes_view n are i st pass within st_is pass_is

    -- the inode's journal belongs to the measurement list
    pub inspect_book : cell.book ≡ book.name
    inspect_book =
        open_book settings world_inodes supers book sems rules tasks parts w view inodes
        signals lists own p passes_view n are i st pass within st_is pass_is

    -- after a look the check may be made
    pub inspect_may : (action : ActionValue) (slot : Slot) (d : Deed)
        → ((g : HashState) → ReadyAt w.consts i p.inodes n g action slot d)
        → HasLooked cell.inode pass.number pass.seen cell.list pass.mine
        → MayBy cell pass.number d
    inspect_may action slot d ready =
        open_may settings world_inodes supers book sems rules tasks parts w view inodes
        signals lists
        own p passes_view n are i st pass within st_is pass_is hash_state.Idle action slot d
        (ready hash_state.Idle)

    -- the world after the check
    module _ {E : Type 0} (between rules2 : PolicyValue) (q own2 : Passed RuleEntry)
        (first : RulesLooked rules between seen q) (second : RulesLooked between rules2 own own2)
        (st2 : WorldInodeValue) (book2 : Grown Entry) (pass2 : Passed Event) (lists2 : Passed Entry)
        (who : Who) (task : n ≡ who.task) (cred : Cred) (asked : Checks) (file_system : Super)
        (index : List RuleValue) (r : Result (Option StepResult) E)
        (index_is : index ≡ in_force rules2)
        (place_is : file_system ≡ get_or supers place file_system)
        (did : (g : HashState) → WorldInodeDid (record {
          cell = cell;
          rules = q;
          place = place;
        }) st2
        book book2 pass pass2 lists lists2 who
        (check_by index cred file_system (metadata (newest_first cell.list)) asked) g g (told_in r))
        (told : IsChecked cell.inode cell.list book.list index cred file_system asked r) where
      abbrev world_inodes2 : List WorldInodeValue
      world_inodes2 = slice_set world_inodes i st2

      -- the constants stay the same
      pub inspected_consts : consts_by settings world_inodes2 supers book2 sems rules2 tasks
          ≡ w.consts
      inspected_consts =
          check_consts settings world_inodes supers book book2 sems rules between rules2 tasks i st
          st2 q
          pass pass2 lists lists2 own own2 who cred asked file_system index r parts there first
          second index_is place_is did told hash_state.Idle
          ∙ ap (λ (x : WorldValue). x.consts) view

      -- each part belongs to the constants
      pub inspected_parts : AreParts
          (consts_by settings world_inodes2 supers book2 sems rules2 tasks)
          world_inodes2 book2 sems rules2
      inspected_parts =
          check_parts settings world_inodes supers book book2 sems rules between rules2 tasks i st
          st2 q
          pass pass2 lists lists2 own own2 who cred asked file_system index r parts there first
          second index_is place_is did told hash_state.Idle

      -- the spare passes stay unused
      pub inspected_spares : (spares : List (Passed RuleEntry)) → AreSpares F spares
          → AreSpares (consts_by settings world_inodes2 supers book2 sems rules2 tasks) spares
      inspected_spares spares h =
          check_spares settings world_inodes supers book book2 sems rules between rules2 tasks i st
          st2 q
          pass pass2 lists lists2 own own2 who cred asked file_system index r parts there first
          second index_is place_is did told hash_state.Idle spares h

      -- the check is one of the task on this world
      pub inspected_check : (g : HashState)
          → CheckIn w.consts i (slice_get w.consts.each_inode i) who cred
          asked w.state (state_by world_inodes2 book2 sems rules2) p
          (record {
            inodes = slice_set inodes i pass2;
            sems = signals;
            book = lists2;
            rules = own2;
          }) g r
      inspected_check g =
          let before : PassesValue =
          record { inodes = inodes; sems = signals; book = lists; rules = own } in
          let after : PassesValue = record {
            inodes = slice_set inodes i pass2;
            sems = signals;
            book = lists2;
            rules = own2;
          } in
          let at = open_pass settings world_inodes supers book sems rules tasks parts w view inodes
          signals lists own p passes_view n are i st pass within st_is pass_is in
          subst (λ (x : WorldValue). CheckIn x.consts i (slice_get x.consts.each_inode i) who
          cred asked x.state (state_by world_inodes2 book2 sems rules2) p after g r) view
          (subst (λ (y : PassesValue). CheckIn F i (slice_get F.each_inode i) who cred asked
          (state_by world_inodes book sems rules) (state_by world_inodes2 book2 sems rules2) y after
          g r) passes_view
          (check_in settings world_inodes supers book book2 sems rules between rules2 tasks i st
          st2 q
          pass pass2 lists lists2 own own2 who cred asked file_system index r parts there first
          second index_is place_is did told before after at refl refl refl refl refl refl
          (inspect_found.1 ∙ ap (λ (k : ℕ). k + 1) task) g))

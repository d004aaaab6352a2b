-- A check on one inode of a world, after two looks at the appended rules.
use Rattle.std.proofs.Common.{◌≡◌, ℕ, zero, suc, ◌+◌, ◌<◌, List, [], ◌∷◌, ◌++◌, length, get_or, Option, Some, refl, sym, ◌∙◌, ap, subst}
use Rattle.std.specs.Prelude.{Result, slice_get, slice_set}
use Rattle.std.proofs.lemmas.Option.{get_or_from_slice_get}
use mathlib.Core.List.{IsPrefix}
use Rattle.grow_list.specs.Shown.{Grown, IsSameList, Passed}
use Rattle.ima_templates.specs.declared.entry.Entry.{Entry}
use Rattle.inode_events.specs.Inode.{Inode}
use Rattle.inode_events.specs.NewestFirst.{newest_first}
use Rattle.inode_events.specs.State.{metadata}
use Rattle.inode_events.specs.declared.deed.Deed.{Deed}
use Rattle.inode_events.specs.declared.settings.Settings.{Settings}
use Rattle.inode_events.specs.declared.told.Event.{Event}
use Rattle.inode_meta.specs.declared.identity.Cred.{Cred}
use Rattle.inode_meta.specs.declared.step.Who.{Who}
use Rattle.policy_cell.specs.Policy.{PolicyValue, in_force, rules_in}
use Rattle.policy_cell.specs.declared.cell.RuleEntry.{RuleEntry}
use Rattle.policy_rules.specs.RuleValue.{RuleValue}
use Rattle.policy_rules.specs.declared.access.Super.{Super}
use Rattle.world_model.specs.laws_of_runs.ScriptFiles.{CountsAll}
use Rattle.run_model.specs.Scene.{no_super, rules_with}
use Rattle.run_model.specs.Turns.{State}
use Rattle.task_core.proofs.Seen.{PassSees, same_twice, sees_alone, sees_more}
use Rattle.world_locks.specs.acts.declared.listed.Checks.{Checks}
use Rattle.world_model.specs.WorldConsts.{InodeConsts, WorldConsts, inode_in, scene_of, super_at}
use Rattle.world_model.specs.Tasks.{PassesValue}
use Rattle.world_model.specs.World.{WorldInodeValue, inode_consts_of, journal_of}
use Rattle.world_model.specs.declared.hash_state.HashState.{HashState}
use Rattle.world_locks.proofs.about_worlds.Eventing.{get_map, get_set}
use Rattle.world_locks.specs.worlds.Events.{EventOn}
use Rattle.world_locks.specs.worlds.Steps.{Adds}
use Rattle.world_close.specs.Closed.{AreSpares}
use Rattle.world_locks.proofs.about_acts.Looked.{consts_looked, force_count, parts_looked}
use Rattle.world_locks.proofs.about_acts.Looks.{at_index}
use Rattle.world_locks.proofs.about_acts.Lists.{consts_same, event_on, map_same, world_same}
use Rattle.world_locks.specs.acts.Acting.{WorldInodeDid, told_in}
use Rattle.world_locks.specs.acts.Checking.{CheckIn, IsChecked, check_by}
use Rattle.world_model.specs.Parts.{AreParts, consts_by, state_by}
use Rattle.world_locks.specs.acts.declared.answers.StepResult.{StepResult}

-- of two elements written at the same place the second is found there
set_set : {A : Type 0} (xs : List A) (i : ℕ) (a b : A)
    → slice_set (slice_set xs i a) i b ≡ slice_set xs i b
set_set [] i a b = refl
set_set (x ∷ xs) zero a b = refl
set_set (x ∷ xs) (suc i) a b = ap (λ ys. x ∷ ys) (set_set xs i a b)

-- the file system that was read at a place is the one of that number
super_is : (supers : List Super) (k : ℕ) (x : Super) → k < length supers → x ≡ get_or supers k x
    → x ≡ get_or supers k no_super
super_is supers k x l e =
    sym (get_or_from_slice_get supers k x no_super (at_index supers k x x l e))

-- a look of a pass at the appended rules, which leaves the rules as they were
pub record RulesLooked (rules rules2 : PolicyValue) (q q2 : Passed RuleEntry) : Type 0 where
  pub base : rules2.base ≡ rules.base
  pub look : PassSees rules.appended rules2.appended q q2

module _ {E : Type 0} (settings : Settings) (world_inodes : List WorldInodeValue)
    (supers : List Super)
    (book book2 : Grown Entry) (sems : Grown Event) (rules between rules2 : PolicyValue)
    (tasks i : ℕ) (st st2 : WorldInodeValue) (q : Passed RuleEntry) (pass pass2 : Passed Event)
    (listed listed2 : Passed Entry) (own own2 : Passed RuleEntry) (who : Who) (cred : Cred)
    (asked : Checks) (place : Super) (index : List RuleValue) (r : Result (Option StepResult) E)
    (parts : AreParts (consts_by settings world_inodes supers book sems rules tasks) world_inodes
    book sems rules) (there : slice_get world_inodes i ≡ Some st)
    (first : RulesLooked rules between st.rules q) (second : RulesLooked between rules2 own own2)
    (index_is : index ≡ in_force rules2) (place_is : place ≡ get_or supers st.place place)
    (did : (g : HashState) → WorldInodeDid (record st {
      rules = q;
    }) st2 book book2 pass pass2 listed
    listed2 who (check_by index cred place (metadata (newest_first st.cell.list)) asked) g g
    (told_in r))
    (told : IsChecked st.cell.inode st.cell.list book.list index cred place asked r) where
  abbrev F : WorldConsts
  F = consts_by settings world_inodes supers book sems rules tasks

  abbrev S : State
  S = state_by world_inodes book sems rules

  base : rules2.base ≡ rules.base
  base = second.base ∙ first.base

  list : IsSameList rules.appended rules2.appended
  list = same_twice rules.appended between.appended rules2.appended first.look.same second.look.same

  seen : q.seen ≡ rules2.appended.list
  seen = first.look.seen ∙ sym second.look.same.list

  more : IsPrefix st.rules.seen q.seen
  more = sees_more rules.appended between.appended st.rules q first.look

  -- the inode and the lists after the looks
  abbrev st1 : WorldInodeValue
  st1 = record st { rules = q }

  abbrev world_inodes1 : List WorldInodeValue
  world_inodes1 = slice_set world_inodes i st1

  -- the inode is at its place, and the world has the same constants and lists
  there1 : slice_get world_inodes1 i ≡ Some st1
  there1 = get_set world_inodes i st1 st there

  frame1 : consts_by settings world_inodes1 supers book sems rules2 tasks ≡ F
  frame1 = consts_looked settings world_inodes supers book sems rules rules2 tasks i st q
      parts there base list first.look.pass.0 first.look.pass.1 first.look.mine more

  parts1 : AreParts (consts_by settings world_inodes1 supers book sems rules2 tasks) world_inodes1
      book sems rules2
  parts1 = parts_looked settings world_inodes supers book sems rules rules2 tasks i st q parts there
      base list first.look.pass.0 first.look.pass.1 first.look.mine more

  state1 : state_by world_inodes1 book sems rules2 ≡ S
  state1 =
      ap (λ (js : List (List Event)). record S { journals = js; added = rules2.appended.list })
      (map_same journal_of world_inodes i st st1 there refl)
      ∙ ap (λ (xs : List RuleEntry). record S { added = xs }) list.list

  -- the check, by the rules that the looks found
  abbrev found : Deed
  found = check_by index cred place (metadata (newest_first st.cell.list)) asked

  -- the check counts all rules that the inode's pass has seen
  counts : CountsAll (length rules2.base + length q.seen) found
  counts =
      ap length index_is ∙ force_count rules2
      ∙ ap (λ (xs : List RuleEntry). length rules2.base + length xs) (sym seen)

  -- the inodes after the check
  abbrev world_inodes2 : List WorldInodeValue
  world_inodes2 = slice_set world_inodes i st2

  -- the inode was put back twice
  twice : slice_set world_inodes1 i st2 ≡ world_inodes2
  twice = set_set world_inodes i st1 st2

  -- the constants stay the same, each part belongs to them, and the spare passes stay unused
  pub check_consts : HashState → consts_by settings world_inodes2 supers book2 sems rules2 tasks ≡ F
  check_consts g =
      ap (λ (xs : List WorldInodeValue). consts_by settings xs supers book2 sems rules2 tasks)
      (sym twice)
      ∙ consts_same settings world_inodes1 supers book book2 sems rules2 tasks i st1 st2 pass pass2
      listed listed2 who found g g (told_in r) parts1 there1 (did g)
      ∙ frame1

  pub check_parts : HashState → AreParts
      (consts_by settings world_inodes2 supers book2 sems rules2 tasks) world_inodes2 book2
      sems rules2
  check_parts g =
      subst (λ (xs : List WorldInodeValue). AreParts
      (consts_by settings xs supers book2 sems rules2 tasks) xs book2 sems rules2) twice
      (world_same settings world_inodes1 supers book book2 sems rules2 tasks i st1 st2 pass pass2
      listed listed2 who found g g (told_in r) parts1 there1 (did g) counts)

  pub check_spares : HashState → (spares : List (Passed RuleEntry)) → AreSpares F spares
      → AreSpares (consts_by settings world_inodes2 supers book2 sems rules2 tasks) spares
  check_spares g spares h = subst (λ (x : WorldConsts). AreSpares x spares) (sym (check_consts g)) h

  -- these are all rules in force
  all_rules : index ≡ rules_with (scene_of F []) S.added
  all_rules =
      index_is ∙ ap (λ (xs : List RuleValue). xs ++ rules_in rules2.appended.list) base
      ∙ ap (λ (xs : List RuleEntry). rules.base ++ rules_in xs) list.list

  -- the file system is the inode's
  its_super : place ≡ super_at F st.place
  its_super = super_is supers st.place place (parts.world_inodes i st there).place place_is

  abbrev New : State
  New = state_by world_inodes2 book2 sems rules2

  -- the inode is that of its constants
  inode_same : st.cell.inode ≡ inode_in F (inode_consts_of st)
  inode_same =
      ap (λ (x : Settings). record {
        path = st.cell.inode.path;
        settings = x;
        birth = st.cell.inode.birth;
      }) (parts.world_inodes i st there).settings

  module _ (passes passes2 : PassesValue) (at : slice_get passes.inodes i ≡ Some pass)
      (inodes : passes2.inodes ≡ slice_set passes.inodes i pass2)
      (semaphores : passes2.sems ≡ passes.sems) (rules_before : passes.rules ≡ own)
      (rules_after : passes2.rules ≡ own2) (before : passes.book ≡ listed)
      (after : passes2.book ≡ listed2) (number_is : pass.number ≡ who.task + 1) where
    -- the effect of the check on the lists after the looks
    found_on : (g : HashState) → EventOn
        (consts_by settings world_inodes1 supers book sems rules2 tasks) i (inode_consts_of st)
        who found
        (state_by world_inodes1 book sems rules2)
        (state_by (slice_set world_inodes1 i st2) book2 sems rules2) passes passes2 g g (told_in r)
    found_on g =
        event_on settings world_inodes1 supers book book2 sems rules2 tasks i st1 st2 pass
        pass2 listed
        listed2 who found g g (told_in r) parts1 there1 (did g) passes passes2 at inodes semaphores
        (subst (λ (x : Passed RuleEntry). Adds x passes2.rules []) (sym rules_before)
        (subst (λ (x : Passed RuleEntry). Adds own x []) (sym rules_after)
        (sees_alone between.appended rules2.appended own own2 second.look)))
        (subst (λ (x : Passed RuleEntry). IsPrefix x.seen passes2.rules.seen) (sym rules_before)
        (subst (λ (x : Passed RuleEntry). IsPrefix own.seen x.seen) (sym rules_after)
        (sees_more between.appended rules2.appended own own2 second.look)))
        before after number_is

    -- the check by all rules in force, of the constants and the lists before the looks
    abbrev by_all : Deed
    by_all =
        check_by (rules_with (scene_of F []) S.added) cred (super_at F st.place)
        (metadata (newest_first st.cell.list)) asked

    -- the check that was found is the one by all rules in force
    is_by_all : found ≡ by_all
    is_by_all =
        ap (λ (xs : List RuleValue). check_by xs cred place
        (metadata (newest_first st.cell.list)) asked) all_rules
        ∙ ap (λ (x : Super). check_by (rules_with (scene_of F []) S.added) cred x
        (metadata (newest_first st.cell.list)) asked) its_super

    -- the effect of the check on the lists before the looks
    event_found : (g : HashState)
        → EventOn F i (inode_consts_of st) who by_all S New passes passes2 g g (told_in r)
    event_found g =
        subst (λ (d : Deed). EventOn F i (inode_consts_of st) who d S New passes passes2 g g
        (told_in r)) is_by_all
        (subst (λ (x : WorldConsts). EventOn x i (inode_consts_of st) who found S New passes passes2
        g g (told_in r)) frame1
        (subst (λ (s : State). EventOn
        (consts_by settings world_inodes1 supers book sems rules2 tasks) i
        (inode_consts_of st) who found s New passes passes2 g g (told_in r)) state1
        (subst (λ (xs : List WorldInodeValue).
        EventOn (consts_by settings world_inodes1 supers book sems rules2 tasks) i
        (inode_consts_of st) who found
        (state_by world_inodes1 book sems rules2) (state_by xs book2 sems rules2) passes passes2 g g
        (told_in r)) twice (found_on g))))

    -- the answer to the check by all rules in force
    told_by_all : IsChecked (inode_in F (inode_consts_of st)) st.cell.list S.list
        (rules_with (scene_of F []) S.added) cred (super_at F st.place) asked r
    told_by_all =
        subst (λ (x : Inode). IsChecked x st.cell.list S.list (rules_with (scene_of F []) S.added)
        cred (super_at F st.place) asked r) inode_same
        (subst (λ (x : Super). IsChecked st.cell.inode st.cell.list S.list
        (rules_with (scene_of F []) S.added) cred x asked r) its_super
        (subst (λ (xs : List RuleValue). IsChecked st.cell.inode st.cell.list S.list xs cred place
        asked r) all_rules told))

    -- effect and answer together, at the inode of the number
    pub check_in : (g : HashState)
        → CheckIn F i (slice_get F.each_inode i) who cred asked S New passes passes2 g r
    check_in g =
        subst (λ (x : Option InodeConsts). CheckIn F i x who cred asked S New passes passes2 g r)
        (sym (get_map inode_consts_of world_inodes i st there))
        (record {
          journal = st.cell.list;
          event = event_found g;
          journal_at = get_map journal_of world_inodes i st there;
          seen = ap (λ (x : Passed RuleEntry). x.seen) rules_after ∙ second.look.seen ∙ list.list;
          told = told_by_all;
        })

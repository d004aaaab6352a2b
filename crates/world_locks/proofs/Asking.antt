-- A check under its locks, after two looks at the appended rules.
use Rattle.std.proofs.Common.{◌≡◌, ℕ, ◌+◌, ◌<◌, List, [], ◌++◌, length, get_or, Option, sym, ◌∙◌, ap, subst}
use Rattle.std.specs.Prelude.{Result}
use Rattle.std.proofs.lemmas.List.{append-nil}
use Rattle.std.proofs.lemmas.Option.{get_or_from_slice_get}
use mathlib.Core.List.{IsPrefix}
use Rattle.grow_list.specs.Shown.{Grown, Passed}
use Rattle.ima_templates.specs.declared.entry.Entry.{Entry}
use Rattle.inode_meta.specs.declared.identity.Cred.{Cred}
use Rattle.inode_meta.specs.declared.step.Who.{Who}
use Rattle.inode_events.specs.NewestFirst.{newest_first}
use Rattle.inode_events.specs.State.{metadata}
use Rattle.inode_events.specs.declared.deed.Deed.{Deed}
use Rattle.inode_events.specs.declared.told.Event.{Event}
use Rattle.policy_cell.specs.Policy.{LooksAt, PolicyValue, in_force, rules_in}
use Rattle.policy_cell.specs.declared.cell.RuleEntry.{RuleEntry}
use Rattle.policy_rules.specs.RuleValue.{RuleValue}
use Rattle.policy_rules.specs.declared.access.Super.{Super}
use Rattle.world_close.specs.laws_of_runs.ScriptFiles.{CountsAll}
use Rattle.run_model.specs.Scene.{no_super, rules_with}
use Rattle.task_steps.specs.declared.listed.Checks.{Checks}
use Rattle.world_close.specs.worlds.WorldConsts.{WorldConsts, scene_of, super_at}
use Rattle.world_close.specs.worlds.World.{AreRulesOf, IsBookOf, IsWorldInode, WorldInodeValue}
use Rattle.world_close.specs.worlds.declared.hash_state.HashState.{HashState}
use Rattle.world_close.specs.worlds.declared.hash_state.HashState.TheVariants as hash_state
use Rattle.task_steps.proofs.Looked.{force_count}
use Rattle.task_steps.proofs.Looks.{at_index}
use Rattle.task_steps.specs.Acting.{WorldInodeDid, told_in}
use Rattle.task_steps.specs.Checking.{IsChecked, check_by}
use Rattle.task_steps.specs.declared.answers.StepResult.{StepResult}
use Rattle.world_locks.proofs.Lists.{book_still}
use Rattle.world_locks.proofs.WorldInodes.{world_inode_looked, world_inode_still}
use Rattle.world_locks.specs.Tagged.{AskMet}

-- after a look the pass has seen at least as much as before
looks_more : (rules rules2 : PolicyValue) (q q2 : Passed RuleEntry) → LooksAt rules rules2 q q2
    → IsPrefix q.seen q2.seen
looks_more rules rules2 q q2 x =
    subst (λ (xs : List RuleEntry). IsPrefix q.seen xs) (sym (x.seen ∙ x.list.list)) x.before

-- ---- a check

-- the file system that was read at a place is the one of that number
super_is : (supers : List Super) (k : ℕ) (x : Super) → k < length supers → x ≡ get_or supers k x
    → x ≡ get_or supers k no_super
super_is supers k x l e =
    sym (get_or_from_slice_get supers k x no_super (at_index supers k x x l e))

module _ {E : Type 0} (consts : WorldConsts) (i : ℕ) (st st2 : WorldInodeValue)
    (is : IsWorldInode consts i st)
    (rules rules2 : PolicyValue) (kept : AreRulesOf consts rules2)
    (q own own2 : Passed RuleEntry) (first : LooksAt rules rules2 st.rules q)
    (second : LooksAt rules rules2 own own2) (supers : List Super)
    (supers_are : supers ≡ consts.supers) (place : Super) (within : st.place < length supers)
    (place_is : place ≡ get_or supers st.place place) (index : List RuleValue)
    (index_is : index ≡ in_force rules2) (book book2 : Grown Entry) (pass pass2 : Passed Event)
    (listed listed2 : Passed Entry) (who : Who) (cred : Cred) (asked : Checks)
    (r : Result (Option StepResult) E)
    (did : (g : HashState) → WorldInodeDid (record st {
      rules = q;
    }) st2 book book2 pass pass2 listed
    listed2 who (check_by index cred place (metadata (newest_first st.cell.list)) asked) g g
    (told_in r))
    (told : IsChecked st.cell.inode st.cell.list book.list index cred place asked r) where
  -- the inode after its pass has looked
  abbrev st1 : WorldInodeValue
  st1 = record st { rules = q }

  is1 : IsWorldInode consts i st1
  is1 = world_inode_looked consts i st is q first.same first.mine
      (looks_more rules rules2 st.rules q first)

  -- the check counts all rules that the inode's pass has seen
  counts : CountsAll (length consts.base + length q.seen)
      (check_by index cred place (metadata (newest_first st.cell.list)) asked)
  counts =
      ap length index_is ∙ force_count rules2
      ∙ ap (λ (xs : List RuleEntry). length rules2.base + length xs) (sym first.seen)
      ∙ ap (λ (xs : List RuleValue). length xs + length q.seen) kept.base

  pub asked_world_inode : IsWorldInode consts i st2
  asked_world_inode =
      world_inode_still consts i st1 is1 st2 book book2 pass pass2 listed listed2 who
      (check_by index cred place (metadata (newest_first st.cell.list)) asked) hash_state.Idle
      hash_state.Idle (told_in r) (did hash_state.Idle) counts

  pub asked_book : IsBookOf consts book → IsBookOf consts book2
  asked_book =
      book_still consts st1 st2 book book2 pass pass2 listed listed2 who
      (check_by index cred place (metadata (newest_first st.cell.list)) asked) hash_state.Idle
      hash_state.Idle (told_in r) (did hash_state.Idle)

  -- these are all rules in force, and the file system is the inode's
  all_rules : index ≡ rules_with (scene_of consts []) rules2.appended.list
  all_rules =
      index_is
      ∙ ap (λ (xs : List RuleValue). xs ++ rules_in rules2.appended.list) kept.base

  its_super : place ≡ super_at consts st.place
  its_super =
      super_is supers st.place place within place_is
      ∙ ap (λ (xs : List Super). get_or xs st.place no_super) supers_are

  pub asks : AskMet consts i pass pass2 own own2 listed listed2 who cred asked r
  asks = record {
    world_inode = st1;
    world_inode2 = st2;
    book = book;
    book2 = book2;
    added = rules2.appended.list;
    is = is1;
    did = λ g. subst (λ (d : Deed). WorldInodeDid st1 st2 book book2 pass pass2 listed listed2 who
        d g g (told_in r))
        (ap (λ (xs : List RuleValue). check_by xs cred place
        (metadata (newest_first st.cell.list)) asked) all_rules
        ∙ ap (λ (x : Super). check_by (rules_with (scene_of consts []) rules2.appended.list) cred x
        (metadata (newest_first st.cell.list)) asked) its_super) (did g);
    told = subst (λ (x : Super). IsChecked st.cell.inode st.cell.list book.list
        (rules_with (scene_of consts []) rules2.appended.list) cred x asked r) its_super
        (subst (λ (xs : List RuleValue). IsChecked st.cell.inode st.cell.list book.list xs cred
        place asked r) all_rules told);
    adds = record {
      name = second.same.0;
      number = second.same.1;
      mine = second.mine ∙ sym (append-nil own.mine);
    };
    before = looks_more rules rules2 own own2 second;
    seen = second.seen;
  }

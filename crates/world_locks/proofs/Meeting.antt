-- A deed under locks, from the view of its task: it met some lists, and the passes of the task have
-- seen these lists as the deed left them.
use Rattle.std.proofs.Common.{◌≡◌, ℕ, zero, suc, ◌+◌, ◌≤◌, List, [], ◌∷◌, ◌++◌, length, map, get_or, Option, Some, None, refl, sym, ◌∙◌, ap, subst, arith}
use Rattle.std.specs.Prelude.{IfOk, Result, Ok, Err, slice_get, slice_set}
use Rattle.std.proofs.lemmas.Option.{get_or_from_slice_get, same_Some}
use mathlib.Core.List.{IsPrefix}
use Rattle.grow_list.proofs.Prefixes.{prefix_refl}
use Rattle.grow_list.specs.Shown.{Grown, Passed}
use Rattle.ima_templates.specs.declared.entry.Entry.{Entry}
use Rattle.inode_meta.specs.declared.identity.Cred.{Cred}
use Rattle.inode_meta.specs.declared.step.Who.{Who}
use Rattle.inode_events.specs.Asked.{asked, list_after, made, outcome}
use Rattle.inode_events.specs.Inode.{Inode}
use Rattle.inode_events.specs.NewestFirst.{newest_first}
use Rattle.inode_events.specs.State.{metadata}
use Rattle.inode_events.specs.declared.deed.Deed.{Deed}
use Rattle.inode_events.specs.declared.told.Event.{Event}
use Rattle.inode_events.specs.declared.told.Told.{Told}
use Rattle.policy_cell.specs.declared.cell.RuleEntry.{RuleEntry}
use Rattle.run_model.specs.Scene.{rules_with}
use Rattle.run_model.specs.Turns.{State, state_on}
use Rattle.task_steps.specs.declared.listed.Checks.{Checks}
use Rattle.world_close.specs.worlds.WorldConsts.{InodeConsts, WorldConsts, inode_in, scene_of, super_at}
use Rattle.world_close.specs.worlds.Tasks.{PassesValue}
use Rattle.world_close.specs.worlds.World.{IsWorldInode, WorldInodeValue, inode_consts_of}
use Rattle.world_close.specs.worlds.declared.hash_state.HashState.{HashState}
use Rattle.task_steps.proofs.about_worlds.Eventing.{adds_none, get_map, get_set}
use Rattle.task_steps.specs.worlds.Due.{HashesTold}
use Rattle.task_steps.specs.worlds.Events.{EventOn}
use Rattle.task_steps.specs.worlds.Ready.{HasLooked}
use Rattle.task_steps.specs.worlds.Steps.{Adds}
use Rattle.task_steps.proofs.Lists.{map_set}
use Rattle.task_steps.specs.Acting.{EventIn, IsPlacedAt, IsSaid, WorldInodeDid, told_in, told_of}
use Rattle.task_steps.specs.Checking.{CheckIn, IsChecked, check_by}
use Rattle.task_steps.specs.declared.answers.StepResult.{StepResult}
use Rattle.world_locks.proofs.WorldInodes.{inode_same}
use Rattle.world_locks.specs.Tagged.{AskMet, DeedMet}
use Rattle.world_locks.specs.Met.{CheckMet, EventMet, seen_of, state_met, state_seen}

-- of two elements written at the same place the second is found there
set_set : {A : Type 0} (xs : List A) (i : ℕ) (a b : A)
    → slice_set (slice_set xs i a) i b ≡ slice_set xs i b
set_set [] i a b = refl
set_set (x ∷ xs) zero a b = refl
set_set (x ∷ xs) (suc i) a b = ap (λ ys. x ∷ ys) (set_set xs i a b)

-- at and after its end a list has no element
pub nothing_after : {A : Type 0} (xs : List A) (i : ℕ) → length xs ≤ i → slice_get xs i ≡ None
nothing_after [] i h = refl
nothing_after (x ∷ xs) zero h = absurd (omega arith)
nothing_after (x ∷ xs) (suc i) h = nothing_after xs i (omega arith)

-- ---- a step on an inode that is there

module _ (consts : WorldConsts) (i : ℕ) (passes passes2 : PassesValue) (who : Who) (d : Deed)
    (g g2 : HashState) (o : Option Told) (pass pass2 : Passed Event) (st st2 : WorldInodeValue)
    (book book2 : Grown Entry) (added : List RuleEntry) (is : IsWorldInode consts i st)
    (did : WorldInodeDid st st2 book book2 pass pass2 passes.book passes2.book who d g g2 o)
    (at : slice_get passes.inodes i ≡ Some pass) (number : pass.number ≡ who.task + 1)
    (inodes : passes2.inodes ≡ slice_set passes.inodes i pass2)
    (semaphores : passes2.sems ≡ passes.sems) (adds : Adds passes.rules passes2.rules [])
    (more : IsPrefix passes.rules.seen passes2.rules.seen)
    (rules : passes2.rules.seen ≡ added) where
  abbrev Old : State
  Old = state_met passes i st.cell.list book.list added

  -- the journal that the deed met is the inode's
  pub journal_met : slice_get Old.journals i ≡ Some st.cell.list
  journal_met =
      get_set (map seen_of passes.inodes) i st.cell.list pass.seen
      (get_map seen_of passes.inodes i pass at)

  here : get_or Old.journals i [] ≡ st.cell.list
  here = get_or_from_slice_get Old.journals i st.cell.list [] journal_met

  journals_are : map seen_of passes2.inodes
      ≡ slice_set Old.journals i (get_or Old.journals i [] ++ made who d o)
  journals_are =
      ap (λ (qs : List (Passed Event)). map seen_of qs) inodes
      ∙ map_set seen_of passes.inodes i pass2
      ∙ ap (λ (xs : List Event). slice_set (map seen_of passes.inodes) i xs)
      (did.leaves.seen ∙ did.leaves.journal
      ∙ ap (λ (xs : List Event). xs ++ made who d o) (sym here))
      ∙ sym (set_set (map seen_of passes.inodes) i st.cell.list
      (get_or Old.journals i [] ++ made who d o))

  list_is : passes2.book.seen
      ≡ list_after book.list (asked st.cell.inode d (newest_first (get_or Old.journals i []))) o
  list_is =
      did.seen ∙ did.leaves.book
      ∙ ap (λ (xs : List Event). list_after book.list (asked st.cell.inode d (newest_first xs)) o)
      (sym here)

  -- after the deed the passes have seen the lists as it left them
  state_is : state_seen passes2 ≡ state_on Old i st.cell.inode who d o
  state_is = λ k. record {
    journals = journals_are k;
    list = list_is k;
    signals = ap (λ (q : Passed Event). q.seen) semaphores k;
    added = rules k;
  }

  -- the event, from the view of its task
  pub event_met : EventOn consts i (inode_consts_of st) who d Old (state_seen passes2) passes
      passes2 g g2 o
  event_met = record {
    journal = st.cell.list;
    journal_at = journal_met;
    pass = pass;
    pass_at = at;
    pass2 = pass2;
    inodes = inodes;
    looked = subst (λ (x : Inode). HasLooked x (who.task + 1) pass.seen st.cell.list pass.mine)
        (sym (inode_same consts i st is))
        (subst (λ (n : ℕ). HasLooked st.cell.inode n pass.seen st.cell.list pass.mine) number
        did.looked);
    name = did.leaves.pass_name;
    number = did.leaves.pass_number;
    seen = did.leaves.seen ∙ did.leaves.journal;
    mine = did.leaves.mine;
    state = state_is
        ∙ ap (λ (x : Inode). state_on Old i x who d o) (sym (inode_same consts i st is));
    sems = semaphores;
    rules = adds;
    rules_seen = more;
    book = did.book_pass;
    book_before = did.before;
    book_seen = refl;
    hashes = subst (λ (x : Inode). HashesTold x (st.cell.list ++ made who d o) g g2 d o)
        (sym (inode_same consts i st is))
        (subst (λ (xs : List Event). HashesTold st.cell.inode xs g g2 d o) did.leaves.journal
        did.hashes);
  }

  -- the answer's outcome is the one on the lists that the deed met
  pub said_met : (a : Option StepResult)
      → told_of a ≡ outcome st.cell.inode book.list d (newest_first st.cell.list)
      → IsPlacedAt (length st.cell.list) a → IsSaid consts i d Old a
  said_met a told place s journal there journal_at =
      let inode_consts : inode_consts_of st ≡ s =
      same_Some (inode_consts_of st) s (sym is.inode_consts ∙ there) in
      let list : st.cell.list ≡ journal =
      same_Some st.cell.list journal (sym journal_met ∙ journal_at) in (
        told
            ∙ ap (λ (x : Inode). outcome x book.list d (newest_first st.cell.list))
            (sym (inode_same consts i st is) ∙ ap (inode_in consts) inode_consts)
            ∙ ap (λ (xs : List Event). outcome (inode_in consts s) book.list d (newest_first xs))
            list,
        subst (λ (xs : List Event). IsPlacedAt (length xs) a) list place,
      )

-- ---- the steps

-- on an inode that isn't there nothing is done
pub none_met : {E : Type 0} (consts : WorldConsts) (i : ℕ) (passes : PassesValue) (who : Who)
    (d : Deed) (g : HashState) → length consts.each_inode ≤ i
    → EventMet {E = E} consts i who d passes passes g g (Ok None)
none_met consts i passes who d g h =
    let none : slice_get consts.each_inode i ≡ None = nothing_after consts.each_inode i h in
    record {
      old = state_seen passes;
      event = subst (λ (x : Option InodeConsts). EventIn consts i x who d (state_seen passes)
          (state_seen passes) passes passes g g None) (sym none)
          (record { state = refl; left = refl; hash_state = refl; told = refl });
      told = λ s journal there journal_at. absurd (no_inode_consts s (sym none ∙ there));
    } where
      no_inode_consts : (s : InodeConsts) → None ≡ Some s → ⊥
      no_inode_consts s e = cc

pub deed_met : {E : Type 0} (consts : WorldConsts) (i : ℕ) (passes passes2 : PassesValue)
    (who : Who)
    (d : Deed) (g g2 : HashState) (pass pass2 : Passed Event) (r : Result (Option StepResult) E)
    → DeedMet consts i pass pass2 passes.book passes2.book who d g g2 r
    → slice_get passes.inodes i ≡ Some pass → pass.number ≡ who.task + 1
    → passes2.inodes ≡ slice_set passes.inodes i pass2 → passes2.sems ≡ passes.sems
    → passes2.rules ≡ passes.rules
    → EventMet consts i who d passes passes2 g g2 r
deed_met {E} consts i passes passes2 who d g g2 pass pass2 r m at number inodes semaphores rules =
    record {
      old = state_met passes i m.world_inode.cell.list m.book.list passes.rules.seen;
      event = subst (λ (x : Option InodeConsts). EventIn consts i x who d
          (state_met passes i m.world_inode.cell.list m.book.list passes.rules.seen)
          (state_seen passes2) passes passes2 g g2 (told_in r)) (sym m.is.inode_consts)
          (event_met consts i passes passes2 who d g g2 (told_in r) pass pass2 m.world_inode
          m.world_inode2 m.book m.book2 passes.rules.seen m.is m.did at number inodes semaphores
          (adds_none passes.rules passes2.rules rules)
          (subst (λ (q : Passed RuleEntry). IsPrefix passes.rules.seen q.seen) (sym rules)
          (prefix_refl passes.rules.seen))
          (ap (λ (q : Passed RuleEntry). q.seen) rules));
      told = said r m.told m.place;
    } where
      said : (x : Result (Option StepResult) E)
          → IfOk x (λ o. told_of o
          ≡ outcome m.world_inode.cell.inode m.book.list d (newest_first m.world_inode.cell.list))
          → IfOk x (λ o. IsPlacedAt (length m.world_inode.cell.list) o)
          → IfOk x (λ o. IsSaid consts i d
          (state_met passes i m.world_inode.cell.list m.book.list passes.rules.seen) o)
      said (Ok a) told place =
          said_met consts i passes passes2 who d g g2 (told_in r) pass pass2 m.world_inode
          m.world_inode2 m.book m.book2 passes.rules.seen m.is m.did at number inodes semaphores
          (adds_none passes.rules passes2.rules rules)
          (subst (λ (q : Passed RuleEntry). IsPrefix passes.rules.seen q.seen) (sym rules)
          (prefix_refl passes.rules.seen))
          (ap (λ (q : Passed RuleEntry). q.seen) rules) a told place
      said (Err e) told place = tt

-- a check of an inode that isn't there
pub unasked_met : {E : Type 0} (consts : WorldConsts) (i : ℕ) (passes : PassesValue) (who : Who)
    (cred : Cred) (asked : Checks) → length consts.each_inode ≤ i
    → CheckMet {E = E} consts i who cred asked passes passes (Ok None)
unasked_met {E} consts i passes who cred asked h = record {
  old = state_seen passes;
  check = λ g. subst (λ (x : Option InodeConsts). CheckIn {E = E} consts i x who cred asked
      (state_seen passes) (state_seen passes) passes passes g (Ok None))
      (sym (nothing_after consts.each_inode i h))
      (record { state = refl; left = refl; hash_state = refl; told = refl });
}

pub ask_met : {E : Type 0} (consts : WorldConsts) (i : ℕ) (passes passes2 : PassesValue) (who : Who)
    (cred : Cred) (asked : Checks) (pass pass2 : Passed Event) (r : Result (Option StepResult) E)
    → AskMet consts i pass pass2 passes.rules passes2.rules passes.book passes2.book who cred asked
    r → slice_get passes.inodes i ≡ Some pass → pass.number ≡ who.task + 1
    → passes2.inodes ≡ slice_set passes.inodes i pass2 → passes2.sems ≡ passes.sems
    → CheckMet consts i who cred asked passes passes2 r
ask_met {E} consts i passes passes2 who cred asked pass pass2 r m at number inodes semaphores =
    let old : State = state_met passes i m.world_inode.cell.list m.book.list m.added in
    let found : Deed =
    check_by (rules_with (scene_of consts []) m.added) cred (super_at consts m.world_inode.place)
    (metadata (newest_first m.world_inode.cell.list)) asked in
    record {
      old = old;
      check = λ g. subst (λ (x : Option InodeConsts). CheckIn consts i x who cred asked old
          (state_seen passes2) passes passes2 g r) (sym m.is.inode_consts)
          (record {
            journal = m.world_inode.cell.list;
            journal_at = journal_met consts i passes passes2 who found g g (told_in r) pass pass2
                m.world_inode m.world_inode2 m.book m.book2 m.added m.is (m.did g) at number inodes
                semaphores m.adds m.before m.seen;
            event = event_met consts i passes passes2 who found g g (told_in r) pass pass2
                m.world_inode
                m.world_inode2 m.book m.book2 m.added m.is (m.did g) at number inodes
                semaphores m.adds m.before m.seen;
            seen = m.seen;
            told = subst (λ (x : Inode). IsChecked x m.world_inode.cell.list m.book.list
                (rules_with (scene_of consts []) m.added) cred (super_at consts m.world_inode.place)
                asked r) (sym (inode_same consts i m.world_inode m.is)) m.told;
          });
    }

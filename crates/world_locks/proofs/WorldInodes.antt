-- An inode under its lock is the one of its number, before and after a step on it.
use Rattle.std.proofs.Common.{◌≡◌, ℕ, ◌+◌, ◌<◌, List, ◌++◌, length, Option, Some, sym, ◌∙◌, ap, subst}
use mathlib.Core.List.{IsPrefix}
use Rattle.grow_list.proofs.Prefixes.{prefix_refl}
use Rattle.grow_list.specs.Shown.{Grown, ListName, Passed}
use Rattle.ima_templates.specs.declared.entry.Entry.{Entry}
use Rattle.inode_cell.specs.Acts.{MayBy}
use Rattle.inode_meta.specs.declared.appraisal.Slot.{Slot}
use Rattle.inode_meta.specs.declared.step.Who.{Who}
use Rattle.inode_events.specs.Asked.{made}
use Rattle.inode_events.specs.Inode.{Inode}
use Rattle.inode_events.specs.declared.deed.Deed.{Deed}
use Rattle.inode_events.specs.declared.settings.Settings.{Settings}
use Rattle.inode_events.specs.declared.told.Event.{Event}
use Rattle.inode_events.specs.declared.told.Told.{Told}
use Rattle.policy_cell.specs.declared.cell.RuleEntry.{RuleEntry}
use Rattle.policy_rules.specs.ActionValue.{ActionValue}
use Rattle.world_close.proofs.laws_of_runs.Risen.{law_rise_by_look, law_rise_by_outcome}
use Rattle.world_close.specs.laws_of_runs.ScriptFiles.{CountsAll, ScriptFileRules}
use Rattle.world_close.specs.worlds.WorldConsts.{InodeConsts, WorldConsts, inode_in}
use Rattle.world_close.specs.worlds.World.{IsWorldInode, WorldInodeValue, inode_consts_of}
use Rattle.task_steps.specs.Leaving.{Leaves}
use Rattle.world_close.specs.worlds.declared.hash_state.HashState.{HashState}
use Rattle.task_steps.specs.worlds.Ready.{HasLooked, IsReady}
use Rattle.task_steps.specs.Acting.{WorldInodeDid}
use Rattle.world_locks.specs.Tagged.{IsPassAt, IsReadyBy, NumberedWorldInode}

module _ (consts : WorldConsts) (i : ℕ) (st : WorldInodeValue) (is : IsWorldInode consts i st) where
  -- the inode of these constants is the one in the cell
  pub inode_same : inode_in consts (inode_consts_of st) ≡ st.cell.inode
  inode_same =
      ap (λ (x : Settings). record {
        path = st.cell.inode.path;
        settings = x;
        birth = st.cell.inode.birth;
      }) (sym is.settings)

  -- a task's pass of this number is of the inode's journal
  pub its_pass : (n : ℕ) (q : Passed Event) → IsPassAt consts i n q
      → (q.name ≡ st.cell.journal) × (q.number ≡ n + 1)
  its_pass n q at = at (inode_consts_of st) is.inode_consts

  -- after a look the deed is ready
  pub its_ready : (n : ℕ) (q : Passed Event) (g : HashState) (action : ActionValue) (slot : Slot)
      (d : Deed) → IsPassAt consts i n q → IsReadyBy consts i n q g action slot d
      → HasLooked st.cell.inode q.number q.seen st.cell.list q.mine
      → IsReady st.cell.inode q.number st.cell.list g action slot d
  its_ready n q g action slot d at ready looked =
      let number : q.number ≡ n + 1 = (its_pass n q at).1 in
      subst (λ (k : ℕ). IsReady st.cell.inode k st.cell.list g action slot d) (sym number)
      (subst (λ (x : Inode). IsReady x (n + 1) st.cell.list g action slot d) inode_same
      (ready (inode_consts_of st) st.cell.list is.inode_consts
      (subst (λ (x : Inode). HasLooked x (n + 1) q.seen st.cell.list q.mine) (sym inode_same)
      (subst (λ (k : ℕ). HasLooked st.cell.inode k q.seen st.cell.list q.mine) number looked))))

  -- after a look the deed may be done
  pub its_may : (n : ℕ) (q : Passed Event) (g : HashState) (action : ActionValue) (slot : Slot)
      (d : Deed) → IsPassAt consts i n q → IsReadyBy consts i n q g action slot d
      → HasLooked st.cell.inode q.number q.seen st.cell.list q.mine
      → MayBy st.cell q.number d
  its_may n q g action slot d at ready looked =
      let x = its_ready n q g action slot d at ready looked in
      record { may = x.may; by = x.by }

  -- with a pass of the appended rules that has seen more it is still the inode of its number
  pub world_inode_looked : (q : Passed RuleEntry)
      → (q.name ≡ st.rules.name) × (q.number ≡ st.rules.number) → q.mine ≡ st.rules.mine
      → IsPrefix st.rules.seen q.seen → IsWorldInode consts i (record st { rules = q })
  world_inode_looked q same mine more = record {
    inode_consts = is.inode_consts;
    settings = is.settings;
    place = is.place;
    callers = is.callers;
    book = is.book;
    booked = is.booked;
    rules_name = same.0 ∙ is.rules_name;
    rules_number = same.1 ∙ is.rules_number;
    rules_mine = mine ∙ is.rules_mine;
    rise = law_rise_by_look (length consts.base) st.cell.list st.rules.seen q.seen more is.rise;
  }

  -- after a deed that leaves the pass of the rules and the file system as they were
  module _ (st2 : WorldInodeValue) (list list2 : List Entry) (pass pass2 : Passed Event) (who : Who)
      (d : Deed) (o : Option Told)
      (leaves : Leaves st.cell st2.cell list list2 pass pass2 who d o)
      (rules : st2.rules ≡ st.rules) (place : st2.place ≡ st.place) where
    inode_consts_same : inode_consts_of st2 ≡ inode_consts_of st
    inode_consts_same =
        ap (λ (x : Inode). record {
          path = x.path;
          birth = x.birth;
          place = st2.place;
          journal = st2.cell.journal;
        }) leaves.same.inode
        ∙ ap (λ (k : ℕ). record {
          path = st.cell.inode.path;
          birth = st.cell.inode.birth;
          place = k;
          journal = st2.cell.journal;
        }) place
        ∙ ap (λ (x : ListName). record {
          path = st.cell.inode.path;
          birth = st.cell.inode.birth;
          place = st.place;
          journal = x;
        }) leaves.same.journal

    -- after the deed it is still the inode of its number
    pub world_inode_left : CountsAll (length consts.base + length st.rules.seen) d
        → IsWorldInode consts i st2
    world_inode_left counts =
        let rise : ScriptFileRules (length consts.base) (st.cell.list ++ made who d o)
        st.rules.seen =
        law_rise_by_outcome (length consts.base) st.cell.list st.rules.seen st.rules.seen who d o
        (prefix_refl st.rules.seen) is.rise counts in
        record {
          inode_consts = is.inode_consts ∙ ap (λ (x : InodeConsts). Some x) (sym inode_consts_same);
          settings = ap (λ (x : Inode). x.settings) leaves.same.inode ∙ is.settings;
          place = subst (λ (k : ℕ). k < length consts.supers) (sym place) is.place;
          callers = leaves.same.callers ∙ is.callers;
          book = leaves.same.book ∙ is.book;
          booked = leaves.same.booked ∙ is.booked;
          rules_name = ap (λ (q : Passed RuleEntry). q.name) rules ∙ is.rules_name;
          rules_number = ap (λ (q : Passed RuleEntry). q.number) rules ∙ is.rules_number;
          rules_mine = ap (λ (q : Passed RuleEntry). q.mine) rules ∙ is.rules_mine;
          rise = subst (λ (q : Passed RuleEntry).
              ScriptFileRules (length consts.base) st2.cell.list q.seen) (sym rules)
              (subst (λ (xs : List Event). ScriptFileRules (length consts.base) xs st.rules.seen)
              (sym leaves.journal) rise);
        }

  -- it is still the inode of its number after a deed on it and on the measurement list
  pub world_inode_still : (st2 : WorldInodeValue) (book book2 : Grown Entry)
      (pass pass2 : Passed Event)
      (listed listed2 : Passed Entry) (who : Who) (d : Deed) (g g2 : HashState) (o : Option Told)
      → WorldInodeDid st st2 book book2 pass pass2 listed listed2 who d g g2 o
      → CountsAll (length consts.base + length st.rules.seen) d → IsWorldInode consts i st2
  world_inode_still st2 book book2 pass pass2 listed listed2 who d g g2 o did counts =
      world_inode_left st2 book.list book2.list pass pass2 who d o did.leaves did.rules
      did.place counts

-- the inode under the lock is the one of the number that its value shows
pub world_inode_at : (consts : WorldConsts) (n : ℕ) (st : WorldInodeValue) (v : NumberedWorldInode)
    → ◌≡◌ {A = NumberedWorldInode} (record {
      number = n;
      world_inode = st;
    }) v → IsWorldInode consts n st
    → IsWorldInode consts v.number st
world_inode_at consts n st v view is =
    subst (λ (x : NumberedWorldInode). IsWorldInode consts x.number st) view is

-- the inode is the one of its number as it is unpacked
pub world_inode_opened : (consts : WorldConsts) (n : ℕ) (opened st : WorldInodeValue)
    (v : NumberedWorldInode)
    → opened ≡ st → ◌≡◌ {A = NumberedWorldInode} (record { number = n; world_inode = st }) v
    → IsWorldInode consts n st → IsWorldInode consts v.number opened
world_inode_opened consts n opened st v same view is =
    subst (λ (x : WorldInodeValue). IsWorldInode consts v.number x) (sym same)
    (world_inode_at consts n st v view is)

-- The passes of a task, unpacked for a step under locks.
use Rattle.std.proofs.Common.{◌≡◌, ℕ, ◌+◌, ◌<◌, List, length, get_or, Option, Some, refl, sym, ◌∙◌, ap, subst, arith}
use Rattle.std.specs.Prelude.{IfOk, OnErr, Result, Ok, Err, slice_get, slice_set}
use Rattle.grow_list.specs.Shown.{Passed}
use Rattle.ima_templates.specs.declared.entry.Entry.{Entry}
use Rattle.inode_meta.specs.declared.appraisal.Slot.{Slot}
use Rattle.inode_meta.specs.declared.identity.Cred.{Cred}
use Rattle.inode_meta.specs.declared.step.Who.{Who}
use Rattle.inode_events.specs.declared.deed.Deed.{Deed}
use Rattle.inode_events.specs.declared.told.Event.{Event}
use Rattle.policy_cell.specs.declared.cell.RuleEntry.{RuleEntry}
use Rattle.policy_rules.specs.ActionValue.{ActionValue}
use Rattle.task_steps.specs.declared.listed.Checks.{Checks}
use Rattle.world_close.specs.worlds.WorldConsts.{WorldConsts}
use Rattle.world_close.specs.worlds.Tasks.{ArePassesOf, PassesValue}
use Rattle.world_close.specs.worlds.declared.hash_state.HashState.{HashState}
use Rattle.world_close.proofs.Gets.{got}
use Rattle.world_close.specs.Closed.{no_inode_consts}
use Rattle.task_steps.proofs.Looks.{at_index}
use Rattle.task_steps.specs.Acting.{ReadyAt}
use Rattle.task_steps.specs.declared.answers.StepResult.{StepResult}
use Rattle.world_locks.proofs.Meeting.{ask_met, deed_met}
use Rattle.world_locks.proofs.Signals.{appends_met, signals_met}
use Rattle.world_locks.specs.Tagged.{AppendMet, AskMet, DeedMet, IsPassAt, IsReadyBy, SignalMet}
use Rattle.world_locks.specs.Pages.{MayAt, MayByLook}
use Rattle.world_locks.specs.Met.{AppendsMet, CheckMet, EventMet, SignalsMet}

module _ (inodes : List (Passed Event)) (sems : Passed Event) (book : Passed Entry)
    (rules : Passed RuleEntry) (p : PassesValue)
    (view : ◌≡◌ {A = PassesValue} (record {
      inodes = inodes;
      sems = sems;
      book = book;
      rules = rules;
    }) p) (who : Who) where
  abbrev opened : PassesValue
  opened = record { inodes = inodes; sems = sems; book = book; rules = rules }

  -- the unpacked passes are the task's
  pub are_opened : (consts : WorldConsts) → ArePassesOf consts who.task p
      → ArePassesOf consts who.task opened
  are_opened consts are =
      subst (λ (x : PassesValue). ArePassesOf consts who.task x) (sym view) are

  -- a post or a wait by the pass of the semaphores
  pub signals_opened : {E : Type 0} (sems2 : Passed Event) (d : Deed)
      (r : Result (Option StepResult) E) → SignalMet sems sems2 who d r
      → SignalsMet p (record opened { sems = sems2 }) who d r
  signals_opened sems2 d r m =
      subst (λ (x : PassesValue). SignalsMet x (record opened { sems = sems2 }) who d r) view
      (signals_met opened (record opened { sems = sems2 }) who d r refl m)

  -- a rule appended by the pass of the rules
  pub appends_opened : {E : Type 0} (rules2 : Passed RuleEntry) (entry : RuleEntry)
      (r : Result StepResult E) → IfOk r (λ a. AppendMet rules rules2 entry a)
      → IfOk r (λ a. AppendsMet p (record opened { rules = rules2 }) entry a)
  appends_opened rules2 entry (Ok a) m =
      subst (λ (x : PassesValue). AppendsMet x (record opened { rules = rules2 }) entry a) view
      (appends_met opened (record opened { rules = rules2 }) entry a refl m)
  appends_opened rules2 entry (Err e) m = tt

  -- without an answer the pass of the rules is as it was, as are the others
  pub append_kept : {E : Type 0} (rules2 : Passed RuleEntry) (r : Result StepResult E)
      → OnErr r (rules2 ≡ rules)
      → OnErr r (◌≡◌ {A = PassesValue} (record opened { rules = rules2 }) p)
  append_kept rules2 (Ok a) same = tt
  append_kept rules2 (Err e) same =
      ap (λ (q : Passed RuleEntry). record opened { rules = q }) same ∙ view

  -- ---- on the inode of a number, which is there

  module _ (consts : WorldConsts) (are : ArePassesOf consts who.task p) (i k : ℕ) (taken : k ≡ i)
      (below : i < length consts.each_inode) (pass : Passed Event)
      (pass_is : pass ≡ get_or inodes i pass) where
    -- the task's pass of the inode's journal is at its place
    pass_at : slice_get p.inodes i ≡ Some pass
    pass_at =
        let within : i < length p.inodes = omega (arith, are.even) in
        at_index p.inodes i pass pass within
        (subst (λ (x : PassesValue). pass ≡ get_or x.inodes i pass) view pass_is)

    its_number : pass.number ≡ who.task + 1
    its_number =
        (are.inodes i (get_or consts.each_inode i no_inode_consts) pass
        (got consts.each_inode i no_inode_consts below) pass_at).1

    -- the pass has the name of the inode's journal and the number of the task
    pub pass_of : IsPassAt consts k who.task pass
    pass_of s at =
        are.inodes i s pass (ap (λ (n : ℕ). slice_get consts.each_inode n) (sym taken) ∙ at) pass_at

    -- after a look by the pass the deed is ready
    pub ready_of : (g : HashState) (action : ActionValue) (slot : Slot) (d : Deed)
        → ReadyAt consts i p.inodes who.task g action slot d
        → IsReadyBy consts k who.task pass g action slot d
    ready_of g action slot d ready s list at looked =
        ready s pass list (ap (λ (n : ℕ). slice_get consts.each_inode n) (sym taken) ∙ at)
        pass_at looked

    -- after a look by the pass the deed may be done
    pub look_of : (d : Deed) → MayAt consts i p.inodes who.task d
        → MayByLook consts k who.task pass d
    look_of d may s list at looked =
        may s pass list (ap (λ (n : ℕ). slice_get consts.each_inode n) (sym taken) ∙ at)
        pass_at looked

    opened_at : slice_get inodes i ≡ Some pass
    opened_at = subst (λ (x : PassesValue). slice_get x.inodes i ≡ Some pass) (sym view) pass_at

    -- a deed on the inode
    pub deed_opened : {E : Type 0} (pass2 : Passed Event) (book2 : Passed Entry) (d : Deed)
        (g g2 : HashState) (r : Result (Option StepResult) E)
        → DeedMet consts k pass pass2 book book2 who d g g2 r
        → EventMet consts i who d p
        (record opened { inodes = slice_set inodes i pass2; book = book2 }) g g2 r
    deed_opened pass2 book2 d g g2 r m =
        let after : PassesValue =
        record opened { inodes = slice_set inodes i pass2; book = book2 } in
        subst (λ (x : PassesValue). EventMet consts i who d x after g g2 r) view
        (deed_met consts i opened after who d g g2 pass pass2 r
        (subst (λ (n : ℕ). DeedMet consts n pass pass2 book book2 who d g g2 r) taken m) opened_at
        its_number refl refl refl)

    -- a check of the inode
    pub ask_opened : {E : Type 0} (pass2 : Passed Event) (book2 : Passed Entry)
        (rules2 : Passed RuleEntry) (cred : Cred) (asked : Checks)
        (r : Result (Option StepResult) E)
        → AskMet consts k pass pass2 rules rules2 book book2 who cred asked r
        → CheckMet consts i who cred asked p (record opened {
          inodes = slice_set inodes i pass2;
          book = book2;
          rules = rules2;
        }) r
    ask_opened pass2 book2 rules2 cred asked r m =
        let after : PassesValue =
        record opened { inodes = slice_set inodes i pass2; book = book2; rules = rules2 } in
        subst (λ (x : PassesValue). CheckMet consts i who cred asked x after r) view
        (ask_met consts i opened after who cred asked pass pass2 r
        (subst (λ (n : ℕ). AskMet consts n pass pass2 rules rules2 book book2 who cred asked r)
        taken m) opened_at its_number refl refl)

-- a deed that is ready may be done
pub may_of : (consts : WorldConsts) (i : ℕ) (passes : List (Passed Event)) (n : ℕ) (g : HashState)
    (action : ActionValue) (slot : Slot) (d : Deed) → ReadyAt consts i passes n g action slot d
    → MayAt consts i passes n d
may_of consts i passes n g action slot d ready s q list at there looked =
    let x = ready s q list at there looked in (x.may, x.by)

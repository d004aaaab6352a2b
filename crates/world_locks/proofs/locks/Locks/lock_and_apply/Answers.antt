-- A deed on the inode of the number, if there is one, under the locks that it needs.
use Rattle.std.proofs.Common.{ℕ, ◌≤◌, ◌∙◌, length, subst}
use Rattle.task_state.specs.Steps.{deed_in}
use Rattle.task_steps.specs.Hashed.{NeedsLocks}
use Rattle.task_steps.specs.declared.locking.DeedLocks.{DeedLocks}
use Rattle.world_locks.proofs.Meeting.{none_met}
use Rattle.world_locks.proofs.locks.Locks.lock_and_apply.Goals as goal

pub returns-then-i-len : goal.returns-then-i-len
returns-then-i-len g c =
    let own = c.args.self.now in
    let none : length g.N.Name.consts.each_inode ≤ c.args.i =
    subst (λ (n : ℕ). n ≤ c.args.i) (c.len.ensures ∙ own.world_inodes.ok.0 ∙ own.count)
    c.if-i-len.true in
    none_met g.N.Name.consts c.args.i c.args.passes.now c.args.actor.now.who
    (deed_in c.args.due) c.args.hash_state.now none

pub apply_with_list-requires-clause-adds : goal.apply_with_list-requires-clause-adds
apply_with_list-requires-clause-adds g c κs within =
    subst (λ (l : DeedLocks). NeedsLocks (deed_in c.args.due) l) c.in-WithList.is
    c.locks_of.ensures

pub apply_page-requires-clause-page : goal.apply_page-requires-clause-page
apply_page-requires-clause-page g c κs within =
    subst (λ (l : DeedLocks). NeedsLocks (deed_in c.args.due) l) c.in-Page.is c.locks_of.ensures

pub apply_without_list-requires-clause-alone : goal.apply_without_list-requires-clause-alone
apply_without_list-requires-clause-alone g c κs within =
    (subst (λ (l : DeedLocks). NeedsLocks (deed_in c.args.due) l) c.in-Alone.is
    c.locks_of.ensures).0

-- A check of the inode of the number, if there is one.
use Rattle.std.proofs.Common.{ℕ, ◌≤◌, ◌∙◌, length, subst}
use Rattle.world_locks.proofs.Meeting.{unasked_met}
use Rattle.world_locks.proofs.locks.Locks.lock_and_check.Goals as goal

pub returns-then-i-len : goal.returns-then-i-len
returns-then-i-len g c =
    let own = c.args.self.now in
    let none : length g.N.Name.consts.each_inode ≤ c.args.i =
    subst (λ (n : ℕ). n ≤ c.args.i) (c.len.ensures ∙ own.world_inodes.ok.0 ∙ own.count)
    c.if-i-len.true in
    unasked_met g.N.Name.consts c.args.i c.args.passes.now c.args.actor.now.who
    c.args.actor.now.cred.now c.args.asked none

-- The last inode is put under its lock, and those before it remain.
use Rattle.std.proofs.Common.{◌≡◌, ℕ, ◌-◌, ap, arith, length, length-append, subst}
use Rattle.world_close.specs.worlds.World.{IsWorldInode}
use Rattle.world_locks.proofs.Locking.{each_before, last_is}
use Rattle.world_locks.proofs.locks.lock_each.Goals as goal

pub overflow_sub-number : goal.overflow_sub-number
overflow_sub-number g c =
    omega (
      arith,
      simp length-append at (ap length c.in-Some.ensures.items),
      c.loop-world_inode.invariant.number,
    )

pub new-requires-after_bounds : goal.new-requires-after_bounds
new-requires-after_bounds g c κs within =
    let left = c.pop.new.self in
    let place : length left.items ≡ c.loop-world_inode.number - 1 =
    omega (
      arith,
      simp length-append at (ap length c.in-Some.ensures.items),
      c.loop-world_inode.invariant.number,
    ) in
    subst (λ (n : ℕ). IsWorldInode g.N.Name.consts n c.in-Some.world_inode) place
    (last_is g.N.Name.consts c.loop-world_inode.left.items left.items c.in-Some.world_inode
    c.in-Some.ensures.items c.loop-world_inode.invariant.each)

pub loop-world_inode-preserved : goal.loop-world_inode-preserved
loop-world_inode-preserved g c = record {
  all = omega (
    arith,
    simp length-append at (ap length c.in-Some.ensures.items),
    simp length-append at (ap length c.in_ok-push.ensures.items),
    c.loop-world_inode.invariant.all,
  );
  number = omega (
    arith,
    simp length-append at (ap length c.in-Some.ensures.items),
    c.loop-world_inode.invariant.number,
  );
  each = each_before g.N.Name.consts c.loop-world_inode.left.items c.pop.new.self.items
      c.in-Some.world_inode c.in-Some.ensures.items c.loop-world_inode.invariant.each;
}

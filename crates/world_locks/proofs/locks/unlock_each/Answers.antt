-- One more inode is taken out of its lock.
use Rattle.std.proofs.Common.{ap, arith, length, length-append}
use Rattle.std.proofs.lemmas.List.{length_push}
use Rattle.std.proofs.lemmas.Result.{err_from_is_err_and}
use Rattle.world_locks.proofs.Locking.{each_more, each_none}
use Rattle.world_locks.proofs.locks.unlock_each.Goals as goal

pub returns-in_err-world_inode : goal.returns-in_err-world_inode
returns-in_err-world_inode g c =
    let p = err_from_is_err_and c.from_residual.result c.from_residual.ensures.1 in
    rw (p.1) tt

pub returns-in_err-push : goal.returns-in_err-push
returns-in_err-push g c =
    let p = err_from_is_err_and c.from_residual-in_err-push.result
    c.from_residual-in_err-push.ensures.1 in
    rw (p.1) tt

pub loop-mutex-init : goal.loop-mutex-init
loop-mutex-init g c = record {
  all = ap length c.requires.none;
  each = each_none g.N.Name.consts c.args.world_inodes.now.items c.requires.none;
}

pub loop-mutex-preserved : goal.loop-mutex-preserved
loop-mutex-preserved g c = record {
  all = omega (
    arith,
    simp length-append at (ap length c.in_ok-push.ensures.items),
    length_push c.loop-mutex.yielded c.in-Some.mutex,
    c.loop-mutex.invariant.all,
  );
  each = each_more g.N.Name.consts c.loop-mutex.world_inodes.items c.push.new.self.items
      c.len.result c.in_ok-world_inode.world_inode c.in_ok-push.ensures.items
      (omega (arith, c.len.ensures, c.loop-mutex.world_inodes.ok.0)) c.in_ok-world_inode.ensures
      c.loop-mutex.invariant.each;
}

use Rattle.std.proofs.Common.{◌≤◌, length, arith, sym, ◌∙◌}
use Rattle.world_start.proofs.Sharing.{shares_all, shares_more, shares_none}
use Rattle.world_start.specs.Started.{pass_of}
use Rattle.world_start.proofs.rows.share_out.Goals as goal

pub loop-k-init : goal.loop-k-init
loop-k-init c = record {
  end = omega (arith, c.len-k-end.ensures, c.args.rows.now.ok);
  shares = shares_none (pass_of c.args.world_inode.now) c.args.rows.now.items
      c.args.column.items c.requires.even c.requires.column;
}

pub loop-k-preserved : goal.loop-k-preserved
loop-k-preserved c =
    let old = c.loop-k.invariant in
    let more = shares_more (pass_of c.args.world_inode.now) c.loop-k.k c.args.rows.now.items
    c.loop-k.rows.items c.give.new.rows.items c.loop-k.column.items c.pop_front.new.self.items
    c.in-Some.pass c.in-Some.ensures.items c.in_ok-give.ensures old.shares in
    record { end = old.end ∙ old.shares.count ∙ sym more.count; shares = more }

pub returns-clause-given : goal.returns-clause-given
returns-clause-given c =
    let old = c.loop-k.invariant in
    let past : length c.args.rows.now.items ≤ c.loop-k.k =
    omega (arith, old.end, old.shares.count, c.loop-k-test.false) in
    shares_all (pass_of c.args.world_inode.now) c.loop-k.k c.args.rows.now.items
    c.loop-k.rows.items c.loop-k.column.items past old.shares

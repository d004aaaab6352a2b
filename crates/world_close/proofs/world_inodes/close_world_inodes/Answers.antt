use Rattle.std.proofs.Common.{◌≡◌, sym, ◌∙◌, ap, arith, length, length-append, ◌+◌, [], ◌∷◌, subst, ℕ}
use Rattle.world_close.specs.Rows.{RowsFit}
use Rattle.world_close.proofs.WorldInodeLemmas.{closed_more, named_front}
use Rattle.world_close.proofs.world_inodes.close_world_inodes.Goals as goal

pub close_last-requires : goal.close_last-requires
close_last-requires g c =
    let old = c.loop-world_inode.invariant in
    let n = named_front g.names (length c.loop-world_inode.rows.items) c.loop-world_inode.left.items
    c.pop.new.self.items c.in-Some.world_inode c.in-Some.ensures.items old.named in
    let here : length c.pop.new.self.items ≡ c.len-number.result =
    omega (arith, c.len-number.ensures, c.pop.new.self.ok) in
    let more : length c.loop-world_inode.left.items ≡ c.len-number.result + 1 =
    omega (
      arith,
      ap length c.in-Some.ensures.items,
      length-append c.pop.new.self.items (c.in-Some.world_inode ∷ []),
      here,
    ) in (
      subst (λ (m : ℕ). RowsFit m g.names c.loop-world_inode.rows.items) more old.fit,
      (n.1.0 ∙ ap g.names here, n.1.1),
    )

pub loop-world_inode-preserved : goal.loop-world_inode-preserved
loop-world_inode-preserved g c =
    let old = c.loop-world_inode.invariant in
    let done = c.in_ok-close_last.ensures in
    let here : length c.pop.new.self.items ≡ c.len-number.result =
    omega (arith, c.len-number.ensures, c.pop.new.self.ok) in
    let n = named_front g.names (length c.loop-world_inode.rows.items) c.loop-world_inode.left.items
    c.pop.new.self.items c.in-Some.world_inode c.in-Some.ensures.items old.named in
    record {
      count = done.count ∙ old.count;
      fit = subst (λ (m : ℕ). RowsFit m g.names c.close_last.new.rows.items) (sym here) done.fit;
      named = λ k s at.
          let m = n.0 k s at in (m.0, m.1 ∙ ap (λ (x : ℕ). x + 1) (sym done.count));
      closed = closed_more c.args.world_inodes.items c.loop-world_inode.left.items
          c.pop.new.self.items
          c.in-Some.world_inode c.loop-world_inode.closed.inodes c.close_last.new.closed.inodes
          c.loop-world_inode.closed.book c.close_last.new.closed.book c.loop-world_inode.closed.rules
          c.close_last.new.closed.rules c.in-Some.ensures.items done.inodes done.book done.rules
          old.closed;
    }

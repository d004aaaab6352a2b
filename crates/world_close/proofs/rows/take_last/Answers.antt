use Rattle.std.proofs.Common.{◌∙◌, refl, sym, subst, ◌≤◌, ℕ, arith}
use Rattle.std.proofs.lemmas.Result.{err_from_is_err_and}
use Rattle.world_close.proofs.Rowing.{mid_all, mid_none}
use Rattle.world_close.proofs.rows.take_last.Goals as goal

pub loop-k-init : goal.loop-k-init
loop-k-init g c = record {
  end = c.len-k-end.ensures ∙ c.args.rows.now.ok.0;
  count = refl;
  mid = mid_none c.args.number g.names c.args.rows.now.items c.new-column.result.items
      c.new-column.ensures.items c.requires;
}

pub loop-k-preserved : goal.loop-k-preserved
loop-k-preserved g c =
    let old = c.loop-k.invariant in
    let count = c.take_one.ensures.count in
    record {
      end = old.end ∙ sym count;
      count = count ∙ old.count;
      mid = c.in_ok-take_one.ensures.mid;
    }

pub returns-in_err-take_one : goal.returns-in_err-take_one
returns-in_err-take_one g c =
    let p = err_from_is_err_and c.from_residual.result c.from_residual.ensures.1 in
    rw (p.1) (record { column = tt; fit = tt; count = tt })

pub returns : goal.returns
returns g c =
    let m = c.loop-k.invariant in
    let all = c.loop-k-test.false in
    let most = c.loop-k.auto.k-end in
    record {
      column = (m.mid.column_fits, omega (arith, m.mid.count, all, most, m.end, m.count));
      fit = mid_all c.loop-k.k c.args.number g.names c.loop-k.rows.items c.loop-k.column.items
          (subst (λ (n : ℕ). n ≤ c.loop-k.k) m.end all) m.mid;
      count = m.count;
    }

use Rattle.std.proofs.Common.{ℕ, ◌+◌, ◌<◌, List, All, get_or, length, sym, ap, subst, ◌∙◌, arith}
use Rattle.std.proofs.lemmas.List.{length_push}
use Rattle.std.proofs.lemmas.List.Elements.{All-push}
use Rattle.view_journal.specs.declared.frame.Extent.{Extent}
use Rattle.view_journal.specs.Frame.{first_free}
use Rattle.view_journal.proofs.RowsSteps.{rows_all, rows_next}
use Rattle.view_journal.proofs.frame.rows.Goals as goal

abbrev no_extent : Extent
no_extent = record { from = 0; to = 0 }

pub loop-bar-preserved : goal.loop-bar-preserved
loop-bar-preserved c =
    let bars : List Extent = c.args.bars.now in
    let i : ℕ = c.loop-bar.bar-index in
    let row : ℕ = c.first_free-row.result in
    record {
      each = ap length c.in_ok-push.ensures.items
          ∙ (length_push c.loop-bar.rows.items row
          ∙ ap (λ (n : ℕ). n + 1) c.loop-bar.invariant.each);
      few = omega (arith, c.in_ok-end_row.ensures.few, c.loop-bar.invariant.few);
      small = subst (All (λ (r : ℕ). r < length bars)) (sym c.in_ok-push.ensures.items)
          (All-push (λ (r : ℕ). r < length bars) c.loop-bar.rows.items row
          c.loop-bar.invariant.small
          (omega (
            arith,
            c.first_free-row.ensures.within,
            ap length c.deref.ensures.value,
            c.loop-bar.invariant.few,
            c.loop-bar-test.true,
          )));
      same = rows_next bars i row no_extent c.loop-bar.rows.items c.push.new.self.items
          c.loop-bar.ends.items c.end_row.new.ends.items _ c.loop-bar-test.true
          (c.first_free-row.ensures.is
          ∙ ap (first_free (get_or bars i no_extent).from) c.deref.ensures.value)
          c.in_ok-end_row.ensures.is c.in_ok-push.ensures.items c.loop-bar.invariant.same;
    }

pub returns-clause-is : goal.returns-clause-is
returns-clause-is c =
    rows_all c.args.bars.now c.loop-bar.bar-index c.loop-bar.rows.items c.loop-bar.ends.items _
    c.loop-bar-test.false c.loop-bar.invariant.same

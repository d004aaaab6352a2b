use Rattle.std.proofs.Common.{◌≡◌, List, ℕ, ap, arith, length, slice_get, subst}
use Rattle.std.specs.Prelude.{IsSomeAnd}
use Rattle.order_runs.specs.declared.rows.Row.{Row}
use Rattle.order_runs.proofs.Rowing.{joined_at, placed}
use Rattle.order_runs.proofs.Stopping.{overflown, told}
use Rattle.order_runs.proofs.rows.add_row.Goals as goal

pub returns-in_ok-both-in-Some-clause-added : goal.returns-in_ok-both-in-Some-clause-added
returns-in_ok-both-in-Some-clause-added c =
    joined_at c.args.rows.now.items c.in-Some.place c.args.row c.index.result.now
    c.index_mut.result.now c.in_ok-both-in-Some.both
    (subst (λ (o : List ℕ). IsSomeAnd (slice_get c.args.rows.now.items c.in-Some.place)
    (λ (r : Row). r.outcome ≡ o)) c.as_slice-2.ensures.bytes
    (subst (λ (rows : List Row). IsSomeAnd (slice_get rows c.in-Some.place)
    (λ (r : Row). r.outcome ≡ c.as_slice-2.result.now)) c.as_slice.ensures.value
    c.in-Some.ensures))
    c.index.ensures c.index_mut.ensures.value c.in_ok-both-in-Some.ensures.both

pub returns-in_err-both-in-Some-clause-too_many : goal.returns-in_err-both-in-Some-clause-too_many
returns-in_err-both-in-Some-clause-too_many c =
    told _ _ c.in_err-both-in-Some.field-0.0 c.from_residual.result
    c.in_err-both-in-Some.ensures.too_many
    (overflown c.args.rows.now.items c.in-Some.place c.args.row c.index.result.now
    (subst (λ (o : List ℕ). IsSomeAnd (slice_get c.args.rows.now.items c.in-Some.place)
    (λ (r : Row). r.outcome ≡ o)) c.as_slice-2.ensures.bytes
    (subst (λ (rows : List Row). IsSomeAnd (slice_get rows c.in-Some.place)
    (λ (r : Row). r.outcome ≡ c.as_slice-2.result.now)) c.as_slice.ensures.value
    c.in-Some.ensures))
    c.index.ensures)
    c.from_residual.ensures.1

pub index_mut-requires : goal.index_mut-requires
index_mut-requires c =
    omega (
      arith,
      placed c.as_slice.result.now c.in-Some.place _ c.in-Some.ensures,
      ap length c.as_slice.ensures.value,
      c.args.rows.now.ok.0,
    )

use Rattle.std.proofs.Common.{◌≡◌, List, sym, ap, subst, ◌∙◌}
use Rattle.std.specs.Cmp.Lexicographic.{bytes_decides}
use Rattle.std.proofs.lemmas.Bool.{true≢false}
use Rattle.std.proofs.lemmas.List.{take_all}
use Rattle.std.proofs.lemmas.List.Elements.{All-more}
use Rattle.order_runs.specs.Steps.{HasNone}
use Rattle.order_runs.specs.declared.rows.Row.{Row}
use Rattle.order_runs.proofs.Rowing.{some_at}
use Rattle.order_runs.proofs.rows.place_of.Goals as goal

pub returns-then-eq : goal.returns-then-eq
returns-then-eq c =
    some_at (λ (r : Row). r.outcome ≡ c.args.outcome.now) c.args.rows.now c.loop-place.place
    c.index-rows-place.result c.loop-place-test.true c.index-rows-place.is
    (sym c.as_slice.ensures.bytes
    ∙ (bytes_decides c.as_slice.result.now c.args.outcome.now).0 (sym c.eq.ensures ∙ c.if-eq.true))

pub loop-place-preserved : goal.loop-place-preserved
loop-place-preserved c =
    All-more (λ (r : Row). r.outcome ≡ c.args.outcome.now → ⊥) c.args.rows.now c.loop-place.place
    c.index-rows-place.result c.loop-place-test.true c.loop-place.invariant
    (λ e. true≢false (sym ((bytes_decides c.as_slice.result.now c.args.outcome.now).1
    (c.as_slice.ensures.bytes ∙ ap (λ (r : Row). r.outcome) c.index-rows-place.is ∙ e))
    ∙ sym c.eq.ensures ∙ c.if-eq.false))

pub returns : goal.returns
returns c =
    subst (λ (rows : List Row). HasNone rows c.args.outcome.now)
    (take_all c.loop-place.place c.args.rows.now c.loop-place-test.false) c.loop-place.invariant

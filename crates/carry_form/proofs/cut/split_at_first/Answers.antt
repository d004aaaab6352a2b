-- The place of the first such byte, or the length, is where the bytes are split.
use Rattle.std.proofs.Common.{ℕ, ◌==◌, drop, take, ap, ◌∙◌}
use Rattle.carry_form.proofs.Cutting.{place-le, place_or_length}
use Rattle.carry_form.proofs.cut.split_at_first.Goals as goal

pub split_at-requires : goal.split_at-requires
split_at-requires c =
    place-le (λ b. b == c.args.byte) c.args.bytes.now c.unwrap_or.result
    (c.unwrap_or.ensures
    ∙ place_or_length (λ b. b == c.args.byte) c.args.bytes.now c.place_of.result c.place_of.ensures)

pub returns-clause-before : goal.returns-clause-before
returns-clause-before c =
    c.split_at.ensures.front
    ∙ ap (λ (n : ℕ). take n c.args.bytes.now)
    (c.unwrap_or.ensures
    ∙ place_or_length (λ b. b == c.args.byte) c.args.bytes.now c.place_of.result c.place_of.ensures)

pub returns-clause-after : goal.returns-clause-after
returns-clause-after c =
    c.split_at.ensures.back
    ∙ ap (λ (n : ℕ). drop n c.args.bytes.now)
    (c.unwrap_or.ensures
    ∙ place_or_length (λ b. b == c.args.byte) c.args.bytes.now c.place_of.result c.place_of.ensures)

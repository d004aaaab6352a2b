-- The parts have the lines of all entries, and all were made.
use Rattle.std.proofs.Common.{List, ℕ, ◌++◌, ap, ◌∙◌}
use Rattle.buffer_measure.specs.Parts.{entries_text}
use Rattle.buffer_measure.proofs.Parting.{all_parts}
use Rattle.buffer_measure.proofs.parts.push_lines.Goals as goal

pub returns : goal.returns
returns g c =
    c.in_ok-push_parts.ensures.bytes
    ∙ ap (λ (l : List ℕ). c.args.out.now ++ l)
    (all_parts c.in_ok-jobs.jobs.items c.in_ok-parts.parts.items c.in_ok-parts.ensures.count
    c.in_ok-parts.ensures.each c.in_ok-push_parts.ensures.made
    ∙ ap entries_text c.in_ok-jobs.ensures.entries)

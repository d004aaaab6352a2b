-- the lines of the pairs so far
use Rattle.std.proofs.Common.{◌≡◌, ◌++◌, take}
use Rattle.std.specs.List.{flat_map}
use Rattle.report_text.specs.Report.{attr_line}
use Rattle.report_events.specs.Texts.{line_text}
use Rattle.report_text.proofs.inodes.push_pairs.Given as goal

abbrev pub invariant-loop-pair : goal.invariant-loop-pair
invariant-loop-pair l =
    l.out.items ≡ l.fn.out.items
    ++ flat_map (λ p. line_text (attr_line p)) (take l.pair-index l.pairs)

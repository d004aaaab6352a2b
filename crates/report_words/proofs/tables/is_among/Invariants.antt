use Rattle.std.proofs.Common.{◌≡◌, length, map}
use Rattle.report_words.specs.Forms.{is_among}
use Rattle.report_words.proofs.tables.is_among.Given as goal

-- the remaining words decide
abbrev pub invariant-loop-table : goal.invariant-loop-table
invariant-loop-table l = is_among (map (λ w. w.now) l.table) l.word
    ≡ is_among (map (λ w. w.now) l.fn.table) l.word

abbrev pub decreases-loop-table : goal.decreases-loop-table
decreases-loop-table l = length l.table

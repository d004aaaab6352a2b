use Rattle.std.proofs.Common.{◌≡◌, length, map}
use Rattle.text_forms.specs.Tables.{look_up}
use Rattle.text_forms.proofs.table.look_up.Given as goal

-- the remaining entries decide
abbrev pub invariant-loop-table : goal.invariant-loop-table
invariant-loop-table g l = look_up (map (λ e. (e.0.now, e.1)) l.table) l.word
    ≡ look_up (map (λ e. (e.0.now, e.1)) l.fn.table) l.word

abbrev pub decreases-loop-table : goal.decreases-loop-table
decreases-loop-table g l = length l.table

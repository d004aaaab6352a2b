use Rattle.std.proofs.Common.{◌<◌, ◌≤◌, ℕ, List, length, slice_set, sym, ◌∙◌, ap, arith}
use Rattle.view_journal.specs.Frame.{first_free}
use Rattle.view_journal.proofs.RowsLemmas.{ends_with_new, ends_with_set}
use Rattle.view_journal.proofs.frame.end_row.Goals as goal

pub returns-then-row-len-clause-is : goal.returns-then-row-len-clause-is
returns-then-row-len-clause-is c =
    let ends : List ℕ = c.args.ends.now.items in
    let old : first_free c.args.from ends < length ends = omega arith in
    ap (λ (row : ℕ). slice_set ends row c.args.to) c.requires
    ∙ sym (ends_with_set c.args.from c.args.to ends old)

pub returns-clause-is : goal.returns-clause-is
returns-clause-is c =
    let ends : List ℕ = c.args.ends.now.items in
    let new : length ends ≤ first_free c.args.from ends = omega arith in
    c.in_ok-push.ensures.items ∙ sym (ends_with_new c.args.from c.args.to ends new)

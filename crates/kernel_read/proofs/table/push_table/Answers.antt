use Rattle.std.proofs.Common.{List, ℕ, ◌++◌, codes, ◌∙◌, ap}
use Rattle.report_text.proofs.Joins.{last_pushed}
use Rattle.kernel_read.proofs.Printing.{table_pushed}
use Rattle.kernel_read.proofs.table.push_table.Goals as goal

pub returns : goal.returns
returns c =
    last_pushed c.extend_from_slice-3.result c.extend_from_slice-2.new.self.items (codes "end\n")
    c.extend_from_slice-3.new.self.items c.extend_from_slice-3.ensures.items
    (λ pushed. pushed
    ∙ ap (λ (l : List ℕ). l ++ codes "end\n") (c.in_ok-extend_from_slice-2.ensures.items
    ∙ ap (λ (l : List ℕ). l ++ c.args.lines.now) (c.in_ok-extend_from_slice.ensures.items
    ∙ ap (λ (l : List ℕ). l ++ codes "\n") c.in_ok-push_numbers.ensures))
    ∙ table_pushed c.args.out.now.items c.args.count c.args.lines.now)

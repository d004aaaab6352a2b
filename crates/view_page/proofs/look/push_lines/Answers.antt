use Rattle.std.proofs.Common.{ℕ, Bor, List, [], ◌++◌, append-nil, sym, ap, ◌∙◌}
use Rattle.std.proofs.lemmas.List.{take_all}
use Rattle.list_lemmas.proofs.Appending.{one_more}
use Rattle.view_page.specs.Look.{lines_of}
use Rattle.view_page.proofs.look.push_lines.Goals as goal

pub loop-line-init : goal.loop-line-init
loop-line-init c = sym (append-nil c.args.out.now.items)

pub loop-line-preserved : goal.loop-line-preserved
loop-line-preserved c =
    one_more c.args.out.now.items (λ (l : Bor (List ℕ)). l.now) c.args.lines.now
    c.loop-line.line-index (record { ref_ptr = (0, 0); now = [] }) c.loop-line-test.true c.loop-line.invariant
    c.in_ok-push_all.ensures

pub returns : goal.returns
returns c =
    c.loop-line.invariant
    ∙ ap (λ (lines : List (Bor (List ℕ))). c.args.out.now.items ++ lines_of lines)
    (take_all c.loop-line.line-index c.args.lines.now c.loop-line-test.false)

use Rattle.std.proofs.Common.{List, ℕ, ◌++◌, codes, ◌∙◌, ap}
use Rattle.std.proofs.lemmas.Result.{err_from_is_err_and}
use Rattle.audit_trail.proofs.Printing.{last_pushed, trail_pushed}
use Rattle.audit_trail.proofs.text.push_trail.Goals as goal

pub returns : goal.returns
returns c = λ ls count body.
    last_pushed c.extend_from_slice-3.result c.extend_from_slice-2.new.self.items (codes "end\n")
    c.extend_from_slice-3.new.self.items c.extend_from_slice-3.ensures.items
    (λ k. k
    ∙ ap (λ (l : List ℕ). l ++ codes "end\n") (c.in_ok-extend_from_slice-2.ensures.items
    ∙ ap (λ (l : List ℕ). l ++ c.args.lines.now) (c.in_ok-extend_from_slice.ensures.items
    ∙ ap (λ (l : List ℕ). l ++ codes "\n") c.in_ok-push_numbers.ensures))
    ∙ trail_pushed c.args.out.now.items c.args.count c.args.lines.now ls count body)

-- without an answer nothing is said of the text
pub returns-in_err-push_numbers : goal.returns-in_err-push_numbers
returns-in_err-push_numbers c = λ ls count body.
    let p = err_from_is_err_and c.from_residual.result c.from_residual.ensures.1 in
    rw (p.1) tt

pub returns-in_err-extend_from_slice : goal.returns-in_err-extend_from_slice
returns-in_err-extend_from_slice c = λ ls count body.
    let p = err_from_is_err_and c.from_residual-in_err-extend_from_slice.result
    c.from_residual-in_err-extend_from_slice.ensures.1 in
    rw (p.1) tt

pub returns-in_err-extend_from_slice-2 : goal.returns-in_err-extend_from_slice-2
returns-in_err-extend_from_slice-2 c = λ ls count body.
    let p = err_from_is_err_and c.from_residual-in_err-extend_from_slice-2.result
    c.from_residual-in_err-extend_from_slice-2.ensures.1 in
    rw (p.1) tt

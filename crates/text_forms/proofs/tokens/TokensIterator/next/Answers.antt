use Rattle.std.proofs.Common.{rules, ◌≡◌, ◌+◌, ◌∷◌, length, arith}
use Rattle.std.proofs.lemmas.Bool.Decides.{nat_tests}
use Rattle.text_forms.specs.Tokens.{tokens}
use Rattle.text_forms.proofs.Cuts.{is_next}
use Rattle.text_forms.proofs.tokens.TokensIterator.next.Goals as goal

pub returns-then-is_empty-clause-steps : goal.returns-then-is_empty-clause-steps
returns-then-is_empty-clause-steps c =
    let n = is_next _ _ _ _ _ _ (rw c.first_inked.ensures at c.unwrap_or.ensures)
    c.split_at.ensures.back (rw c.first_blank.ensures at c.unwrap_or-2.ensures)
    c.split_at-2.ensures.front c.split_at-2.ensures.back in
    n.none (grind (arith, nat_tests, c.if-is_empty.ensures))

pub returns-else-is_empty-clause-steps : goal.returns-else-is_empty-clause-steps
returns-else-is_empty-clause-steps c =
    let n = is_next _ _ _ _ _ _ (rw c.first_inked.ensures at c.unwrap_or.ensures)
    c.split_at.ensures.back (rw c.first_blank.ensures at c.unwrap_or-2.ensures)
    c.split_at-2.ensures.front c.split_at-2.ensures.back in
    n.some (grind (arith, nat_tests, c.if-is_empty.ensures))

pub returns-else-is_empty-clause-goes : goal.returns-else-is_empty-clause-goes
returns-else-is_empty-clause-goes c =
    let e : tokens c.args.self.now.0.now ≡ c.split_at-2.result.0.now
    ∷ tokens c.split_at-2.result.1.now = returns-else-is_empty-clause-steps c in
    let shorter : length (tokens c.args.self.now.0.now)
    ≡ length (tokens c.split_at-2.result.1.now) + 1 = rw e (omega arith) in
    search rules

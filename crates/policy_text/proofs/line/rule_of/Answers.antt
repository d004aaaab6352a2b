use Rattle.std.proofs.Common.{◌≡◌, ℕ, List, ◌∷◌, Result, Ok, sym}
use Rattle.std.proofs.lemmas.Result.{err_from_is_err_and}
use Rattle.text_forms.specs.Tokens.{tokens}
use Rattle.policy_rules.specs.RuleValue.{RuleValue}
use Rattle.policy_text.specs.declared.fault.LineErr.{LineErr}
use Rattle.policy_text.specs.declared.fault.LineErr.TheVariants as err
use Rattle.policy_text.specs.declared.fault.RuleCause.{RuleCause}
use Rattle.policy_text.specs.Gives.{LineFails}
use Rattle.policy_text.specs.Grammar.{with_token, with_tokens}
use Rattle.policy_text.proofs.line.rule_of.Goals as goal

module _ (r : RuleValue) (token : List ℕ) (left ts : List (List ℕ))
    (whole : Result RuleValue RuleCause) (is : left ≡ token ∷ ts)
    (so_far : with_tokens r left ≡ whole) where
  -- the tokens after this one give the same
  token_on : (s : RuleValue) → with_token r token ≡ Ok s → with_tokens s ts ≡ whole
  token_on s good = rw good at (rw is at so_far)

  -- if the token fails, so does the line
  token_stops : (e : LineErr) → LineFails e (with_token r token) → LineFails e whole
  token_stops (err.Refused c) bad = sym (rw bad at (rw is at so_far))
  token_stops err.OutOfMemory bad = tt

pub loop-token-preserved : goal.loop-token-preserved
loop-token-preserved c =
    token_on c.loop-token.rule c.in-Some-token.token.now (tokens c.loop-token.token-iterator.0.now)
    (tokens c.next-in-loop-token.new.self.0.now) _ c.in-Some-token.ensures.steps c.loop-token.invariant
    c.in_ok-rule.rule c.in_ok-rule.ensures

pub returns-in_err-rule : goal.returns-in_err-rule
returns-in_err-rule c =
    let p = err_from_is_err_and c.from_residual.result c.from_residual.ensures.1 in
    rw (p.1, p.2)
    (token_stops c.loop-token.rule c.in-Some-token.token.now (tokens c.loop-token.token-iterator.0.now)
    (tokens c.next-in-loop-token.new.self.0.now) _ c.in-Some-token.ensures.steps c.loop-token.invariant
    c.in_err-rule.field-0.0 c.in_err-rule.ensures)

use Rattle.std.proofs.Common.{◌≡◌}
use Rattle.text_forms.specs.Tokens.{tokens}
use Rattle.policy_text.specs.Grammar.{with_tokens, rule_of}
use Rattle.policy_text.proofs.line.rule_of.Given as goal

abbrev pub invariant-loop-token : goal.invariant-loop-token
invariant-loop-token l = with_tokens l.rule (tokens l.token-iterator.0.now) ≡ rule_of l.line

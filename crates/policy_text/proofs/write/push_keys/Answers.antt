use Rattle.std.proofs.Common.{◌≡◌, arith}
use Rattle.policy_rules.specs.declared.key.Key.TheVariants as key
use Rattle.policy_rules.specs.Key.{keys}
use Rattle.policy_text.specs.Spelling.{key_text}
use Rattle.policy_rules.proofs.KeyLoops.{printed_more, texts_more}
use Rattle.policy_text.proofs.write.push_keys.Goals as goal

pub loop-key-preserved : goal.loop-key-preserved
loop-key-preserved c =
    printed_more c.args.out.now.items c.loop-key.out.items _ _ _ _ c.loop-key.invariant
    c.in_ok-push_key.ensures
    (texts_more (key_text c.args.rule.now) keys c.loop-key.key-index key.Func c.loop-key-test.true)

pub returns : goal.returns
returns c = let all : c.loop-key.key-index ≡ 17 = omega (arith, c.loop-key-test.false)
    in rw all at c.loop-key.invariant

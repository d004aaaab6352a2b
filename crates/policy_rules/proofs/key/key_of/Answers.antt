use Rattle.std.proofs.Common.{refl, sym, arith}
use Rattle.policy_rules.specs.declared.key.Key.TheVariants as key
use Rattle.policy_rules.specs.Key.{key_of, keys}
use Rattle.policy_rules.proofs.KeyLoops.{key_here, key_later, key_nowhere}
use Rattle.policy_rules.proofs.key.key_of.Goals as goal

pub returns-in-Some : goal.returns-in-Some
returns-in-Some c =
    key_here c.args.token.now (key_of c.args.token.now) keys c.loop-key.key-index key.Func
    c.in-Some.value.now c.loop-key-test.true (sym c.in-Some.ensures) c.loop-key.invariant

pub loop-key-preserved : goal.loop-key-preserved
loop-key-preserved c =
    key_later c.args.token.now (key_of c.args.token.now) keys c.loop-key.key-index key.Func _
    c.loop-key-test.true (sym c.in_default.ensures) refl c.loop-key.invariant

pub returns : goal.returns
returns c = key_nowhere c.args.token.now (key_of c.args.token.now) keys c.loop-key.key-index
    key.Func (omega (arith, c.loop-key-test.false)) c.loop-key.invariant

use Rattle.std.proofs.Common.{◌≡◌, suc, ◌-◌, ◌+◌, sym, ◌∙◌, arith}
use Rattle.load_gen.specs.Script.{group}
use Rattle.load_gen.proofs.Loops.{ended, groups_state, groups_text, no_groups_state, no_groups_text, piece_on}
use Rattle.load_gen.proofs.text.push_groups.Goals as goal

pub loop-k-preserved : goal.loop-k-preserved
loop-k-preserved c =
    let k = c.loop-k._k in
    let t = c.args.task in
    let x = c.loop-k.draws.state in
    let n = 64 - (k + 1) in
    let less : 64 - k ≡ suc n = omega (arith, c.loop-k-test.true) in
    rw c.in_ok-push_group.ensures.state (record {
      text = piece_on _ _ _ (group t x).text _ _ (groups_text (64 - k) n t x less)
          c.loop-k.invariant.text
          c.in_ok-push_group.ensures.text;
      state = sym (groups_state (64 - k) n t x less) ∙ c.loop-k.invariant.state;
    })

pub returns : goal.returns
returns c =
    let k = c.loop-k._k in
    let t = c.args.task in
    let x = c.loop-k.draws.state in
    let none : 64 - k ≡ 0 = omega arith in
    record {
      text = ended _ _ _ (no_groups_text (64 - k) t x none) c.loop-k.invariant.text;
      state = sym (no_groups_state (64 - k) t x none) ∙ c.loop-k.invariant.state;
    }

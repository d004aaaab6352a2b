use Rattle.std.proofs.Common.{◌≡◌, sym, ◌∙◌, arith, get_or}
use Rattle.hash_algos.specs.declared.algo.Algo.TheVariants as algo
use Rattle.hash_algos.specs.Algo.{algos, algo_name}
use Rattle.policy_text.proofs.Commas.{names_to, names_more_in, names_more_out, printed}
use Rattle.policy_text.proofs.write.push_algos.Goals as goal
use Rattle.policy_text.proofs.write.push_algos.Goals.{then-has+in_ok-push_after, else-has}

pub loop-algo-preserved : goal.loop-algo-preserved
loop-algo-preserved c =
    elim c.if-has.branch [
      | then-has+in_ok-push_after w ↦
          let ns = names_to c.in-Some.algos c.loop-algo.algo-index in
          let more = names_more_in c.in-Some.algos algos c.loop-algo.algo-index
          c.loop-algo-test.true (sym c.has.ensures ∙ w.if-has.true) in
          let p = printed c.args.out.now.items c.loop-algo.out.items c.loop-algo.comma.now
          w.push_after.new.out.items ns _
          (algo_name (get_or algos c.loop-algo.algo-index algo.Md5))
          c.loop-algo.invariant.text c.loop-algo.invariant.comma more
          (rw w.name.ensures at w.in_ok-push_after.ensures) in
          rw (w.out-is, w.comma-is) (record { text = p.0; comma = p.1 })
      | else-has w ↦
          let same = names_more_out c.in-Some.algos algos c.loop-algo.algo-index
          c.loop-algo-test.true (sym c.has.ensures ∙ w.if-has.false) in
          rw (w.out-is, w.comma-is, same) c.loop-algo.invariant
    ]

pub returns : goal.returns
returns c =
    let all : c.loop-algo.algo-index ≡ 6 = omega arith in
    rw c.in-Some.is (rw all at c.loop-algo.invariant.text)

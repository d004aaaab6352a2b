use Rattle.std.proofs.Common.{take, ◌++◌, rules, arith}
use Rattle.std.proofs.lemmas.Result.{err_from_is_err_and}
use Rattle.std.proofs.KnownBytes.{Appends-trans, Appends-kept}
use Rattle.ima_io.proofs.Parts.{moves_front, TookPart-of_rest}
use Rattle.ima_io.proofs.whole.write_all.Goals as goal

pub returns-in_err-n-clause-part : goal.returns-in_err-n-clause-part
returns-in_err-n-clause-part g c =
    let p = err_from_is_err_and c.from_residual.result c.from_residual.ensures.1 in
    let before = c.loop-rest.invariant in
    rw (p.1) (TookPart-of_rest _ _ _ before.done c.loop-rest.rest.now before.parts (search rules)
    (Appends-kept _ _ _ _ before.taken c.in_err-n.ensures.bytes))

pub loop-rest-preserved : goal.loop-rest-preserved
loop-rest-preserved g c =
    let before = c.loop-rest.invariant in
    let rest = c.loop-rest.rest.now in
    let n = c.in_ok-n.n in
    record {
      done = before.done ++ take n rest;
      parts = moves_front _ before.done rest n before.parts;
      taken = Appends-trans _ _ _ _ _ before.taken c.in_ok-n.ensures.bytes;
      count = omega (arith, before.count, c.in_ok-n.ensures.count);
    }

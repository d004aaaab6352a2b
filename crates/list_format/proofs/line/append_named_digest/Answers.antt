-- What was there before both appends stays.
use Rattle.std.proofs.Common.{arith}
use Rattle.list_lemmas.proofs.Kept.{kept_by_last}
use Rattle.list_format.proofs.line.append_named_digest.Goals as goal

pub returns-clause-kept : goal.returns-clause-kept
returns-clause-kept c =
    kept_by_last c.append_hex.result _ _ _ _ _ _ (omega arith) c.in_ok-append_name.ensures.ok
    c.append_hex.ensures.ok c.append_hex.ensures.err

-- What was there before both appends stays.
use Rattle.std.proofs.Common.{arith}
use Rattle.std.specs.Vec.{vec_len}
use Rattle.list_lemmas.proofs.Kept.{kept_before, kept_same}
use Rattle.list_format.proofs.record.append_ima.Goals as goal

pub returns-clause-kept : goal.returns-clause-kept
returns-clause-kept c =
    kept_before c.args.out.now.items c.extend_from_slice.new.self.items _ _
    (vec_len c.args.out.now) (vec_len c.extend_from_slice.new.self) (omega arith)
    c.in_ok-extend_from_slice.ensures.items c.append_sized.ensures.kept

pub returns-in_err-extend_from_slice-clause-kept : goal.returns-in_err-extend_from_slice-clause-kept
returns-in_err-extend_from_slice-clause-kept c =
    kept_same _ _ _ (omega arith) c.in_err-extend_from_slice.ensures.items

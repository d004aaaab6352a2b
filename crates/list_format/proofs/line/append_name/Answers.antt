-- What was there before both appends stays.
use Rattle.std.proofs.Common.{[], ◌∷◌, arith}
use Rattle.std.specs.Prelude.{is_ok}
use Rattle.list_lemmas.proofs.Kept.{kept_same}
use Rattle.list_format.proofs.AppendLemmas.{kept_unless}
use Rattle.list_format.proofs.line.append_name.Goals as goal

pub returns-clause-kept : goal.returns-clause-kept
returns-clause-kept c =
    kept_unless (is_ok c.extend_from_slice-2.result) c.args.out.now.items
    c.extend_from_slice.new.self.items _ (32 ∷ []) c.args.name.now _ (omega arith)
    c.in_ok-extend_from_slice.ensures.items c.extend_from_slice-2.ensures.items

pub returns-in_err-extend_from_slice-clause-kept : goal.returns-in_err-extend_from_slice-clause-kept
returns-in_err-extend_from_slice-clause-kept c =
    kept_same _ _ _ (omega arith) c.in_err-extend_from_slice.ensures.items

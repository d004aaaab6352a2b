-- The four parts of the header are appended.
use Rattle.std.proofs.Common.{ℕ, List, ◌++◌, arith}
use Rattle.std.proofs.lemmas.Result.{on_ok_weaker}
use Rattle.byteorder.specs.Endian.{little_bytes}
use Rattle.carry_form.specs.Form.{mark}
use Rattle.list_lemmas.proofs.Kept.{appended_both, kept_by_last}
use Rattle.list_carry.proofs.WritingLemmas.{appended_header}
use Rattle.list_carry.proofs.writing.append_header.Goals as goal

pub returns-clause-ok : goal.returns-clause-ok
returns-clause-ok c =
    on_ok_weaker c.append_u64-2.result
    (λ last. appended_header _ _ _ _ _ c.args.count c.args.whole
    c.in_ok-extend_from_slice.ensures.items c.in_ok-append_u32.ensures.ok
    c.in_ok-append_u64.ensures.ok last)
    c.append_u64-2.ensures.ok

pub returns-clause-kept : goal.returns-clause-kept
returns-clause-kept c =
    let o : List ℕ = c.args.out.now.items in
    let version : List ℕ = little_bytes 4 1 in
    let count : List ℕ = little_bytes 8 c.args.count in
    kept_by_last c.append_u64-2.result o _ _ (mark ++ version ++ count) _ _ (omega arith)
    (appended_both o _ _ (mark ++ version) count
    (appended_both o _ _ mark version c.in_ok-extend_from_slice.ensures.items
    c.in_ok-append_u32.ensures.ok)
    c.in_ok-append_u64.ensures.ok)
    c.append_u64-2.ensures.ok c.append_u64-2.ensures.err

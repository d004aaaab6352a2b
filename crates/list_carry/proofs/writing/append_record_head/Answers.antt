-- What was there before the head is kept.
use Rattle.std.proofs.Common.{ℕ, List, [], ◌∷◌, ◌++◌, arith}
use Rattle.byteorder.specs.Endian.{little_bytes}
use Rattle.list_lemmas.proofs.Kept.{appended_both, kept_by_last}
use Rattle.list_carry.proofs.writing.append_record_head.Goals as goal

pub returns-clause-kept : goal.returns-clause-kept
returns-clause-kept c =
    let o : List ℕ = c.args.out.now.items in
    let flag : List ℕ = c.flag.result ∷ [] in
    let pcr : List ℕ = little_bytes 4 c.from.result in
    kept_by_last c.append_byte-2.result o _ _ (flag ++ pcr) _ _ (omega arith)
    (appended_both o _ _ flag pcr c.in_ok-append_byte.ensures.ok c.in_ok-append_u32.ensures.ok)
    c.append_byte-2.ensures.ok c.append_byte-2.ensures.err

-- The concatenated parts are the head.
use Rattle.std.proofs.Common.{ℕ, [], ◌∷◌, List, ◌++◌, append_assoc, ap, sym, ◌∙◌, arith}
use Rattle.std.proofs.lemmas.Result.{err_from_is_err_and, on_ok_weaker}
use Rattle.std.specs.Vec.{vec_len}
use Rattle.hex.specs.Hex.{encode_lower}
use Rattle.inode_meta.specs.Words.{template_word}
use Rattle.inode_meta.specs.declared.measurement.Bank.TheVariants.{Sha1}
use Rattle.ima_templates.specs.declared.entry.Entry.{Entry}
use Rattle.ima_templates.specs.Digests.{template_digest}
use Rattle.list_format.specs.Line.{pcr_text}
use Rattle.list_lemmas.proofs.Kept.{appended_both, kept_append, kept_before, kept_same}
use Rattle.list_format.proofs.AppendLemmas.{appended-3}
use Rattle.list_format.proofs.line.append_head.Goals as goal

pub returns-clause-ok : goal.returns-clause-ok
returns-clause-ok c =
    let pcr = c.pcr_digits.ensures ∙ ap (λ (e : Entry). pcr_text e.pcr) c.e.view_is in
    let sum = c.as_slice.ensures.bytes ∙ ap (λ d. d.bytes) c.sum.ensures.digest in
    let word = c.as_bytes.ensures.value ∙ c.word.ensures
    ∙ ap (λ (e : Entry). template_word e.template) c.e.view_is in
    on_ok_weaker c.append_name.result
    (λ named. appended-3 _ _ _ _ _ _ _ c.in_ok-extend_from_slice.ensures.items
    c.in_ok-append_hex.ensures.ok named
    ∙ (λ i. c.args.out.now.items ++ ((pcr i ++ 32 ∷ encode_lower (sum i)) ++ 32 ∷ word i))
    ∙ ap (λ (l : List ℕ). c.args.out.now.items ++ (pcr_text c.args.e.now.pcr ++ 32 ∷ l))
    (sym (append_assoc (encode_lower (template_digest c.args.e.now Sha1).bytes) (32 ∷ [])
    (template_word c.args.e.now.template))))
    c.append_name.ensures.ok

pub returns-clause-kept : goal.returns-clause-kept
returns-clause-kept c =
    kept_before c.args.out.now.items c.append_hex.new.out.items _ _ (vec_len c.args.out.now)
    (vec_len c.append_hex.new.out) (omega arith)
    (appended_both c.args.out.now.items _ _ c.pcr_digits.result _
    c.in_ok-extend_from_slice.ensures.items c.in_ok-append_hex.ensures.ok)
    c.append_name.ensures.kept

pub returns-in_err-extend_from_slice : goal.returns-in_err-extend_from_slice
returns-in_err-extend_from_slice c =
    let p = err_from_is_err_and c.from_residual.result c.from_residual.ensures.1 in
    rw (p.1) record {
      ok = tt;
      kept = kept_same _ _ _ (omega arith) c.in_err-extend_from_slice.ensures.items;
    }

pub returns-in_err-append_hex : goal.returns-in_err-append_hex
returns-in_err-append_hex c =
    let p = err_from_is_err_and c.from_residual-in_err-append_hex.result
    c.from_residual-in_err-append_hex.ensures.1 in
    rw (p.1) record {
      ok = tt;
      kept = kept_append _ _ _ _ (omega arith)
          (c.in_err-append_hex.ensures.err ∙ c.in_ok-extend_from_slice.ensures.items);
    }

-- The concatenated parts are the record.
use Rattle.std.proofs.Common.{◌≡◌, ℕ, List, ◌++◌, ap, ◌∙◌, arith}
use Rattle.std.specs.Vec.{vec_len}
use Rattle.std.proofs.lemmas.Result.{err_from_is_err_and, on_ok_weaker}
use Rattle.byteorder.specs.Endian.{little_bytes}
use Rattle.inode_meta.specs.Words.{template_word}
use Rattle.inode_meta.specs.declared.measurement.Bank.TheVariants.{Sha1}
use Rattle.ima_templates.specs.declared.entry.Entry.{Entry}
use Rattle.ima_templates.specs.Data.{sized}
use Rattle.ima_templates.specs.Digests.{template_digest}
use Rattle.list_format.specs.Record.{binary_record, shown_data}
use Rattle.list_lemmas.proofs.Kept.{appended_both, kept_append, kept_before, kept_same}
use Rattle.list_format.proofs.AppendLemmas.{appended-3, appended-4}
use Rattle.list_format.proofs.record.append_record.Goals as goal

pub returns-clause-ok : goal.returns-clause-ok
unfolding binary_record
returns-clause-ok c =
    let pcr_is : c.e.inside.pcr ≡ c.args.e.now.pcr = ap (λ (x : Entry). x.pcr) c.e.view_is in
    let sum_is : c.as_slice.result.now ≡ (template_digest c.args.e.now Sha1).bytes =
    c.as_slice.ensures.bytes ∙ ap (λ d. d.bytes) c.sum.ensures.digest in
    let word_is : c.as_bytes.result.now ≡ template_word c.args.e.now.template =
    c.as_bytes.ensures.value ∙ c.word.ensures
    ∙ ap (λ (x : Entry). template_word x.template) c.e.view_is in
    let parts : List ℕ → List ℕ → ℕ → List ℕ = λ sum word pcr.
    ((little_bytes 4 pcr ++ sum) ++ sized word) ++ shown_data c.args.e.now.template c.args.e.now in
    on_ok_weaker c.append_data.result
    (λ shown. appended-4 _ _ _ _ _ _ _ _ _ c.in_ok-append_number.ensures.ok
    c.in_ok-extend_from_slice.ensures.items
    c.in_ok-append_sized.ensures.ok shown
    ∙ ap (λ l. c.args.out.now.items ++ l)
    (ap (λ s. parts s c.as_bytes.result.now c.e.inside.pcr) sum_is
    ∙ ap (λ w. parts (template_digest c.args.e.now Sha1).bytes w c.e.inside.pcr) word_is
    ∙ ap (λ n. parts (template_digest c.args.e.now Sha1).bytes
    (template_word c.args.e.now.template) n) pcr_is))
    c.append_data.ensures.ok

pub returns-clause-kept : goal.returns-clause-kept
returns-clause-kept c =
    kept_before c.args.out.now.items c.append_sized.new.out.items _ _ (vec_len c.args.out.now)
    (vec_len c.append_sized.new.out) (omega arith)
    (appended-3 _ _ _ _ _ _ _ c.in_ok-append_number.ensures.ok
    c.in_ok-extend_from_slice.ensures.items c.in_ok-append_sized.ensures.ok)
    c.append_data.ensures.kept

pub returns-in_err-append_number : goal.returns-in_err-append_number
returns-in_err-append_number c =
    let p = err_from_is_err_and c.from_residual.result c.from_residual.ensures.1 in
    rw (p.1) record {
      ok = tt;
      kept = kept_same _ _ _ (omega arith) c.in_err-append_number.ensures.err;
    }

pub returns-in_err-extend_from_slice : goal.returns-in_err-extend_from_slice
returns-in_err-extend_from_slice c =
    let p = err_from_is_err_and c.from_residual-in_err-extend_from_slice.result
    c.from_residual-in_err-extend_from_slice.ensures.1 in
    rw (p.1) record {
      ok = tt;
      kept = kept_append _ _ _ _ (omega arith)
          (c.in_err-extend_from_slice.ensures.items ∙ c.in_ok-append_number.ensures.ok);
    }

pub returns-in_err-append_sized : goal.returns-in_err-append_sized
returns-in_err-append_sized c =
    let p = err_from_is_err_and c.from_residual-in_err-append_sized.result
    c.from_residual-in_err-append_sized.ensures.1 in
    rw (p.1) record {
      ok = tt;
      kept = kept_before c.args.out.now.items c.extend_from_slice.new.self.items _ _
          (vec_len c.args.out.now) (vec_len c.extend_from_slice.new.self) (omega arith)
          (appended_both c.args.out.now.items _ _ (little_bytes 4 c.e.inside.pcr) _
          c.in_ok-append_number.ensures.ok
          c.in_ok-extend_from_slice.ensures.items)
          c.in_err-append_sized.ensures.kept;
    }

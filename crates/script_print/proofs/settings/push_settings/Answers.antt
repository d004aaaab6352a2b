use Rattle.std.proofs.Common.{◌≡◌, [], ◌∷◌, ap, ◌∙◌}
use Rattle.std.specs.Prelude.{codes}
use Rattle.std.proofs.lemmas.Result.{on_ok_weaker}
use Rattle.hash_algos.specs.Algo.{algo_name}
use Rattle.inode_meta.specs.Words.{mode_word, template_word}
use Rattle.script_text.specs.ScriptValue.{ScriptValue}
use Rattle.call_lines.specs.Form.{hex_text}
use Rattle.script_spelling.proofs.Pieces.{five_put}
use Rattle.script_print.proofs.settings.push_settings.Goals as goal

pub returns : goal.returns
returns c =
    let s = c.args.script.now in
    let hash : c.as_bytes.result.now ≡ algo_name s.hash =
    c.as_bytes.ensures.value ∙ c.name.ensures ∙ ap (λ (v : ScriptValue). algo_name v.hash)
    c.script.view_is in
    let template : c.as_bytes-2.result.now ≡ template_word s.template =
    c.as_bytes-2.ensures.value ∙ c.word.ensures ∙ ap (λ (v : ScriptValue). template_word v.template)
    c.script.view_is in
    let boot : c.as_slice.result.now ≡ s.boot.bytes =
    c.as_slice.ensures.bytes ∙ ap (λ (v : ScriptValue). v.boot.bytes) c.script.view_is in
    let mode : c.as_bytes-3.result.now ≡ mode_word s.mode =
    c.as_bytes-3.ensures.value ∙ c.word-2.ensures ∙ ap (λ (v : ScriptValue). mode_word v.mode)
    c.script.view_is in
    on_ok_weaker c.push_line-4.result
    (λ k. five_put c.args.out.now.items c.push_line.new.out.items c.push_line-2.new.out.items
    c.push_line-3.new.out.items c.push_value_line.new.out.items c.push_line-4.new.out.items
    (codes "imakern" ∷ codes "1" ∷ []) (codes "hash" ∷ algo_name s.hash ∷ [])
    (codes "template" ∷ template_word s.template ∷ []) (codes "boot" ∷ hex_text s.boot.bytes ∷ [])
    (codes "appraise" ∷ mode_word s.mode ∷ []) c.in_ok-push_line.ensures
    (rw hash at c.in_ok-push_line-2.ensures) (rw template at c.in_ok-push_line-3.ensures)
    (rw boot at c.in_ok-push_value_line.ensures) (rw mode at k)) c.push_line-4.ensures

use Rattle.std.proofs.Common.{◌≡◌, [], ◌∷◌, map, refl, ap, ◌∙◌}
use Rattle.std.specs.Prelude.{codes}
use Rattle.std.specs.List.{flat_map}
use Rattle.std.proofs.lemmas.Result.{on_ok_weaker}
use Rattle.script_text.specs.ScriptValue.{ScriptValue}
use Rattle.call_lines.specs.Lines.{line_text, lines_text}
use Rattle.script_spelling.specs.Spelling.{format_word, key_lines, lock_lines, name_line}
use Rattle.script_spelling.proofs.Pieces.{four_put, one_line_text, text_of_map}
use Rattle.script_print.proofs.settings.push_evm.Goals as goal

pub returns : goal.returns
returns c =
    let s = c.args.script.now in
    let key : c.script.inside.key ≡ s.key = ap (λ (v : ScriptValue). v.key) c.script.view_is in
    let added : c.deref.result.now ≡ s.added =
    c.deref.ensures.value ∙ ap (λ (v : ScriptValue). v.added) c.script.view_is in
    let locked : c.script.inside.locked ≡ s.locked =
    ap (λ (v : ScriptValue). v.locked) c.script.view_is in
    let format : c.format_word.result.now ≡ format_word s.format =
    c.format_word.ensures ∙ ap (λ (v : ScriptValue). format_word v.format) c.script.view_is in
    let names : flat_map (λ w. line_text (name_line w)) c.deref.result.now
    ≡ lines_text (map name_line s.added) = rw added (text_of_map name_line s.added) in
    let last = codes "evm_format" ∷ format_word s.format ∷ [] in
    on_ok_weaker c.push_line.result
    (λ k. four_put c.args.out.now.items c.push_key.new.out.items c.push_names.new.out.items
    c.push_lock.new.out.items c.push_line.new.out.items (key_lines s.key) (map name_line s.added)
    (lock_lines s.locked) (last ∷ []) (flat_map (λ w. line_text (name_line w)) c.deref.result.now)
    (lines_text (lock_lines s.locked)) (line_text last) (rw key at c.in_ok-push_key.ensures) names
    c.in_ok-push_names.ensures refl (rw locked at c.in_ok-push_lock.ensures) (one_line_text last)
    (rw format at k)) c.push_line.ensures

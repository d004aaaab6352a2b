use Rattle.std.proofs.Common.{◌≡◌, map, refl, ap, ◌∙◌}
use Rattle.std.specs.List.{flat_map}
use Rattle.std.proofs.lemmas.Result.{on_ok_weaker}
use Rattle.script_text.specs.ScriptValue.{ScriptValue}
use Rattle.call_lines.specs.Lines.{line_text, lines_text}
use Rattle.script_spelling.specs.Spelling.{evm_lines, file_lines, setting_lines, super_line}
use Rattle.script_spelling.proofs.Pieces.{four_put, text_of_flat, text_of_map}
use Rattle.script_print.proofs.script.push_system.Goals as goal

pub returns : goal.returns
returns c =
    let s = c.args.script.now in
    let supers : c.deref.result.now ≡ s.supers =
    c.deref.ensures.value ∙ ap (λ (v : ScriptValue). v.supers) c.script.view_is in
    let files : c.deref-2.result.now ≡ s.files =
    c.deref-2.ensures.value ∙ ap (λ (v : ScriptValue). v.files) c.script.view_is in
    let super_text = flat_map (λ f. line_text (super_line f)) c.deref.result.now in
    let file_text = flat_map (λ f. lines_text (file_lines f)) c.deref-2.result.now in
    let supers_are : super_text ≡ lines_text (map super_line s.supers) =
    rw supers (text_of_map super_line s.supers) in
    let files_are : file_text ≡ lines_text (flat_map file_lines s.files) =
    rw files (text_of_flat file_lines s.files) in
    on_ok_weaker c.push_files.result
    (λ k. four_put c.args.out.now.items c.push_settings.new.out.items c.push_evm.new.out.items
    c.push_supers.new.out.items c.push_files.new.out.items (setting_lines s) (evm_lines s)
    (map super_line s.supers) (flat_map file_lines s.files) (lines_text (evm_lines s)) super_text
    file_text c.in_ok-push_settings.ensures refl c.in_ok-push_evm.ensures supers_are
    c.in_ok-push_supers.ensures files_are k) c.push_files.ensures

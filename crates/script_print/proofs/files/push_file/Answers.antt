use Rattle.std.proofs.Common.{map}
use Rattle.std.specs.List.{flat_map}
use Rattle.std.proofs.lemmas.Result.{on_ok_weaker}
use Rattle.call_lines.specs.Lines.{line_text}
use Rattle.script_spelling.specs.Spelling.{attr_line, file_line}
use Rattle.script_spelling.proofs.Pieces.{block_put, text_of_map}
use Rattle.script_print.proofs.files.push_file.Goals as goal

pub returns : goal.returns
returns c =
    let attrs = c.args.file.now.image.attrs in
    on_ok_weaker c.push_attrs.result
    (λ k. block_put c.args.out.now.items c.push_front.new.out.items c.push_attrs.new.out.items
    (file_line c.args.file.now) (map attr_line attrs)
    (flat_map (λ a. line_text (attr_line a)) attrs) c.in_ok-push_front.ensures
    (text_of_map attr_line attrs) (rw c.as_slice.ensures at k))
    c.push_attrs.ensures

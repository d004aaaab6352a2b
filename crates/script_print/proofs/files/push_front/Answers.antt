use Rattle.std.proofs.Common.{◌++◌}
use Rattle.std.specs.Prelude.{codes}
use Rattle.std.specs.Fmt.{decimal}
use Rattle.script_spelling.specs.Spelling.{content_words, kind_word, meta_words}
use Rattle.script_spelling.proofs.Pieces.{front_put}
use Rattle.script_print.proofs.files.push_front.Goals as goal

pub returns : goal.returns
returns c =
    let b = c.args.file.now in
    front_put c.args.out.now.items c.extend_from_slice.new.self.items c.push_word.new.out.items
    c.push_number.new.out.items c.push_meta.new.out.items c.push_content.new.out.items
    c.push.new.self.items (kind_word b.image.present) b.path (codes "fs=" ++ decimal b.fs)
    (meta_words b.image.meta) (content_words b.image)
    (rw c.kind_word.ensures at c.in_ok-extend_from_slice.ensures.items)
    (rw c.as_slice.ensures.bytes at c.in_ok-push_word.ensures)
    (rw c.from.ensures at c.in_ok-push_number.ensures) c.in_ok-push_meta.ensures
    c.in_ok-push_content.ensures c.in_ok-push.ensures.items

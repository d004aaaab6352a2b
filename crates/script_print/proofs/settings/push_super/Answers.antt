use Rattle.std.proofs.Common.{◌++◌}
use Rattle.std.specs.Prelude.{codes}
use Rattle.text_forms.specs.FileSystems.{magic_text, uuid_text}
use Rattle.script_spelling.specs.Spelling.{versions_word}
use Rattle.script_spelling.proofs.Pieces.{super_put}
use Rattle.script_print.proofs.settings.push_super.Goals as goal

pub returns : goal.returns
returns c =
    let f = c.args.fs.now in
    super_put c.args.out.now.items c.push_magic.new.out.items c.push_uuid.new.out.items
    c.extend_from_slice.new.self.items c.extend_from_slice-2.new.self.items
    c.push_word.new.out.items c.push.new.self.items (codes "fs")
    (codes "magic=" ++ magic_text f.magic) (codes "uuid=" ++ uuid_text f.uuid) (codes "name=")
    f.name (versions_word f.versions) c.in_ok-push_magic.ensures c.in_ok-push_uuid.ensures
    c.in_ok-extend_from_slice.ensures.items
    (rw c.as_slice.ensures.bytes at c.in_ok-extend_from_slice-2.ensures.items)
    (rw c.versions_word.ensures at c.in_ok-push_word.ensures) c.in_ok-push.ensures.items

-- The words that `file` and `absent` share are read again.
use Rattle.std.proofs.Common.{◌≡◌, ℕ, ◌^◌, ◌<◌, true, ◌&&◌, List, [], ◌∷◌, ◌++◌, Some, refl}
use Rattle.std.specs.Prelude.{codes}
use Rattle.std.specs.Fmt.{decimal}
use Rattle.std.specs.List.{list_all}
use Rattle.inode_meta.specs.declared.identity.Meta.{Meta}
use Rattle.text_forms.specs.Paths.{is_path}
use Rattle.script_text.specs.fields.FileFields.{Front, front_of}
use Rattle.script_text.specs.Forms.{is_id, is_ino, is_meta, is_mode}
use Rattle.script_text.specs.declared.blocks.FileBlock.{FileBlock}
use Rattle.call_lines.proofs.Holding.{left_true, right_true}
use Rattle.call_lines.specs.Lines.{is_plain}
use Rattle.call_lines.specs.Form.{octal}
use Rattle.script_spelling.specs.Spelling.{meta_words}
use Rattle.script_print.proofs.AttrsAgain.{with_attrs}
use Rattle.script_spelling.proofs.Words.{decimal_plain, id_back, id_plain, ino_back, ino_plain, mode_back, numeral_back, octal_plain, path_plain}

-- the front of a block, as the words that `file` and `absent` share give it
abbrev pub front_for : FileBlock → Front
front_for b = record {
  path = b.path;
  fs = decimal b.fs;
  ino = b.image.meta.ino;
  generation = b.image.meta.generation;
  uid = b.image.meta.uid;
  gid = b.image.meta.gid;
  mode = b.image.meta.mode;
}

-- the block before its attributes
abbrev pub bare_block : FileBlock → FileBlock
bare_block b = with_attrs b []

-- the numbers in the metadata are within their limits
pub record IsMeta (m : Meta) : Type 0 where
  pub ino : is_ino m.ino ≡ true
  pub generation : is_id m.generation ≡ true
  pub uid : is_id m.uid ≡ true
  pub gid : is_id m.gid ≡ true
  pub mode : is_mode m.mode ≡ true

pub meta_parts : (m : Meta) → is_meta m ≡ true → IsMeta m
meta_parts m h =
    let a = is_ino m.ino in
    let b = is_id m.generation in
    let c = is_id m.uid in
    let d = is_id m.gid in
    let e = is_mode m.mode in
    let h4 : (a && b && c && d) ≡ true = left_true (a && b && c && d) e h in
    let h3 : (a && b && c) ≡ true = left_true (a && b && c) d h4 in
    let h2 : (a && b) ≡ true = left_true (a && b) c h3 in
    record {
      ino = left_true a b h2;
      generation = right_true a b h2;
      uid = right_true (a && b) c h3;
      gid = right_true (a && b && c) d h4;
      mode = right_true (a && b && c && d) e h;
    }

abbrev pub shared_words : FileBlock → List (List ℕ)
shared_words b = b.path ∷ (codes "fs=" ++ decimal b.fs) ∷ meta_words b.image.meta

module _ (b : FileBlock) (path : is_path b.path ≡ true) (meta : IsMeta b.image.meta)
    (fits : b.fs < 2 ^ 64) where
  pub shared_plain : list_all is_plain (shared_words b) ≡ true
  shared_plain =
      rw (
        path_plain b.path path,
        decimal_plain b.fs fits,
        ino_plain b.image.meta.ino meta.ino,
        id_plain b.image.meta.generation meta.generation,
        id_plain b.image.meta.uid meta.uid,
        id_plain b.image.meta.gid meta.gid,
        octal_plain b.image.meta.mode meta.mode,
      ) refl

  pub front_back : front_of b.path (codes "fs=" ++ decimal b.fs)
      (codes "ino=" ++ decimal b.image.meta.ino)
      (codes "gen=" ++ decimal b.image.meta.generation)
      (codes "uid=" ++ decimal b.image.meta.uid) (codes "gid=" ++ decimal b.image.meta.gid)
      (codes "mode=" ++ octal b.image.meta.mode) ≡ Some (front_for b)
  front_back =
      rw (
        path,
        numeral_back b.fs fits,
        ino_back b.image.meta.ino meta.ino,
        id_back b.image.meta.generation meta.generation,
        id_back b.image.meta.uid meta.uid,
        id_back b.image.meta.gid meta.gid,
        mode_back b.image.meta.mode meta.mode,
      ) refl

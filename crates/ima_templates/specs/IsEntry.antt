-- The invariant of an entry.
use Rattle.std.specs.Prelude.{◌≡◌, ◌≢◌, ◌<◌, ◌≤◌, true, [], length}
use Rattle.std.specs.List.{All}
use Rattle.hash_algos.specs.declared.algo.Algo.TheVariants.{Sha1}
use Rattle.hash_algos.specs.Digest.{HasDigestSize, zero_digest}
use Rattle.inode_meta.specs.Registers.{default_pcr}
use Rattle.inode_meta.specs.declared.measurement.Template.TheVariants.{Ima, ImaNg, ImaBuf}
use Rattle.xattr_store.specs.Attrs.{most_value}
use Rattle.ima_templates.specs.declared.entry.Entry.TheInside.{Inside}
use Rattle.ima_templates.specs.EntryValue.{EntryValue}
use Rattle.ima_templates.specs.Path.{IsGraphic}

abbrev pub fields_of : Inside → EntryValue
fields_of e = record {
  pcr = e.pcr;
  template = e.template;
  digest = e.digest;
  name = e.name;
  sig = e.sig;
  violation = e.violation;
}

-- the further invariant of a violation
pub record IsViolation (e : EntryValue) : Type 0 where
  pub pcr : e.pcr ≡ default_pcr
  pub digest : e.digest ≡ zero_digest e.digest.algo
  pub sig : e.sig ≡ []
  pub template : e.template ≢ ImaBuf

pub record IsEntry (e : EntryValue) : Type 0 where
  pub pcr : e.pcr < 24
  pub digest_size : HasDigestSize e.digest
  pub digest_of_ima : e.template ≡ Ima → e.digest.algo ≡ Sha1
  pub name_not_empty : 1 ≤ length e.name
  pub name_at_most : length e.name ≤ 1024
  pub name_graphic : All IsGraphic e.name
  pub name_of_ima : e.template ≡ Ima → length e.name ≤ 255
  pub sig_at_most : length e.sig ≤ most_value
  pub sig_of_ima : e.template ≡ Ima → e.sig ≡ []
  pub sig_of_ima_ng : e.template ≡ ImaNg → e.sig ≡ []
  pub violation : e.violation ≡ true → IsViolation e

-- The invariant of an entry's fields: those that contracts see are a valid entry, and the others
-- are its template digests.
use Rattle.std.specs.Prelude.{◌≡◌}
use Rattle.inode_meta.specs.declared.measurement.Bank.TheVariants.{Sha1, Sha256}
use Rattle.ima_templates.specs.declared.entry.Entry.TheInside.{Inside}
use Rattle.ima_templates.specs.Digests.{template_digest}
use Rattle.ima_templates.specs.IsEntry.{IsEntry, fields_of}

pub record FieldsAgree (e : Inside) : Type 0 where
  pub entry : IsEntry (fields_of e)
  pub sha1 : e.sha1 ≡ (template_digest (fields_of e) Sha1).bytes
  pub sha256 : e.sha256 ≡ (template_digest (fields_of e) Sha256).bytes

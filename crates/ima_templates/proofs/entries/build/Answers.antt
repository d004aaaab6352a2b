-- The fields are those of the entry for these values, which is valid.
use Rattle.std.proofs.Common.{◌∙◌, subst, sym}
use Rattle.hash_algos.specs.Digest.{HasDigestSize}
use Rattle.ima_templates.specs.EntryValue.{fields}
use Rattle.ima_templates.specs.IsEntry.{IsEntry}
use Rattle.ima_templates.proofs.EntryLemmas.{entry_valid}
use Rattle.ima_templates.proofs.entries.build.Goals as goal

pub of_fields-requires : goal.of_fields-requires
of_fields-requires c =
    let digest = c.shown_digest-digest.ensures.digest in
    let name = c.in_ok-name.ensures.bytes ∙ c.shown_name.ensures in
    let sig = c.in_ok-sig.ensures.bytes ∙ c.shown_sig.ensures in
    subst IsEntry
    (λ i. fields c.args.pcr c.args.template (sym digest i) (sym name i) (sym sig i))
    (entry_valid c.args.pcr c.args.template c.args.file.now c.args.sha1.now c.args.path.now
    c.args.sig.now c.requires.pcr c.requires.sha1 c.requires.path c.requires.sig
    (subst HasDigestSize digest c.shown_digest-digest.ensures.size))

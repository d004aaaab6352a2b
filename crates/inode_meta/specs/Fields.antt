-- The fields of each template (Documentation/security/IMA-templates.rst).
use Rattle.std.specs.Prelude.{List, [], ◌∷◌}
use Rattle.inode_meta.specs.declared.measurement.Field.{Field}
use Rattle.inode_meta.specs.declared.measurement.Field.TheVariants.{Digest, Name, DigestNg, NameNg, Sig, Buf}
use Rattle.inode_meta.specs.declared.measurement.Template.{Template}
use Rattle.inode_meta.specs.declared.measurement.Template.TheVariants.{Ima, ImaNg, ImaSig, ImaBuf}

-- in the order in which the template data has them
abbrev pub template_fields : Template → List Field
template_fields Ima = Digest ∷ Name ∷ []
template_fields ImaNg = DigestNg ∷ NameNg ∷ []
template_fields ImaSig = DigestNg ∷ NameNg ∷ Sig ∷ []
template_fields ImaBuf = DigestNg ∷ NameNg ∷ Buf ∷ []

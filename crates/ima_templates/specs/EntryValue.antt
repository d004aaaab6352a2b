-- An entry as contracts see it.
use Rattle.std.specs.Prelude.{ℕ, Bool, false, List}
use Rattle.hash_algos.specs.declared.digest.Digest.{Digest}
use Rattle.inode_meta.specs.declared.measurement.Template.{Template}

-- an entry of the measurement list
pub record EntryValue : Type 0 where
  pub pcr : ℕ
  pub template : Template
  pub digest : Digest
  pub name : List ℕ
  pub sig : List ℕ
  pub violation : Bool

-- an entry with these fields
abbrev pub all_fields : ℕ → Template → Digest → List ℕ → List ℕ → Bool → EntryValue
all_fields pcr template digest name sig violation =
    record {
      pcr = pcr;
      template = template;
      digest = digest;
      name = name;
      sig = sig;
      violation = violation;
    }

-- an entry with these fields that isn't a violation
abbrev pub fields : ℕ → Template → Digest → List ℕ → List ℕ → EntryValue
fields pcr template digest name sig = all_fields pcr template digest name sig false

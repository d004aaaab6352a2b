-- Examples of the entries that the events of one inode add to the measurement list.
use Rattle.std.proofs.Common.{◌≡◌, true, false, [], ◌∷◌, codes, Some, None, refl}
use Rattle.hash_algos.specs.Digest.{digest_of, zero_digest}
use Rattle.hash_algos.specs.declared.algo.Algo.TheVariants.{Sha256}
use Rattle.ima_templates.specs.Same.{same}
use Rattle.ima_templates.specs.declared.entry.Entry.{Entry}
use Rattle.ima_templates.specs.declared.entry.Placed.TheVariants.{Added}
use Rattle.inode_meta.specs.declared.appraisal.Mode.TheVariants.{Off}
use Rattle.inode_meta.specs.declared.appraisal.Need.TheVariants.{Any}
use Rattle.inode_meta.specs.declared.measurement.Template.TheVariants.{ImaNg, ImaSig}
use Rattle.policy_rules.specs.declared.access.Action.{Action}
use Rattle.policy_rules.specs.declared.rule.Func.TheVariants.{FileCheck}
use Rattle.inode_events.specs.Asked.{asked, outcome}
use Rattle.inode_events.specs.Inode.{Inode}
use Rattle.inode_events.specs.Listing.{entries_added}
use Rattle.inode_events.specs.declared.deed.Deed.TheVariants as deed
use Rattle.inode_events.specs.declared.deed.How.TheVariants as how
use Rattle.inode_events.specs.declared.told.Told.TheVariants as told
use Rattle.inode_events.proofs.Examples.{Rows, abc, after, grant, inode_of, measure, no_key, plain}

-- ---- the entries

-- the entry of `abc` at /a under the script's template
abbrev pub file_entry : Entry
file_entry = record {
  pcr = 10;
  template = ImaNg;
  digest = digest_of Sha256 abc;
  name = codes "/a";
  sig = [];
  violation = false;
}

-- the violation of the file at /a
abbrev pub violation_entry : Entry
violation_entry = record {
  pcr = 10;
  template = ImaNg;
  digest = zero_digest Sha256;
  name = codes "/a";
  sig = [];
  violation = true;
}

-- an action with a register and a template that the rule names
abbrev to_eleven : Action
to_eleven = record {
  measure = true;
  pcr = 11;
  template = Some ImaSig;
  appraise = false;
  need = Any;
  algos = None;
  audit = false;
  hash = false;
}

-- a file whose label is a signature
abbrev signed : Inode
signed = inode_of Off no_key true abc ((codes "security.ima", 3 ∷ 2 ∷ []) ∷ []) true

-- the deeds of an open before the finish
abbrev hashed : Action → Rows
hashed action =
    (deed.Count (how.Read false), Some told.Held) ∷
    (deed.Check 1 FileCheck action 1, Some told.Quiet) ∷
    (deed.Take 1, Some told.Begun) ∷
    (deed.Chunk 1, Some told.Last) ∷
    []

-- the deeds of an open, including the finish
abbrev opened : Action → Rows
opened action =
    (deed.Count (how.Read false), Some told.Held) ∷
    (deed.Check 1 FileCheck action 1, Some told.Quiet) ∷
    (deed.Take 1, Some told.Begun) ∷
    (deed.Chunk 1, Some told.Last) ∷
    (deed.Finish 1, Some (told.Grant (grant (Some (Added 1)) None true false))) ∷
    []

-- A measurement has the action's register, the action's template or else the script's, and the
-- signature in the label.
plain_entry : entries_added plain (after plain (opened measure)) ≡ (1, file_entry) ∷ []
plain_entry = refl

-- the action names a register and a template, and the label is a signature
ruled_entry : entries_added signed (after signed (opened to_eleven))
    ≡ (
      1,
      record {
        pcr = 11;
        template = ImaSig;
        digest = digest_of Sha256 abc;
        name = codes "/a";
        sig = 3 ∷ 2 ∷ [];
        violation = false;
      },
    ) ∷ []
ruled_entry = refl

-- A violation has register 10 and the script's template and algorithm, whatever the rule says.
abbrev met : Rows
met =
    (deed.Count (how.Read false), Some told.Held) ∷
    (deed.Check 1 FileCheck to_eleven 1, Some told.Quiet) ∷
    (deed.Count (how.Write false false), Some told.Held) ∷
    (deed.Check 3 FileCheck to_eleven 1, Some (told.ToMToU 1)) ∷
    []

-- the ToMToU in `met` adds the violation
violation_added : entries_added signed (after signed met) ≡ (1, violation_entry) ∷ []
violation_added = refl

-- ---- the entries that steps ask for

-- a reader that was checked
abbrev checked : Rows
checked =
    (deed.Count (how.Read false), Some told.Held) ∷
    (deed.Check 1 FileCheck measure 1, Some told.Quiet) ∷
    []

-- a reader that was checked, and a writer
abbrev joined : Rows
joined =
    (deed.Count (how.Read false), Some told.Held) ∷
    (deed.Check 1 FileCheck measure 1, Some told.Quiet) ∷
    (deed.Count (how.Write false false), Some told.Held) ∷
    []

-- A finish asks for the file's entry.
finish_asks : asked plain (deed.Finish 1) (after plain (hashed measure)) ≡ Some file_entry
finish_asks = refl

-- A take asks for the file's entry if a digest is in force, and for none while a collection is
-- open.
take_asks : (asked plain (deed.Take 1) (after plain checked) ≡ None)
    × (asked plain (deed.Take 1) (after plain (opened measure)) ≡ Some file_entry)
    × (asked plain (deed.Take 1) (after plain (hashed measure)) ≡ None)
take_asks = (refl, refl, refl)

-- A check asks for the violation that it finds.
check_asks : (asked plain (deed.Check 1 FileCheck measure 1) (after plain (opened measure)) ≡ None)
    × (asked signed (deed.Check 3 FileCheck to_eleven 1) (after signed joined)
    ≡ Some violation_entry)
check_asks = (refl, refl)

-- The check's outcome reports the index at the end of the list, since no violation is the same as
-- another.
check_told_last : outcome signed (violation_entry ∷ violation_entry ∷ [])
    (deed.Check 3 FileCheck to_eleven 1) (after signed joined) ≡ Some (told.ToMToU 2)
unfolding same
check_told_last = refl

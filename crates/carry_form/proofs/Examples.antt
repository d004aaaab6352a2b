-- Carried forms written out by hand, and the causes for which others are refused.
use Rattle.std.proofs.Common.{◌≡◌, ℕ, ◌+◌, Bool, true, false, List, [], ◌∷◌, ◌++◌, length, take, drop, replicate, codes, Option, None, Some, Result, Ok, Err, refl}
use Rattle.ima_templates.specs.Data.{sized, template_data}
use Rattle.ima_templates.specs.Entries.{entry_of, violation_of}
use Rattle.ima_templates.specs.EntryValue.{all_fields}
use Rattle.ima_templates.specs.Same.{same}
use Rattle.ima_templates.specs.declared.entry.Entry.{Entry}
use Rattle.ima_templates.specs.hashes.Digest.{zero_digest}
use Rattle.ima_templates.specs.hashes.declared.algo.Algo.TheVariants as algo
use Rattle.ima_templates.specs.hashes.declared.digest.Digest.{Digest}
use Rattle.ima_templates.specs.meta.declared.measurement.Template.TheVariants.{Ima, ImaNg, ImaSig, ImaBuf}
use Rattle.carry_form.specs.Entries.{entry_in}
use Rattle.carry_form.specs.Form.{carried_form, header, record_of}
use Rattle.carry_form.specs.Reading.{has_header, load_of, record_in}
use Rattle.carry_form.specs.declared.causes.CarryCause.{CarryCause}
use Rattle.carry_form.specs.declared.causes.CarryCause.TheVariants as cause

-- the SHA-256 hash of `abc`
abbrev abc_sha256 : List ℕ
abc_sha256 =
    0xba ∷ 0x78 ∷ 0x16 ∷ 0xbf ∷ 0x8f ∷ 0x01 ∷ 0xcf ∷ 0xea ∷ 0x41 ∷ 0x41 ∷ 0x40 ∷ 0xde ∷ 0x5d
    ∷ 0xae ∷ 0x22 ∷ 0x23 ∷ 0xb0 ∷ 0x03 ∷ 0x61 ∷ 0xa3 ∷ 0x96 ∷ 0x17 ∷ 0x7a ∷ 0x9c ∷ 0xb4 ∷ 0x10
    ∷ 0xff ∷ 0x61 ∷ 0xf2 ∷ 0x00 ∷ 0x15 ∷ 0xad ∷ []

abbrev abc : Digest
abc = record { algo = algo.Sha256; bytes = abc_sha256 }

-- the boot aggregate without a TPM
abbrev boot : Entry
boot = entry_of 10 ImaNg (zero_digest algo.Sha256) (zero_digest algo.Sha1) (codes "boot_aggregate")
    []

-- the file `/a` with the content `abc`, in a register
abbrev a_in : ℕ → Entry
a_in pcr = entry_of pcr ImaNg abc (zero_digest algo.Sha1) (codes "/a") []

abbrev a : Entry
a = a_in 10

-- a violation of the file `/a`
abbrev tomtou : Entry
tomtou = violation_of ImaNg algo.Sha256 (codes "/a")

-- ---- the form

-- no violation, register 10, `ima-ng`, and 63 bytes of template data of the boot aggregate
boot_record : record_of boot ≡ (0 ∷ 10 ∷ 0 ∷ 0 ∷ 0 ∷ 1 ∷ 63 ∷ 0 ∷ 0 ∷ 0 ∷ [])
    ++ (40 ∷ 0 ∷ 0 ∷ 0 ∷ []) ++ codes "sha256:" ++ 0 ∷ [] ++ replicate 32 0
    ++ (15 ∷ 0 ∷ 0 ∷ 0 ∷ []) ++ codes "boot_aggregate" ++ 0 ∷ []
unfolding record_of template_data sized
boot_record = refl

-- a violation, register 10, `ima-ng`, and 51 bytes of template data with zeros as the digest
tomtou_record : record_of tomtou ≡ (1 ∷ 10 ∷ 0 ∷ 0 ∷ 0 ∷ 1 ∷ 51 ∷ 0 ∷ 0 ∷ 0 ∷ [])
    ++ (40 ∷ 0 ∷ 0 ∷ 0 ∷ []) ++ codes "sha256:" ++ 0 ∷ [] ++ replicate 32 0 ++ (3 ∷ 0 ∷ 0 ∷ 0 ∷ [])
    ++ codes "/a" ++ 0 ∷ []
unfolding record_of template_data sized
tomtou_record = refl

-- "IMAL", 01000000, 0200000000000000, 9e00000000000000 and two records
two_records : carried_form (boot ∷ a ∷ []) ≡ codes "IMAL" ++ (1 ∷ 0 ∷ 0 ∷ 0 ∷ [])
    ++ (2 ∷ 0 ∷ 0 ∷ 0 ∷ 0 ∷ 0 ∷ 0 ∷ 0 ∷ []) ++ (0x9e ∷ 0 ∷ 0 ∷ 0 ∷ 0 ∷ 0 ∷ 0 ∷ 0 ∷ [])
    ++ record_of boot ++ record_of a
unfolding header record_of template_data sized
two_records = refl

-- ---- reading it

-- bytes after a header with this number of records and the right length
abbrev read : ℕ → List ℕ → Result (List Entry) CarryCause
read count records = load_of (header count (24 + length records) ++ records)

abbrev one : List ℕ
one = record_of a

two_read : read 2 (record_of boot ++ one) ≡ Ok (boot ∷ a ∷ [])
unfolding load_of has_header header record_of record_in entry_in template_data sized same
two_read = refl

no_header : (load_of [] ≡ Err cause.Header) × (load_of (take 23 (header 1 24)) ≡ Err cause.Header)
    × (load_of (codes "IMAM" ++ drop 4 (header 1 24)) ≡ Err cause.Header)
    × (load_of (codes "IMAL" ++ (2 ∷ 0 ∷ 0 ∷ 0 ∷ []) ++ drop 8 (header 1 24)) ≡ Err cause.Header)
    × (load_of (codes "IMAL" ++ (0 ∷ 0 ∷ 0 ∷ 1 ∷ []) ++ drop 8 (header 1 24)) ≡ Err cause.Header)
    × (read 0 [] ≡ Err cause.Header) × (load_of (header 0 99) ≡ Err cause.Header)
unfolding load_of has_header header
no_header = (refl, refl, refl, refl, refl, refl, refl)

-- the length is looked at before the records
another_length : (load_of (header 1 25) ≡ Err cause.Short)
    × (load_of (header 1 0xffff_ffff_ffff_ffff ++ 9 ∷ []) ≡ Err cause.Short)
    × (load_of (header 1 24 ++ 9 ∷ []) ≡ Err cause.Trailing)
    × (load_of (header 1 0) ≡ Err cause.Trailing)
unfolding load_of has_header header
another_length = (refl, refl, refl, refl)

another_count : (read 1 [] ≡ Err cause.Record) × (read 2 one ≡ Err cause.Record)
    × (read 0xffff_ffff_ffff_ffff one ≡ Err cause.Record)
    × (read 1 (one ++ one) ≡ Err cause.Record)
unfolding load_of has_header header record_of record_in entry_in template_data sized
another_count = (refl, refl, refl, refl)

-- a flag of 2, the registers 24 and 266, the template 4, a length that is one too long or too short
bad_record : (read 1 (2 ∷ drop 1 one) ≡ Err cause.Record)
    × (read 1 (0 ∷ 24 ∷ drop 2 one) ≡ Err cause.Record)
    × (read 1 (0 ∷ 10 ∷ 1 ∷ drop 3 one) ≡ Err cause.Record)
    × (read 1 (take 5 one ++ 4 ∷ drop 6 one) ≡ Err cause.Record)
    × (read 1 (take 6 one ++ 52 ∷ drop 7 one) ≡ Err cause.Record)
    × (read 1 (take 6 one ++ 50 ∷ drop 7 one) ≡ Err cause.Record)
unfolding load_of has_header header record_of record_in entry_in template_data sized
bad_record = (refl, refl, refl, refl, refl, refl)

-- the same entry twice, but violations and entries of two registers are never the same; a bad
-- record comes first
again : (read 2 (one ++ one) ≡ Err cause.Twice)
    × (read 2 (record_of tomtou ++ record_of tomtou) ≡ Ok (tomtou ∷ tomtou ∷ []))
    × (read 2 (one ++ record_of (a_in 9)) ≡ Ok (a ∷ a_in 9 ∷ []))
    × (read 3 (one ++ one ++ 2 ∷ drop 1 one) ≡ Err cause.Record)
unfolding load_of has_header header record_of record_in entry_in template_data sized same
again = (refl, refl, refl, refl)

-- ---- template data

-- an entry with a name under `ima`
abbrev named : Bool → List ℕ → Entry
named violation name = all_fields 10 Ima (zero_digest algo.Sha1) name [] violation

-- whether the entry is read from its template data
abbrev back : Entry → Option Entry
back e = entry_in e.pcr e.template e.violation (template_data e)

-- names that end in a slash, which no path shows
slashes : (back (named false (codes "a/")) ≡ Some (named false (codes "a/")))
    × (back (named true (codes "/")) ≡ Some (named true (codes "/")))
    × (back (named false (replicate 255 97)) ≡ Some (named false (replicate 255 97)))
    × (back (named false (replicate 256 97)) ≡ None) × (back (named false []) ≡ None)
unfolding entry_in template_data
slashes = (refl, refl, refl, refl, refl)

-- a violation has register 10, zeros, no third field and no buffer
violations : (entry_in 9 ImaNg true (template_data tomtou) ≡ None)
    × (entry_in 10 ImaNg true (template_data a) ≡ None)
    × (back (all_fields 10 ImaSig (zero_digest algo.Sha256) (codes "/a") (3 ∷ []) true) ≡ None)
    × (back (all_fields 10 ImaBuf (zero_digest algo.Sha256) (codes "k") [] true) ≡ None)
    × (entry_in 10 ImaNg false (template_data tomtou)
    ≡ Some (all_fields 10 ImaNg (zero_digest algo.Sha256) (codes "/a") [] false))
unfolding entry_in template_data sized
violations = (refl, refl, refl, refl, refl)

-- a name with a space or a zero, a digest that is too long, a further byte, a field cut short
malformed : (back (all_fields 10 ImaNg abc (codes "a b") [] false) ≡ None)
    × (back (all_fields 10 ImaNg abc (97 ∷ 0 ∷ 98 ∷ []) [] false) ≡ None)
    × (back (all_fields 10 ImaNg (record { algo = algo.Md5; bytes = abc_sha256 }) (codes "/a") []
    false) ≡ None)
    × (entry_in 10 ImaNg false (template_data a ++ 0 ∷ []) ≡ None)
    × (entry_in 10 ImaNg false (take 50 (template_data a)) ≡ None)
    × (entry_in 10 ImaSig false (template_data a) ≡ None)
    × (entry_in 10 Ima false (template_data a) ≡ None)
unfolding entry_in template_data sized
malformed = (refl, refl, refl, refl, refl, refl, refl)

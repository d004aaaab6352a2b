-- Entries with their template data written out by hand, as a check on the definitions.
use Rattle.std.proofs.Common.{◌≡◌, ℕ, List, [], ◌∷◌, ◌++◌, replicate, codes, refl}
use Rattle.hash_algos.specs.declared.algo.Algo.TheVariants as algo
use Rattle.hash_algos.specs.declared.digest.Digest.{Digest}
use Rattle.hash_algos.specs.Digest.{zero_digest}
use Rattle.inode_meta.specs.declared.measurement.Template.TheVariants.{Ima, ImaNg, ImaSig, ImaBuf}
use Rattle.ima_templates.specs.declared.entry.Entry.{Entry}
use Rattle.ima_templates.specs.declared.entry.Placed.TheVariants.{Added, Already}
use Rattle.ima_templates.specs.Data.{sized, template_data}
use Rattle.ima_templates.specs.Entries.{entry_of, violation_of}
use Rattle.ima_templates.specs.Path.{last_component}
use Rattle.ima_templates.specs.Same.{add, placed, same}

-- the digest of a boot aggregate without a TPM
abbrev zeros : Digest
zeros = zero_digest algo.Sha256

-- the SHA-1 hash of `abc`
abbrev abc_sha1 : List ℕ
abc_sha1 =
    0xa9 ∷ 0x99 ∷ 0x3e ∷ 0x36 ∷ 0x47 ∷ 0x06 ∷ 0x81 ∷ 0x6a ∷ 0xba ∷ 0x3e ∷ 0x25 ∷ 0x71 ∷ 0x78 ∷ 0x50
    ∷ 0xc2 ∷ 0x6c ∷ 0x9c ∷ 0xd0 ∷ 0xd8 ∷ 0x9d ∷ []

-- the SHA-1 digest of a file `abc`
abbrev abc : Digest
abc = record { algo = algo.Sha1; bytes = abc_sha1 }

-- 28000000 "sha256:" 00, 32 zeros, 0f000000 "boot_aggregate" 00
boot_aggregate_ima_ng : template_data (entry_of 10 ImaNg zeros abc (codes "boot_aggregate") [])
    ≡ (0x28 ∷ 0 ∷ 0 ∷ 0 ∷ []) ++ codes "sha256:" ++ 0 ∷ [] ++ replicate 32 0
    ++ (15 ∷ 0 ∷ 0 ∷ 0 ∷ []) ++ codes "boot_aggregate" ++ 0 ∷ []
unfolding template_data sized
boot_aggregate_ima_ng = refl

-- the 20 bytes of the SHA-1 digest, whatever was collected, then "/a" and 254 zeros
a_ima : template_data (entry_of 10 Ima zeros abc (codes "/a") (3 ∷ 2 ∷ []))
    ≡ abc_sha1 ++ codes "/a" ++ replicate 254 0
unfolding template_data
a_ima = refl

-- 1a000000 "sha1:" 00, the digest, 03000000 "/a" 00, 02000000 and the signature
a_ima_sig : template_data (entry_of 9 ImaSig abc abc (codes "/a") (3 ∷ 2 ∷ []))
    ≡ (26 ∷ 0 ∷ 0 ∷ 0 ∷ []) ++ codes "sha1:" ++ 0 ∷ [] ++ abc_sha1 ++ (3 ∷ 0 ∷ 0 ∷ 0 ∷ [])
    ++ codes "/a" ++ 0 ∷ [] ++ 2 ∷ 0 ∷ 0 ∷ 0 ∷ 3 ∷ 2 ∷ []
unfolding template_data sized
a_ima_sig = refl

-- 28000000 "sha256:" 00, 32 zeros, 07000000 "kernel" 00, 03000000 "abc"
kernel_ima_buf : template_data (entry_of 10 ImaBuf zeros abc (codes "kernel") (codes "abc"))
    ≡ (0x28 ∷ 0 ∷ 0 ∷ 0 ∷ []) ++ codes "sha256:" ++ 0 ∷ [] ++ replicate 32 0 ++ (7 ∷ 0 ∷ 0 ∷ 0 ∷ [])
    ++ codes "kernel" ++ 0 ∷ [] ++ (3 ∷ 0 ∷ 0 ∷ 0 ∷ []) ++ codes "abc"
unfolding template_data sized
kernel_ima_buf = refl

-- the part of a path after its last slash
components : (last_component (codes "/usr/bin/cat") ≡ codes "cat")
    × (last_component (codes "kernel") ≡ codes "kernel") × (last_component (codes "/usr/") ≡ [])
components = (refl, refl, refl)

-- the entry of `/a` under the template `ima`
abbrev a : Entry
a = entry_of 10 Ima zeros abc (codes "/a") []

-- a file that is measured twice has one entry, and another under another template or register
a_twice : (placed (a ∷ []) a ≡ Already 0) × (add (a ∷ []) a ≡ a ∷ [])
    × (placed (a ∷ []) (entry_of 11 Ima zeros abc (codes "/a") []) ≡ Added 1)
    × (placed (a ∷ []) (entry_of 10 ImaNg zeros abc (codes "/a") []) ≡ Added 1)
unfolding template_data sized same
a_twice = (refl, refl, refl, refl)

-- a violation is added each time
violations : placed (violation_of ImaNg algo.Sha256 (codes "/a") ∷ [])
    (violation_of ImaNg algo.Sha256 (codes "/a")) ≡ Added 1
unfolding same
violations = refl

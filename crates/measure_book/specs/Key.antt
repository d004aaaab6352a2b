-- The key by which an entry is found in a list.
use Rattle.std.specs.Prelude.{ℕ, Bool, false, List, slice_get, if◌then◌else◌, Option, None, Some}
use Rattle.std.specs.Option.{option_map_or}
use Rattle.byteorder.specs.Endian.{big_number}
use Rattle.hash_algos.specs.Hash.{hash}
use Rattle.hash_algos.specs.declared.algo.Algo.TheVariants.{Sha256}
use Rattle.ima_templates.specs.Data.{template_data}
use Rattle.ima_templates.specs.Same.{same}
use Rattle.ima_templates.specs.declared.entry.Entry.{Entry}

-- the first eight bytes of the SHA-256 template digest. A violation has no key, since no entry is
-- the same as a violation.
unfoldable pub key_of : Entry → Option ℕ
key_of e = if e.violation then None else Some (big_number 8 (hash Sha256 (template_data e)))

-- the entry at this index is the same as e
abbrev pub stands_at : List Entry → Entry → ℕ → Bool
stands_at list e place = option_map_or (λ earlier. same earlier e) (slice_get list place) false

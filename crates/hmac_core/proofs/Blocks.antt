-- Facts about the key's block, which the proofs of `block_of` and `new` share.
use Rattle.std.proofs.Common.{◌≡◌, ℕ, ◌≤◌, List, ◌++◌, length, drop, replicate}
use Rattle.std.proofs.lemmas.Bool.{le-leb}
use Rattle.std.proofs.lemmas.List.{drop-replicate}
use Rattle.hmac_core.specs.Hmac.{block_key}

-- a key of at most a block's length, written over the beginning of a block of zeros
pub short_block : (key : List ℕ) → length key ≤ 64 →
    key ++ drop (length key) (replicate 64 0) ≡ block_key key
short_block key fits = rw (le-leb (length key) 64 fits) (simp drop-replicate)

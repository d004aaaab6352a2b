-- HMAC-SHA1 (RFC 2104) as a function on lists of bytes. SHA-1 works on blocks of 64 bytes, and its
-- digest has 20 bytes.
use Rattle.std.specs.Prelude.{ℕ, ◌-◌, nat_le, bit_xor, List, ◌++◌, length, map, replicate, if◌then◌else◌}
use Rattle.sha1.specs.Sha1.{sha1, Holds as HoldsSha1}
use Rattle.hmac_core.specs.declared.hmac.HmacSha1.{HmacSha1}

-- the key, hashed first if it is longer than a block
abbrev pub short_key : List ℕ → List ℕ
short_key key = if nat_le (length key) 64 then key else sha1 key

-- the key, padded with zeros to the length of a block
abbrev pub block_key : List ℕ → List ℕ
block_key key = short_key key ++ replicate (64 - length (short_key key)) 0

-- a block with each byte XORed with the same byte, which is ipad or opad
abbrev pub padded : ℕ → List ℕ → List ℕ
padded pad block = map (λ b. bit_xor b pad) block

-- H(K xor opad, H(K xor ipad, message)), with 0x36 as the bytes of ipad and 0x5c as those of opad
unfoldable pub hmac : List ℕ → List ℕ → List ℕ
hmac key message =
    sha1 (padded 0x5c (block_key key) ++ sha1 (padded 0x36 (block_key key) ++ message))

-- s is the state for this key after this message
unfoldable pub Holds : HmacSha1 → List ℕ → List ℕ → Type 0
Holds s key message =
    HoldsSha1 s.inner (padded 0x36 (block_key key) ++ message)
    × HoldsSha1 s.outer (padded 0x5c (block_key key))

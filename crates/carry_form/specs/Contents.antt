-- The contents of the fields of which template data are made (Documentation/security/
-- IMA-templates.rst).
use Rattle.std.specs.Prelude.{ℕ, ◌==◌, ◌&&◌, Bool, List, [], ◌∷◌, length, Option, Some, None, if◌then◌else◌}
use Rattle.std.specs.List.{before_first, list_all}
use Rattle.std.specs.Str.{byte}
use Rattle.ima_templates.specs.Data.{n_length}
use Rattle.ima_templates.specs.hashes.declared.algo.Algo.{Algo}
use Rattle.ima_templates.specs.hashes.declared.algo.Algo.TheVariants.{Sha1}
use Rattle.ima_templates.specs.hashes.declared.digest.Digest.{Digest}
use Rattle.ima_templates.specs.hashes.Algo.{algo_by_name, algo_size}
use Rattle.ima_templates.specs.meta.declared.measurement.Template.{Template}
use Rattle.ima_templates.specs.meta.declared.measurement.Template.TheVariants.{Ima, ImaNg, ImaSig, ImaBuf}
use Rattle.carry_form.specs.declared.contents.Contents.{Contents}
use Rattle.carry_form.specs.Cut.{◌>>=◌, cut_at, from_first, sized_in}

abbrev pub is_zero : ℕ → Bool
is_zero b = b == 0

abbrev pub is_colon : ℕ → Bool
is_colon b = b == byte ":"

-- ---- a digest

-- the digest by this algorithm, if it has as many bytes
abbrev pub digest_by : Algo → List ℕ → Option Digest
digest_by algo bytes =
    if length bytes == algo_size algo then Some (record { algo = algo; bytes = bytes }) else None

-- what stands in `d-ng` after the algorithm's name: a colon, a zero byte and the digest
abbrev pub digest_after : Algo → List ℕ → Option Digest
digest_after algo (c ∷ b ∷ bytes) = if is_zero b then digest_by algo bytes else None
digest_after algo _ = None

-- the digest whose field `d-ng` these bytes are
abbrev pub digest_in : List ℕ → Option Digest
digest_in field =
    algo_by_name (before_first is_colon field)
    >>= λ algo. digest_after algo (from_first is_colon field)

-- ---- a name

-- the name whose field `n-ng` these bytes are: the first zero byte is the last byte
abbrev pub name_in : List ℕ → Option (List ℕ)
name_in field =
    if length (from_first is_zero field) == 1 then Some (before_first is_zero field) else None

-- the name whose field `n` these bytes are: the name is padded with zeros
abbrev pub padded_in : List ℕ → Option (List ℕ)
padded_in field =
    if length field == n_length && list_all is_zero (from_first is_zero field)
    then Some (before_first is_zero field) else None

-- ---- all fields

-- a digest, a name, and what stands after them or in the third field
abbrev pub Fields : Type 0
Fields = Digest × List ℕ × List ℕ

abbrev pub shown : Contents → Fields
shown c = (c.digest, c.name.now, c.sig.now)

-- the contents of `d` and `n`
abbrev pub ima_in : List ℕ → Option Fields
ima_in bytes =
    cut_at (algo_size Sha1) bytes >>= λ p. digest_by Sha1 p.0
    >>= λ digest. padded_in p.1 >>= λ name. Some (digest, name, [])

-- a digest with the content of `n-ng`, and the bytes after it
abbrev pub named_in : Digest → List ℕ → Option Fields
named_in digest bytes =
    sized_in bytes >>= λ n. name_in n.0 >>= λ name. Some (digest, name, n.1)

-- the contents of `d-ng` and `n-ng`, and the bytes after them
abbrev pub head_in : List ℕ → Option Fields
head_in bytes =
    sized_in bytes >>= λ d. digest_in d.0 >>= λ digest. named_in digest d.1

-- the content of the last field, after its length
abbrev pub last_in : List ℕ → Option (List ℕ)
last_in bytes = sized_in bytes >>= λ p. if length p.1 == 0 then Some p.0 else None

abbrev pub nothing_in : List ℕ → Option (List ℕ)
nothing_in bytes = if length bytes == 0 then Some [] else None

-- the content of the third field, if the template has one
abbrev pub third_in : Template → List ℕ → Option (List ℕ)
third_in Ima bytes = nothing_in bytes
third_in ImaNg bytes = nothing_in bytes
third_in ImaSig bytes = last_in bytes
third_in ImaBuf bytes = last_in bytes

abbrev pub ng_in : Template → List ℕ → Option Fields
ng_in template bytes =
    head_in bytes >>= λ h. third_in template h.2 >>= λ sig. Some (h.0, h.1, sig)

-- the contents of the fields whose template data these bytes are
abbrev pub contents_in : Template → List ℕ → Option Fields
contents_in Ima bytes = ima_in bytes
contents_in ImaNg bytes = ng_in ImaNg bytes
contents_in ImaSig bytes = ng_in ImaSig bytes
contents_in ImaBuf bytes = ng_in ImaBuf bytes

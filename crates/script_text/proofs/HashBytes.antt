-- Hashes, labels and HMACs are bytes.
use Rattle.std.proofs.Common.{◌≡◌, ℕ, zero, suc, true, List, [], ◌∷◌, ◌++◌, take, replicate, refl, inl, inr, arith}
use Rattle.std.specs.Prelude.{slice_index}
use Rattle.std.specs.Int.{w32, w64, byte_at, bytes_high_first, bytes_low_first, to_be_bytes, to_le_bytes}
use Rattle.std.proofs.lemmas.Bool.{cases_Bool}
use Rattle.std.proofs.lemmas.Bool.Decides.{nat_tests}
use Rattle.std.proofs.lemmas.List.Folds.{list_all-append}
use Rattle.md5.specs.Md5.{md5, digest_bytes as md5_bytes}
use Rattle.sha1.specs.Sha1.{sha1, digest_bytes as sha1_bytes}
use Rattle.sha2.specs.Sha256.{sha224, sha256, initial_hash_224, digest_bytes as short_bytes, final_hash as short_hash}
use Rattle.sha2.specs.Sha512.{sha384, sha512, initial_hash_384, digest_bytes as long_bytes, final_hash as long_hash}
use Rattle.hash_algos.specs.Algo.{algo_id}
use Rattle.hash_algos.specs.Digest.{digest_of}
use Rattle.hash_algos.specs.Hash.{hash}
use Rattle.hash_algos.specs.declared.algo.Algo.{Algo}
use Rattle.hash_algos.specs.declared.algo.Algo.TheVariants as algo
use Rattle.evm_verify.specs.hmacs.Hmac.{hmac}
use Rattle.label_values.specs.Labels.{is_plain, label_of}
use Rattle.evm_verify.specs.Input.{evm_value}
use Rattle.script_text.specs.Forms.{are_bytes, is_byte}
use Rattle.call_lines.proofs.Holding.{both_true, left_true, right_true}

byte_small : (k n : ℕ) → is_byte (byte_at k n) ≡ true
byte_small zero n = grind (arith, nat_tests)
byte_small (suc k) n = grind (arith, nat_tests)

high_first : (k n : ℕ) → are_bytes (bytes_high_first k n) ≡ true
high_first zero n = refl
high_first (suc k) n = rw (byte_small k n) (high_first k n)

low_first : (k i n : ℕ) → are_bytes (bytes_low_first i k n) ≡ true
low_first zero i n = refl
low_first (suc k) i n = rw (byte_small i n) (low_first k (suc i) n)

-- a prefix of bytes is bytes
front : (n : ℕ) (xs : List ℕ) → are_bytes xs ≡ true → are_bytes (take n xs) ≡ true
front zero xs h = refl
front (suc n) [] h = refl
front (suc n) (x ∷ xs) h =
    both_true (is_byte x) (are_bytes (take n xs)) (left_true (is_byte x) (are_bytes xs) h)
    (front n xs (right_true (is_byte x) (are_bytes xs) h))

more : (xs ys : List ℕ) → are_bytes xs ≡ true → are_bytes ys ≡ true → are_bytes (xs ++ ys) ≡ true
more xs ys h k = rw (list_all-append is_byte xs ys, h, k) refl

of_md5 : (h : List ℕ) (n : ℕ) → are_bytes (md5_bytes h n) ≡ true
unfolding md5_bytes
of_md5 h zero = refl
of_md5 h (suc n) =
    more (md5_bytes h n) (to_le_bytes w32 (slice_index h n)) (of_md5 h n)
    (low_first 4 0 (slice_index h n))

of_sha1 : (h : List ℕ) (n : ℕ) → are_bytes (sha1_bytes h n) ≡ true
unfolding sha1_bytes
of_sha1 h zero = refl
of_sha1 h (suc n) =
    more (sha1_bytes h n) (to_be_bytes w32 (slice_index h n)) (of_sha1 h n)
    (high_first 4 (slice_index h n))

of_short : (h : List ℕ) (n : ℕ) → are_bytes (short_bytes h n) ≡ true
unfolding short_bytes
of_short h zero = refl
of_short h (suc n) =
    more (short_bytes h n) (to_be_bytes w32 (slice_index h n)) (of_short h n)
    (high_first 4 (slice_index h n))

of_long : (h : List ℕ) (n : ℕ) → are_bytes (long_bytes h n) ≡ true
unfolding long_bytes
of_long h zero = refl
of_long h (suc n) =
    more (long_bytes h n) (to_be_bytes w64 (slice_index h n)) (of_long h n)
    (high_first 8 (slice_index h n))

sha1_of : (m : List ℕ) → are_bytes (sha1 m) ≡ true
unfolding sha1
sha1_of m = of_sha1 _ 5

pub hash_of : (a : Algo) (m : List ℕ) → are_bytes (hash a m) ≡ true
unfolding md5 sha256 sha384 sha512 sha224
hash_of algo.Md5 m = of_md5 _ 4
hash_of algo.Sha1 m = sha1_of m
hash_of algo.Sha256 m = of_short _ 8
hash_of algo.Sha384 m =
    let h = long_hash initial_hash_384 m in front 48 (long_bytes h 8) (of_long h 8)
hash_of algo.Sha512 m = of_long _ 8
hash_of algo.Sha224 m =
    let h = short_hash initial_hash_224 m in front 28 (short_bytes h 8) (of_short h 8)

number_of : (a : Algo) → is_byte (algo_id a) ≡ true
number_of algo.Md5 = refl
number_of algo.Sha1 = refl
number_of algo.Sha256 = refl
number_of algo.Sha384 = refl
number_of algo.Sha512 = refl
number_of algo.Sha224 = refl

pub label_bytes : (a : Algo) (m : List ℕ) → are_bytes (label_of (digest_of a m)) ≡ true
label_bytes a m = elim (cases_Bool (is_plain a (hash a m))) [
  | inl e ↦ rw e (hash_of a m)
  | inr e ↦ rw (e, number_of a) (hash_of a m)
]

pub hmac_bytes : (key message : List ℕ) → are_bytes (evm_value key message) ≡ true
unfolding hmac
hmac_bytes key message = sha1_of _

pub zeros : (n : ℕ) → are_bytes (replicate n 0) ≡ true
zeros zero = refl
zeros (suc n) = zeros n

-- The lines of the list and of the registers are accepted.
use Rattle.std.proofs.Common.{◌≡◌, ◌≢◌, ℕ, zero, suc, ◌+◌, ◌*◌, ◌/◌, ◌%◌, ◌<◌, ◌≤◌, ◌==◌, Bool, true, ◌&&◌, nat_lt, List, [], ◌∷◌, ◌++◌, codes, length, length-append, take, Some, if◌then◌else◌, refl, sym, ap, ◌∙◌, subst, inl, inr, arith}
use Rattle.std.specs.Prelude.{slice_index}
use Rattle.std.specs.List.{list_all}
use Rattle.std.proofs.lemmas.Bool.{and_parts, cases_Bool, eq-eqb, eqb-false, eqb-true}
use Rattle.std.proofs.lemmas.List.{take_all}
use Rattle.hex.specs.Hex.{IsBytes, encode_lower, encode_with, lower_digits}
use Rattle.hex.proofs.HexLemmas as hexes
use Rattle.report_text.specs.Report.{entry_words, pcr_words}
use Rattle.report_text.specs.Words.{Line}
use Rattle.report_text.proofs.Entries.{digest_text, fields_are, sig_words}
use Rattle.report_text.specs.model.events.hashes.Algo.{algo_name, algo_size}
use Rattle.report_text.specs.model.events.hashes.Digest.{HasDigestSize}
use Rattle.report_text.specs.model.events.hashes.declared.algo.Algo.{Algo}
use Rattle.report_text.specs.model.events.hashes.declared.algo.Algo.TheVariants as algo
use Rattle.report_text.specs.model.events.hashes.declared.digest.Digest.{Digest}
use Rattle.report_text.specs.model.events.meta.declared.measurement.Bank.TheVariants as bank
use Rattle.report_text.specs.model.events.meta.declared.measurement.Template.{Template}
use Rattle.report_text.specs.model.events.meta.declared.measurement.Template.TheVariants as template
use Rattle.report_text.specs.model.events.meta.Words.{template_word}
use Rattle.report_text.specs.model.events.templates.Digests.{template_digest}
use Rattle.report_text.specs.model.events.templates.declared.entry.Entry.{Entry}
use Rattle.report_words.specs.Forms.{is_digest, is_hex, is_low_hex, is_named_digest, is_wide_pcr}
use Rattle.report_lines.specs.Lines.{after_fields, after_padded_pcr, is_entry, template_in}
use Rattle.report_read.specs.ReadBack.{IsShownEntry}

-- ---- hexadecimal

abbrev all_below : (ℕ → Bool) → ℕ → Bool
all_below p zero = true
all_below p (suc k) = p k && all_below p k

picked_in : (p : ℕ → Bool) (xs : List ℕ) (i : ℕ) → i < length xs → list_all p xs ≡ true
    → p (slice_index xs i) ≡ true
picked_in p [] i h k = absurd (omega (arith, h))
picked_in p (x ∷ xs) zero h k = (and_parts (p x) (list_all p xs) k).0
picked_in p (x ∷ xs) (suc i) h k =
    picked_in p xs i (omega (arith, h)) (and_parts (p x) (list_all p xs) k).1

digits_low : (bs : List ℕ) → IsBytes bs → list_all is_low_hex (encode_lower bs) ≡ true
unfolding encode_with
digits_low [] h = refl
digits_low (b ∷ bs) h =
    let byte : b < 256 = h 0 in
    rw (
      picked_in is_low_hex lower_digits (b / 16) (omega (arith, byte)) refl,
      picked_in is_low_hex lower_digits (b % 16) (omega arith) refl,
    )
    (digits_low bs (λ i. h (suc i)))

length_hex : (bs : List ℕ) → length (encode_lower bs) ≡ 2 * length bs
length_hex bs = hexes.length-encode_with lower_digits bs

-- bytes in hexadecimal digits are read as such
pub hex_back : (bs : List ℕ) → IsBytes bs → is_hex (encode_lower bs) ≡ true
hex_back bs h =
    let size = length_hex bs in
    let even : length (encode_lower bs) % 2 ≡ 0 = omega (arith, size) in
    rw (eq-eqb (length (encode_lower bs) % 2) 0 even) (digits_low bs h)

-- and so is a digest of their number
pub digest_back : (size : ℕ) (bs : List ℕ) → length bs ≡ size → IsBytes bs
    → is_digest size (encode_lower bs) ≡ true
digest_back size bs is h =
    let twice = length_hex bs in
    let half : length (encode_lower bs) / 2 ≡ size = omega (arith, twice, is) in
    rw (eq-eqb (length (encode_lower bs) / 2) size half) (hex_back bs h)

named_each : (a : Algo) (bs : List ℕ) → length bs ≡ algo_size a → IsBytes bs
    → is_named_digest (algo_name a ++ codes ":" ++ encode_lower bs) ≡ true
named_each algo.Md5 bs size h = digest_back 16 bs size h
named_each algo.Sha1 bs size h = digest_back 20 bs size h
named_each algo.Sha256 bs size h = digest_back 32 bs size h
named_each algo.Sha384 bs size h = digest_back 48 bs size h
named_each algo.Sha512 bs size h = digest_back 64 bs size h
named_each algo.Sha224 bs size h = digest_back 28 bs size h

-- a digest with the name of its algorithm
pub named_back : (d : Digest) → HasDigestSize d → IsBytes d.bytes
    → is_named_digest (algo_name d.algo ++ codes ":" ++ encode_lower d.bytes) ≡ true
named_back d size h = named_each d.algo d.bytes size h

-- ---- registers of entries

below : (p : ℕ → Bool) (k n : ℕ) → n < k → all_below p k ≡ true → p n ≡ true
below p zero n h all = absurd (omega (arith, h))
below p (suc k) n h all = elim (cases_Bool (n == k)) [
  | inl e ↦
      let same : k ≡ n = sym (eqb-true n k e) in
      subst (λ (x : ℕ). p x ≡ true) same (and_parts (p k) (all_below p k) all).0
  | inr e ↦
      let other : n ≢ k = eqb-false n k e in
      below p k n (omega (arith, h, other)) (and_parts (p k) (all_below p k) all).1
]

abbrev is_padded : ℕ → Bool
is_padded n =
    if nat_lt n 10 then is_wide_pcr 1 ((48 + n % 10) ∷ [])
    else is_wide_pcr 2 ((48 + n / 10) ∷ (48 + n % 10) ∷ [])

padded : (n : ℕ) → n < 24 → is_padded n ≡ true
padded n h = below is_padded 24 n h refl

pcr_back : (n : ℕ) (x : Line) → n < 24 → after_padded_pcr (pcr_words n ++ x) ≡ Some x
pcr_back n x h = elim (cases_Bool (nat_lt n 10)) [
  | inl e ↦
      let one : is_wide_pcr 1 ((48 + n % 10) ∷ []) ≡ true = rw e at (padded n h) in
      rw (e, one) refl
  | inr e ↦
      let two : is_wide_pcr 2 ((48 + n / 10) ∷ (48 + n % 10) ∷ []) ≡ true
      = rw e at (padded n h) in
      rw (e, two) refl
]

pcr_few : (n : ℕ) → length (pcr_words n) ≤ 2
pcr_few n = elim (cases_Bool (nat_lt n 10)) [
  | inl e ↦ rw e (omega arith)
  | inr e ↦ rw e (omega arith)
]

-- ---- entries

template_back : (t : Template) (ws : Line) → template_in (template_word t ∷ ws) ≡ Some (t, ws)
template_back template.Ima ws = refl
template_back template.ImaNg ws = refl
template_back template.ImaSig ws = refl
template_back template.ImaBuf ws = refl

fields_by : (t : Template) (d : Digest) (name sig : List ℕ) → HasDigestSize d → IsBytes d.bytes
    → IsBytes sig → after_fields t (digest_text t d ∷ name ∷ sig_words t sig) ≡ Some []
fields_by template.Ima d name sig size h k = rw (hex_back d.bytes h) refl
fields_by template.ImaNg d name sig size h k = rw (named_back d size h) refl
fields_by template.ImaSig d name sig size h k =
    rw (named_back d size h, hex_back sig k) refl
fields_by template.ImaBuf d name sig size h k =
    rw (named_back d size h, hex_back sig k) refl

fields_few : (t : Template) (d : Digest) (name sig : List ℕ)
    → length (digest_text t d ∷ name ∷ sig_words t sig) ≤ 3
fields_few template.Ima d name sig = omega arith
fields_few template.ImaNg d name sig = omega arith
fields_few template.ImaSig d name sig = omega arith
fields_few template.ImaBuf d name sig = omega arith

abbrev entry_line : Entry → Line → Line
entry_line e fields =
    pcr_words e.pcr ++ encode_lower (template_digest e bank.Sha1).bytes
    ∷ template_word e.template ∷ fields

entry_as : (e : Entry) → entry_words e
    ≡ entry_line e (digest_text e.template e.digest ∷ e.name ∷ sig_words e.template e.sig)
entry_as e = ap (entry_line e) (fields_are e.template e)

-- the line of an entry is accepted
pub entry_back : (e : Entry) → IsShownEntry e → is_entry (take 24 (entry_words e)) ≡ true
unfolding is_entry
entry_back e s =
    let fields : Line = digest_text e.template e.digest ∷ e.name ∷ sig_words e.template e.sig in
    let few : length (entry_line e fields) ≤ 24 =
    omega (
      arith,
      length-append (pcr_words e.pcr)
          (encode_lower (template_digest e bank.Sha1).bytes ∷ template_word e.template ∷ fields),
      pcr_few e.pcr,
      fields_few e.template e.digest e.name e.sig,
    ) in
    ap (λ (ws : Line). is_entry (take 24 ws)) (entry_as e)
    ∙ (ap is_entry (take_all 24 (entry_line e fields) few)
    ∙ rw (
      pcr_back e.pcr
          (encode_lower (template_digest e bank.Sha1).bytes ∷ template_word e.template ∷ fields)
          s.entry.entry.pcr,
      digest_back 20 (template_digest e bank.Sha1).bytes s.size s.bytes,
      template_back e.template fields,
      fields_by e.template e.digest e.name e.sig s.entry.entry.digest_size s.entry.digest
          s.entry.sig,
    ) refl)

-- A line of the list determines its entry, up to the flag of a violation.
use Rattle.std.proofs.Common.{◌≡◌, ℕ, zero, suc, ◌<◌, ◌/◌, ◌%◌, not, ◌==◌, true, false, List, [], ◌∷◌, ◌++◌, map, codes, Result, Ok, Err, if◌then◌else◌, refl, sym, ap, ◌∙◌, append_assoc, arith}
use Rattle.std.specs.List.{AllByRecursion, list_all, slice_split}
use Rattle.std.specs.Str.{bytes_eq}
use Rattle.hex.specs.Hex.{encode_lower, encode_with, lower_digits, decode_of, IsBytes}
use Rattle.hex.specs.declared.error.FromHexError.{FromHexError}
use Rattle.hex.proofs.HexLemmas as hexes
use Rattle.hash_algos.specs.Algo.{algo_name}
use Rattle.hash_algos.specs.declared.algo.Algo.{Algo}
use Rattle.hash_algos.specs.declared.algo.Algo.TheVariants as algo
use Rattle.hash_algos.specs.declared.digest.Digest.{Digest}
use Rattle.ima_templates.specs.Digests.{template_digest}
use Rattle.ima_templates.specs.declared.entry.Entry.{Entry}
use Rattle.inode_meta.specs.declared.measurement.Bank.TheVariants.{Sha1}
use Rattle.inode_meta.specs.declared.measurement.Template.{Template}
use Rattle.inode_meta.specs.declared.measurement.Template.TheVariants.{Ima, ImaNg, ImaSig, ImaBuf}
use Rattle.inode_meta.specs.Fields.{template_fields}
use Rattle.inode_meta.specs.Words.{template_word}
use Rattle.list_format.specs.Line.{field_text}
use Rattle.text_forms.proofs.Tells.{parts_back}
use Rattle.report_events.specs.Words.{Line}
use Rattle.report_text.specs.Report.{entry_words, pcr_words}
use Rattle.report_text.specs.Printed.{printed_entry}
use Rattle.report_text.specs.Ranges.{IsListEntry}
use Rattle.report_text.proofs.Reading.{value, template_at, template_back}
use Rattle.report_text.proofs.CleanWords.{picked}

-- ---- the fields of a template

-- the text of the field `d` or `d-ng`
abbrev pub digest_text : Template → Digest → List ℕ
digest_text Ima digest = encode_lower digest.bytes
digest_text ImaNg digest = algo_name digest.algo ++ codes ":" ++ encode_lower digest.bytes
digest_text ImaSig digest = algo_name digest.algo ++ codes ":" ++ encode_lower digest.bytes
digest_text ImaBuf digest = algo_name digest.algo ++ codes ":" ++ encode_lower digest.bytes

-- the word of the third field, if the template has one
abbrev pub sig_words : Template → List ℕ → Line
sig_words Ima sig = []
sig_words ImaNg sig = []
sig_words ImaSig sig = encode_lower sig ∷ []
sig_words ImaBuf sig = encode_lower sig ∷ []

pub fields_are : (t : Template) (e : Entry)
    → map (λ f. field_text f e) (template_fields t) ≡ digest_text t e.digest ∷ e.name
    ∷ sig_words t e.sig
fields_are Ima e = refl
fields_are ImaNg e = refl
fields_are ImaSig e = refl
fields_are ImaBuf e = refl

-- ---- hexadecimal

abbrev from_hex : Result (List ℕ) FromHexError → List ℕ
from_hex (Ok bytes) = bytes
from_hex (Err e) = []

abbrev pub bytes_at : List ℕ → List ℕ
bytes_at w = from_hex (decode_of w)

pub bytes_back : (bytes : List ℕ) → IsBytes bytes → bytes_at (encode_lower bytes) ≡ bytes
bytes_back bytes h = ap from_hex (hexes.decode_of-encode_lower bytes h)

no_colon : (bs : List ℕ) → list_all (λ b. not (b == 58)) (encode_lower bs) ≡ true
unfolding encode_with
no_colon [] = refl
no_colon (b ∷ bs) =
    rw (
      picked (λ c. not (c == 58)) lower_digits (b / 16) refl refl,
      picked (λ c. not (c == 58)) lower_digits (b % 16) refl refl,
    ) (no_colon bs)

-- ---- the register

abbrev pcr_at : Line → ℕ × Line
pcr_at [] = (0, [])
pcr_at ([] ∷ []) = (0, [])
pcr_at ([] ∷ w ∷ ws) = (value w, ws)
pcr_at ((c ∷ cs) ∷ ws) = (value (c ∷ cs), ws)

pcr_back : (pcr : ℕ) (x : Line) → pcr < 24 → pcr_at (pcr_words pcr ++ x) ≡ (pcr, x)
pcr_back zero x h = refl
pcr_back (suc zero) x h = refl
pcr_back (suc (suc zero)) x h = refl
pcr_back (suc (suc (suc zero))) x h = refl
pcr_back (suc (suc (suc (suc zero)))) x h = refl
pcr_back (suc (suc (suc (suc (suc zero))))) x h = refl
pcr_back (suc (suc (suc (suc (suc (suc zero)))))) x h = refl
pcr_back (suc (suc (suc (suc (suc (suc (suc zero))))))) x h = refl
pcr_back (suc (suc (suc (suc (suc (suc (suc (suc zero)))))))) x h = refl
pcr_back (suc (suc (suc (suc (suc (suc (suc (suc (suc zero))))))))) x h = refl
pcr_back (suc (suc (suc (suc (suc (suc (suc (suc (suc (suc zero)))))))))) x h = refl
pcr_back (suc (suc (suc (suc (suc (suc (suc (suc (suc (suc (suc zero))))))))))) x h = refl
pcr_back (suc (suc (suc (suc (suc (suc (suc (suc (suc (suc (suc (suc zero)))))))))))) x h = refl
pcr_back (suc (suc (suc (suc (suc (suc (suc (suc (suc (suc (suc (suc (suc zero))))))))))))) x h =
    refl
pcr_back (suc (suc (suc (suc (suc (suc (suc (suc (suc (suc (suc (suc (suc (suc zero)))))))))))))) x
    h = refl
pcr_back (suc
    (suc (suc (suc (suc (suc (suc (suc (suc (suc (suc (suc (suc (suc (suc zero))))))))))))))) x h =
    refl
pcr_back (suc
    (suc (suc (suc
    (suc (suc (suc (suc (suc (suc (suc (suc (suc (suc (suc (suc zero)))))))))))))))) x
    h = refl
pcr_back (suc
    (suc (suc (suc
    (suc (suc (suc (suc (suc (suc (suc (suc (suc (suc (suc (suc (suc zero))))))))))))))))) x
    h = refl
pcr_back (suc
    (suc (suc (suc
    (suc (suc (suc
    (suc (suc (suc (suc (suc (suc (suc (suc (suc (suc (suc zero)))))))))))))))))) x h =
    refl
pcr_back (suc
    (suc (suc (suc
    (suc (suc (suc
    (suc (suc (suc (suc (suc (suc (suc (suc (suc (suc (suc (suc zero)))))))))))))))))))
    x h = refl
pcr_back (suc
    (suc (suc (suc
    (suc (suc (suc
    (suc (suc (suc (suc (suc (suc (suc (suc (suc (suc (suc (suc (suc zero)))))))))))))))))))) x h =
    refl
pcr_back (suc
    (suc (suc (suc
    (suc (suc (suc
    (suc (suc (suc
    (suc (suc (suc (suc (suc (suc (suc (suc (suc (suc (suc zero))))))))))))))))))))) x
    h = refl
pcr_back (suc
    (suc (suc (suc
    (suc (suc (suc
    (suc (suc (suc
    (suc (suc (suc (suc (suc (suc (suc (suc (suc (suc (suc (suc zero)))))))))))))))))))))) x
    h = refl
pcr_back (suc
    (suc (suc (suc
    (suc (suc (suc
    (suc (suc (suc
    (suc (suc (suc
    (suc (suc (suc (suc (suc (suc (suc (suc (suc (suc zero))))))))))))))))))))))) x h =
    refl
pcr_back (suc
    (suc (suc (suc
    (suc (suc (suc
    (suc (suc (suc
    (suc (suc (suc
    (suc (suc (suc (suc (suc (suc (suc (suc (suc (suc (suc n)))))))))))))))))))))))) x
    h = absurd (omega (arith, h))

-- ---- the digest

abbrev algo_at : List ℕ → Algo
algo_at w =
    if bytes_eq w (codes "md5") then algo.Md5 else if bytes_eq w (codes "sha1") then algo.Sha1
    else if bytes_eq w (codes "sha256") then algo.Sha256
    else if bytes_eq w (codes "sha384") then algo.Sha384 else if bytes_eq w (codes "sha512")
    then algo.Sha512 else algo.Sha224

algo_back : (a : Algo) → algo_at (algo_name a) ≡ a
algo_back algo.Md5 = refl
algo_back algo.Sha1 = refl
algo_back algo.Sha256 = refl
algo_back algo.Sha384 = refl
algo_back algo.Sha512 = refl
algo_back algo.Sha224 = refl

name_no_colon : (a : Algo) → list_all (λ b. not (b == 58)) (algo_name a) ≡ true
name_no_colon algo.Md5 = refl
name_no_colon algo.Sha1 = refl
name_no_colon algo.Sha256 = refl
name_no_colon algo.Sha384 = refl
name_no_colon algo.Sha512 = refl
name_no_colon algo.Sha224 = refl

abbrev digest_of_parts : List (List ℕ) → Digest
digest_of_parts (name ∷ hex ∷ ws) = record { algo = algo_at name; bytes = bytes_at hex }
digest_of_parts _ = record { algo = algo.Sha1; bytes = [] }

abbrev digest_at : Template → List ℕ → Digest
digest_at Ima w = record { algo = algo.Sha1; bytes = bytes_at w }
digest_at _ w = digest_of_parts (slice_split (λ b. b == 58) w)

named_back : (a : Algo) (bytes : List ℕ) → IsBytes bytes
    → digest_of_parts (slice_split (λ b. b == 58) (algo_name a ++ codes ":" ++ encode_lower bytes))
    ≡ record { algo = a; bytes = bytes }
named_back a bytes h =
    ap (λ (w : List ℕ). digest_of_parts (slice_split (λ b. b == 58) w))
    (append_assoc (algo_name a) (codes ":") (encode_lower bytes))
    ∙ ap digest_of_parts
    (parts_back 58 (algo_name a) (encode_lower bytes ∷ [])
    (rw (name_no_colon a, no_colon bytes) refl))
    ∙ rw (algo_back a, bytes_back bytes h) refl

digest_back : (t : Template) (d : Digest) → IsBytes d.bytes → (t ≡ Ima → d.algo ≡ algo.Sha1)
    → digest_at t (digest_text t d) ≡ d
digest_back Ima d h sha1 = let a : d.algo ≡ algo.Sha1 =
    sha1 refl in rw (bytes_back d.bytes h, sym a) refl
digest_back ImaNg d h sha1 = named_back d.algo d.bytes h
digest_back ImaSig d h sha1 = named_back d.algo d.bytes h
digest_back ImaBuf d h sha1 = named_back d.algo d.bytes h

-- ---- the third field

abbrev sig_at : Line → List ℕ
sig_at [] = []
sig_at (w ∷ ws) = bytes_at w

sig_back : (t : Template) (sig : List ℕ) → IsBytes sig → (t ≡ Ima → sig ≡ [])
    → (t ≡ ImaNg → sig ≡ []) → sig_at (sig_words t sig) ≡ sig
sig_back Ima sig h ima ng = sym (ima refl)
sig_back ImaNg sig h ima ng = sym (ng refl)
sig_back ImaSig sig h ima ng = bytes_back sig h
sig_back ImaBuf sig h ima ng = bytes_back sig h

-- ---- the line

abbrev entry_with : ℕ → Line → Entry
entry_with pcr (hash ∷ t ∷ d ∷ name ∷ ws) =
    record {
      pcr = pcr;
      template = template_at t;
      digest = digest_at (template_at t) d;
      name = name;
      sig = sig_at ws;
      violation = false;
    }
entry_with pcr _ =
    record {
      pcr = pcr;
      template = Ima;
      digest = record { algo = algo.Sha1; bytes = [] };
      name =
          [];
      sig = [];
      violation = false;
    }

abbrev entry_by : ℕ × Line → Entry
entry_by p = entry_with p.0 p.1

abbrev pub entry_at : Line → Entry
entry_at ws = entry_by (pcr_at ws)

pub entry_back : (e : Entry) → IsListEntry e → entry_at (entry_words e) ≡ printed_entry e
entry_back e h =
    ap (λ (fs : Line). entry_at (pcr_words e.pcr ++ encode_lower (template_digest e Sha1).bytes
    ∷ template_word e.template ∷ fs))
    (fields_are e.template e)
    ∙ ap entry_by
    (pcr_back e.pcr (encode_lower (template_digest e Sha1).bytes ∷ template_word e.template
    ∷ digest_text e.template e.digest ∷ e.name ∷ sig_words e.template e.sig) h.entry.pcr)
    ∙ rw (
      template_back e.template,
      digest_back e.template e.digest h.digest h.entry.digest_of_ima,
      sig_back e.template e.sig h.sig h.entry.sig_of_ima h.entry.sig_of_ima_ng,
    ) refl

pub entries_back : (es : List Entry) → AllByRecursion IsListEntry es
    → map entry_at (map entry_words es) ≡ map printed_entry es
entries_back [] h = refl
entries_back (e ∷ es) h = cc (entry_back e h.0, entries_back es h.1)

-- Entries with the same template and equal template data have equal digests, names and third
-- fields.
use Rattle.std.proofs.Common.{◌≡◌, ℕ, zero, suc, ◌^◌, ◌+◌, ◌-◌, ◌*◌, ◌%◌, ◌/◌, ◌<◌, ◌≤◌, ◌==◌, false, not, if◌then◌else◌, List, [], ◌∷◌, ◌++◌, length, get_or, take, drop, replicate, Some, arith, refl, ap, subst, sym, ◌∙◌, append_assoc, length-append, ne_eqb}
use Rattle.std.proofs.lemmas.List.{length-replicate, append-nil, append_cancel_left, append_cancel_right, take_more}
use Rattle.std.proofs.lemmas.List.Concat.{flat_map-append}
use Rattle.std.proofs.Math.Seq.{take-append_seam, drop-append_seam}
use Rattle.std.specs.List.{All, flat_map, take_while}
use Rattle.byteorder.specs.Endian.{little_bytes}
use Rattle.hash_algos.specs.declared.algo.Algo.{Algo}
use Rattle.hash_algos.specs.declared.algo.Algo.TheVariants.{Md5, Sha1, Sha256, Sha384, Sha512, Sha224}
use Rattle.hash_algos.specs.declared.digest.Digest.{Digest}
use Rattle.hash_algos.specs.Algo.{algo_by_name, algo_name, algo_size}
use Rattle.hash_algos.specs.Digest.{HasDigestSize}
use Rattle.inode_meta.specs.Fields.{template_fields}
use Rattle.inode_meta.specs.declared.measurement.Field.{Field}
use Rattle.inode_meta.specs.declared.measurement.Field.TheVariants as field
use Rattle.inode_meta.specs.declared.measurement.Template.{Template}
use Rattle.inode_meta.specs.declared.measurement.Template.TheVariants.{Ima, ImaNg, ImaSig, ImaBuf}
use Rattle.ima_templates.specs.declared.entry.Entry.{Entry}
use Rattle.ima_templates.specs.Data.{HasLengths, content, d_ng, data_by, field_data, n_ng, n_padded, sized, template_data}
use Rattle.ima_templates.specs.IsEntry.{IsEntry}
use Rattle.ima_templates.specs.Path.{IsGraphic}
use Rattle.ima_templates.specs.Same.{SameFields}

-- ---- lists

-- equal lists that are cut at the same index have equal parts
append_apart : {X : Type 0} (xs ys : List X) (us vs : List X) → length xs ≡ length ys
    → xs ++ us ≡ ys ++ vs
    → (xs ≡ ys) × (us ≡ vs)
append_apart xs ys us vs same_length same =
    let front : xs ≡ ys =
    sym (take-append_seam xs us) ∙ ap (λ l. take (length xs) l) same
    ∙ ap (λ n. take n (ys ++ vs)) same_length ∙ take-append_seam ys vs in
    let back : us ≡ vs =
    sym (drop-append_seam xs us) ∙ ap (λ l. drop (length xs) l) same
    ∙ ap (λ n. drop n (ys ++ vs)) same_length ∙ drop-append_seam ys vs in
    (front, back)

-- ---- a field after its length

-- the length of `d-ng`
length-d_ng : (digest : Digest)
    → length (d_ng digest) ≡ length (algo_name digest.algo) + 2 + length digest.bytes
length-d_ng digest =
    length-append (algo_name digest.algo ++ 58 ∷ []) (0 ∷ digest.bytes)
    ∙ omega (arith, length-append (algo_name digest.algo) (58 ∷ []))

-- numbers with the same 4 little-endian bytes are equal
little_bytes-apart : (m n : ℕ) → m < 2 ^ 32 → n < 2 ^ 32 → little_bytes 4 m ≡ little_bytes 4 n
    → m ≡ n
little_bytes-apart m n fits_m fits_n same =
    let b0 : m % 256 ≡ n % 256 = cc same in
    let b1 : m / 256 % 256 ≡ n / 256 % 256 = cc same in
    let b2 : m / 65536 % 256 ≡ n / 65536 % 256 = cc same in
    let b3 : m / 16777216 % 256 ≡ n / 16777216 % 256 = cc same in
    omega arith

-- equal data that begin with a field after its length begin with the same field
sized-apart : (f g us vs : List ℕ) → length f < 2 ^ 32 → length g < 2 ^ 32
    → sized f ++ us ≡ sized g ++ vs
    → (f ≡ g) × (us ≡ vs)
unfolding sized
sized-apart f g us vs fits_f fits_g same =
    let regrouped : little_bytes 4 (length f) ++ (f ++ us)
    ≡ little_bytes 4 (length g) ++ (g ++ vs) =
    sym (append_assoc (little_bytes 4 (length f)) f us) ∙ same
    ∙ append_assoc (little_bytes 4 (length g)) g vs in
    let cut = append_apart (little_bytes 4 (length f)) (little_bytes 4 (length g)) (f ++ us)
    (g ++ vs) refl regrouped in
    append_apart f g us vs (little_bytes-apart (length f) (length g) fits_f fits_g cut.0) cut.1

-- ---- `d-ng` and `n-ng`

-- the part before the colon is the name of an algorithm
algo_of : (digest : Digest)
    → algo_by_name (take_while (λ b. not (b == 58)) (d_ng digest)) ≡ Some digest.algo
algo_of digest = named digest.algo digest.bytes where
  named : (a : Algo) (bytes : List ℕ)
      → algo_by_name (take_while (λ b. not (b == 58)) (d_ng (record { algo = a; bytes = bytes })))
      ≡ Some a
  named Md5 bytes = refl
  named Sha1 bytes = refl
  named Sha256 bytes = refl
  named Sha384 bytes = refl
  named Sha512 bytes = refl
  named Sha224 bytes = refl

-- equal `d-ng` fields have equal digests
d_ng-apart : (a b : Digest) → d_ng a ≡ d_ng b → a ≡ b
d_ng-apart a b same =
    let one_algo : Some a.algo ≡ Some b.algo =
    sym (algo_of a) ∙ ap (λ f. algo_by_name (take_while (λ c. not (c == 58)) f)) same ∙ algo_of b in
    let algos : a.algo ≡ b.algo = cc one_algo in
    let rest : (algo_name b.algo ++ 58 ∷ []) ++ 0 ∷ a.bytes
    ≡ (algo_name b.algo ++ 58 ∷ []) ++ 0 ∷ b.bytes =
    subst (λ (x : Algo). (algo_name x ++ 58 ∷ []) ++ 0 ∷ a.bytes ≡ d_ng b) algos same in
    let tails : 0 ∷ a.bytes
    ≡ 0 ∷ b.bytes =
    append_cancel_left (algo_name b.algo ++ 58 ∷ []) (0 ∷ a.bytes) (0 ∷ b.bytes) rest in
    let bytes : a.bytes ≡ b.bytes = cc tails in
    λ i. record { algo = algos i; bytes = bytes i }

-- ---- `d` and `n`

-- the part of the bytes before the first zero
abbrev before_zero : List ℕ → List ℕ
before_zero [] = []
before_zero (b ∷ bs) = if b == 0 then [] else b ∷ before_zero bs

-- the part of `n` before the first zero is the name
name_of : (name : List ℕ) (count : ℕ) → All IsGraphic name
    → before_zero (name ++ replicate count 0) ≡ name
name_of [] zero graphic = refl
name_of [] (suc count) graphic = refl
name_of (b ∷ bs) count graphic =
    let first : 0x21 ≤ b = (graphic 0 b (omega arith)).0 in
    let b_not_zero : (b == 0) ≡ false = ne_eqb b 0 (λ e. omega arith) in
    let rest = name_of bs count (λ k d below. graphic (suc k) d (omega arith)) in
    rw b_not_zero (ap (λ l. b ∷ l) rest)

-- names padded with zeros to equal bytes are equal
filled-apart : (m n : List ℕ) (j k : ℕ) → All IsGraphic m → All IsGraphic n
    → m ++ replicate j 0 ≡ n ++ replicate k 0 → m ≡ n
filled-apart m n j k graphic_m graphic_n same =
    sym (name_of m j graphic_m) ∙ ap before_zero same ∙ name_of n k graphic_n

-- ---- template data

-- the length of `n-ng` fits in 4 bytes
length-n_ng-fits : (name : List ℕ) → length name ≤ 1024 → length (n_ng name) < 2 ^ 32
length-n_ng-fits name at_most = omega (arith, length-append name (0 ∷ []))

-- a digest has at most 64 bytes
algo_size-le : (a : Algo) → algo_size a ≤ 64
algo_size-le Md5 = omega arith
algo_size-le Sha1 = omega arith
algo_size-le Sha256 = omega arith
algo_size-le Sha384 = omega arith
algo_size-le Sha512 = omega arith
algo_size-le Sha224 = omega arith

-- the name of an algorithm has at most 6 bytes
length-algo_name-le : (a : Algo) → length (algo_name a) ≤ 6
length-algo_name-le Md5 = omega arith
length-algo_name-le Sha1 = omega arith
length-algo_name-le Sha256 = omega arith
length-algo_name-le Sha384 = omega arith
length-algo_name-le Sha512 = omega arith
length-algo_name-le Sha224 = omega arith

-- the length of `d-ng` fits in 4 bytes
length-d_ng-fits : (digest : Digest) → HasDigestSize digest → length (d_ng digest) < 2 ^ 32
length-d_ng-fits digest size =
    omega (
      arith,
      size,
      algo_size-le digest.algo,
      length-algo_name-le digest.algo,
      length-d_ng digest,
    )

-- the facts about an entry's digest and name that suffice to recover both from the template data
pub record IsNamed (e : Entry) : Type 0 where
  pub digest_size : HasDigestSize e.digest
  pub digest_of_ima : e.template ≡ Ima → e.digest.algo ≡ Sha1
  pub name_at_most : length e.name ≤ 1024
  pub name_graphic : All IsGraphic e.name

-- each entry satisfies `IsNamed`
pub entry_named : (e : Entry) → IsEntry e → IsNamed e
entry_named e kept = record {
  digest_size = kept.digest_size;
  digest_of_ima = kept.digest_of_ima;
  name_at_most = kept.name_at_most;
  name_graphic = kept.name_graphic;
}

-- equal `d-ng` and `n-ng` fields, each after its length and followed by more data
ng_fields : (a b : Entry) (us vs : List ℕ) → IsNamed a → IsNamed b
    → sized (d_ng a.digest) ++ (sized (n_ng a.name) ++ us)
    ≡ sized (d_ng b.digest) ++ (sized (n_ng b.name) ++ vs)
    → (a.digest ≡ b.digest) × (a.name ≡ b.name) × (us ≡ vs)
ng_fields a b us vs kept_a kept_b same =
    let digests = sized-apart (d_ng a.digest) (d_ng b.digest) (sized (n_ng a.name) ++ us)
    (sized (n_ng b.name) ++ vs)
    (length-d_ng-fits a.digest kept_a.digest_size) (length-d_ng-fits b.digest kept_b.digest_size)
    same in
    let names = sized-apart (n_ng a.name) (n_ng b.name) us vs
    (length-n_ng-fits a.name kept_a.name_at_most) (length-n_ng-fits b.name kept_b.name_at_most)
    digests.1 in (
      d_ng-apart a.digest b.digest digests.0,
      append_cancel_right a.name b.name (0 ∷ []) names.0,
      names.1,
    )

-- equal `d-ng`, `n-ng` and third fields, each after its length
sig_fields : (a b : Entry) → IsEntry a → IsEntry b
    → sized (d_ng a.digest) ++ (sized (n_ng a.name) ++ (sized a.sig ++ []))
    ≡ sized (d_ng b.digest) ++ (sized (n_ng b.name) ++ (sized b.sig ++ []))
    → SameFields a b
sig_fields a b kept_a kept_b same =
    let fields = ng_fields a b (sized a.sig ++ []) (sized b.sig ++ []) (entry_named a kept_a)
    (entry_named b kept_b) same in
    let fits_a : length a.sig < 2 ^ 32 = omega (arith, kept_a.sig_at_most) in
    let fits_b : length b.sig < 2 ^ 32 = omega (arith, kept_b.sig_at_most) in
    let sigs = sized-apart a.sig b.sig [] [] fits_a fits_b fields.2 in
    (fields.0, fields.1, sigs.0)

-- equal fields of the template `ima`
ima_fields : (a b : Entry) → IsNamed a → IsNamed b → a.template ≡ Ima → b.template ≡ Ima
    → a.digest.bytes ++ (n_padded a.name ++ []) ≡ b.digest.bytes ++ (n_padded b.name ++ [])
    → (a.digest ≡ b.digest) × (a.name ≡ b.name)
ima_fields a b kept_a kept_b is_a is_b same =
    let algo_a : a.digest.algo ≡ Sha1 = kept_a.digest_of_ima is_a in
    let algo_b : b.digest.algo ≡ Sha1 = kept_b.digest_of_ima is_b in
    let sizes : length a.digest.bytes ≡ length b.digest.bytes =
    kept_a.digest_size ∙ ap algo_size (algo_a ∙ sym algo_b) ∙ sym kept_b.digest_size in
    let cut = append_apart a.digest.bytes b.digest.bytes (n_padded a.name ++ [])
    (n_padded b.name ++ []) sizes same in (
      λ i. record { algo = (algo_a ∙ sym algo_b) i; bytes = cut.0 i },
      filled-apart a.name b.name _ _ kept_a.name_graphic kept_b.name_graphic
          (sym (append-nil (n_padded a.name)) ∙ cut.1 ∙ append-nil (n_padded b.name)),
    )

-- equal template data have equal fields, by cases over the template
fields_at : (a b : Entry) (t : Template) → IsEntry a → IsEntry b → a.template ≡ t → b.template ≡ t
    → data_by t a.digest a.name a.sig ≡ data_by t b.digest b.name b.sig → SameFields a b
fields_at a b Ima kept_a kept_b is_a is_b same =
    let fields = ima_fields a b (entry_named a kept_a) (entry_named b kept_b) is_a is_b same in
    (fields.0, fields.1, kept_a.sig_of_ima is_a ∙ sym (kept_b.sig_of_ima is_b))
fields_at a b ImaNg kept_a kept_b is_a is_b same =
    let fields = ng_fields a b [] [] (entry_named a kept_a) (entry_named b kept_b) same in
    (fields.0, fields.1, kept_a.sig_of_ima_ng is_a ∙ sym (kept_b.sig_of_ima_ng is_b))
fields_at a b ImaSig kept_a kept_b is_a is_b same = sig_fields a b kept_a kept_b same
fields_at a b ImaBuf kept_a kept_b is_a is_b same = sig_fields a b kept_a kept_b same

-- entries with the same template and equal template data have equal digests, names and third fields
pub template_data-apart : (a b : Entry) → IsEntry a → IsEntry b → a.template ≡ b.template
    → template_data a ≡ template_data b → SameFields a b
unfolding template_data
template_data-apart a b kept_a kept_b templates same =
    fields_at a b a.template kept_a kept_b refl (sym templates)
    (same ∙ ap (λ (t : Template). data_by t b.digest b.name b.sig) (sym templates))

-- equal template data have equal digests and names, by cases over the template
named_at : (a b : Entry) (t : Template) → IsNamed a → IsNamed b → a.template ≡ t → b.template ≡ t
    → data_by t a.digest a.name a.sig ≡ data_by t b.digest b.name b.sig
    → (a.digest ≡ b.digest) × (a.name ≡ b.name)
named_at a b Ima named_a named_b is_a is_b same = ima_fields a b named_a named_b is_a is_b same
named_at a b ImaNg named_a named_b is_a is_b same =
    let fields = ng_fields a b [] [] named_a named_b same in (fields.0, fields.1)
named_at a b ImaSig named_a named_b is_a is_b same =
    let fields = ng_fields a b (sized a.sig ++ []) (sized b.sig ++ []) named_a named_b same in
    (fields.0, fields.1)
named_at a b ImaBuf named_a named_b is_a is_b same =
    let fields = ng_fields a b (sized a.sig ++ []) (sized b.sig ++ []) named_a named_b same in
    (fields.0, fields.1)

-- entries with the same template and equal template data have equal digests and names, whatever the
-- third field
pub template_data-named : (a b : Entry) → IsNamed a → IsNamed b → a.template ≡ b.template
    → template_data a ≡ template_data b
    → (a.digest ≡ b.digest) × (a.name ≡ b.name)
unfolding template_data
template_data-named a b named_a named_b templates same =
    named_at a b a.template named_a named_b refl (sym templates)
    (same ∙ ap (λ (t : Template). data_by t b.digest b.name b.sig) (sym templates))

-- entries with the same template and equal fields have equal template data
pub template_data-same : (a b : Entry) → a.template ≡ b.template → SameFields a b
    → template_data a ≡ template_data b
unfolding template_data
template_data-same a b templates fields =
    λ i. data_by (templates i) (fields.0 i) (fields.1 i) (fields.2 i)

-- ---- the length of template data

-- the content of a field has at most 4,096 bytes
length-content-le : (f : Field) (digest : Digest) (name sig : List ℕ) → HasLengths digest name sig
    → length (content f digest name sig) ≤ 4096
length-content-le field.Digest digest name sig fits =
    omega (arith, fits.digest_size, algo_size-le digest.algo)
length-content-le field.Name digest name sig fits =
    omega (
      arith,
      fits.name_at_most,
      length-append name (replicate (256 - length name) 0),
      length-replicate {A = ℕ} (256 - length name) 0,
    )
length-content-le field.DigestNg digest name sig fits =
    omega (
      arith,
      fits.digest_size,
      algo_size-le digest.algo,
      length-algo_name-le digest.algo,
      length-d_ng digest,
    )
length-content-le field.NameNg digest name sig fits =
    omega (arith, fits.name_at_most, length-append name (0 ∷ []))
length-content-le field.Sig digest name sig fits = fits.sig_at_most
length-content-le field.Buf digest name sig fits = fits.sig_at_most

-- the length of a field fits in 4 bytes
pub length-content-fits : (f : Field) (digest : Digest) (name sig : List ℕ)
    → HasLengths digest name sig → length (content f digest name sig) < 2 ^ 32
length-content-fits f digest name sig fits = omega (arith, length-content-le f digest name sig fits)

-- the length before a field takes 4 bytes
length-sized : (bytes : List ℕ) → length (sized bytes) ≡ 4 + length bytes
unfolding sized
length-sized bytes = length-append (little_bytes 4 (length bytes)) bytes

-- a field with its length takes at most 4,100 bytes
length-field_data-le : (f : Field) (digest : Digest) (name sig : List ℕ)
    → HasLengths digest name sig → length (field_data f digest name sig) ≤ 4100
length-field_data-le field.Digest digest name sig fits =
    omega (arith, length-content-le field.Digest digest name sig fits)
length-field_data-le field.Name digest name sig fits =
    omega (arith, length-content-le field.Name digest name sig fits)
length-field_data-le field.DigestNg digest name sig fits =
    omega (arith, length-content-le field.DigestNg digest name sig fits, length-sized (d_ng digest))
length-field_data-le field.NameNg digest name sig fits =
    omega (arith, length-content-le field.NameNg digest name sig fits, length-sized (n_ng name))
length-field_data-le field.Sig digest name sig fits =
    omega (arith, length-content-le field.Sig digest name sig fits, length-sized sig)
length-field_data-le field.Buf digest name sig fits =
    omega (arith, length-content-le field.Buf digest name sig fits, length-sized sig)

-- the template data of a list of fields take at most 4,100 bytes for each field
length-fields-le : (fs : List Field) (digest : Digest) (name sig : List ℕ)
    → HasLengths digest name sig
    → length (flat_map (λ f. field_data f digest name sig) fs) ≤ length fs * 4100
length-fields-le [] digest name sig fits = omega arith
length-fields-le (f ∷ fs) digest name sig fits =
    omega (
      arith,
      length-append (field_data f digest name sig)
          (flat_map (λ g. field_data g digest name sig) fs),
      length-field_data-le f digest name sig fits,
      length-fields-le fs digest name sig fits,
    )

-- a template has at most three fields
length-template_fields-le : (t : Template) → length (template_fields t) ≤ 3
length-template_fields-le Ima = omega arith
length-template_fields-le ImaNg = omega arith
length-template_fields-le ImaSig = omega arith
length-template_fields-le ImaBuf = omega arith

-- the fields of each entry have lengths within the bounds
pub HasLengths-entry : (e : Entry) → IsEntry e → HasLengths e.digest e.name e.sig
HasLengths-entry e kept =
    record {
      digest_size = kept.digest_size;
      name_at_most = kept.name_at_most;
      sig_at_most = kept.sig_at_most;
    }

-- the length of the template data fits in 4 bytes
pub length-template_data-fits : (e : Entry) → IsEntry e → length (template_data e) < 2 ^ 32
unfolding template_data
length-template_data-fits e kept =
    omega (
      arith,
      length-fields-le (template_fields e.template) e.digest e.name e.sig (HasLengths-entry e kept),
      length-template_fields-le e.template,
    )

-- the bytes of one more element
pub flat_map-more : {X : Type 0} (f : X → List ℕ) (xs : List X) (i : ℕ) (d : X) → i < length xs
    → flat_map f (take (i + 1) xs) ≡ flat_map f (take i xs) ++ f (get_or xs i d)
flat_map-more f xs i d within =
    ap (flat_map f) (take_more xs i d within)
    ∙ flat_map-append f (take i xs) (get_or xs i d ∷ [])
    ∙ ap (λ l. flat_map f (take i xs) ++ l) (append-nil (f (get_or xs i d)))

-- The contents that are read of template data are those of which the template data were made.
use Rattle.std.proofs.Common.{◌≡◌, ℕ, zero, suc, ◌+◌, ◌-◌, ◌<◌, ◌≤◌, ◌==◌, Bool, true, false, cond, List, [], ◌∷◌, ◌++◌, length, take, drop, replicate, Option, Some, None, refl, sym, ap, subst, ◌∙◌, arith, append_assoc, append-nil, length-append, length-drop, eq-eqb, eqb-true, ne_eqb, ◌&&◌, ◌^◌}
use Rattle.std.proofs.lemmas.Bool.{and_from, and_parts}
use Rattle.std.proofs.lemmas.List.{length-replicate, nil_from_length, take_at, drop_at}
use Rattle.std.proofs.lemmas.Option.{cond_some, none-some, same_Some}
use Rattle.std.specs.List.{All, before_first, list_all, position_or_len}
use Rattle.std.specs.Prelude.{IfSome, IsSome, ◌↔◌}
use Rattle.std.specs.Str.{bytes_eq}
use lib.Pointwise.{bytes_decides}
use Rattle.ima_templates.specs.Data.{d_ng, data_by, n_ng, n_padded, sized, template_data}
use Rattle.ima_templates.specs.IsEntry.{IsEntry}
use Rattle.ima_templates.specs.Path.{IsGraphic}
use Rattle.ima_templates.specs.declared.entry.Entry.{Entry}
use Rattle.ima_templates.specs.hashes.Algo.{algo_by_name, algo_name, algo_size, algos}
use Rattle.ima_templates.specs.hashes.Digest.{HasDigestSize}
use Rattle.ima_templates.specs.hashes.declared.algo.Algo.{Algo}
use Rattle.ima_templates.specs.hashes.declared.algo.Algo.TheVariants.{Md5, Sha1, Sha256, Sha384, Sha512, Sha224}
use Rattle.ima_templates.specs.hashes.declared.digest.Digest.{Digest}
use Rattle.ima_templates.specs.meta.declared.measurement.Field.TheVariants.{DigestNg, Sig}
use Rattle.ima_templates.specs.meta.declared.measurement.Template.{Template}
use Rattle.ima_templates.specs.meta.declared.measurement.Template.TheVariants.{Ima, ImaNg, ImaSig, ImaBuf}
use Rattle.ima_templates.proofs.DataLemmas.{HasLengths-entry, length-content-fits}
use Rattle.carry_form.specs.Contents.{Fields, contents_in, digest_after, digest_by, digest_in, head_in, ima_in, is_colon, is_zero, last_in, name_in, ng_in, nothing_in, padded_in, third_in}
use Rattle.carry_form.specs.Cut.{◌>>=◌, cut_at, from_first, sized_in}
use Rattle.carry_form.proofs.Cutting.{cut_at-append, cut_at-parts, first-passes, length-before_first, sized_in-append, sized_in-parts, split-first}
use Rattle.carry_form.proofs.Steps.{IsBytes, IsBytes-back, IsBytes-same, chosen, find-passes, steps}

-- ---- a digest

-- what a digest made of these bytes is
pub digest_by-is : (r : Option Digest) (a : Algo) (bytes : List ℕ)
    → (IsSome r ↔ (length bytes ≡ algo_size a))
    → IfSome r (λ d. d ≡ record { algo = a; bytes = bytes })
    → r ≡ digest_by a bytes
digest_by-is None a bytes fits value =
    let differs : (length bytes == algo_size a) ≡ false =
    ne_eqb (length bytes) (algo_size a) (λ same. let h = fits.1 same in absurd (cc h)) in
    rw differs refl
digest_by-is (Some d) a bytes fits value =
    let same : (length bytes == algo_size a) ≡ true =
    eq-eqb (length bytes) (algo_size a) (fits.0 refl) in
    rw same (ap Some value)

-- a digest is made of as many bytes as its algorithm gives
digest_by-size : (a : Algo) (bytes : List ℕ) → length bytes ≡ algo_size a
    → digest_by a bytes ≡ Some (record { algo = a; bytes = bytes })
digest_by-size a bytes size =
    let same : (length bytes == algo_size a) ≡ true = eq-eqb (length bytes) (algo_size a) size in
    rw same refl

-- the algorithm that a name identifies has the name
algo_name-by_name : (name : List ℕ) (a : Algo) → algo_by_name name ≡ Some a → algo_name a ≡ name
algo_name-by_name name a found =
    (bytes_decides (algo_name a) name).0
    (find-passes (λ b. bytes_eq (algo_name b) name) algos a found)

-- the digest is read from its field
digest_in-d_ng : (d : Digest) → HasDigestSize d → digest_in (d_ng d) ≡ Some d
digest_in-d_ng d size = named d.algo d.bytes size where
  named : (a : Algo) (bytes : List ℕ) → length bytes ≡ algo_size a
      → digest_in (d_ng (record { algo = a; bytes = bytes }))
      ≡ Some (record { algo = a; bytes = bytes })
  named Md5 bytes fits = digest_by-size Md5 bytes fits
  named Sha1 bytes fits = digest_by-size Sha1 bytes fits
  named Sha256 bytes fits = digest_by-size Sha256 bytes fits
  named Sha384 bytes fits = digest_by-size Sha384 bytes fits
  named Sha512 bytes fits = digest_by-size Sha512 bytes fits
  named Sha224 bytes fits = digest_by-size Sha224 bytes fits

-- the parts of what stands after the algorithm's name
record IsAfter (a : Algo) (rest : List ℕ) (d : Digest) : Type 0 where
  pub colon : ℕ
  pub rest_is : rest ≡ colon ∷ 0 ∷ d.bytes
  pub algo_is : d.algo ≡ a
  pub size : HasDigestSize d

-- what is read after the name is a colon, a zero byte and the digest
digest_after-parts : (a : Algo) (rest : List ℕ) (d : Digest) → digest_after a rest ≡ Some d
    → IsAfter a rest d
digest_after-parts a [] d is = absurd (none-some d is)
digest_after-parts a (c ∷ []) d is = absurd (none-some d is)
digest_after-parts a (c ∷ b ∷ bytes) d is =
    let zero_byte = chosen (b == 0) (digest_by a bytes) d is in
    let by = cond_some (length bytes == algo_size a) (record { algo = a; bytes = bytes }) d
    zero_byte.1 in
    subst (λ (x : Digest). IsAfter a (c ∷ b ∷ bytes) x) by.1 (record {
      colon = c;
      rest_is = λ i. c ∷ eqb-true b 0 zero_byte.0 i ∷ bytes;
      algo_is = refl;
      size = eqb-true (length bytes) (algo_size a) by.0;
    })

-- a field in which a digest is read is the field of this digest
record IsDigestField (field : List ℕ) (d : Digest) : Type 0 where
  pub size : HasDigestSize d
  pub field_is : d_ng d ≡ field

-- the field is that of the digest that is read
digest_in-parts : (field : List ℕ) (d : Digest) → digest_in field ≡ Some d → IsDigestField field d
digest_in-parts field d is =
    let s = steps (λ (a : Algo). digest_after a (from_first is_colon field))
    (algo_by_name (before_first is_colon field)) d is in
    let name : algo_name s.0 ≡ before_first is_colon field =
    algo_name-by_name (before_first is_colon field) s.0 s.1 in
    let after = digest_after-parts s.0 (from_first is_colon field) d s.2 in
    let colon : after.colon ≡ 58 =
    eqb-true after.colon 58
    (first-passes is_colon field after.colon (0 ∷ d.bytes) after.rest_is) in
    record {
      size = after.size;
      field_is = append_assoc (algo_name d.algo) (58 ∷ []) (0 ∷ d.bytes)
          ∙ (λ i. (ap algo_name after.algo_is ∙ name) i ++ sym colon i ∷ 0 ∷ d.bytes)
          ∙ ap (λ (l : List ℕ). before_first is_colon field ++ l) (sym after.rest_is)
          ∙ split-first is_colon field;
    }

-- ---- a name

-- the first zero byte is the one after the name
first_zero : (name rest : List ℕ) → All IsGraphic name
    → position_or_len is_zero (name ++ 0 ∷ rest) ≡ length name
first_zero [] rest graphic = refl
first_zero (b ∷ bs) rest graphic =
    let first : 0x21 ≤ b = (graphic 0 b (omega arith)).0 in
    let not_zero : (b == 0) ≡ false = ne_eqb b 0 (λ e. omega arith) in
    let later = first_zero bs rest (λ k d below. graphic (suc k) d (omega arith)) in
    rw not_zero (omega (arith, later))

-- the name stands before the first zero byte
before_zero : (name rest : List ℕ) → All IsGraphic name
    → before_first is_zero (name ++ 0 ∷ rest) ≡ name
before_zero name rest graphic =
    ap (λ (n : ℕ). take n (name ++ 0 ∷ rest)) (first_zero name rest graphic)
    ∙ take_at name (0 ∷ rest) (length name) refl

-- the first zero byte and those after it
from_zero : (name rest : List ℕ) → All IsGraphic name
    → from_first is_zero (name ++ 0 ∷ rest) ≡ 0 ∷ rest
from_zero name rest graphic =
    ap (λ (n : ℕ). drop n (name ++ 0 ∷ rest)) (first_zero name rest graphic)
    ∙ drop_at name (0 ∷ rest) (length name) refl

-- the name is read from its field
name_in-n_ng : (name : List ℕ) → All IsGraphic name → name_in (n_ng name) ≡ Some name
name_in-n_ng name graphic =
    ap (λ (l : List ℕ). cond (length l == 1) (Some (before_first is_zero (n_ng name))) None)
    (from_zero name [] graphic)
    ∙ ap Some (before_zero name [] graphic)

-- a list of one byte
single : (bytes : List ℕ) → length bytes ≡ 1 → (x : ℕ) × (bytes ≡ x ∷ [])
single [] one = absurd (omega (arith, one))
single (x ∷ []) one = (x, refl)
single (x ∷ y ∷ bytes) one = absurd (omega (arith, one))

-- a field in which a name is read is the field of this name
name_in-parts : (field name : List ℕ) → name_in field ≡ Some name → n_ng name ≡ field
name_in-parts field name is =
    let found = cond_some (length (from_first is_zero field) == 1) (before_first is_zero field) name
    is in
    let last = single (from_first is_zero field)
    (eqb-true (length (from_first is_zero field)) 1 found.0) in
    let zero_byte : last.0 ≡ 0 =
    eqb-true last.0 0 (first-passes is_zero field last.0 [] last.1) in
    (λ i. sym found.1 i ++ sym zero_byte i ∷ [])
    ∙ ap (λ (l : List ℕ). before_first is_zero field ++ l) (sym last.1)
    ∙ split-first is_zero field

-- ---- a padded name

-- zeros are zeros
pub list_all-zeros : (n : ℕ) → list_all is_zero (replicate n 0) ≡ true
list_all-zeros zero = refl
list_all-zeros (suc n) = list_all-zeros n

-- bytes that are all zero are zeros
pub zeros_are : (bytes : List ℕ) → list_all is_zero bytes ≡ true
    → bytes ≡ replicate (length bytes) 0
zeros_are [] is = refl
zeros_are (b ∷ bs) is =
    let both = and_parts (is_zero b) (list_all is_zero bs) is in
    λ i. eqb-true b 0 both.0 i ∷ zeros_are bs both.1 i

-- a name is read before the zeros that pad it
padded_in-zeros : (name : List ℕ) (n : ℕ) → All IsGraphic name → length name + suc n ≡ 256
    → padded_in (name ++ 0 ∷ replicate n 0) ≡ Some name
padded_in-zeros name n graphic whole =
    let long : (length (name ++ 0 ∷ replicate n 0) == 256) ≡ true =
    eq-eqb (length (name ++ 0 ∷ replicate n 0)) 256
    (omega (
      arith,
      whole,
      length-append name (0 ∷ replicate n 0),
      length-replicate {A = ℕ} n 0,
    )) in
    let zeros : list_all is_zero (from_first is_zero (name ++ 0 ∷ replicate n 0)) ≡ true =
    ap (list_all is_zero) (from_zero name (replicate n 0) graphic) ∙ list_all-zeros (suc n) in
    ap (λ (b : Bool). cond b (Some (before_first is_zero (name ++ 0 ∷ replicate n 0))) None)
    (and_from (length (name ++ 0 ∷ replicate n 0) == 256)
    (list_all is_zero (from_first is_zero (name ++ 0 ∷ replicate n 0))) long zeros)
    ∙ ap Some (before_zero name (replicate n 0) graphic)

-- the name is read from its padded field
padded_in-n_padded : (name : List ℕ) → All IsGraphic name → length name ≤ 255
    → padded_in (n_padded name) ≡ Some name
padded_in-n_padded name graphic at_most =
    let count : 256 - length name ≡ suc (255 - length name) = omega arith in
    ap (λ (n : ℕ). padded_in (name ++ replicate n 0)) count
    ∙ padded_in-zeros name (255 - length name) graphic (omega arith)

-- a field in which a padded name is read is the padded field of this name
padded_in-parts : (field name : List ℕ) → padded_in field ≡ Some name → n_padded name ≡ field
padded_in-parts field name is =
    let found = cond_some (length field == 256 && list_all is_zero (from_first is_zero field))
    (before_first is_zero field) name is in
    let both = and_parts (length field == 256) (list_all is_zero (from_first is_zero field))
    found.0 in
    let count : length (from_first is_zero field) ≡ 256 - length (before_first is_zero field) =
    length-drop (position_or_len is_zero field) field
    ∙ (λ i. eqb-true (length field) 256 both.0 i - sym (length-before_first is_zero field) i) in
    ap n_padded (sym found.1)
    ∙ ap (λ (n : ℕ). before_first is_zero field ++ replicate n 0) (sym count)
    ∙ ap (λ (l : List ℕ). before_first is_zero field ++ l)
    (sym (zeros_are (from_first is_zero field) both.1))
    ∙ split-first is_zero field

-- ---- all fields

-- `d-ng` and `n-ng` are read, and the bytes after them
head_in-fields : (d : Digest) (name rest : List ℕ) → HasDigestSize d → length (d_ng d) < 2 ^ 32
    → All IsGraphic name → length name ≤ 1024
    → head_in (sized (d_ng d) ++ (sized (n_ng name) ++ rest)) ≡ Some (d, name, rest)
head_in-fields d name rest size fits graphic at_most =
    let name_fits : length (n_ng name) < 2 ^ 32 = omega (arith, length-append name (0 ∷ [])) in
    let first = sized_in-append (d_ng d) (sized (n_ng name) ++ rest) fits in
    let second = sized_in-append (n_ng name) rest name_fits in
    rw (first, digest_in-d_ng d size, second, name_in-n_ng name graphic) refl

-- the last field is read
last_in-sized : (sig : List ℕ) → length sig < 2 ^ 32 → last_in (sized sig ++ []) ≡ Some sig
last_in-sized sig fits =
    let cut = sized_in-append sig [] fits in
    rw cut refl

-- the length of `d-ng` fits in 4 bytes
d_ng-fits : (e : Entry) → IsEntry e → length (d_ng e.digest) < 2 ^ 32
d_ng-fits e kept =
    length-content-fits DigestNg e.digest e.name e.sig (HasLengths-entry e kept)

-- the third field's length fits in 4 bytes
sig-fits : (e : Entry) → IsEntry e → length e.sig < 2 ^ 32
sig-fits e kept = length-content-fits Sig e.digest e.name e.sig (HasLengths-entry e kept)

-- the contents of a template with a third field are read
third_at : (e : Entry) (t : Template) → IsEntry e
    → third_in t (sized e.sig ++ []) ≡ Some e.sig
    → ng_in t (sized (d_ng e.digest) ++ (sized (n_ng e.name) ++ (sized e.sig ++ [])))
    ≡ Some (e.digest, e.name, e.sig)
third_at e t kept third =
    let head = head_in-fields e.digest e.name (sized e.sig ++ []) kept.digest_size
    (d_ng-fits e kept) kept.name_graphic kept.name_at_most in
    rw (head, third) refl

-- an entry's contents are read, by cases over the template
contents_at : (e : Entry) (t : Template) → IsEntry e → e.template ≡ t
    → contents_in t (data_by t e.digest e.name e.sig) ≡ Some (e.digest, e.name, e.sig)
contents_at e Ima kept is =
    let algo : e.digest.algo ≡ Sha1 = kept.digest_of_ima is in
    let size : length e.digest.bytes ≡ 20 = kept.digest_size ∙ ap algo_size algo in
    let digest : digest_by Sha1 e.digest.bytes ≡ Some e.digest =
    digest_by-size Sha1 e.digest.bytes size
    ∙ (λ i. Some (record { algo = sym algo i; bytes = e.digest.bytes })) in
    let cut = cut_at-append 20 e.digest.bytes (n_padded e.name ++ []) size in
    let name : padded_in (n_padded e.name ++ []) ≡ Some e.name =
    ap padded_in (append-nil (n_padded e.name))
    ∙ padded_in-n_padded e.name kept.name_graphic (kept.name_of_ima is) in
    rw (cut, digest, name) (λ i. Some (e.digest, e.name, sym (kept.sig_of_ima is) i))
contents_at e ImaNg kept is =
    let head = head_in-fields e.digest e.name [] kept.digest_size (d_ng-fits e kept)
    kept.name_graphic kept.name_at_most in
    rw head (λ i. Some (e.digest, e.name, sym (kept.sig_of_ima_ng is) i))
contents_at e ImaSig kept is = third_at e ImaSig kept (last_in-sized e.sig (sig-fits e kept))
contents_at e ImaBuf kept is = third_at e ImaBuf kept (last_in-sized e.sig (sig-fits e kept))

-- an entry's contents are read from its template data
pub contents_in-template_data : (e : Entry) → IsEntry e
    → contents_in e.template (template_data e) ≡ Some (e.digest, e.name, e.sig)
unfolding template_data
contents_in-template_data e kept = contents_at e e.template kept refl

-- ---- what is read

-- these are contents of the fields of the template, and the bytes are its template data
pub record AreContents (t : Template) (f : Fields) (bytes : List ℕ) : Type 0 where
  pub digest_size : HasDigestSize f.0
  pub digest_of_ima : t ≡ Ima → f.0.algo ≡ Sha1
  pub sig_of_ima : t ≡ Ima → f.2 ≡ []
  pub sig_of_ima_ng : t ≡ ImaNg → f.2 ≡ []
  pub bytes_are : data_by t f.0 f.1 f.2 ≡ bytes

-- the bytes are `d-ng` and `n-ng` with these contents and further bytes
record AreHead (f : Fields) (bytes : List ℕ) : Type 0 where
  pub digest_size : HasDigestSize f.0
  pub bytes_are : sized (d_ng f.0) ++ (sized (n_ng f.1) ++ f.2) ≡ bytes
  pub small : IsBytes f.2

-- the bytes are made of the contents that are read and of the bytes after them
head_in-parts : (bytes : List ℕ) (f : Fields) → IsBytes bytes → head_in bytes ≡ Some f
    → AreHead f bytes
head_in-parts bytes f small is =
    let a = steps (λ (p : List ℕ × List ℕ). digest_in p.0
    >>= λ digest. sized_in p.1 >>= λ n. name_in n.0 >>= λ name. Some (digest, name, n.1))
    (sized_in bytes) f is in
    let b = steps (λ (digest : Digest). sized_in a.0.1
    >>= λ n. name_in n.0 >>= λ name. Some (digest, name, n.1)) (digest_in a.0.0) f a.2 in
    let c = steps (λ (n : List ℕ × List ℕ). name_in n.0 >>= λ name. Some (b.0, name, n.1))
    (sized_in a.0.1) f b.2 in
    let d = steps (λ (name : List ℕ). Some (b.0, name, c.0.1)) (name_in c.0.0) f c.2 in
    let first : bytes ≡ sized a.0.0 ++ a.0.1 = sized_in-parts bytes a.0 small a.1 in
    let small_rest : IsBytes a.0.1 =
    IsBytes-back (sized a.0.0) a.0.1 (IsBytes-same bytes (sized a.0.0 ++ a.0.1) first small) in
    let second : a.0.1 ≡ sized c.0.0 ++ c.0.1 = sized_in-parts a.0.1 c.0 small_rest c.1 in
    let digest = digest_in-parts a.0.0 b.0 b.1 in
    let name : n_ng d.0 ≡ c.0.0 = name_in-parts c.0.0 d.0 d.1 in
    subst (λ (x : Fields). AreHead x bytes) (same_Some (b.0, d.0, c.0.1) f d.2) (record {
      digest_size = digest.size;
      bytes_are = (λ i. sized (digest.field_is i) ++ (sized (name i) ++ c.0.1))
          ∙ (λ i. sized a.0.0 ++ sym second i) ∙ sym first;
      small = IsBytes-back (sized c.0.0) c.0.1
          (IsBytes-same a.0.1 (sized c.0.0 ++ c.0.1) second small_rest);
    })

-- the bytes in which a last field is read are that field after its length
last_in-parts : (bytes sig : List ℕ) → IsBytes bytes → last_in bytes ≡ Some sig
    → sized sig ++ [] ≡ bytes
last_in-parts bytes sig small is =
    let s = steps (λ (p : List ℕ × List ℕ). cond (length p.1 == 0) (Some p.0) None)
    (sized_in bytes) sig is in
    let found = cond_some (length s.0.1 == 0) s.0.0 sig s.2 in
    let none : s.0.1 ≡ [] = nil_from_length s.0.1 (eqb-true (length s.0.1) 0 found.0) in
    (λ i. sized (sym found.1 i) ++ sym none i) ∙ sym (sized_in-parts bytes s.0 small s.1)

-- no third field is read of no bytes
nothing_in-parts : (bytes sig : List ℕ) → nothing_in bytes ≡ Some sig
    → (sig ≡ []) × (bytes ≡ [])
nothing_in-parts bytes sig is =
    let found = cond_some {A = List ℕ} (length bytes == 0) [] sig is in
    (sym found.1, nil_from_length bytes (eqb-true (length bytes) 0 found.0))

-- the contents of `ima`
ima_in-parts : (bytes : List ℕ) (f : Fields) → ima_in bytes ≡ Some f → AreContents Ima f bytes
ima_in-parts bytes f is =
    let a = steps (λ (p : List ℕ × List ℕ). digest_by Sha1 p.0
    >>= λ digest. padded_in p.1 >>= λ name. Some (digest, name, [])) (cut_at (algo_size Sha1) bytes)
    f is in
    let b = steps (λ (digest : Digest). padded_in a.0.1 >>= λ name. Some (digest, name, []))
    (digest_by Sha1 a.0.0) f a.2 in
    let c = steps (λ (name : List ℕ). Some (b.0, name, [])) (padded_in a.0.1) f b.2 in
    let cut = cut_at-parts 20 bytes a.0 a.1 in
    let made = cond_some (length a.0.0 == algo_size Sha1)
    (record { algo = Sha1; bytes = a.0.0 }) b.0 b.1 in
    let name : n_padded c.0 ≡ a.0.1 = padded_in-parts a.0.1 c.0 c.1 in
    subst (λ (x : Fields). AreContents Ima x bytes) (same_Some (b.0, c.0, []) f c.2) (record {
      digest_size = subst (λ (d : Digest). HasDigestSize d) made.1 cut.0;
      digest_of_ima = λ _. ap (λ (d : Digest). d.algo) (sym made.1);
      sig_of_ima = λ _. refl;
      sig_of_ima_ng = λ _. refl;
      bytes_are = (λ i. ap (λ (d : Digest). d.bytes) (sym made.1) i
          ++ (append-nil (n_padded c.0) ∙ name) i) ∙ sym cut.1;
    })

-- the contents of the other templates
ng_in-parts : (t : Template) (bytes : List ℕ) (f : Fields) → IsBytes bytes
    → ng_in t bytes ≡ Some f
    → (h : Fields) × AreHead h bytes × (third_in t h.2 ≡ Some f.2) × (f.0 ≡ h.0) × (f.1 ≡ h.1)
ng_in-parts t bytes f small is =
    let a = steps (λ (h : Fields). third_in t h.2 >>= λ sig. Some (h.0, h.1, sig)) (head_in bytes) f
    is in
    let b = steps (λ (sig : List ℕ). Some (a.0.0, a.0.1, sig)) (third_in t a.0.2) f a.2 in
    let same : (a.0.0, a.0.1, b.0) ≡ f = same_Some (a.0.0, a.0.1, b.0) f b.2 in (
      a.0,
      head_in-parts bytes a.0 small a.1,
      b.1 ∙ ap (λ (x : Fields). Some x.2) same,
      ap (λ (x : Fields). x.0) (sym same),
      ap (λ (x : Fields). x.1) (sym same),
    )

-- the contents of a template whose third field is the last
third_in-parts : (t : Template) (bytes : List ℕ) (f : Fields) → IsBytes bytes
    → ((h : Fields) × AreHead h bytes × (last_in h.2 ≡ Some f.2) × (f.0 ≡ h.0) × (f.1 ≡ h.1))
    → (HasDigestSize f.0)
    × (sized (d_ng f.0) ++ (sized (n_ng f.1) ++ (sized f.2 ++ [])) ≡ bytes)
third_in-parts t bytes f small p =
    let h = p.0 in
    let head : AreHead h bytes = p.1 in
    let rest : sized f.2 ++ [] ≡ h.2 = last_in-parts h.2 f.2 head.small p.2 in (
      subst (λ (d : Digest). HasDigestSize d) (sym p.3) head.digest_size,
      (λ i. sized (d_ng (p.3 i)) ++ (sized (n_ng (p.4 i)) ++ rest i)) ∙ head.bytes_are,
    )

-- contents that are read of bytes are those of which the bytes are the template data
pub contents_in-parts : (t : Template) (bytes : List ℕ) (f : Fields) → IsBytes bytes
    → contents_in t bytes ≡ Some f → AreContents t f bytes
contents_in-parts Ima bytes f small is = ima_in-parts bytes f is
contents_in-parts ImaNg bytes f small is =
    let p = ng_in-parts ImaNg bytes f small is in
    let head : AreHead p.0 bytes = p.1 in
    let none = nothing_in-parts p.0.2 f.2 p.2 in
    record {
      digest_size = subst (λ (d : Digest). HasDigestSize d) (sym p.3) head.digest_size;
      digest_of_ima = λ e. absurd (cc e);
      sig_of_ima = λ e. absurd (cc e);
      sig_of_ima_ng = λ _. none.0;
      bytes_are = (λ i. sized (d_ng (p.3 i)) ++ (sized (n_ng (p.4 i)) ++ sym none.1 i))
          ∙ head.bytes_are;
    }
contents_in-parts ImaSig bytes f small is =
    let p = third_in-parts ImaSig bytes f small (ng_in-parts ImaSig bytes f small is) in
    record {
      digest_size = p.0;
      digest_of_ima = λ e. absurd (cc e);
      sig_of_ima = λ e. absurd (cc e);
      sig_of_ima_ng = λ e. absurd (cc e);
      bytes_are = p.1;
    }
contents_in-parts ImaBuf bytes f small is =
    let p = third_in-parts ImaBuf bytes f small (ng_in-parts ImaBuf bytes f small is) in
    record {
      digest_size = p.0;
      digest_of_ima = λ e. absurd (cc e);
      sig_of_ima = λ e. absurd (cc e);
      sig_of_ima_ng = λ e. absurd (cc e);
      bytes_are = p.1;
    }

-- The entry that is read of template data is the one that has the template data.
use Rattle.std.proofs.Common.{◌≡◌, ◌≢◌, ℕ, ◌≤◌, ◌==◌, Bool, true, false, not, ◌&&◌, ◌||◌, cond, List, length, get_or, replicate, Option, Some, None, refl, sym, ap, subst, ◌∙◌, arith, eq-eqb, eqb-true, le-leb, leb, leb-true, lt-ltb, ltb, ltb-true}
use Rattle.std.proofs.lemmas.Bool.{and_from, and_parts, false≢true}
use Rattle.std.proofs.lemmas.List.{nil_from_length}
use Rattle.std.proofs.lemmas.List.Sums.{AllPass-from_list_all, list_all-from_AllPass}
use Rattle.std.proofs.lemmas.Option.{cond_some}
use Rattle.std.specs.List.{All, list_all}
use Rattle.ima_templates.specs.Data.{template_data}
use Rattle.ima_templates.specs.IsEntry.{IsEntry, IsViolation}
use Rattle.ima_templates.specs.Path.{IsGraphic}
use Rattle.ima_templates.specs.declared.entry.Entry.{Entry}
use Rattle.ima_templates.specs.hashes.Algo.{algo_size}
use Rattle.ima_templates.specs.hashes.Digest.{HasDigestSize}
use Rattle.ima_templates.specs.hashes.declared.digest.Digest.{Digest}
use Rattle.ima_templates.specs.meta.Registers.{default_pcr}
use Rattle.ima_templates.specs.meta.declared.measurement.Template.{Template}
use Rattle.ima_templates.specs.meta.declared.measurement.Template.TheVariants.{Ima, ImaNg, ImaSig, ImaBuf}
use Rattle.ima_templates.specs.xattrs.Attrs.{most_value}
use Rattle.carry_form.specs.Contents.{Fields, contents_in, is_zero}
use Rattle.carry_form.specs.Cut.{◌>>=◌}
use Rattle.carry_form.specs.Entries.{entry_by, entry_in, entry_with, has_violations, is_graphic, is_name, is_valid, is_violation, most_name}
use Rattle.carry_form.proofs.ContentLemmas.{AreContents, contents_in-parts, contents_in-template_data, list_all-zeros, zeros_are}
use Rattle.carry_form.proofs.Steps.{IsBytes, steps}

-- ---- an entry has valid contents

-- the contents of an entry's fields
abbrev fields_in : Entry → Fields
fields_in e = (e.digest, e.name, e.sig)

-- graphic bytes pass the test
list_all-graphic : (name : List ℕ) → All IsGraphic name → list_all is_graphic name ≡ true
list_all-graphic name graphic =
    list_all-from_AllPass is_graphic name (λ k d below.
    let b = graphic k d below in
    and_from (leb 0x21 (get_or name k d)) (leb (get_or name k d) 0x7e)
    (le-leb 0x21 (get_or name k d) b.0) (le-leb (get_or name k d) 0x7e b.1))

-- an entry's name is no longer than those of its template
name-at_most : (e : Entry) (t : Template) → IsEntry e → e.template ≡ t
    → length e.name ≤ most_name t
name-at_most e Ima kept is = kept.name_of_ima is
name-at_most e ImaNg kept is = kept.name_at_most
name-at_most e ImaSig kept is = kept.name_at_most
name-at_most e ImaBuf kept is = kept.name_at_most

-- an entry's name passes the test
is_name-entry : (e : Entry) → IsEntry e → is_name e.template e.name ≡ true
is_name-entry e kept =
    and_from _ _ (and_from _ _ (le-leb 1 (length e.name) kept.name_not_empty)
    (le-leb (length e.name) (most_name e.template) (name-at_most e e.template kept refl)))
    (list_all-graphic e.name kept.name_graphic)

-- a template other than `ima-buf` has violations
has_violations-at : (t : Template) → t ≢ ImaBuf → has_violations t ≡ true
has_violations-at Ima other = refl
has_violations-at ImaNg other = refl
has_violations-at ImaSig other = refl
has_violations-at ImaBuf other = absurd (other refl)

-- a violation's contents pass the test
is_violation-entry : (e : Entry) → IsViolation e
    → is_violation e.pcr e.template (fields_in e) ≡ true
is_violation-entry e v =
    let zeros : list_all is_zero e.digest.bytes ≡ true =
    ap (λ (d : Digest). list_all is_zero d.bytes) v.digest
    ∙ list_all-zeros (algo_size e.digest.algo) in
    and_from _ _ (and_from _ _ (and_from _ _ (eq-eqb e.pcr default_pcr v.pcr) zeros)
    (eq-eqb (length e.sig) 0 (ap length v.sig))) (has_violations-at e.template v.template)

-- each entry's contents are valid
is_valid-entry : (e : Entry) → IsEntry e
    → is_valid e.pcr e.template e.violation (fields_in e) ≡ true
is_valid-entry e kept =
    and_from _ _ (and_from _ _ (and_from _ _ (lt-ltb e.pcr 24 kept.pcr) (is_name-entry e kept))
    (le-leb (length e.sig) most_value kept.sig_at_most)) (at e.violation refl) where
      at : (v : Bool) → e.violation ≡ v
          → (not v || is_violation e.pcr e.template (fields_in e)) ≡ true
      at true is = is_violation-entry e (kept.violation is)
      at false is = refl

-- the entry is read from its template data
pub entry_in-template_data : (e : Entry) → IsEntry e
    → entry_in e.pcr e.template e.violation (template_data e) ≡ Some e
unfolding entry_in
entry_in-template_data e kept =
    ap (λ (o : Option Fields). o >>= entry_by e.pcr e.template e.violation)
    (contents_in-template_data e kept)
    ∙ ap (λ (b : Bool). cond b (Some e) None) (is_valid-entry e kept)

-- ---- valid contents are those of an entry

-- bytes that pass the test are graphic
graphic-list_all : (name : List ℕ) → list_all is_graphic name ≡ true → All IsGraphic name
graphic-list_all name is k d below =
    let both = and_parts (leb 0x21 (get_or name k d)) (leb (get_or name k d) 0x7e)
    (AllPass-from_list_all is_graphic name is k d below) in
    (leb-true 0x21 (get_or name k d) both.0, leb-true (get_or name k d) 0x7e both.1)

-- no name has more than 1,024 bytes
most_name-le : (t : Template) → most_name t ≤ 1024
most_name-le Ima = omega arith
most_name-le ImaNg = omega arith
most_name-le ImaSig = omega arith
most_name-le ImaBuf = omega arith

-- under `ima` a name has at most 255
most_name-ima : (t : Template) → t ≡ Ima → most_name t ≤ 255
most_name-ima t is = omega (arith, ap most_name is)

-- `ima-buf` has no violations
has_violations-true : (t : Template) → has_violations t ≡ true → t ≢ ImaBuf
has_violations-true t has is = false≢true (ap has_violations (sym is) ∙ has)

-- contents that pass the test are those of a violation
violation-true : (pcr : ℕ) (t : Template) (f : Fields) → HasDigestSize f.0
    → is_violation pcr t f ≡ true → IsViolation (entry_with pcr t true f)
violation-true pcr t f size is =
    let all = and_parts (pcr == default_pcr && list_all is_zero f.0.bytes && length f.2 == 0)
    (has_violations t) is in
    let front = and_parts (pcr == default_pcr && list_all is_zero f.0.bytes) (length f.2 == 0)
    all.0 in
    let both = and_parts (pcr == default_pcr) (list_all is_zero f.0.bytes) front.0 in
    let zeros : f.0.bytes ≡ replicate (algo_size f.0.algo) 0 =
    zeros_are f.0.bytes both.1 ∙ ap (λ (n : ℕ). replicate n 0) size in
    record {
      pcr = eqb-true pcr default_pcr both.0;
      digest = λ i. record { algo = f.0.algo; bytes = zeros i };
      sig = nil_from_length f.2 (eqb-true (length f.2) 0 front.1);
      template = has_violations-true t all.1;
    }

-- valid contents make an entry
entry-is_valid : (pcr : ℕ) (t : Template) (v : Bool) (f : Fields) (bytes : List ℕ)
    → AreContents t f bytes → is_valid pcr t v f ≡ true → IsEntry (entry_with pcr t v f)
entry-is_valid pcr t v f bytes contents is =
    let all = and_parts (ltb pcr 24 && is_name t f.1 && leb (length f.2) most_value)
    (not v || is_violation pcr t f) is in
    let front = and_parts (ltb pcr 24 && is_name t f.1) (leb (length f.2) most_value) all.0 in
    let both = and_parts (ltb pcr 24) (is_name t f.1) front.0 in
    let name = and_parts (leb 1 (length f.1) && leb (length f.1) (most_name t))
    (list_all is_graphic f.1) both.1 in
    let long = and_parts (leb 1 (length f.1)) (leb (length f.1) (most_name t)) name.0 in
    let at_most : length f.1 ≤ most_name t = leb-true (length f.1) (most_name t) long.1 in
    record {
      pcr = ltb-true pcr 24 both.0;
      digest_size = contents.digest_size;
      digest_of_ima = contents.digest_of_ima;
      name_not_empty = leb-true 1 (length f.1) long.0;
      name_at_most = omega (arith, at_most, most_name-le t);
      name_graphic = graphic-list_all f.1 name.1;
      name_of_ima = λ ima. omega (arith, at_most, most_name-ima t ima);
      sig_at_most = leb-true (length f.2) most_value front.1;
      sig_of_ima = contents.sig_of_ima;
      sig_of_ima_ng = contents.sig_of_ima_ng;
      violation = at v all.1;
    }
  where
    at : (w : Bool) → (not w || is_violation pcr t f) ≡ true → w ≡ true
        → IsViolation (entry_with pcr t w f)
    at true ok is_true = violation-true pcr t f contents.digest_size ok
    at false ok is_true = absurd (false≢true is_true)

-- the entry has this register, this template and these template data, and is a violation or not
pub record IsOfData (pcr : ℕ) (t : Template) (v : Bool) (bytes : List ℕ) (e : Entry) : Type 0 where
  pub entry : IsEntry e
  pub pcr_is : e.pcr ≡ pcr
  pub template_is : e.template ≡ t
  pub violation_is : e.violation ≡ v
  pub bytes_are : template_data e ≡ bytes

-- contents that were read make an entry, if they are valid
pub entry-contents : (pcr : ℕ) (t : Template) (v : Bool) (bytes : List ℕ) (f : Fields)
    → IsBytes bytes → contents_in t bytes ≡ Some f → is_valid pcr t v f ≡ true
    → IsEntry (entry_with pcr t v f)
entry-contents pcr t v bytes f small read valid =
    entry-is_valid pcr t v f bytes (contents_in-parts t bytes f small read) valid

-- an entry that is read of bytes has them as its template data
pub entry_in-parts : (pcr : ℕ) (t : Template) (v : Bool) (bytes : List ℕ) (e : Entry)
    → IsBytes bytes → entry_in pcr t v bytes ≡ Some e → IsOfData pcr t v bytes e
unfolding entry_in template_data
entry_in-parts pcr t v bytes e small is =
    let s = steps (entry_by pcr t v) (contents_in t bytes) e is in
    let contents = contents_in-parts t bytes s.0 small s.1 in
    let made = cond_some (is_valid pcr t v s.0) (entry_with pcr t v s.0) e s.2 in
    subst (λ (x : Entry). IsOfData pcr t v bytes x) made.1 (record {
      entry = entry-is_valid pcr t v s.0 bytes contents made.0;
      pcr_is = refl;
      template_is = refl;
      violation_is = refl;
      bytes_are = contents.bytes_are;
    })

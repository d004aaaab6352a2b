-- The records that are read are those that were written.
use Rattle.std.proofs.Common.{◌≡◌, ℕ, zero, suc, ◌-◌, ◌<◌, ◌≤◌, ◌==◌, Bool, true, false, cond, List, [], ◌∷◌, ◌++◌, length, take, drop, Option, Some, None, refl, sym, ap, subst, ◌∙◌, arith, append_assoc, append-nil, eqb-true, leb, le-leb, slice_index}
use Rattle.std.proofs.lemmas.Bool.{lt-leb}
use Rattle.std.proofs.lemmas.List.{nil_from_length, take_rest}
use Rattle.std.proofs.lemmas.List.Elements.{All-cons, All-head, All-nil, All-tail}
use Rattle.std.proofs.lemmas.Option.{cond_some, none-some, same_Some}
use Rattle.std.specs.List.{All}
use Rattle.std.specs.Prelude.{option_map}
use Rattle.byteorder.specs.Endian.{little_bytes, little_number}
use Rattle.byteorder.specs.Numbers.{little_number-reads_back}
use Rattle.ima_templates.specs.Data.{sized, template_data}
use Rattle.ima_templates.specs.IsEntry.{IsEntry}
use Rattle.ima_templates.specs.declared.entry.Entry.{Entry}
use Rattle.ima_templates.specs.meta.declared.measurement.Template.{Template}
use Rattle.ima_templates.specs.meta.declared.measurement.Template.TheVariants.{Ima, ImaNg, ImaSig, ImaBuf}
use Rattle.ima_templates.proofs.DataLemmas.{length-template_data-fits}
use Rattle.carry_form.specs.Cut.{◌>>=◌, sized_in}
use Rattle.carry_form.specs.Entries.{entry_in}
use Rattle.carry_form.specs.Form.{flag, record_of, records_of, template_number}
use Rattle.carry_form.specs.Reading.{RecordParts, Takes, flag_by, parts_in, record_in, records_in, six_then, template_by, with_parts}
use Rattle.carry_form.proofs.Cutting.{little_bytes-front_4, sized_in-append, sized_in-parts}
use Rattle.carry_form.proofs.EntryLemmas.{entry_in-parts, entry_in-template_data}
use Rattle.carry_form.proofs.Steps.{IsBytes, IsBytes-back, IsBytes-front, IsBytes-same, chosen, find-passes, steps}

-- ---- what was written is read

-- the byte of a flag is read as the flag
flag_by-flag : (violation : Bool) → flag_by (flag violation) ≡ Some violation
flag_by-flag true = refl
flag_by-flag false = refl

-- the number of a template is read as the template
template_by-number : (t : Template) → template_by (template_number t) ≡ Some t
template_by-number Ima = refl
template_by-number ImaNg = refl
template_by-number ImaSig = refl
template_by-number ImaBuf = refl

-- the parts of an entry's record, before the bytes `rest`
abbrev parts_with : Entry → List ℕ → RecordParts
parts_with e rest = with_parts e.pcr e.violation e.template (template_data e, rest)

-- the parts are read from the record
parts_in-record : (e : Entry) (rest : List ℕ) → IsEntry e
    → parts_in (record_of e ++ rest) ≡ Some (parts_with e rest)
unfolding record_of
parts_in-record e rest kept =
    let after = sized (template_data e) ++ rest in
    let long : leb 6 (length (record_of e ++ rest)) ≡ true =
    le-leb 6 (length (record_of e ++ rest)) (omega arith) in
    let pcr : little_number 4 (drop 1 (record_of e ++ rest)) ≡ e.pcr =
    little_number-reads_back 4 e.pcr (template_number e.template ∷ after)
    (omega (arith, kept.pcr)) in
    let bytes : sized_in (sized (template_data e) ++ rest) ≡ Some (template_data e, rest) =
    sized_in-append (template_data e) rest (length-template_data-fits e kept) in
    ap (λ (b : Bool). cond b (six_then (flag e.violation)
    (little_number 4 (drop 1 (record_of e ++ rest))) (template_number e.template)
    (sized (template_data e) ++ rest)) None) long
    ∙ (λ i. flag_by-flag e.violation i >>= λ violation. template_by-number e.template i
    >>= λ template. bytes i >>= λ p. Some (with_parts (pcr i) violation template p))

-- the entry is read from its record
pub record_in-record : (e : Entry) (rest : List ℕ) → IsEntry e
    → record_in (record_of e ++ rest) ≡ Some (e, rest)
unfolding record_in
record_in-record e rest kept =
    ap (λ (o : Option RecordParts). o >>= λ p. entry_in p.pcr p.template p.violation p.bytes
    >>= λ x. Some (x, p.rest)) (parts_in-record e rest kept)
    ∙ ap (λ (o : Option Entry). o >>= λ x. Some (x, rest)) (entry_in-template_data e kept)

-- the entries are read from their records
pub records_in-records : (list : List Entry) → All IsEntry list
    → records_in (length list) (records_of list) ≡ Some list
records_in-records [] entries = refl
records_in-records (e ∷ es) entries =
    let first : record_in (record_of e ++ records_of es) ≡ Some (e, records_of es) =
    record_in-record e (records_of es) (All-head IsEntry e es entries) in
    let others : records_in (length es) (records_of es) ≡ Some es =
    records_in-records es (All-tail IsEntry e es entries) in
    ap (λ (o : Option (Entry × List ℕ)). o >>= λ p. option_map (λ more. p.0 ∷ more)
    (records_in (length es) p.1)) first
    ∙ ap (option_map (λ (more : List Entry). e ∷ more)) others

-- ---- what is read was written

-- the bytes are a record with these parts, and further bytes
record AreRecord (p : RecordParts) (bytes : List ℕ) : Type 0 where
  pub bytes_are : bytes
      ≡ flag p.violation ∷ [] ++ little_bytes 4 p.pcr ++ template_number p.template ∷ []
      ++ sized p.bytes ++ p.rest
  pub small : IsBytes p.bytes
  pub small_rest : IsBytes p.rest

-- a field of bytes after its length is made of bytes
IsBytes-sized : (field rest : List ℕ) → IsBytes (sized field ++ rest) → IsBytes field
unfolding sized
IsBytes-sized field rest small =
    IsBytes-back (little_bytes 4 (length field)) field
    (IsBytes-front (little_bytes 4 (length field) ++ field) rest small)

-- the parts of six bytes and those after them
six_then-parts : (f a b c d t : ℕ) (tail : List ℕ) (p : RecordParts)
    → IsBytes (f ∷ a ∷ b ∷ c ∷ d ∷ t ∷ tail)
    → six_then f (little_number 4 (a ∷ b ∷ c ∷ d ∷ t ∷ tail)) t tail ≡ Some p
    → AreRecord p (f ∷ a ∷ b ∷ c ∷ d ∷ t ∷ tail)
six_then-parts f a b c d t tail p small is =
    let pcr : ℕ = little_number 4 (a ∷ b ∷ c ∷ d ∷ t ∷ tail) in
    let r = steps (λ (violation : Bool). template_by t
    >>= λ template. sized_in tail >>= λ q. Some (with_parts pcr violation template q)) (flag_by f) p
    is in
    let s = steps (λ (template : Template). sized_in tail
    >>= λ q. Some (with_parts pcr r.0 template q)) (template_by t) p r.2 in
    let u = steps (λ (q : List ℕ × List ℕ). Some (with_parts pcr r.0 s.0 q)) (sized_in tail) p s.2
    in
    let violation : flag r.0 ≡ f =
    eqb-true (flag r.0) f (find-passes (λ v. flag v == f) (true ∷ false ∷ []) r.0 r.1) in
    let template : template_number s.0 ≡ t =
    eqb-true (template_number s.0) t
    (find-passes (λ v. template_number v == t) (Ima ∷ ImaNg ∷ ImaSig ∷ ImaBuf ∷ []) s.0 s.1) in
    let number : little_bytes 4 pcr ≡ a ∷ b ∷ c ∷ d ∷ [] =
    little_bytes-front_4 (a ∷ b ∷ c ∷ d ∷ []) (t ∷ tail) refl
    (IsBytes-front (a ∷ b ∷ c ∷ d ∷ []) (t ∷ tail) (λ k. small (suc k))) in
    let small_tail : IsBytes tail = λ k. small (suc (suc (suc (suc (suc (suc k)))))) in
    let tail_is : tail ≡ sized u.0.0 ++ u.0.1 = sized_in-parts tail u.0 small_tail u.1 in
    let small_field : IsBytes (sized u.0.0 ++ u.0.1) =
    IsBytes-same tail (sized u.0.0 ++ u.0.1) tail_is small_tail in
    subst (λ (q : RecordParts). AreRecord q (f ∷ a ∷ b ∷ c ∷ d ∷ t ∷ tail))
    (same_Some (with_parts pcr r.0 s.0 u.0) p u.2) (record {
      bytes_are = λ i. sym violation i ∷ (sym number i ++ (sym template i ∷ tail_is i));
      small = IsBytes-sized u.0.0 u.0.1 small_field;
      small_rest = IsBytes-back (sized u.0.0) u.0.1 small_field;
    })

-- the parts that are read are those of a record
parts_in-parts : (bytes : List ℕ) (p : RecordParts) → IsBytes bytes → parts_in bytes ≡ Some p
    → AreRecord p bytes
parts_in-parts [] p small is = absurd (none-some p is)
parts_in-parts (f ∷ []) p small is = absurd (none-some p is)
parts_in-parts (f ∷ a ∷ []) p small is = absurd (none-some p is)
parts_in-parts (f ∷ a ∷ b ∷ []) p small is = absurd (none-some p is)
parts_in-parts (f ∷ a ∷ b ∷ c ∷ []) p small is = absurd (none-some p is)
parts_in-parts (f ∷ a ∷ b ∷ c ∷ d ∷ []) p small is = absurd (none-some p is)
parts_in-parts (f ∷ a ∷ b ∷ c ∷ d ∷ t ∷ tail) p small is =
    six_then-parts f a b c d t tail p small
    (chosen (leb 6 (length (f ∷ a ∷ b ∷ c ∷ d ∷ t ∷ tail)))
    (six_then f (little_number 4 (a ∷ b ∷ c ∷ d ∷ t ∷ tail)) t tail) p is).1

-- the bytes are the record of the entry, and further bytes
pub record IsRecordOf (e : Entry) (rest bytes : List ℕ) : Type 0 where
  pub entry : IsEntry e
  pub bytes_are : bytes ≡ record_of e ++ rest
  pub small_rest : IsBytes rest

-- the entry that is read is that of a record
pub record_in-parts : (bytes : List ℕ) (q : Entry × List ℕ) → IsBytes bytes
    → record_in bytes ≡ Some q → IsRecordOf q.0 q.1 bytes
unfolding record_in record_of
record_in-parts bytes q small is =
    let r = steps (λ (p : RecordParts). entry_in p.pcr p.template p.violation p.bytes
    >>= λ x. Some (x, p.rest)) (parts_in bytes) q is in
    let s = steps (λ (x : Entry). Some (x, r.0.rest))
    (entry_in r.0.pcr r.0.template r.0.violation r.0.bytes) q r.2 in
    let parts = parts_in-parts bytes r.0 small r.1 in
    let e = entry_in-parts r.0.pcr r.0.template r.0.violation r.0.bytes s.0 parts.small s.1 in
    subst (λ (x : Entry × List ℕ). IsRecordOf x.0 x.1 bytes) (same_Some (s.0, r.0.rest) q s.2)
    (record {
      entry = e.entry;
      bytes_are = parts.bytes_are
          ∙ (λ i. flag (sym e.violation_is i) ∷ [] ++ little_bytes 4 (sym e.pcr_is i)
          ++ template_number (sym e.template_is i) ∷ [] ++ sized (sym e.bytes_are i) ++ r.0.rest);
      small_rest = parts.small_rest;
    })

-- the entries of a number of records, and the records
pub record AreRecordsOf (n : ℕ) (bytes : List ℕ) (list : List Entry) : Type 0 where
  pub count : length list ≡ n
  pub entries : All IsEntry list
  pub bytes_are : records_of list ≡ bytes

-- the entries that are read are those of the records
pub records_in-parts : (n : ℕ) (bytes : List ℕ) (list : List Entry) → IsBytes bytes
    → records_in n bytes ≡ Some list → AreRecordsOf n bytes list
records_in-parts zero bytes list small is =
    let found = cond_some {A = List Entry} (length bytes == 0) [] list is in
    let none : bytes ≡ [] = nil_from_length bytes (eqb-true (length bytes) 0 found.0) in
    subst (λ (l : List Entry). AreRecordsOf zero bytes l) found.1 (record {
      count = refl;
      entries = All-nil IsEntry;
      bytes_are = sym none;
    })
records_in-parts (suc n) bytes list small is =
    let r = steps (λ (p : Entry × List ℕ). option_map (λ others. p.0 ∷ others) (records_in n p.1))
    (record_in bytes) list is in
    let first = record_in-parts bytes r.0 small r.1 in
    let s = mapped r.0.0 (records_in n r.0.1) r.2 in
    let others = records_in-parts n r.0.1 s.0 first.small_rest s.1 in
    subst (λ (l : List Entry). AreRecordsOf (suc n) bytes l) s.2 (record {
      count = ap suc others.count;
      entries = All-cons IsEntry r.0.0 s.0 first.entry others.entries;
      bytes_are = ap (λ (l : List ℕ). record_of r.0.0 ++ l) others.bytes_are
          ∙ sym first.bytes_are;
    })
  where
    mapped : (e : Entry) (o : Option (List Entry)) → option_map (λ others. e ∷ others) o
        ≡ Some list → (others : List Entry) × (o ≡ Some others) × (e ∷ others ≡ list)
    mapped e None none = absurd (none-some list none)
    mapped e (Some others) some = (others, refl, same_Some (e ∷ others) list some)

-- ---- taking one record

module _ (bytes : List ℕ) where
  -- fewer than six bytes have no parts
  pub parts_in-short : length bytes < 6 → None ≡ parts_in bytes
  parts_in-short less =
      ap (λ (b : Bool). cond b (six_then (slice_index bytes 0) (little_number 4 (drop 1 bytes))
      (slice_index bytes 5) (drop 6 bytes)) None) (sym (lt-leb 6 (length bytes) less))

  -- the parts are those of the first six bytes and those after them
  pub parts_in-long : (o : Option RecordParts) (pcr : ℕ) → 6 ≤ length bytes
      → pcr ≡ little_number 4 (take (length bytes - 1) (drop 1 bytes))
      → o ≡ six_then (slice_index bytes 0) pcr (slice_index bytes 5)
      (take (length bytes - 6) (drop 6 bytes))
      → o ≡ parts_in bytes
  parts_in-long o pcr long pcr_is is =
      is
      ∙ (λ i. six_then (slice_index bytes 0)
      ((pcr_is ∙ ap (little_number 4) (take_rest bytes 1)) i) (slice_index bytes 5)
      (take_rest bytes 6 i))
      ∙ ap (λ (b : Bool). cond b (six_then (slice_index bytes 0)
      (little_number 4 (drop 1 bytes)) (slice_index bytes 5) (drop 6 bytes)) None)
      (sym (le-leb 6 (length bytes) long))

-- the parts and the entry that were read are those of the record
pub record_in-entry : (bytes : List ℕ) (p : RecordParts) (e : Entry) → Some p ≡ parts_in bytes
    → Some e ≡ entry_in p.pcr p.template p.violation p.bytes
    → Some (e, p.rest) ≡ record_in bytes
unfolding record_in
record_in-entry bytes p e parts entry =
    ap (λ (o : Option Entry). o >>= λ x. Some (x, p.rest)) entry
    ∙ ap (λ (o : Option RecordParts). o >>= λ q. entry_in q.pcr q.template q.violation q.bytes
    >>= λ x. Some (x, q.rest)) parts

-- the entry of the record is appended
pub Takes-record : (old new : List Entry) (rest : List ℕ) (e : Entry)
    (said : Option (Entry × List ℕ)) → Some (e, rest) ≡ said → new ≡ old ++ e ∷ []
    → Takes old new (Some rest) said
Takes-record old new rest e said is pushed =
    subst (λ (o : Option (Entry × List ℕ)). Takes old new (Some rest) o) is (pushed, refl)

-- ---- one more record in the loop

-- the entries before, and the entries of the remaining records
abbrev pub with_front : List Entry → Option (List Entry) → Option (List Entry)
with_front front None = None
with_front front (Some others) = Some (front ++ others)

-- without entries before
pub with_front-nil : (o : Option (List Entry)) → with_front [] o ≡ o
with_front-nil None = refl
with_front-nil (Some others) = refl

-- an entry is put before the others, or at the end of those before
with_front-push : (front : List Entry) (e : Entry) (o : Option (List Entry))
    → with_front front (option_map (λ others. e ∷ others) o) ≡ with_front (front ++ e ∷ []) o
with_front-push front e None = refl
with_front-push front e (Some others) = ap Some (sym (append_assoc front (e ∷ []) others))

-- one more record, by the record that is read next
pub records_in-more : (n : ℕ) (bytes : List ℕ) → 0 < n
    → records_in n bytes
    ≡ (record_in bytes >>= λ p. option_map (λ others. p.0 ∷ others) (records_in (n - 1) p.1))
records_in-more zero bytes above = absurd (omega arith)
records_in-more (suc n) bytes above =
    let same : suc n - 1 ≡ n = omega arith in
    ap (λ (m : ℕ). record_in bytes >>= λ p. option_map (λ others. p.0 ∷ others) (records_in m p.1))
    (sym same)

-- the records that remain after one record give the same list
pub one_more : (n : ℕ) (front grown : List Entry) (bytes rest : List ℕ)
    (whole : Option (List Entry)) → 0 < n
    → with_front front (records_in n bytes) ≡ whole
    → (said : Option (Entry × List ℕ)) → record_in bytes ≡ said
    → Takes front grown (Some rest) said
    → with_front grown (records_in (n - 1) rest) ≡ whole
one_more n front grown bytes rest whole above so_far None is takes = absurd takes
one_more n front grown bytes rest whole above so_far (Some p) is takes =
    (λ i. with_front (takes.0 i) (records_in (n - 1) (sym takes.1 i)))
    ∙ sym (with_front-push front p.0 (records_in (n - 1) p.1))
    ∙ ap (λ (o : Option (Entry × List ℕ)). with_front front
    (o >>= λ q. option_map (λ others. q.0 ∷ others) (records_in (n - 1) q.1))) (sym is)
    ∙ ap (with_front front) (sym (records_in-more n bytes above))
    ∙ so_far

-- without a next record there is no list
pub no_more : (n : ℕ) (front : List Entry) (bytes : List ℕ) (whole : Option (List Entry)) → 0 < n
    → with_front front (records_in n bytes) ≡ whole → record_in bytes ≡ None → None ≡ whole
no_more n front bytes whole above so_far none =
    ap (λ (o : Option (Entry × List ℕ)). with_front front
    (o >>= λ q. option_map (λ others. q.0 ∷ others) (records_in (n - 1) q.1))) (sym none)
    ∙ ap (with_front front) (sym (records_in-more n bytes above))
    ∙ so_far

-- no bytes are left after the last record
pub at_end : (n : ℕ) (front : List Entry) (bytes : List ℕ) (whole : Option (List Entry)) → n ≤ 0
    → (length bytes == 0) ≡ true → with_front front (records_in n bytes) ≡ whole
    → Some front ≡ whole
at_end zero front bytes whole least empty so_far =
    ap Some (sym (append-nil front))
    ∙ ap (λ (b : Bool). with_front front (cond b (Some []) None)) (sym empty) ∙ so_far
at_end (suc n) front bytes whole least empty so_far = absurd (omega arith)

-- bytes are left after the last record
pub bytes_left : (n : ℕ) (front : List Entry) (bytes : List ℕ) (whole : Option (List Entry))
    → n ≤ 0 → (length bytes == 0) ≡ false → with_front front (records_in n bytes) ≡ whole
    → None ≡ whole
bytes_left zero front bytes whole least some so_far =
    ap (λ (b : Bool). with_front front (cond b (Some []) None)) (sym some) ∙ so_far
bytes_left (suc n) front bytes whole least some so_far = absurd (omega arith)

-- Loading what was saved gives the list back, and saving what was loaded gives the bytes back.
use Rattle.std.proofs.Common.{◌≡◌, ℕ, zero, suc, ◌-◌, ◌^◌, ◌<◌, ◌≤◌, ◌==◌, Bool, true, false, not, ◌&&◌, cond, List, [], ◌∷◌, ◌++◌, length, take, drop, Option, None, Some, Result, Ok, Err, refl, sym, ap, subst, ◌∙◌, arith, length-append, length-drop, eqb-true, ne_eqb, le-leb, le-ltb, leb, leb-true, lt-ltb, ltb, ltb-false, Fits, slice_index_or, w8}
use Rattle.std.proofs.lemmas.Bool.{and_from, and_left, and_parts, and_right, lt-leb, false≢true, not-false, not-true}
use Rattle.std.proofs.lemmas.List.{take_rest, length-take-le, drop-drop, take-append-drop}
use Rattle.std.specs.Prelude.{IfOk}
use Rattle.std.specs.Str.{bytes_eq}
use lib.Pointwise.{bytes_decides}
use Rattle.byteorder.specs.Endian.{little_bytes, little_number}
use Rattle.byteorder.specs.Numbers.{little_number-reads_back}
use Rattle.ima_templates.specs.declared.entry.Entry.{Entry}
use Rattle.carry_form.specs.Form.{IsCarried, carried_form, form_length, header, header_length, mark, records_of, record_of}
use Rattle.carry_form.specs.Reading.{Loads, all_new, count_in, has_header, list_after, list_by, load_of, records_in, stated_count, stated_length}
use Rattle.carry_form.specs.declared.causes.CarryCause.{CarryCause}
use Rattle.carry_form.specs.declared.causes.CarryCause.TheVariants as cause
use Rattle.carry_form.specs.declared.causes.CarryErr.{CarryErr}
use Rattle.carry_form.proofs.Cutting.{little_bytes-front_4, little_bytes-front_8}
use Rattle.carry_form.proofs.Distinct.{all_new-distinct, distinct-new}
use Rattle.carry_form.proofs.RecordLemmas.{records_in-parts, records_in-records}
use Rattle.carry_form.proofs.Steps.{IsBytes, IsBytes-back, IsBytes-front, IsBytes-same}

-- ---- tests of a header

-- the tests of a header in their order
abbrev tested : Bool → ℕ → ℕ → ℕ → Result ℕ CarryCause
tested right long stated count =
    cond (not right) (Err cause.Header) (cond (ltb long stated) (Err cause.Short)
    (cond (ltb stated long) (Err cause.Trailing) (Ok count)))

-- fewer bytes than stated
tested-short : (right : Bool) (long stated count : ℕ) → right ≡ true → long < stated
    → tested right long stated count ≡ Err cause.Short
tested-short right long stated count is less =
    let below : ltb long stated ≡ true = lt-ltb long stated less in
    rw (is, below) refl

-- more bytes than stated
tested-trailing : (right : Bool) (long stated count : ℕ) → right ≡ true → stated < long
    → tested right long stated count ≡ Err cause.Trailing
tested-trailing right long stated count is more =
    let not_below : ltb long stated ≡ false = le-ltb long stated (omega (arith, more)) in
    let above : ltb stated long ≡ true = lt-ltb stated long more in
    rw (is, not_below, above) refl

-- a header that is right gives the count
counted : (right : Bool) (long stated count : ℕ) → right ≡ true → stated ≡ long
    → tested right long stated count ≡ Ok count
counted right long stated count is same =
    let not_above : ltb long stated ≡ false = le-ltb long stated (omega (arith, same)) in
    let not_below : ltb stated long ≡ false = le-ltb stated long (omega (arith, same)) in
    rw (is, not_above, not_below) refl

-- a value is given only if a test fails
refused : {X : Type 0} (b : Bool) (c : CarryCause) (r : Result X CarryCause) (x : X)
    → cond b (Err c) r ≡ Ok x → (b ≡ false) × (r ≡ Ok x)
refused true c r x is = absurd (cc is)
refused false c r x is = (refl, is)

-- a value is given only if a test passes
accepted : {X : Type 0} (b : Bool) (c : CarryCause) (x y : X)
    → cond b (Ok x) (Err c) ≡ Ok y → (b ≡ true) × (x ≡ y)
accepted true c x y is = (refl, cc is)
accepted false c x y is = absurd (cc is)

-- a header that gives a count is right
record IsHeaded (bytes : List ℕ) (count : ℕ) : Type 0 where
  pub right : has_header bytes ≡ true
  pub whole : stated_length bytes ≡ length bytes
  pub count_is : stated_count bytes ≡ count

-- a count is given only by a right header
IsHeaded-counted : (bytes : List ℕ) (count : ℕ) → count_in bytes ≡ Ok count
    → IsHeaded bytes count
IsHeaded-counted bytes count is =
    let right = refused (not (has_header bytes)) cause.Header
    (cond (ltb (length bytes) (stated_length bytes)) (Err cause.Short)
    (cond (ltb (stated_length bytes) (length bytes)) (Err cause.Trailing)
    (Ok (stated_count bytes)))) count is in
    let long = refused (ltb (length bytes) (stated_length bytes)) cause.Short
    (cond (ltb (stated_length bytes) (length bytes)) (Err cause.Trailing)
    (Ok (stated_count bytes))) count right.1 in
    let short = refused (ltb (stated_length bytes) (length bytes)) cause.Trailing
    (Ok (stated_count bytes)) count long.1 in
    record {
      right = not-false (has_header bytes) right.0;
      whole = omega (
        arith,
        ltb-false (length bytes) (stated_length bytes) long.0,
        ltb-false (stated_length bytes) (length bytes) short.0,
      );
      count_is = cc short.1;
    }

-- ---- the header that was written is right

-- a list has no more entries than its records have bytes
length-records_of : (list : List Entry) → length list ≤ length (records_of list)
unfolding record_of
length-records_of [] = omega arith
length-records_of (e ∷ es) =
    omega (arith, length-append (record_of e) (records_of es), length-records_of es)

module _ (list : List Entry) (fits : form_length list < 2 ^ 64) where
  -- the count that was written is read
  stated_count-form : stated_count (carried_form list) ≡ length list
  unfolding header
  stated_count-form =
      little_number-reads_back 8 (length list)
      (little_bytes 8 (form_length list) ++ records_of list)
      (omega (arith, fits, length-records_of list))

  -- the length that was written is read
  stated_length-form : stated_length (carried_form list) ≡ form_length list
  unfolding header
  stated_length-form = little_number-reads_back 8 (form_length list) (records_of list) fits

  -- the form has as many bytes as its header states
  length-form : length (carried_form list) ≡ form_length list
  unfolding header
  length-form = omega arith

  -- the header is right
  has_header-form : 1 ≤ length list → has_header (carried_form list) ≡ true
  unfolding header has_header
  has_header-form not_empty =
      let some : not (stated_count (carried_form list) == 0) ≡ true =
      ap (λ (n : ℕ). not (n == 0)) stated_count-form
      ∙ ap not (ne_eqb (length list) 0 (λ e. omega (arith, e, not_empty))) in
      and_from (leb header_length (length (carried_form list)))
      (not (stated_count (carried_form list) == 0))
      (le-leb header_length (length (carried_form list)) (omega (arith, length-form)))
      some

  -- the count is given
  count_in-form : 1 ≤ length list → count_in (carried_form list) ≡ Ok (length list)
  count_in-form not_empty =
      counted (has_header (carried_form list)) (length (carried_form list))
      (stated_length (carried_form list)) (stated_count (carried_form list))
      (has_header-form not_empty) (stated_length-form ∙ sym length-form)
      ∙ ap Ok stated_count-form

  -- the list is loaded from its carried form
  pub load_of-form : IsCarried list → load_of (carried_form list) ≡ Ok list
  unfolding load_of header
  load_of-form carried =
      ap (λ (r : Result ℕ CarryCause). list_after r (records_of list))
      (count_in-form carried.not_empty)
      ∙ ap list_by (records_in-records list carried.entries)
      ∙ ap (λ (b : Bool). cond b (Ok list) (Err cause.Twice))
      (all_new-distinct list carried.distinct)

-- ---- a right header is the one that would be written

-- numbers that fit in eight bits are bytes
pub IsBytes-fits : (bytes : List ℕ) → ((k : ℕ) → Fits w8 (slice_index_or bytes k 0))
    → IsBytes bytes
IsBytes-fits bytes fits k = let fit = fits k in omega arith

-- the bytes from a place on are bytes
pub IsBytes-drop : (n : ℕ) (bytes : List ℕ) → IsBytes bytes → IsBytes (drop n bytes)
IsBytes-drop n bytes small =
    IsBytes-back (take n bytes) (drop n bytes)
    (IsBytes-same bytes (take n bytes ++ drop n bytes) (sym (take-append-drop n bytes)) small)

-- the bytes before a place are bytes
IsBytes-take : (n : ℕ) (bytes : List ℕ) → IsBytes bytes → IsBytes (take n bytes)
IsBytes-take n bytes small =
    IsBytes-front (take n bytes) (drop n bytes)
    (IsBytes-same bytes (take n bytes ++ drop n bytes) (sym (take-append-drop n bytes)) small)

-- bytes that begin with a number in this many bytes, if it is the one that these are
number_then : (size : ℕ)
    → ((front rest : List ℕ) → length front ≡ size → IsBytes front
    → little_bytes size (little_number size (front ++ rest)) ≡ front)
    → (bytes : List ℕ) → size ≤ length bytes → IsBytes bytes
    → bytes ≡ little_bytes size (little_number size bytes) ++ drop size bytes
number_then size reads bytes long small =
    let parts : take size bytes ++ drop size bytes ≡ bytes = take-append-drop size bytes in
    let number : little_bytes size (little_number size (take size bytes ++ drop size bytes))
    ≡ take size bytes =
    reads (take size bytes) (drop size bytes) (length-take-le size bytes long)
    (IsBytes-take size bytes small) in
    sym parts
    ∙ (λ i. (sym number ∙ ap (λ (l : List ℕ). little_bytes size (little_number size l)) parts) i
    ++ drop size bytes)

-- a number that isn't zero is at least one
one_at_least : (n : ℕ) → (n == 0) ≡ false → 1 ≤ n
one_at_least zero is = absurd (false≢true (sym is))
one_at_least (suc n) is = omega arith

-- the parts of a right header
pub record HasParts (bytes : List ℕ) : Type 0 where
  pub long : header_length ≤ length bytes
  pub marked : take 4 bytes ≡ mark
  pub version : little_number 4 (drop 4 bytes) ≡ 1
  pub some : 1 ≤ stated_count bytes

-- a right header has these parts
pub HasParts-header : (bytes : List ℕ) → has_header bytes ≡ true → HasParts bytes
unfolding has_header
HasParts-header bytes is =
    let all = and_parts (leb header_length (length bytes))
    (bytes_eq (take 4 bytes) mark && little_number 4 (drop 4 bytes) == 1
    && not (stated_count bytes == 0)) is in
    let front = and_parts (bytes_eq (take 4 bytes) mark && little_number 4 (drop 4 bytes) == 1)
    (not (stated_count bytes == 0)) all.1 in
    let both = and_parts (bytes_eq (take 4 bytes) mark) (little_number 4 (drop 4 bytes) == 1)
    front.0 in
    record {
      long = leb-true header_length (length bytes) all.0;
      marked = (bytes_decides (take 4 bytes) mark).0 both.0;
      version = eqb-true (little_number 4 (drop 4 bytes)) 1 both.1;
      some = one_at_least (stated_count bytes) (not-true (stated_count bytes == 0) front.1);
    }

module _ (bytes : List ℕ) where
  -- fewer bytes than those of a header
  pub headless-short : length bytes < header_length → false ≡ has_header bytes
  unfolding has_header
  headless-short less = sym (and_left _ _ (lt-leb header_length (length bytes) less))

  module _ (m : List ℕ) (same : m ≡ mark) where
    -- another mark
    pub headless-unmarked : true ≡ not (bytes_eq (take 4 bytes) m) → false ≡ has_header bytes
    unfolding has_header
    headless-unmarked is =
        let other : bytes_eq (take 4 bytes) mark ≡ false =
        not-true (bytes_eq (take 4 bytes) mark)
        (ap (λ (l : List ℕ). not (bytes_eq (take 4 bytes) l)) (sym same) ∙ sym is) in
        sym (and_right _ _ (and_left _ _ (and_left (bytes_eq (take 4 bytes) mark)
        (little_number 4 (drop 4 bytes) == 1) other)))

    module _ (long : header_length ≤ length bytes) (is : false ≡ not (bytes_eq (take 4 bytes) m))
        (version : ℕ)
        (read : version ≡ little_number 4 (take (length bytes - 4) (drop 4 bytes)))
      where
        -- after the mark the version and the number of records decide
        headed : (little_number 4 (drop 4 bytes) == 1 && not (stated_count bytes == 0))
            ≡ has_header bytes
        unfolding has_header
        headed =
            let marked : bytes_eq (take 4 bytes) mark ≡ true =
            not-false (bytes_eq (take 4 bytes) mark)
            (ap (λ (l : List ℕ). not (bytes_eq (take 4 bytes) l)) (sym same) ∙ sym is) in
            λ i. sym (le-leb header_length (length bytes) long) i
            && (sym marked i && little_number 4 (drop 4 bytes) == 1
            && not (stated_count bytes == 0))

        -- the version that is read
        version_is : version ≡ little_number 4 (drop 4 bytes)
        version_is = read ∙ ap (little_number 4) (take_rest bytes 4)

        -- another version
        pub headless-version : (version ≡ 1 → ⊥) → (version == 1) ≡ has_header bytes
        headless-version other =
            let differs : (version == 1) ≡ false = ne_eqb version 1 other in
            differs
            ∙ (λ i. sym (ap (λ (n : ℕ). n == 1) (sym version_is) ∙ differs) i
            && not (stated_count bytes == 0))
            ∙ headed

        -- this version, and the number of records that is read
        pub headed-count : (count : ℕ) → version ≡ 1
            → count ≡ little_number 8 (take (length bytes - 8) (drop 8 bytes))
            → not (count == 0) ≡ has_header bytes
        headed-count count one count_is =
            ap (λ (n : ℕ). not (n == 0)) (count_is ∙ ap (little_number 8) (take_rest bytes 8))
            ∙ (λ i. (sym one ∙ version_is) i == 1 && not (stated_count bytes == 0))
            ∙ headed

-- the bytes are a header with what it states, and the bytes after it
header-then : (bytes : List ℕ) → IsBytes bytes → HasParts bytes
    → bytes ≡ header (stated_count bytes) (stated_length bytes) ++ drop header_length bytes
unfolding header
header-then bytes small parts =
    let version : drop 4 bytes ≡ little_bytes 4 1 ++ drop 8 bytes =
    number_then 4 little_bytes-front_4 (drop 4 bytes) (omega (arith, parts.long, length-drop 4 bytes))
    (IsBytes-drop 4 bytes small)
    ∙ (λ i. little_bytes 4 (parts.version i) ++ drop-drop 4 4 bytes i) in
    let count : drop 8 bytes ≡ little_bytes 8 (stated_count bytes) ++ drop 16 bytes =
    number_then 8 little_bytes-front_8 (drop 8 bytes) (omega (arith, parts.long, length-drop 8 bytes))
    (IsBytes-drop 8 bytes small)
    ∙ (λ i. little_bytes 8 (stated_count bytes) ++ drop-drop 8 8 bytes i) in
    let whole : drop 16 bytes ≡ little_bytes 8 (stated_length bytes) ++ drop 24 bytes =
    number_then 8 little_bytes-front_8 (drop 16 bytes) (omega (arith, parts.long, length-drop 16 bytes))
    (IsBytes-drop 16 bytes small)
    ∙ (λ i. little_bytes 8 (stated_length bytes) ++ drop-drop 8 16 bytes i) in
    sym (take-append-drop 4 bytes)
    ∙ (λ i. parts.marked i ++ version i)
    ∙ (λ i. mark ++ (little_bytes 4 1 ++ count i))
    ∙ (λ i. mark ++ (little_bytes 4 1 ++ (little_bytes 8 (stated_count bytes) ++ whole i)))

-- ---- what is loaded

-- a list is loaded only if the header is right
after_count : (r : Result ℕ CarryCause) (bytes : List ℕ) (list : List Entry)
    → list_after r bytes ≡ Ok list
    → (count : ℕ) × (r ≡ Ok count) × (list_by (records_in count bytes) ≡ Ok list)
after_count (Err c) bytes list is = absurd (cc is)
after_count (Ok count) bytes list is = (count, refl, is)

-- a list is loaded only if the bytes are its records, and no two entries are the same
after_records : (o : Option (List Entry)) (list : List Entry) → list_by o ≡ Ok list
    → (o ≡ Some list) × (all_new [] list ≡ true)
after_records None list is = absurd (cc is)
after_records (Some l) list is =
    let found = accepted (all_new [] l) cause.Twice l list is in
    (ap Some found.1, subst (λ (x : List Entry). all_new [] x ≡ true) found.1 found.0)

-- a list that is loaded is the one that is saved in these bytes
pub record IsLoaded (bytes : List ℕ) (list : List Entry) : Type 0 where
  pub carried : IsCarried list
  pub form : carried_form list ≡ bytes

-- a list is loaded only from its carried form
pub IsLoaded-load_of : (bytes : List ℕ) (list : List Entry) → IsBytes bytes
    → load_of bytes ≡ Ok list → IsLoaded bytes list
unfolding load_of
IsLoaded-load_of bytes list small is =
    let first = after_count (count_in bytes) (drop header_length bytes) list is in
    let headed = IsHeaded-counted bytes first.0 first.1 in
    let parts = HasParts-header bytes headed.right in
    let listed = after_records (records_in first.0 (drop header_length bytes)) list first.2 in
    let records = records_in-parts first.0 (drop header_length bytes) list
    (IsBytes-drop header_length bytes small) listed.0 in
    let count : length list ≡ stated_count bytes = records.count ∙ sym headed.count_is in
    let whole : form_length list ≡ stated_length bytes =
    omega (
      arith,
      ap length records.bytes_are,
      length-drop header_length bytes,
      parts.long,
      headed.whole,
    ) in
    record {
      carried = record {
        not_empty = omega (arith, count, parts.some);
        entries = records.entries;
        distinct = distinct-new list listed.1;
      };
      form = (λ i. header (count i) (whole i) ++ records.bytes_are i)
          ∙ sym (header-then bytes small parts);
    }

-- a header that gives a count has its parts
pub HasParts-counted : (bytes : List ℕ) (count : ℕ) → Ok count ≡ count_in bytes → HasParts bytes
HasParts-counted bytes count is =
    HasParts-header bytes (IsHeaded-counted bytes count (sym is)).right

-- the records of a right header give at least one entry
pub not_empty : (bytes : List ℕ) (count : ℕ) (list : List Entry) → IsBytes bytes
    → Ok count ≡ count_in bytes → Some list ≡ records_in count (drop header_length bytes)
    → 1 ≤ length list
not_empty bytes count list small is records =
    omega (
      arith,
      (records_in-parts count (drop header_length bytes) list
          (IsBytes-drop header_length bytes small) (sym records)).count,
      (IsHeaded-counted bytes count (sym is)).count_is,
      (HasParts-counted bytes count is).some,
    )

-- ---- the steps of reading a header

module _ (bytes : List ℕ) (right : true ≡ has_header bytes) where
  -- a right header is whole
  pub right-long : header_length ≤ length bytes
  right-long = (HasParts-header bytes (sym right)).long

  module _ (stated : ℕ) (is : stated ≡ little_number 8 (take (length bytes - 16) (drop 16 bytes)))
    where
      length_is : stated ≡ stated_length bytes
      length_is = is ∙ ap (little_number 8) (take_rest bytes 16)

      pub count_in-short : length bytes < stated → Err cause.Short ≡ count_in bytes
      count_in-short less =
          sym (tested-short (has_header bytes) (length bytes) (stated_length bytes)
          (stated_count bytes) (sym right) (omega (arith, less, length_is)))

      pub count_in-trailing : stated < length bytes → Err cause.Trailing ≡ count_in bytes
      count_in-trailing more =
          sym (tested-trailing (has_header bytes) (length bytes) (stated_length bytes)
          (stated_count bytes) (sym right) (omega (arith, more, length_is)))

      pub count_in-whole : (count : ℕ) → stated ≤ length bytes → length bytes ≤ stated
          → count ≡ little_number 8 (take (length bytes - 8) (drop 8 bytes))
          → Ok count ≡ count_in bytes
      count_in-whole count most least count_is =
          ap Ok (count_is ∙ ap (little_number 8) (take_rest bytes 8))
          ∙ sym (counted (has_header bytes) (length bytes) (stated_length bytes)
          (stated_count bytes) (sym right) (omega (arith, most, least, length_is)))

-- without a right header there is no count
pub count_in-headless : (bytes : List ℕ) → false ≡ has_header bytes
    → Err cause.Header ≡ count_in bytes
count_in-headless bytes wrong =
    ap (λ (right : Bool). tested right (length bytes) (stated_length bytes) (stated_count bytes))
    wrong

-- ---- the steps of loading

-- a header that is refused is the cause
pub load_of-refused : (bytes : List ℕ) (c : CarryCause) → Err c ≡ count_in bytes
    → load_of bytes ≡ Err c
unfolding load_of
load_of-refused bytes c is =
    ap (λ (r : Result ℕ CarryCause). list_after r (drop header_length bytes)) (sym is)

-- the list is what the records give
pub load_of-counted : (bytes : List ℕ) (count : ℕ) (o : Option (List Entry))
    → Ok count ≡ count_in bytes → o ≡ records_in count (drop header_length bytes)
    → load_of bytes ≡ list_by o
unfolding load_of
load_of-counted bytes count o is records =
    ap (λ (r : Result ℕ CarryCause). list_after r (drop header_length bytes)) (sym is)
    ∙ ap list_by (sym records)

-- a list that a call has loaded is the one that is saved in these bytes
pub loaded_by : (r : Result (List Entry) CarryErr) (bytes : List ℕ) → IsBytes bytes
    → Loads r (load_of bytes) → IfOk r (IsLoaded bytes)
loaded_by (Ok list) bytes small said = IsLoaded-load_of bytes list small said
loaded_by (Err e) bytes small said = tt

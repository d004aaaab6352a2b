-- Reading the lines of a file's attributes sets them again.
use Rattle.std.proofs.Common.{◌≡◌, ℕ, ◌+◌, ◌<◌, ◌≤◌, Bool, true, false, ◌&&◌, not, nat_le, nat_lt, List, [], ◌∷◌, ◌++◌, length, map, None, Ok, is_some, refl, sym, ap, ◌∙◌, subst, arith, append_assoc}
use Rattle.std.specs.Prelude.{codes}
use Rattle.std.specs.Cmp.Lexicographic.{nat_list_cmp_total}
use Rattle.std.specs.List.{AllByRecursion, list_all, sum_by}
use Rattle.std.specs.Ordering.{ordering_reverse}
use Rattle.std.specs.declared.cmp.Ordering.TheVariants.{Less, Greater}
use Rattle.std.proofs.lemmas.Bool.Decides.{nat_tests}
use Rattle.std.proofs.lemmas.List.Sums.{sum_by-cons}
use Rattle.text_forms.specs.Tokens.{is_filled}
use Rattle.text_forms.specs.Words.{is_word}
use Rattle.xattr_store.specs.Attrs.{IsAttrs, IsBefore, Pair, byte_order, put, value}
use Rattle.xattr_store.proofs.Search.{eq_as_ordered}
use Rattle.script_text.specs.Draft.{Draft, change_last}
use Rattle.script_text.specs.Files.{attrs_put, has_attr, has_attr_in, with_attr}
use Rattle.script_text.specs.Forms.{AreAttrs, are_bytes, attr_bytes, attr_count, is_attr}
use Rattle.script_text.specs.Grammar.{with_head}
use Rattle.script_text.specs.Limits.{is_counted, most_attrs, most_bytes, most_value}
use Rattle.script_text.specs.Settings.{one_if}
use Rattle.script_text.specs.declared.blocks.FileBlock.{FileBlock}
use Rattle.script_text.specs.declared.head.Head.TheVariants as head
use Rattle.call_lines.proofs.Holding.{left_true, right_true}
use Rattle.script_text.proofs.Lasts.{change_after, last_after}
use Rattle.call_lines.proofs.ValueForms.{is_value}
use Rattle.call_lines.specs.Form.{hex_text}
use Rattle.script_spelling.specs.Spelling.{attr_line}
use Rattle.script_spelling.proofs.Many.{Leads, by_map, many}
use Rattle.script_spelling.proofs.Steps.{one_line}
use Rattle.script_spelling.proofs.Words.{hex_plain, value_back, word_plain}

-- ---- names in byte order

-- the names of these attributes all come before this one
abbrev pub AreBefore : List Pair → List ℕ → Type 0
AreBefore done name = AllByRecursion (λ a. byte_order a.0 name ≡ Less) done

before_at : (low : List ℕ) (done rest : List Pair) (a : Pair) → IsBefore low (done ++ a ∷ rest)
    → byte_order low a.0 ≡ Less
before_at low [] rest a h = h.0
before_at low (d ∷ ds) rest a h = before_at low ds rest a h.1

pub all_before : (done rest : List Pair) (a : Pair) → IsAttrs (done ++ a ∷ rest)
    → AreBefore done a.0
all_before [] rest a h = tt
all_before (d ∷ ds) rest a h = (before_at d.0 ds rest a h.0, all_before ds rest a h.2)

after : (name low : List ℕ) → byte_order low name ≡ Less → byte_order name low ≡ Greater
after name low h = nat_list_cmp_total.antisymm name low ∙ ap ordering_reverse h

-- a name after those that are there is put at the end
pub put_end : (name bytes : List ℕ) (done : List Pair) → AreBefore done name
    → put name bytes done ≡ done ++ (name, bytes) ∷ []
put_end name bytes [] h = refl
put_end name bytes (d ∷ ds) h =
    rw (after name d.0 h.0) (ap (λ (l : List Pair). d ∷ l) (put_end name bytes ds h.1))

pub not_there : (name : List ℕ) (done : List Pair) → AreBefore done name → value name done ≡ None
not_there name [] h = refl
not_there name (d ∷ ds) h =
    rw (eq_as_ordered name d.0 Greater (after name d.0 h.0)) (not_there name ds h.1)

value_few : (attrs : List Pair) (done rest : List Pair) (a : Pair) → IsAttrs (done ++ a ∷ rest)
    → length a.1 ≤ most_value
value_few attrs [] rest a h = h.1
value_few attrs (d ∷ ds) rest a h = value_few attrs ds rest a h.2

-- ---- one line after another

abbrev pub with_attrs : FileBlock → List Pair → FileBlock
with_attrs b attrs = record b { image = record b.image { attrs = attrs } }

-- the attributes so far, how many of them count, and the total length of all values
pub record Put : Type 0 where
  pub done : List Pair
  pub counted : ℕ
  pub sum : ℕ

at_most : (n most : ℕ) → n ≤ most → nat_le n most ≡ true
at_most n most h = grind (arith, nat_tests)

room : (n m : ℕ) → n < m → nat_lt n m ≡ true
room n m h = grind (arith, nat_tests)

not_above : (n most : ℕ) → n ≤ most → nat_lt most n ≡ false
not_above n most h = grind (arith, nat_tests)

-- the count is within its limit if the attribute counts
not_full : (b : Bool) (n : ℕ) → n + one_if b ≤ most_attrs
    → (b && not (nat_lt n most_attrs)) ≡ false
not_full false n h = refl
not_full true n h = rw (room n most_attrs (omega (arith, h))) refl

module _ (base : Draft) (files : List FileBlock) (b : FileBlock) where
  abbrev pub putting : Put → Draft
  putting x = record base {
    script = record base.script { files = files ++ with_attrs b x.done ∷ [] };
    at = 10;
    unsealed = b.image.present;
    counted = x.counted;
    sum = x.sum;
  }

module _ (base : Draft) (files : List FileBlock) (b : FileBlock) (limit : ℕ)
    (small : limit ≤ most_bytes) where
  abbrev here : Put → Draft
  here x = putting base files b x

  -- the remaining attributes are in order, and there is room for them
  pub record AreLeft (x : Put) (attrs : List Pair) : Type 0 where
    pub ordered : IsAttrs (x.done ++ attrs)
    pub forms : list_all is_attr attrs ≡ true
    pub count : x.counted + sum_by attr_count attrs ≤ most_attrs
    pub bytes : x.sum + sum_by attr_bytes attrs ≤ limit
    pub there : is_filled attrs ≡ true → b.image.present ≡ true
    pub whole : x.done ++ attrs ≡ b.image.attrs

  -- the draft after the line of an attribute
  put_back : (a : Pair) (x : Put) → AreBefore x.done a.0 → is_attr a ≡ true
      → length a.1 ≤ most_value → x.counted + attr_count a ≤ most_attrs
      → x.sum + attr_bytes a ≤ most_bytes
      → with_attr (a.0 ∷ hex_text a.1 ∷ []) (here x) ≡ Ok (here (record {
        done = x.done ++ a ∷ [];
        counted = x.counted + attr_count a;
        sum = x.sum + attr_bytes a;
      }))
  unfolding with_attr
  put_back a x before form few count bytes =
      let word : is_word 255 a.0 ≡ true = left_true (is_word 255 a.0) (are_bytes a.1) form in
      let all : are_bytes a.1 ≡ true = right_true (is_word 255 a.0) (are_bytes a.1) form in
      let is : is_value 0 most_value a.1 ≡ true =
      rw (at_most 0 (length a.1) (omega arith), at_most (length a.1) most_value few) all in
      let last : has_attr a.0 (here x) ≡ false =
      ap (has_attr_in a.0) (last_after files (with_attrs b x.done))
      ∙ ap (λ o. is_some o) (not_there a.0 x.done before) in
      let changed : change_last (attrs_put a.0 a.1) (files ++ with_attrs b x.done ∷ [])
      ≡ files ++ with_attrs b (x.done ++ a ∷ []) ∷ [] =
      change_after (attrs_put a.0 a.1) files (with_attrs b x.done)
      ∙ ap (λ (l : List Pair). files ++ with_attrs b l ∷ []) (put_end a.0 a.1 x.done before) in
      rw (
        word,
        value_back 0 most_value a.1 is,
        last,
        not_full (is_counted a.0) x.counted count,
        not_above (x.sum + attr_bytes a) most_bytes bytes,
      )
      (ap (λ (fs : List FileBlock). Ok (record (here x) {
        script = record base.script { files = fs };
        counted = x.counted + attr_count a;
        sum = x.sum + attr_bytes a;
      })) changed)

  one_attr : (a : Pair) (attrs : List Pair) (x : Put) → AreLeft x (a ∷ attrs)
      → Leads Put here (here x) (attr_line a ∷ []) (λ y. AreLeft y attrs)
  unfolding with_head
  one_attr a attrs x h =
      let form : is_attr a ≡ true = left_true (is_attr a) (list_all is_attr attrs) h.forms in
      let word : is_word 255 a.0 ≡ true = left_true (is_word 255 a.0) (are_bytes a.1) form in
      let all : are_bytes a.1 ≡ true = right_true (is_word 255 a.0) (are_bytes a.1) form in
      let before = all_before x.done attrs a h.ordered in
      let few = value_few b.image.attrs x.done attrs a h.ordered in
      let count = sum_by-cons attr_count a attrs in
      let bytes = sum_by-cons attr_bytes a attrs in
      let y : Put = record {
        done = x.done ++ a ∷ [];
        counted = x.counted + attr_count a;
        sum = x.sum + attr_bytes a;
      } in
      let present : b.image.present ≡ true = h.there refl in
      let more = append_assoc x.done (a ∷ []) attrs in
      record {
        to = y;
        reads = one_line (codes "attr") (a.0 ∷ hex_text a.1 ∷ []) head.Attr (here x) (here y)
            refl refl (rw (word_plain a.0 word, hex_plain a.1 all) refl) refl present
            (put_back a x before form few (omega (arith, h.count, count))
            (omega (arith, h.bytes, bytes, small)));
        is = record {
          ordered = (let P : List Pair → Type 0 = λ l. IsAttrs l in subst P (sym more) h.ordered);
          forms = right_true (is_attr a) (list_all is_attr attrs) h.forms;
          count = omega (arith, h.count, count);
          bytes = omega (arith, h.bytes, bytes);
          there = λ e. present;
          whole = more ∙ h.whole;
        };
      }

  -- the draft after the lines of all attributes
  pub attrs_again : (n : ℕ) → AreAttrs b.image.attrs → n + sum_by attr_bytes b.image.attrs ≤ limit
      → (is_filled b.image.attrs ≡ true → b.image.present ≡ true)
      → Leads Put here (here (record { done = []; counted = 0; sum = n }))
      (map attr_line b.image.attrs) (λ y. AreLeft y [])
  attrs_again n h bytes there =
      let x : Put = record { done = []; counted = 0; sum = n } in
      let r = many here (λ a. attr_line a ∷ []) AreLeft one_attr b.image.attrs x (record {
        ordered = h.ordered;
        forms = h.forms;
        count = omega (arith, h.few);
        bytes = bytes;
        there = there;
        whole = refl;
      }) in
      record {
        to = r.to;
        reads = by_map attr_line b.image.attrs (here x) (here r.to) r.reads;
        is = r.is;
      }

-- Reading the canonical line of a call makes the call again.
use Rattle.std.proofs.Common.{◌≡◌, ℕ, ◌<◌, ◌≤◌, Bool, true, false, ◌&&◌, nat_le, nat_lt, List, ◌++◌, length, take, Some, Ok, refl, ap, ◌∙◌, arith}
use Rattle.std.specs.Fmt.{decimal}
use Rattle.std.specs.List.{list_all}
use Rattle.std.proofs.lemmas.Bool.{false≢true}
use Rattle.std.proofs.lemmas.Bool.Decides.{nat_tests}
use Rattle.std.proofs.lemmas.List.{take_all}
use Rattle.call_steps.specs.Forms.{is_portion, is_small}
use Rattle.call_steps.specs.declared.call.Call.{Call}
use Rattle.call_steps.specs.events.declared.deed.How.{How}
use Rattle.call_steps.specs.events.declared.deed.How.TheVariants as how
use Rattle.call_steps.specs.events.pages.Content.{most_bytes}
use Rattle.text_forms.specs.Paths.{is_path}
use Rattle.script_words.specs.Forms.{portion_of}
use Rattle.call_lines.specs.Arguments.{Alone, Arguments, Forms, Rule, Said, Values, Way, Words, are_fit, argument_words, is_fit, is_way, said_of, trunc_words, values_of, way_of, way_words, words_of, ◌▸◌}
use Rattle.call_lines.specs.Calls.{call_of, is_line_call, words_after}
use Rattle.call_lines.specs.Form.{Bytes, Descriptor, Form, Id, Mapping, Mode, Name, Offset, Path, Portion, Small, Value, are_bytes, form, is_value, mapping_of, mapping_word, path_at}
use Rattle.call_lines.specs.Lines.{is_plain}
use Rattle.call_lines.specs.Places.{place_in}
use Rattle.call_lines.specs.Rules.{HasReadRule, SaysReadRule}
use Rattle.call_lines.specs.Table.{row, spoken}
use Rattle.call_lines.proofs.Holding.{both_true, left_true, right_true}
use Rattle.call_lines.proofs.Rows.{is_short, made-spoken, most_words, says_rule, short_row}
use Rattle.call_lines.proofs.Rules.{rule_back, rule_plain, text_after}
use Rattle.call_lines.proofs.Words.{any_number_back, decimal_plain, descriptor_back, descriptor_plain, hex_plain, id_back, id_plain, mode_back, octal_plain, offset_back, path_plain, small_back, value_back, word_plain}

-- what the test finds below n is below n
below : (i n : ℕ) → nat_lt i n ≡ true → i < n
below i n h = grind (arith, nat_tests)

-- what the test finds at most `most` is at most `most`
le_of : (n most : ℕ) → nat_le n most ≡ true → n ≤ most
le_of n most h = grind (arith, nat_tests)

-- ---- one word

-- the printed number of a map, a run or a semaphore is plain
small_plain : (m : ℕ) → is_small m ≡ true → is_plain (decimal m) ≡ true
small_plain m h = let lt = below m 64 h in decimal_plain m (omega (arith, lt))

-- the length of one read is at most that of the longest content
portion_fits : (k : ℕ) → is_portion k ≡ true → k ≤ most_bytes
portion_fits k h = le_of k most_bytes (right_true (nat_le 1 k) (nat_le k most_bytes) h)

-- the length of one read is at least one byte
portion_some : (k : ℕ) → is_portion k ≡ true → 1 ≤ k
portion_some k h = le_of 1 k (left_true (nat_le 1 k) (nat_le k most_bytes) h)

-- the printed length of one read is plain
portion_plain : (k : ℕ) → is_portion k ≡ true → is_plain (decimal k) ≡ true
portion_plain k h = let le = portion_fits k h in decimal_plain k (omega (arith, le))

-- the printed length of one read is read as the same length
portion_back : (k : ℕ) → is_portion k ≡ true → portion_of (decimal k) ≡ Some k
portion_back k h =
    let le = portion_fits k h in
    any_number_back most_bytes k (omega (arith, le)) (portion_some k h) le

-- the word for how a descriptor is mapped is plain
mapping_plain : (exec : Bool) → is_plain (mapping_word exec) ≡ true
mapping_plain true = refl
mapping_plain false = refl

-- the word for how a descriptor is mapped is read as the same
mapping_back : (exec : Bool) → mapping_of (mapping_word exec) ≡ Some exec
mapping_back true = refl
mapping_back false = refl

-- a value within its limits consists of bytes
value_bytes : (least most : ℕ) (v : List ℕ) → is_value least most v ≡ true
    → are_bytes v ≡ true
value_bytes least most v h =
    right_true (nat_le least (length v) && nat_le (length v) most) (are_bytes v) h

-- ---- ways of opening

-- the words for a way of opening and its flags are plain
way_plain : (h : How) (trunc : Bool) → list_all is_plain (way_words h ++ trunc_words trunc) ≡ true
way_plain (how.Read true) true = refl
way_plain (how.Read true) false = refl
way_plain (how.Read false) true = refl
way_plain (how.Read false) false = refl
way_plain (how.Write true true) true = refl
way_plain (how.Write true true) false = refl
way_plain (how.Write true false) true = refl
way_plain (how.Write true false) false = refl
way_plain (how.Write false true) true = refl
way_plain (how.Write false true) false = refl
way_plain (how.Write false false) true = refl
way_plain (how.Write false false) false = refl
way_plain how.Exec true = refl
way_plain how.Exec false = refl

-- the words for a way of opening that a line can have are read as that way
way_back : (h : How) (trunc : Bool) → is_way (h, trunc) ≡ true
    → way_of (way_words h ++ trunc_words trunc) ≡ Some (h, trunc)
way_back (how.Read true) true fit = absurd (false≢true fit)
way_back (how.Read true) false fit = refl
way_back (how.Read false) true fit = absurd (false≢true fit)
way_back (how.Read false) false fit = refl
way_back (how.Write true true) true fit = refl
way_back (how.Write true true) false fit = refl
way_back (how.Write true false) true fit = refl
way_back (how.Write true false) false fit = refl
way_back (how.Write false true) true fit = refl
way_back (how.Write false true) false fit = refl
way_back (how.Write false false) true fit = refl
way_back (how.Write false false) false fit = refl
way_back how.Exec true fit = absurd (false≢true fit)
way_back how.Exec false fit = absurd (false≢true fit)

-- a way of opening has at most three words
way_short : (h : How) (trunc : Bool)
    → nat_le (length (way_words h ++ trunc_words trunc)) 3 ≡ true
way_short (how.Read true) true = refl
way_short (how.Read true) false = refl
way_short (how.Read false) true = refl
way_short (how.Read false) false = refl
way_short (how.Write true true) true = refl
way_short (how.Write true true) false = refl
way_short (how.Write true false) true = refl
way_short (how.Write true false) false = refl
way_short (how.Write false true) true = refl
way_short (how.Write false true) false = refl
way_short (how.Write false false) true = refl
way_short (how.Write false false) false = refl
way_short how.Exec true = refl
way_short how.Exec false = refl

-- canonical words are no more than the most words of their forms
words_few : (paths : List (List ℕ)) (fs : Forms) (v : Values fs)
    → length (words_of paths fs v) ≤ most_words fs
words_few paths Alone v = omega arith
words_few paths Way v = le_of (length (way_words v.0 ++ trunc_words v.1)) 3 (way_short v.0 v.1)
words_few paths (f ▸ fs) v = let few = words_few paths fs v.1 in omega (arith, few)

-- the words of a short line are all read
all_kept : (paths : List (List ℕ)) (fs : Forms) (v : Values fs) → nat_le (most_words fs) 9 ≡ true
    → take 9 (words_of paths fs v) ≡ words_of paths fs v
all_kept paths fs v short =
    let few = words_few paths fs v in
    let nine = le_of (most_words fs) 9 short in
    take_all 9 (words_of paths fs v) (omega (arith, few, nine))

-- each of the paths is one, and is found at its index
pub record AreKnown (paths : List (List ℕ)) : Type 0 where
  pub form : (i : ℕ) → i < length paths → is_path (path_at paths i) ≡ true
  pub place : (i : ℕ) → i < length paths → place_in paths (path_at paths i) ≡ Some i

module _ (paths : List (List ℕ)) (known : AreKnown paths) where
  -- the number of files
  abbrev n : ℕ
  n = length paths

  -- a canonical word is plain
  word_is_plain : (f : Form) (x : Value f) → (form f).fits n x ≡ true
      → is_plain ((form f).word paths x) ≡ true
  word_is_plain Descriptor x h = descriptor_plain x h
  word_is_plain Small x h = small_plain x h
  word_is_plain Offset x h = id_plain x h
  word_is_plain Portion x h = portion_plain x h
  word_is_plain Mode x h = octal_plain x h
  word_is_plain Id x h = id_plain x h
  word_is_plain Mapping x h = mapping_plain x
  word_is_plain Name x h = word_plain x h
  word_is_plain (Bytes least most) x h = hex_plain x (value_bytes least most x h)
  word_is_plain Path x h = path_plain (path_at paths x) (known.form x (below x n h))

  -- a canonical word is read as what it says
  word_back : (f : Form) (x : Value f) → (form f).fits n x ≡ true
      → (form f).read paths ((form f).word paths x) ≡ Ok x
  word_back Descriptor x h = rw (descriptor_back x h) refl
  word_back Small x h = rw (small_back x (below x 64 h)) refl
  word_back Offset x h = rw (offset_back x h) refl
  word_back Portion x h = rw (portion_back x h) refl
  word_back Mode x h = rw (mode_back x h) refl
  word_back Id x h = rw (id_back x h) refl
  word_back Mapping x h = rw (mapping_back x) refl
  word_back Name x h = rw h refl
  word_back (Bytes least most) x h = rw (value_back least most x h) refl
  word_back Path x h = rw (known.form x (below x n h), known.place x (below x n h)) refl

  -- canonical words are plain
  words_plain : (fs : Forms) (v : Values fs) → are_fit n fs v ≡ true
      → list_all is_plain (words_of paths fs v) ≡ true
  words_plain Alone v h = refl
  words_plain Way v h = way_plain v.0 v.1
  words_plain (f ▸ fs) v h =
      both_true (is_plain ((form f).word paths v.0)) (list_all is_plain (words_of paths fs v.1))
      (word_is_plain f v.0 (left_true ((form f).fits n v.0) (are_fit n fs v.1) h))
      (words_plain fs v.1 (right_true ((form f).fits n v.0) (are_fit n fs v.1) h))

  -- canonical words are read as what they say
  words_back : (fs : Forms) (v : Values fs) → are_fit n fs v ≡ true
      → values_of paths fs (words_of paths fs v) ≡ Ok v
  words_back Alone v h = refl
  words_back Way v h = rw (way_back v.0 v.1 h) refl
  words_back (f ▸ fs) v h =
      rw (
        word_back f v.0 (left_true ((form f).fits n v.0) (are_fit n fs v.1) h),
        words_back fs v.1 (right_true ((form f).fits n v.0) (are_fit n fs v.1) h),
      ) refl

  -- the words after the first of a call's line are plain, and are read as the call
  pub record IsRead (c : Call) : Type 0 where
    pub plain : list_all is_plain (words_after paths (spoken c)) ≡ true
    pub back : call_of (spoken c).word (text_after (words_after paths (spoken c)))
        (take 9 (words_after paths (spoken c))) paths ≡ Ok c

  -- the canonical words of a call's arguments are plain
  said_plain : (a : Arguments) (s : Said a) → is_fit n a s ≡ true → SaysReadRule a s
      → list_all is_plain (argument_words paths a s) ≡ true
  said_plain Rule r h read = rule_plain r read
  said_plain (Words fs) v h read = words_plain fs v h

  -- canonical arguments whose words are all kept are read as what they say
  said_back : (a : Arguments) (s : Said a) → is_short a ≡ true → is_fit n a s ≡ true
      → SaysReadRule a s
      → said_of paths a (text_after (argument_words paths a s)) (take 9 (argument_words paths a s))
      ≡ Ok s
  said_back Rule r short h read = rule_back r read
  said_back (Words fs) v short h read =
      ap (values_of paths fs) (all_kept paths fs v short) ∙ words_back fs v h

  -- the words of a call's line are read as the call
  pub call_back : (c : Call) → is_line_call n c ≡ true → HasReadRule c → IsRead c
  unfolding call_of
  call_back c h read =
      let w = (spoken c).word in
      let s = (spoken c).said in
      record {
        plain = said_plain (row w).arguments s h (says_rule c read);
        back = rw (said_back (row w).arguments s (short_row w) h (says_rule c read))
            (ap Ok (made-spoken c));
      }

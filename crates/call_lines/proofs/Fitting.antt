-- Whatever a line says, a line can say: each value that is read fits its form.
use Rattle.std.proofs.Common.{◌≡◌, ℕ, ◌+◌, Bool, true, false, ◌&&◌, nat_le, nat_lt, List, [], ◌∷◌, length, Option, Some, None, Result, Ok, Err, IfOk, IfSome, ok_or, if◌then◌else◌, refl, inl, inr, ap, ◌∙◌, arith}
use Rattle.std.specs.Prelude.{codes}
use Rattle.std.specs.Str.{bytes_eq}
use Rattle.std.proofs.lemmas.Bool.{cases_Bool}
use Rattle.std.proofs.lemmas.Bool.Decides.{nat_tests}
use Rattle.call_steps.specs.Forms.{is_offset, is_portion, is_small}
use Rattle.call_steps.specs.events.declared.deed.How.TheVariants as how
use Rattle.call_steps.specs.events.pages.Content.{most_bytes}
use Rattle.text_forms.specs.Numbers.{short_number_of}
use Rattle.text_forms.specs.Paths.{is_path}
use Rattle.text_forms.specs.Words.{is_word}
use Rattle.script_words.specs.declared.fault.LineCause.{LineCause}
use Rattle.script_words.specs.declared.fault.LineCause.TheVariants as cause
use Rattle.script_words.specs.Forms.{descriptor_of, id_of, mode_of, offset_of, portion_of, rule_of, small_of}
use Rattle.script_words.specs.Value.{value_of}
use Rattle.call_lines.specs.Arguments.{Alone, Arguments, Forms, Rule, Way, Words, are_fit, both, flags_of, is_fit, is_way, opened, opened_by, said_of, values_of, way_of, ◌▸◌}
use Rattle.call_lines.specs.Calls.{call_of, can_say, is_line_call, made}
use Rattle.call_lines.specs.Form.{Bytes, Descriptor, Form, Id, Mapping, Mode, Name, Offset, Path, Portion, Small, form, inode_at, is_descriptor, is_id, is_mode, is_value, mapping_of, name_of}
use Rattle.call_lines.specs.Places.{one_on, place_in}
use Rattle.call_lines.specs.Table.{row}
use Rattle.call_lines.specs.declared.table.CallWord.{CallWord}
use Rattle.call_lines.proofs.Holding.{bound, tested}
use Rattle.call_lines.proofs.Rows.{spoken-made}
use Rattle.call_lines.proofs.ValueForms.{any_within, number_within, value_within}

-- ---- one word

-- a value of an option that satisfies a property satisfies it as a result
pub some_ok : {A : Type 0} (P : A → Type 0) (o : Option A) (c : LineCause) → IfSome o P
    → IfOk (ok_or o c) P
some_ok P None c h = tt
some_ok P (Some x) c h = h

-- every result satisfies the trivial property
pub any_ok : {A : Type 0} (r : Result A LineCause) → IfOk r (λ x. Unit {0})
any_ok (Ok x) = tt
any_ok (Err c) = tt

-- every result satisfies a test that is always true
always_ok : {A : Type 0} (r : Result A LineCause) → IfOk r (λ x. true ≡ true)
always_ok (Ok x) = refl
always_ok (Err c) = tt

-- a number of at most 63 is one of a map, a run or a semaphore
small_of_within : (o : Option ℕ) → IfSome o (λ m. nat_le m 63 ≡ true)
    → IfSome o (λ m. is_small m ≡ true)
small_of_within None h = tt
small_of_within (Some m) h = grind (arith, nat_tests)

-- an index below n, increased by one, is below n + 1
one_on_bound : (o : Option ℕ) (n : ℕ) → IfSome o (λ k. nat_lt k n ≡ true)
    → IfSome (one_on o) (λ k. nat_lt k (n + 1) ≡ true)
one_on_bound None n h = tt
one_on_bound (Some k) n h = grind (arith, nat_tests)

-- the index of a path is below the number of paths
place_bound : (paths : List (List ℕ)) (path : List ℕ)
    → IfSome (place_in paths path) (λ k. nat_lt k (length paths) ≡ true)
place_bound [] path = tt
place_bound (p ∷ ps) path = elim (cases_Bool (bytes_eq path p)) [
  | inl e ↦ let some : nat_lt 0 (length (p ∷ ps)) ≡ true = grind (arith, nat_tests) in rw e some
  | inr e ↦
      let same : length (p ∷ ps) ≡ length ps + 1 = omega arith in
      rw (e, same) (one_on_bound (place_in ps path) (length ps) (place_bound ps path))
]

-- the file that a path names is one of the script's
inode_bound : (paths : List (List ℕ)) (path : List ℕ)
    → IfOk (inode_at paths path) (λ i. nat_lt i (length paths) ≡ true)
inode_bound paths path =
    tested (λ i. nat_lt i (length paths) ≡ true) (is_path path)
    (ok_or (place_in paths path) cause.Unknown) (Err cause.BadField)
    (λ e. some_ok (λ i. nat_lt i (length paths) ≡ true) (place_in paths path) cause.Unknown
    (place_bound paths path))
    (λ e. tt)

-- a name that is read has 1 to 255 visible bytes
name_within : (text : List ℕ) → IfSome (name_of text) (λ w. is_word 255 w ≡ true)
name_within text = elim (cases_Bool (is_word 255 text)) [
  | inl y ↦ rw y y
  | inr other ↦ rw other tt
]

-- what a word says fits the word's form
word_fits : (paths : List (List ℕ)) (f : Form) (text : List ℕ)
    → IfOk ((form f).read paths text) (λ x. (form f).fits (length paths) x ≡ true)
word_fits paths Descriptor text =
    some_ok (λ k. is_descriptor k ≡ true) (descriptor_of text) cause.BadField
    (number_within 10 255 text)
word_fits paths Small text =
    some_ok (λ m. is_small m ≡ true) (small_of text) cause.BadField
    (small_of_within (small_of text) (number_within 10 63 text))
word_fits paths Offset text =
    some_ok (λ o. is_offset o ≡ true) (offset_of text) cause.BadField
    (number_within 10 0xffff_ffff text)
word_fits paths Portion text =
    some_ok (λ k. is_portion k ≡ true) (portion_of text) cause.BadField
    (any_within most_bytes (short_number_of 10 most_bytes text) (number_within 10 most_bytes text))
word_fits paths Mode text =
    some_ok (λ m. is_mode m ≡ true) (mode_of text) cause.BadField (number_within 8 0xffff text)
word_fits paths Id text =
    some_ok (λ u. is_id u ≡ true) (id_of text) cause.BadField (number_within 10 0xffff_ffff text)
word_fits paths Mapping text = always_ok (ok_or (mapping_of text) cause.BadField)
word_fits paths Name text =
    some_ok (λ w. is_word 255 w ≡ true) (name_of text) cause.BadField (name_within text)
word_fits paths (Bytes least most) text =
    some_ok (λ v. is_value least most v ≡ true) (value_of least most text) cause.BadField
    (value_within least most text)
word_fits paths Path text = inode_bound paths text

-- ---- words, one after another

-- how a file is opened by these words is a way that a line can have
opened_fits : (way : List ℕ) (create trunc : Bool)
    → IfSome (opened way create trunc) (λ o. is_way o ≡ true)
opened_fits way create trunc = elim (cases_Bool (bytes_eq way (codes "r"))) [
  | inl r ↦ rw r (elim trunc as (λ t. IfSome
      (if t then None else Some (how.Read create, false)) (λ o. is_way o ≡ true)) [
        | true ↦ tt
        | false ↦ refl
      ])
  | inr nr ↦ elim (cases_Bool (bytes_eq way (codes "w"))) [
    | inl w ↦ rw (nr, w) refl
    | inr nw ↦ elim (cases_Bool (bytes_eq way (codes "rw"))) [
      | inl both ↦ rw (nr, nw, both) refl
      | inr other ↦ rw (nr, nw, other) tt
    ]
  ]
]

-- a way of opening whose flags have their form is one that a line can have
opened_by_fits : (way : List ℕ) (flags : Option (Bool × Bool))
    → IfSome (opened_by way flags) (λ o. is_way o ≡ true)
opened_by_fits way None = tt
opened_by_fits way (Some flags) = opened_fits way flags.0 flags.1

-- what the words of an `open` say is a way that a line can have
way_fits : (ws : List (List ℕ)) → IfSome (way_of ws) (λ o. is_way o ≡ true)
way_fits [] = tt
way_fits (way ∷ flags) = opened_by_fits way (flags_of flags)

-- if both parts fit, so do they together
both_fit : {A B : Type 0} (p : A → Bool) (q : B → Bool) (r : Result A LineCause)
    (s : Result B LineCause) → IfOk r (λ x. p x ≡ true) → IfOk s (λ y. q y ≡ true)
    → IfOk (both r s) (λ v. (p v.0 && q v.1) ≡ true)
both_fit p q (Ok x) (Ok y) h k = rw h k
both_fit p q (Ok x) (Err c) h k = tt
both_fit p q (Err cause.Unknown) (Ok y) h k = tt
both_fit p q (Err cause.Unknown) (Err c) h k = tt
both_fit p q (Err c) s h k = tt

-- what words say fits the words' forms
values_fit : (paths : List (List ℕ)) (fs : Forms) (ws : List (List ℕ))
    → IfOk (values_of paths fs ws) (λ v. are_fit (length paths) fs v ≡ true)
values_fit paths Alone [] = refl
values_fit paths Alone (w ∷ ws) = tt
values_fit paths Way ws = some_ok (λ o. is_way o ≡ true) (way_of ws) cause.BadField (way_fits ws)
values_fit paths (f ▸ fs) [] = tt
values_fit paths (f ▸ fs) (w ∷ ws) =
    both_fit ((form f).fits (length paths)) (are_fit (length paths) fs) ((form f).read paths w)
    (values_of paths fs ws) (word_fits paths f w) (values_fit paths fs ws)

-- what the arguments say fits their forms
said_fits : (paths : List (List ℕ)) (a : Arguments) (text : Option (List ℕ)) (ws : List (List ℕ))
    → IfOk (said_of paths a text ws) (λ s. is_fit (length paths) a s ≡ true)
said_fits paths Rule text ws = always_ok (rule_of text)
said_fits paths (Words fs) text ws = values_fit paths fs ws

-- a call that a line makes has the form of its line
pub call_formed : (paths : List (List ℕ)) (w : CallWord) (text : Option (List ℕ))
    (words : List (List ℕ))
    → IfOk (call_of w text words paths) (λ c. is_line_call (length paths) c ≡ true)
unfolding call_of
call_formed paths w text words =
    bound (λ s. is_fit (length paths) (row w).arguments s ≡ true)
    (λ c. is_line_call (length paths) c ≡ true) (said_of paths (row w).arguments text words)
    (λ s. Ok (made w s)) (said_fits paths (row w).arguments text words)
    (λ s h. ap (can_say (length paths)) (spoken-made w s) ∙ h)

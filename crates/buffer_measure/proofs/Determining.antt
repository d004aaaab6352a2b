-- The output of a run determines the run.
use Rattle.std.proofs.Common.{◌≡◌, ℕ, zero, suc, ◌+◌, ◌<◌, ◌≤◌, ◌==◌, Bool, true, false, ◌&&◌, cond, not, nat_le, List, [], ◌∷◌, ◌++◌, length, map, drop, get_or, codes, Option, Some, None, refl, sym, ap, subst, ◌∙◌, arith, append_assoc, length-append}
use Rattle.std.specs.Prelude.{count_by, slice_get}
use Rattle.std.specs.List.{AllByRecursion, AllZip, flat_map, list_all}
use Rattle.std.proofs.lemmas.Bool.{eqb-true, ne_eqb}
use Rattle.std.proofs.lemmas.List.{append_cancel_right, drop_at}
use Rattle.std.proofs.lemmas.List.Sums.{sum_by-append}
use Rattle.std.proofs.lemmas.Option.{same_Some, slice_get_within}
use Rattle.report_text.proofs.about_growing.Others.{bit, count_by-cons}
use Rattle.report_text.specs.Numerals.{numeral}
use Rattle.report_text.specs.Ranges.{IsClean}
use Rattle.report_text.specs.Report.{entry_words, pcr_lines}
use Rattle.report_text.specs.Words.{Line}
use Rattle.report_text.proofs.CleanWords.{number_kept, visible}
use Rattle.report_text.proofs.Numerals.{numeral_injective}
use Rattle.report_text.proofs.Whole.{entries_kept, pcr_to_kept, rows_append}
use Rattle.script_text.specs.events.forms.Tokens.{is_filled}
use Rattle.script_text.specs.events.forms.Words.{is_clean, is_line, is_visible, is_word}
use Rattle.report_text.proofs.about_forms.Tells.{text_tells}
use Rattle.script_text.specs.steps.hashes.declared.algo.Algo.{Algo}
use Rattle.measure_book.specs.Replay.{banks_of}
use Rattle.script_text.specs.steps.templates.declared.entry.Entry.{Entry}
use Rattle.script_text.specs.Forms.{are_bytes, is_cred}
use Rattle.script_text.specs.Limits.{most_value}
use Rattle.script_text.proofs.Holding.{left_true, right_true}
use Rattle.buffer_measure.specs.Answers.{IsAnswer, added_in}
use Rattle.buffer_entries.specs.Entries.{boot_entry, entry_for}
use Rattle.buffer_text.specs.Forms.{IsBufferText, is_buffer, is_caller}
use Rattle.buffer_measure.specs.Print.{all_caller_lines, answer_lines, answer_words, caller_lines, head_lines, printed, run_lines}
use Rattle.buffer_measure.specs.Run.{AreAnswers, IsRunOf, RunValue}
use Rattle.buffer_text.specs.Text.{Buffer, BufferValue, CallerValue}
use Rattle.buffer_entries.specs.Wanted.{wanted}
use Rattle.buffer_measure.specs.declared.answer.Answer.{Answer}
use Rattle.buffer_measure.specs.declared.answer.Answer.TheVariants.{Skipped, Added, Already}
use Rattle.buffer_measure.proofs.Lists.{each_by_get}

-- ---- the entry of each place

-- two lists have at this place the entry of the same buffer
record Both (hash : Algo) (xs ys : List Entry) (place : ℕ) : Type 0 where
  pcr : ℕ
  line : Buffer
  form : is_buffer line ≡ true
  one : slice_get xs place ≡ Some (entry_for hash pcr line)
  other : slice_get ys place ≡ Some (entry_for hash pcr line)

-- a place that a caller's answers add has the entry of one of its buffers
both_at : (hash : Algo) (o : Option ℕ) (xs ys : List Entry) (place : ℕ) (lines : List Buffer)
    (answers : List Answer) → AllZip (IsAnswer hash xs o) lines answers
    → AllZip (IsAnswer hash ys o) lines answers → list_all is_buffer lines ≡ true
    → 1 ≤ count_by (λ p. p == place) (added_in answers) → Both hash xs ys place
both_at hash o xs ys place [] [] h k forms some = absurd (omega (arith, some))
both_at hash o xs ys place [] (a ∷ answers) h k forms some = absurd h
both_at hash o xs ys place (l ∷ lines) [] h k forms some = absurd h
both_at hash o xs ys place (l ∷ lines) (Skipped ∷ answers) h k forms some =
    both_at hash o xs ys place lines answers h.1 k.1
    (right_true (is_buffer l) (list_all is_buffer lines) forms) some
both_at hash o xs ys place (l ∷ lines) (Already p ∷ answers) h k forms some =
    both_at hash o xs ys place lines answers h.1 k.1
    (right_true (is_buffer l) (list_all is_buffer lines) forms) some
both_at hash None xs ys place (l ∷ lines) (Added p ∷ answers) h k forms some = absurd h.0
both_at hash (Some pcr) xs ys place (l ∷ lines) (Added p ∷ answers) h k forms some =
    by_place (both_at hash (Some pcr) xs ys place lines answers h.1 k.1
    (right_true (is_buffer l) (list_all is_buffer lines) forms)) (p == place) refl
  where
    by_place : (1 ≤ count_by (λ q. q == place) (added_in answers) → Both hash xs ys place)
        → (b : Bool) → (p == place) ≡ b → Both hash xs ys place
    by_place more true e =
        let is : p ≡ place = eqb-true p place e in
        record {
          pcr = pcr;
          line = l;
          form = left_true (is_buffer l) (list_all is_buffer lines) forms;
          one = subst (λ (q : ℕ). slice_get xs q ≡ Some (entry_for hash pcr l)) is h.0;
          other = subst (λ (q : ℕ). slice_get ys q ≡ Some (entry_for hash pcr l)) is k.0;
        }
    by_place more false e =
        let all : count_by (λ q. q == place) (p ∷ added_in answers)
        ≡ bit false + count_by (λ q. q == place) (added_in answers) =
        count_by-cons (λ q. q == place) p (added_in answers)
        ∙ ap (λ (b : Bool). bit b + count_by (λ q. q == place) (added_in answers)) e in
        more (omega (arith, all, some))

-- a place that the answers add has the entry of a buffer of the text
both_in : (t : BufferValue) (xs ys : List Entry) (place : ℕ) (cs : List CallerValue)
    (answers : List (List Answer)) → AllZip (AreAnswers t xs) cs answers
    → AllZip (AreAnswers t ys) cs answers → list_all is_caller cs ≡ true
    → 1 ≤ count_by (λ p. p == place) (flat_map added_in answers) → Both t.hash xs ys place
both_in t xs ys place [] [] h k forms some = absurd (omega (arith, some))
both_in t xs ys place [] (a ∷ answers) h k forms some = absurd h
both_in t xs ys place (c ∷ cs) [] h k forms some = absurd h
both_in t xs ys place (c ∷ cs) (a ∷ answers) h k forms some =
    by_count (both_in t xs ys place cs answers h.1 k.1
    (right_true (is_caller c) (list_all is_caller cs) forms))
    (count_by (λ p. p == place) (added_in a)) refl
  where
    by_count : (1 ≤ count_by (λ p. p == place) (flat_map added_in answers)
        → Both t.hash xs ys place)
        → (n : ℕ) → count_by (λ p. p == place) (added_in a) ≡ n → Both t.hash xs ys place
    by_count more zero e =
        more (omega (
          arith,
          e,
          some,
          sum_by-append (λ (p : ℕ). cond (p == place) 1 0) (added_in a)
              (flat_map added_in answers),
        ))
    by_count more (suc n) e =
        both_at t.hash (wanted t.rules c.cred) xs ys place c.lines a h.0 k.0
        (right_true (is_cred c.cred && not c.cred.admin) (list_all is_buffer c.lines)
        (left_true (is_caller c) (list_all is_caller cs) forms)) (omega (arith, e))

-- a place above 0 has the entry of a buffer, in each run with these answers
both_of : (t : BufferValue) (a b : RunValue) → IsBufferText t → IsRunOf t a → IsRunOf t b
    → a.answers ≡ b.answers → (place : ℕ) → suc place < length a.list
    → Both t.hash a.list b.list (suc place)
both_of t a b forms is_a is_b same place below =
    both_in t a.list b.list (suc place) t.callers a.answers is_a.answered
    (subst (λ (l : List (List Answer)). AllZip (AreAnswers t b.list) t.callers l) (sym same)
    is_b.answered) forms.callers
    (let one : count_by (λ p. p == suc place) (flat_map added_in a.answers) ≡ 1 =
    is_a.once (suc place) below
    ∙ ap (λ (v : Bool). cond v 0 1) (ne_eqb (suc place) 0 (λ e. absurd (omega (arith, e)))) in
    omega (arith, one))

-- lists of the same length with the same element at each place are equal
same_by_get : {A : Type 0} (xs ys : List A) → length xs ≡ length ys
    → ((k : ℕ) → k < length xs → slice_get xs k ≡ slice_get ys k) → xs ≡ ys
same_by_get [] [] even each = refl
same_by_get [] (y ∷ ys) even each = absurd (omega (arith, even))
same_by_get (x ∷ xs) [] even each = absurd (omega (arith, even))
same_by_get (x ∷ xs) (y ∷ ys) even each =
    let first : x ≡ y = same_Some x y (each 0 (omega arith)) in
    let rest : xs ≡ ys =
    same_by_get xs ys (omega (arith, even)) (λ k below. each (suc k) (omega (arith, below))) in
    λ i. first i ∷ rest i

-- the lists of two runs with the same answers are equal
same_list : (t : BufferValue) (a b : RunValue) → IsBufferText t → IsRunOf t a → IsRunOf t b
    → a.answers ≡ b.answers → length a.list ≡ length b.list → a.list ≡ b.list
same_list t a b forms is_a is_b same even = same_by_get a.list b.list even at where
  at : (k : ℕ) → k < length a.list → slice_get a.list k ≡ slice_get b.list k
  at zero below = is_a.boot ∙ sym is_b.boot
  at (suc k) below =
      let w = both_of t a b forms is_a is_b same k below in w.one ∙ sym w.other

-- ---- the lines are clean

-- the name of a buffer is clean
name_clean : (line : Buffer) → is_buffer line ≡ true → IsClean line.0
name_clean line form =
    visible line.0
    (right_true (is_filled line.0 && nat_le (length line.0) 255) (list_all is_visible line.0)
    (left_true (is_word 255 line.0)
    (nat_le (length line.1) most_value && are_bytes line.1) form))

names_clean : (t : BufferValue) (a : RunValue) → IsBufferText t → IsRunOf t a
    → AllByRecursion (λ (e : Entry). IsClean e.name) a.list
names_clean t a forms is = each_by_get (λ (e : Entry). IsClean e.name) a.list at where
  at : (k : ℕ) (e : Entry) → slice_get a.list k ≡ Some e → IsClean e.name
  at zero e there =
      subst (λ (x : Entry). IsClean x.name)
      (same_Some (boot_entry t.hash) e (sym is.boot ∙ there)) refl
  at (suc k) e there =
      let w = both_of t a a forms is is refl k (slice_get_within a.list (suc k) e there) in
      subst (λ (x : Entry). IsClean x.name)
      (same_Some (entry_for t.hash w.pcr w.line) e (sym w.one ∙ there)) (name_clean w.line w.form)

answer_kept : (a : Answer) → list_all is_clean (answer_words a) ≡ true
answer_kept Skipped = refl
answer_kept (Added place) = rw (number_kept place) refl
answer_kept (Already place) = rw (number_kept place) refl

answers_kept : (n : ℕ) (answers : List Answer) → list_all is_line (answer_lines n answers) ≡ true
answers_kept n [] = refl
answers_kept n (a ∷ later) = rw (number_kept n, answer_kept a) (answers_kept (n + 1) later)

callers_kept : (n : ℕ) (all : List (List Answer))
    → list_all is_line (all_caller_lines n all) ≡ true
callers_kept n [] = refl
callers_kept n (answers ∷ rest) =
    rows_append (caller_lines n answers) (all_caller_lines (n + 1) rest)
    (rw (number_kept n) (answers_kept 0 answers)) (callers_kept (n + 1) rest)

run_kept : (t : BufferValue) (a : RunValue) → IsBufferText t → IsRunOf t a
    → list_all is_line (run_lines a) ≡ true
run_kept t a forms is =
    let ending : List Line = (codes "end" ∷ []) ∷ [] in
    rows_append (head_lines (length a.list))
    (map entry_words a.list ++ (pcr_lines a.list a.banks
    ++ (all_caller_lines 0 a.answers ++ ending)))
    (rw (number_kept (length a.list)) refl)
    (rows_append (map entry_words a.list)
    (pcr_lines a.list a.banks ++ (all_caller_lines 0 a.answers ++ ending))
    (entries_kept a.list (names_clean t a forms is))
    (rows_append (pcr_lines a.list a.banks) (all_caller_lines 0 a.answers ++ ending)
    (pcr_to_kept a.list a.banks 24)
    (rows_append (all_caller_lines 0 a.answers) ending (callers_kept 0 a.answers) refl)))

-- ---- the answers

-- of two equal lists, parts at the end of the same length are equal
same_end : {A : Type 0} (xs ys us vs : List A) → xs ++ us ≡ ys ++ vs → length us ≡ length vs
    → us ≡ vs
same_end xs ys us vs e even =
    let fronts : length xs ≡ length ys =
    omega (arith, length-append xs us, length-append ys vs, ap length e, even) in
    sym (drop_at xs us (length xs) refl) ∙ ap (drop (length xs)) e
    ∙ drop_at ys vs (length xs) (sym fronts)

-- of two equal lists, parts at the start of the same length are equal, and so is the rest
same_parts : {A : Type 0} (xs ys us vs : List A) → length xs ≡ length ys → xs ++ us ≡ ys ++ vs
    → (xs ≡ ys) × (us ≡ vs)
same_parts [] [] us vs even e = (refl, e)
same_parts [] (y ∷ ys) us vs even e = absurd (omega (arith, even))
same_parts (x ∷ xs) [] us vs even e = absurd (omega (arith, even))
same_parts (x ∷ xs) (y ∷ ys) us vs even e =
    let first : x ≡ y = cc e in
    let more : xs ++ us ≡ ys ++ vs = cc e in
    let rest = same_parts xs ys us vs (omega (arith, even)) more in
    let front : xs ≡ ys = rest.0 in
    ((λ i. first i ∷ front i), rest.1)

answer_determined : (a b : Answer) → answer_words a ≡ answer_words b → a ≡ b
answer_determined Skipped Skipped e = refl
answer_determined Skipped (Added q) e = absurd (omega (arith, ap length e))
answer_determined Skipped (Already q) e = absurd (omega (arith, ap length e))
answer_determined (Added p) Skipped e = absurd (omega (arith, ap length e))
answer_determined (Already p) Skipped e = absurd (omega (arith, ap length e))
answer_determined (Added p) (Already q) e =
    let lengths : ◌≡◌ {A = ℕ} 5 7 = ap (λ (ws : Line). length (get_or ws 0 [])) e in
    absurd (omega (arith, lengths))
answer_determined (Already p) (Added q) e =
    let lengths : ◌≡◌ {A = ℕ} 7 5 = ap (λ (ws : Line). length (get_or ws 0 [])) e in
    absurd (omega (arith, lengths))
answer_determined (Added p) (Added q) e =
    let places : numeral p ≡ numeral q = ap (λ (ws : Line). get_or ws 1 []) e in
    ap (λ (n : ℕ). Added n) (numeral_injective p q places)
answer_determined (Already p) (Already q) e =
    let places : numeral p ≡ numeral q = ap (λ (ws : Line). get_or ws 1 []) e in
    ap (λ (n : ℕ). Already n) (numeral_injective p q places)

answers_determined : (n : ℕ) (us vs : List Answer) → answer_lines n us ≡ answer_lines n vs → us ≡ vs
answers_determined n [] [] e = refl
answers_determined n [] (b ∷ vs) e = absurd (omega (arith, ap length e))
answers_determined n (a ∷ us) [] e = absurd (omega (arith, ap length e))
answers_determined n (a ∷ us) (b ∷ vs) e =
    let words : answer_words a ≡ answer_words b =
    ap (λ (ls : List Line). drop 1 (get_or ls 0 [])) e in
    let more : answer_lines (n + 1) us ≡ answer_lines (n + 1) vs = ap (drop 1) e in
    let first : a ≡ b = answer_determined a b words in
    let rest : us ≡ vs = answers_determined (n + 1) us vs more in
    λ i. first i ∷ rest i

answer_count : (n : ℕ) (us : List Answer) → length (answer_lines n us) ≡ length us
answer_count n [] = refl
answer_count n (a ∷ us) = ap suc (answer_count (n + 1) us)

-- the callers have as many answers each
abbrev Even : List Answer → List Answer → Type 0
Even a b = length a ≡ length b

callers_determined : (n : ℕ) (xs ys : List (List Answer)) → AllZip Even xs ys
    → all_caller_lines n xs ≡ all_caller_lines n ys → xs ≡ ys
callers_determined n [] [] even e = refl
callers_determined n [] (y ∷ ys) even e = absurd even
callers_determined n (x ∷ xs) [] even e = absurd even
callers_determined n (x ∷ xs) (y ∷ ys) even e =
    let same : length x ≡ length y = even.0 in
    let parts = same_parts (caller_lines n x) (caller_lines n y) (all_caller_lines (n + 1) xs)
    (all_caller_lines (n + 1) ys)
    (omega (arith, answer_count 0 x, answer_count 0 y, same)) e in
    let head : caller_lines n x ≡ caller_lines n y = parts.0 in
    let lines : answer_lines 0 x ≡ answer_lines 0 y = ap (drop 1) head in
    let first : x ≡ y = answers_determined 0 x y lines in
    let rest : xs ≡ ys = callers_determined (n + 1) xs ys even.1 parts.1 in
    λ i. first i ∷ rest i

callers_count : (n m : ℕ) (xs ys : List (List Answer)) → AllZip Even xs ys
    → length (all_caller_lines n xs) ≡ length (all_caller_lines m ys)
callers_count n m [] [] even = refl
callers_count n m [] (y ∷ ys) even = absurd even
callers_count n m (x ∷ xs) [] even = absurd even
callers_count n m (x ∷ xs) (y ∷ ys) even =
    let same : length x ≡ length y = even.0 in
    omega (
      arith,
      length-append (caller_lines n x) (all_caller_lines (n + 1) xs),
      length-append (caller_lines m y) (all_caller_lines (m + 1) ys),
      answer_count 0 x,
      answer_count 0 y,
      same,
      callers_count (n + 1) (m + 1) xs ys even.1,
    )

-- related lists have the same length
zip_even : {A B : Type 0} (R : A → B → Type 0) (us : List A) (vs : List B) → AllZip R us vs
    → length us ≡ length vs
zip_even R [] [] all = refl
zip_even R [] (v ∷ vs) all = absurd all
zip_even R (u ∷ us) [] all = absurd all
zip_even R (u ∷ us) (v ∷ vs) all = ap suc (zip_even R us vs all.1)

-- the callers of two runs have as many answers each
even_answers : (t : BufferValue) (xs ys : List Entry) (cs : List CallerValue)
    (us vs : List (List Answer)) → AllZip (AreAnswers t xs) cs us → AllZip (AreAnswers t ys) cs vs
    → AllZip Even us vs
even_answers t xs ys [] [] [] h k = tt
even_answers t xs ys [] (a ∷ us) vs h k = absurd h
even_answers t xs ys [] [] (b ∷ vs) h k = absurd k
even_answers t xs ys (c ∷ cs) [] vs h k = absurd h
even_answers t xs ys (c ∷ cs) (a ∷ us) [] h k = absurd k
even_answers t xs ys (c ∷ cs) (a ∷ us) (b ∷ vs) h k = (
  sym (zip_even (IsAnswer t.hash xs (wanted t.rules c.cred)) c.lines a h.0)
      ∙ zip_even (IsAnswer t.hash ys (wanted t.rules c.cred)) c.lines b k.0,
  even_answers t xs ys cs us vs h.1 k.1,
)

-- ---- the run

pub run_determined : (t : BufferValue) (a b : RunValue) → IsBufferText t → IsRunOf t a
    → IsRunOf t b → printed a ≡ printed b → a ≡ b
run_determined t a b forms is_a is_b e =
    let ending : List Line = (codes "end" ∷ []) ∷ [] in
    let lines : run_lines a ≡ run_lines b =
    text_tells (run_lines a) (run_lines b) (run_kept t a forms is_a) (run_kept t b forms is_b) e in
    let counts : numeral (length a.list) ≡ numeral (length b.list) =
    ap (λ (ls : List Line). get_or (get_or ls 1 []) 1 []) lines in
    let even : length a.list ≡ length b.list =
    numeral_injective (length a.list) (length b.list) counts in
    let shape : AllZip Even a.answers b.answers =
    even_answers t a.list b.list t.callers a.answers b.answers is_a.answered is_b.answered in
    let front : RunValue → List Line =
    λ r. head_lines (length r.list) ++ (map entry_words r.list ++ pcr_lines r.list r.banks) in
    let split : (r : RunValue)
    → run_lines r ≡ front r ++ (all_caller_lines 0 r.answers ++ ending) =
    λ r. spread (head_lines (length r.list)) (map entry_words r.list) (pcr_lines r.list r.banks)
    (all_caller_lines 0 r.answers ++ ending) in
    let ends : all_caller_lines 0 a.answers ++ ending ≡ all_caller_lines 0 b.answers ++ ending =
    same_end (front a) (front b) (all_caller_lines 0 a.answers ++ ending)
    (all_caller_lines 0 b.answers ++ ending) (sym (split a) ∙ lines ∙ split b)
    (omega (
      arith,
      length-append (all_caller_lines 0 a.answers) ending,
      length-append (all_caller_lines 0 b.answers) ending,
      callers_count 0 0 a.answers b.answers shape,
    )) in
    let answers : a.answers ≡ b.answers =
    callers_determined 0 a.answers b.answers shape
    (append_cancel_right (all_caller_lines 0 a.answers) (all_caller_lines 0 b.answers) ending
    ends) in
    let list : a.list ≡ b.list = same_list t a b forms is_a is_b answers even in
    let banks : a.banks ≡ b.banks = is_a.banks ∙ ap banks_of list ∙ sym is_b.banks in
    λ i. record { list = list i; banks = banks i; answers = answers i }
  where
    spread : (h es p z : List Line) → h ++ (es ++ (p ++ z)) ≡ (h ++ (es ++ p)) ++ z
    spread h es p z = simp append_assoc

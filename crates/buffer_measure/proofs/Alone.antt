-- A run with at most one caller is the fold of its buffers.
use Rattle.std.proofs.Common.{◌≡◌, ℕ, zero, suc, ◌+◌, ◌<◌, ◌≤◌, ◌==◌, Bool, true, false, cond, List, [], ◌∷◌, ◌++◌, length, get_or, Option, Some, None, refl, sym, ap, subst, ◌∙◌, append_assoc, arith, length-append, inl, inr}
use Rattle.std.specs.Prelude.{count_by, nat_lt, slice_get}
use Rattle.std.specs.List.{AllByRecursion, AllZip, flat_map, fold, position, position_or_len}
use Rattle.std.proofs.lemmas.Bool.{cases_lt, cond-true, false≢true, lt-ltb, ne_eqb}
use Rattle.std.proofs.lemmas.List.{append-nil, get_or_append_left}
use Rattle.std.proofs.lemmas.List.Quantifiers.{position-Some}
use Rattle.std.proofs.lemmas.List.Sums.{position_or_len_is}
use Rattle.std.proofs.lemmas.Option.{none-some, same_Some, slice_get-get_or, slice_get_within}
use mathlib.Core.List.{IsPrefix}
use Rattle.report_text.proofs.about_growing.Others.{bit, count_by-cons}
use Rattle.report_text.proofs.about_growing.Prefixes.{prefix_get, prefix_whole}
use Rattle.script_text.specs.steps.hashes.declared.algo.Algo.{Algo}
use Rattle.measure_book.specs.Replay.{banks_of}
use Rattle.script_text.specs.steps.templates.Same.{IsDistinct, add_by, place_of_same, placed_by, same}
use Rattle.script_text.specs.steps.templates.declared.entry.Entry.{Entry}
use Rattle.script_text.proofs.Lasts.{each_weaker}
use Rattle.buffer_measure.specs.Alone.{Outcome, alone_next, outcome_alone, run_alone}
use Rattle.buffer_measure.specs.Answers.{IsAnswer, Rises, added_in, answer_of}
use Rattle.buffer_entries.specs.Entries.{boot_entry, entry_for}
use Rattle.buffer_measure.specs.Run.{AreAnswers, IsRunOf, RunValue}
use Rattle.buffer_text.specs.Text.{Buffer, BufferValue, CallerValue}
use Rattle.buffer_entries.specs.Wanted.{wanted}
use Rattle.buffer_measure.specs.declared.answer.Answer.{Answer}
use Rattle.buffer_measure.specs.declared.answer.Answer.TheVariants.{Skipped, Added, Already}
use Rattle.buffer_measure.proofs.Closing.{rising}
use Rattle.buffer_measure.proofs.Lists.{Rising, none_above}

-- ---- the places that one caller adds

-- m numbers from `low` on
abbrev up : ℕ → ℕ → List ℕ
up low zero = []
up low (suc m) = low ∷ up (low + 1) m

-- the first of rising numbers that are at least `low`, `low` among them
first_is : (low n : ℕ) (ns : List ℕ) → Rising (n ∷ ns) → low ≤ n
    → count_by (λ m. m == low) (n ∷ ns) ≡ 1 → n ≡ low
first_is low n ns r least one = elim (cases_lt low n) [
  | inl above ↦
      let none : count_by (λ m. m == low) (n ∷ ns) ≡ 0 =
      none_above low (n ∷ ns) (
        above,
        each_weaker (λ (m : ℕ). n < m) (λ (m : ℕ). low < m)
            (λ m h. omega (arith, h, above)) ns r.0,
      ) in
      absurd (omega (arith, none, one))
  | inr below ↦ omega (arith, below, least)
]

-- rising numbers, each of those from `low` on once and no other
is_up : (m low : ℕ) (ns : List ℕ) → Rising ns → AllByRecursion (λ n. low ≤ n) ns
    → AllByRecursion (λ n. n < low + m) ns
    → ((n : ℕ) → low ≤ n → n < low + m → count_by (λ k. k == n) ns ≡ 1) → ns ≡ up low m
is_up zero low [] r least most once = refl
is_up zero low (n ∷ ns) r least most once =
    absurd (omega (arith, least.0, most.0))
is_up (suc m) low [] r least most once =
    let none : ◌≡◌ {A = ℕ} 0 1 = once low (omega arith) (omega arith) in
    absurd (omega (arith, none))
is_up (suc m) low (n ∷ ns) r least most once =
    let is : n ≡ low = first_is low n ns r least.0 (once low (omega arith) (omega arith)) in
    let rest : ns ≡ up (low + 1) m =
    is_up m (low + 1) ns r.1
    (each_weaker (λ (k : ℕ). n < k) (λ (k : ℕ). low + 1 ≤ k) (λ k h. omega (arith, h, is)) ns r.0)
    (each_weaker (λ (k : ℕ). k < low + suc m) (λ (k : ℕ). k < low + 1 + m)
    (λ k h. omega (arith, h)) ns most.1)
    (λ k from below.
    let other : (n == k) ≡ false = ne_eqb n k (λ e. absurd (omega (arith, e, is, from))) in
    let all : bit (n == k) + count_by (λ j. j == k) ns ≡ 1 =
    sym (count_by-cons (λ j. j == k) n ns) ∙ once k (omega (arith, from)) (omega (arith, below)) in
    let without : bit false + count_by (λ j. j == k) ns ≡ 1 =
    ap (λ (b : Bool). bit b + count_by (λ j. j == k) ns) (sym other) ∙ all in
    omega (arith, without)) in
    λ i. is i ∷ rest i

-- each place that answers add is within the list
added_within : (hash : Algo) (full : List Entry) (o : Option ℕ) (lines : List Buffer)
    (answers : List Answer) → AllZip (IsAnswer hash full o) lines answers
    → AllByRecursion (λ n. n < length full) (added_in answers)
added_within hash full o [] [] h = tt
added_within hash full o [] (a ∷ answers) h = absurd h
added_within hash full o (l ∷ lines) [] h = absurd h
added_within hash full o (l ∷ lines) (Skipped ∷ answers) h =
    added_within hash full o lines answers h.1
added_within hash full o (l ∷ lines) (Already p ∷ answers) h =
    added_within hash full o lines answers h.1
added_within hash full None (l ∷ lines) (Added p ∷ answers) h = absurd h.0
added_within hash full (Some pcr) (l ∷ lines) (Added p ∷ answers) h = (
  slice_get_within full p (entry_for hash pcr l) h.0,
  added_within hash full (Some pcr) lines answers h.1,
)

-- ---- one step

-- the entry after a prefix of a list without duplicates is new in the prefix
new_in : (xs full : List Entry) (e : Entry) → IsPrefix xs full → IsDistinct full
    → slice_get full (length xs) ≡ Some e → place_of_same xs e ≡ None
new_in xs full e pre distinct there = by_place (place_of_same xs e) refl where
  by_place : (found : Option ℕ) → place_of_same xs e ≡ found → place_of_same xs e ≡ None
  by_place None is = is
  by_place (Some k) is =
      let w = position-Some (λ (y : Entry). same y e) xs k e is in
      let early : slice_get full k ≡ Some (get_or xs k e) =
      prefix_get xs full k (get_or xs k e) pre (slice_get-get_or xs k e w.0) in
      absurd (false≢true (sym (distinct k (length xs) (get_or xs k e) e w.0 early there) ∙ w.1))

-- a search that succeeds within a prefix finds the same place in it
position_shorter : {A : Type 0} (p : A → Bool) (xs full : List A) (k : ℕ) (d : A)
    → IsPrefix xs full → position p full ≡ Some k → k < length xs → position p xs ≡ Some k
position_shorter {A} p xs full k d pre h below =
    let w = position-Some p full k d h in
    let here : (j : ℕ) → j < length xs → get_or xs j d ≡ get_or full j d =
    λ j within. sym (get_or_append_left xs pre.0 d j within)
    ∙ ap (λ (l : List A). get_or l j d) pre.1 in
    let is : position_or_len p xs ≡ k =
    position_or_len_is p xs k d (omega (arith, below))
    (λ j early. ap p (here j (omega (arith, early, below))) ∙ w.2 j early)
    (λ _. ap p (here k below) ∙ w.1) in
    ap (λ (n : ℕ). cond (nat_lt n (length xs)) (Some n) None) is
    ∙ cond-true (nat_lt k (length xs)) (Some k) None (lt-ltb k (length xs) below)

-- a prefix with the next entry of the list is a prefix
prefix_more : {A : Type 0} (xs full : List A) (e : A) → IsPrefix xs full
    → slice_get full (length xs) ≡ Some e → IsPrefix (xs ++ e ∷ []) full
prefix_more [] [] e pre there = absurd (none-some e there)
prefix_more [] (y ∷ full) e pre there =
    let is : e ≡ y = sym (same_Some y e there) in (full, (λ i. is i ∷ full))
prefix_more (x ∷ xs) [] e pre there = let s = pre.1 in absurd (cc)
prefix_more (x ∷ xs) (y ∷ full) e pre there =
    let s = pre.1 in
    let first : x ≡ y = cc in
    let rest : xs ++ pre.0 ≡ full = cc in
    let r = prefix_more xs full e (pre.0, rest) there in
    let t : (xs ++ e ∷ []) ++ r.0 ≡ full = r.1 in
    (r.0, (λ i. first i ∷ t i))

-- ---- the fold

-- a place below those from `low` on is below `low`, if there are any
below_first : (low m p : ℕ) → AllByRecursion (λ n. p < n) (up low m) → p < low + m → p < low
below_first low zero p h within = omega (arith, within)
below_first low (suc m) p h within = h.0

-- the buffers that are left make of the first entries and the answers so far the whole of both
walk : (hash : Algo) (o : Option ℕ) (full : List Entry) (lines : List Buffer)
    (answers : List Answer) (m : ℕ) (xs : List Entry) (done : List Answer)
    → IsDistinct full → IsPrefix xs full → AllZip (IsAnswer hash full o) lines answers
    → Rises answers → added_in answers ≡ up (length xs) m → length xs + m ≡ length full
    → fold (alone_next hash o) (xs, done) lines ≡ (full, done ++ answers)
walk hash o full [] [] zero xs done distinct pre h r ups all =
    let is : xs ≡ full = prefix_whole xs full pre (omega (arith, all)) in
    λ i. (is i, sym (append-nil done) i)
walk hash o full [] [] (suc m) xs done distinct pre h r ups all = absurd (cc ups)
walk hash o full [] (a ∷ answers) m xs done distinct pre h r ups all = absurd h
walk hash o full (l ∷ lines) [] m xs done distinct pre h r ups all = absurd h
walk hash None full (l ∷ lines) (Skipped ∷ answers) m xs done distinct pre h r ups all =
    walk hash None full lines answers m xs (done ++ Skipped ∷ []) distinct pre h.1 r.1 ups all
    ∙ (λ i. (full, append_assoc done (Skipped ∷ []) answers i))
walk hash None full (l ∷ lines) (Added p ∷ answers) m xs done distinct pre h r ups all =
    absurd h.0
walk hash None full (l ∷ lines) (Already p ∷ answers) m xs done distinct pre h r ups all =
    absurd h.0
walk hash (Some pcr) full (l ∷ lines) (Skipped ∷ answers) m xs done distinct pre h r ups all =
    absurd h.0
walk hash (Some pcr) full (l ∷ lines) (Added p ∷ answers) zero xs done distinct pre h r ups all =
    absurd (cc ups)
walk hash (Some pcr) full (l ∷ lines) (Added p ∷ answers) (suc m) xs done distinct pre h r ups all
    =
    let e = entry_for hash pcr l in
    let place : p ≡ length xs = cc ups in
    let rest : added_in answers ≡ up (length xs + 1) m = cc ups in
    let there : slice_get full (length xs) ≡ Some e =
    ap (slice_get full) (sym place) ∙ h.0 in
    let none : place_of_same xs e ≡ None = new_in xs full e pre distinct there in
    let longer : length (xs ++ e ∷ []) ≡ length xs + 1 = length-append xs (e ∷ []) in
    let after : Option ℕ → Outcome =
    λ f. (add_by f xs e, done ++ answer_of (placed_by f (length xs)) ∷ []) in
    let step : alone_next hash (Some pcr) (xs, done) l ≡ (xs ++ e ∷ [], done ++ Added p ∷ []) =
    ap after none ∙ (λ i. (xs ++ e ∷ [], done ++ Added (sym place i) ∷ [])) in
    ap (λ (s : Outcome). fold (alone_next hash (Some pcr)) s lines) step
    ∙ walk hash (Some pcr) full lines answers m (xs ++ e ∷ []) (done ++ Added p ∷ []) distinct
    (prefix_more xs full e pre there) h.1 r.1
    (rest ∙ ap (λ (n : ℕ). up n m) (sym longer)) (omega (arith, longer, all))
    ∙ (λ i. (full, append_assoc done (Added p ∷ []) answers i))
walk hash (Some pcr) full (l ∷ lines) (Already p ∷ answers) m xs done distinct pre h r ups all =
    let e = entry_for hash pcr l in
    let within : p < length full =
    (position-Some (λ (y : Entry). same y e) full p e h.0).0 in
    let below : p < length xs =
    below_first (length xs) m p (subst (AllByRecursion (λ (n : ℕ). p < n)) ups r.0.0)
    (omega (arith, within, all)) in
    let found : place_of_same xs e ≡ Some p =
    position_shorter (λ (y : Entry). same y e) xs full p e pre h.0 below in
    let after : Option ℕ → Outcome =
    λ f. (add_by f xs e, done ++ answer_of (placed_by f (length xs)) ∷ []) in
    let step : alone_next hash (Some pcr) (xs, done) l ≡ (xs, done ++ Already p ∷ []) =
    ap after found in
    ap (λ (s : Outcome). fold (alone_next hash (Some pcr)) s lines) step
    ∙ walk hash (Some pcr) full lines answers m xs (done ++ Already p ∷ []) distinct pre h.1 r.1
    ups all
    ∙ (λ i. (full, append_assoc done (Already p ∷ []) answers i))

-- ---- the run

-- without callers the list is its first entry
no_caller : (list : List Entry) (answers : List (List Answer)) (boot : Entry)
    → slice_get list 0 ≡ Some boot → answers ≡ []
    → ((place : ℕ) → place < length list
    → count_by (λ p. p == place) (flat_map added_in answers) ≡ cond (place == 0) 0 1)
    → list ≡ boot ∷ []
no_caller [] answers boot at none once = absurd (none-some boot at)
no_caller (x ∷ []) answers boot at none once = λ i. same_Some x boot at i ∷ []
no_caller (x ∷ y ∷ list) answers boot at none once =
    let zero_is : ◌≡◌ {A = ℕ} 0 1 =
    ap (λ (ls : List (List Answer)). count_by (λ p. p == 1) (flat_map added_in ls)) (sym none)
    ∙ once 1 (omega arith) in
    absurd (omega (arith, zero_is))

-- the places that a caller adds alone are all above 0, in order
alone_up : (list : List Entry) (answers : List Answer) (n : ℕ) → length list ≡ 1 + n
    → Rises answers → AllByRecursion (λ p. p < length list) (added_in answers)
    → ((place : ℕ) → place < length list
    → count_by (λ p. p == place) (added_in answers ++ []) ≡ cond (place == 0) 0 1)
    → added_in answers ≡ up 1 n
alone_up list answers n long r within once =
    is_up n 1 (added_in answers) (rising answers r)
    (above_zero (added_in answers)
    (ap (λ (ns : List ℕ). count_by (λ p. p == 0) ns) (sym (append-nil (added_in answers)))
    ∙ once 0 (omega (arith, long))))
    (each_weaker (λ (p : ℕ). p < length list) (λ (p : ℕ). p < 1 + n)
    (λ p h. omega (arith, h, long)) (added_in answers) within)
    (λ p some below.
    ap (λ (ns : List ℕ). count_by (λ q. q == p) ns) (sym (append-nil (added_in answers)))
    ∙ once p (omega (arith, below, long))
    ∙ ap (λ (b : Bool). cond b 0 1) (ne_eqb p 0 (λ e. absurd (omega (arith, e, some))))) where
      above_zero : (ns : List ℕ) → count_by (λ p. p == 0) ns ≡ 0
          → AllByRecursion (λ p. 1 ≤ p) ns
      above_zero [] none = tt
      above_zero (zero ∷ ns) none =
          let one : bit true + count_by (λ p. p == 0) ns ≡ 0 =
          sym (count_by-cons (λ p. p == 0) 0 ns) ∙ none in
          absurd (omega (arith, one))
      above_zero (suc n ∷ ns) none =
          let other : (suc n == 0) ≡ false = ne_eqb (suc n) 0 (λ e. absurd (omega (arith, e))) in
          let rest : bit false + count_by (λ p. p == 0) ns ≡ 0 =
          ap (λ (b : Bool). bit b + count_by (λ p. p == 0) ns) (sym other)
          ∙ sym (count_by-cons (λ p. p == 0) (suc n) ns) ∙ none in
          (omega arith, above_zero ns (omega (arith, rest)))

-- the list has its first entry
length_first : (list : List Entry) (boot : Entry) → slice_get list 0 ≡ Some boot
    → (n : ℕ) × ((length list ≡ 1 + n) × IsPrefix (boot ∷ []) list)
length_first [] boot at = absurd (none-some boot at)
length_first (x ∷ list) boot at =
    let is : boot ≡ x = sym (same_Some x boot at) in (
      length list,
      (omega arith, (list, (λ i. is i ∷ list))),
    )

-- the run with these answers
abbrev as_run : RunValue → List (List Answer) → RunValue
as_run run answers = record run { answers = answers }

-- a run with at most one caller is that of the caller alone
pub alone_is : (t : BufferValue) (run : RunValue) → IsRunOf t run → (cs : List CallerValue)
    → t.callers ≡ cs → length cs ≤ 1 → run ≡ run_alone t cs
alone_is t run is [] none few =
    let answered : AllZip (AreAnswers t run.list) [] run.answers =
    subst (λ (l : List CallerValue). AllZip (AreAnswers t run.list) l run.answers) none
    is.answered in
    let empty : run.answers ≡ [] = no_answers run.answers answered in
    let list : run.list ≡ boot_entry t.hash ∷ [] =
    no_caller run.list run.answers (boot_entry t.hash) is.boot empty is.once in
    let banks : run.banks ≡ banks_of (boot_entry t.hash ∷ []) =
    is.banks ∙ ap banks_of list in
    λ i. record { list = list i; banks = banks i; answers = empty i }
  where
    no_answers : (answers : List (List Answer)) → AllZip (AreAnswers t run.list) [] answers
        → answers ≡ []
    no_answers [] h = refl
    no_answers (a ∷ answers) h = absurd h
alone_is t run is (c ∷ d ∷ cs) one few = absurd (omega (arith, few))
alone_is t run is (c ∷ []) one few =
    by_answers run.answers
    (subst (λ (l : List CallerValue). AllZip (AreAnswers t run.list) l run.answers) one
    is.answered) is.rise is.once
  where
    by_answers : (answers : List (List Answer)) → AllZip (AreAnswers t run.list) (c ∷ []) answers
        → AllByRecursion Rises answers
        → ((place : ℕ) → place < length run.list
        → count_by (λ p. p == place) (flat_map added_in answers) ≡ cond (place == 0) 0 1)
        → as_run run answers ≡ run_alone t (c ∷ [])
    by_answers [] h r once = absurd h
    by_answers (a ∷ b ∷ more) h r once = absurd h.1
    by_answers (a ∷ []) h r once =
        let o = wanted t.rules c.cred in
        let first = length_first run.list (boot_entry t.hash) is.boot in
        let ups : added_in a ≡ up 1 first.0 =
        alone_up run.list a first.0 first.1.0 r.0
        (added_within t.hash run.list o c.lines a h.0) once in
        let whole : outcome_alone t c ≡ (run.list, a) =
        walk t.hash o run.list c.lines a first.0 (boot_entry t.hash ∷ []) [] is.distinct first.1.1
        h.0 r.0 ups (sym first.1.0) in
        let list : run.list ≡ (outcome_alone t c).0 =
        ap (λ (s : Outcome). s.0) (sym whole) in
        let answer : a ≡ (outcome_alone t c).1 = ap (λ (s : Outcome). s.1) (sym whole) in
        let banks : run.banks ≡ banks_of (outcome_alone t c).0 = is.banks ∙ ap banks_of list in
        λ i. record { list = list i; banks = banks i; answers = answer i ∷ [] }

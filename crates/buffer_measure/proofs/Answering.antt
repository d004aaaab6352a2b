-- The answers of a caller, after one more buffer.
use Rattle.std.proofs.Common.{◌≡◌, ℕ, ◌+◌, ◌<◌, ◌≤◌, List, [], ◌∷◌, ◌++◌, length, map, take, get_or, Option, Some, None, refl, sym, ap, subst, ◌∙◌, arith, length-append}
use Rattle.std.specs.Prelude.{slice_get}
use Rattle.std.specs.List.{AllByRecursion, enumerate_from, flat_map}
use Rattle.std.proofs.lemmas.List.{append-nil, map-append, take_all, take_more}
use Rattle.std.proofs.lemmas.List.Concat.{flat_map-append}
use Rattle.std.proofs.lemmas.List.FromFn.{get_or-enumerate_from, length-enumerate_from}
use Rattle.std.proofs.lemmas.List.Quantifiers.{position-Some}
use mathlib.Core.List.{IsPrefix}
use Rattle.report_text.specs.model.growing.Shown.{ListName, Passed, fresh}
use Rattle.report_text.proofs.about_growing.Own.{slice_get-push}
use Rattle.report_text.proofs.about_growing.Prefixes.{prefix_append, prefix_get, prefix_length, prefix_refl, prefix_trans}
use Rattle.script_text.specs.steps.hashes.declared.algo.Algo.{Algo}
use Rattle.script_text.specs.steps.templates.Same.{add_by, gained, place_of_same, placed_by, same}
use Rattle.script_text.specs.steps.templates.declared.entry.Entry.{Entry}
use Rattle.script_text.proofs.Lasts.{each_weaker}
use Rattle.buffer_measure.specs.Answers.{IsAnswer, Rises, added, added_in, answer_of, named, named_in}
use Rattle.buffer_entries.specs.Entries.{entry_for}
use Rattle.buffer_text.specs.Text.{Buffer}
use Rattle.buffer_measure.specs.Answered.{HaveAnswers, IsAdded, IsAnswered}
use Rattle.buffer_measure.specs.declared.answer.Answer.{Answer}
use Rattle.buffer_measure.specs.declared.answer.Answer.TheVariants.{Skipped, Added, Already}
use Rattle.buffer_measure.proofs.Lists.{each_both, each_join, each_left, each_right, position_longer, zip_push, zip_weaker}

-- the first entry that is the same is the first in a longer list
first_longer : (xs ys : List Entry) (e : Entry) (k : ℕ) → IsPrefix xs ys
    → place_of_same xs e ≡ Some k → place_of_same ys e ≡ Some k
first_longer xs ys e k a h =
    subst (λ (l : List Entry). place_of_same l e ≡ Some k) a.1
    (position_longer (λ (y : Entry). same y e) xs a.0 k e h)

-- an answer by a list is one by each longer list
pub answer_longer : (hash : Algo) (xs ys : List Entry) (o : Option ℕ) (line : Buffer) (a : Answer)
    → IsPrefix xs ys → IsAnswer hash xs o line a → IsAnswer hash ys o line a
answer_longer hash xs ys None line Skipped pre h = tt
answer_longer hash xs ys None line (Added p) pre h = absurd h
answer_longer hash xs ys None line (Already p) pre h = absurd h
answer_longer hash xs ys (Some pcr) line Skipped pre h = absurd h
answer_longer hash xs ys (Some pcr) line (Added p) pre h =
    prefix_get xs ys p (entry_for hash pcr line) pre h
answer_longer hash xs ys (Some pcr) line (Already p) pre h =
    first_longer xs ys (entry_for hash pcr line) p pre h

-- ---- the places of one more answer

push_in : (f : Answer → List ℕ) (xs : List Answer) (a : Answer)
    → flat_map f (xs ++ a ∷ []) ≡ flat_map f xs ++ f a
push_in f xs a = flat_map-append f xs (a ∷ [])
    ∙ ap (λ (ns : List ℕ). flat_map f xs ++ ns) (append-nil (f a))

-- no answer follows a last one
last_rises : (a : Answer) → Rises (a ∷ [])
last_rises Skipped = (tt, tt)
last_rises (Added p) = ((tt, tt), tt)
last_rises (Already p) = ((tt, tt), tt)

-- the answers rise with one more at the end, if its place is above all that they name
rises_push : (xs : List Answer) (a : Answer) → Rises xs
    → AllByRecursion (λ low. AllByRecursion (λ high. low < high) (added a)) (named_in xs)
    → Rises (xs ++ a ∷ [])
rises_push [] a r above = last_rises a
rises_push (x ∷ xs) a r above = (
  each_both (λ (low : ℕ). AllByRecursion (λ high. low < high) (added_in xs))
      (λ (low : ℕ). AllByRecursion (λ high. low < high) (added a))
      (λ (low : ℕ). AllByRecursion (λ high. low < high) (added_in (xs ++ a ∷ [])))
      (λ low p q. subst (λ (ns : List ℕ). AllByRecursion (λ high. low < high) ns)
      (sym (push_in added xs a)) (each_join (λ high. low < high) (added_in xs) (added a) p q))
      (named x) r.0
      (each_left (λ (low : ℕ). AllByRecursion (λ high. low < high) (added a)) (named x)
      (named_in xs) above),
  rises_push xs a r.1
      (each_right (λ (low : ℕ). AllByRecursion (λ high. low < high) (added a)) (named x)
      (named_in xs) above),
)

-- ---- one more answer

-- a fresh pass has no answers
pub answered_none : (hash : Algo) (o : Option ℕ) (name : ListName) (n : ℕ)
    → HaveAnswers hash o [] (fresh name n) []
answered_none hash o name n = record { each = tt; rise = tt; below = tt; mine = refl }

-- one more answer, by a list that is at least as long, whose place is above what was seen
answered_with : (hash : Algo) (o : Option ℕ) (lines : List Buffer) (p q : Passed Entry)
    (answers : List Answer) (line : Buffer) (a : Answer) → HaveAnswers hash o lines p answers
    → IsPrefix p.seen q.seen → IsAnswer hash q.seen o line a
    → AllByRecursion (λ place. length p.seen ≤ place) (added a)
    → AllByRecursion (λ place. place < length q.seen) (named a)
    → map (λ (x : ℕ × Entry). x.0) q.mine ≡ map (λ (x : ℕ × Entry). x.0) p.mine ++ added a
    → HaveAnswers hash o (lines ++ line ∷ []) q (answers ++ a ∷ [])
answered_with hash o lines p q answers line a t longer new above inside mine = record {
  each = zip_push (IsAnswer hash q.seen o) lines answers line a
      (zip_weaker (IsAnswer hash p.seen o) (IsAnswer hash q.seen o)
      (λ l b h. answer_longer hash p.seen q.seen o l b longer h) lines answers t.each) new;
  rise = rises_push answers a t.rise
      (each_weaker (λ (low : ℕ). low < length p.seen)
      (λ (low : ℕ). AllByRecursion (λ high. low < high) (added a))
      (λ low seen. each_weaker (λ (high : ℕ). length p.seen ≤ high) (λ (high : ℕ). low < high)
      (λ high le. omega (arith, le, seen)) (added a) above)
      (named_in answers) t.below);
  below = subst (AllByRecursion (λ (place : ℕ). place < length q.seen))
      (sym (push_in named answers a))
      (each_join (λ (place : ℕ). place < length q.seen) (named_in answers) (named a)
      (each_weaker (λ (place : ℕ). place < length p.seen) (λ (place : ℕ). place < length q.seen)
      (λ place seen. omega (arith, prefix_length p.seen q.seen longer, seen)) (named_in answers)
      t.below) inside);
  mine = mine ∙ ap (λ (ns : List ℕ). ns ++ added a) t.mine ∙ sym (push_in added answers a);
}

-- one more answer by a step on the list: the entry is found in it, or added to it
answered_found : (hash : Algo) (pcr : ℕ) (lines : List Buffer) (p q : Passed Entry)
    (answers : List Answer) (line : Buffer) (a : Answer)
    → HaveAnswers hash (Some pcr) lines p answers
    → (w : IsAdded p q (entry_for hash pcr line) a) (found : Option ℕ)
    → place_of_same w.list (entry_for hash pcr line) ≡ found
    → HaveAnswers hash (Some pcr) (lines ++ line ∷ []) q (answers ++ a ∷ [])
answered_found hash pcr lines p q answers line a t w (Some k) is =
    let e = entry_for hash pcr line in
    let answer : a ≡ Already k =
    w.answer ∙ ap (λ (f : Option ℕ). answer_of (placed_by f (length w.list))) is in
    let seen : q.seen ≡ w.list = w.seen ∙ ap (λ (f : Option ℕ). add_by f w.list e) is in
    let mine : q.mine ≡ p.mine ++ [] =
    w.mine ∙ ap (λ (f : Option ℕ). p.mine ++ gained (placed_by f (length w.list)) e) is in
    let within : k < length w.list = (position-Some (λ (y : Entry). same y e) w.list k e is).0 in
    subst (λ (b : Answer). HaveAnswers hash (Some pcr) (lines ++ line ∷ []) q (answers ++ b ∷ []))
    (sym answer)
    (answered_with hash (Some pcr) lines p q answers line (Already k) t
    (subst (λ (l : List Entry). IsPrefix p.seen l) (sym seen) w.before)
    (ap (λ (l : List Entry). place_of_same l e) seen ∙ is) tt
    (omega (arith, within, ap length seen), tt)
    (ap (map (λ (x : ℕ × Entry). x.0)) mine
    ∙ map-append (λ (x : ℕ × Entry). x.0) p.mine []))
answered_found hash pcr lines p q answers line a t w None is =
    let e = entry_for hash pcr line in
    let n = length w.list in
    let answer : a ≡ Added n =
    w.answer ∙ ap (λ (f : Option ℕ). answer_of (placed_by f n)) is in
    let seen : q.seen ≡ w.list ++ e ∷ [] =
    w.seen ∙ ap (λ (f : Option ℕ). add_by f w.list e) is in
    let mine : q.mine ≡ p.mine ++ (n, e) ∷ [] =
    w.mine ∙ ap (λ (f : Option ℕ). p.mine ++ gained (placed_by f n) e) is in
    subst (λ (b : Answer). HaveAnswers hash (Some pcr) (lines ++ line ∷ []) q (answers ++ b ∷ []))
    (sym answer)
    (answered_with hash (Some pcr) lines p q answers line (Added n) t
    (subst (λ (l : List Entry). IsPrefix p.seen l) (sym seen)
    (prefix_trans p.seen w.list (w.list ++ e ∷ []) w.before (prefix_append w.list (e ∷ []))))
    (ap (λ (l : List Entry). slice_get l n) seen ∙ slice_get-push w.list e)
    (prefix_length p.seen w.list w.before, tt)
    (omega (arith, ap length seen, length-append w.list (e ∷ [])), tt)
    (ap (map (λ (x : ℕ × Entry). x.0)) mine
    ∙ map-append (λ (x : ℕ × Entry). x.0) p.mine ((n, e) ∷ [])))

-- one more buffer and its answer
answered_next : (hash : Algo) (o : Option ℕ) (lines : List Buffer) (p q : Passed Entry)
    (answers : List Answer) (line : Buffer) (a : Answer) → HaveAnswers hash o lines p answers
    → IsAnswered hash o line p q a
    → HaveAnswers hash o (lines ++ line ∷ []) q (answers ++ a ∷ [])
answered_next hash None lines p q answers line a t h =
    subst (λ (r : Passed Entry). HaveAnswers hash None (lines ++ line ∷ []) r (answers ++ a ∷ []))
    (sym h.1)
    (subst (λ (b : Answer). HaveAnswers hash None (lines ++ line ∷ []) p (answers ++ b ∷ []))
    (sym h.0)
    (answered_with hash None lines p p answers line Skipped t (prefix_refl p.seen) tt tt tt
    (sym (append-nil (map (λ (x : ℕ × Entry). x.0) p.mine)))))
answered_next hash (Some pcr) lines p q answers line a t h =
    answered_found hash pcr lines p q answers line a t h
    (place_of_same h.list (entry_for hash pcr line)) refl

-- the buffer of an iteration over numbered buffers, and its number
pub numbered : (lines : List Buffer) (n k : ℕ) (line : Buffer)
    → (n < length (enumerate_from 0 lines))
    × ((k, line) ≡ get_or (enumerate_from 0 lines) n (k, line))
    → (k ≡ n) × (n < length lines) × (line ≡ get_or lines n line)
numbered lines n k line h =
    let below : n < length lines = omega (arith, h.0, length-enumerate_from 0 lines) in
    let is : (k, line) ≡ (0 + n, get_or lines n line) =
    h.1 ∙ get_or-enumerate_from 0 lines n (k, line) below in (
      omega (arith, ap (λ (p : ℕ × Buffer). p.0) is),
      below,
      ap (λ (p : ℕ × Buffer). p.1) is,
    )

-- the buffers below k + 1 have their answers, after the buffer k has its own
pub answered_step : (hash : Algo) (o : Option ℕ) (lines : List Buffer) (k : ℕ) (p q : Passed Entry)
    (answers more : List Answer) (line : Buffer) (a : Answer) → k < length lines
    → line ≡ get_or lines k line → HaveAnswers hash o (take k lines) p answers
    → IsAnswered hash o line p q a → more ≡ answers ++ a ∷ []
    → HaveAnswers hash o (take (k + 1) lines) q more
answered_step hash o lines k p q answers more line a below is t h e =
    let front : take (k + 1) lines ≡ take k lines ++ line ∷ [] =
    take_more lines k line below ∙ ap (λ (l : Buffer). take k lines ++ l ∷ []) (sym is) in
    subst (λ (ls : List Buffer). HaveAnswers hash o ls q more) (sym front)
    (subst (λ (bs : List Answer). HaveAnswers hash o (take k lines ++ line ∷ []) q bs) (sym e)
    (answered_next hash o (take k lines) p q answers line a t h))

-- all buffers have their answers once as many of them have as there are
pub answered_whole : (hash : Algo) (o : Option ℕ) (lines : List Buffer) (n : ℕ) (p : Passed Entry)
    (answers : List Answer) → length lines ≤ n → HaveAnswers hash o (take n lines) p answers
    → HaveAnswers hash o lines p answers
answered_whole hash o lines n p answers long t =
    subst (λ (ls : List Buffer). HaveAnswers hash o ls p answers) (take_all n lines long) t

-- The outcome of a run, from the callers that have run and the closed list.
use Rattle.std.proofs.Common.{◌≡◌, ℕ, zero, suc, ◌+◌, ◌<◌, ◌==◌, Bool, ◌||◌, cond, List, [], ◌∷◌, length, map, Option, Some, None, IfSome, refl, sym, ap, subst, ◌∙◌, arith}
use Rattle.std.specs.Prelude.{All, count_by, slice_get}
use Rattle.std.specs.List.{AllZip, flat_map, list_any}
use Rattle.std.proofs.lemmas.List.{length-map}
use Rattle.std.proofs.lemmas.List.Sums.{sum_by-append}
use Rattle.std.proofs.lemmas.Option.{get_or_from_slice_get, same_Some, slice_get_within}
use mathlib.Core.List.{IsPrefix}
use Rattle.report_text.specs.model.growing.Entries.{has_place}
use Rattle.report_text.specs.model.growing.Others.{HasOthers, beside_own}
use Rattle.report_text.specs.model.growing.Shown.{Grown, Passed}
use Rattle.report_text.proofs.about_growing.Others.{bit, count_by-cons, others_in_order}
use Rattle.script_text.specs.steps.hashes.declared.algo.Algo.{Algo}
use Rattle.measure_book.specs.registers.declared.banks.Banks.{Banks}
use Rattle.measure_book.specs.Replay.{banks_of}
use Rattle.script_text.specs.steps.templates.Same.{IsDistinct}
use Rattle.script_text.specs.steps.templates.declared.entry.Entry.{Entry}
use Rattle.buffer_measure.specs.Answers.{IsAnswer, Rises, added_in}
use Rattle.buffer_measure.specs.Workers.{AreDone, Constants, IsBookOf, IsDone, answers_in, pass_of}
use Rattle.buffer_measure.specs.Run.{AreAnswers, IsRunOf}
use Rattle.buffer_text.specs.Text.{Buffer, CallerValue}
use Rattle.buffer_measure.specs.Answered.{HaveAnswers}
use Rattle.buffer_entries.specs.Wanted.{wanted}
use Rattle.buffer_measure.specs.declared.answer.Answer.{Answer}
use Rattle.buffer_measure.specs.declared.answer.Answer.TheVariants.{Skipped, Added, Already}
use Rattle.buffer_measure.specs.declared.workers.Worker.{Worker}
use Rattle.buffer_measure.proofs.Lists.{Rising, all_at, all_by_get, each_by_get, mapped, mapped_at, once_in, zip_by_get, zip_weaker}
use Rattle.buffer_measure.proofs.Answering.{answer_longer}

-- ---- the callers that have run

-- the worker at this place has run
done_at : (k : Constants) (workers : List Worker) (i : ℕ) (w : Worker) → AreDone k workers
    → slice_get workers i ≡ Some w → IsDone k i w
done_at k workers i w done at =
    subst (IsDone k i) (get_or_from_slice_get workers i w w at)
    (done.each i w (slice_get_within workers i w at))

-- the passes of the callers are all passes of the list except its own
pub others_done : (k : Constants) (book : Grown Entry) (workers : List Worker)
    (passes : List (Passed Entry)) → IsBookOf k book → AreDone k workers
    → passes ≡ map pass_of workers → HasOthers book passes
others_done k book workers passes is done are =
    let even : length passes ≡ length workers = ap length are ∙ length-map workers pass_of in
    let from : (i : ℕ) (p : Passed Entry) → slice_get passes i ≡ Some p
    → (w : Worker) × ((slice_get workers i ≡ Some w) × (w.pass ≡ p)) =
    λ i p at. mapped_at pass_of workers i p
    (ap (λ (ps : List (Passed Entry)). slice_get ps i) (sym are) ∙ at) in
    others_in_order book passes (omega (arith, even, done.even, is.callers))
    (all_by_get (λ (p : Passed Entry). p.name ≡ book.name) passes
    (λ i p at. ap (λ (q : Passed Entry). q.name) (sym (from i p at).1.1)
    ∙ (done_at k workers i (from i p at).0 done (from i p at).1.0).name ∙ sym is.name))
    (λ i p at. ap (λ (q : Passed Entry). q.number) (sym (from i p at).1.1)
    ∙ (done_at k workers i (from i p at).0 done (from i p at).1.0).number)

-- a property that holds if there is a value holds of the value
there : {A : Type 0} (P : A → Type 0) (o : Option A) (x : A) → IfSome o P → o ≡ Some x → P x
there P None x h e = absurd (cc e)
there P (Some y) x h e = subst P (same_Some y x e) h

-- the pass of a caller that has answers, and what is known of them
record Found (k : Constants) (passes : List (Passed Entry)) (i : ℕ) (c : CallerValue)
    (answers : List Answer) : Type 0 where
  pass : Passed Entry
  at : slice_get passes i ≡ Some pass
  answered : HaveAnswers k.text.hash (wanted k.text.rules c.cred) c.lines pass answers

-- the answers at each place are those of the caller and the pass there
found : (k : Constants) (workers : List Worker) (passes : List (Passed Entry))
    (answers : List (List Answer)) → AreDone k workers → passes ≡ map pass_of workers
    → map (λ a. Some a) answers ≡ map answers_in workers
    → (i : ℕ) (c : CallerValue) (a : List Answer) → slice_get k.text.callers i ≡ Some c
    → slice_get answers i ≡ Some a → Found k passes i c a
found k workers passes answers done are answered i c a at_c at_a =
    let w = mapped_at answers_in workers i (Some a)
    (ap (λ (l : List (Option (List Answer))). slice_get l i) (sym answered)
    ∙ mapped (λ (b : List Answer). Some b) answers i a at_a) in
    let is : IsDone k i w.0 = done_at k workers i w.0 done w.1.0 in
    record {
      pass = w.0.pass;
      at = ap (λ (ps : List (Passed Entry)). slice_get ps i) are
          ∙ mapped pass_of workers i w.0 w.1.0;
      answered = there (HaveAnswers k.text.hash (wanted k.text.rules c.cred) c.lines w.0.pass)
          w.0.answers a (is.answered c at_c) w.1.1;
    }

-- ---- each place is added once

-- the places of the answers rise
pub rising : (answers : List Answer) → Rises answers → Rising (added_in answers)
rising [] r = tt
rising (Skipped ∷ later) r = rising later r.1
rising (Added p ∷ later) r = (r.0.0, rising later r.1)
rising (Already p ∷ later) r = rising later r.1

-- whether a place is among the entries of a pass
has_any : (place : ℕ) (mine : List (ℕ × Entry))
    → list_any (λ p. p == place) (map (λ (x : ℕ × Entry). x.0) mine) ≡ has_place place mine
has_any place [] = refl
has_any place (x ∷ xs) = ap (λ (b : Bool). (x.0 == place) || b) (has_any place xs)

-- a place is added by the answers if it is one of the pass, and then once
abbrev Counts : ℕ → Passed Entry → List Answer → Type 0
Counts place p answers =
    count_by (λ q. q == place) (added_in answers) ≡ bit (has_place place p.mine)

counts : (place : ℕ) (hash : Algo) (o : Option ℕ) (lines : List Buffer) (p : Passed Entry)
    (answers : List Answer) → HaveAnswers hash o lines p answers → Counts place p answers
counts place hash o lines p answers t =
    once_in place (added_in answers) (rising answers t.rise)
    ∙ ap (λ (ps : List ℕ). bit (list_any (λ q. q == place) ps)) (sym t.mine)
    ∙ ap bit (has_any place p.mine)

-- all answers add a place as often as passes have it
count_all : (place : ℕ) (passes : List (Passed Entry)) (answers : List (List Answer))
    → AllZip (Counts place) passes answers
    → count_by (λ q. q == place) (flat_map added_in answers)
    ≡ count_by (λ p. has_place place p.mine) passes
count_all place [] [] h = refl
count_all place [] (a ∷ answers) h = absurd h
count_all place (p ∷ passes) [] h = absurd h
count_all place (p ∷ passes) (a ∷ answers) h =
    sum_by-append (λ (q : ℕ). cond (q == place) 1 0) (added_in a) (flat_map added_in answers)
    ∙ (λ i. h.0 i + count_all place passes answers h.1 i)
    ∙ sym (count_by-cons (λ (q : Passed Entry). has_place place q.mine) p passes)

-- ---- the run

-- the closed list, its registers and the answers are a run of the text
pub run_is : (k : Constants) (book : Grown Entry) (workers : List Worker)
    (passes : List (Passed Entry)) (answers : List (List Answer)) (list : List Entry)
    (banks : Banks)
    → IsBookOf k book → AreDone k workers → passes ≡ map pass_of workers
    → map (λ a. Some a) answers ≡ map answers_in workers
    → list ≡ book.list → banks ≡ banks_of book.list
    → All (λ p. IsPrefix p.seen book.list) passes
    → ((place : ℕ) → place < length book.list
    → count_by (λ p. has_place place p.mine) passes ≡ beside_own place)
    → IsDistinct book.list
    → IsRunOf k.text (record { list = list; banks = banks; answers = answers })
run_is k book workers passes answers list banks is done are answered same replayed seen places
    distinct =
    let t = k.text in
    let count_passes : length passes ≡ length workers =
    ap length are ∙ length-map workers pass_of in
    let count_answers : length answers ≡ length workers =
    sym (length-map answers (λ (a : List Answer). Some a))
    ∙ ap (λ (l : List (Option (List Answer))). length l) answered
    ∙ length-map workers answers_in in
    let caller_at : (i : ℕ) (a : List Answer) → slice_get answers i ≡ Some a
    → (c : CallerValue) × (slice_get t.callers i ≡ Some c) =
    λ i a at.
    let below : i < length t.callers =
    omega (arith, slice_get_within answers i a at, count_answers, done.even) in
    caller_there t.callers i below in
    let by_place : (i : ℕ) (c : CallerValue) (a : List Answer) → slice_get t.callers i ≡ Some c
    → slice_get answers i ≡ Some a → Found k passes i c a =
    found k workers passes answers done are answered in
    record {
      boot = ap (λ (l : List Entry). slice_get l 0) same ∙ is.boot;
      answered = zip_by_get (AreAnswers t list) t.callers answers
          (omega (arith, count_answers, done.even))
          (λ i c a at_c at_a.
          let f = by_place i c a at_c at_a in
          let whole : IsPrefix f.pass.seen list =
          subst (λ (l : List Entry). IsPrefix f.pass.seen l) (sym same)
          (all_at (λ (p : Passed Entry). IsPrefix p.seen book.list) passes i f.pass seen f.at) in
          zip_weaker (IsAnswer t.hash f.pass.seen (wanted t.rules c.cred))
          (IsAnswer t.hash list (wanted t.rules c.cred))
          (λ line b h. answer_longer t.hash f.pass.seen list (wanted t.rules c.cred) line b whole
          h) c.lines a f.answered.each);
      once = λ place below.
          count_all place passes answers
          (zip_by_get (Counts place) passes answers (omega (arith, count_passes, count_answers))
          (λ i p a at_p at_a.
          let c = caller_at i a at_a in
          let f = by_place i c.0 a c.1 at_a in
          let one : f.pass ≡ p = same_Some f.pass p (sym f.at ∙ at_p) in
          subst (λ (q : Passed Entry). Counts place q a) one
          (counts place t.hash (wanted t.rules c.0.cred) c.0.lines f.pass a f.answered)))
          ∙ places place (subst (λ (l : List Entry). place < length l) same below);
      rise = each_by_get Rises answers
          (λ i a at.
          let c = caller_at i a at in
          (by_place i c.0 a c.1 at).answered.rise);
      distinct = subst IsDistinct (sym same) distinct;
      banks = replayed ∙ ap banks_of (sym same);
    } where
      caller_there : (cs : List CallerValue) (i : ℕ) → i < length cs
          → (c : CallerValue) × (slice_get cs i ≡ Some c)
      caller_there [] i below = absurd (omega (arith, below))
      caller_there (c ∷ cs) zero below = (c, refl)
      caller_there (c ∷ cs) (suc i) below = caller_there cs i (omega (arith, below))

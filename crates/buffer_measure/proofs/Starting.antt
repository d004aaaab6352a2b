-- The callers before they run, and the book under its lock.
use Rattle.std.proofs.Common.{◌≡◌, ℕ, ◌+◌, ◌<◌, List, [], ◌∷◌, ◌++◌, length, map, get_or, Option, Some, None, sym, ap, ◌∙◌, arith}
use Rattle.std.specs.Prelude.{slice_get}
use Rattle.std.proofs.lemmas.List.{length-map}
use Rattle.std.proofs.lemmas.Option.{same_Some, slice_get-get_or}
use Rattle.report_text.specs.model.growing.Shown.{Grown, IsSameList, ListName, Passed, fresh}
use Rattle.report_text.proofs.about_growing.Prefixes.{prefix_append, prefix_get}
use mathlib.Core.List.{IsPrefix}
use Rattle.script_text.specs.steps.hashes.declared.algo.Algo.{Algo}
use Rattle.script_text.specs.steps.templates.Same.{add, add_by, gained, place_of_same, placed}
use Rattle.script_text.specs.steps.templates.declared.entry.Entry.{Entry}
use Rattle.script_text.specs.steps.templates.declared.entry.Placed.{Placed}
use Rattle.buffer_measure.specs.Answers.{answer_of}
use Rattle.buffer_entries.specs.Entries.{boot_entry}
use Rattle.buffer_measure.specs.Workers.{AreReady, Constants, HasStarted, IsBookOf, caller_of, pass_of}
use Rattle.buffer_text.specs.Text.{CallerValue}
use Rattle.buffer_measure.specs.Answered.{IsAdded}
use Rattle.buffer_measure.specs.declared.answer.Answer.{Answer}
use Rattle.buffer_measure.specs.declared.workers.Worker.{Worker}
use Rattle.buffer_measure.proofs.Lists.{mapped}

-- ---- the book

-- the book belongs to the same constants after room was made in it
pub book_same : (k : Constants) (old new : Grown Entry) → IsSameList old new → IsBookOf k old
    → IsBookOf k new
book_same k old new same is = record {
  name = same.name ∙ is.name;
  callers = same.callers ∙ is.callers;
  boot = ap (λ (l : List Entry). slice_get l 0) same.list ∙ is.boot;
}

-- the first entry stays after one more is added or found
first_stays : (list : List Entry) (e boot : Entry) (found : Option ℕ)
    → slice_get list 0 ≡ Some boot → slice_get (add_by found list e) 0 ≡ Some boot
first_stays list e boot (Some place) is = is
first_stays list e boot None is =
    prefix_get list (list ++ e ∷ []) 0 boot (prefix_append list (e ∷ [])) is

-- the book belongs to the same constants after one more entry is added or found
pub book_added : (k : Constants) (old new : Grown Entry) (e : Entry) → new.name ≡ old.name
    → new.callers ≡ old.callers → new.list ≡ add old.list e → IsBookOf k old → IsBookOf k new
book_added k old new e name callers list is = record {
  name = name ∙ is.name;
  callers = callers ∙ is.callers;
  boot = ap (λ (l : List Entry). slice_get l 0) list
      ∙ first_stays old.list e (boot_entry k.text.hash) (place_of_same old.list e) is.boot;
}

-- what an add to the book says of the pass and the answer
pub added_is : (book new : Grown Entry) (p q : Passed Entry) (e : Entry) (r : Placed) (a : Answer)
    → a ≡ answer_of r → r ≡ placed book.list e → IsPrefix p.seen book.list
    → new.list ≡ add book.list e → q.seen ≡ new.list → q.mine ≡ p.mine ++ gained r e
    → IsAdded p q e a
added_is book new p q e r a answered is before list seen mine = record {
  list = book.list;
  before = before;
  answer = answered ∙ ap answer_of is;
  seen = seen ∙ list;
  mine = mine ∙ ap (λ (s : Placed). p.mine ++ gained s e) is;
}

-- ---- the callers

-- the workers of fresh passes have them, in the order of their numbers
pub ready_at : (name : ListName) (workers : List Worker) (passes : List (Passed Entry))
    → map pass_of workers ≡ passes
    → ((k : ℕ) → k < length passes → slice_get passes k ≡ Some (fresh name (k + 1)))
    → (i : ℕ) (d : Worker) → i < length workers
    → (get_or workers i d).pass ≡ fresh name (i + 1)
ready_at name workers passes are each i d below =
    let even : length passes ≡ length workers =
    ap length (sym are) ∙ length-map workers pass_of in
    let there : slice_get passes i ≡ Some (get_or workers i d).pass =
    ap (λ (ps : List (Passed Entry)). slice_get ps i) (sym are)
    ∙ mapped pass_of workers i (get_or workers i d) (slice_get-get_or workers i d below) in
    same_Some (get_or workers i d).pass (fresh name (i + 1))
    (sym there ∙ each i (omega (arith, even, below)))

-- the list and the workers at the start
pub started : (algo : Algo) (callers : List CallerValue) (book : Grown Entry) (count n : ℕ)
    (boot : Entry) (workers : List Worker) (passes : List (Passed Entry))
    → count ≡ length callers → n ≡ count + 1 → boot ≡ boot_entry algo → book.list ≡ boot ∷ []
    → book.callers ≡ n → map caller_of workers ≡ callers → map pass_of workers ≡ passes
    → ((k : ℕ) → k < length passes → slice_get passes k ≡ Some (fresh book.name (k + 1)))
    → HasStarted algo callers book workers
started algo callers book count n boot workers passes counted more boot_is list all own are each =
    record {
      list = ap (λ (l : List Entry). slice_get l 0) list ∙ ap (λ (e : Entry). Some e) boot_is;
      count = omega (arith, all, more, counted);
      callers_are = own;
      passes = ready_at book.name workers passes are each;
    }

-- the callers of the list are ready at the start
pub ready_all : (k : Constants) (algo : Algo) (callers : List CallerValue) (book : Grown Entry)
    (workers : List Worker) → HasStarted algo callers book workers → k.name ≡ book.name
    → k.text.callers ≡ map caller_of workers → AreReady k workers
ready_all k algo callers book workers h name own = record {
  even = sym (ap length own ∙ length-map workers caller_of);
  each = λ i d below. record {
    caller = ap (λ (cs : List CallerValue). slice_get cs i) own
        ∙ mapped caller_of workers i (get_or workers i d) (slice_get-get_or workers i d below);
    pass = h.passes i d below ∙ ap (λ (n : ListName). fresh n (i + 1)) (sym name);
  };
}

use Rattle.std.proofs.Common.{ℕ, ◌+◌, List, Option, ◌++◌, append-nil, append_assoc, drop, ap, sym, ◌∙◌, arith}
use Rattle.std.proofs.lemmas.List.{at_drop_all}
use Rattle.view_page.specs.journals.reading.Report.{InodeValue}
use Rattle.view_sentences.specs.Alike.{parted}
use Rattle.view_pages.specs.Pair.{number_by, numbers_from, room_after}
use Rattle.view_pages.proofs.PairsSteps.{numbers_here}
use Rattle.view_pages.proofs.chosen.numbers_of.Goals as goal

pub loop-number-preserved : goal.loop-number-preserved
loop-number-preserved c =
    let text : List ℕ = c.args.text.now in
    let i : ℕ = c.loop-number.number in
    let room : ℕ = c.loop-number.room in
    let x : InodeValue = c.index-first-number.result in
    let y : InodeValue = c.index-second-number.result in
    let p : Option ℕ = parted text x.events y.events in
    let rest : ℕ → List ℕ
    = λ r. numbers_from text (i + 1) r (drop (i + 1) c.args.first.now)
    (drop (i + 1) c.args.second.now) in
    ap (λ (r : ℕ). c.push_number.new.numbers.items ++ rest r)
    (c.room_after-room.ensures
    ∙ ap (λ (o : Option ℕ). room_after o room) c.parted_of-parted.ensures)
    ∙ (ap (λ (ns : List ℕ). ns ++ rest (room_after p room))
    (c.in_ok-push_number.ensures
    ∙ ap (λ (o : Option ℕ). c.loop-number.numbers.items ++ number_by o room i)
    c.parted_of-parted.ensures)
    ∙ (append_assoc c.loop-number.numbers.items (number_by p room i) (rest (room_after p room))
    ∙ (ap (λ (ns : List ℕ). c.loop-number.numbers.items ++ ns)
    (sym (numbers_here text i room c.args.first.now c.args.second.now x y
    c.loop-number-test.true (omega arith) c.index-first-number.is c.index-second-number.is))
    ∙ c.loop-number.invariant)))

pub returns : goal.returns
returns c =
    sym (append-nil c.loop-number.numbers.items)
    ∙ (ap (λ (ns : List ℕ). c.loop-number.numbers.items ++ ns)
    (sym (at_drop_all (λ (is : List InodeValue). numbers_from c.args.text.now
    c.loop-number.number c.loop-number.room is (drop c.loop-number.number c.args.second.now))
    c.args.first.now c.loop-number.number (omega arith)))
    ∙ c.loop-number.invariant)

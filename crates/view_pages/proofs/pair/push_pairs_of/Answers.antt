use Rattle.std.proofs.Common.{◌≡◌, ℕ, ◌+◌, List, Option, ◌++◌, drop, ap, sym, ◌∙◌, arith}
use Rattle.std.proofs.lemmas.List.{at_drop_all}
use Rattle.view_page.specs.journals.reading.Report.{InodeValue}
use Rattle.view_sentences.specs.Alike.{parted}
use Rattle.view_pages.specs.Pair.{most_pairs, pair_by, pairs_from, room_after}
use Rattle.view_page.specs.Parts.{page_of}
use Rattle.view_page.specs.declared.part.Part.{Part}
use Rattle.view_page.proofs.Joined.{as_parts, going, gone}
use Rattle.view_pages.proofs.PairsSteps.{pairs_here}
use Rattle.view_pages.proofs.pair.push_pairs_of.Goals as goal

pub loop-number-preserved : goal.loop-number-preserved
loop-number-preserved c =
    let text : List ℕ = c.args.text.now in
    let i : ℕ = c.loop-number.number in
    let room : ℕ = c.loop-number.room in
    let x : InodeValue = c.index-first-number.result in
    let y : InodeValue = c.index-second-number.result in
    let p : Option ℕ = parted text x.events y.events in
    let rest : ℕ → List Part
    = λ r. pairs_from text (i + 1) r (drop (i + 1) c.args.first.now)
    (drop (i + 1) c.args.second.now) in
    let same : c.room_after-room.result ≡ room_after p room
    = c.room_after-room.ensures
    ∙ ap (λ (o : Option ℕ). room_after o room) c.parted_of-parted.ensures in
    ap (λ (r : ℕ). c.push_pair_by.new.out.items ++ page_of text (rest r)) same
    ∙ going text _ c.loop-number.out.items c.push_pair_by.new.out.items
    (pair_by text i room p x y) (rest (room_after p room))
    (as_parts c.in_ok-push_pair_by.ensures
    (ap (λ (o : Option ℕ). pair_by text i room o x y) c.parted_of-parted.ensures))
    (ap (λ (ps : List Part). c.loop-number.out.items ++ page_of text ps)
    (sym (pairs_here text i room c.args.first.now c.args.second.now x y c.loop-number-test.true
    (omega arith) c.index-first-number.is c.index-second-number.is))
    ∙ c.loop-number.invariant)

pub returns : goal.returns
returns c =
    gone c.args.text.now c.args.out.now.items c.loop-number.out.items
    (pairs_from c.args.text.now 0 most_pairs c.args.first.now c.args.second.now) _
    (at_drop_all (λ (is : List InodeValue). pairs_from c.args.text.now c.loop-number.number
    c.loop-number.room is (drop c.loop-number.number c.args.second.now)) c.args.first.now
    c.loop-number.number (omega arith))
    c.loop-number.invariant

use Rattle.std.proofs.Common.{◌≡◌, ℕ, ◌+◌, ◌<◌, Bool, false, cond, List, Some, drop, get_or, length, sym, ap, ◌∙◌}
use Rattle.std.specs.Prelude.{slice_get}
use Rattle.std.proofs.lemmas.List.{at_drop_more}
use Rattle.view_page.specs.journals.reading.words.declared.event.Event.{Event}
use Rattle.view_sentences.specs.Alike.{alike_at, parted_from}
use Rattle.view_page.proofs.about_journals.WalkPlaces.{no_event}
use Rattle.view_sentences.proofs.alike.parted.Goals as goal

-- the journals part at a place whose events aren't told alike
parted_here : (text : List ℕ) (mine other : List Event) (place : ℕ) (d : Event)
    → place < length mine
    → alike_at text mine other (get_or mine place d) (slice_get other place) ≡ false
    → parted_from text mine other place (drop place mine) ≡ Some place
parted_here text mine other place d within unlike =
    at_drop_more (parted_from text mine other place) mine place d within
    ∙ ap (λ (b : Bool). cond b
    (parted_from text mine other (place + 1) (drop (place + 1) mine)) (Some place)) unlike

pub returns-then-not-is_alike : goal.returns-then-not-is_alike
returns-then-not-is_alike c =
    sym (parted_here c.args.text.now c.args.mine.now c.args.other.now c.loop-place.place no_event
    c.loop-place-test.true (sym c.is_alike.ensures ∙ c.if-not-is_alike.true))
    ∙ c.loop-place.invariant

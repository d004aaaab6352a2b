use Rattle.std.proofs.Common.{◌≡◌, ℕ, ◌+◌, Bool, true, false, cond, List, [], ◌∷◌, ◌++◌, append_assoc, append-nil, drop, ap, sym, ◌∙◌, arith}
use Rattle.std.proofs.lemmas.List.{at_drop_all, at_drop_more}
use Rattle.view_page.proofs.about_journals.WalkPlaces.{no_event}
use Rattle.view_sentences.specs.Alike.{differing_from}
use Rattle.view_sentences.proofs.alike.differing.Goals as goal

-- the places so far and the others, with one more if it differs
places_more : (b : Bool) (places next rest : List ℕ) (place : ℕ)
    → next ≡ cond b (places ++ place ∷ []) places
    → next ++ rest ≡ places ++ cond b (place ∷ rest) rest
places_more true places next rest place is =
    ap (λ (x : List ℕ). x ++ rest) is ∙ append_assoc places (place ∷ []) rest
places_more false places next rest place is = ap (λ (x : List ℕ). x ++ rest) is

pub loop-place-preserved : goal.loop-place-preserved
loop-place-preserved c =
    let i : ℕ = c.loop-place.place in
    let places : List ℕ = c.loop-place.places.items in
    let from : ℕ → List ℕ
    = λ k. differing_from c.args.text.now c.args.mine.now c.args.other.now c.args.windows.now k
    (drop k c.args.mine.now) in
    places_more c.is_differing-differs.result places c.add_if.new.places.items (from (i + 1)) i
    c.in_ok-add_if.ensures
    ∙ (ap (λ (b : Bool). places ++ cond b (i ∷ from (i + 1)) (from (i + 1)))
    c.is_differing-differs.ensures
    ∙ (ap (λ (x : List ℕ). places ++ x)
    (sym (at_drop_more (differing_from c.args.text.now c.args.mine.now c.args.other.now
    c.args.windows.now i) c.args.mine.now i no_event c.loop-place-test.true))
    ∙ c.loop-place.invariant))

pub returns : goal.returns
returns c =
    let places : List ℕ = c.loop-place.places.items in
    sym (append-nil places)
    ∙ (ap (λ (x : List ℕ). places ++ x)
    (sym (at_drop_all (differing_from c.args.text.now c.args.mine.now c.args.other.now
    c.args.windows.now c.loop-place.place) c.args.mine.now c.loop-place.place (omega arith)))
    ∙ c.loop-place.invariant)

-- The entry at the index has a key, and its link leads to the previous index in that key's bucket.
use Rattle.std.proofs.Common.{◌≡◌, ◌<◌, true, sym, subst, ◌∙◌, arith, length, None}
use Rattle.std.proofs.lemmas.List.{get_or_read}
use Rattle.measure_book.specs.Places.{PlacesValue, last_below, meets}
use Rattle.measure_book.proofs.Tables.{IsTable-before}
use Rattle.measure_book.proofs.places.Places.before.Goals as goal

pub returns : goal.returns
returns c key is =
    let within : c.args.place < length c.self.inside.keys.items =
    subst (λ (v : PlacesValue). c.args.place < length v.keys) (sym c.self.view_is) c.requires in
    subst (λ (v : PlacesValue). c.index.result.now ≡ last_below (meets v key) c.args.place)
    c.self.view_is
    (get_or_read c.self.inside.earlier.items c.args.place c.index.result.now
    (omega (arith, c.self.invariant.even, within)) c.index.ensures None
    ∙ IsTable-before c.self.inside key c.args.place c.self.invariant within
    (subst (λ (v : PlacesValue). meets v key c.args.place ≡ true) (sym c.self.view_is) is))

-- The table after one more key keeps its invariant.
use Rattle.std.proofs.Common.{rules, ◌≡◌, ℕ, ◌+◌, ◌*◌, ◌≤◌, List, ◌∷◌, [], ◌++◌, length, sym, ap, subst, ◌∙◌, Option}
use Rattle.std.proofs.lemmas.List.{with_items_is}
use Rattle.measure_book.specs.Places.{PlacesValue, displaced, linked}
use Rattle.measure_book.proofs.Tables.{IsTable-push, length-linked}
use Rattle.measure_book.proofs.places.Places.push.Goals as goal

pub invariant_of-self : goal.invariant_of-self
invariant_of-self c =
    let before : c.deref_mut.result.now ≡ c.self.inside.newest.items = c.deref_mut.ensures.value in
    let place : c.len-place.result ≡ length c.self.inside.keys.items = search rules in
    let links : c.link-earlier.new.newest
    ≡ linked c.self.inside.newest.items c.args.key (length c.self.inside.keys.items) =
    c.link-earlier.ensures.newest ∙ (λ i. linked (before i) c.args.key (place i)) in
    let count : length c.link-earlier.new.newest ≡ c.self.inside.newest.len =
    ap length links ∙ length-linked c.self.inside.newest.items c.args.key _
    ∙ sym c.self.inside.newest.ok.0 in
    IsTable-push c.self.inside _ c.args.key c.self.invariant
    (subst (λ (v : PlacesValue). 2 * length v.keys + 2 ≤ v.buckets) (sym c.self.view_is) c.requires)
    (with_items_is c.self.inside.newest c.link-earlier.new.newest count ∙ links)
    (search rules)
    (c.push_reserved.ensures.items
    ∙ ap (λ (o : Option ℕ). c.self.inside.earlier.items ++ o ∷ [])
    (c.link-earlier.ensures.earlier
    ∙ ap (λ (l : List (Option ℕ)). displaced l c.args.key) before))
    (search rules) (search rules)

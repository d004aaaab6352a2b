-- The walk visits the bucket of the entry's key, from the last index to the first.
use Rattle.std.proofs.Common.{◌≡◌, ◌<◌, ℕ, suc, false, length, sym, ap, subst, ◌∙◌, arith, Option, None, Some}
use Rattle.std.proofs.lemmas.List.{length-map}
use Rattle.grow_list.specs.Shown.{Grown}
use Rattle.ima_templates.specs.declared.entry.Entry.{Entry}
use Rattle.ima_templates.specs.Same.{place_of_same}
use Rattle.measure_book.specs.Key.{key_of, stands_at}
use Rattle.measure_book.specs.Places.{last_below, meets}
use Rattle.measure_book.proofs.Finding.{IsCandidate, IsCandidate-last_below, last_through, last_through-bucket, last_through-step, place_of_same-keyless, place_of_same-last, stands-meets, steps_left, steps_left-last_below, walk_found}
use Rattle.measure_book.proofs.book.Book.place_of_same.Goals as goal

pub returns-in_err-key : goal.returns-in_err-key
returns-in_err-key c =
    c.from_residual.ensures
    ∙ sym (place_of_same-keyless c.args.self.now.list c.args.e.now
    (sym c.key_of.ensures ∙ c.in_err-key.was))

pub loop-candidate-init : goal.loop-candidate-init
loop-candidate-init c =
    let places = c.self.inside.places in
    let list = c.self.inside.list.list in
    let count : length places.keys
    ≡ length list = ap length c.self.invariant.keys ∙ length-map list key_of in
    let key : key_of c.args.e.now ≡ Some c.in_ok-key.key = sym c.key_of.ensures ∙ c.in_ok-key.was in
    record {
      stands = subst (IsCandidate places c.in_ok-key.key) (sym c.newest-candidate.ensures)
          (IsCandidate-last_below places c.in_ok-key.key (length places.keys) (omega arith));
      walk = ap (last_through (stands_at list c.args.e.now)) c.newest-candidate.ensures
          ∙ last_through-bucket (stands_at list c.args.e.now) (meets places c.in_ok-key.key)
          (length places.keys)
          (stands-meets places list c.args.e.now c.in_ok-key.key c.self.invariant.keys key)
          ∙ ap (last_below (stands_at list c.args.e.now)) count;
    }

pub returns-then-stands_at : goal.returns-then-stands_at
returns-then-stands_at c =
    subst (λ (b : Grown Entry). Some c.in-Some.place ≡ place_of_same b.list c.args.e.now)
    c.self.view_is
    (walk_found c.self.inside.list.list c.args.e.now c.in-Some.place c.self.invariant.distinct
    (ap (last_through (stands_at c.self.inside.list.list c.args.e.now)) (sym c.in-Some.is)
    ∙ c.loop-candidate.invariant.walk)
    (ap (λ (b : Grown Entry). stands_at b.list c.args.e.now c.in-Some.place) c.self.view_is
    ∙ sym c.stands_at.ensures ∙ c.if-stands_at.true))

pub loop-candidate-smaller : goal.loop-candidate-smaller
loop-candidate-smaller c =
    let candidate : IsCandidate c.self.inside.places c.in_ok-key.key (Some c.in-Some.place) =
    subst (IsCandidate c.self.inside.places c.in_ok-key.key) c.in-Some.is
    c.loop-candidate.invariant.stands in
    let next = c.before-candidate.ensures c.in_ok-key.key candidate.1 in
    let fewer : steps_left c.before-candidate.result < suc c.in-Some.place =
    subst (λ (o : Option ℕ). steps_left o < suc c.in-Some.place) (sym next)
    (steps_left-last_below (meets c.self.inside.places c.in_ok-key.key) c.in-Some.place) in
    subst (λ (o : Option ℕ). steps_left c.before-candidate.result < steps_left o) (sym c.in-Some.is)
    fewer

pub loop-candidate-preserved : goal.loop-candidate-preserved
loop-candidate-preserved c =
    let places = c.self.inside.places in
    let list = c.self.inside.list.list in
    let candidate : IsCandidate places c.in_ok-key.key (Some c.in-Some.place) =
    subst (IsCandidate places c.in_ok-key.key) c.in-Some.is c.loop-candidate.invariant.stands in
    let next = c.before-candidate.ensures c.in_ok-key.key candidate.1 in
    let fails : stands_at list c.args.e.now c.in-Some.place ≡ false =
    ap (λ (b : Grown Entry). stands_at b.list c.args.e.now c.in-Some.place) c.self.view_is
    ∙ sym c.stands_at.ensures ∙ c.if-stands_at.false in
    let key : key_of c.args.e.now ≡ Some c.in_ok-key.key = sym c.key_of.ensures ∙ c.in_ok-key.was in
    record {
      stands = subst (IsCandidate places c.in_ok-key.key) (sym next)
          (IsCandidate-last_below places c.in_ok-key.key c.in-Some.place
          (omega (arith, candidate.0)));
      walk = ap (last_through (stands_at list c.args.e.now)) next
          ∙ last_through-step places list c.args.e.now c.in_ok-key.key c.in-Some.place
          c.self.invariant.keys key fails
          ∙ ap (last_through (stands_at list c.args.e.now)) (sym c.in-Some.is)
          ∙ c.loop-candidate.invariant.walk;
    }

pub returns : goal.returns
returns c =
    subst (λ (b : Grown Entry). None ≡ place_of_same b.list c.args.e.now) c.self.view_is
    (ap (last_through (stands_at c.self.inside.list.list c.args.e.now)) (sym c.in_default.is)
    ∙ c.loop-candidate.invariant.walk
    ∙ place_of_same-last c.self.inside.list.list c.args.e.now c.self.invariant.distinct)

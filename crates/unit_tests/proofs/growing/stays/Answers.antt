use Rattle.std.proofs.Common.{◌≡◌, length, Some, sym, ap, ◌∙◌, arith}
use Rattle.std.specs.Prelude.{slice_get}
use Rattle.std.proofs.lemmas.List.Elements.{All-head, All-rest}
use Rattle.grow_list.proofs.Own.{own_stands, own_has, slice_get-push}
use Rattle.unit_tests.proofs.growing.stays.Goals as goal

pub push-place-requires-clause-room : goal.push-place-requires-clause-room
push-place-requires-clause-room g c = omega (arith, c.requires.room)

pub push-place-requires-clause-name : goal.push-place-requires-clause-name
push-place-requires-clause-name g c = c.requires.mine

pub push-requires-clause-room : goal.push-requires-clause-room
push-requires-clause-room g c =
    omega (arith, c.loop-other.invariant.room, c.in-Some.ensures.steps.1)

pub push-requires-clause-name : goal.push-requires-clause-name
push-requires-clause-name g c =
    let old = c.loop-other.invariant in
    All-head (λ t. t.0.name ≡ c.push-place.new.self.name) _ _
    (rw c.in-Some.ensures.steps.0 at old.theirs) ∙ sym old.name

pub loop-other-preserved : goal.loop-other-preserved
loop-other-preserved g c =
    let old = c.loop-other.invariant in
    let step = c.in-Some.ensures.steps in
    record {
      name = c.push.ensures.kept.0 ∙ old.name;
      room = omega (arith, step.1, old.room, c.push.ensures.spare);
      theirs = All-rest (λ t. t.0.name ≡ c.push-place.new.self.name) _ _ _ step.0 old.theirs;
    }

pub look-requires : goal.look-requires
look-requires g c =
    c.push-place.ensures.same_pass.0 ∙ c.requires.mine
    ∙ sym c.push-place.ensures.kept.0 ∙ sym c.loop-other.invariant.name

pub returns-clause-stands : goal.returns-clause-stands
returns-clause-stands g c =
    let mine = c.look.ensures.mine ∙ c.push-place.ensures.mine in
    let place = length c.args.me.now.mine in
    (own_stands c.look.new.self c.look.new.pass c.look.ensures.own place c.push-place.result
    c.args.entry (ap (λ xs. slice_get xs place) mine
    ∙ slice_get-push c.args.me.now.mine (c.push-place.result, c.args.entry))).0

pub returns-clause-alone : goal.returns-clause-alone
returns-clause-alone g c = λ k x entry number.
    let mine = c.look.ensures.mine ∙ c.push-place.ensures.mine in
    let same = c.look.ensures.same_pass.1 ∙ c.push-place.ensures.same_pass.1 in
    let h = own_has c.look.new.self c.look.new.pass c.look.ensures.own k x entry
    (number ∙ ap Some (sym same)) in
    (h.0, ap (λ xs. slice_get xs h.0) (sym mine) ∙ h.1)

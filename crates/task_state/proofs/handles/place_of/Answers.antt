-- The first handle of the name is the one that is left out.
use Rattle.std.proofs.Common.{◌≡◌, ℕ, suc, ◌<◌, Bool, true, cond, List, ◌∷◌, ◌++◌, length, get_or, take, drop, sym, ap, ◌∙◌, drop-cons}
use Rattle.run_model.specs.steps.Handles.{same_name, without}
use Rattle.run_model.specs.steps.declared.held.Handle.{Handle}
use Rattle.run_model.specs.steps.declared.held.Name.{Name}
use Rattle.task_state.proofs.handles.place_of.Goals as goal

-- the handle at this place has the name
without_here : (n : Name) (hs : List Handle) (i : ℕ) (d : Handle) → i < length hs
    → same_name n (get_or hs i d).name ≡ true → without n (drop i hs) ≡ drop (suc i) hs
without_here n hs i d within is =
    ap (without n) (drop-cons hs i d within)
    ∙ ap (λ (b : Bool). cond b (drop (suc i) hs) (get_or hs i d ∷ without n (drop (suc i) hs))) is

pub returns-then-same_name : goal.returns-then-same_name
returns-then-same_name c =
    let within : c.loop-place.place < length c.args.handles.now = c.loop-place-test.true in (
      within,
      c.loop-place.invariant
          ∙ ap (λ (l : List Handle). take c.loop-place.place c.args.handles.now ++ l)
          (without_here c.args.name c.args.handles.now c.loop-place.place _ within
          (sym c.same_name.ensures ∙ c.if-same_name.true)),
    )

-- A turn that doesn't move its task changes nothing.
use Rattle.std.proofs.Common.{◌≡◌, ℕ, false, List, Option, Some, None, refl, ap, sym, ◌∙◌}
use Rattle.std.specs.Prelude.{slice_get, slice_set}
use Rattle.std.proofs.lemmas.List.{set-get_or}
use Rattle.std.proofs.lemmas.Option.{get_or_from_slice_get}
use Rattle.run_model.proofs.Idle.{idle_turn}
use Rattle.report_text.specs.model.History.{Position}
use Rattle.report_text.specs.model.Rounds.{moves, moves_at}
use Rattle.report_text.specs.model.Scene.{Program, Scene}
use Rattle.report_text.specs.model.Turns.{Moment, State, step_task, turn, turned}

-- the item that stands at a place is put there
set_same : (ts : List Position) (n : ℕ) (t : Position) → slice_get ts n ≡ Some t
    → slice_set ts n t ≡ ts
set_same ts n t here =
    ap (slice_set ts n) (sym (get_or_from_slice_get ts n t t here)) ∙ set-get_or ts n t

turned_idle : (scene : Scene) (m : Moment) (n : ℕ) (p : Option Program) (t : Option Position)
    → slice_get m.positions n ≡ t → moves_at scene m n p t ≡ false → turned scene m n p t ≡ m
turned_idle scene m n None t here still = refl
turned_idle scene m n (Some p) None here still = refl
turned_idle scene m n (Some p) (Some t) here still =
    let same = idle_turn scene n p m.state t still in
    ap (λ (s : State). record {
      state = s;
      positions = slice_set m.positions n
          (step_task scene n p m.state t).position;
    }) same.0
    ∙ ap (λ (ts : List Position). record m { positions = ts })
    (ap (slice_set m.positions n) same.1 ∙ set_same m.positions n t here)

pub turn_idle : (scene : Scene) (m : Moment) (n : ℕ) → moves scene m n ≡ false
    → turn scene m n ≡ m
turn_idle scene m n still =
    turned_idle scene m n (slice_get scene.programs n) (slice_get m.positions n) refl still

-- A run whose tasks never wait is never stuck.
use Rattle.std.proofs.Common.{◌≡◌, ℕ, zero, suc, ◌&&◌, Bool, true, false, not, List, [], ◌∷◌, length, map, Some, refl, ap, ◌∙◌}
use Rattle.std.specs.Prelude.{slice_get}
use Rattle.std.specs.List.{list_all}
use Rattle.std.proofs.Math.Bool.{or-false}
use Rattle.std.proofs.lemmas.Bool.{false≢true}
use Rattle.script_text.specs.steps.declared.call.Call.{Call}
use Rattle.script_text.specs.steps.declared.call.Call.TheVariants as call
use Rattle.load_gen.specs.Accepted.{IsLoad, never_waits, waits}
use Rattle.script_run.specs.model.Ended.{all_done, all_wait, is_done, is_stuck, left, waits_in_vain}
use Rattle.script_run.specs.model.EndedValue.{EndedValue}
use Rattle.script_run.specs.model.History.{Position}
use Rattle.script_run.specs.model.Scene.{Program}
use Rattle.script_run.specs.Run.{HasRun}
use Rattle.script_run.specs.scenes.Scene.{program_of}
use Rattle.script_text.specs.ScriptValue.{ScriptValue}
use Rattle.script_text.specs.declared.blocks.TaskBlock.{TaskBlock}
use Rattle.script_text.proofs.Holding.{left_true, right_true}

-- a call that isn't a wait isn't blocked
not_in_vain : (left_of : ℕ → ℕ) (c : Call) → not (waits c) ≡ true
    → waits_in_vain left_of (Some c) ≡ false
not_in_vain left_of (call.Wait sem) h = absurd (false≢true h)
not_in_vain left_of _ h = refl

-- no call of a task that never waits is blocked
none_in_vain : (left_of : ℕ → ℕ) (calls : List Call) (k : ℕ)
    → list_all (λ c. not (waits c)) calls ≡ true
    → waits_in_vain left_of (slice_get calls k) ≡ false
none_in_vain left_of [] k h = refl
none_in_vain left_of (c ∷ cs) zero h =
    not_in_vain left_of c (left_true (not (waits c)) (list_all (λ d. not (waits d)) cs) h)
none_in_vain left_of (c ∷ cs) (suc k) h =
    none_in_vain left_of cs k (right_true (not (waits c)) (list_all (λ d. not (waits d)) cs) h)

abbrev programs_of : List TaskBlock → List Program
programs_of tasks = map program_of tasks

-- a task that never waits is done or can go on
done_alone : (left_of : ℕ → ℕ) (tasks : List TaskBlock) (positions : List Position)
    → list_all never_waits tasks ≡ true
    → all_wait left_of (programs_of tasks) positions ≡ all_done (programs_of tasks) positions
done_alone left_of [] positions h = refl
done_alone left_of (t ∷ ts) [] h = refl
done_alone left_of (t ∷ ts) (x ∷ xs) h =
    rw (
      none_in_vain left_of t.calls (length x.replies)
          (left_true (never_waits t) (list_all never_waits ts) h),
      done_alone left_of ts xs (right_true (never_waits t) (list_all never_waits ts) h),
    ) (ap (λ (b : Bool). b && all_done (programs_of ts) xs)
    (or-false (is_done (program_of t) x)))

not_both : (b : Bool) → (not b && b) ≡ false
not_both true = refl
not_both false = refl

never_stuck : (tasks : List TaskBlock) (positions : List Position)
    → list_all never_waits tasks ≡ true → is_stuck (programs_of tasks) positions ≡ false
never_stuck tasks positions h =
    let left_of : ℕ → ℕ = λ sem. left sem (programs_of tasks) positions in
    ap (λ (b : Bool). not (all_done (programs_of tasks) positions) && b)
    (done_alone left_of tasks positions h)
    ∙ not_both (all_done (programs_of tasks) positions)

-- the run of a script whose tasks never wait isn't stuck
pub goes_through : (s : ScriptValue) (e : EndedValue) → IsLoad s → HasRun s e → e.stuck ≡ false
goes_through s e load has =
    ap (λ (x : EndedValue). x.stuck) has.promised.leaves
    ∙ never_stuck s.tasks has.run.positions load.free

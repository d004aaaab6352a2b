-- The tasks of lanes.
use Rattle.std.proofs.Common.{◌≡◌, ◌≢◌, ℕ, suc, ◌+◌, ◌<◌, ◌≤◌, List, [], ◌∷◌, length, drop, get_or, refl, sym, ap, ◌∙◌, arith, inl, inr, le-ltb, lt-ltb}
use Rattle.std.specs.Prelude.{nat_lt}
use Rattle.std.specs.List.{insert}
use Rattle.std.proofs.lemmas.Bool.{cases_Bool, eq-eqb, ne_eqb}
use Rattle.std.proofs.lemmas.List.{at_drop_all, at_drop_more}
use Rattle.view_lanes.specs.Lanes.{first_from, with_task}

-- one more task is below
pub first_after : (task : ℕ) (ts : List ℕ) (i all : ℕ) → i < length ts → get_or ts i 0 < task
    → i + first_from task (drop i ts) ≡ all → i + 1 + first_from task (drop (i + 1) ts) ≡ all
first_after task ts i all within below h =
    let on : first_from task (get_or ts i 0 ∷ drop (i + 1) ts)
    ≡ suc (first_from task (drop (i + 1) ts)) = rw (lt-ltb (get_or ts i 0) task below) refl in
    omega (arith, at_drop_more (first_from task) ts i 0 within ∙ on, h)

-- the next task isn't below
pub first_here : (task : ℕ) (ts : List ℕ) (i all : ℕ) → i < length ts → task ≤ get_or ts i 0
    → i + first_from task (drop i ts) ≡ all → i ≡ all
first_here task ts i all within above h =
    let on : first_from task (get_or ts i 0 ∷ drop (i + 1) ts) ≡ 0
    = rw (le-ltb (get_or ts i 0) task above) refl in
    omega (arith, at_drop_more (first_from task) ts i 0 within ∙ on, h)

-- all tasks are below
pub first_past : (task : ℕ) (ts : List ℕ) (i all : ℕ) → length ts ≤ i
    → i + first_from task (drop i ts) ≡ all → i ≡ all
first_past task ts i all past h = omega (arith, at_drop_all (first_from task) ts i past, h)

-- a task that is there
pub with_task_old : (task : ℕ) (ts : List ℕ) (d : ℕ) → first_from task ts < length ts
    → get_or ts (first_from task ts) d ≡ task → with_task task ts ≡ ts
with_task_old task [] d lt e = absurd (omega (arith, lt))
with_task_old task (t ∷ ts) d lt e =
    elim (cases_Bool (nat_lt t task)) [
      | inl y ↦
          let less = rw y at lt in
          rw y (ap (λ (x : List ℕ). t ∷ x)
          (with_task_old task ts d (omega (arith, less)) (rw y at e)))
      | inr n ↦
          let here : t ≡ task = rw n at e in
          rw (n, eq-eqb t task here) refl
    ]

-- a task that isn't there
pub with_task_new : (task : ℕ) (ts : List ℕ) (d : ℕ)
    → (first_from task ts < length ts → get_or ts (first_from task ts) d ≢ task)
    → with_task task ts ≡ insert ts (first_from task ts) task
with_task_new task [] d h = refl
with_task_new task (t ∷ ts) d h =
    elim (cases_Bool (nat_lt t task)) [
      | inl y ↦
          let rest : first_from task ts < length ts → get_or ts (first_from task ts) d ≢ task
          = λ (l : first_from task ts < length ts). (rw y at h) (omega (arith, l)) in
          rw y (ap (λ (x : List ℕ). t ∷ x) (with_task_new task ts d rest))
      | inr n ↦
          let other : t ≢ task = (rw n at h) (omega arith) in
          rw (n, ne_eqb t task other) refl
    ]

-- the list stays if the task stands where the first task stands that isn't below it
pub stays : (task at : ℕ) (ts : List ℕ) → at ≡ first_from task ts → at < length ts
    → get_or ts at 0 ≡ task → ts ≡ with_task task ts
stays task at ts is lt here =
    sym (with_task_old task ts 0 (omega (arith, is, lt))
    (ap (λ (k : ℕ). get_or ts k 0) (sym is) ∙ here))

-- and else the task is inserted there
pub inserted : (task at : ℕ) (ts : List ℕ) → at ≡ first_from task ts
    → (at < length ts → get_or ts at 0 ≢ task) → insert ts at task ≡ with_task task ts
inserted task at ts is other =
    let new : first_from task ts < length ts → get_or ts (first_from task ts) 0 ≢ task
    = λ (l : first_from task ts < length ts) (e : get_or ts (first_from task ts) 0 ≡ task).
    other (omega (arith, is, l)) (ap (λ (k : ℕ). get_or ts k 0) is ∙ e) in
    ap (λ (k : ℕ). insert ts k task) is ∙ sym (with_task_new task ts 0 new)

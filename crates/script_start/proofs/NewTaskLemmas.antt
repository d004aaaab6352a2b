-- The loop of `new_tasks`: one more task of a script.
use Rattle.std.proofs.Common.{◌≡◌, ℕ, zero, suc, ◌+◌, List, [], ◌∷◌, ◌++◌, length, drop, Some, Result, Ok, Err, IfOk, refl, ap, sym, subst, ◌∙◌, ◌⊎◌, inl, inr, arith}
use Rattle.std.specs.Prelude.{slice_get}
use Rattle.std.proofs.lemmas.List.{length-append}
use Rattle.std.proofs.lemmas.Option.{none-some, same_Some}
use Rattle.call_steps.specs.declared.call.Call.{Call}
use Rattle.run_model.specs.History.{start}
use Rattle.script_text.specs.declared.blocks.TaskBlock.{TaskBlock}
use Rattle.task_core.specs.worlds.WorldConsts.{WorldConsts}
use Rattle.task_core.specs.worlds.Tasks.{AreCallsOf, ArePassesOf, AreUnused, IsTask, PassesValue, Tasked}
use Rattle.task_core.proofs.about_closes.Gets.{get_parts}
use Rattle.script_start.specs.NewTasks.{IsNew}

-- a task is new, given what `Task::new` ensures
pub new_is : {E : Type 0} (r : Result Tasked E) (n : ℕ) (block : TaskBlock) (calls : List Call)
    (passes : PassesValue) → calls ≡ block.calls
    → IfOk r (λ t. t.number ≡ n)
    → IfOk r (λ t. t.task_state.program ≡ record { cred = block.cred; calls = calls })
    → IfOk r (λ t. t.task_state.position ≡ start)
    → IfOk r (λ t. (consts : WorldConsts) → ArePassesOf consts n passes → AreUnused passes
    → AreCallsOf (length consts.each_inode) calls → IsTask consts t)
    → IfOk r (IsNew n block passes)
new_is (Ok t) n block calls passes same number program position task = record {
  number = number;
  program = program ∙ (λ i. record { cred = block.cred; calls = same i });
  position = position;
  task = λ consts own unused fit. task consts own unused
      (subst (AreCallsOf (length consts.each_inode)) (sym same) fit);
}
new_is (Err e) n block calls passes same number program position task = tt

-- the item at a place and the items after it, from the list from that place on
next : {A : Type 0} (xs : List A) (k : ℕ) (x : A) (rest : List A) → x ∷ rest ≡ drop k xs
    → (slice_get xs k ≡ Some x) × (rest ≡ drop (suc k) xs)
next [] zero x rest e = absurd (omega (arith, ap length e))
next [] (suc k) x rest e = absurd (omega (arith, ap length e))
next (y ∷ ys) zero x rest e = (
  sym (ap (λ l. slice_get l 0) e),
  ap (drop 1) e,
)
next (y ∷ ys) (suc k) x rest e = next ys k x rest e

-- the tasks so far are new, and the blocks and the passes of the other tasks are left
pub record AreMade (blocks rest : List TaskBlock) (passes left : List PassesValue)
    (tasks : List Tasked) : Type 0 where
  pub left_is : left ≡ drop (length tasks) passes
  pub rest_is : rest ≡ drop (length tasks) blocks
  pub within : length tasks + length rest ≡ length blocks
  pub each : (k : ℕ) (t : Tasked) → slice_get tasks k ≡ Some t
      → (block : TaskBlock) → slice_get blocks k ≡ Some block
      → (own : PassesValue) → slice_get passes k ≡ Some own → IsNew k block own t

-- no task is made at first
pub none_made : (blocks : List TaskBlock) (passes : List PassesValue)
    → AreMade blocks blocks passes passes []
none_made blocks passes = record {
  left_is = refl;
  rest_is = refl;
  within = omega arith;
  each = λ k t at block is_block own is_own. absurd (cc at);
}

-- with a new task at the end, each task is the new one of its block and passes
one : (blocks : List TaskBlock) (passes : List PassesValue) (tasks : List Tasked)
    (block : TaskBlock) (own : PassesValue) (t : Tasked)
    → ((k : ℕ) (u : Tasked) → slice_get tasks k ≡ Some u
    → (b : TaskBlock) → slice_get blocks k ≡ Some b
    → (p : PassesValue) → slice_get passes k ≡ Some p → IsNew k b p u)
    → slice_get blocks (length tasks) ≡ Some block → slice_get passes (length tasks) ≡ Some own
    → IsNew (length tasks) block own t
    → (k : ℕ) (u : Tasked)
    → (slice_get tasks k ≡ Some u)
    ⊎ ((j : ℕ) × ((k ≡ length tasks + j) × (slice_get (t ∷ []) j ≡ Some u)))
    → (b : TaskBlock) → slice_get blocks k ≡ Some b
    → (p : PassesValue) → slice_get passes k ≡ Some p → IsNew k b p u
one blocks passes tasks block own t before at_block at_own new k u (inl there) b is_b p is_p =
    before k u there b is_b p is_p
one blocks passes tasks block own t before at_block at_own new k u (inr (zero, (is, at)))
    b is_b p is_p =
    let place : k ≡ length tasks = omega (arith, is) in
    let same_b : block ≡ b = same_Some block b
    (sym at_block ∙ ap (slice_get blocks) (sym place) ∙ is_b) in
    let same_p : own ≡ p = same_Some own p (sym at_own ∙ ap (slice_get passes) (sym place) ∙ is_p)
    in
    let same_t : t ≡ u = same_Some t u at in
    subst (λ (x : ℕ × (TaskBlock × (PassesValue × Tasked))). IsNew x.0 x.1.0 x.1.1.0 x.1.1.1)
    (λ i. (sym place i, (same_b i, (same_p i, same_t i)))) new
one blocks passes tasks block own t before at_block at_own new k u (inr (suc j, (is, at)))
    b is_b p is_p = absurd (none-some u at)

pub one_more_made : (blocks rest rest2 : List TaskBlock) (passes left left2 : List PassesValue)
    (tasks tasks2 : List Tasked) (block : TaskBlock) (own : PassesValue) (t : Tasked)
    → AreMade blocks rest passes left tasks → rest ≡ block ∷ rest2 → left ≡ own ∷ left2
    → tasks2 ≡ tasks ++ t ∷ [] → IsNew (length tasks) block own t
    → AreMade blocks rest2 passes left2 tasks2
one_more_made blocks rest rest2 passes left left2 tasks tasks2 block own t old r l e new =
    let longer : length tasks2 ≡ suc (length tasks) = ap length e ∙ length-append tasks (t ∷ [])
    ∙ omega arith in
    let b = next blocks (length tasks) block rest2 (sym r ∙ old.rest_is) in
    let p = next passes (length tasks) own left2 (sym l ∙ old.left_is) in record {
      left_is = p.1 ∙ ap (λ n. drop n passes) (sym longer);
      rest_is = b.1 ∙ ap (λ n. drop n blocks) (sym longer);
      within = omega (arith, longer, ap length r, old.within);
      each = λ k u at. one blocks passes tasks block own t old.each b.0 p.0 new k u
          (get_parts tasks (t ∷ []) k u (ap (λ (l : List Tasked). slice_get l k) (sym e) ∙ at));
    }

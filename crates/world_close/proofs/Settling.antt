-- One more task has looked at all lists.
use Rattle.std.proofs.Common.{◌≡◌, ℕ, ◌+◌, ◌<◌, ◌≤◌, ◌⊎◌, inl, inr, List, [], ◌∷◌, length, Some, refl, ap, sym, ◌∙◌, subst, arith, suc, zero}
use Rattle.std.specs.Prelude.{map, slice_get, slice_set}
use Rattle.std.proofs.lemmas.Option.{same_Some, slice_get_within}
use Rattle.run_model.specs.Turns.{State}
use Rattle.world_close.specs.worlds.WorldConsts.{WorldConsts}
use Rattle.world_close.specs.worlds.Runs.{AreTasks, HasMade, IsNth}
use Rattle.world_close.specs.worlds.Tasks.{IsTask, Tasked}
use Rattle.world_close.proofs.Gets.{get_set}
use Rattle.world_close.specs.Finished.{HaveMade}
use Rattle.world_close.specs.Settled.{HaveLooked, task_state_of}

-- writing an element with the same image leaves the map of a list as it was
map_kept : {A B : Type 0} (f : A → B) (xs : List A) (k : ℕ) (x y : A) → slice_get xs k ≡ Some x
    → f y ≡ f x → map f (slice_set xs k y) ≡ map f xs
map_kept f [] k x y at e = refl
map_kept {B = B} f (z ∷ xs) zero x y at e =
    ap (λ (w : B). w ∷ map f xs) (e ∙ ap f (sym (same_Some z x at)))
map_kept {B = B} f (z ∷ xs) (suc k) x y at e =
    ap (λ (l : List B). f z ∷ l) (map_kept f xs k x y at e)

-- no task has looked at first
pub looked_none : (consts : WorldConsts) (state : State) (tasks : List Tasked)
    → AreTasks consts tasks → HaveLooked consts state 0 tasks tasks
looked_none consts state tasks are = record {
  made = λ j t below at. absurd (omega arith);
  tasks = are;
  same = refl;
}

-- one more task has looked
pub looked_more : (consts : WorldConsts) (state : State) (k : ℕ) (old new : List Tasked)
    (t t2 : Tasked) → slice_get new k ≡ Some t → HasMade consts state t2 → IsTask consts t2
    → t2.number ≡ t.number → t2.task_state ≡ t.task_state → HaveLooked consts state k old new
    → HaveLooked consts state (k + 1) old (slice_set new k t2)
looked_more consts state k old new t t2 at has task number task_state l = record {
  made = λ j u below there. made j u below (get_set new k j t2 u there);
  tasks = record { each = λ j u there. each j u (get_set new k j t2 u there) };
  same = map_kept task_state_of new k t t2 at task_state ∙ l.same;
} where
  made : (j : ℕ) (u : Tasked) → j < k + 1
      → ((k ≡ j) × (t2 ≡ u)) ⊎ ((k ≡ j → ⊥) × (slice_get new j ≡ Some u))
      → HasMade consts state u
  made j u below (inl w) = subst (λ (v : Tasked). HasMade consts state v) w.1 has
  made j u below (inr w) = l.made j u (before_it j below w.0) w.1 where
    before_it : (j : ℕ) → j < k + 1 → (k ≡ j → ⊥) → j < k
    before_it j b ne = grind arith

  each : (j : ℕ) (u : Tasked)
      → ((k ≡ j) × (t2 ≡ u)) ⊎ ((k ≡ j → ⊥) × (slice_get new j ≡ Some u))
      → IsNth consts j u
  each j u (inl w) =
      subst (λ (x : ℕ × Tasked). IsNth consts x.0 x.1) (λ i. (w.0 i, w.1 i))
      (record { number = number ∙ (l.tasks.each k t at).number; task = task })
  each j u (inr w) = l.tasks.each j u w.1

-- all tasks have looked once none remains
pub looked_all : (consts : WorldConsts) (state : State) (k : ℕ) (old new : List Tasked)
    → length new ≤ k → HaveLooked consts state k old new → HaveMade consts state new
looked_all consts state k old new all l j t at =
    l.made j t (let b = slice_get_within new j t at in omega arith) at

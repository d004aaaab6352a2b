-- Tasks that have gone on still belong to their world.
use Rattle.std.proofs.Common.{◌≡◌, ℕ, zero, suc, ◌+◌, ◌-◌, ◌<◌, ◌≤◌, ◌⊎◌, inl, inr, List, [], ◌∷◌, ◌++◌, length, map, take, Some, refl, sym, ◌∙◌, ap, subst, arith}
use Rattle.std.specs.Prelude.{All, slice_get, slice_set}
use Rattle.std.proofs.Math.Nat.{suc-add, zero-add}
use Rattle.std.proofs.lemmas.Bool.{cases_lt}
use Rattle.std.proofs.lemmas.List.{length-append, length-set, take-append-le, take_all}
use Rattle.std.proofs.lemmas.List.Elements.{All-head, All-tail}
use Rattle.std.proofs.lemmas.Option.{same_Some}
use Rattle.task_core.specs.worlds.WorldConsts.{WorldConsts}
use Rattle.task_core.specs.worlds.Runs.{AreTasks, program_of}
use Rattle.task_core.specs.worlds.Tasks.{IsTask, Tasked}
use Rattle.task_core.specs.worlds.World.{WorldValue}
use Rattle.task_runner.specs.Parts.{AreSameTasks, GoneFrom, HaveGone}
use Rattle.task_core.specs.worlds.WorldRuns.{SameRun}
use Rattle.task_core.proofs.about_closes.Gets.{all_by_get, get_set}

-- a property of all elements holds of the one at a place
all_at : {A : Type 0} (P : A → Type 0) (xs : List A) (k : ℕ) (x : A) → All P xs
    → slice_get xs k ≡ Some x → P x
all_at P [] k x all h = absurd (cc)
all_at P (y ∷ xs) zero x all h = subst P (same_Some y x h) (All-head P y xs all)
all_at P (y ∷ xs) (suc k) x all h = all_at P xs k x (All-tail P y xs all) h

-- `HaveGone` is reflexive
pub gone_none : (consts : WorldConsts) (tasks : List Tasked) → All (IsTask consts) tasks
    → HaveGone consts tasks tasks
gone_none consts tasks all = record {
  even = refl;
  each = λ k t at. record {
    before = t;
    at = at;
    number = refl;
    program = refl;
    task = all_at (IsTask consts) tasks k t all at;
  };
}

-- tasks that have gone on are all tasks of the world
pub gone_all : (consts : WorldConsts) (old new : List Tasked) → HaveGone consts old new
    → All (IsTask consts) new
gone_all consts old new g =
    all_by_get (IsTask consts) new (λ k t at. (g.each k t at).task)

-- `HaveGone` is transitive
pub gone_more : (consts : WorldConsts) (a b c : List Tasked) → HaveGone consts a b
    → HaveGone consts b c → HaveGone consts a c
gone_more consts a b c x y = record {
  even = y.even ∙ x.even;
  each = λ k t at.
      let later = y.each k t at in
      let first = x.each k later.before later.at in
      record {
        before = first.before;
        at = first.at;
        number = later.number ∙ first.number;
        program = later.program ∙ first.program;
        task = later.task;
      };
}

-- one of the tasks made a step
pub gone_step : (consts : WorldConsts) (tasks : List Tasked) (k : ℕ) (t t2 : Tasked)
    → All (IsTask consts) tasks → slice_get tasks k ≡ Some t → t2.number ≡ t.number
    → t2.task_state.program ≡ t.task_state.program → IsTask consts t2
    → HaveGone consts tasks (slice_set tasks k t2)
gone_step consts tasks k t t2 all there number program task = record {
  even = length-set tasks k t2;
  each = λ j x h. gone j x (get_set tasks k j t2 x h);
} where
  gone : (j : ℕ) (x : Tasked)
      → ((k ≡ j) × (t2 ≡ x)) ⊎ ((k ≡ j → ⊥) × (slice_get tasks j ≡ Some x))
      → GoneFrom consts tasks j x
  gone j x (inl w) =
      subst (λ (y : ℕ × Tasked). GoneFrom consts tasks y.0 y.1) (λ i. (w.0 i, w.1 i))
      (record { before = t; at = there; number = number; program = program; task = task })
  gone j x (inr w) = record {
    before = x;
    at = w.1;
    number = refl;
    program = refl;
    task = all_at (IsTask consts) tasks j x all w.1;
  }

-- ---- halves of the tasks

-- an element of the first half
get_front : {A : Type 0} (xs ys : List A) (k : ℕ) → k < length xs
    → slice_get (xs ++ ys) k ≡ slice_get xs k
get_front [] ys k h = absurd (omega (arith, h))
get_front (x ∷ xs) ys zero h = refl
get_front (x ∷ xs) ys (suc k) h = get_front xs ys k (omega (arith, h))

-- an element of the second half
get_back : {A : Type 0} (xs ys : List A) (k : ℕ)
    → slice_get (xs ++ ys) (length xs + k) ≡ slice_get ys k
get_back [] ys k = ap (λ (n : ℕ). slice_get ys n) (zero-add k)
get_back (x ∷ xs) ys k =
    ap (λ (n : ℕ). slice_get (x ∷ (xs ++ ys)) n) (suc-add (length xs) k) ∙ get_back xs ys k

-- if both halves have gone on, all tasks have
pub gone_both : (consts : WorldConsts) (xs ys xs2 ys2 : List Tasked) → HaveGone consts xs xs2
    → HaveGone consts ys ys2 → HaveGone consts (xs ++ ys) (xs2 ++ ys2)
gone_both consts xs ys xs2 ys2 one other = record {
  even = omega (arith, one.even, other.even, length-append xs ys, length-append xs2 ys2);
  each = λ k t at. gone k t at (cases_lt k (length xs2));
} where
  gone : (k : ℕ) (t : Tasked) → slice_get (xs2 ++ ys2) k ≡ Some t
      → (k < length xs2) ⊎ (length xs2 ≤ k) → GoneFrom consts (xs ++ ys) k t
  gone k t at (inl h) =
      let g = one.each k t (sym (get_front xs2 ys2 k h) ∙ at) in
      let below : k < length xs = omega (arith, h, one.even) in
      record {
        before = g.before;
        at = get_front xs ys k below ∙ g.at;
        number = g.number;
        program = g.program;
        task = g.task;
      }
  gone k t at (inr h) =
      let m = k - length xs2 in
      let later : length xs2 + m ≡ k = omega (arith, h) in
      let same : k ≡ length xs + m = omega (arith, h, one.even) in
      let g = other.each m t (sym (get_back xs2 ys2 m)
      ∙ ap (λ (n : ℕ). slice_get (xs2 ++ ys2) n) later ∙ at) in
      record {
        before = g.before;
        at = ap (λ (n : ℕ). slice_get (xs ++ ys) n) same ∙ get_back xs ys m ∙ g.at;
        number = g.number;
        program = g.program;
        task = g.task;
      }

-- ---- all tasks

-- the tasks of a world, in order, are tasks of it
pub all_tasks : (consts frame2 : WorldConsts) (tasks : List Tasked) → consts ≡ frame2
    → AreTasks consts tasks → All (IsTask frame2) tasks
all_tasks consts frame2 tasks same are =
    subst (λ (f : WorldConsts). All (IsTask f) tasks) same
    (all_by_get (IsTask consts) tasks (λ k t at. (are.each k t at).task))

-- lists of the same length with the same image at each place have the same map
maps_same : {A B : Type 0} (f : A → B) (xs ys : List A) → length ys ≡ length xs
    → ((k : ℕ) (y : A) → slice_get ys k ≡ Some y
    → (x : A) × ((slice_get xs k ≡ Some x) × (f y ≡ f x)))
    → map f ys ≡ map f xs
maps_same f [] [] e each = refl
maps_same f [] (y ∷ ys) e each = absurd (omega arith)
maps_same f (x ∷ xs) [] e each = absurd (omega arith)
maps_same f (x ∷ xs) (y ∷ ys) e each =
    let first = each zero y refl in
    let head : f y ≡ f x = first.1.1 ∙ ap f (sym (same_Some x first.0 first.1.0)) in
    let rest : map f ys ≡ map f xs =
    maps_same f xs ys (omega arith) (λ k z h. each (suc k) z h) in
    λ i. head i ∷ rest i

-- tasks that have gone on all belong to the world, with the same programs
pub gone_still : (consts : WorldConsts) (old new : List Tasked) → AreTasks consts old
    → HaveGone consts old new → AreSameTasks consts old new
gone_still consts old new are gone = record {
  programs = maps_same program_of old new gone.even (λ k t at.
      let g = gone.each k t at in (g.before, (g.at, g.program)));
  each = record {
    each = λ k t at.
        let g = gone.each k t at in
        record {
          number = g.number ∙ (are.each k g.before g.at).number;
          task = g.task;
        };
  };
}

-- tasks that still belong to a world run on in another one with the same constants
pub same_run : (world after : WorldValue) (old new : List Tasked) → after.consts ≡ world.consts
    → AreSameTasks world.consts old new → SameRun world after old new
same_run world after old new same still = record {
  consts = same;
  programs = still.programs;
  each = subst (λ (f : WorldConsts). AreTasks f new) (sym same) still.each;
}

-- tasks that run on all belong to the world
pub runs_still : (world after : WorldValue) (old new : List Tasked)
    → SameRun world after old new → AreSameTasks world.consts old new
runs_still world after old new runs = record {
  programs = runs.programs;
  each = subst (λ (f : WorldConsts). AreTasks f new) runs.consts runs.each;
}

-- the first n elements of a list are its part of length n
pub front_is : {A : Type 0} (xs ys : List A) (n : ℕ) → length xs ≡ n → take n (xs ++ ys) ≡ xs
front_is xs ys n e = take-append-le n xs ys (omega arith) ∙ take_all n xs (omega arith)

-- the tasks still belong to the world, with the constants under a name and the tasks lent and
-- returned
pub gone_named : (consts frame2 : WorldConsts) (old lent new back : List Tasked) → consts ≡ frame2
    → lent ≡ old → back ≡ new → AreTasks consts old → HaveGone frame2 lent new
    → AreSameTasks consts old back
gone_named consts frame2 old lent new back same is are_back are gone =
    subst (λ (f : WorldConsts). AreSameTasks f old back) (sym same)
    (gone_still frame2 old back (subst (λ (f : WorldConsts). AreTasks f old) same are)
    (subst (λ (x : List Tasked × List Tasked). HaveGone frame2 x.0 x.1)
    (λ i. (is i, sym are_back i)) gone))

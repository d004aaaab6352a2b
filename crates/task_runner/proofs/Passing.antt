-- Passes over the tasks of one part.
use Rattle.std.proofs.Common.{◌≡◌, ◌+◌, ◌-◌, ◌*◌, ◌^◌, ◌<◌, ◌≤◌, min, ◌⊎◌, ℕ, zero, suc, Bool, true, false, inl, inr, List, [], ◌∷◌, ◌++◌, length, Option, Some, None, add-one, refl, sym, ◌∙◌, ap, subst, arith}
use Rattle.std.specs.Prelude.{◌||◌, All, slice_get}
use Rattle.std.specs.List.{list_any}
use Rattle.std.proofs.Math.Bool.{or-false, or_comm}
use Rattle.std.proofs.Math.Nat.{add-mul, mul-le-mul_right, one-mul, suc-mul}
use Rattle.std.proofs.lemmas.Bool.{cases_lt}
use Rattle.std.proofs.lemmas.Grind.{flat_map-append}
use Rattle.std.proofs.lemmas.List.{append-nil, length-append, length-set}
use Rattle.std.proofs.lemmas.List.Elements.{All-append, All-cons, All-head, All-nil, All-tail}
use Rattle.std.proofs.lemmas.List.Folds.{list_any-append}
use Rattle.std.proofs.lemmas.Option.{same_Some, slice_get_past}
use Rattle.run_model.specs.Rounds.{is_moved}
use Rattle.run_model.specs.Turns.{step_task}
use Rattle.run_model.specs.declared.turn.Turn.{Turn}
use Rattle.task_core.specs.worlds.WorldConsts.{WorldConsts, scene_of}
use Rattle.task_core.specs.worlds.Tasks.{Tasked}
use Rattle.task_core.proofs.about_closes.Gets.{get_last, get_set}
use Rattle.task_runner.specs.Passes.{AreOver, HasStayed, HavePassed, HaveRunInParts, HaveStepped, IsInPass, IsPartIn, IsPartOver, IsPartStopped, IsPass, SteppedBy, StepsAt}

-- ---- one step

-- a task that stayed, and then made a turn or none, made that turn or none
stays_and_steps : (consts : WorldConsts) (t mid t2 : Tasked) (r : Option Turn) → HasStayed t mid
    → SteppedBy consts mid t2 r → SteppedBy consts t t2 r
stays_and_steps consts t mid t2 (Some r) h s = record {
  old = s.old;
  goes = λ programs.
      let same : step_task (scene_of consts programs) mid.number mid.task_state.program s.old
      mid.task_state.position
      ≡ step_task (scene_of consts programs) t.number t.task_state.program s.old
      t.task_state.position =
      λ i. step_task (scene_of consts programs) (h.number i) (h.program i) s.old (h.position i) in
      sym same ∙ s.goes programs;
}
stays_and_steps consts t mid t2 None h s = record {
  number = s.number ∙ h.number;
  program = s.program ∙ h.program;
  position = s.position ∙ h.position;
  mines = s.mines ∙ h.mines;
}

-- ---- one pass

-- an element at another place than the end was there before
get_before : {A : Type 0} (xs : List A) (y : A) (j : ℕ) → (length xs ≡ j → ⊥)
    → slice_get (xs ++ y ∷ []) j ≡ slice_get xs j
get_before [] y zero h = absurd (h refl)
get_before [] y (suc j) h = refl
get_before (x ∷ xs) y zero h = refl
get_before (x ∷ xs) y (suc j) h = get_before xs y j (λ e. h (ap suc e))

-- the task at the next place makes a turn, or none
module _ (consts : WorldConsts) (old mid new : List Tasked) (turns turns2 : List Turn) (k : ℕ)
    (r : Option Turn) (made : HaveStepped consts old mid turns) (s : StepsAt consts mid new k r)
    (none : slice_get turns k ≡ None) (here : slice_get turns2 k ≡ r)
    (others : (j : ℕ) → (k ≡ j → ⊥) → slice_get turns2 j ≡ slice_get turns j) where
  one : (j : ℕ) (t t2 : Tasked) → slice_get old j ≡ Some t
      → ((k ≡ j) × (s.after ≡ t2)) ⊎ ((k ≡ j → ⊥) × (slice_get mid j ≡ Some t2))
      → SteppedBy consts t t2 (slice_get turns2 j)
  one j t t2 at (inl w) =
      let there : slice_get old k ≡ Some t = ap (λ (n : ℕ). slice_get old n) w.0 ∙ at in
      let stayed : HasStayed t s.before =
      subst (λ (o : Option Turn). SteppedBy consts t s.before o) none
      (made.each k t s.before there s.at) in
      subst (λ (x : ℕ × Tasked). SteppedBy consts t x.1 (slice_get turns2 x.0))
      (λ i. (w.0 i, w.1 i))
      (subst (λ (o : Option Turn). SteppedBy consts t s.after o) (sym here)
      (stays_and_steps consts t s.before s.after r stayed s.step))
  one j t t2 at (inr w) =
      subst (λ (o : Option Turn). SteppedBy consts t t2 o) (sym (others j w.0))
      (made.each j t t2 at w.1)

  steps_on : HaveStepped consts old new turns2
  steps_on = record {
    even = ap (λ (xs : List Tasked). length xs) s.written ∙ length-set mid k s.after ∙ made.even;
    each = λ j t t2 at at2.
        one j t t2 at (get_set mid k j s.after t2
        (ap (λ (xs : List Tasked). slice_get xs j) (sym s.written) ∙ at2));
  }

-- a pass before its first turn
pub pass_none : (consts : WorldConsts) (tasks : List Tasked) → IsPass consts tasks tasks 0 false
pass_none consts tasks = record {
  turns = [];
  count = refl;
  made = record {
    even = refl;
    each = λ k t t2 at at2.
        let same : t ≡ t2 = same_Some t t2 (sym at ∙ at2) in
        subst (λ (u : Tasked). HasStayed t u) same
        (record { number = refl; program = refl; position = refl; mines = refl });
  };
  moves = refl;
}

-- some answer of an extended list is a move if one of the list or the last is
any_last : (turns : List Turn) (r : Turn)
    → list_any is_moved (turns ++ r ∷ []) ≡ (list_any is_moved turns || is_moved r)
any_last turns r =
    list_any-append is_moved turns (r ∷ [])
    ∙ ap (λ (b : Bool). list_any is_moved turns || b) (or-false (is_moved r))

-- a pass goes on with the turn of the next task
pub pass_more : (consts : WorldConsts) (old mid new : List Tasked) (k : ℕ) (moved moved2 : Bool)
    (r : Turn) → IsPass consts old mid k moved → StepsAt consts mid new k (Some r)
    → moved2 ≡ (is_moved r || moved) → IsPass consts old new (k + 1) moved2
pass_more consts old mid new k moved moved2 r p s e = record {
  turns = p.turns ++ r ∷ [];
  count = omega (arith, length-append p.turns (r ∷ []), p.count);
  made = steps_on consts old mid new p.turns (p.turns ++ r ∷ []) k (Some r) p.made s
      (slice_get_past p.turns k (omega (arith, p.count)))
      (subst (λ (n : ℕ). slice_get (p.turns ++ r ∷ []) n ≡ Some r) p.count (get_last p.turns r))
      (λ j other. get_before p.turns r j (λ x. other (sym p.count ∙ x)));
  moves = e ∙ or_comm (is_moved r) moved ∙ ap (λ (b : Bool). b || is_moved r) p.moves
      ∙ sym (any_last p.turns r);
}

-- a pass in which the next task ran out of memory
pub pass_fails : (consts : WorldConsts) (old mid new : List Tasked) (k : ℕ) (moved : Bool)
    → k < length old → IsPass consts old mid k moved → StepsAt consts mid new k None
    → IsInPass consts old new
pass_fails consts old mid new k moved below p s =
    let past : slice_get p.turns k ≡ None =
    slice_get_past p.turns k (omega (arith, p.count)) in
    record {
      count = k;
      moved = moved;
      left = below;
      pass = record {
        turns = p.turns;
        count = p.count;
        made = steps_on consts old mid new p.turns p.turns k None p.made s past past
            (λ j other. refl);
        moves = p.moves;
      };
    }

-- ---- a part

-- one more pass that moved a task
pub passed_more : (consts : WorldConsts) (n : ℕ) (old mid new : List Tasked) (moved : Bool)
    → HavePassed consts n old mid → IsPass consts mid new (length mid) moved → moved ≡ true
    → HavePassed consts (n + 1) old new
passed_more consts n old mid new moved h p e =
    subst (λ (m : ℕ). HavePassed consts m old new) (sym (add-one n))
    (mid, (h, subst (λ (b : Bool). IsPass consts mid new (length mid) b) e p))

-- a pass that moved no task ends its part
pub passed_last : (consts : WorldConsts) (n : ℕ) (old mid new : List Tasked) (moved : Bool)
    → HavePassed consts n old mid → IsPass consts mid new (length mid) moved → moved ≡ false
    → IsPartOver consts old new
passed_last consts n old mid new moved h p e = record {
  count = n;
  mid = mid;
  before = h;
  last = subst (λ (b : Bool). IsPass consts mid new (length mid) b) e p;
}

-- if an answer is a move, there is an answer
some_answer : (turns : List Turn) → true ≡ list_any is_moved turns → 0 < length turns
some_answer [] e = absurd (cc)
some_answer (r ∷ turns) e = omega arith

-- a part that stops where its next pass would begin
pub passed_out : (consts : WorldConsts) (n : ℕ) (old new : List Tasked) → 0 < n
    → HavePassed consts n old new → IsPartStopped consts old new
passed_out consts zero old new some h = absurd (omega arith)
passed_out consts (suc n) old new some h =
    let p : IsPass consts h.0 new (length h.0) true = h.1.1 in
    let s : 0 < length p.turns = some_answer p.turns p.moves in
    record {
      count = suc n;
      mid = new;
      before = h;
      next = record {
        count = 0;
        moved = false;
        left = omega (arith, s, p.count, p.made.even);
        pass = pass_none consts new;
      };
    }

-- all tasks are one part
pub over_alone : (consts : WorldConsts) (count size : ℕ) (old new : List Tasked) → count ≡ 1
    → length old ≤ count * size → IsPartOver consts old new → AreOver consts count size old new
over_alone consts count size old new one most over = record {
  parts = (old, new) ∷ [];
  few = omega (arith, one);
  before = append-nil old;
  after = append-nil new;
  each = All-cons (IsPartIn consts size) (old, new) [] (short, over)
      (All-nil (IsPartIn consts size));
} where
  short : length old ≤ size
  short = omega (arith, most, ap (λ (n : ℕ). n * size) one ∙ one-mul size)

-- what holds of all elements holds of those of both halves
pub all_both : {A : Type 0} (P : A → Type 0) (xs ys : List A) → All P (xs ++ ys)
    → All P xs × All P ys
all_both P [] ys all = (All-nil P, all)
all_both P (x ∷ xs) ys all =
    let rest = all_both P xs ys (All-tail P x (xs ++ ys) all) in
    (All-cons P x xs (All-head P x (xs ++ ys) all) rest.0, rest.1)

-- both halves have few enough parts
pub halves_fit : (low count size m cut front back len : ℕ) → low ≤ count
    → m ≡ min (low * size) (2 ^ 64 - 1) → cut ≡ min m len → front ≡ cut → back + cut ≡ len
    → len ≤ count * size → len < 2 ^ 64
    → (front ≤ low * size) × (back ≤ (count - low) * size)
halves_fit low count size m cut front back len within m_is cut_is front_is back_is most fits = (
  omega (arith, m_is, cut_is, front_is),
  omega (arith, m_is, cut_is, back_is, most, fits, all),
) where
  all : low * size + (count - low) * size ≡ count * size
  all = sym (add-mul low (count - low) size) ∙ ap (λ (n : ℕ). n * size) (omega (arith, within))

-- the parts of both halves are the parts of all tasks
pub over_both : (consts : WorldConsts) (low high count size : ℕ) (xs ys xs2 ys2 : List Tasked)
    → low + high ≡ count → AreOver consts low size xs xs2 → AreOver consts high size ys ys2
    → AreOver consts count size (xs ++ ys) (xs2 ++ ys2)
over_both consts low high count size xs ys xs2 ys2 sum one other = record {
  parts = one.parts ++ other.parts;
  few = omega (arith, sum, one.few, other.few, length-append one.parts other.parts);
  before = flat_map-append (λ p. p.0) one.parts other.parts
      ∙ (λ i. one.before i ++ other.before i);
  after = flat_map-append (λ p. p.1) one.parts other.parts
      ∙ (λ i. one.after i ++ other.after i);
  each = All-append (IsPartIn consts size) one.parts other.parts one.each other.each;
}

-- n parts of this size hold all tasks, and so many that the last one isn't empty are at most n
pub few_enough : (count n size len : ℕ) → len ≤ n * size → count * size < len + size → count ≤ n
few_enough count n size len most less = fits (cases_lt n count) where
  up : n < count → suc n ≤ count
  up h = omega (arith, h)

  fits : (n < count) ⊎ (count ≤ n) → count ≤ n
  fits (inl more) =
      absurd (omega (arith, most, less, suc-mul n size, mul-le-mul_right size (up more)))
  fits (inr h) = h

-- at most so many parts are at most more
pub over_most : (consts : WorldConsts) (count n size : ℕ) (old new : List Tasked) → count ≤ n
    → AreOver consts count size old new → AreOver consts n size old new
over_most consts count n size old new most over = record {
  parts = over.parts;
  few = omega (arith, most, over.few);
  before = over.before;
  after = over.after;
  each = over.each;
}

-- the parts with the constants under a name and the tasks lent and returned
pub parts_named : (consts frame2 : WorldConsts) (n : ℕ) (old lent new back : List Tasked)
    → consts ≡ frame2 → lent ≡ old → back ≡ new → HaveRunInParts frame2 n lent new
    → HaveRunInParts consts n old back
parts_named consts frame2 n old lent new back same is are_back parts =
    subst (λ (x : WorldConsts × (List Tasked × List Tasked)). HaveRunInParts x.0 n x.1.0 x.1.1)
    (λ i. (sym same i, (is i, sym are_back i))) parts

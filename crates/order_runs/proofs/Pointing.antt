-- What a turn leaves tells whether it moved its task.
use Rattle.std.proofs.Common.{◌≡◌, ◌+◌, ◌<◌, ◌≤◌, ◌⊎◌, ◌↔◌, IsTrue, ℕ, zero, suc, Bool, true, false, not, nat_lt, List, [], ◌∷◌, ◌++◌, drop, get_or, length, take, Option, Some, None, if◌then◌else◌, slice_get, refl, ap, sym, subst, ◌∙◌, inl, inr, arith, length-append}
use Rattle.std.specs.List.{list_all}
use Rattle.std.proofs.lemmas.Bool.{and_from, and_parts, cases_Bool, lt-ltb, true≢false}
use Rattle.std.proofs.lemmas.List.{drop_more, take_more}
use Rattle.std.proofs.lemmas.Option.{none-some, same_Some, slice_get_within}
use Rattle.order_outcomes.proofs.Moving.{led_fits, start_fits}
use Rattle.order_outcomes.proofs.Telling.{tells}
use Rattle.order_outcomes.proofs.about_counts.Spread.{led-append, led-more}
use Rattle.order_outcomes.proofs.about_counts.Turns.{led-none}
use Rattle.order_outcomes.specs.Made.{made_of}
use Rattle.order_outcomes.specs.Orders.{left_at, moment_after, moved}
use Rattle.order_outcomes.specs.counts.Orders.{led}
use Rattle.order_outcomes.specs.reports.model.History.{Position}
use Rattle.order_outcomes.specs.reports.model.Rounds.{moves, moves_at}
use Rattle.order_outcomes.specs.reports.model.Scene.{Program, Scene}
use Rattle.order_outcomes.specs.reports.model.Turns.{Moment, start_of, turn, turns_of}
use Rattle.order_outcomes.specs.scripts.Limits.{most_turns}
use Rattle.order_runs.specs.Plays.{IsSchedule, moment_by}
use Rattle.order_sights.specs.Sights.{IsSight}
use Rattle.order_runs.specs.Points.{IsMoved, IsPoint, IsPointOf}
use Rattle.order_runs.specs.declared.points.Point.{Point}

-- ---- turns that move are turns of the scene's tasks

moves_within : (scene : Scene) (m : Moment) (n : ℕ) (p : Option Program) (t : Option Position)
    → slice_get scene.programs n ≡ p → moves_at scene m n p t ≡ true
    → nat_lt n (length scene.programs) ≡ true
moves_within scene m n None t at is = absurd (true≢false (sym is))
moves_within scene m n (Some p) t at is =
    lt-ltb n (length scene.programs) (slice_get_within scene.programs n p at)

-- the turns that lead to a moment
led_named : (scene : Scene) (turns : List ℕ) (m at : Moment)
    → led (moved scene) (Some m) turns ≡ Some at
    → list_all (λ n. nat_lt n (length scene.programs)) turns ≡ true
led_named scene [] m at h = refl
led_named scene (n ∷ ns) m at h =
    by (moves scene m n) refl h (led_named scene ns (turn scene m n) at)
  where
    by : (b : Bool) → moves scene m n ≡ b
        → led (moved scene) (if b then Some (turn scene m n) else None) ns ≡ Some at
        → (led (moved scene) (Some (turn scene m n)) ns ≡ Some at
        → list_all (λ n. nat_lt n (length scene.programs)) ns ≡ true)
        → list_all (λ n. nat_lt n (length scene.programs)) (n ∷ ns) ≡ true
    by true is leads rest =
        and_from (nat_lt n (length scene.programs))
        (list_all (λ n. nat_lt n (length scene.programs)) ns)
        (moves_within scene m n (slice_get scene.programs n) (slice_get m.positions n) refl is)
        (rest leads)
    by false is leads rest = absurd (none-some at (sym (led-none (moved scene) ns) ∙ leads))

-- one more named turn
named_more : (count : ℕ) (turns : List ℕ) (n : ℕ) → list_all (λ k. nat_lt k count) turns ≡ true
    → n < count → list_all (λ k. nat_lt k count) (turns ++ n ∷ []) ≡ true
named_more count [] n h lt = and_from (nat_lt n count) true (lt-ltb n count lt) refl
named_more count (k ∷ ks) n h lt =
    let both = and_parts (nat_lt k count) (list_all (λ j. nat_lt j count) ks) h in
    and_from (nat_lt k count) (list_all (λ j. nat_lt j count) (ks ++ n ∷ [])) both.0
    (named_more count ks n both.1 lt)

-- the turns of a point may be a schedule with one turn more
pub more_fits : (scene : Scene) (point : Point) → IsPoint scene point → (n : ℕ)
    → n < length scene.programs → length point.turns < most_turns
    → IsSchedule scene (point.turns ++ n ∷ [])
more_fits scene point p n lt few = record {
  named = named_more (length scene.programs) point.turns n
      (led_named scene point.turns (start_of scene) p.0 p.1.leads) lt;
  few = let more = length-append point.turns (n ∷ []) in omega (arith, more, few);
}

-- no turn is a schedule too
pub none_fits : (scene : Scene) → IsSchedule scene []
none_fits scene = record { named = refl; few = omega arith }

-- ---- one turn more

-- one turn more in a schedule
turns-more : (scene : Scene) (m : Moment) (ns : List ℕ) (n : ℕ)
    → turns_of scene m (ns ++ n ∷ []) ≡ turn scene (turns_of scene m ns) n
turns-more scene m [] n = refl
turns-more scene m (k ∷ ks) n = turns-more scene (turn scene m k) ks n

-- the point without turns
pub start_point : (scene : Scene) (point : Point) → point.turns ≡ []
    → point.made ≡ made_of point.sight.ended → IsSight scene (moment_by scene []) point.sight
    → IsPointOf scene [] point
start_point scene point none made sight = (
  none,
  (
    start_of scene,
    record {
      leads = ap (moment_after scene) none;
      made = made ∙ ap made_of sight.left;
      sight = sight;
    },
  ),
)

-- a task that the scene doesn't have can't move
pub not_named : (scene : Scene) (point : Point) (m : Moment) (n : ℕ)
    → length scene.programs ≤ n → IsMoved scene point n (moved scene m n) None
not_named scene point m n beyond = by (slice_get scene.programs n) refl
  where
    by : (p : Option Program) → slice_get scene.programs n ≡ p
        → IsMoved scene point n
        (if moves_at scene m n p (slice_get m.positions n) then Some (turn scene m n) else None)
        None
    by None at = tt
    by (Some p) at =
        let within = slice_get_within scene.programs n p at in
        absurd (omega (arith, within, beyond))

module _ (scene : Scene) (point : Point) (p : IsPoint scene point) (n : ℕ) (longer : Point)
    (turns : longer.turns ≡ point.turns ++ n ∷ [])
    (made : longer.made ≡ made_of longer.sight.ended)
    (sight : IsSight scene (moment_by scene (point.turns ++ n ∷ [])) longer.sight) (m : Moment)
    (leads : moment_after scene point.turns ≡ Some m) where
  -- the turn leads on from the moment of the point
  there : moment_by scene (point.turns ++ n ∷ []) ≡ turn scene m n
  there =
      turns-more scene (start_of scene) point.turns n
      ∙ ap (λ (x : Moment). turn scene x n)
      (led_fits scene point.turns (start_of scene) m (start_fits scene) leads).1

  after : longer.made ≡ made_of (left_at scene (turn scene m n))
  after = made ∙ ap made_of sight.left ∙ ap (λ (x : Moment). made_of (left_at scene x)) there

  before : point.made ≡ made_of (left_at scene m)
  before = p.1.made ∙ ap (λ (x : Moment). made_of (left_at scene x))
      (same_Some p.0 m (sym p.1.leads ∙ leads))

  -- as much is made as before: the turn leads nowhere
  moved_none : longer.made ≡ point.made → IsMoved scene point n (moved scene m n) None
  moved_none same =
      let still = (tells scene point.turns m n leads).0 (sym after ∙ same ∙ before) in
      subst (λ (b : Bool).
      IsMoved scene point n (if b then Some (turn scene m n) else None) None)
      (sym still) tt

  -- more is made: it leads on
  moved_some : ((longer.made ≡ point.made) → ⊥)
      → IsMoved scene point n (moved scene m n) (Some longer)
  moved_some more = by (cases_Bool (moves scene m n))
    where
      next : moves scene m n ≡ true → moved scene m n ≡ Some (turn scene m n)
      next is = ap (λ (b : Bool). if b then Some (turn scene m n) else None) is

      by : (moves scene m n ≡ true) ⊎ (moves scene m n ≡ false)
          → IsMoved scene point n (moved scene m n) (Some longer)
      by (inl moved_it) =
          subst (λ (o : Option Moment). IsMoved scene point n o (Some longer))
          (sym (next moved_it)) (
            turns,
            record {
              leads = ap (moment_after scene) turns
                  ∙ led-more (moved scene) (Some (start_of scene)) point.turns n m leads
                  ∙ next moved_it;
              made = after;
              sight = subst (λ (x : Moment). IsSight scene x longer.sight) there sight;
            },
          )
      by (inr stood) =
          absurd (more (after ∙ (tells scene point.turns m n leads).1 stood ∙ sym before))

  -- whether as much is made decides
  pub moved_unless : (same : Bool) → IsTrue same ↔ (longer.made ≡ point.made) → (o : Option Point)
      → o ≡ (if not same then Some longer else None) → IsMoved scene point n (moved scene m n) o
  moved_unless true made_same o is =
      subst (IsMoved scene point n (moved scene m n)) (sym is) (moved_none (made_same.0 refl))
  moved_unless false made_same o is =
      subst (IsMoved scene point n (moved scene m n)) (sym is)
      (moved_some (λ e. true≢false (sym (made_same.1 e))))

-- ---- turns one after the other

-- a turn that leads on gives the point of one turn more
pub point_on : (scene : Scene) (turns : List ℕ) (i n : ℕ) (point longer : Point)
    (o : Option Moment) → i < length turns → n ≡ get_or turns i 0 → point.turns ≡ take i turns
    → IsMoved scene point n o (Some longer) → IsPointOf scene (take (i + 1) turns) longer
point_on scene turns i n point longer None lt is so_far h = absurd h
point_on scene turns i n point longer (Some m) lt is so_far h = (
  h.0
      ∙ ap (λ (l : List ℕ). l ++ n ∷ []) so_far
      ∙ ap (λ (k : ℕ). take i turns ++ k ∷ []) is
      ∙ sym (take_more turns i 0 lt),
  (m, h.1),
)

stood : (scene : Scene) (point : Point) (n : ℕ) (o : Option Moment)
    → IsMoved scene point n o None → o ≡ None
stood scene point n None h = refl
stood scene point n (Some m) h = absurd h

-- the first turns and the others
parts : (turns : List ℕ) (i : ℕ) → turns ≡ take i turns ++ drop i turns
parts [] zero = refl
parts [] (suc i) = refl
parts (n ∷ ns) zero = refl
parts (n ∷ ns) (suc i) = ap (λ (l : List ℕ). n ∷ l) (parts ns i)

-- if one of the turns leads nowhere, so do all
pub leads_nowhere : (scene : Scene) (turns : List ℕ) (i n : ℕ) (point : Point)
    → i < length turns → n ≡ get_or turns i 0 → (p : IsPoint scene point)
    → point.turns ≡ take i turns → IsMoved scene point n (moved scene p.0 n) None
    → moment_after scene turns ≡ None
leads_nowhere scene turns i n point lt is p so_far none =
    ap (moment_after scene) (parts turns i ∙ ap (λ (l : List ℕ). take i turns ++ l) rest)
    ∙ led-append (moved scene) (Some (start_of scene)) (take i turns) (n ∷ drop (i + 1) turns)
    ∙ ap (λ (o : Option Moment). led (moved scene) o (n ∷ drop (i + 1) turns))
    (ap (moment_after scene) (sym so_far) ∙ p.1.leads)
    ∙ ap (λ (o : Option Moment). led (moved scene) o (drop (i + 1) turns))
    (stood scene point n (moved scene p.0 n) none)
    ∙ led-none (moved scene) (drop (i + 1) turns)
  where
    rest : drop i turns ≡ n ∷ drop (i + 1) turns
    rest = drop_more turns i 0 lt ∙ ap (λ (k : ℕ). k ∷ drop (i + 1) turns) (sym is)

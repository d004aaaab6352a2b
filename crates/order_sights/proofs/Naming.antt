-- The names that pairs of files give.
use Rattle.std.proofs.Common.{◌≡◌, ℕ, suc, ◌<◌, ◌≤◌, Bool, true, false, not, ◌&&◌, ◌||◌, List, [], ◌∷◌, length, map, Option, Some, None, option_map, if◌then◌else◌, refl, ap, sym, subst, ◌∙◌, eqb-true, arith}
use Rattle.std.specs.Prelude.{◌==◌, All, nat_lt}
use Rattle.std.specs.List.{list_all, list_any}
use Rattle.std.proofs.lemmas.Bool.{and_parts, eq-eqb, ltb-true, true≢false}
use Rattle.std.proofs.lemmas.List.Elements.{All-head, All-tail}
use Rattle.call_steps.specs.CallState.{Progress}
use Rattle.call_steps.specs.declared.held.Handle.{Handle}
use Rattle.run_model.specs.History.{Position}
use Rattle.order_outcomes.specs.alike.Names.{handle_named, has_file, in_handles, in_progress, is_used, position_named, progress_named}
use Rattle.order_sights.specs.Pairs.{ArePositionsPaired, AreTwo, HandlesPaired, IsHandlePaired, IsPositionPaired, IsProgressPaired, are_apart, are_within, has_pair, is_apart, named, same_bool}
use Rattle.order_sights.specs.declared.pairs.Pair.{Pair}

-- ---- lists

same_bool_is : (a b : Bool) → same_bool a b ≡ true → a ≡ b
same_bool_is true true h = refl
same_bool_is true false h = absurd (true≢false (sym h))
same_bool_is false true h = absurd (true≢false (sym h))
same_bool_is false false h = refl

-- related items, one of which passes a test
any_two : {X Y : Type 0} (P : X → Y → Type 0) (test : X → Bool) (xs : List X) (ys : List Y)
    → length ys ≡ length xs → AreTwo P xs ys (length xs) → list_any test xs ≡ true
    → (x : X) × ((y : Y) × (P x y × (test x ≡ true)))
any_two P test [] ys even h any = absurd (true≢false (sym any))
any_two P test (x ∷ xs) [] even h any = absurd (omega (arith, even))
any_two {X} {Y} P test (x ∷ xs) (y ∷ ys) even h any =
    by (test x) refl any
    (any_two P test xs ys (omega (arith, even)) (λ k lt. h (suc k) (omega (arith, lt))))
  where
    by : (b : Bool) → test x ≡ b → (b || list_any test xs) ≡ true
        → (list_any test xs ≡ true → (x : X) × ((y : Y) × (P x y × (test x ≡ true))))
        → (x : X) × ((y : Y) × (P x y × (test x ≡ true)))
    by true is found rest = (x, (y, (h 0 (omega arith) x y refl refl, is)))
    by false is found rest = rest found

-- items that a function gives
two_map : {X Y : Type 0} (f : X → Y) (xs : List X) (ys : List Y) → length ys ≡ length xs
    → AreTwo (λ x y. y ≡ f x) xs ys (length xs) → ys ≡ map f xs
two_map f [] [] even h = refl
two_map f [] (y ∷ ys) even h = absurd (omega (arith, even))
two_map f (x ∷ xs) [] even h = absurd (omega (arith, even))
two_map f (x ∷ xs) (y ∷ ys) even h =
    let rest = two_map f xs ys (omega (arith, even)) (λ k lt. h (suc k) (omega (arith, lt))) in
    let first : y ≡ f x = h 0 (omega arith) x y refl refl in
    λ i. first i ∷ rest i

-- ---- one pair

-- what all pairs pass, a pair passes
passed : (test : Pair → Bool) (i f g : ℕ) (ps : List Pair) → list_all test ps ≡ true
    → has_pair ps i f g ≡ true → test (record { inode = i; first = f; second = g }) ≡ true
passed test i f g [] all has = absurd (true≢false (sym has))
passed test i f g (p ∷ ps) all has =
    let parts = and_parts (test p) (list_all test ps) all in
    by (p.inode == i) (p.first == f) (p.second == g) refl refl refl has parts.0
    (passed test i f g ps parts.1)
  where
    by : (x y z : Bool) → (p.inode == i) ≡ x → (p.first == f) ≡ y → (p.second == g) ≡ z
        → ((x && y && z) || has_pair ps i f g) ≡ true → test p ≡ true
        → (has_pair ps i f g ≡ true
        → test (record { inode = i; first = f; second = g }) ≡ true)
        → test (record { inode = i; first = f; second = g }) ≡ true
    by true true true ex ey ez found here rest =
        ap test (λ k. record {
          inode = sym (eqb-true p.inode i ex) k;
          first = sym (eqb-true p.first f ey) k;
          second = sym (eqb-true p.second g ez) k;
        }) ∙ here
    by true true false ex ey ez found here rest = rest found
    by true false z ex ey ez found here rest = rest found
    by false y z ex ey ez found here rest = rest found

-- what holds of all pairs, holds of a pair
pub passed_all : (P : Pair → Type 0) (i f g : ℕ) (ps : List Pair) → All P ps
    → has_pair ps i f g ≡ true → P (record { inode = i; first = f; second = g })
passed_all P i f g [] all has = absurd (true≢false (sym has))
passed_all P i f g (p ∷ ps) all has =
    by (p.inode == i) (p.first == f) (p.second == g) refl refl refl has
    (passed_all P i f g ps (All-tail P p ps all))
  where
    by : (x y z : Bool) → (p.inode == i) ≡ x → (p.first == f) ≡ y → (p.second == g) ≡ z
        → ((x && y && z) || has_pair ps i f g) ≡ true
        → (has_pair ps i f g ≡ true → P (record { inode = i; first = f; second = g }))
        → P (record { inode = i; first = f; second = g })
    by true true true ex ey ez found rest =
        subst P (λ k. record {
          inode = eqb-true p.inode i ex k;
          first = eqb-true p.first f ey k;
          second = eqb-true p.second g ez k;
        }) (All-head P p ps all)
    by true true false ex ey ez found rest = rest found
    by true false z ex ey ez found rest = rest found
    by false y z ex ey ez found rest = rest found

module _ (pairs : List Pair) (apart : are_apart pairs ≡ true) where
  -- a pair is apart from all others
  apart_from : (i f g : ℕ) → has_pair pairs i f g ≡ true
      → list_all (is_apart (record { inode = i; first = f; second = g })) pairs ≡ true
  apart_from i f g has =
      passed (λ p. list_all (is_apart p) pairs) i f g pairs apart has

  named_by : (i f g : ℕ) (ps : List Pair)
      → list_all (is_apart (record { inode = i; first = f; second = g })) ps ≡ true
      → has_pair ps i f g ≡ true → named ps i f ≡ g
  named_by i f g [] all has = absurd (true≢false (sym has))
  named_by i f g (p ∷ ps) all has =
      let parts = and_parts (is_apart (record { inode = i; first = f; second = g }) p)
      (list_all (is_apart (record { inode = i; first = f; second = g })) ps) all in
      by (p.inode == i) (p.first == f) (p.second == g) refl refl refl has parts.0
      (named_by i f g ps parts.1)
    where
      by : (x y z : Bool) → (p.inode == i) ≡ x → (p.first == f) ≡ y → (p.second == g) ≡ z
          → ((x && y && z) || has_pair ps i f g) ≡ true → (not x || same_bool y z) ≡ true
          → (has_pair ps i f g ≡ true → named ps i f ≡ g)
          → (if x && y then p.second else named ps i f) ≡ g
      by true true true ex ey ez found here rest = eqb-true p.second g ez
      by true true false ex ey ez found here rest = absurd (true≢false (sym here))
      by true false z ex ey ez found here rest = rest found
      by false y z ex ey ez found here rest = rest found

  -- a pair gives its first file the name of its second
  pub named_is : (i f g : ℕ) → has_pair pairs i f g ≡ true → named pairs i f ≡ g
  named_is i f g has = named_by i f g pairs (apart_from i f g has) has

  -- files in pairs are the same under both names, or under neither
  pub named_apart : (i f g f2 g2 : ℕ) → has_pair pairs i f f2 ≡ true → has_pair pairs i g g2 ≡ true
      → (named pairs i f == named pairs i g) ≡ (f == g)
  named_apart i f g f2 g2 has has2 =
      (λ k. named_is i f f2 has k == named_is i g g2 has2 k)
      ∙ sym (same_bool_is (f == g) (f2 == g2)
      (by (i == i) (eq-eqb i i refl)
      (passed (is_apart (record { inode = i; first = g; second = g2 })) i f f2 pairs
      (apart_from i g g2 has2) has)))
    where
      by : (b : Bool) → b ≡ true → (not b || same_bool (f == g) (f2 == g2)) ≡ true
          → same_bool (f == g) (f2 == g2) ≡ true
      by true is h = h
      by false is h = absurd (true≢false (sym is))

-- a file of an inode beyond all pairs has no other name
pub named_elsewhere : (end i f : ℕ) (ps : List Pair) → are_within end ps ≡ true → end ≤ i
    → named ps i f ≡ f
named_elsewhere end i f [] within le = refl
named_elsewhere end i f (p ∷ ps) within le =
    let parts = and_parts (nat_lt p.inode end) (are_within end ps) within in
    by (p.inode == i) refl (ltb-true p.inode end parts.0) (named_elsewhere end i f ps parts.1 le)
  where
    by : (b : Bool) → (p.inode == i) ≡ b → p.inode < end → named ps i f ≡ f
        → (if b && p.first == f then p.second else named ps i f) ≡ f
    by true is lt rest =
        let e = eqb-true p.inode i is in absurd (omega (arith, e, lt, le))
    by false is lt rest = rest

-- ---- tasks

module _ (pairs : List Pair) (apart : are_apart pairs ≡ true) where
  progress_is : (o u : Option Progress) → IsProgressPaired pairs o u
      → u ≡ option_map (progress_named (named pairs)) o
  progress_is None None h = refl
  progress_is None (Some g) h = absurd h
  progress_is (Some g) None h = absurd h
  progress_is (Some g) (Some k) h =
      ap Some (h.same ∙ ap (λ (f : ℕ). record g { file = f })
      (sym (named_is pairs apart g.inode g.file k.file h.files)))

  handles_are : (hs ks : List Handle) → HandlesPaired pairs hs ks
      → ks ≡ map (handle_named (named pairs)) hs
  handles_are hs ks h =
      two_map (handle_named (named pairs)) hs ks h.0
      (λ j lt x y at at2. let both = h.1 j lt x y at at2 in
      both.same ∙ ap (λ (f : ℕ). record x { file = f })
      (sym (named_is pairs apart x.inode x.file y.file both.files)))

  -- the tasks of the second moment are those of the first under the other names
  pub positions_are : (ts us : List Position) → ArePositionsPaired pairs ts us
      → us ≡ map (position_named (named pairs)) ts
  positions_are ts us h =
      two_map (position_named (named pairs)) ts us h.0
      (λ j lt t u at at2. let both = h.1 j lt t u at at2 in λ i. record {
        call_state = record {
          at = both.at i;
          progress = progress_is t.call_state.progress u.call_state.progress both.progress i;
          handles = handles_are t.call_state.handles u.call_state.handles both.handles i;
        };
        replies = both.replies i;
      })

  -- a file that a task has is in a pair
  in_pair : (i f a b g : ℕ) → (a == i && b == f) ≡ true → has_pair pairs a b g ≡ true
      → (g : ℕ) × (has_pair pairs i f g ≡ true)
  in_pair i f a b g h has =
      let parts = and_parts (a == i) (b == f) h in (
        g,
        (λ k. has_pair pairs (sym (eqb-true a i parts.0) k) (sym (eqb-true b f parts.1) k) g)
            ∙ has,
      )

  progress_in : (i f : ℕ) (o u : Option Progress) → IsProgressPaired pairs o u
      → in_progress i f o ≡ true → (g : ℕ) × (has_pair pairs i f g ≡ true)
  progress_in i f None u h is = absurd (true≢false (sym is))
  progress_in i f (Some g) None h is = absurd h
  progress_in i f (Some g) (Some k) h is = in_pair i f g.inode g.file k.file is h.files

  handles_in : (i f : ℕ) (hs ks : List Handle) → HandlesPaired pairs hs ks
      → in_handles i f hs ≡ true → (g : ℕ) × (has_pair pairs i f g ≡ true)
  handles_in i f hs ks h is =
      let found = any_two (IsHandlePaired pairs)
      (λ (x : Handle). x.inode == i && x.file == f) hs ks h.0 h.1 is in
      in_pair i f found.0.inode found.0.file found.1.0.file found.1.1.1 found.1.1.0.files

  file_in : (i f : ℕ) (t u : Position) → IsPositionPaired pairs t u → has_file i f t ≡ true
      → (g : ℕ) × (has_pair pairs i f g ≡ true)
  file_in i f t u h is = by (in_progress i f t.call_state.progress) refl is
    where
      by : (b : Bool) → in_progress i f t.call_state.progress ≡ b
          → (b || in_handles i f t.call_state.handles) ≡ true
          → (g : ℕ) × (has_pair pairs i f g ≡ true)
      by true here found =
          progress_in i f t.call_state.progress u.call_state.progress h.progress here
      by false here found = handles_in i f t.call_state.handles u.call_state.handles h.handles found

  pub used_in : (i f : ℕ) (ts us : List Position) → ArePositionsPaired pairs ts us
      → has_pair pairs i 0 0 ≡ true → is_used ts i f ≡ true
      → (g : ℕ) × (has_pair pairs i f g ≡ true)
  used_in i f ts us h none is = by (f == 0) refl is
    where
      by : (b : Bool) → (f == 0) ≡ b → (b || list_any (has_file i f) ts) ≡ true
          → (g : ℕ) × (has_pair pairs i f g ≡ true)
      by true here found =
          (0, ap (λ n. has_pair pairs i n 0) (eqb-true f 0 here) ∙ none)
      by false here found =
          let there = any_two (IsPositionPaired pairs) (has_file i f) ts us h.0 h.1 found in
          file_in i f there.0 there.1.0 there.1.1.0 there.1.1.1

-- The posts and waits of all tasks add up to those of the list.
use Rattle.std.proofs.Common.{◌≡◌, ℕ, zero, suc, ◌+◌, ◌<◌, ◌≤◌, Bool, true, false, cond, List, [], ◌∷◌, ◌++◌, length, map, Some, refl, sym, ◌∙◌, ap, subst, arith, inl, inr}
use Rattle.std.specs.Prelude.{◌⊎◌, ◌==◌, All, reverse, slice_get, take}
use Rattle.std.proofs.lemmas.Bool.{ne_eqb, eq-eqb, cases_eq, cases_order, cond-false}
use Rattle.std.proofs.lemmas.List.{reverse-append}
use Rattle.std.proofs.lemmas.List.Elements.{All-head, All-tail}
use Rattle.grow_list.specs.Entries.{entries_from}
use Rattle.inode_events.specs.Callers.{caller_of}
use Rattle.inode_events.specs.NewestFirst.{newest_first}
use Rattle.inode_events.specs.Semaphores.{is_post, is_wait, posts, waits}
use Rattle.inode_events.specs.declared.deed.Deed.{Deed}
use Rattle.inode_events.specs.declared.told.Event.{Event}
use Rattle.call_steps.specs.declared.call.Call.{Call}
use Rattle.run_model.specs.Ended.{answered, answered_by, how_many, posts_to, waits_for}
use Rattle.run_model.specs.History.{Position, own_signals}
use Rattle.run_model.specs.Scene.{Program, Scene, mode_of}
use Rattle.run_model.specs.Turns.{Moment, State}
use Rattle.run_laws.specs.progress.Resting.{IsReached, Resting, SignalsCounted, SignalsCountedWhenReached}
use Rattle.run_laws.proofs.progress.Counted.{Agree, Fits, bit, history_fits, passing, posts_agree, waits_agree}

-- the number of events that pass, and of one caller's events that pass
abbrev pub tally : (Deed → Bool) → List Event → ℕ
tally on_deed [] = 0
tally on_deed (e ∷ es) = bit (on_deed e.deed) + tally on_deed es

abbrev pub tally_by : (Deed → Bool) → ℕ → List Event → ℕ
tally_by on_deed n [] = 0
tally_by on_deed n (e ∷ es) =
    cond (n == caller_of e) (bit (on_deed e.deed) + tally_by on_deed n es) (tally_by on_deed n es)

cond_bit : (b : Bool) (n m : ℕ) → n ≡ m → cond b (1 + n) n ≡ bit b + m
cond_bit true n m e = omega arith
cond_bit false n m e = omega arith

posts_tally : (sem : ℕ) (es : List Event) → posts sem es ≡ tally (is_post sem) es
posts_tally sem [] = refl
posts_tally sem (e ∷ es) =
    cond_bit (is_post sem e.deed) (posts sem es) (tally (is_post sem) es) (posts_tally sem es)

waits_tally : (sem : ℕ) (es : List Event) → waits sem es ≡ tally (is_wait sem) es
waits_tally sem [] = refl
waits_tally sem (e ∷ es) =
    cond_bit (is_wait sem e.deed) (waits sem es) (tally (is_wait sem) es) (waits_tally sem es)

entries_tally : (on_deed : Deed → Bool) (n k : ℕ) (es : List Event)
    → passing on_deed (entries_from n k (map caller_of es) es) ≡ tally_by on_deed n es
entries_tally on_deed n k [] = refl
entries_tally on_deed n k (e ∷ es) =
    at (n == caller_of e) (entries_tally on_deed n (k + 1) es) where
      at : (b : Bool) → passing on_deed (entries_from n (k + 1) (map caller_of es) es)
          ≡ tally_by on_deed n es
          → passing on_deed (cond b ((k, e) ∷ entries_from n (k + 1) (map caller_of es) es)
          (entries_from n (k + 1) (map caller_of es) es))
          ≡ cond b (bit (on_deed e.deed) + tally_by on_deed n es) (tally_by on_deed n es)
      at true h = cond_bit (on_deed e.deed) _ _ h
      at false h = h

-- ---- sums over numbers

abbrev pub totals : (ℕ → ℕ) → ℕ → ℕ
totals f zero = 0
totals f (suc k) = totals f k + f k

totals_first : (f : ℕ → ℕ) (k : ℕ) → totals f (suc k) ≡ f 0 + totals (λ j. f (suc j)) k
totals_first f zero = omega arith
totals_first f (suc k) = let ih = totals_first f k in omega arith

totals_same : (f g : ℕ → ℕ) → ((j : ℕ) → f j ≡ g j) → (k : ℕ) → totals f k ≡ totals g k
totals_same f g e zero = refl
totals_same f g e (suc k) = let ih = totals_same f g e k in let here : f k ≡ g k =
    e k in omega arith

-- a function that is increased at one place
abbrev one_more : ℕ → ℕ → (ℕ → ℕ) → ℕ → ℕ
one_more c w r j = cond ((j + 1) == c) (w + r j) (r j)

totals_none : (c w : ℕ) (r : ℕ → ℕ) (k : ℕ) → k < c → totals (one_more c w r) k ≡ totals r k
totals_none c w r zero l = refl
totals_none c w r (suc k) l =
    let ih : totals (one_more c w r) k ≡ totals r k = totals_none c w r k (omega arith) in
    let here : one_more c w r k ≡ r k =
    cond-false ((k + 1) == c) (w + r k) (r k) (ne_eqb (k + 1) c (λ e. absurd (omega arith))) in
    omega arith

before_end : (c k : ℕ) → c ≤ suc k → ((k + 1) ≡ c → ⊥) → c ≤ k
before_end c k l n = at (cases_order (k + 1) c) where
  at : ((k + 1) ≡ c) ⊎ (((k + 1) < c) ⊎ (c < k + 1)) → c ≤ k
  at (inl e) = absurd (n e)
  at (inr (inl x)) = absurd (omega arith)
  at (inr (inr x)) = omega arith

totals_one : (c w : ℕ) (r : ℕ → ℕ) (k : ℕ) → 0 < c → c ≤ k
    → totals (one_more c w r) k ≡ w + totals r k
totals_one c w r zero p l = absurd (omega arith)
totals_one c w r (suc k) p l = at (λ m. totals_one c w r k p m) (cases_eq (k + 1) c) where
  at : (c ≤ k → totals (one_more c w r) k ≡ w + totals r k) → ((k + 1) ≡ c) ⊎ ((k + 1) ≡ c → ⊥)
      → totals (one_more c w r) k + one_more c w r k ≡ w + (totals r k + r k)
  at ih (inl e) =
      let rest : totals (one_more c w r) k ≡ totals r k = totals_none c w r k (omega arith) in
      let here : one_more c w r k ≡ w + r k =
      ap (λ (b : Bool). cond b (w + r k) (r k)) (eq-eqb (k + 1) c e) in
      omega arith
  at ih (inr n) =
      let below : c ≤ k = before_end c k l n in
      let rest : totals (one_more c w r) k ≡ w + totals r k = ih below in
      let here : one_more c w r k ≡ r k =
      cond-false ((k + 1) == c) (w + r k) (r k) (ne_eqb (k + 1) c n) in
      omega arith

abbrev pub IsSigned : ℕ → Event → Type 0
IsSigned count e = (0 < caller_of e) × (caller_of e ≤ count)

-- the tasks' events are all events
tally_total : (on_deed : Deed → Bool) (count : ℕ) (es : List Event) → All (IsSigned count) es
    → totals (λ j. tally_by on_deed (j + 1) es) count ≡ tally on_deed es
tally_total on_deed count [] s = none count where
  none : (k : ℕ) → totals (λ j. 0) k ≡ 0
  none zero = refl
  none (suc k) = let ih = none k in omega arith
tally_total on_deed count (e ∷ es) s =
    let here : IsSigned count e = All-head (IsSigned count) e es s in
    let rest : totals (λ j. tally_by on_deed (j + 1) es) count ≡ tally on_deed es =
    tally_total on_deed count es (All-tail (IsSigned count) e es s) in
    totals_one (caller_of e) (bit (on_deed e.deed))
    (λ j. tally_by on_deed (j + 1) es) count here.0 here.1
    ∙ ap (λ (n : ℕ). bit (on_deed e.deed) + n) rest

-- ---- over all tasks

answered_total : (test : Call → Bool) (programs : List Program) (positions : List Position)
    (f : ℕ → ℕ) → length positions ≡ length programs
    → ((k : ℕ) (p : Program) (t : Position) → slice_get programs k ≡ Some p
    → slice_get positions k ≡ Some t → how_many test (answered p t) ≡ f k)
    → answered_by test programs positions ≡ totals f (length programs)
answered_total test [] positions f even each = refl
answered_total test (p ∷ ps) [] f even each = absurd (omega arith)
answered_total test (p ∷ ps) (t ∷ ts) f even each =
    let here : how_many test (answered p t) ≡ f 0 = each 0 p t refl refl in
    let rest : answered_by test ps ts ≡ totals (λ j. f (suc j)) (length ps) =
    answered_total test ps ts (λ j. f (suc j)) (omega arith) (λ k. each (suc k)) in
    let first : totals f (suc (length ps)) ≡ f 0 + totals (λ j. f (suc j)) (length ps) =
    totals_first f (length ps) in
    omega arith

task_tally : (on_deed : Deed → Bool) (on_call : Call → Bool) → Agree on_deed on_call
    → (scene : Scene) (s : State) (n : ℕ) (p : Program) (t : Position) → Resting scene s n p t
    → how_many on_call (answered p t) ≡ tally_by on_deed (n + 1) s.signals
task_tally on_deed on_call agree scene s n p t r =
    let fits : Fits on_deed on_call p t (own_signals (mode_of scene) n p r.history) =
    subst (λ (u : Position). Fits on_deed on_call p u
    (own_signals (mode_of scene) n p r.history)) r.stands
    (history_fits on_deed on_call agree (mode_of scene) n p r.history) in
    ap (λ (k : ℕ). how_many on_call (take k p.calls)) fits.even ∙ fits.counted
    ∙ ap (passing on_deed) (sym r.signals) ∙ entries_tally on_deed (n + 1) 0 s.signals

run_tally : (on_deed : Deed → Bool) (on_call : Call → Bool) → Agree on_deed on_call
    → (scene : Scene) (m : Moment) → IsReached scene m
    → answered_by on_call scene.programs m.positions ≡ tally on_deed m.state.signals
run_tally on_deed on_call agree scene m r =
    answered_total on_call scene.programs m.positions
    (λ j. tally_by on_deed (j + 1) m.state.signals) r.legal.positions_even
    (λ k p t a b. task_tally on_deed on_call agree scene m.state k p t (r.tasks k p t a b))
    ∙ tally_total on_deed (length scene.programs) m.state.signals r.legal.signed

pub counted_when_reached : SignalsCountedWhenReached
counted_when_reached scene m r sem = (
  run_tally (is_post sem) (posts_to sem) (posts_agree sem) scene m r
      ∙ sym (posts_tally sem m.state.signals),
  run_tally (is_wait sem) (waits_for sem) (waits_agree sem) scene m r
      ∙ sym (waits_tally sem m.state.signals),
)

-- the law at a moment at which no task moves
pub counted : SignalsCounted
counted scene m r sem =
    counted_when_reached scene m (record { legal = r.legal; tasks = r.tasks }) sem

-- ---- the list and its reverse

tally_append : (on_deed : Deed → Bool) (xs ys : List Event)
    → tally on_deed (xs ++ ys) ≡ tally on_deed xs + tally on_deed ys
tally_append on_deed [] ys = omega arith
tally_append on_deed (x ∷ xs) ys = let ih = tally_append on_deed xs ys in omega arith

tally_reverse : (on_deed : Deed → Bool) (xs : List Event)
    → tally on_deed (reverse xs) ≡ tally on_deed xs
tally_reverse on_deed [] = refl
tally_reverse on_deed (x ∷ xs) =
    let ih : tally on_deed (reverse xs) ≡ tally on_deed xs = tally_reverse on_deed xs in
    let parts : tally on_deed (reverse xs ++ x ∷ [])
    ≡ tally on_deed (reverse xs) + tally on_deed (x ∷ []) = tally_append on_deed (reverse xs)
    (x ∷ []) in
    ap (tally on_deed) (reverse-append (x ∷ []) xs) ∙ omega arith

pub count_past : (sem : ℕ) (list : List Event)
    → (posts sem (newest_first list) ≡ posts sem list)
    × (waits sem (newest_first list) ≡ waits sem list)
unfolding newest_first
count_past sem list = (
  posts_tally sem (reverse list) ∙ tally_reverse (is_post sem) list ∙ sym (posts_tally sem list),
  waits_tally sem (reverse list) ∙ tally_reverse (is_wait sem) list ∙ sym (waits_tally sem list),
)

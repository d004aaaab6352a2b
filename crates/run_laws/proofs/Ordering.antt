-- The places rise along the steps of a task.
use Rattle.std.proofs.Common.{◌≡◌, ℕ, ◌+◌, ◌<◌, Bool, true, false, ◌&&◌, ◌||◌, cond, List, [], ◌∷◌, ◌++◌, length, Option, Some, refl, sym, ◌∙◌, ap, subst, arith, inl, inr}
use Rattle.std.specs.Prelude.{◌⊎◌, ◌==◌, nat_lt, All, Contains, reverse}
use Rattle.std.proofs.lemmas.Bool.{and_parts, or_cases, ltb-true, eqb-true, eq-eqb}
use Rattle.std.proofs.lemmas.List.Elements.{All-contains, Contains-append_cases}
use Rattle.inode_meta.specs.declared.step.Who.{Who}
use Rattle.inode_events.specs.Merged.{Journal, StepsRise, is_earlier}
use Rattle.inode_events.specs.declared.told.Event.{Event}
use Rattle.inode_events.specs.Callers.{caller_of}
use Rattle.journal_laws.specs.Own.{own_past}
use Rattle.run_laws.specs.Steps.{Above, AreStepped, NamesBelow, Rises, Made, Stepped, AreOrdered, own_in, place_added, place_named}
use Rattle.list_lemmas.proofs.Containing.{has_at, has_cases, has_first, has_later, has_none, has_reversed}
use Rattle.run_laws.proofs.Naming.{added_by_event, named_by_event}

-- an earlier step is of the same task, in an earlier call or earlier in the same call
pub before_or_at : (a b : Who) → is_earlier a b ≡ true → (a.task ≡ b.task)
    × ((a.call < b.call) ⊎ ((a.call ≡ b.call) × (a.step < b.step)))
before_or_at a b h =
    let p : ((a.task == b.task) ≡ true)
    × ((nat_lt a.call b.call || (a.call == b.call && nat_lt a.step b.step)) ≡ true) =
    and_parts _ _ h in
    (eqb-true a.task b.task p.0, at (or_cases _ _ p.1)) where
      at : (nat_lt a.call b.call ≡ true) ⊎ ((a.call == b.call && nat_lt a.step b.step) ≡ true)
          → (a.call < b.call) ⊎ ((a.call ≡ b.call) × (a.step < b.step))
      at (inl l) = inl (ltb-true a.call b.call l)
      at (inr m) = let q : ((a.call == b.call) ≡ true) × (nat_lt a.step b.step ≡ true) =
          and_parts _ _ m in inr (eqb-true a.call b.call q.0, ltb-true a.step b.step q.1)

-- two steps aren't each earlier than the other
not_both : (a b : Who) → is_earlier a b ≡ true → is_earlier b a ≡ true → ⊥
not_both a b h k = at (before_or_at a b h).1 (before_or_at b a k).1 where
  at : (a.call < b.call) ⊎ ((a.call ≡ b.call) × (a.step < b.step)) → (b.call < a.call)
      ⊎ ((b.call ≡ a.call) × (b.step < a.step)) → ⊥
  at (inl x) (inl y) = absurd (omega arith)
  at (inl x) (inr y) = let z : b.call ≡ a.call = y.0 in absurd (omega arith)
  at (inr x) (inl y) = let z : a.call ≡ b.call = x.0 in absurd (omega arith)
  at (inr x) (inr y) =
      let z : a.step < b.step = x.1 in let w : b.step < a.step = y.1 in absurd (omega arith)

-- an added place is above all that earlier steps named
above_at : (o : Option ℕ) (k : ℕ) (steps : List Made) → o ≡ Some k → Above o steps
    → All (NamesBelow k) steps
above_at o k steps e a = subst (λ (x : Option ℕ). Above x steps) e a

-- of two steps in order, the later adds above every place that the earlier named
ordered : (steps : List Made) → Rises steps → AreOrdered steps → (a b : Made) (m k : ℕ)
    → Contains steps a → Contains steps b → is_earlier a.event.who b.event.who ≡ true
    → Contains (place_named a.event) m → place_added b.event ≡ Some k → m < k
ordered [] r w a b m k ha hb e n t = absurd (has_none a ha)
ordered (s ∷ steps) r w a b m k ha hb e n t = at (λ x y. ordered steps r.1 w.1 a b m k x y e n t)
    (has_cases s a steps ha) (has_cases s b steps hb) where
      at : (Contains steps a → Contains steps b → m < k) → (s ≡ a) ⊎ Contains steps a → (s ≡ b)
          ⊎ Contains steps b → m < k
      at ih (inl x) (inl y) =
          let same : is_earlier a.event.who a.event.who ≡ true =
          ap (λ (z : Made). is_earlier a.event.who z.event.who) (sym x)
          ∙ ap (λ (z : Made). is_earlier a.event.who z.event.who) y ∙ e in
          absurd (not_both a.event.who a.event.who same same)
      at ih (inl x) (inr y) =
          let later : is_earlier b.event.who s.event.who ≡ true =
          All-contains (λ (z : Made). is_earlier z.event.who s.event.who ≡ true) steps b w.0 y in
          let earlier : is_earlier s.event.who b.event.who ≡ true =
          ap (λ (z : Made). is_earlier z.event.who b.event.who) x ∙ e in
          absurd (not_both s.event.who b.event.who earlier later)
      at ih (inr x) (inl y) =
          let added : place_added s.event ≡ Some k = ap (λ (z : Made). place_added z.event) y ∙ t in
          let below : NamesBelow k a = All-contains (NamesBelow k) steps a
          (above_at (place_added s.event) k steps added r.0) x in
          All-contains (λ (j : ℕ). j < k) (place_named a.event) m below n
      at ih (inr x) (inr y) = ih x y

-- ---- the step of an event

-- each own event comes from a step
step_in : (i : ℕ) (steps : List Made) (x : ℕ × Event) → Contains (own_in i steps) x → (s : Made)
    × Contains steps s × (s.event ≡ x.1)
step_in i [] x h = absurd (has_none x h)
step_in i (s ∷ steps) x h = at (λ y. step_in i steps x y) (s.journal == i) h where
  later : ((t : Made) × Contains steps t × (t.event ≡ x.1)) → (t : Made) × Contains (s ∷ steps) t
      × (t.event ≡ x.1)
  later r = (r.0, has_later s r.0 steps r.1, r.2)

  last : ((s.place, s.event) ≡ x) ⊎ Contains [] x → (t : Made) × Contains (s ∷ steps) t
      × (t.event ≡ x.1)
  last (inl e) = (s, has_first s steps, ap (λ (y : ℕ × Event). y.1) e)
  last (inr f) = absurd (has_none x f)

  here : (Contains (own_in i steps) x → (t : Made) × Contains steps t × (t.event ≡ x.1))
      → Contains (own_in i steps) x ⊎ Contains ((s.place, s.event) ∷ []) x → (t : Made)
      × Contains (s ∷ steps) t × (t.event ≡ x.1)
  here ih (inl a) = later (ih a)
  here ih (inr b) = last (has_cases (s.place, s.event) x [] b)

  at : (Contains (own_in i steps) x → (t : Made) × Contains steps t × (t.event ≡ x.1)) → (b : Bool)
      → Contains (cond b (own_in i steps ++ (s.place, s.event) ∷ []) (own_in i steps)) x
      → (t : Made) × Contains (s ∷ steps) t × (t.event ≡ x.1)
  at ih true g = here ih (Contains-append_cases (own_in i steps) ((s.place, s.event) ∷ []) x g)
  at ih false g = later (ih g)

-- a caller's event is among its own entries
own_has : (n : ℕ) (p : List Event) (e : Event) → Contains p e → caller_of e ≡ n → (x : ℕ × Event)
    × Contains (own_past n p) x × (x.1 ≡ e)
own_has n [] e h c = absurd (has_none e h)
own_has n (y ∷ p) e h c =
    at (λ x. own_has n p e x c) (n == caller_of y) refl (has_cases y e p h) where
      at : (Contains p e → (x : ℕ × Event) × Contains (own_past n p) x × (x.1 ≡ e)) → (b : Bool)
          → (n == caller_of y) ≡ b → (y ≡ e) ⊎ Contains p e
          → (x : ℕ × Event) × Contains (cond b ((length p, y) ∷ own_past n p) (own_past n p)) x
          × (x.1 ≡ e)
      at ih true q (inl s) = ((length p, y), has_first (length p, y) (own_past n p), s)
      at ih true q (inr r) =
          let t = ih r in (t.0, has_later (length p, y) t.0 (own_past n p) t.1, t.2)
      at ih false q (inl s) = let z : (n == caller_of y) ≡ true = eq-eqb n (caller_of y)
          (sym (ap caller_of s ∙ c)) in absurd (cc)
      at ih false q (inr r) = ih r

-- each event of a task in a journal is one of its steps
step_for : (k : ℕ) (journals : List Journal) (j : Journal) (e : Event) (s : Stepped k journals)
    → Contains journals j → Contains j.events e → caller_of e ≡ k + 1
    → (t : Made) × Contains s.steps t × (t.event ≡ e)
step_for k journals j e s hj he c =
    let i = has_at journals j hj in
    let x = own_has (k + 1) j.events e he c in
    let y : Contains (reverse (own_in i.0 s.steps)) x.0 =
    subst (λ (l : List (ℕ × Event)). Contains l x.0) (s.own_is i.0 j i.1) x.1 in
    let t = step_in i.0 s.steps x.0 (has_reversed (own_in i.0 s.steps) x.0 y) in
    (t.0, t.1, t.2 ∙ x.2)

-- the places rise between any two events of a task
pub steps_rise : (tasks : ℕ) (journals : List Journal) → AreStepped tasks journals
    → StepsRise journals
steps_rise tasks journals a j k earlier later hj hk he hl e =
    let x = named_by_event j.inode j.events earlier he in
    let y = added_by_event k.inode k.events later hl in
    let who : is_earlier x.0.who y.0.who ≡ true = ap (λ (w : Who). is_earlier w y.0.who) x.1.who
    ∙ ap (is_earlier earlier.0) y.1.who ∙ e in
    let task : x.0.who.task ≡ y.0.who.task = (before_or_at x.0.who y.0.who who).0 in
    let signed : caller_of y.0 < tasks + 1 = a.signed k y.0 hk y.1.stands in
    let below : y.0.who.task < tasks = let c : caller_of y.0 ≡ y.0.who.task + 1 = y.1.step in
    omega arith in
    let s = a.stepped y.0.who.task below in
    let sx = step_for y.0.who.task journals j x.0 s hj x.1.stands
    (x.1.step ∙ ap (λ (n : ℕ). n + 1) task) in
    let sy = step_for y.0.who.task journals k y.0 s hk y.1.stands y.1.step in
    let e' : is_earlier sx.0.event.who sy.0.event.who ≡ true =
    ap (λ (z : Event). is_earlier z.who sy.0.event.who) sx.2
    ∙ ap (λ (z : Event). is_earlier x.0.who z.who) sy.2 ∙ who in
    ordered s.steps s.rises s.ordered sx.0 sy.0 earlier.1 later.1 sx.1 sy.1 e'
    (subst (λ (z : Event). Contains (place_named z) earlier.1) (sym sx.2) x.1.told)
    (ap (λ (z : Event). place_added z) sy.2 ∙ y.2)

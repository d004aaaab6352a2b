-- The places of a task's steps rise, and the steps are in order.
use Rattle.std.proofs.Common.{◌≡◌, ℕ, ◌+◌, ◌<◌, ◌≤◌, Bool, true, false, ◌&&◌, cond, List, [], ◌∷◌, ◌++◌, length, map, Option, Some, None, refl, sym, ◌∙◌, ap, subst, arith, inl, inr, length-append}
use Rattle.std.specs.Prelude.{◌⊎◌, ◌==◌, nat_lt, All, option_map, is_some, reverse}
use Rattle.std.proofs.lemmas.Bool.{and_from, eq-eqb, lt-ltb, or_left, or_right}
use Rattle.std.proofs.lemmas.List.Elements.{All-nil, All-cons, All-weaker}
use Rattle.std.proofs.lemmas.Option.{same_Some}
use Rattle.grow_list.specs.Entries.{entries_of}
use Rattle.grow_list.proofs.Prefixes.{prefix_length}
use Rattle.ima_templates.specs.Same.{add_by, place_of_same, placed, placed_by}
use Rattle.ima_templates.specs.declared.entry.Entry.{Entry}
use Rattle.ima_templates.specs.declared.entry.Placed.{Placed}
use Rattle.ima_templates.specs.declared.entry.Placed.TheVariants.{Added, Already}
use Rattle.inode_meta.specs.declared.step.Who.{Who}
use Rattle.inode_events.specs.Callers.{caller_of}
use Rattle.inode_events.specs.Files.{is_writing, readers, writers}
use Rattle.inode_events.specs.Inode.{Inode}
use Rattle.inode_events.specs.Integrity.{Collection, Digests, collecting, in_force, digests_of}
use Rattle.inode_events.specs.Marks.{must_measure}
use Rattle.inode_events.specs.Merged.{is_earlier}
use Rattle.inode_events.specs.NewestFirst.{newest_first}
use Rattle.inode_events.specs.Says.{finish_told, place_of, says, take_told, unless_collecting}
use Rattle.inode_events.specs.Asked.{asked, list_after, measured_if, placed_for, violation_in}
use Rattle.inode_events.specs.declared.deed.Deed.{Deed}
use Rattle.inode_events.specs.declared.deed.Deed.TheVariants as deed
use Rattle.inode_events.specs.declared.told.Event.{Event}
use Rattle.inode_events.specs.declared.told.Told.{Told}
use Rattle.inode_events.specs.policy.declared.access.Action.{Action}
use Rattle.inode_events.specs.policy.declared.rule.Func.{Func}
use Rattle.journal_laws.proofs.Covering.{first_shows}
use Rattle.journal_laws.specs.Own.{own_past}
use Rattle.journal_laws.proofs.Bridge.{own_bridge}
use Rattle.run_laws.specs.Steps.{Above, Made, NamesBelow, OrderedBefore, made_of, own_in, placed_added, placed_named, told_added, told_named}
use Rattle.run_laws.specs.Laws.{RisesByEvent, RisesByLook}
use Rattle.journal_laws.proofs.Asking.{IsNew, asked_new, checked, measured_none, measures, none_new}
use Rattle.run_laws.proofs.Ordering.{before_or_at}

-- the place at which the list's answer adds the entry
abbrev answer_added : Placed → Option Entry → Option ℕ
answer_added placed None = None
answer_added placed (Some e) = placed_added (Some placed)

-- the places that the list's answer names
abbrev answer_named : Placed → Option Entry → List ℕ
answer_named placed None = []
answer_named placed (Some e) = placed_named (Some placed)

-- the event's outcome has the places of the list's answer
abbrev Tells : Placed → Option Entry → Deed → Told → Type 0
Tells placed o d t =
    (told_added d t ≡ answer_added placed o) × (told_named d t ≡ answer_named placed o)

-- the outcome of a check has the places of the list's answer
check_tells : (i : Inode) (file rules : ℕ) (func : Func) (action : Action) (placed : Placed)
    (w a b : Bool) → Added (place_of placed) ≡ placed
    → Tells placed (violation_in i (checked w a b 0)) (deed.Check file func action rules)
    (checked w a b (place_of placed))
check_tells i file rules func action (Already k) w a b n = cc
check_tells i file rules func action (Added k) true true b n = (refl, refl)
check_tells i file rules func action (Added k) true false b n = (refl, refl)
check_tells i file rules func action (Added k) false a true n = (refl, refl)
check_tells i file rules func action (Added k) false a false n = (refl, refl)

-- the outcome of a grant has those places, whether or not its check measures
placed_tells : (i : Inode) (p : List Event) (file : ℕ) (placed : Placed) (x : Digests) (m : Bool)
    → (placed_added (cond m (Some placed) None) ≡ answer_added placed
    (measured_if m i file (Some x) p))
    × (placed_named (cond m (Some placed) None) ≡ answer_named placed
    (measured_if m i file (Some x) p))
placed_tells i p file placed x true = (refl, refl)
placed_tells i p file placed x false = (refl, refl)

-- the outcome of a take has the places of the list's answer
take_tells : (i : Inode) (p : List Event) (file : ℕ) (placed : Placed) (t : Told)
    (c : Option Collection) (o : Option Digests)
    → unless_collecting c (take_told i file placed o p) ≡ Some t
    → Tells placed (cond (is_some c) None (measured_if (measures file p) i file o p))
    (deed.Take file) t
take_tells i p file placed t (Some c) o h = cc
take_tells i p file placed t None None h =
    let n : measured_if (measures file p) i file None p ≡ None =
    measured_none (measures file p) i file p in
    subst (Tells placed (measured_if (measures file p) i file None p) (deed.Take file))
    (same_Some _ t h) (sym (ap (answer_added placed) n), sym (ap (answer_named placed) n))
take_tells i p file placed t None (Some x) h =
    subst (Tells placed (measured_if (measures file p) i file (Some x) p) (deed.Take file))
    (same_Some _ t h) (placed_tells i p file placed x (measures file p))

-- the outcome of a finish has the places of the list's answer
finish_tells : (i : Inode) (p : List Event) (file : ℕ) (placed : Placed) (t : Told)
    (c : Option Collection)
    → finish_told i file placed c p ≡ Some t
    → Tells placed (measured_if (measures file p) i file (option_map digests_of c) p)
    (deed.Finish file) t
finish_tells i p file placed t None h = cc
finish_tells i p file placed t (Some c) h =
    subst (Tells placed (measured_if (measures file p) i file (Some (digests_of c)) p)
    (deed.Finish file)) (same_Some _ t h)
    (placed_tells i p file placed (digests_of c) (measures file p))

-- the outcome of each event has the places of the list's answer
tells_asked : (i : Inode) (p : List Event) (placed : Placed) (d : Deed) (t : Told) → IsNew d placed
    → says i p placed d ≡ Some t → Tells placed (asked i d p) d t
tells_asked i p placed (deed.Check file func action rules) t n h =
    subst (Tells placed (asked i (deed.Check file func action rules) p)
    (deed.Check file func action rules)) (same_Some _ t h)
    (check_tells i file rules func action placed (is_writing file p)
    (nat_lt 0 (readers p) && must_measure p) (action.measure && nat_lt 0 (writers p)) n)
tells_asked i p placed (deed.Take file) t n h =
    take_tells i p file placed t (collecting i p) (in_force i p) h
tells_asked i p placed (deed.Finish file) t n h = finish_tells i p file placed t (collecting i p) h
tells_asked i p placed d t n h = (refl, refl)

-- the list's answer to a violation is that it is added
answer_new : (i : Inode) (p : List Event) (d : Deed) (list : List Entry) (o : Option Entry)
    → asked i d p ≡ o → IsNew d (placed_for list o)
answer_new i p d list None h = none_new d 0
answer_new i p d list (Some e) h = asked_new i p d list e h

-- places below a limit are below a greater one
names_more : (a b : ℕ) (s : Made) → a ≤ b → NamesBelow a s → NamesBelow b s
names_more a b s le h = All-weaker (λ (n : ℕ). n < a) (λ (n : ℕ). n < b) (λ n x. omega arith)
    (told_named s.event.deed s.event.told) h

-- the places of all steps are below a greater limit too
below_more : (a b : ℕ) (steps : List Made) → a ≤ b → All (NamesBelow a) steps
    → All (NamesBelow b) steps
below_more a b steps le h =
    All-weaker (NamesBelow a) (NamesBelow b) (λ s x. names_more a b s le x) steps h

-- the law for a look, which only adds to what the pass has seen
pub rises_look : RisesByLook
rises_look steps seen seen2 a r =
    record {
      rises = r.rises;
      below = below_more (length seen) (length seen2) steps
          (prefix_length seen seen2 a) r.below;
    }

-- a list of one place below a limit is below it
one_below : (k limit : ℕ) → k < limit → All (λ n. n < limit) (k ∷ [])
one_below k limit l = All-cons (λ (n : ℕ). n < limit) k [] l (All-nil (λ (n : ℕ). n < limit))

-- the answer's place rises, given the place of the first entry that is the same
answer_rises : (list : List Entry) (e : Entry) (o : Option ℕ) → place_of_same list e ≡ o
    → (steps : List Made) (limit : ℕ) → limit ≤ length list → All (NamesBelow limit) steps
    → Above (answer_added (placed_by o (length list)) (Some e)) steps
    × All (λ n. n < length (add_by o list e))
    (answer_named (placed_by o (length list)) (Some e))
    × (length list ≤ length (add_by o list e))
answer_rises list e None h steps limit le b =
    let end : length list < length (list ++ e ∷ []) = omega (arith, length-append list (e ∷ []))
    in (
      below_more limit (length list) steps le b,
      one_below (length list)
          (length (list ++ e ∷ [])) end,
      omega arith,
    )
answer_rises list e (Some k) h steps limit le b =
    (tt, one_below k (length list) (first_shows list e k h).2, omega arith)

-- the answer's place rises, whether or not an entry is asked for
asked_rises : (list : List Entry) (o : Option Entry) (t : Told) (steps : List Made) (limit : ℕ)
    → limit ≤ length list → All (NamesBelow limit) steps
    → Above (answer_added (placed_for list o) o) steps
    × All (λ n. n < length (list_after list o (Some t))) (answer_named (placed_for list o) o)
    × (length list ≤ length (list_after list o (Some t)))
asked_rises list None t steps limit le b = (tt, All-nil (λ (n : ℕ). n < length list), omega arith)
asked_rises list (Some e) t steps limit le b =
    answer_rises list e (place_of_same list e) refl steps limit le b

-- the law for an event whose outcome the list determines
pub rises_event : RisesByEvent
rises_event steps seen list i p journal place who d t a r h =
    let le : length seen ≤ length list = prefix_length seen list a in
    let tells : Tells (placed_for list (asked i d p)) (asked i d p) d t =
    tells_asked i p (placed_for list (asked i d p)) d t
    (answer_new i p d list (asked i d p) refl) h in
    let x = asked_rises list (asked i d p) t steps (length seen) le r.below in
    let more : length list ≤ length (list_after list (asked i d p) (Some t)) = x.2 in
    let le2 : length seen ≤ length (list_after list (asked i d p) (Some t)) = omega arith in
    record {
      rises = (subst (λ (o : Option ℕ). Above o steps) (sym tells.0) x.0, r.rises);
      below = All-cons (NamesBelow (length (list_after list (asked i d p) (Some t)))) _ steps
          (subst (λ (l : List ℕ). All (λ n. n < length (list_after list (asked i d p) (Some t))) l)
          (sym tells.1) x.1)
          (below_more (length seen) (length (list_after list (asked i d p) (Some t))) steps le2
          r.below);
    }

-- ---- the order of steps

-- a step of an earlier call, or earlier in the same call, is earlier
pub earlier_from : (a b : Who) → a.task ≡ b.task → (a.call < b.call)
    ⊎ ((a.call ≡ b.call) × (a.step < b.step)) → is_earlier a b ≡ true
earlier_from a b t (inl l) = and_from (a.task == b.task) _ (eq-eqb a.task b.task t)
    (or_left (nat_lt a.call b.call) (a.call == b.call && nat_lt a.step b.step)
    (lt-ltb a.call b.call l))
earlier_from a b t (inr m) =
    and_from (a.task == b.task) _ (eq-eqb a.task b.task t)
    (or_right (nat_lt a.call b.call) (a.call == b.call && nat_lt a.step b.step)
    (and_from (a.call == b.call) (nat_lt a.step b.step) (eq-eqb a.call b.call m.0)
    (lt-ltb a.step b.step m.1)))

-- being earlier is transitive
pub earlier_trans : (a b c : Who) → is_earlier a b ≡ true → is_earlier b c ≡ true
    → is_earlier a c ≡ true
earlier_trans a b c h k =
    let x = before_or_at a b h in
    let y = before_or_at b c k in
    earlier_from a c (x.0 ∙ y.0) (at x.1 y.1) where
      at : (a.call < b.call) ⊎ ((a.call ≡ b.call) × (a.step < b.step)) → (b.call < c.call)
          ⊎ ((b.call ≡ c.call) × (b.step < c.step)) → (a.call < c.call)
          ⊎ ((a.call ≡ c.call) × (a.step < c.step))
      at (inl u) (inl v) = inl (omega arith)
      at (inl u) (inr v) = let z : b.call ≡ c.call = v.0 in inl (omega arith)
      at (inr u) (inl v) = let z : a.call ≡ b.call = u.0 in inl (omega arith)
      at (inr u) (inr v) =
          let z : a.step < b.step = u.1 in let w : b.step < c.step = v.1 in
          inr (u.0 ∙ v.0, omega arith)

-- the step comes before this one
abbrev EarlierThan : Who → Made → Type 0
EarlierThan due b = is_earlier b.event.who due ≡ true

-- a step that makes no event changes only which step is due
pub ordered_plain : (steps : List Made) (due next : Who) → OrderedBefore steps due
    → is_earlier due next ≡ true → OrderedBefore steps next
ordered_plain steps due next w e = record {
  ordered = w.ordered;
  before = All-weaker (EarlierThan due) (EarlierThan next)
      (λ s x. earlier_trans s.event.who due next x e) steps w.before;
}

-- the due step joins the others, and a later one becomes due
pub ordered_event : (steps : List Made) (journal place : ℕ) (due next : Who) (d : Deed) (t : Told)
    → OrderedBefore steps due → is_earlier due next ≡ true
    → OrderedBefore (made_of journal place due d t ∷ steps) next
ordered_event steps journal place due next d t w e = record {
  ordered = (w.before, w.ordered);
  before = All-cons (EarlierThan next) _ steps e (ordered_plain steps due next w e).before;
}

-- a pass of the task has its events in a journal oldest first, and the task's steps have the same
-- events newest first
pub own_is_past : (k i : ℕ) (steps : List Made) (list : List Event)
    → entries_of (k + 1) (map caller_of list) list ≡ own_in i steps
    → own_past (k + 1) (newest_first list) ≡ reverse (own_in i steps)
own_is_past k i steps list e = own_bridge (k + 1) list ∙ ap reverse e

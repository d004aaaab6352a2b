-- A step changes the measurement list as its event says.
use Rattle.std.proofs.Common.{◌≡◌, ℕ, Bool, true, false, ◌&&◌, not, if◌then◌else◌, List, [], ◌∷◌, ◌++◌, ◌+◌, arith, length, Option, Some, None, refl, ap, subst, sym, ◌∙◌}
use Rattle.std.specs.Prelude.{◌==◌, nat_lt, option_map, is_some}
use Rattle.std.specs.List.{position_or_len}
use Rattle.std.proofs.lemmas.Bool.{le-ltb}
use Rattle.std.proofs.lemmas.Option.{none-some, same_Some}
use Rattle.call_steps.specs.templates.Same.{add_by, place_of_same, placed_by, same, same_data}
use Rattle.call_steps.specs.templates.declared.entry.Entry.{Entry}
use Rattle.call_steps.specs.policy.declared.access.Action.{Action}
use Rattle.call_steps.specs.policy.declared.rule.Func.{Func}
use Rattle.call_steps.specs.events.Asked.{asked, list_after, measured_if, outcome, placed_for, violation_in}
use Rattle.call_steps.specs.events.Checks.{last_check}
use Rattle.call_steps.specs.events.Files.{is_writing, readers, writers}
use Rattle.call_steps.specs.events.Grants.{grant_of}
use Rattle.call_steps.specs.events.Inode.{Inode}
use Rattle.call_steps.specs.events.Integrity.{Collection, Digests, collecting, digest_from, in_force, digests_of}
use Rattle.call_steps.specs.events.Listing.{added_at, adds, finds, found_at, measured, violated}
use Rattle.call_steps.specs.events.Marks.{must_measure}
use Rattle.call_steps.specs.events.Says.{check_told, finish_told, place_of, take_told, unless_collecting}
use Rattle.call_steps.specs.events.declared.deed.Deed.TheVariants as deed
use Rattle.call_steps.specs.events.declared.told.Event.{Event}
use Rattle.call_steps.specs.events.declared.told.Told.{Told}
use Rattle.call_steps.specs.events.declared.told.Told.TheVariants as told
use Rattle.run_model.specs.Laws.{IsAdded, IsFound, StepIsListed}

-- ---- violations

-- no entry is the same as a violation
never_same : (a e : Entry) → e.violation ≡ true → same a e ≡ false
unfolding same
never_same a e is = by a.violation
  where
    by : (v : Bool) → (not v && not e.violation && a.pcr == e.pcr && same_data a e) ≡ false
    by true = refl
    by false = rw (is) refl

all_pass : (list : List Entry) (e : Entry) → e.violation ≡ true
    → position_or_len (λ x. same x e) list ≡ length list
all_pass [] e is = refl
all_pass (x ∷ xs) e is = rw (never_same x e is) (by_rest (all_pass xs e is))
  where
    by_rest : position_or_len (λ x. same x e) xs ≡ length xs
        → 1 + position_or_len (λ x. same x e) xs ≡ length (x ∷ xs)
    by_rest same_rest = let more : 1 + length xs ≡ length (x ∷ xs) =
        omega arith in ap (λ n. 1 + n) same_rest ∙ more

no_place : (list : List Entry) (e : Entry) → e.violation ≡ true → place_of_same list e ≡ None
no_place list e is = rw (all_pass list e is, le-ltb (length list) (length list) (omega arith)) refl

violation_listed : (i : Inode) (list : List Entry) (at : Option ℕ)
    → place_of_same list (violated i) ≡ at → at ≡ None
    → (place_of (placed_by at (length list)) ≡ length list)
    × (place_of_same list (violated i) ≡ None)
    × (add_by at list (violated i) ≡ list ++ violated i ∷ [])
violation_listed i list None same none = (refl, same, refl)
violation_listed i list (Some q) same none = absurd (none-some q (sym none))

check_listed : (i : Inode) (list : List Entry) (file : ℕ) (func : Func) (action : Action)
    (rules : ℕ) (p : List Event) (w m must r u : Bool)
    → let told_at =
    λ (place : ℕ). if w then (if r && must then told.ToMToU place else told.Quiet) else
    (if m && u then told.OpenWriters place else told.Quiet) in
    let e = violation_in i (told_at 0) in
    let t = told_at (place_of (placed_for list e)) in
    IsAdded list (list_after list e (Some t)) (adds i (deed.Check file func action rules) t p)
    × IsFound list (finds i (deed.Check file func action rules) t p)
check_listed i list file func action rules p true m true true u = (
  violation_listed i list (place_of_same list (violated i)) refl
      (no_place list (violated i) refl),
  tt,
)
check_listed i list file func action rules p true m false true u = (refl, tt)
check_listed i list file func action rules p true m true false u = (refl, tt)
check_listed i list file func action rules p true m false false u = (refl, tt)
check_listed i list file func action rules p false true must r true = (
  violation_listed i list (place_of_same list (violated i)) refl
      (no_place list (violated i) refl),
  tt,
)
check_listed i list file func action rules p false true must r false = (refl, tt)
check_listed i list file func action rules p false false must r true = (refl, tt)
check_listed i list file func action rules p false false must r false = (refl, tt)

-- ---- measurements

measured_by : (i : Inode) (file : ℕ) (list : List Entry) (f : Digests) (p : List Event)
    (at : Option ℕ) → place_of_same list (measured i file f p) ≡ at
    → IsAdded list (add_by at list (measured i file f p))
    (added_at (Some (placed_by at (length list))) (Some f) i file p)
    × IsFound list (found_at (Some (placed_by at (length list))) (Some f) i file p)
measured_by i file list f p None same = ((refl, same, refl), tt)
measured_by i file list f p (Some q) same = (refl, same)

granted_listed : (i : Inode) (file : ℕ) (list : List Entry) (f : Digests) (p : List Event)
    (m : Bool) (t : Told)
    → let e = measured_if m i file (Some f) p in
    let at = if m then Some (placed_for list e) else None in
    IsAdded list (list_after list e (Some t)) (added_at at (Some f) i file p)
    × IsFound list (found_at at (Some f) i file p)
granted_listed i file list f p true t =
    measured_by i file list f p (place_of_same list (measured i file f p)) refl
granted_listed i file list f p false t = (refl, tt)

-- a grant's event says of the list what the step did to it, for a grant from these digests
abbrev Says : Inode → ℕ → List Entry → Option Entry → Told → Option Digests → List Event → Type 0
Says i file list e (told.Grant grant) f p =
    IsAdded list (list_after list e (Some (told.Grant grant))) (added_at grant.placed f i file p)
    × IsFound list (found_at grant.placed f i file p)
Says i file list e t f p = list_after list e (Some t) ≡ list

take_says : (i : Inode) (file : ℕ) (list : List Entry) (f : Option Digests) (p : List Event)
    → let e = measured_if (last_check file p).action.measure i file f p in
    Says i file list e (take_told i file (placed_for list e) f p) f p
take_says i file list None p = by (last_check file p).action.measure
  where
    by : (m : Bool) → list_after list (measured_if m i file None p) (Some told.Begun) ≡ list
    by true = refl
    by false = refl
take_says i file list (Some f) p =
    granted_listed i file list f p (last_check file p).action.measure
    (told.Grant (grant_of i file (placed_for list
    (measured_if (last_check file p).action.measure i file (Some f) p)) f.digest p))

-- if the event of a take says this of the list, so do the definitions
take_from : (i : Inode) (file : ℕ) (list : List Entry) (e : Option Entry) (p : List Event)
    (t : Told) → Says i file list e t (in_force i p) p
    → IsAdded list (list_after list e (Some t)) (adds i (deed.Take file) t p)
    × IsFound list (finds i (deed.Take file) t p)
take_from i file list e p (told.Grant grant) says = says
take_from i file list e p _ says = (says, tt)

take_listed : (i : Inode) (file : ℕ) (list : List Entry) (c : Option Collection) (p : List Event)
    (t : Told)
    → let e = if is_some c then None else measured_if (last_check file p).action.measure i file
    (in_force i p) p in
    unless_collecting c (take_told i file (placed_for list e) (in_force i p) p) ≡ Some t
    → Says i file list e t (in_force i p) p
take_listed i file list (Some c) p t is = absurd (none-some t is)
take_listed i file list None p t is =
    let e = measured_if (last_check file p).action.measure i file (in_force i p) p in
    subst (λ u. Says i file list e u (in_force i p) p)
    (same_Some (take_told i file (placed_for list e) (in_force i p) p) t is)
    (take_says i file list (in_force i p) p)

finish_from : (i : Inode) (file : ℕ) (list : List Entry) (e : Option Entry) (p : List Event)
    (t : Told)
    → Says i file list e t (option_map digests_of (collecting i p)) p
    → IsAdded list (list_after list e (Some t)) (adds i (deed.Finish file) t p)
    × IsFound list (finds i (deed.Finish file) t p)
finish_from i file list e p (told.Grant grant) says = says
finish_from i file list e p _ says = (says, tt)

finish_listed : (i : Inode) (file : ℕ) (list : List Entry) (c : Option Collection) (p : List Event)
    (t : Told)
    → let e = measured_if (last_check file p).action.measure i file (option_map digests_of c) p in
    finish_told i file (placed_for list e) c p ≡ Some t
    → Says i file list e t (option_map digests_of c) p
finish_listed i file list None p t is = absurd (none-some t is)
finish_listed i file list (Some c) p t is =
    let m = (last_check file p).action.measure in
    let f = digests_of c in
    let e = measured_if m i file (Some f) p in
    let u = told.Grant (grant_of i file (placed_for list e) (digest_from c) p) in
    subst (λ v. Says i file list e v (Some f) p) (same_Some u t is)
    (granted_listed i file list f p m u)

check_law : (i : Inode) (list : List Entry) (file : ℕ) (func : Func) (action : Action) (rules : ℕ)
    (p : List Event) (t : Told)
    → outcome i list (deed.Check file func action rules) p ≡ Some t
    → IsAdded list (list_after list (asked i (deed.Check file func action rules) p) (Some t))
    (adds i (deed.Check file func action rules) t p)
    × IsFound list (finds i (deed.Check file func action rules) t p)
check_law i list file func action rules p t is =
    let d = deed.Check file func action rules in
    let u = check_told (is_writing file p) action.measure (readers p) (writers p) (must_measure p)
    (place_of (placed_for list (asked i d p))) in
    subst (λ v. IsAdded list (list_after list (asked i d p) (Some v)) (adds i d v p)
    × IsFound list (finds i d v p)) (same_Some u t is)
    (check_listed i list file func action rules p (is_writing file p) action.measure
    (must_measure p) (nat_lt 0 (readers p)) (nat_lt 0 (writers p)))

pub step_is_listed : StepIsListed
step_is_listed i list (deed.Check file func action rules) p t is =
    check_law i list file func action rules p t is
step_is_listed i list (deed.Take file) p t is =
    take_from i file list (asked i (deed.Take file) p) p t
    (take_listed i file list (collecting i p) p t is)
step_is_listed i list (deed.Finish file) p t is =
    finish_from i file list (asked i (deed.Finish file) p) p t
    (finish_listed i file list (collecting i p) p t is)
step_is_listed i list _ p t is = (refl, tt)

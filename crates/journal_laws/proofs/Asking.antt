-- What an event adds and finds is what it asks for, by the list's answer.
use Rattle.std.proofs.Common.{◌≡◌, ℕ, suc, Bool, true, false, cond, List, [], ◌∷◌, length, Option, Some, None, refl, sym, ◌∙◌, ap, subst, arith}
use Rattle.std.specs.Prelude.{◌+◌, not, nat_lt, ◌&&◌, option_map, is_some}
use Rattle.std.proofs.lemmas.Bool.{and_left, and_right, not_from_true, cond-false, le-ltb}
use Rattle.std.proofs.lemmas.Option.{same_Some}
use Rattle.ima_templates.specs.Same.{placed, placed_by, same}
use Rattle.ima_templates.specs.declared.entry.Entry.{Entry}
use Rattle.ima_templates.specs.declared.entry.Placed.{Placed}
use Rattle.ima_templates.specs.declared.entry.Placed.TheVariants.{Added, Already}
use Rattle.inode_events.specs.Checks.{last_check}
use Rattle.inode_events.specs.Files.{is_writing, readers, writers}
use Rattle.inode_events.specs.Grants.{placed_if_measured}
use Rattle.inode_events.specs.Inode.{Inode}
use Rattle.inode_events.specs.Integrity.{Collection, Digests, collecting, in_force, digests_of}
use Rattle.inode_events.specs.Listing.{adds, finds, added_at, found_at, violated}
use Rattle.inode_events.specs.Marks.{must_measure}
use Rattle.inode_events.specs.Says.{check_told, says, place_of, take_told, finish_told, unless_collecting}
use Rattle.inode_events.specs.Asked.{asked, measured_if, violation_in}
use Rattle.inode_events.specs.declared.deed.Deed.{Deed}
use Rattle.inode_events.specs.declared.deed.Deed.TheVariants as deed
use Rattle.inode_events.specs.declared.told.Event.{Event}
use Rattle.inode_events.specs.declared.told.Told.{Told}
use Rattle.inode_events.specs.declared.told.Told.TheVariants as told
use Rattle.inode_events.specs.policy.declared.access.Action.{Action}
use Rattle.inode_events.specs.policy.declared.rule.Func.{Func}
use Rattle.std.specs.List.{position_or_len}
use Rattle.journal_laws.specs.Asked.{added_for, found_for}

-- the list's answer to a check is that the violation is added
abbrev pub IsNew : Deed → Placed → Type 0
IsNew (deed.Check file func action rules) placed = Added (place_of placed) ≡ placed
IsNew _ placed = Unit {0}

-- the event adds and finds the entry that is asked for, as the list's answer says
abbrev pub AddsAsked : Inode → List Event → Placed → Deed → Told → Type 0
AddsAsked i p placed d t = (adds i d t p ≡ added_for placed (asked i d p))
    × (finds i d t p ≡ found_for placed (asked i d p))

-- ---- a check

-- the outcome of a check, given the tests that decide it
abbrev pub checked : Bool → Bool → Bool → ℕ → Told
checked w a b place =
    cond w (cond a (told.ToMToU place) told.Quiet) (cond b (told.OpenWriters place) told.Quiet)

-- a check adds the violation in its outcome, and finds nothing
check_adds : (i : Inode) (p : List Event) (file rules : ℕ) (func : Func) (action : Action)
    (placed : Placed) (w a b : Bool) → Added (place_of placed) ≡ placed
    → (adds i (deed.Check file func action rules) (checked w a b (place_of placed)) p
    ≡ added_for placed (violation_in i (checked w a b 0)))
    × (finds i (deed.Check file func action rules) (checked w a b (place_of placed)) p
    ≡ found_for placed (violation_in i (checked w a b 0)))
check_adds i p file rules func action (Already k) w a b n = cc
check_adds i p file rules func action (Added k) true true b n = (refl, refl)
check_adds i p file rules func action (Added k) true false b n = (refl, refl)
check_adds i p file rules func action (Added k) false a true n = (refl, refl)
check_adds i p file rules func action (Added k) false a false n = (refl, refl)

-- ---- a grant

-- whether the file's last check measures
abbrev pub measures : ℕ → List Event → Bool
measures file p = (last_check file p).action.measure

-- without digests there is no measurement
pub measured_none : (m : Bool) (i : Inode) (file : ℕ) (p : List Event)
    → measured_if m i file None p ≡ None
measured_none true i file p = refl
measured_none false i file p = refl

-- a grant adds or finds its measurement if the file's check measures
placed_adds : (i : Inode) (p : List Event) (file : ℕ) (placed : Placed) (x : Digests) (m : Bool)
    → (added_at (cond m (Some placed) None) (Some x) i file p ≡ added_for placed
    (measured_if m i file (Some x) p))
    × (found_at (cond m (Some placed) None) (Some x) i file p ≡ found_for placed
    (measured_if m i file (Some x) p))
placed_adds i p file (Added k) x true = (refl, refl)
placed_adds i p file (Already k) x true = (refl, refl)
placed_adds i p file placed x false = (refl, refl)

-- the grant adds and finds the entry that is asked for, if made from these digests
abbrev GrantAsked : Inode → ℕ → List Event → Placed → Option Placed → Option Digests → Option Entry
    → Type 0
GrantAsked i file p placed place o e = (added_at place o i file p ≡ added_for placed e)
    × (found_at place o i file p ≡ found_for placed e)

-- a grant adds and finds the entry that is asked for, if the digests are known
grant_adds : (i : Inode) (p : List Event) (file : ℕ) (placed : Placed) (o : Option Digests)
    (x : Digests) → o ≡ Some x
    → GrantAsked i file p placed (placed_if_measured (last_check file p).action placed) o
    (measured_if (measures file p) i file (Some x) p)
grant_adds i p file placed o x e =
    subst (λ (y : Option Digests). GrantAsked i file p placed
    (placed_if_measured (last_check file p).action placed) y
    (measured_if (measures file p) i file (Some x) p)) (sym e)
    (placed_adds i p file placed x (last_check file p).action.measure)

-- a take asks for an entry if a digest is in force and no collection is open
take_adds : (i : Inode) (p : List Event) (file : ℕ) (placed : Placed) (t : Told)
    (c : Option Collection) (o : Option Digests) → in_force i p ≡ o
    → unless_collecting c (take_told i file placed o p) ≡ Some t
    → (adds i (deed.Take file) t p ≡ added_for placed
    (cond (is_some c) None (measured_if (measures file p) i file o p)))
    × (finds i (deed.Take file) t p ≡ found_for placed
    (cond (is_some c) None (measured_if (measures file p) i file o p)))
take_adds i p file placed t (Some c) o e h = cc
take_adds i p file placed t None None e h =
    let n : measured_if (measures file p) i file None p ≡ None =
    measured_none (measures file p) i file p in
    subst (λ (u : Told).
    (adds i (deed.Take file) u p ≡ added_for placed
    (measured_if (measures file p) i file None p))
    × (finds i (deed.Take file) u p ≡ found_for placed
    (measured_if (measures file p) i file None p)))
    (same_Some _ t h) (sym (ap (added_for placed) n), sym (ap (found_for placed) n))
take_adds i p file placed t None (Some x) e h =
    subst (λ (u : Told).
    (adds i (deed.Take file) u p ≡ added_for placed
    (measured_if (measures file p) i file (Some x) p))
    × (finds i (deed.Take file) u p ≡ found_for placed
    (measured_if (measures file p) i file (Some x) p)))
    (same_Some _ t h) (grant_adds i p file placed (in_force i p) x e)

-- a finish asks for an entry if a collection is open
finish_adds : (i : Inode) (p : List Event) (file : ℕ) (placed : Placed) (t : Told)
    (c : Option Collection) → collecting i p ≡ c
    → finish_told i file placed c p ≡ Some t
    → (adds i (deed.Finish file) t p ≡ added_for placed
    (measured_if (measures file p) i file (option_map digests_of c) p))
    × (finds i (deed.Finish file) t p ≡ found_for placed
    (measured_if (measures file p) i file (option_map digests_of c) p))
finish_adds i p file placed t None e h = cc
finish_adds i p file placed t (Some c) e h =
    subst (λ (u : Told).
    (adds i (deed.Finish file) u p ≡ added_for placed
    (measured_if (measures file p) i file (Some (digests_of c)) p))
    × (finds i (deed.Finish file) u p ≡ found_for placed
    (measured_if (measures file p) i file (Some (digests_of c)) p)))
    (same_Some _ t h) (grant_adds i p file placed (option_map digests_of (collecting i p))
    (digests_of c) (ap (option_map digests_of) e))

-- each deed adds and finds what it asks for
pub adds_asked : (i : Inode) (p : List Event) (placed : Placed) (d : Deed) (t : Told)
    → IsNew d placed → says i p placed d ≡ Some t → AddsAsked i p placed d t
adds_asked i p placed (deed.Check file func action rules) t n h =
    subst (λ (u : Told). AddsAsked i p placed (deed.Check file func action rules) u)
    (same_Some _ t h)
    (check_adds i p file rules func action placed (is_writing file p)
    (nat_lt 0 (readers p) && must_measure p) (action.measure && nat_lt 0 (writers p)) n)
adds_asked i p placed (deed.Take file) t n h =
    take_adds i p file placed t (collecting i p) (in_force i p) refl h
adds_asked i p placed (deed.Finish file) t n h =
    finish_adds i p file placed t (collecting i p) refl h
adds_asked i p placed d t n h = (refl, refl)

-- ---- a violation is new to every list

-- no entry is the same as a violation
violation_same : (x e : Entry) → e.violation ≡ true → same x e ≡ false
unfolding same
violation_same x e v =
    and_left _ _
    (and_left _ _ (and_right (not x.violation) (not e.violation) (not_from_true e.violation v)))

-- a search for a violation reaches the end of the list
violation_apart : (list : List Entry) (e : Entry) → e.violation ≡ true
    → position_or_len (λ (y : Entry). same y e) list ≡ length list
violation_apart [] e v = refl
violation_apart (x ∷ list) e v =
    let ih : position_or_len (λ (y : Entry). same y e) list ≡ length list =
    violation_apart list e v in
    let q : 1 + position_or_len (λ (y : Entry). same y e) list ≡ suc (length list) = omega arith in
    ap (λ (b : Bool). cond (not b) (1 + position_or_len (λ (y : Entry). same y e) list) 0)
    (violation_same x e v) ∙ q

-- a violation is added at the end of the list
violation_new : (list : List Entry) (e : Entry) → e.violation ≡ true
    → placed list e ≡ Added (length list)
violation_new list e v =
    let q : position_or_len (λ (y : Entry). same y e) list ≡ length list =
    violation_apart list e v in
    ap (λ (o : Option ℕ). placed_by o (length list))
    (cond-false (nat_lt (position_or_len (λ (y : Entry). same y e) list) (length list)) _ None
    (le-ltb (position_or_len (λ (y : Entry). same y e) list) (length list) (omega arith)))

-- the entry of a violation
violation_is : (i : Inode) (t : Told) (e : Entry) → violation_in i t ≡ Some e → violated i ≡ e
violation_is i (told.OpenWriters place) e h = same_Some (violated i) e h
violation_is i (told.ToMToU place) e h = same_Some (violated i) e h
violation_is i t e h = absurd (cc)

-- the entry of a check is a violation
pub asked_new : (i : Inode) (p : List Event) (d : Deed) (list : List Entry) (e : Entry)
    → asked i d p ≡ Some e → IsNew d (placed list e)
asked_new i p (deed.Check file func action rules) list e h =
    let v : e.violation ≡ true =
    sym (ap (λ (x : Entry). x.violation)
    (violation_is i (check_told (is_writing file p) action.measure (readers p) (writers p)
    (must_measure p) 0) e h)) in
    subst (λ (s : Placed). Added (place_of s) ≡ s) (sym (violation_new list e v)) refl
asked_new i p d list e h = tt

-- if nothing is asked for, any place is new
pub none_new : (d : Deed) (k : ℕ) → IsNew d (Added k)
none_new (deed.Check file func action rules) k = refl
none_new d k = tt

-- The place in an outcome determines that outcome again.
use Rattle.std.proofs.Common.{◌≡◌, ℕ, Bool, true, false, ◌&&◌, if◌then◌else◌, List, Option, Some, None, refl, ap, subst}
use Rattle.std.specs.Prelude.{nat_lt}
use Rattle.std.proofs.lemmas.Option.{none-some, same_Some}
use Rattle.call_steps.specs.hashes.declared.digest.Digest.{Digest}
use Rattle.call_steps.specs.templates.declared.entry.Placed.{Placed}
use Rattle.call_steps.specs.policy.declared.access.Action.{Action}
use Rattle.call_steps.specs.events.Checks.{last_check}
use Rattle.call_steps.specs.events.Files.{is_writing, readers, writers}
use Rattle.call_steps.specs.events.Grants.{grant_of, placed_if_measured}
use Rattle.call_steps.specs.events.Inode.{Inode}
use Rattle.call_steps.specs.events.Integrity.{Collection, Digests, collecting, digest_from, in_force}
use Rattle.call_steps.specs.events.Marks.{must_measure}
use Rattle.call_steps.specs.events.Says.{check_told, finish_told, place_of, placed_in, placed_in_grant, take_told, unless_collecting}
use Rattle.call_steps.specs.events.declared.deed.Deed.TheVariants as deed
use Rattle.call_steps.specs.events.declared.told.Event.{Event}
use Rattle.call_steps.specs.events.declared.told.Told.{Told}
use Rattle.call_steps.specs.events.declared.told.Told.TheVariants as told
use Rattle.run_model.specs.Laws.{PlacedIsTold}

-- the outcome of a check
check_placed : (writing measure must some_readers some_writers : Bool) (place : ℕ)
    → let t = if writing then (if some_readers && must then told.ToMToU place else told.Quiet) else
    (if measure && some_writers then told.OpenWriters place else told.Quiet) in
    (if writing then (if some_readers && must then told.ToMToU
    (place_of (placed_in t)) else told.Quiet) else
    (if measure && some_writers then told.OpenWriters
    (place_of (placed_in t)) else told.Quiet)) ≡ t
check_placed true measure true true some_writers place = refl
check_placed true measure true false some_writers place = refl
check_placed true measure false true some_writers place = refl
check_placed true measure false false some_writers place = refl
check_placed false true must some_readers true place = refl
check_placed false true must some_readers false place = refl
check_placed false false must some_readers true place = refl
check_placed false false must some_readers false place = refl

-- the outcome of a grant
grant_placed : (i : Inode) (file : ℕ) (placed : Placed) (digest : Digest) (p : List Event)
    → grant_of i file (placed_in (told.Grant (grant_of i file placed digest p))) digest p
    ≡ grant_of i file placed digest p
grant_placed i file placed digest p =
    let base = grant_of i file placed digest p in
    ap (λ (placed : Option Placed). record base { placed = placed }) (by (last_check file p).action)
  where
    by : (a : Action) → placed_if_measured a (placed_in_grant (placed_if_measured a placed))
        ≡ placed_if_measured a placed
    by a = elim a.measure as (λ m. (if m then Some
        (placed_in_grant (if m then Some placed else None)) else None)
        ≡ (if m then Some placed else None)) [ true ↦ refl | false ↦ refl ]

take_placed : (i : Inode) (file : ℕ) (placed : Placed) (f : Option Digests) (p : List Event)
    → take_told i file (placed_in (take_told i file placed f p)) f p ≡ take_told i file placed f p
take_placed i file placed None p = refl
take_placed i file placed (Some f) p = ap told.Grant (grant_placed i file placed f.digest p)

-- computing an outcome again from its own place gives that outcome
with_told : (told_by : Placed → Told) (placed : Placed) (t : Told)
    → told_by (placed_in (told_by placed)) ≡ told_by placed → Some (told_by placed) ≡ Some t
    → Some (told_by (placed_in t)) ≡ Some t
with_told told_by placed t same is =
    let e = same_Some (told_by placed) t is in
    subst (λ u. Some (told_by (placed_in u)) ≡ Some u) e (ap Some same)

unless_placed : (c : Option Collection) (told_by : Placed → Told) (placed : Placed) (t : Told)
    → told_by (placed_in (told_by placed)) ≡ told_by placed
    → unless_collecting c (told_by placed) ≡ Some t
    → unless_collecting c (told_by (placed_in t)) ≡ Some t
unless_placed None told_by placed t same is = with_told told_by placed t same is
unless_placed (Some c) told_by placed t same is = absurd (none-some t is)

finish_placed : (i : Inode) (file : ℕ) (placed : Placed) (c : Option Collection) (p : List Event)
    (t : Told)
    → finish_told i file placed c p ≡ Some t → finish_told i file (placed_in t) c p ≡ Some t
finish_placed i file placed None p t is = is
finish_placed i file placed (Some c) p t is =
    with_told (λ s. told.Grant (grant_of i file s (digest_from c) p)) placed t
    (ap told.Grant (grant_placed i file placed (digest_from c) p)) is

pub placed_is_told : PlacedIsTold
placed_is_told i p placed (deed.Check file func action rules) t is =
    with_told (λ s. check_told (is_writing file p) action.measure (readers p) (writers p)
    (must_measure p) (place_of s)) placed t
    (check_placed (is_writing file p) action.measure (must_measure p) (nat_lt 0 (readers p))
    (nat_lt 0 (writers p)) (place_of placed)) is
placed_is_told i p placed (deed.Take file) t is =
    unless_placed (collecting i p) (λ s. take_told i file s (in_force i p) p) placed t
    (take_placed i file placed (in_force i p) p) is
placed_is_told i p placed (deed.Finish file) t is =
    finish_placed i file placed (collecting i p) p t is
placed_is_told i p placed _ t is = is

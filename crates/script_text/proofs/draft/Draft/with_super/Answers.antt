use Rattle.std.proofs.Common.{◌≡◌, ◌<◌, ◌≤◌, ◌++◌, ◌∷◌, [], ℕ, true, false, List}
use Rattle.std.proofs.Common.{nat_lt, length, Ok, Err, ok_or, refl, rules, arith}
use Rattle.std.proofs.lemmas.Bool.Decides.{nat_tests}
use Rattle.std.proofs.lemmas.Result.{err_from_is_err_and}
use Rattle.policy_text.specs.rules.declared.access.Super.{Super}
use Rattle.script_words.specs.declared.fault.LineCause.{LineCause}
use Rattle.script_words.specs.declared.fault.LineCause.TheVariants as cause
use Rattle.script_words.specs.declared.fault.LineErr.{LineErr}
use Rattle.script_words.specs.declared.fault.LineErr.TheVariants as err
use Rattle.script_words.specs.Gives.{LineFails}
use Rattle.script_fields.specs.Limits.{most_supers}
use Rattle.script_fields.specs.SuperFields.{super_in}
use Rattle.script_text.specs.Draft.{Draft}
use Rattle.script_text.specs.Settings.{with_super}
use Rattle.script_text.proofs.Memory.{out_of_memory}
use Rattle.script_text.proofs.draft.Draft.with_super.Goals as goal

-- a file system is added to fewer than the most
super_added : (words : List (List ℕ)) (d : Draft) (s : Super)
    → length d.script.supers < most_supers → ok_or (super_in words) cause.BadField ≡ Ok s
    → with_super words d
    ≡ Ok (record d { script = record d.script { supers = d.script.supers ++ s ∷ [] } })
unfolding with_super
super_added words d s few is =
    let room : nat_lt (length d.script.supers) most_supers ≡ true = grind (arith, nat_tests) in
    rw (is, room) refl

-- no file system is added to the most
super_too_many : (words : List (List ℕ)) (d : Draft) (s : Super)
    → most_supers ≤ length d.script.supers → ok_or (super_in words) cause.BadField ≡ Ok s
    → with_super words d ≡ Err cause.TooMany
unfolding with_super
super_too_many words d s many is =
    let full : nat_lt (length d.script.supers) most_supers ≡ false = grind (arith, nat_tests) in
    rw (is, full) refl

-- words that aren't a file system are refused
super_refused : (words : List (List ℕ)) (d : Draft) (e : LineErr LineCause)
    → LineFails e (ok_or (super_in words) cause.BadField) → LineFails e (with_super words d)
unfolding with_super
super_refused words d (err.Refused c) is = rw is refl
super_refused words d err.OutOfMemory is = tt

pub returns-in_err-place : goal.returns-in_err-place
returns-in_err-place c =
    let p = err_from_is_err_and c.from_residual.result c.from_residual.ensures.1 in
    rw (p.1, p.2)
    (super_refused _ c.args.self.now c.in_err-place.field-0.0 c.in_err-place.ensures)

pub returns-then-len-ge-SUPERS : goal.returns-then-len-ge-SUPERS
returns-then-len-ge-SUPERS c =
    let count : c.len.result ≡ length c.self.inside.supers.items = search rules in
    let many : most_supers ≤ length c.self.inside.supers.items =
    rw count at c.if-len-ge-SUPERS.true in
    rw (← c.self.view_is) (super_too_many _ _ c.in_ok-place.place many c.in_ok-place.ensures)

pub returns : goal.returns
returns c =
    let count : c.len.result ≡ length c.self.inside.supers.items = search rules in
    let few : length c.self.inside.supers.items < most_supers =
    rw count at c.if-len-ge-SUPERS.false in
    rw (← c.self.view_is, c.in_ok-push.ensures.items)
    (super_added _ _ c.in_ok-place.place few c.in_ok-place.ensures)

pub returns-in_err-push : goal.returns-in_err-push
returns-in_err-push c =
    out_of_memory c.from_residual-in_err-push.result _ _
    c.from_residual-in_err-push.ensures.1

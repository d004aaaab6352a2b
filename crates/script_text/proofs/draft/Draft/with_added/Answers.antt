use Rattle.std.proofs.Common.{◌≡◌, ◌<◌, ◌≤◌, ◌++◌, ◌∷◌, ◌∙◌, [], ℕ, Bool, true, false, not, List}
use Rattle.std.proofs.Common.{nat_lt, length, Ok, Err, if◌then◌else◌, refl, sym, rules, arith}
use Rattle.std.proofs.lemmas.Bool.Decides.{nat_tests}
use Rattle.script_words.specs.declared.fault.LineCause.TheVariants as cause
use Rattle.script_fields.specs.Limits.{most_added}
use Rattle.script_fields.specs.SettingFields.{is_added_name}
use Rattle.script_text.specs.Draft.{Draft}
use Rattle.script_text.specs.Settings.{is_protected, with_added}
use Rattle.script_text.proofs.Memory.{out_of_memory}
use Rattle.script_text.proofs.draft.Draft.with_added.Goals as goal

-- what is left once nothing is refused
passed : {X : Type 0} (form twice room shut : Bool) (e f g h r : X) → form ≡ true → twice ≡ false
    → room ≡ true → shut ≡ false
    → (if not form then e else if twice then f else if not room then g else if shut then h else r)
    ≡ r
passed form twice room shut e f g h r i j k l = rw (i, j, k, l) refl

-- a new name is added to fewer than the most, if they aren't locked
name_added : (w : List ℕ) (d : Draft) → is_added_name w ≡ true → is_protected w d ≡ false
    → length d.script.added < most_added → d.script.locked ≡ false
    → with_added w d
    ≡ Ok (record d { script = record d.script { added = d.script.added ++ w ∷ [] } })
unfolding with_added
name_added w d form new few unlocked =
    let room : nat_lt (length d.script.added) most_added ≡ true = grind (arith, nat_tests) in
    passed (is_added_name w) (is_protected w d) (nat_lt (length d.script.added) most_added)
    d.script.locked _ _ _ _ _ form new room unlocked

module _ (w : List ℕ) (d : Draft) where
  -- a name of another form is refused
  name_bad : is_added_name w ≡ false → with_added w d ≡ Err cause.BadField
  unfolding with_added
  name_bad h = rw h refl

  -- a name that EVM protects already is refused
  name_twice : is_added_name w ≡ true → is_protected w d ≡ true
      → with_added w d ≡ Err cause.Twice
  unfolding with_added
  name_twice h k = rw (h, k) refl

  -- no name is added to the most
  name_too_many : is_added_name w ≡ true → is_protected w d ≡ false
      → most_added ≤ length d.script.added → with_added w d ≡ Err cause.TooMany
  unfolding with_added
  name_too_many h k many =
      let full : nat_lt (length d.script.added) most_added ≡ false = grind (arith, nat_tests) in
      rw (h, k, full) refl

pub returns-then-not-is_added_name : goal.returns-then-not-is_added_name
returns-then-not-is_added_name c =
    name_bad c.args.name.now c.args.self.now
    (sym c.is_added_name.ensures ∙ c.if-not-is_added_name.true)

pub returns-then-is_protected : goal.returns-then-is_protected
returns-then-is_protected c =
    name_twice c.args.name.now c.args.self.now
    (sym c.is_added_name.ensures ∙ c.if-not-is_added_name.false)
    (sym c.is_protected.ensures ∙ c.if-is_protected.true)

pub returns-then-len-ge-ADDED : goal.returns-then-len-ge-ADDED
returns-then-len-ge-ADDED c =
    let count : c.len.result ≡ length c.self.inside.added.items = search rules in
    let many : most_added ≤ length c.self.inside.added.items = rw count at c.if-len-ge-ADDED.true in
    let new = rw (← c.self.view_is) at (sym c.is_protected.ensures ∙ c.if-is_protected.false) in
    rw (← c.self.view_is)
    (name_too_many c.args.name.now _ (sym c.is_added_name.ensures ∙ c.if-not-is_added_name.false)
    new many)

pub returns : goal.returns
returns c =
    let count : c.len.result ≡ length c.self.inside.added.items = search rules in
    let few : length c.self.inside.added.items < most_added = rw count at c.if-len-ge-ADDED.false in
    let new = rw (← c.self.view_is) at (sym c.is_protected.ensures ∙ c.if-is_protected.false) in
    rw (← c.self.view_is, c.in_ok-push.ensures.items, c.in_ok-from_slice.ensures.bytes)
    (name_added c.args.name.now _ (sym c.is_added_name.ensures ∙ c.if-not-is_added_name.false) new
    few c.if-self.false)

pub returns-in_err-from_slice : goal.returns-in_err-from_slice
returns-in_err-from_slice c = out_of_memory c.from_residual.result _ _ c.from_residual.ensures.1

pub returns-in_err-push : goal.returns-in_err-push
returns-in_err-push c =
    out_of_memory c.from_residual-in_err-push.result _ _
    c.from_residual-in_err-push.ensures.1

use Rattle.std.proofs.Common.{◌≡◌, ◌∙◌, ap, sym, false, List}
use Rattle.std.specs.Option.{option_copied}
use Rattle.std.specs.Str.{bytes_eq}
use Rattle.std.proofs.lemmas.Slice.Eq.{bytes_eq-Decides}
use Rattle.xattr_store.specs.Attrs.{Pair, value}
use Rattle.xattr_store.proofs.Changed.{other_changed, same_changed}
use Rattle.xattr_store.proofs.attrs.Attrs.get_after.Goals as goal

pub returns-then-eq : goal.returns-then-eq
returns-then-eq c =
    let same : c.args.change.name.now ≡ c.args.name.now =
    (bytes_eq-Decides _ _).0 (sym c.eq.ensures ∙ c.if-eq.true) in
    rw (← c.self.view_is, ← same) (sym (same_changed _ _ _ c.self.invariant))

pub returns-else-eq : goal.returns-else-eq
returns-else-eq c =
    let other : bytes_eq c.args.change.name.now c.args.name.now ≡ false =
    sym c.eq.ensures ∙ c.if-eq.false in
    c.value_in.ensures
    ∙ ap (λ (pairs : List Pair). value c.args.name.now pairs) c.as_slice-pairs.ensures.value
    ∙ sym (rw (← c.self.view_is)
    (other_changed c.args.change.name.now c.args.name.now (option_copied c.args.change.value)
    c.self.inside.pairs.items other))

use Rattle.std.proofs.Common.{◌≡◌, ℕ, true, List, Err, refl, sym}
use Rattle.std.proofs.lemmas.Result.{err_from_is_err_and}
use Rattle.script_words.specs.declared.fault.LineCause.TheVariants as cause
use Rattle.script_text.specs.Draft.{Draft}
use Rattle.script_text.specs.Files.{has_attr, with_pair}
use Rattle.script_text.proofs.draft.Draft.with_pair.Goals as goal

-- an attribute that the file has is refused
attr_twice : (name bytes : List ℕ) (d : Draft) → true ≡ has_attr name d
    → with_pair name bytes d ≡ Err cause.Twice
attr_twice name bytes d h = rw (sym h) refl

pub returns-then-has_attr : goal.returns-then-has_attr
returns-then-has_attr c =
    attr_twice c.args.name.now c.args.value.now c.args.self.now c.if-has_attr.ensures

pub returns-in_err-put_on_last : goal.returns-in_err-put_on_last
returns-in_err-put_on_last c =
    let p = err_from_is_err_and c.from_residual-in_err-put_on_last.result
    c.from_residual-in_err-put_on_last.ensures.1 in
    rw (p.1, p.2, c.in_err-put_on_last.ensures.err) tt

-- What was consumed of a source, by what it had left.
use Rattle.std.proofs.Common.{◌≡◌, ℕ, ◌≤◌, List, ◌++◌, Option, Some, None, length, length-append, refl, sym, ap, ◌∙◌, arith}
use Rattle.std.specs.Prelude.{IfSome}
use Rattle.std.specs.Io.KnownBytes.{Consumes, IsAtEnd}
use Rattle.std.proofs.lemmas.List.{append-nil}
use Rattle.std.proofs.lemmas.Option.{none-some, same_Some}

-- a property that holds of each value that an option may have holds of the option
pub if_each : {A : Type 0} (o : Option A) (P : A → Type 0) → ((a : A) → o ≡ Some a → P a) → IfSome o P
if_each None P h = tt
if_each (Some a) P h = h a refl

-- a source gives at most the bytes that it had left
pub given_within : (given left : List ℕ) (before after : Option (List ℕ))
    → Consumes before after given → before ≡ Some left → length given ≤ length left
given_within given left None after c e = absurd (none-some left e)
given_within given left (Some xs) None c e = absurd c
given_within given left (Some xs) (Some ys) c e =
    let same = same_Some xs left e in
    omega (arith, ap length (sym same ∙ c), length-append given ys)

-- a source that is at its end has given all bytes that it had left
pub given_whole : (given left : List ℕ) (before after : Option (List ℕ))
    → Consumes before after given → IsAtEnd after → before ≡ Some left → given ≡ left
given_whole given left None after c at e = absurd (none-some left e)
given_whole given left (Some xs) None c at e = absurd c
given_whole given left (Some xs) (Some ys) c at e =
    sym (append-nil given) ∙ sym (ap (λ (l : List ℕ). given ++ l) at) ∙ sym c ∙ same_Some xs left e

-- Steps that may fail, and lists of bytes.
use Rattle.std.proofs.Common.{◌≡◌, ℕ, zero, suc, ◌<◌, Bool, true, false, cond, List, [], ◌∷◌, ◌++◌, Option, Some, None, refl, subst, arith, slice_index}
use Rattle.std.proofs.lemmas.Option.{none-some}
use Rattle.std.specs.List.{find}
use Rattle.carry_form.specs.Cut.{◌>>=◌}

-- if the second step gives a value, so does the first
pub steps : {A B : Type 0} (f : A → Option B) (o : Option A) (y : B) → (o >>= f) ≡ Some y
    → (x : A) × (o ≡ Some x) × (f x ≡ Some y)
steps f None y is = absurd (none-some y is)
steps f (Some x) y is = (x, refl, is)

-- a value that is there only if a test passes
pub chosen : {A : Type 0} (b : Bool) (o : Option A) (x : A) → cond b o None ≡ Some x
    → (b ≡ true) × (o ≡ Some x)
chosen true o x is = (refl, is)
chosen false o x is = absurd (none-some x is)

-- an element that a search finds passes its test
pub find-passes : {X : Type 0} (p : X → Bool) (xs : List X) (x : X) → find p xs ≡ Some x
    → p x ≡ true
find-passes p [] x found = absurd (none-some x found)
find-passes p (y ∷ ys) x found =
    elim (p y) as (λ b. p y ≡ b → cond b (Some y) (find p ys) ≡ Some x → p x ≡ true) [
      | true ↦ λ passes is. cc (passes, is)
      | false ↦ λ _ later. find-passes p ys x later
    ] refl found

-- each element of the list is a byte
abbrev pub IsBytes : List ℕ → Type 0
IsBytes bytes = (k : ℕ) → slice_index bytes k < 256

-- the bytes before a place are bytes
pub IsBytes-front : (a b : List ℕ) → IsBytes (a ++ b) → IsBytes a
IsBytes-front [] b small k = omega arith
IsBytes-front (x ∷ a) b small zero = small 0
IsBytes-front (x ∷ a) b small (suc k) = IsBytes-front a b (λ j. small (suc j)) k

-- the bytes from a place on are bytes
pub IsBytes-back : (a b : List ℕ) → IsBytes (a ++ b) → IsBytes b
IsBytes-back [] b small k = small k
IsBytes-back (x ∷ a) b small k = IsBytes-back a b (λ j. small (suc j)) k

-- equal lists are both bytes
pub IsBytes-same : (a b : List ℕ) → a ≡ b → IsBytes a → IsBytes b
IsBytes-same a b same small = subst IsBytes same small

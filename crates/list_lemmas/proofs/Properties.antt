-- Properties of all elements of a list.
use Rattle.std.proofs.Common.{List, ◌++◌}
use Rattle.std.specs.Prelude.{All, Contains}
use Rattle.std.proofs.lemmas.List.Elements.{All-weaker, All-contains, All-contains_itself, Contains-append_left}

-- a property of each element holds of all of a list
pub all_from : {A : Type 0} (P : A → Type 0) (xs : List A) → ((x : A) → Contains xs x → P x)
    → All P xs
all_from P xs f = All-weaker (Contains xs) P f xs (All-contains_itself xs)

-- a property of all elements of two joined lists holds of the first list
pub all_left : {A : Type 0} (P : A → Type 0) (xs ys : List A) → All P (xs ++ ys) → All P xs
all_left P xs ys h =
    all_from P xs (λ x c. All-contains P (xs ++ ys) x h (Contains-append_left xs ys x c))

-- What a loop has appended before its first item, and after its last one.
use Rattle.std.proofs.Common.{◌≡◌, ◌≤◌, ℕ, List, ◌++◌, append-nil, ap, length, map, sym, take, ◌∙◌}
use Rattle.std.specs.List.{flat_map}
use Rattle.std.proofs.lemmas.List.{take_all}

pub none_yet : {A B : Type 0} (out : List B) (f : A → List B) (xs : List A)
    → out ≡ out ++ flat_map f (take 0 xs)
none_yet out f xs = sym (append-nil out)

pub all_there : {A B : Type 0} {now : List B} (out : List B) (f : A → List B) (xs : List A)
    (i : ℕ) → length xs ≤ i → now ≡ out ++ flat_map f (take i xs) → now ≡ out ++ flat_map f xs
all_there {A} {B} {now} out f xs i past so_far =
    so_far ∙ ap (λ (l : List A). out ++ flat_map f l) (take_all i xs past)

-- the same, if each item gives one
pub each_there : {A B : Type 0} {now : List B} (out : List B) (f : A → B) (xs : List A) (i : ℕ)
    → length xs ≤ i → now ≡ out ++ map f (take i xs) → now ≡ out ++ map f xs
each_there {A} {B} {now} out f xs i past so_far =
    so_far ∙ ap (λ (l : List A). out ++ map f l) (take_all i xs past)

-- Lists to which a loop appends what each item gives.
use Rattle.std.proofs.Common.{◌≡◌, ℕ, ◌+◌, ◌<◌, List, [], ◌∷◌, ◌++◌, append_assoc, take, get_or, length, map, ap, sym, ◌∙◌, arith}
use Rattle.std.specs.List.{flat_map}
use Rattle.std.proofs.lemmas.Grind.{common_steps}

-- what the items up to the next one give, and that one
pub flat_map_more : {A B : Type 0} (f : A → List B) (xs : List A) (i : ℕ) (d : A)
    → i < length xs
    → flat_map f (take (i + 1) xs) ≡ flat_map f (take i xs) ++ f (get_or xs i d)
flat_map_more f xs i d within = grind (arith, common_steps)

-- the same, if the next item has a name
pub flat_map_item : {A B : Type 0} (f : A → List B) (xs : List A) (i : ℕ) (x : A) → i < length xs
    → x ≡ get_or xs i x → flat_map f (take (i + 1) xs) ≡ flat_map f (take i xs) ++ f x
flat_map_item {A} {B} f xs i x within is =
    flat_map_more f xs i x within ∙ ap (λ (y : A). flat_map f (take i xs) ++ f y) (sym is)

map_more : {A B : Type 0} (f : A → B) (xs : List A) (i : ℕ) (d : A)
    → i < length xs → map f (take (i + 1) xs) ≡ map f (take i xs) ++ f (get_or xs i d) ∷ []
map_more f xs i d within = grind (arith, common_steps)

-- what one more item gives was appended
pub one_more : {A B : Type 0} {now next : List B} (out : List B) (f : A → List B) (xs : List A)
    (i : ℕ) (d : A) → i < length xs → now ≡ out ++ flat_map f (take i xs)
    → next ≡ now ++ f (get_or xs i d) → next ≡ out ++ flat_map f (take (i + 1) xs)
one_more {A} {B} {now} {next} out f xs i d within so_far one =
    one
    ∙ (ap (λ (x : List B). x ++ f (get_or xs i d)) so_far
    ∙ (append_assoc out (flat_map f (take i xs)) (f (get_or xs i d))
    ∙ ap (λ (x : List B). out ++ x) (sym (flat_map_more f xs i d within))))

-- the same, if the item has a name
pub one_item : {A B : Type 0} {now next : List B} (out : List B) (f : A → List B) (xs : List A)
    (i : ℕ) (x : A) → i < length xs → x ≡ get_or xs i x → now ≡ out ++ flat_map f (take i xs)
    → next ≡ now ++ f x → next ≡ out ++ flat_map f (take (i + 1) xs)
one_item {A} {B} {now} {next} out f xs i x within is so_far one =
    one_more out f xs i x within so_far (one ∙ ap (λ (y : A). now ++ f y) is)

-- the same, if each item gives one
pub one_each : {A B : Type 0} {now next : List B} (out : List B) (f : A → B) (xs : List A)
    (i : ℕ) (d : A) → i < length xs → now ≡ out ++ map f (take i xs)
    → next ≡ now ++ f (get_or xs i d) ∷ [] → next ≡ out ++ map f (take (i + 1) xs)
one_each {A} {B} {now} {next} out f xs i d within so_far one =
    one
    ∙ (ap (λ (x : List B). x ++ f (get_or xs i d) ∷ []) so_far
    ∙ (append_assoc out (map f (take i xs)) (f (get_or xs i d) ∷ [])
    ∙ ap (λ (x : List B). out ++ x) (sym (map_more f xs i d within))))

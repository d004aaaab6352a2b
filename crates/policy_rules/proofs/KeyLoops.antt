-- Iterating over the keys.
use Rattle.std.proofs.Common.{◌≡◌, ℕ, zero, suc, ◌+◌, ◌<◌, ◌≤◌, List, [], ◌∷◌, ◌++◌, flat_map, length, get_or, drop, take, Option, Some, None, sym, ap, ◌∙◌, add-one, append_assoc, arith}
use Rattle.std.proofs.Math.ListN.{drop_of_length-le}
use Rattle.std.proofs.Math.Seq.{drop-cons}
use Rattle.std.proofs.lemmas.List.{append-nil}
use Rattle.policy_rules.specs.declared.key.Key.{Key}
use Rattle.policy_rules.specs.Key.{key_among, value_in}

module _ (token : List ℕ) (whole : Option (Key × List ℕ)) (ks : List Key) (n : ℕ) (d : Key) where
  at_key : n < length ks → drop n ks ≡ get_or ks n d ∷ drop (n + 1) ks
  at_key lt =
      let e : drop n ks ≡ get_or ks n d ∷ drop (suc n) ks = drop-cons ks n d lt in
      rw add-one e

  -- a key with which the token begins is the first such key, if no earlier one is
  pub key_here : (value : List ℕ) → n < length ks → value_in (get_or ks n d) token ≡ Some value
      → key_among (drop n ks) token ≡ whole → Some (get_or ks n d, value) ≡ whole
  key_here value lt found so_far = rw (at_key lt, found) at so_far

  -- if the token doesn't begin with this key, the keys after it decide
  pub key_later : (m : ℕ) → n < length ks → value_in (get_or ks n d) token ≡ None → m ≡ n + 1
      → key_among (drop n ks) token ≡ whole → key_among (drop m ks) token ≡ whole
  key_later m lt missed is so_far = rw is (rw (at_key lt, missed) at so_far)

  pub key_nowhere : length ks ≤ n → key_among (drop n ks) token ≡ whole → None ≡ whole
  key_nowhere le so_far = rw (drop_of_length-le ks le) at so_far

texts_suc : {X : Type 0} (f : X → List ℕ) (xs : List X) (n : ℕ) (d : X) → n < length xs
    → flat_map f (take (suc n) xs) ≡ flat_map f (take n xs) ++ f (get_or xs n d)
texts_suc f [] n d lt = absurd (omega (arith, lt))
texts_suc f (x ∷ xs) zero d lt = append-nil (f x)
texts_suc f (x ∷ xs) (suc n) d lt =
    ap (λ (bs : List ℕ). f x ++ bs) (texts_suc f xs n d (omega (arith, lt)))
    ∙ sym (append_assoc (f x) (flat_map f (take n xs)) (f (get_or xs n d)))

-- the concatenated texts of one more key
pub texts_more : {X : Type 0} (f : X → List ℕ) (xs : List X) (n : ℕ) (d : X) → n < length xs
    → flat_map f (take (n + 1) xs) ≡ flat_map f (take n xs) ++ f (get_or xs n d)
texts_more f xs n d lt = rw add-one (texts_suc f xs n d lt)

pub printed_more : (start so_far now : List ℕ) (t u more : List ℕ) → so_far ≡ start ++ t → now
    ≡ so_far ++ more → u ≡ t ++ more → now ≡ start ++ u
printed_more start so_far now t u more a b c = rw (b, a, c) (append_assoc start t more)

-- A map of paths with one more path.
use Rattle.std.proofs.Common.{◌≡◌, ℕ, suc, ◌+◌, Bool, true, false, cond, List, [], ◌∷◌, ◌++◌, length, Option, Some, None, Vec, Global, refl, sym, subst, ◌∙◌, inl, inr, arith}
use Rattle.std.specs.BTreeMap.{BTreeMap, UpdatesBy, get_by}
use Rattle.std.specs.Cmp.{eq_by_cmp_equiv}
use Rattle.std.specs.Cmp.Lexicographic.{slice_cmp, bytes_decides, nat_list_cmp_total, nat_list_eq_equiv}
use Rattle.std.specs.Map.{AreApart, IsKeyTest, KeepsOthers, lookup}
use Rattle.std.specs.declared.cmp.Ordering.{Ordering}
use Rattle.std.specs.Ordering.{is_eq, nat_cmp}
use Rattle.std.specs.Str.{bytes_eq}
use Rattle.std.proofs.lemmas.Bool.{cases_Bool}
use Rattle.std.proofs.lemmas.Map.Text.{is_eq-slice_cmp}
use Rattle.call_lines.specs.Places.{Finds, one_on, place_in}

-- a map from paths to their indices
abbrev Paths : Type 0
Paths = BTreeMap (Vec ℕ Global) ℕ

-- the order of the map's keys, which is that of their bytes
abbrev key_order : Vec ℕ Global → Vec ℕ Global → Ordering
key_order a b = slice_cmp nat_cmp a.items b.items

-- the first of two options, or else the second
abbrev either : Option ℕ → Option ℕ → Option ℕ
either (Some n) m = Some n
either None m = m

-- the choice between two options, increased by one, is that between both increased
one_on_either : (a b : Option ℕ) → one_on (either a b) ≡ either (one_on a) (one_on b)
one_on_either (Some n) b = refl
one_on_either None b = refl

-- the first of an option and nothing is the option
nothing : (o : Option ℕ) → either o None ≡ o
nothing (Some n) = refl
nothing None = refl

-- bytes are equal to themselves
reflexive : (bs : List ℕ) → bytes_eq bs bs ≡ true
reflexive bs = (bytes_decides bs bs).1 refl

-- a second option that is n or nothing, increased by one, is n + 1 or nothing
counted : (b : Bool) (n : ℕ) (o : Option ℕ) → either o (one_on (cond b (Some n) None))
    ≡ either o (cond b (Some (suc n)) None)
counted true n (Some m) = refl
counted true n None = let e : n + 1 ≡ suc n = omega arith in rw e refl
counted false n (Some m) = refl
counted false n None = refl

-- the index of a path among the paths with one appended
place_appended : (paths : List (List ℕ)) (p q : List ℕ) → place_in (paths ++ p ∷ []) q
    ≡ either (place_in paths q) (cond (bytes_eq q p) (Some (length paths)) None)
place_appended [] p q = refl
place_appended (x ∷ xs) p q = elim (cases_Bool (bytes_eq q x)) [
  | inl e ↦ rw e refl
  | inr e ↦ rw (e, place_appended xs p q) (one_on_either _ _
      ∙ counted (bytes_eq q p) (length xs) (one_on (place_in xs q)))
]

-- a key that equals one of two different texts doesn't equal the other
apart : (bs cs ks : List ℕ) → bytes_eq bs cs ≡ false → is_eq (slice_cmp nat_cmp bs ks) ≡ true
    → is_eq (slice_cmp nat_cmp cs ks) ≡ false
apart bs cs ks n y =
    is_eq-slice_cmp cs ks
    ∙ nat_list_eq_equiv.symm cs ks
    ∙ sym (nat_list_eq_equiv.congr bs ks cs (sym (is_eq-slice_cmp bs ks) ∙ y)) ∙ n

-- a change of some keys leaves what the map has for the keys apart from them
kept : (eq : Vec ℕ Global → Vec ℕ Global → Bool) (test : Vec ℕ Global → Bool)
    (old new : List (Vec ℕ Global × ℕ)) → KeepsOthers eq test old new
    → (other : Vec ℕ Global → Bool) → IsKeyTest eq other → AreApart test other → lookup other new
    ≡ lookup other old
unfolding KeepsOthers
kept eq test old new h = h

-- all other paths are found as before
others : (key : Vec ℕ Global) (m n : Paths) (w : Option ℕ)
    → UpdatesBy key_order (key_order key) m n w → (q : List ℕ) → bytes_eq key.items q ≡ false
    → get_by (λ k. slice_cmp nat_cmp q k.items) n ≡ get_by (λ k. slice_cmp nat_cmp q k.items) m
others key m n w h q e =
    kept _ _ _ _ h.3 _ (λ x y. (eq_by_cmp_equiv nat_list_cmp_total).congr q x.items y.items)
    (λ k. apart key.items q k.items e)

-- the map with a new path has it under the next index
pub one_path_more : (key : Vec ℕ Global) (m n : Paths) (paths : List (List ℕ))
    → UpdatesBy key_order (key_order key) m n (Some (length paths))
    → Finds m paths → place_in paths key.items ≡ None → Finds n (paths ++ key.items ∷ [])
one_path_more key m n paths h old absent q = elim (cases_Bool (bytes_eq key.items q)) [
  | inl e ↦
      let same : key.items ≡ q = (bytes_decides key.items q).0 e in
      subst (λ l. get_by (λ k. slice_cmp nat_cmp l k.items) n
      ≡ place_in (paths ++ key.items ∷ []) l) same
      (h.1 ∙ sym (rw (place_appended paths key.items key.items, absent, reflexive key.items) refl))
  | inr e ↦
      others key m n _ h q e ∙ old q
      ∙ sym (rw (place_appended paths key.items q, nat_list_eq_equiv.symm q key.items, e)
      (nothing (place_in paths q)))
]

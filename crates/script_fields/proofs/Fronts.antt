-- What the words of the line of a file or of a file system say, if there are as many as it has.
use Rattle.std.proofs.Common.{◌≡◌, ℕ, zero, suc, List, [], ◌∷◌, ◌++◌, length, map, get_or, Bor}
use Rattle.std.proofs.Common.{Option, None, option_map, refl, sym, ap, ◌∙◌, arith}
use Rattle.std.proofs.lemmas.List.{map_push}
use Rattle.script_fields.specs.FileFields.{Front, file_in, front_in, front_of}
use Rattle.script_fields.specs.SuperFields.{super_in, super_of}

-- the words of a line, borrowed
abbrev Words : Type 0
Words = List (Bor (List ℕ))

-- the bytes of the word at an index
abbrev at : Words → Bor (List ℕ) → ℕ → List ℕ
at ws none n = (get_or ws n none).now

-- the front that the first seven words say
abbrev front_at : Words → Bor (List ℕ) → Option Front
front_at ws none =
    front_of (at ws none 0) (at ws none 1) (at ws none 2) (at ws none 3) (at ws none 4)
    (at ws none 5) (at ws none 6)

-- n words, each by its index
abbrev each : ℕ → (ℕ → Bor (List ℕ)) → Words
each zero word = []
each (suc n) word = word 0 ∷ each n (λ k. word (suc k))

-- the words of a line are those at the indices below their number
all_at : (ws : Words) (none : Bor (List ℕ)) (n : ℕ) → length ws ≡ n
    → each n (λ k. get_or ws k none) ≡ ws
all_at [] none zero len = refl
all_at [] none (suc n) len = absurd (omega (arith, len))
all_at (w ∷ ws) none zero len = absurd (omega (arith, len))
all_at (w ∷ ws) none (suc n) len =
    ap (λ (us : Words). w ∷ us) (all_at ws none n (omega (arith, len)))

-- seven words say what they say as a front
pub seven_said : (ws : Words) (none : Bor (List ℕ)) (said : Option Front) → length ws ≡ 7
    → said ≡ front_at ws none → said ≡ front_in (map (λ w. w.now) ws)
seven_said ws none said len is =
    is ∙ ap (λ (us : Words). front_in (map (λ w. w.now) us)) (all_at ws none 7 len)

-- a line of a file is the words of a front, and one more
file_split : (ws : List (List ℕ)) (content : List ℕ)
    → option_map (λ front. (front, content)) (front_in ws) ≡ file_in (ws ++ content ∷ [])
file_split [] content = refl
file_split (a ∷ []) content = refl
file_split (a ∷ b ∷ []) content = refl
file_split (a ∷ b ∷ c ∷ []) content = refl
file_split (a ∷ b ∷ c ∷ d ∷ []) content = refl
file_split (a ∷ b ∷ c ∷ d ∷ e ∷ []) content = refl
file_split (a ∷ b ∷ c ∷ d ∷ e ∷ f ∷ []) content = refl
file_split (a ∷ b ∷ c ∷ d ∷ e ∷ f ∷ g ∷ []) content = refl
file_split (a ∷ b ∷ c ∷ d ∷ e ∷ f ∷ g ∷ h ∷ []) content = refl
file_split (a ∷ b ∷ c ∷ d ∷ e ∷ f ∷ g ∷ h ∷ i ∷ more) content = refl

-- the words say the front that all but the last say, and the last
pub file_said : (ws front : Words) (content : Bor (List ℕ)) (said : Option Front)
    → ws ≡ front ++ content ∷ [] → said ≡ front_in (map (λ w. w.now) front)
    → option_map (λ f. (f, content.now)) said ≡ file_in (map (λ w. w.now) ws)
file_said ws front content said split is =
    ap (option_map (λ f. (f, content.now))) is
    ∙ (file_split (map (λ w. w.now) front) content.now
    ∙ (ap file_in (sym (map_push (λ w. w.now) front content))
    ∙ ap (λ (us : Words). file_in (map (λ w. w.now) us)) (sym split)))

-- no words say nothing
pub none_said : (ws : Words) → length ws ≡ 0 → None ≡ file_in (map (λ w. w.now) ws)
none_said [] none = refl
none_said (w ∷ ws) none = absurd (omega (arith, none))

-- four words say what they say as a file system
pub four_said : (ws : Words) (none : Bor (List ℕ)) → length ws ≡ 4
    → super_of (at ws none 0) (at ws none 1) (at ws none 2) (at ws none 3)
    ≡ super_in (map (λ w. w.now) ws)
four_said ws none len =
    ap (λ (us : Words). super_in (map (λ w. w.now) us)) (all_at ws none 4 len)

use Rattle.std.proofs.Common.{◌≡◌, ℕ, ◌≤◌, List, [], ◌∷◌, None, length, map, string_bytes, Global, refl, arith}
use Rattle.std.proofs.lemmas.List.{length-map}
use Rattle.view_top.specs.Words.{command_of}
use Rattle.view_top.proofs.command.command_of.Goals as goal

-- three words ask for nothing
three : (ws : List (List ℕ)) → length ws ≡ 3 → None ≡ command_of ws
three [] h = refl
three (a ∷ []) h = absurd (omega (arith, h))
three (a ∷ b ∷ []) h = absurd (omega (arith, h))
three (a ∷ b ∷ c ∷ []) h = refl
three (a ∷ b ∷ c ∷ d ∷ ws) h = absurd (omega (arith, h))

-- more than four words ask for nothing
many : (ws : List (List ℕ)) → 5 ≤ length ws → None ≡ command_of ws
many [] h = refl
many (a ∷ []) h = absurd (omega (arith, h))
many (a ∷ b ∷ []) h = absurd (omega (arith, h))
many (a ∷ b ∷ c ∷ []) h = refl
many (a ∷ b ∷ c ∷ d ∷ []) h = absurd (omega (arith, h))
many (a ∷ b ∷ c ∷ d ∷ e ∷ ws) h = refl

pub returns-in_default-2 : goal.returns-in_default-2
returns-in_default-2 c =
    three (map string_bytes c.args.words.now)
    (omega (arith, length-map c.args.words.now (string_bytes {Z = Global})))

pub returns-in_default-3 : goal.returns-in_default-3
returns-in_default-3 c =
    many (map string_bytes c.args.words.now)
    (omega (arith, length-map c.args.words.now (string_bytes {Z = Global})))

-- Lines with the wrong number of words.
use Rattle.std.proofs.Common.{◌≡◌, ◌≢◌, ℕ, ◌<◌, List, [], ◌∷◌, length, map, Bor, refl, arith}

-- the words of a line, borrowed
abbrev Words : Type 0
Words = List (Bor (List ℕ))

-- the bytes of each word
abbrev texts : Words → List (List ℕ)
texts ws = map (λ w. w.now) ws

-- a reader that refuses words of each wrong number, one after another, refuses them all
module _ {X : Type 0} (made : List (List ℕ) → X) (bad : X) where
  -- a reader that refuses each number of words up to three refuses fewer than four
  pub below_four : made [] ≡ bad
      → ((a : List ℕ) → made (a ∷ []) ≡ bad)
      → ((a b : List ℕ) → made (a ∷ b ∷ []) ≡ bad)
      → ((a b c : List ℕ) → made (a ∷ b ∷ c ∷ []) ≡ bad)
      → (ws : Words) → length ws < 4 → made (texts ws) ≡ bad
  below_four r0 r1 r2 r3 [] bound = r0
  below_four r0 r1 r2 r3 (a ∷ []) bound = r1 a.now
  below_four r0 r1 r2 r3 (a ∷ b ∷ []) bound = r2 a.now b.now
  below_four r0 r1 r2 r3 (a ∷ b ∷ c ∷ []) bound = r3 a.now b.now c.now
  below_four r0 r1 r2 r3 (a ∷ b ∷ c ∷ d ∷ more) bound = absurd (omega (arith, bound))

  -- a reader that refuses each number of words but four refuses all words that aren't four
  pub but_four : made [] ≡ bad
      → ((a : List ℕ) → made (a ∷ []) ≡ bad)
      → ((a b : List ℕ) → made (a ∷ b ∷ []) ≡ bad)
      → ((a b c : List ℕ) → made (a ∷ b ∷ c ∷ []) ≡ bad)
      → ((a b c d e : List ℕ) (more : List (List ℕ)) → made (a ∷ b ∷ c ∷ d ∷ e ∷ more) ≡ bad)
      → (ws : Words) → length ws ≢ 4 → made (texts ws) ≡ bad
  but_four r0 r1 r2 r3 r5 [] other = r0
  but_four r0 r1 r2 r3 r5 (a ∷ []) other = r1 a.now
  but_four r0 r1 r2 r3 r5 (a ∷ b ∷ []) other = r2 a.now b.now
  but_four r0 r1 r2 r3 r5 (a ∷ b ∷ c ∷ []) other = r3 a.now b.now c.now
  but_four r0 r1 r2 r3 r5 (a ∷ b ∷ c ∷ d ∷ []) other = absurd (other refl)
  but_four r0 r1 r2 r3 r5 (a ∷ b ∷ c ∷ d ∷ e ∷ more) other =
      r5 a.now b.now c.now d.now e.now (texts more)

  -- a reader that refuses each number of words but seven refuses all words that aren't seven
  pub but_seven : made [] ≡ bad
      → ((a : List ℕ) → made (a ∷ []) ≡ bad)
      → ((a b : List ℕ) → made (a ∷ b ∷ []) ≡ bad)
      → ((a b c : List ℕ) → made (a ∷ b ∷ c ∷ []) ≡ bad)
      → ((a b c d : List ℕ) → made (a ∷ b ∷ c ∷ d ∷ []) ≡ bad)
      → ((a b c d e : List ℕ) → made (a ∷ b ∷ c ∷ d ∷ e ∷ []) ≡ bad)
      → ((a b c d e f : List ℕ) → made (a ∷ b ∷ c ∷ d ∷ e ∷ f ∷ []) ≡ bad)
      → ((a b c d e f g h : List ℕ) (more : List (List ℕ))
      → made (a ∷ b ∷ c ∷ d ∷ e ∷ f ∷ g ∷ h ∷ more) ≡ bad)
      → (ws : Words) → length ws ≢ 7 → made (texts ws) ≡ bad
  but_seven r0 r1 r2 r3 r4 r5 r6 r8 [] other = r0
  but_seven r0 r1 r2 r3 r4 r5 r6 r8 (a ∷ []) other = r1 a.now
  but_seven r0 r1 r2 r3 r4 r5 r6 r8 (a ∷ b ∷ []) other = r2 a.now b.now
  but_seven r0 r1 r2 r3 r4 r5 r6 r8 (a ∷ b ∷ c ∷ []) other = r3 a.now b.now c.now
  but_seven r0 r1 r2 r3 r4 r5 r6 r8 (a ∷ b ∷ c ∷ d ∷ []) other = r4 a.now b.now c.now d.now
  but_seven r0 r1 r2 r3 r4 r5 r6 r8 (a ∷ b ∷ c ∷ d ∷ e ∷ []) other = r5 a.now b.now c.now d.now e.now
  but_seven r0 r1 r2 r3 r4 r5 r6 r8 (a ∷ b ∷ c ∷ d ∷ e ∷ f ∷ []) other =
      r6 a.now b.now c.now d.now e.now f.now
  but_seven r0 r1 r2 r3 r4 r5 r6 r8 (a ∷ b ∷ c ∷ d ∷ e ∷ f ∷ g ∷ []) other = absurd (other refl)
  but_seven r0 r1 r2 r3 r4 r5 r6 r8 (a ∷ b ∷ c ∷ d ∷ e ∷ f ∷ g ∷ h ∷ more) other =
      r8 a.now b.now c.now d.now e.now f.now g.now h.now (texts more)

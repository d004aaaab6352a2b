-- Examples of answers.
use Rattle.std.proofs.Common.{◌<◌, [], ◌∷◌, codes, Some, None, lit<, arith}
use Rattle.script_text.specs.steps.hashes.declared.algo.Algo.TheVariants.{Sha256}
use Rattle.buffer_measure.specs.Answers.{IsAnswer, Rises}
use Rattle.buffer_measure.specs.declared.answer.Answer.TheVariants.{Skipped, Added, Already}

-- an answer is `Skipped` exactly if no line wants the buffer measured
skipped : (IsAnswer Sha256 [] (Some 10) (codes "k", []) Skipped → ⊥)
    × (IsAnswer Sha256 [] None (codes "k", []) (Added 1) → ⊥)
    × (IsAnswer Sha256 [] None (codes "k", []) (Already 1) → ⊥)
    × IsAnswer Sha256 [] None (codes "k", []) Skipped
skipped = ((λ h. h), (λ h. h), (λ h. h), tt)

-- places that are named before may be named again, but none below them is added
rising : Rises (Added 1 ∷ Already 1 ∷ Skipped ∷ Already 0 ∷ Added 2 ∷ Already 1 ∷ [])
    × (Rises (Added 2 ∷ Added 1 ∷ []) → ⊥) × (Rises (Already 2 ∷ Added 2 ∷ []) → ⊥)
rising = (
  (
    ((lit< tt, tt), tt),
    (((lit< tt, tt), tt), (tt, (((lit< tt, tt), tt), ((tt, tt), ((tt, tt), tt))))),
  ),
  (λ r. let low : 2 < 1 = r.0.0.0 in omega (arith, low)),
  (λ r. let low : 2 < 2 = r.0.0.0 in omega (arith, low)),
)

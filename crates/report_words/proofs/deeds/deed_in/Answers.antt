use Rattle.std.proofs.Common.{◌≡◌, ◌∷◌, Bor, List, ℕ, refl, sym, ◌∙◌}
use Rattle.text_forms.specs.Options.{◌>>=◌}
use Rattle.report_words.proofs.Firsts.{next_given, nothing_next}
use Rattle.report_words.specs.Deeds.{deed_by, deed_in, word_of}
use Rattle.report_words.specs.Forms.{Words}
use Rattle.report_words.proofs.deeds.deed_in.Goals as goal

by_word : (w : List ℕ) (ws : Words) → deed_in (w ∷ ws) ≡ (word_of w >>= λ k. deed_by k ws)
unfolding deed_in
by_word w ws = refl

pub returns-in_err-word-in-len1-up : goal.returns-in_err-word-in-len1-up
returns-in_err-word-in-len1-up c =
    rw c.from_residual.ensures
    (nothing_next (λ (w : Bor (List ℕ)). w.now) word_of deed_by deed_in by_word
    c.args.words.now _ c.in-len1-up.len_at_least
    (sym c.word_of.ensures ∙ c.in_err-word-in-len1-up.was))

pub returns-in_ok-word-in-len1-up : goal.returns-in_ok-word-in-len1-up
returns-in_ok-word-in-len1-up c =
    c.deed_by.ensures
    ∙ next_given (λ (w : Bor (List ℕ)). w.now) word_of deed_by deed_in by_word
    c.args.words.now _ c.in_ok-word-in-len1-up.word c.in-len1-up.len_at_least
    (sym c.word_of.ensures ∙ c.in_ok-word-in-len1-up.was)

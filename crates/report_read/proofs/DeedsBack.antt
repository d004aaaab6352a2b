-- The words of a deed are read back.
use Rattle.std.proofs.Common.{◌≡◌, ℕ, ◌<◌, Bool, true, false, ◌∷◌, ◌++◌, codes, length, Some, None, unwrap_or, refl}
use Rattle.report_text.specs.Words.{Line, appraise_words, deed_words, flag_words, measure_words, or_dash}
use Rattle.report_text.specs.model.events.declared.deed.Change.TheVariants as change
use Rattle.report_text.specs.model.events.declared.deed.Deed.{Deed}
use Rattle.report_text.specs.model.events.declared.deed.Deed.TheVariants as deed
use Rattle.report_text.specs.model.events.declared.deed.How.TheVariants as how
use Rattle.report_text.specs.model.events.meta.declared.measurement.Template.{Template}
use Rattle.report_text.specs.model.events.policy.RuleValue.{is_any}
use Rattle.report_text.specs.model.events.meta.declared.appraisal.Need.{Need}
use Rattle.report_text.specs.model.events.meta.declared.appraisal.Need.TheVariants as need
use Rattle.report_words.specs.Deeds.{acts_in, deed_by, deed_in, ruled}
use Rattle.report_read.specs.ReadBack.{IsSmallDeed}
use Rattle.report_read.specs.Short.{short_deed}
use Rattle.report_read.proofs.WordsBack.{func_is, mode_back, no_number, number_back, pcr_back, template_is}

-- ---- deeds

-- the words of the acts, and what comes after them
acts_back : (m a au ha : Bool) (pcr : ℕ) (t : Template) (n : Need) (x : Line) → pcr < 24
    → acts_in (or_dash (measure_words m pcr t ++ appraise_words a (is_any n)
    ++ flag_words (codes "audit") au ++ flag_words (codes "hash") ha) ++ codes "=" ∷ x)
    ≡ Some (codes "=" ∷ x)
acts_back true true true true pcr t need.Any x h = rw (pcr_back pcr h, template_is t) refl
acts_back true true true false pcr t need.Any x h = rw (pcr_back pcr h, template_is t) refl
acts_back true true false true pcr t need.Any x h = rw (pcr_back pcr h, template_is t) refl
acts_back true true false false pcr t need.Any x h = rw (pcr_back pcr h, template_is t) refl
acts_back true true true true pcr t need.Signature x h =
    rw (pcr_back pcr h, template_is t) refl
acts_back true true true false pcr t need.Signature x h =
    rw (pcr_back pcr h, template_is t) refl
acts_back true true false true pcr t need.Signature x h =
    rw (pcr_back pcr h, template_is t) refl
acts_back true true false false pcr t need.Signature x h =
    rw (pcr_back pcr h, template_is t) refl
acts_back true false true true pcr t n x h = rw (pcr_back pcr h, template_is t) refl
acts_back true false true false pcr t n x h = rw (pcr_back pcr h, template_is t) refl
acts_back true false false true pcr t n x h = rw (pcr_back pcr h, template_is t) refl
acts_back true false false false pcr t n x h = rw (pcr_back pcr h, template_is t) refl
acts_back false true true true pcr t need.Any x h = refl
acts_back false true true false pcr t need.Any x h = refl
acts_back false true false true pcr t need.Any x h = refl
acts_back false true false false pcr t need.Any x h = refl
acts_back false true true true pcr t need.Signature x h = refl
acts_back false true true false pcr t need.Signature x h = refl
acts_back false true false true pcr t need.Signature x h = refl
acts_back false true false false pcr t need.Signature x h = refl
acts_back false false true true pcr t n x h = refl
acts_back false false true false pcr t n x h = refl
acts_back false false false true pcr t n x h = refl
acts_back false false false false pcr t n x h = refl

-- no act is the word `rules`
unruled : (m a au ha : Bool) (pcr : ℕ) (t : Template) (n : Need) (x : Line)
    → ruled (or_dash (measure_words m pcr t ++ appraise_words a (is_any n)
    ++ flag_words (codes "audit") au ++ flag_words (codes "hash") ha) ++ codes "=" ∷ x)
    ≡ Some (or_dash (measure_words m pcr t ++ appraise_words a (is_any n)
    ++ flag_words (codes "audit") au ++ flag_words (codes "hash") ha) ++ codes "=" ∷ x)
unruled true a au ha pcr t n x = refl
unruled false true au ha pcr t need.Any x = refl
unruled false true au ha pcr t need.Signature x = refl
unruled false false true ha pcr t n x = refl
unruled false false false true pcr t n x = refl
unruled false false false false pcr t n x = refl

-- births, posts and waits have lines of other forms, or none
abbrev pub IsStep : Deed → Type 0
IsStep deed.Birth = ⊥
IsStep (deed.Post sem) = ⊥
IsStep (deed.Wait sem) = ⊥
IsStep _ = Unit {0}

-- the words of a deed, and what comes after them
pub deed_back : (t : Template) (g : Bool) (d : Deed) (x : Line) → IsStep d → IsSmallDeed d
    → deed_in (deed_words t g d ++ codes "=" ∷ x) ≡ Some (short_deed d, codes "=" ∷ x)
unfolding deed_in deed_by
deed_back t g deed.Birth x s h = absurd s
deed_back t g (deed.Count (how.Read true)) x s h = refl
deed_back t g (deed.Count (how.Read false)) x s h = refl
deed_back t g (deed.Count (how.Write true true)) x s h = refl
deed_back t g (deed.Count (how.Write true false)) x s h = refl
deed_back t g (deed.Count (how.Write false true)) x s h = refl
deed_back t g (deed.Count (how.Write false false)) x s h = refl
deed_back t g (deed.Count how.Exec) x s h = refl
deed_back t true (deed.Check file fn a n) x s h =
    rw (
      number_back file h.0,
      func_is fn,
      number_back n h.2,
      acts_back a.measure a.appraise a.audit a.hash a.pcr (unwrap_or a.template t) a.need x
          h.1,
    ) refl
deed_back t false (deed.Check file fn a n) x s h =
    rw (
      number_back file h.0,
      func_is fn,
      unruled a.measure a.appraise a.audit a.hash a.pcr (unwrap_or a.template t) a.need x,
      acts_back a.measure a.appraise a.audit a.hash a.pcr (unwrap_or a.template t) a.need x
          h.1,
    ) refl
deed_back t g (deed.Read file from len) x s h =
    rw (number_back file h.0, number_back from h.1, number_back len h.2) refl
deed_back t g (deed.Write file from bytes) x s h =
    rw (number_back file h.0, number_back from h.1, number_back (length bytes) h.2) refl
deed_back t g (deed.Trunc file len) x s h =
    rw (number_back file h.0, number_back len h.1) refl
deed_back t g (deed.SetAttr name None admin) x s h = refl
deed_back t g (deed.SetAttr name (Some bytes) admin) x s h =
    rw (no_number (length bytes) (codes "-") refl, number_back (length bytes) h) refl
deed_back t g (deed.SetMeta (change.Mode mode)) x s h = rw (mode_back mode h) refl
deed_back t g (deed.SetMeta (change.Owner uid gid)) x s h =
    rw (number_back uid h.0, number_back gid h.1) refl
deed_back t g (deed.Take n) x s h = rw (number_back n h) refl
deed_back t g (deed.Chunk n) x s h = rw (number_back n h) refl
deed_back t g (deed.Finish n) x s h = rw (number_back n h) refl
deed_back t g (deed.Close n) x s h = rw (number_back n h) refl
deed_back t g (deed.CloseTake n) x s h = rw (number_back n h) refl
deed_back t g (deed.CloseChunk n) x s h = rw (number_back n h) refl
deed_back t g (deed.CloseFinish n) x s h = rw (number_back n h) refl
deed_back t g (deed.Post n) x s h = absurd s
deed_back t g (deed.Wait n) x s h = absurd s

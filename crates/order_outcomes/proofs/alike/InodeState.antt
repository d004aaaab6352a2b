-- The state of an inode after one more event, in two journals in which the same files have other
-- names.
use Rattle.std.proofs.Common.{◌≡◌, ℕ, ◌≤◌, Bool, true, false, ◌&&◌, ◌||◌, not, cond, List, [], ◌∷◌, length, refl, ap, ap₂, ◌∙◌}
use Rattle.std.specs.Prelude.{◌==◌}
use Rattle.std.proofs.lemmas.Bool.{le-leb}
use Rattle.report_text.specs.model.History.{event}
use Rattle.report_text.specs.model.events.Files.{is_writer, writers}
use Rattle.report_text.specs.model.events.State.{content_after, is_last_drop, metadata_after, modified_in, modified_since, modifies, new_after, present, present_after, raises_writers, span, versions_after}
use Rattle.report_text.specs.model.events.declared.deed.Deed.{Deed}
use Rattle.report_text.specs.model.events.declared.deed.Deed.TheVariants as deed
use Rattle.report_text.specs.model.events.declared.told.Event.{Event}
use Rattle.report_text.specs.model.events.declared.told.Told.{Told}
use Rattle.report_text.specs.model.events.declared.told.Told.TheVariants as told
use Rattle.report_text.specs.model.events.meta.declared.identity.Meta.{Meta}
use Rattle.report_text.specs.model.events.meta.declared.step.Who.{Who}
use Rattle.order_outcomes.proofs.alike.InodeFiles.{drops_named, modifies_named}
use Rattle.order_outcomes.proofs.alike.InodeLaws.{deed_named}

-- ---- what doesn't depend on the files

-- the file exists
pub present_named : (r : ℕ → ℕ) (d : Deed) (t : Told) (old : Bool)
    → present_after (deed_named r d) t old ≡ present_after d t old
present_named r deed.Birth t old = refl
present_named r d t old = refl

-- the file system counts changes
pub versions_named : (r : ℕ → ℕ) (d : Deed) (t : Told) (old : Bool)
    → versions_after (deed_named r d) t old ≡ versions_after d t old
versions_named r deed.Birth t old = refl
versions_named r d t old = refl

-- the content
pub content_named : (r : ℕ → ℕ) (d : Deed) (t : Told) (old : List ℕ)
    → content_after (deed_named r d) t old ≡ content_after d t old
content_named r deed.Birth t old = refl
content_named r d t old = refl

-- the metadata
pub metadata_named : (r : ℕ → ℕ) (d : Deed) (t : Told) (old : Meta)
    → metadata_after (deed_named r d) t old ≡ metadata_after d t old
metadata_named r deed.Birth t old = refl
metadata_named r d t old = refl

-- ---- what depends on the number of writers

module _ (r : ℕ → ℕ) (p q : List Event) (writers_in : writers q ≡ writers p) where
  -- the event drops the last writer of both
  pub last_drop_same : (d : Deed) (t : Told)
      → is_last_drop (deed_named r d) t q ≡ is_last_drop d t p
  last_drop_same d t =
      ap₂ (λ (b : Bool) (n : ℕ). b && (n == 1)) (drops_named r d t) writers_in

  -- it counts the first writer of both
  raises_same : (d : Deed) (t : Told)
      → raises_writers (deed_named r d) t q ≡ raises_writers d t p
  raises_same (deed.Count how) told.Held =
      ap (λ (n : ℕ). is_writer how && (n == 0)) writers_in
  raises_same d t = refl

  -- the file was created by an open, and a writer is still there
  pub new_grown : (d : Deed) (t : Told) (old2 old : Bool) → old2 ≡ old → present q ≡ present p
      → new_after (deed_named r d) t q old2 ≡ new_after d t p old
  new_grown (deed.Count how) told.Held old2 old h is =
      ap₂ (λ (a b : Bool). a || not b) h is
  new_grown (deed.Count how) t old2 old h is = h
  new_grown d t old2 old h is =
      ap₂ (λ (b a : Bool). cond b false a) (last_drop_same d t) h

  -- the content was modified while there were writers
  pub span_grown : (who : Who) (d : Deed) (t : Told)
      → modified_in (span q) ≡ modified_in (span p)
      → modified_in (span (event who (deed_named r d) t ∷ q))
      ≡ modified_in (span (event who d t ∷ p))
  span_grown who d t h =
      ap (λ (b : Bool). modified_in (cond b [] (event who (deed_named r d) t ∷ span q)))
      (raises_same d t) ∙ at (raises_writers d t p)
    where
      at : (b : Bool)
          → modified_in (cond b [] (event who (deed_named r d) t ∷ span q))
          ≡ modified_in (cond b [] (event who d t ∷ span p))
      at true = refl
      at false = ap₂ (λ (a b : Bool). a || b) (modifies_named r d t) h

-- ---- modified since an event

-- one more event after a place modifies the content since then, or leaves it as it was
pub since_grown : (who : Who) (d : Deed) (t : Told) (place : ℕ) (p : List Event)
    → place ≤ length p
    → modified_since place (event who d t ∷ p) ≡ (modifies d t || modified_since place p)
since_grown who d t place p h =
    ap (λ (b : Bool). (modifies d t && b) || modified_since place p) (le-leb place (length p) h)
    ∙ at (modifies d t)
  where
    at : (b : Bool) → ((b && true) || modified_since place p) ≡ (b || modified_since place p)
    at true = refl
    at false = refl

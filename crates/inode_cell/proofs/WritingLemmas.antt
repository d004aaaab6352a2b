-- Writes and truncations, by the result of the change of the content.
use Rattle.std.proofs.Common.{◌≡◌, ◌<◌, ◌≤◌, ℕ, ◌+◌, Bool, true, false, cond, List, length, Some, refl, sym, ◌∙◌, ap, subst, arith}
use Rattle.std.specs.Prelude.{◌↔◌, nat_le, is_err, IsErrOf, OnErr, OnOk, Result, Ok, Err}
use Rattle.std.proofs.lemmas.Bool.{leb-true}
use Rattle.inode_pages.specs.Content.{most_bytes}
use Rattle.inode_pages.specs.declared.content.PageErr.{PageErr}
use Rattle.inode_pages.specs.declared.content.PageErr.TheVariants as page
use Rattle.inode_events.specs.Says.{write_told}
use Rattle.inode_events.specs.State.{content_after}
use Rattle.inode_events.specs.declared.deed.Deed.{Deed}
use Rattle.inode_events.specs.declared.told.Told.{Told}
use Rattle.inode_events.specs.declared.told.Told.TheVariants as told
use Rattle.inode_answers.specs.Answers.{IsWrote, wrote_told}
use Rattle.inode_answers.specs.declared.answers.Wrote.{Wrote}
use Rattle.inode_answers.specs.declared.answers.Wrote.TheVariants as wrote
use Rattle.inode_cell.proofs.Steps.{not_err, written_told}

-- a write that is too big is refused
too_big_told : (n : ℕ) → most_bytes < n → Some (write_told n) ≡ Some told.TooBig
too_big_told n h = at (nat_le n most_bytes) refl where
  at : (b : Bool) → nat_le n most_bytes ≡ b
      → Some (cond (nat_le n most_bytes) told.Done told.TooBig) ≡ Some told.TooBig
  at true e =
      let fits : n ≤ most_bytes = leb-true n most_bytes e in absurd (omega (arith, fits, h))
  at false e = ap (λ (x : Bool). Some (cond x told.Done told.TooBig)) e

-- the outcome is that of the call's result
wrote_says : (changed : Result (Unit {0}) PageErr) (w : Wrote) (n : ℕ) → IsWrote changed w
    → (IsErrOf changed page.TooBig ↔ (most_bytes < n)) → Some (write_told n) ≡ Some (wrote_told w)
wrote_says (Ok done) wrote.Done n is big = written_told n (λ h. not_err done (big.1 h))
wrote_says (Ok done) wrote.TooBig n is big = absurd is
wrote_says (Err page.TooBig) wrote.Done n is big = absurd is
wrote_says (Err page.TooBig) wrote.TooBig n is big = too_big_told n (big.0 refl)
wrote_says (Err page.OutOfMemory) w n is big = absurd is

-- the same for what the event tells
pub told_by : (changed : Result (Unit {0}) PageErr) (w : Wrote) (n : ℕ) (t : Told)
    → IsWrote changed w → (IsErrOf changed page.TooBig ↔ (most_bytes < n)) → t ≡ wrote_told w
    → Some (write_told n) ≡ Some t
told_by changed w n t is big told = wrote_says changed w n is big ∙ ap Some (sym told)

-- a write is too big by the length of its bytes, and so by that of their copy
pub too_big_copy : (changed : Result (Unit {0}) PageErr) (from : ℕ) (copy bytes : List ℕ)
    → copy ≡ bytes → (IsErrOf changed page.TooBig ↔ (most_bytes < from + length bytes))
    → (IsErrOf changed page.TooBig ↔ (most_bytes < from + length copy))
too_big_copy changed from copy bytes same big =
    subst (λ (x : List ℕ). IsErrOf changed page.TooBig ↔ (most_bytes < from + length x)) (sym same)
    big

-- the content is changed if the call's result says so
pub wrote_content : (changed : Result (Unit {0}) PageErr) (w : Wrote) (d : Deed) (old new made :
    List ℕ) → IsWrote changed w → OnOk changed (new ≡ made) → OnErr changed (new ≡ old)
    → content_after d told.Done old ≡ made → content_after d told.TooBig old ≡ old
    → new ≡ content_after d (wrote_told w) old
wrote_content (Ok done) wrote.Done d old new made is ok err x y = ok ∙ sym x
wrote_content (Ok done) wrote.TooBig d old new made is ok err x y = absurd is
wrote_content (Err page.TooBig) wrote.Done d old new made is ok err x y = absurd is
wrote_content (Err page.TooBig) wrote.TooBig d old new made is ok err x y = err ∙ sym y
wrote_content (Err page.OutOfMemory) w d old new made is ok err x y = absurd is

-- memory ran out, so the content is unchanged
pub unchanged : (changed : Result (Unit {0}) PageErr) (old new : List ℕ) → is_err changed ≡ true
    → OnErr changed (new ≡ old) → new ≡ old
unchanged (Ok done) old new is err = cc
unchanged (Err e) old new is err = err

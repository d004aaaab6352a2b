-- Lists of open files, and what of them a vector of kinds knows.
use Rattle.std.proofs.Common.{◌≡◌, ℕ, ◌+◌, ◌-◌, ◌≤◌, ◌==◌, Bool, true, false, cond, List, [], ◌∷◌, Some, None, refl, ◌∙◌, subst, arith, inl, inr}
use Rattle.std.proofs.lemmas.Bool.{cases_Bool, eqb-true}
use Rattle.report_read.specs.words.declared.event.Kind.{Kind}
use Rattle.view_journal.specs.Files.{find_file, less_file, tally}
use Rattle.view_journal.specs.Walk.{one, passes}
use Rattle.view_journal.proofs.Tests.{other_of_same, swapped}

abbrev pub Files : Type 0
Files = List (ℕ × Kind)

-- ---- counts

one_step : (test : Kind → Bool) (f : ℕ) (h : ℕ × Kind) (hs : Files) (b : Bool)
    → one (passes test (find_file f hs)) ≤ tally test hs
    → one (passes test (cond b (Some h.1) (find_file f hs)))
    ≤ (cond (test h.1) 1 0) + tally test hs
one_step test f h hs true e = omega arith
one_step test f h hs false e = omega (arith, e)

-- a file that counts is among those that are counted
pub one_below : (test : Kind → Bool) (f : ℕ) (hs : Files)
    → one (passes test (find_file f hs)) ≤ tally test hs
one_below test f [] = omega arith
one_below test f (h ∷ hs) = one_step test f h hs (h.0 == f) (one_below test f hs)

less_step : (test : Kind → Bool) (f : ℕ) (h : ℕ × Kind) (hs : Files) (b : Bool)
    → one (passes test (find_file f hs)) ≤ tally test hs
    → tally test (less_file f hs) ≡ tally test hs - one (passes test (find_file f hs))
    → tally test (cond b hs (h ∷ less_file f hs))
    ≡ ((cond (test h.1) 1 0) + tally test hs)
    - one (passes test (cond b (Some h.1) (find_file f hs)))
less_step test f h hs true below e = omega arith
less_step test f h hs false below e = omega (arith, below, e)

-- a count without a file
pub tally-less_file : (test : Kind → Bool) (f : ℕ) (hs : Files)
    → tally test (less_file f hs) ≡ tally test hs - one (passes test (find_file f hs))
tally-less_file test f [] = omega arith
tally-less_file test f (h ∷ hs) =
    less_step test f h hs (h.0 == f) (one_below test f hs) (tally-less_file test f hs)

-- ---- distinct files

-- no file is in the list twice
abbrev pub AreDistinct : Files → Type 0
AreDistinct [] = Unit {0}
AreDistinct (h ∷ hs) = (find_file h.0 hs ≡ None) × AreDistinct hs

-- another file is still found
pub find_file-less_other : (f g : ℕ) (hs : Files) → (f == g) ≡ false
    → find_file g (less_file f hs) ≡ find_file g hs
find_file-less_other f g [] n = refl
find_file-less_other f g (h ∷ hs) n =
    elim (cases_Bool (h.0 == f)) [
      | inl e ↦ let other : (h.0 == g) ≡ false = other_of_same h.0 f g e n in rw (e, other) refl
      | inr e ↦ rw (e, find_file-less_other f g hs n) refl
    ]

pub distinct-less_file : (f : ℕ) (hs : Files) → AreDistinct hs → AreDistinct (less_file f hs)
distinct-less_file f [] d = tt
distinct-less_file f (h ∷ hs) d =
    elim (cases_Bool (h.0 == f)) [
      | inl e ↦ rw e d.1
      | inr e ↦
          let other : (f == h.0) ≡ false = swapped h.0 f e in
          rw e (find_file-less_other f h.0 hs other ∙ d.0, distinct-less_file f hs d.1)
    ]

-- a file that was taken out isn't found
pub find_file-less_same : (f : ℕ) (hs : Files) → AreDistinct hs
    → find_file f (less_file f hs) ≡ None
find_file-less_same f [] d = refl
find_file-less_same f (h ∷ hs) d =
    elim (cases_Bool (h.0 == f)) [
      | inl e ↦
          let same : h.0 ≡ f = eqb-true h.0 f e in
          rw e (subst (λ (g : ℕ). find_file g hs ≡ None) same d.0)
      | inr e ↦ rw (e, find_file-less_same f hs d.1) (rw e refl)
    ]

-- The numbers of open files by kind, after one more event.
use Rattle.std.proofs.Common.{◌≡◌, ℕ, ◌+◌, ◌-◌, ◌≤◌, Bool, true, false, cond, List, [], ◌∷◌, length, Option, Some, None, sym, ◌∙◌, ap, arith}
use Rattle.inode_events.specs.Files.{counted, dropped, files, holds, tally, with_file, without_file}
use Rattle.inode_events.specs.declared.deed.How.{How}
use Rattle.inode_events.specs.declared.told.Event.{Event}
use Rattle.journal_laws.proofs.Tallies.{tally-less}
use Rattle.inode_state.specs.Counts.{how_dropped, how_of}

-- dropping a file subtracts what the file counted as
without : (test : How → Bool) (o : Option ℕ) (p : List Event)
    → tally test (without_file o (files p)) ≡ tally test (files p) - cond (holds test (how_of o p))
    1 0
without test None p = omega arith
without test (Some file) p = let t = tally-less test file (files p) in omega (arith, t)

-- counting a file adds what the file counts as
with : (test : How → Bool) (place : ℕ) (o : Option How) (hs : List (ℕ × How))
    → tally test (with_file place o hs) ≡ tally test hs + cond (holds test o) 1 0
with test place None hs = omega arith
with test place (Some how) hs = omega arith

-- the number of files of one kind after one more event
pub count_on : (test : How → Bool) (n : ℕ) (e : Event) (was_how : Option How) (p : List Event)
    → n ≡ tally test (files p) → was_how ≡ how_dropped e p
    → n - cond (holds test was_how) 1 0 + cond (holds test (counted e.deed e.told)) 1 0 ≡ tally
    test (files (e ∷ p))
count_on test n e was_how p is was =
    let a = without test (dropped e.deed e.told) p in
    let b = with test (length p) (counted e.deed e.told) (without_file (dropped e.deed e.told)
    (files p)) in
    sym (b ∙ ap (λ (m : ℕ). m + cond (holds test (counted e.deed e.told)) 1 0) (a
    ∙ ap (λ (m : ℕ). m - cond (holds test (how_dropped e p)) 1 0) (sym is)
    ∙ ap (λ (o : Option How). n - cond (holds test o) 1 0) (sym was)))

-- counting adds at most one file
few_with : (test : How → Bool) (place : ℕ) (o : Option How) (hs : List (ℕ × How))
    → tally test (with_file place o hs) ≤ tally test hs + 1
few_with test place o hs = at (holds test o) (with test place o hs) where
  at : (b : Bool) → tally test (with_file place o hs) ≡ tally test hs + cond b 1 0
      → tally test (with_file place o hs) ≤ tally test hs + 1
  at true e = omega arith
  at false e = omega arith

-- at most as many files are held as there are events
pub few : (test : How → Bool) (p : List Event) → tally test (files p) ≤ length p
few test [] = omega arith
few test (e ∷ before) =
    let a = few test before in
    let b = without test (dropped e.deed e.told) before in
    let c = few_with test (length before) (counted e.deed e.told) (without_file (dropped e.deed
    e.told) (files before)) in
    omega arith

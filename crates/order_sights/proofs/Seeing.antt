-- What is seen of a file after one event more.
use Rattle.std.proofs.Common.{◌≡◌, ℕ, ◌+◌, ◌<◌, Bool, true, false, List, [], ◌∷◌, get_or, length, take, Option, Some, None, cond, refl, sym, ap, ◌∙◌, subst, arith}
use Rattle.std.specs.Prelude.{◌==◌}
use Rattle.std.proofs.lemmas.Bool.{eqb-true}
use Rattle.std.proofs.lemmas.List.{length-reverse, length-take-le}
use Rattle.inode_events.specs.Checks.{check_after, last_check}
use Rattle.inode_events.specs.Files.{counted, dropped, files, find_file, held, less_file, with_file, without_file}
use Rattle.inode_events.specs.NewestFirst.{newest_first}
use Rattle.inode_events.specs.declared.deed.How.{How}
use Rattle.inode_events.specs.declared.told.Event.{Event}
use Rattle.order_sights.specs.Files.{IsSeen, check_in, counted_as, drops}
use Rattle.order_sights.specs.declared.files.FileSeen.{FileSeen}
use Rattle.order_outcomes.proofs.Walking.{past_next, past_none}

-- dropping another file leaves this one
find-less : (file other : ℕ) (hs : List (ℕ × How)) → (other == file) ≡ false
    → find_file file (less_file other hs) ≡ find_file file hs
find-less file other [] apart = refl
find-less file other (h ∷ hs) apart = by (h.0 == other) refl (find-less file other hs apart)
  where
    by : (b : Bool) → (h.0 == other) ≡ b
        → find_file file (less_file other hs) ≡ find_file file hs
        → find_file file (cond b hs (h ∷ less_file other hs)) ≡ find_file file (h ∷ hs)
    by true is rest =
        sym (ap (λ (c : Bool). cond c (Some h.1) (find_file file hs))
        (ap (λ (n : ℕ). n == file) (eqb-true h.0 other is) ∙ apart))
    by false is rest = ap (λ (o : Option How). cond (h.0 == file) (Some h.1) o) rest

find-without : (file : ℕ) (o : Option ℕ) (hs : List (ℕ × How)) → drops file o ≡ false
    → find_file file (without_file o hs) ≡ find_file file hs
find-without file None hs h = refl
find-without file (Some other) hs h = find-less file other hs h

find-with : (file place : ℕ) (o : Option How) (hs : List (ℕ × How))
    → find_file file (with_file place o hs) ≡ counted_as (place == file) o (find_file file hs)
find-with file place None hs = by (place == file)
  where
    by : (b : Bool) → find_file file hs ≡ counted_as b None (find_file file hs)
    by true = refl
    by false = refl
find-with file place (Some how) hs = by (place == file)
  where
    by : (b : Bool) → cond b (Some how) (find_file file hs)
        ≡ counted_as b (Some how) (find_file file hs)
    by true = refl
    by false = refl

-- how a file is held after an event that doesn't drop it
held_next : (file : ℕ) (e : Event) (p : List Event) → drops file (dropped e.deed e.told) ≡ false
    → held file (e ∷ p)
    ≡ counted_as (length p == file) (counted e.deed e.told) (held file p)
held_next file e p h =
    find-with file (length p) (counted e.deed e.told)
    (without_file (dropped e.deed e.told) (files p))
    ∙ ap (counted_as (length p == file) (counted e.deed e.told))
    (find-without file (dropped e.deed e.told) (files p) h)

length-past : (journal : List Event) (k : ℕ) → k < length journal
    → length (newest_first (take k journal)) ≡ k
unfolding newest_first
length-past journal k lt =
    length-reverse (take k journal) ∙ length-take-le k journal (omega (arith, lt))

pub seen_none : (file : ℕ) (seen : FileSeen) → seen.how ≡ None
    → check_in seen ≡ last_check file [] → IsSeen file (newest_first []) seen
seen_none file seen how check =
    subst (λ (p : List Event). IsSeen file p seen) (sym past_none)
    (record { how = how; check = check })

pub seen_next : (journal : List Event) (k file : ℕ) (e : Event) (old new : FileSeen)
    → k < length journal → e ≡ get_or journal k e → drops file (dropped e.deed e.told) ≡ false
    → IsSeen file (newest_first (take k journal)) old
    → new.how ≡ counted_as (k == file) (counted e.deed e.told) old.how
    → check_in new ≡ check_after file e.deed (check_in old)
    → IsSeen file (newest_first (take (k + 1) journal)) new
seen_next journal k file e old new lt is stays h how check =
    subst (λ (p : List Event). IsSeen file p new) (sym (past_next journal k e lt is))
    (record {
      how = how ∙ ap (counted_as (k == file) (counted e.deed e.told)) h.how
          ∙ ap (λ n. counted_as (n == file) (counted e.deed e.told)
          (held file (newest_first (take k journal)))) (sym (length-past journal k lt))
          ∙ sym (held_next file e (newest_first (take k journal)) stays);
      check = check ∙ ap (check_after file e.deed) h.check;
    })

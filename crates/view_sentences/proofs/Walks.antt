-- Walks over a journal find its open files.
use Rattle.std.proofs.Common.{◌≡◌, ℕ, zero, suc, ◌+◌, ◌<◌, ◌≤◌, ◌==◌, false, List, [], ◌∷◌, ◌++◌, Option, Some, None, append_assoc, append-nil, length, refl, sym, ap, ◌∙◌, arith}
use Rattle.std.specs.Prelude.{reverse, slice_set}
use Rattle.std.proofs.lemmas.Bool.{eq-eqb, ne_eqb}
use Rattle.std.proofs.lemmas.List.{reverse-append}
use Rattle.view_page.specs.journals.Files.{dropped, files, less_file, opened, with_file, without_file}
use Rattle.view_page.specs.journals.Walk.{Walk, cleared, start, walked}
use Rattle.view_page.specs.journals.reading.words.declared.event.Event.{Event}
use Rattle.view_page.specs.journals.reading.words.declared.event.Kind.{Kind}
use Rattle.view_page.proofs.about_journals.WalkLemmas.{length-cleared, length-push}
use Rattle.view_sentences.specs.Holders.{held_files, held_from, walked_all}

abbrev Files : Type 0
Files = List (ℕ × Kind)

abbrev Held : Type 0
Held = List (Option Kind)

-- a file of one more place comes first
pub held_from-push : (place : ℕ) (hs : Files) (ks : Held) (k : Option Kind)
    → held_from place hs (ks ++ k ∷ []) ≡ with_file (place + length ks) k (held_from place hs ks)
held_from-push place hs [] k = ap (λ (n : ℕ). with_file n k hs) (omega arith)
held_from-push place hs (x ∷ ks) k =
    held_from-push (place + 1) (with_file place x hs) ks k
    ∙ ap (λ (n : ℕ). with_file n k (held_from (place + 1) (with_file place x hs) ks))
    (omega arith)

-- another file is added after or before one is dropped
less-with_file : (place f : ℕ) (x : Option Kind) (hs : Files) → (place == f) ≡ false
    → less_file f (with_file place x hs) ≡ with_file place x (less_file f hs)
less-with_file place f None hs n = refl
less-with_file place f (Some k) hs n = rw n refl

less-held_from : (place f : ℕ) (hs : Files) (ks : Held) → f < place
    → less_file f (held_from place hs ks) ≡ held_from place (less_file f hs) ks
less-held_from place f hs [] below = refl
less-held_from place f hs (x ∷ ks) below =
    less-held_from (place + 1) f (with_file place x hs) ks (omega (arith, below))
    ∙ ap (λ (h : Files). held_from (place + 1) h ks)
    (less-with_file place f x hs (ne_eqb place f (λ e. omega (arith, below, e))))

-- no file of these has such a place
abbrev AreBelow : ℕ → Files → Type 0
AreBelow place hs = (f : ℕ) → place ≤ f → less_file f hs ≡ hs

below_next : (place : ℕ) (x : Option Kind) (hs : Files) → AreBelow place hs
    → AreBelow (place + 1) (with_file place x hs)
below_next place x hs below = λ f above.
    less-with_file place f x hs (ne_eqb place f (λ e. omega (arith, above, e)))
    ∙ ap (with_file place x) (below f (omega (arith, above)))

-- the file of a place is dropped
less-own : (place : ℕ) (x : Option Kind) (hs : Files) → AreBelow place hs
    → less_file place (with_file place x hs) ≡ hs
less-own place None hs below = below place (omega arith)
less-own place (Some k) hs below = rw (eq-eqb place place refl) refl

-- a kind is cleared as its file is dropped
held_from-clear : (place i : ℕ) (hs : Files) (ks : Held) → AreBelow place hs
    → held_from place hs (slice_set ks i None) ≡ less_file (place + i) (held_from place hs ks)
held_from-clear place i hs [] below = sym (below (place + i) (omega arith))
held_from-clear place zero hs (x ∷ ks) below =
    sym (ap (λ (n : ℕ). less_file n (held_from (place + 1) (with_file place x hs) ks))
    (omega arith)
    ∙ (less-held_from (place + 1) place (with_file place x hs) ks (omega arith)
    ∙ ap (λ (h : Files). held_from (place + 1) h ks) (less-own place x hs below)))
held_from-clear place (suc i) hs (x ∷ ks) below =
    held_from-clear (place + 1) i (with_file place x hs) ks (below_next place x hs below)
    ∙ ap (λ (n : ℕ). less_file n (held_from (place + 1) (with_file place x hs) ks))
    (omega arith)

-- after a drop
held_files-cleared : (d : Option ℕ) (ks : Held)
    → held_files (cleared ks d) ≡ without_file d (held_files ks)
held_files-cleared None ks = refl
held_files-cleared (Some f) ks =
    held_from-clear 0 f [] ks (λ g h. refl)
    ∙ ap (λ (n : ℕ). less_file n (held_files ks)) (omega arith)

-- after one more event
held_files-walked : (e : Event) (w : Walk) (before : List Event) → length w.held ≡ length before
    → held_files w.held ≡ files before → held_files (walked e w).held ≡ files (e ∷ before)
held_files-walked e w before size same =
    let d : Option ℕ = dropped e.deed e.outcome in
    let o : Option Kind = opened e.deed e.outcome in
    held_from-push 0 [] (cleared w.held d) o
    ∙ (ap (λ (n : ℕ). with_file n o (held_files (cleared w.held d)))
    (omega (arith, length-cleared d w.held, size))
    ∙ ap (with_file (length before) o)
    (held_files-cleared d w.held ∙ ap (without_file d) same))

-- the events after others, the newest first
onto : (e : Event) (es before : List Event)
    → reverse (e ∷ es) ++ before ≡ reverse es ++ e ∷ before
onto e es before =
    ap (λ (x : List Event). x ++ before) (reverse-append (e ∷ []) es)
    ∙ append_assoc (reverse es) (e ∷ []) before

all_files : (w : Walk) (before es : List Event) → length w.held ≡ length before
    → held_files w.held ≡ files before
    → held_files (walked_all w es).held ≡ files (reverse es ++ before)
all_files w before [] size same = same
all_files w before (e ∷ es) size same =
    all_files (walked e w) (e ∷ before) es
    (length-push (cleared w.held (dropped e.deed e.outcome)) (opened e.deed e.outcome)
    ∙ ap suc (length-cleared (dropped e.deed e.outcome) w.held ∙ size))
    (held_files-walked e w before size same)
    ∙ ap files (sym (onto e es before))

-- a walk over a journal finds its open files
pub files_by_walk : (journal : List Event)
    → held_files (walked_all start journal).held ≡ files (reverse journal)
files_by_walk journal =
    all_files start [] journal refl refl ∙ ap files (append-nil (reverse journal))

-- which has a kind for each place
pub length-walked_all : (w : Walk) (es : List Event)
    → length (walked_all w es).held ≡ length w.held + length es
length-walked_all w [] = omega arith
length-walked_all w (e ∷ es) =
    let size : length (walked e w).held ≡ suc (length w.held)
    = length-push (cleared w.held (dropped e.deed e.outcome)) (opened e.deed e.outcome)
    ∙ ap suc (length-cleared (dropped e.deed e.outcome) w.held) in
    omega (arith, length-walked_all (walked e w) es, size)

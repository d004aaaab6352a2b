-- The holders of a file, and the last write, as loops find them.
use Rattle.std.proofs.Common.{◌≡◌, ℕ, ◌+◌, ◌<◌, ◌≤◌, Bool, true, false, cond, List, [], ◌∷◌, ◌++◌, Option, Some, None, get_or, length, take, refl, sym, ap, ◌∙◌, arith}
use Rattle.std.specs.Prelude.{reverse}
use Rattle.std.proofs.lemmas.List.{length-reverse, length-take-le, reverse-append, take_more}
use Rattle.view_page.specs.journals.State.{is_write}
use Rattle.view_page.specs.journals.Files.{with_file}
use Rattle.view_page.specs.journals.Sentences.{held_by}
use Rattle.view_page.specs.journals.reading.words.declared.event.Event.{Event}
use Rattle.view_page.specs.journals.reading.words.declared.event.Kind.{Kind}
use Rattle.view_sentences.specs.Holders.{held_files, holds, is_holder}
use Rattle.view_sentences.specs.Sentences.{last_write}
use Rattle.view_sentences.specs.declared.holders.Holding.{Holding}
use Rattle.view_sentences.proofs.Walks.{held_from-push}

-- the places so far, with one more after them if it counts
pushed : (b : Bool) (place : ℕ) (places : List ℕ)
    → cond b (reverse places ++ place ∷ []) (reverse places)
    ≡ reverse (cond b (place ∷ places) places)
pushed true place places = sym (reverse-append (place ∷ []) places)
pushed false place places = refl

-- the holders with the file of one more place
by_kind : (h : Holding) (file place : ℕ) (k : Option Kind) (hs : List (ℕ × Kind))
    → cond (is_holder h file place k) (reverse (held_by (holds h) file hs) ++ place ∷ [])
    (reverse (held_by (holds h) file hs))
    ≡ reverse (held_by (holds h) file (with_file place k hs))
by_kind h file place None hs = refl
by_kind h file place (Some k) hs =
    pushed (is_holder h file place (Some k)) place (held_by (holds h) file hs)

-- the files of one more place
files_more : (held : List (Option Kind)) (i : ℕ) → i < length held
    → held_files (take (i + 1) held)
    ≡ with_file i (get_or held i None) (held_files (take i held))
files_more held i within =
    ap held_files (take_more held i None within)
    ∙ (held_from-push 0 [] (take i held) (get_or held i None)
    ∙ ap (λ (n : ℕ). with_file n (get_or held i None) (held_files (take i held)))
    (omega (arith, length-take-le i held (omega (arith, within)))))

-- the holders after one more place
pub holder_next : (h : Holding) (file : ℕ) (held : List (Option Kind)) (i : ℕ)
    (found next : List ℕ) (b : Bool) → i < length held
    → b ≡ is_holder h file i (get_or held i None)
    → found ≡ reverse (held_by (holds h) file (held_files (take i held)))
    → next ≡ cond b (found ++ i ∷ []) found
    → next ≡ reverse (held_by (holds h) file (held_files (take (i + 1) held)))
holder_next h file held i found next b within tells so_far adds =
    let hs : List (ℕ × Kind) = held_files (take i held) in
    adds
    ∙ (ap (λ (t : Bool). cond t (found ++ i ∷ []) found) tells
    ∙ (ap (λ (x : List ℕ). cond (is_holder h file i (get_or held i None)) (x ++ i ∷ []) x) so_far
    ∙ (by_kind h file i (get_or held i None) hs
    ∙ ap (λ (x : List (ℕ × Kind)). reverse (held_by (holds h) file x))
    (sym (files_more held i within)))))

-- ---- the last write

-- the events up to the next place, the newest first
before_next : (journal : List Event) (i : ℕ) (d : Event) → i < length journal
    → reverse (take (i + 1) journal) ≡ get_or journal i d ∷ reverse (take i journal)
before_next journal i d within =
    ap reverse (take_more journal i d within)
    ∙ reverse-append (take i journal) (get_or journal i d ∷ [])

length-before : (journal : List Event) (i : ℕ) → i ≤ length journal
    → length (reverse (take i journal)) ≡ i
length-before journal i within =
    length-reverse (take i journal) ∙ length-take-le i journal within

-- the last write after one more event
pub write_next : (journal : List Event) (i : ℕ) (d : Event) (last next : Option ℕ) (b : Bool)
    → i < length journal
    → b ≡ is_write (get_or journal i d).deed (get_or journal i d).outcome
    → last ≡ last_write (reverse (take i journal)) → next ≡ cond b (Some i) last
    → next ≡ last_write (reverse (take (i + 1) journal))
write_next journal i d last next b within tells so_far is =
    let e : Event = get_or journal i d in
    is
    ∙ (ap (λ (t : Bool). cond t (Some i) last) tells
    ∙ (ap (λ (x : Option ℕ). cond (is_write e.deed e.outcome) (Some i) x) so_far
    ∙ (ap (λ (n : ℕ). cond (is_write e.deed e.outcome) (Some n)
    (last_write (reverse (take i journal))))
    (sym (length-before journal i (omega (arith, within))))
    ∙ ap last_write (sym (before_next journal i d within)))))

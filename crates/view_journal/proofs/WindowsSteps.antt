-- The windows so far, and those that one more place gives.
use Rattle.std.proofs.Common.{◌≡◌, ℕ, ◌+◌, ◌-◌, ◌<◌, ◌≤◌, true, false, List, [], ◌∷◌, ◌++◌, length, drop, get_or, append_assoc, append-nil, ap, refl, sym, ◌∙◌}
use Rattle.std.proofs.lemmas.List.{at_drop_all, at_drop_more}
use Rattle.report_read.specs.words.declared.event.Event.{Event}
use Rattle.view_journal.specs.declared.window.Growth.{Growth}
use Rattle.view_journal.specs.declared.window.Window.{Window}
use Rattle.view_journal.specs.Notes.{is_marked}
use Rattle.view_journal.specs.Windows.{around, grow, grown, marked_from, of_interest}

-- the windows from the last one on, if the next place begins another
parts : (most last p : ℕ) (g next : Growth) (ps : List ℕ) → next ≡ grow most g (around last p)
    → next.parted ≡ true → grown most last g (p ∷ ps) ≡ g.window ∷ grown most last next ps
parts most last p g next ps is parted =
    let here : (grow most g (around last p)).parted ≡ true
    = ap (λ (h : Growth). h.parted) (sym is) ∙ parted in
    rw here (ap (λ (h : Growth). g.window ∷ grown most last h ps) (sym is))

-- the same, if it doesn't
joins : (most last p : ℕ) (g next : Growth) (ps : List ℕ) → next ≡ grow most g (around last p)
    → next.parted ≡ false → grown most last g (p ∷ ps) ≡ grown most last next ps
joins most last p g next ps is whole =
    let here : (grow most g (around last p)).parted ≡ false
    = ap (λ (h : Growth). h.parted) (sym is) ∙ whole in
    rw here (ap (λ (h : Growth). grown most last h ps) (sym is))

pub parted_next : (most last : ℕ) (places : List ℕ) (i : ℕ) (g next : Growth)
    (ws new all : List Window) → i < length places
    → next ≡ grow most g (around last (get_or places i 0)) → next.parted ≡ true
    → new ≡ ws ++ g.window ∷ [] → ws ++ grown most last g (drop i places) ≡ all
    → new ++ grown most last next (drop (i + 1) places) ≡ all
parted_next most last places i g next ws new all lt is parted pushed h =
    ap (λ (x : List Window). x ++ grown most last next (drop (i + 1) places)) pushed
    ∙ (append_assoc ws (g.window ∷ []) (grown most last next (drop (i + 1) places))
    ∙ (ap (λ (x : List Window). ws ++ x)
    (sym (at_drop_more (grown most last g) places i 0 lt
    ∙ parts most last (get_or places i 0) g next (drop (i + 1) places) is parted))
    ∙ h))

pub joined_next : (most last : ℕ) (places : List ℕ) (i : ℕ) (g next : Growth)
    (ws all : List Window) → i < length places
    → next ≡ grow most g (around last (get_or places i 0)) → next.parted ≡ false
    → ws ++ grown most last g (drop i places) ≡ all
    → ws ++ grown most last next (drop (i + 1) places) ≡ all
joined_next most last places i g next ws all lt is whole h =
    ap (λ (x : List Window). ws ++ x)
    (sym (at_drop_more (grown most last g) places i 0 lt
    ∙ joins most last (get_or places i 0) g next (drop (i + 1) places) is whole))
    ∙ h

-- after the last place
pub windows_all : (most last : ℕ) (places : List ℕ) (i : ℕ) (g : Growth)
    (ws new all : List Window) → length places ≤ i → new ≡ ws ++ g.window ∷ []
    → ws ++ grown most last g (drop i places) ≡ all → new ≡ all
windows_all most last places i g ws new all past pushed h =
    pushed
    ∙ (ap (λ (x : List Window). ws ++ x)
    (sym (at_drop_all (grown most last g) places i past))
    ∙ h)

-- ---- the places of interest

pub marked_next : (journal : List Event) (place : ℕ) (d : Event) (ps new all : List ℕ)
    → place < length journal → is_marked (get_or journal place d) ≡ true
    → new ≡ ps ++ place ∷ [] → ps ++ marked_from place (drop place journal) ≡ all
    → new ++ marked_from (place + 1) (drop (place + 1) journal) ≡ all
marked_next journal place d ps new all lt marked pushed h =
    let rest : List ℕ = marked_from (place + 1) (drop (place + 1) journal) in
    let on : marked_from place (get_or journal place d ∷ drop (place + 1) journal)
    ≡ place ∷ rest = rw marked refl in
    ap (λ (x : List ℕ). x ++ rest) pushed
    ∙ (append_assoc ps (place ∷ []) rest
    ∙ (ap (λ (x : List ℕ). ps ++ x)
    (sym (at_drop_more (marked_from place) journal place d lt ∙ on))
    ∙ h))

pub unmarked_next : (journal : List Event) (place : ℕ) (d : Event) (ps all : List ℕ)
    → place < length journal → is_marked (get_or journal place d) ≡ false
    → ps ++ marked_from place (drop place journal) ≡ all
    → ps ++ marked_from (place + 1) (drop (place + 1) journal) ≡ all
unmarked_next journal place d ps all lt unmarked h =
    let on : marked_from place (get_or journal place d ∷ drop (place + 1) journal)
    ≡ marked_from (place + 1) (drop (place + 1) journal) = rw unmarked refl in
    ap (λ (x : List ℕ). ps ++ x)
    (sym (at_drop_more (marked_from place) journal place d lt ∙ on))
    ∙ h

-- after the last event, with its place
pub marked_all : (journal : List Event) (place last : ℕ) (ps new : List ℕ)
    → length journal ≤ place → last ≡ length journal - 1 → new ≡ ps ++ last ∷ []
    → ps ++ marked_from place (drop place journal) ≡ marked_from 0 journal
    → new ≡ of_interest journal
marked_all journal place last ps new past is pushed h =
    let places : ps ≡ marked_from 0 journal
    = sym (append-nil ps)
    ∙ (ap (λ (x : List ℕ). ps ++ x) (sym (at_drop_all (marked_from place) journal place past))
    ∙ h) in
    pushed
    ∙ (ap (λ (x : List ℕ). x ++ last ∷ []) places
    ∙ ap (λ (n : ℕ). marked_from 0 journal ++ n ∷ []) is)

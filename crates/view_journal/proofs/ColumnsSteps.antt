-- The walk over a journal that finds its columns.
use Rattle.std.proofs.Common.{◌≡◌, ℕ, ◌+◌, ◌<◌, ◌≤◌, List, ◌∷◌, ◌++◌, length, Option, None, ap, sym, ◌∙◌, append_assoc, drop, get_or}
use Rattle.std.proofs.lemmas.List.{append-nil, at_drop_all, at_drop_more, get_or_default}
use Rattle.report_read.specs.words.declared.event.Event.{Event}
use Rattle.view_journal.specs.declared.column.Column.{Column}
use Rattle.view_journal.specs.declared.walk.State.{State}
use Rattle.view_journal.specs.declared.window.Window.{Window}
use Rattle.view_journal.specs.Columns.{column_at, columns_from, hashing_after}
use Rattle.view_journal.specs.Frame.{column_of}
use Rattle.view_journal.specs.Walk.{Walk, shown_by, start, state_of, states_of, walked}
use Rattle.view_journal.proofs.WalkLemmas.{states_by_walk}

-- the columns of these events, which the walk goes on to show
abbrev pub rest : List Window → ℕ → Option ℕ → Walk → List Event → List Column
rest ws place hashing w es = columns_from ws place hashing es (shown_by w es)

-- the columns so far, and those of the other events, after one more event
columns_on : (ws : List Window) (journal : List Event) (columns : List Column) (w : Walk)
    (hashing : Option ℕ) (place : ℕ) (e : Event) (all : List Column)
    → place < length journal → e ≡ get_or journal place e
    → columns ++ rest ws place hashing w (drop place journal) ≡ all
    → (columns ++ column_at (column_of ws place) place e (state_of (walked e w))
    (hashing_after e.deed e.outcome hashing))
    ++ rest ws (place + 1) (hashing_after e.deed e.outcome hashing) (walked e w)
    (drop (place + 1) journal)
    ≡ all
columns_on ws journal columns w hashing place e all lt item h =
    let h2 : Option ℕ = hashing_after e.deed e.outcome hashing in
    append_assoc columns (column_at (column_of ws place) place e (state_of (walked e w)) h2)
    (rest ws (place + 1) h2 (walked e w) (drop (place + 1) journal))
    ∙ (ap (λ (cs : List Column). columns ++ cs)
    (sym (at_drop_more (rest ws place hashing w) journal place e lt
    ∙ ap (λ (x : Event). rest ws place hashing w (x ∷ drop (place + 1) journal)) (sym item)))
    ∙ h)

-- the same, if the columns, the walk and the collection are given by equations
pub columns_next : (ws : List Window) (journal : List Event) (columns more : List Column)
    (w next : Walk) (hashing hashing' : Option ℕ) (s : State) (place : ℕ) (d : Event)
    (all : List Column) → place < length journal → next ≡ walked (get_or journal place d) w
    → hashing' ≡ hashing_after (get_or journal place d).deed (get_or journal place d).outcome
    hashing
    → s ≡ state_of next
    → more ≡ columns ++ column_at (column_of ws place) place (get_or journal place d) s hashing'
    → columns ++ rest ws place hashing w (drop place journal) ≡ all
    → more ++ rest ws (place + 1) hashing' next (drop (place + 1) journal) ≡ all
columns_next ws journal columns more w next hashing hashing' s place d all lt is goes state pushed
    h =
    let e : Event = get_or journal place d in
    rw (pushed, state, is, goes)
    (columns_on ws journal columns w hashing place e all lt (get_or_default journal place d e lt)
    h)

-- after the last event the columns are those of the journal
pub columns_all : (ws : List Window) (journal : List Event) (columns : List Column) (w : Walk)
    (hashing : Option ℕ) (place : ℕ) → length journal ≤ place
    → columns ++ rest ws place hashing w (drop place journal)
    ≡ columns_from ws 0 None journal (shown_by start journal)
    → columns ≡ columns_from ws 0 None journal (states_of journal)
columns_all ws journal columns w hashing place past h =
    sym (append-nil columns)
    ∙ (ap (λ (cs : List Column). columns ++ cs)
    (sym (at_drop_all (rest ws place hashing w) journal place past))
    ∙ (h ∙ ap (λ (ss : List State). columns_from ws 0 None journal ss) (states_by_walk journal)))

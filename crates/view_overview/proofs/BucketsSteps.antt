-- Buckets as a walk over the journal fills them.
use Rattle.std.proofs.Common.{◌≡◌, ℕ, ◌+◌, ◌<◌, ◌≤◌, List, drop, get_or, length, sym, ap, ◌∙◌}
use Rattle.std.proofs.lemmas.List.{at_drop_all, at_drop_more}
use Rattle.view_page.specs.journals.Walk.{Walk, shown_by, start, state_of, states_of, walked}
use Rattle.view_page.specs.journals.declared.walk.State.{State}
use Rattle.view_page.specs.journals.reading.words.declared.event.Event.{Event}
use Rattle.view_page.proofs.about_journals.WalkLemmas.{states_by_walk}
use Rattle.view_overview.specs.Overview.{bucket_at, bucket_of, filled, raised}
use Rattle.view_overview.specs.declared.buckets.Bucket.{Bucket}
use Rattle.view_overview.specs.declared.buckets.Scale.{Scale}

-- the buckets after one more event
pub filled_next : (scale : Scale) (journal : List Event) (i k : ℕ) (d : Event) (w next : Walk)
    (buckets more all : List Bucket) (b : Bucket) → i < length journal
    → next ≡ walked (get_or journal i d) w → k ≡ bucket_at scale i
    → b ≡ bucket_of (get_or journal i d) (state_of next) → more ≡ raised buckets k b
    → filled scale buckets i (drop i journal) (shown_by w (drop i journal)) ≡ all
    → filled scale more (i + 1) (drop (i + 1) journal) (shown_by next (drop (i + 1) journal))
    ≡ all
filled_next scale journal i k d w next buckets more all b within is at shows raises so_far =
    let e : Event = get_or journal i d in
    let rest : List Event = drop (i + 1) journal in
    ap (λ (bs : List Bucket). filled scale bs (i + 1) rest (shown_by next rest))
    (raises
    ∙ (ap (λ (n : ℕ). raised buckets n b) at
    ∙ ap (λ (x : Bucket). raised buckets (bucket_at scale i) x) shows))
    ∙ (ap (λ (x : Walk). filled scale (raised buckets (bucket_at scale i) (bucket_of e (state_of x)))
    (i + 1) rest (shown_by x rest)) is
    ∙ (sym (at_drop_more (λ (es : List Event). filled scale buckets i es (shown_by w es)) journal i
    d within) ∙ so_far))

-- and after all events
pub filled_all : (scale : Scale) (journal : List Event) (i : ℕ) (w : Walk)
    (buckets first : List Bucket) → length journal ≤ i
    → filled scale buckets i (drop i journal) (shown_by w (drop i journal))
    ≡ filled scale first 0 journal (shown_by start journal)
    → buckets ≡ filled scale first 0 journal (states_of journal)
filled_all scale journal i w buckets first past so_far =
    sym (at_drop_all (λ (es : List Event). filled scale buckets i es (shown_by w es)) journal i
    past)
    ∙ (so_far
    ∙ ap (λ (ss : List State). filled scale first 0 journal ss) (states_by_walk journal))

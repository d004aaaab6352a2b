-- Journals that are read event by event.
use Rattle.std.proofs.Common.{◌≡◌, ℕ, ◌+◌, ◌<◌, ◌≤◌, Bool, ◌&&◌, ◌||◌, List, get_or, length, take, Option, Some, sym, ap, ◌∙◌, if◌then◌else◌}
use Rattle.std.proofs.lemmas.List.{take_all}
use Rattle.report_text.specs.model.events.NewestFirst.{newest_first}
use Rattle.report_text.specs.model.events.State.{content, content_after}
use Rattle.report_text.specs.model.events.declared.told.Event.{Event}
use Rattle.report_text.specs.model.events.templates.declared.entry.Entry.{Entry}
use Rattle.order_outcomes.specs.Calls.{is_by, is_listed, is_read, listed_in, place_told, shows_at}
use Rattle.order_outcomes.proofs.Walking.{past_next}

-- ---- contents

-- the content after one event more
pub content_next : (journal : List Event) (k : ℕ) (e : Event) (old new : List ℕ)
    → k < length journal → e ≡ get_or journal k e → old ≡ content (newest_first (take k journal))
    → new ≡ content_after e.deed e.told old → new ≡ content (newest_first (take (k + 1) journal))
content_next journal k e old new lt is h after =
    after ∙ ap (content_after e.deed e.told) h ∙ sym (ap content (past_next journal k e lt is))

-- ---- listed contents

-- whether a content is listed after one event more
pub listed_next : (list : List Entry) (bytes : List ℕ) (journal : List Event) (k : ℕ) (e : Event)
    (old new : Bool) → k < length journal → e ≡ get_or journal k e
    → old ≡ is_listed list bytes (newest_first (take k journal))
    → new ≡ (old || shows_at list bytes (place_told e.told))
    → new ≡ is_listed list bytes (newest_first (take (k + 1) journal))
listed_next list bytes journal k e old new lt is h after =
    after ∙ ap (λ b. b || shows_at list bytes (place_told e.told)) h
    ∙ sym (ap (is_listed list bytes) (past_next journal k e lt is))

-- whether the call's read was listed, after one event more
pub read_next : (list : List Entry) (task call : ℕ) (journal : List Event) (k : ℕ) (e : Event)
    (bytes : List ℕ) (before : List Event) (old new : Option Bool) → k < length journal
    → e ≡ get_or journal k e → bytes ≡ content (newest_first (take k journal))
    → before ≡ take k journal → old ≡ listed_in list task call (newest_first (take k journal))
    → new ≡ (if is_by task call e && is_read e.deed
    then Some (is_listed list bytes (newest_first before)) else old)
    → new ≡ listed_in list task call (newest_first (take (k + 1) journal))
read_next list task call journal k e bytes before old new lt is c b h after =
    after
    ∙ (λ i. if is_by task call e && is_read e.deed
    then Some (is_listed list (c i) (newest_first (b i))) else h i)
    ∙ sym (ap (listed_in list task call) (past_next journal k e lt is))

-- the whole journal
pub past_all : (journal : List Event) (k : ℕ) → length journal ≤ k
    → newest_first (take k journal) ≡ newest_first journal
past_all journal k le = ap newest_first (take_all k journal le)

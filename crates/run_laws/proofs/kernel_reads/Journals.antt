-- The places of a journal: an event of the journal, the events before it, and a task's own events.
use Rattle.std.proofs.Common.{◌≡◌, ℕ, ◌+◌, ◌<◌, Bool, true, false, cond, List, [], ◌∷◌, ◌++◌, length, map, Some, refl, sym, ◌∙◌, ap, arith, inl, inr, length-append}
use Rattle.std.specs.Prelude.{◌⊎◌, ◌==◌, slice_get}
use Rattle.std.proofs.lemmas.Bool.{cond-false, cond-true, eq-eqb, eqb-true, ne_eqb}
use Rattle.std.proofs.lemmas.Option.{same_Some}
use Rattle.inode_events.specs.Callers.{caller_of}
use Rattle.inode_events.specs.NewestFirst.{newest_first}
use Rattle.inode_events.specs.declared.told.Event.{Event}
use Rattle.journal_laws.specs.Standing.{event_at}
use Rattle.run_model.specs.Served.{events_of}
use Rattle.run_model.specs.growing.Shown.{no_name}
use Rattle.run_model.proofs.about_growing.Own.{own_has, own_stands}
use Rattle.journal_laws.proofs.Bridge.{event_there}
use Rattle.run_laws.proofs.shown.Denied.{map_get}

-- ---- an event and the events before it

-- the event is at this place: so many events are before it
pub record StandsAt (events : List Event) (place : ℕ) (e : Event) : Type 0 where
  pub later : List Event
  pub before : List Event
  pub is : events ≡ later ++ e ∷ before
  pub place_is : length before ≡ place

-- the journal at the place of an event
split : (events : List Event) (place : ℕ) (e : Event) → event_at place events ≡ Some e
    → StandsAt events place e
split [] place e h = absurd (cc)
split (x ∷ events) place e h = at (split events place e) (length events == place) refl h where
  at : (event_at place events ≡ Some e → StandsAt events place e) → (b : Bool)
      → (length events == place) ≡ b → cond b (Some x) (event_at place events) ≡ Some e
      → StandsAt (x ∷ events) place e
  at ih true q g = record {
    later = [];
    before = events;
    is = ap (λ (y : Event). y ∷ events) (same_Some x e g);
    place_is = eqb-true (length events) place q;
  }
  at ih false q g = let s = ih g in record {
    later = x ∷ s.later;
    before = s.before;
    is = ap (λ (l : List Event). x ∷ l) s.is;
    place_is = s.place_is;
  }

-- an element of a journal stands at its index
pub stands : (journal : List Event) (place : ℕ) (e : Event) → slice_get journal place ≡ Some e
    → StandsAt (newest_first journal) place e
stands journal place e h = split (newest_first journal) place e (event_there place journal ∙ h)

-- later events leave which event is at a place
pub event_earlier : (place : ℕ) (later before : List Event) → place < length before
    → event_at place (later ++ before) ≡ event_at place before
event_earlier place [] before l = refl
event_earlier place (e ∷ later) before l =
    cond-false (length (later ++ before) == place) (Some e) (event_at place (later ++ before))
    (ne_eqb (length (later ++ before)) place
    (λ s. absurd (omega (arith, length-append later before))))
    ∙ event_earlier place later before l

-- an event that stands before others is an element of the journal
pub stands_there : (journal later before : List Event) (e : Event)
    → newest_first journal ≡ later ++ e ∷ before → slice_get journal (length before) ≡ Some e
stands_there journal later before e is =
    sym (event_there (length before) journal)
    ∙ ap (event_at (length before)) is
    ∙ event_earlier (length before) later (e ∷ before) (omega arith)
    ∙ cond-true (length before == length before) (Some e) (event_at (length before) before)
    (eq-eqb (length before) (length before) refl)

-- of two ends of one list, the shorter is an end of the longer
pub order : (l q m b : List Event) → l ++ q ≡ m ++ b
    → ((k : List Event) × ((y : Event) × (b ≡ y ∷ (k ++ q))))
    ⊎ ((k : List Event) × (q ≡ k ++ b))
order [] q m b e = inr (m, e)
order (x ∷ l) q [] b e = inl (l, (x, sym e))
order (x ∷ l) q (y ∷ m) b e = let rest : l ++ q ≡ m ++ b = cc in order l q m b rest

-- ---- a task's own events

-- an own event of a task is at its place of the journal
pub own_there : (n : ℕ) (journal : List Event) (j place : ℕ) (e : Event)
    → slice_get (events_of n journal) j ≡ Some (place, e)
    → (slice_get journal place ≡ Some e)
own_there n journal j place e h = (own_stands
    (record {
      name = no_name;
      callers = 0;
      spare = 0;
      list = journal;
      numbers = map caller_of journal;
    })
    (record { name = no_name; number = n + 1; seen = []; mine = events_of n journal }) refl j place
    e h).0

-- an event of the task in the journal is one of its own
pub there_own : (n : ℕ) (journal : List Event) (place : ℕ) (e : Event)
    → slice_get journal place ≡ Some e → caller_of e ≡ n + 1
    → (j : ℕ) × (slice_get (events_of n journal) j ≡ Some (place, e))
there_own n journal place e h caller = own_has
    (record {
      name = no_name;
      callers = 0;
      spare = 0;
      list = journal;
      numbers = map caller_of journal;
    })
    (record { name = no_name; number = n + 1; seen = []; mine = events_of n journal }) refl place e
    h (map_get caller_of journal place e h ∙ ap (λ (x : ℕ). Some x) caller)

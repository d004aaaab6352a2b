-- What calls were told, event by event.
use Rattle.std.proofs.Common.{◌≡◌, ℕ, ◌+◌, ◌<◌, All, List, [], ◌∷◌, ◌++◌, get_or, length, take, Option, Some, None, sym, ap, ◌∙◌, subst}
use Rattle.std.specs.Prelude.{option_to_list, reverse}
use Rattle.std.proofs.lemmas.List.{append-nil, reverse-append}
use Rattle.std.proofs.lemmas.List.Elements.{All-head, All-nil, All-push, All-tail}
use Rattle.inode_events.specs.NewestFirst.{newest_first}
use Rattle.inode_events.specs.declared.told.Event.{Event}
use Rattle.order_outcomes.specs.alike.Alike.{places_in, with_place}
use Rattle.order_outcomes.specs.Calls.{place_told}
use Rattle.order_outcomes.proofs.Walking.{past_next, past_none}

-- ---- places

pub places_none : reverse [] ≡ places_in (newest_first [])
places_none = ap places_in (sym past_none)

-- the newest place comes first
reverse_with : (places : List ℕ) (o : Option ℕ)
    → reverse (places ++ option_to_list o) ≡ with_place o (reverse places)
reverse_with places None = ap (λ (ps : List ℕ). reverse ps) (append-nil places)
reverse_with places (Some p) = reverse-append places (p ∷ [])

pub places_next : (journal : List Event) (k : ℕ) (e : Event) (old new : List ℕ) (o : Option ℕ)
    → k < length journal → e ≡ get_or journal k e
    → reverse old ≡ places_in (newest_first (take k journal)) → o ≡ place_told e.told
    → new ≡ old ++ option_to_list o → reverse new ≡ places_in (newest_first (take (k + 1) journal))
places_next journal k e old new o lt is h told after =
    ap (λ (ps : List ℕ). reverse ps) after ∙ reverse_with old o
    ∙ (λ i. with_place (told i) (h i))
    ∙ sym (ap places_in (past_next journal k e lt is))

-- ---- lists in reverse

pub All-reverse : {X : Type 0} (P : X → Type 0) (xs : List X) → All P xs → All P (reverse xs)
All-reverse P [] h = All-nil P
All-reverse {X} P (x ∷ xs) h =
    subst (λ (ys : List X). All P ys) (sym (reverse-append (x ∷ []) xs))
    (All-push P (reverse xs) x (All-reverse P xs (All-tail P x xs h)) (All-head P x xs h))

-- Each place that a journal names is in the outcome of one of its events.
use Rattle.std.proofs.Common.{◌≡◌, ℕ, ◌+◌, List, [], ◌∷◌, ◌++◌, Option, Some, None, refl, ◌∙◌, ap, subst, inl, inr}
use Rattle.std.specs.Prelude.{◌⊎◌, Contains}
use Rattle.std.proofs.lemmas.List.Elements.{Contains-append_cases}
use Rattle.std.proofs.lemmas.Option.{same_Some}
use Rattle.ima_templates.specs.declared.entry.Placed.{Placed}
use Rattle.ima_templates.specs.declared.entry.Placed.TheVariants.{Added, Already}
use Rattle.inode_meta.specs.declared.step.Who.{Who}
use Rattle.inode_events.specs.Inode.{Inode}
use Rattle.inode_events.specs.Integrity.{Digests}
use Rattle.inode_events.specs.Listing.{Listed, added_at, adds, finds, found_at, granting}
use Rattle.inode_events.specs.Merged.{Named, named, places_added, places_named}
use Rattle.inode_events.specs.declared.deed.Deed.{Deed}
use Rattle.inode_events.specs.declared.deed.Deed.TheVariants as deed
use Rattle.inode_events.specs.declared.told.Event.{Event}
use Rattle.inode_events.specs.declared.told.Told.{Told}
use Rattle.inode_events.specs.declared.told.Told.TheVariants as told
use Rattle.inode_events.specs.Callers.{caller_in, caller_of}
use Rattle.run_laws.specs.Steps.{place_added, place_named, placed_added, placed_named, told_added, told_named}
use Rattle.list_lemmas.proofs.Containing.{has_cases, has_first, has_later, has_none}

-- the deed is a task's step, not a birth
abbrev IsStep : ℕ → Deed → Type 0
IsStep task d = caller_in task d ≡ task + 1

-- the outcome of a grant has the place at which it adds
added_grant : (o : Option Placed) (f : Option Digests) (i : Inode) (file : ℕ) (p : List Event)
    (x : Listed) → added_at o f i file p ≡ Some x
    → (placed_added o ≡ Some x.0) × Contains (placed_named o) x.0
added_grant (Some (Added k)) (Some f) i file p x h =
    let e : k ≡ x.0 = ap (λ (y : Listed). y.0) (same_Some _ x h) in
    (ap (λ (n : ℕ). Some n) e, subst (λ (n : ℕ). Contains (k ∷ []) n) e (has_first k []))
added_grant (Some (Added k)) None i file p x h = absurd (cc)
added_grant (Some (Already k)) f i file p x h = absurd (cc)
added_grant None f i file p x h = absurd (cc)

-- the outcome of a grant has the place that it finds
found_grant : (o : Option Placed) (f : Option Digests) (i : Inode) (file : ℕ) (p : List Event)
    (x : Listed) → found_at o f i file p ≡ Some x
    → Contains (placed_named o) x.0
found_grant (Some (Already k)) (Some f) i file p x h =
    let e : k ≡ x.0 = ap (λ (y : Listed). y.0) (same_Some _ x h) in
    subst (λ (n : ℕ). Contains (k ∷ []) n) e (has_first k [])
found_grant (Some (Already k)) None i file p x h = absurd (cc)
found_grant (Some (Added k)) f i file p x h = absurd (cc)
found_grant None f i file p x h = absurd (cc)

-- the outcome of an event has the place at which it adds
pub adds_told : (i : Inode) (task : ℕ) (d : Deed) (t : Told) (p : List Event) (x : Listed)
    → adds i d t p ≡ Some x
    → (told_added d t ≡ Some x.0) × Contains (told_named d t) x.0 × IsStep task d
adds_told i task (deed.Check file func action rules) (told.OpenWriters k) p x h =
    let e : k ≡ x.0 = ap (λ (y : Listed). y.0) (same_Some _ x h) in
    (ap (λ (n : ℕ). Some n) e, subst (λ (n : ℕ). Contains (k ∷ []) n) e (has_first k []), refl)
adds_told i task (deed.Check file func action rules) (told.ToMToU k) p x h =
    let e : k ≡ x.0 = ap (λ (y : Listed). y.0) (same_Some _ x h) in
    (ap (λ (n : ℕ). Some n) e, subst (λ (n : ℕ). Contains (k ∷ []) n) e (has_first k []), refl)
adds_told i task (deed.Take file) (told.Grant grant) p x h =
    let a = added_grant grant.placed (granting i (deed.Take file) p) i file p x h in
    (a.0, a.1, refl)
adds_told i task (deed.Finish file) (told.Grant grant) p x h =
    let a = added_grant grant.placed (granting i (deed.Finish file) p) i file p x h in
    (a.0, a.1, refl)
adds_told i task d t p x h = absurd (cc)

-- the outcome of an event has the place that it finds
finds_told : (i : Inode) (task : ℕ) (d : Deed) (t : Told) (p : List Event) (x : Listed)
    → finds i d t p ≡ Some x
    → Contains (told_named d t) x.0 × IsStep task d
finds_told i task (deed.Take file) (told.Grant grant) p x h =
    (found_grant grant.placed (granting i (deed.Take file) p) i file p x h, refl)
finds_told i task (deed.Finish file) (told.Grant grant) p x h =
    (found_grant grant.placed (granting i (deed.Finish file) p) i file p x h, refl)
finds_told i task d t p x h = absurd (cc)

-- an event of the journal whose outcome has this place
pub record Telling (p : List Event) (n : Named) (e : Event) : Type 0 where
  pub stands : Contains p e
  pub who : e.who ≡ n.0
  pub told : Contains (place_named e) n.1
  pub step : caller_of e ≡ e.who.task + 1

-- the event still has the place after one more event
telling_later : (x : Event) (p : List Event) (n : Named) (e : Event) → Telling p n e
    → Telling (x ∷ p) n e
telling_later x p n e t =
    record { stands = has_later x e p t.stands; who = t.who; told = t.told; step = t.step }

-- each name comes from an entry
named_is : (who : Who) (o : Option Listed) (n : Named) → Contains (named who o) n → (x : Listed)
    × (o ≡ Some x) × ((who, x.0) ≡ n)
named_is who None n h = absurd (has_none n h)
named_is who (Some x) n h = at (has_cases (who, x.0) n [] h) where
  at : ((who, x.0) ≡ n) ⊎ Contains [] n → (y : Listed) × (Some x ≡ Some y) × ((who, y.0) ≡ n)
  at (inl e) = (x, refl, e)
  at (inr f) = absurd (has_none n f)

-- the place at which the newest event adds is in its outcome
added_here : (i : Inode) (e : Event) (p : List Event) (n : Named)
    → Contains (named e.who (adds i e.deed e.told p)) n → Telling (e ∷ p) n e
    × (place_added e ≡ Some n.1)
added_here i e p n h =
    let a = named_is e.who (adds i e.deed e.told p) n h in
    let t = adds_told i e.who.task e.deed e.told p a.0 a.1 in
    let k : a.0.0 ≡ n.1 = ap (λ (m : Named). m.1) a.2 in (
      record {
        stands = has_first e p;
        who = ap (λ (m : Named). m.0) a.2;
        told =
            subst (λ (j : ℕ). Contains (place_named e) j) k t.1;
        step = t.2;
      },
      t.0 ∙ ap (λ (j : ℕ). Some j) k,
    )

-- the place that the newest event finds is in its outcome
found_here : (i : Inode) (e : Event) (p : List Event) (n : Named)
    → Contains (named e.who (finds i e.deed e.told p)) n → Telling (e ∷ p) n e
found_here i e p n h =
    let a = named_is e.who (finds i e.deed e.told p) n h in
    let t = finds_told i e.who.task e.deed e.told p a.0 a.1 in
    let k : a.0.0 ≡ n.1 = ap (λ (m : Named). m.1) a.2 in
    record {
      stands = has_first e p;
      who = ap (λ (m : Named). m.0) a.2;
      told =
          subst (λ (j : ℕ). Contains (place_named e) j) k t.0;
      step = t.1;
    }

-- each added place is in the outcome of an event that adds it
pub added_by_event : (i : Inode) (p : List Event) (n : Named) → Contains (places_added i p) n
    → (e : Event) × Telling p n e × (place_added e ≡ Some n.1)
added_by_event i [] n h = absurd (has_none n h)
added_by_event i (e ∷ p) n h = at (added_by_event i p n)
    (Contains-append_cases (named e.who (adds i e.deed e.told p)) (places_added i p) n h) where
      at : (Contains (places_added i p) n → (x : Event) × Telling p n x
          × (place_added x ≡ Some n.1))
          → Contains (named e.who (adds i e.deed e.told p)) n ⊎ Contains (places_added i p) n
          → (x : Event) × Telling (e ∷ p) n x × (place_added x ≡ Some n.1)
      at ih (inl a) = let t = added_here i e p n a in (e, t.0, t.1)
      at ih (inr b) = let t = ih b in (t.0, telling_later e p n t.0 t.1, t.2)

-- each named place is in the outcome of an event
pub named_by_event : (i : Inode) (p : List Event) (n : Named) → Contains (places_named i p) n
    → (e : Event) × Telling p n e
named_by_event i [] n h = absurd (has_none n h)
named_by_event i (e ∷ p) n h =
    at (named_by_event i p n)
    (Contains-append_cases
    (named e.who (adds i e.deed e.told p) ++ named e.who (finds i e.deed e.told p))
    (places_named i p) n h) where
      here : Contains (named e.who (adds i e.deed e.told p)) n
          ⊎ Contains (named e.who (finds i e.deed e.told p)) n → (x : Event) × Telling (e ∷ p) n x
      here (inl a) = (e, (added_here i e p n a).0)
      here (inr b) = (e, found_here i e p n b)

      at : (Contains (places_named i p) n → (x : Event) × Telling p n x)
          → Contains (named e.who (adds i e.deed e.told p) ++ named e.who (finds i e.deed e.told p))
          n ⊎ Contains (places_named i p) n → (x : Event) × Telling (e ∷ p) n x
      at ih (inl a) =
          here (Contains-append_cases (named e.who (adds i e.deed e.told p))
          (named e.who (finds i e.deed e.told p)) n a)
      at ih (inr b) = let t = ih b in (t.0, telling_later e p n t.0 t.1)

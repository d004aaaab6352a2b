-- The parts of the journals and of the rules that a task's passes have seen.
use Rattle.std.proofs.Common.{◌≡◌, ℕ, zero, suc, List, [], ◌∷◌, map, Some, refl, sym, ◌∙◌, ap, subst}
use Rattle.std.specs.Prelude.{slice_get, slice_set}
use Rattle.std.specs.List.{AllZip}
use Rattle.std.proofs.lemmas.Option.{same_Some}
use mathlib.Core.List.{IsPrefix}
use Rattle.grow_list.proofs.Prefixes.{prefix_refl}
use Rattle.grow_list.specs.Shown.{Passed}
use Rattle.inode_events.specs.declared.told.Event.{Event}
use Rattle.run_laws.specs.Checks.{JournalsGrow, SeesByLook, SeesFromPasses, StandsByLook}
use Rattle.run_laws.proofs.Turning.{longer_next}

abbrev lists_of : List (Passed Event) → List (List Event)
lists_of passes = map (λ (q : Passed Event). q.seen) passes

look_grows : (passes : List (Passed Event)) (i : ℕ) (old new : Passed Event)
    → slice_get passes i ≡ Some old → IsPrefix old.seen new.seen
    → JournalsGrow (lists_of passes) (lists_of (slice_set passes i new))
look_grows [] i old new h a k journal g = absurd (cc)
look_grows (q ∷ qs) zero old new h a zero journal g =
    let same : q.seen ≡ old.seen = ap (λ (x : Passed Event). x.seen) (same_Some q old h) in
    let here : q.seen ≡ journal = same_Some q.seen journal g in
    record {
      longer = new.seen;
      there = refl;
      before = subst (λ (l : List Event). IsPrefix l new.seen) (sym same ∙ here) a;
    }
look_grows (q ∷ qs) zero old new h a (suc k) journal g =
    record { longer = journal; there = g; before = prefix_refl journal }
look_grows (q ∷ qs) (suc i) old new h a zero journal g =
    record { longer = journal; there = g; before = prefix_refl journal }
look_grows (q ∷ qs) (suc i) old new h a (suc k) journal g =
    longer_next q.seen (lists_of (slice_set qs i new)) k journal
    (look_grows qs i old new h a k journal g)

pub law_sees_by_look : SeesByLook
law_sees_by_look passes rules rules2 i old new h a b =
    record { journals = look_grows passes i old new h a; added = b }

zip_grows : (passes : List (Passed Event)) (js : List (List Event))
    → AllZip (λ (q : Passed Event) (journal : List Event). IsPrefix q.seen journal) passes js
    → JournalsGrow (lists_of passes) js
zip_grows [] js z k journal g = absurd (cc)
zip_grows (q ∷ qs) [] z k journal g = absurd z
zip_grows (q ∷ qs) (j ∷ js) z zero journal g =
    record {
      longer = j;
      there = refl;
      before = subst (λ (l : List Event). IsPrefix l j)
          (same_Some q.seen journal g) z.0;
    }
zip_grows (q ∷ qs) (j ∷ js) z (suc k) journal g =
    longer_next j js k journal (zip_grows qs js z.1 k journal g)

pub law_sees_from_passes : SeesFromPasses
law_sees_from_passes passes rules run z b =
    record { journals = zip_grows passes run.journals z; added = b }

get_looked : (passes : List (Passed Event)) (i : ℕ) (old new : Passed Event)
    → slice_get passes i ≡ Some old → slice_get (lists_of (slice_set passes i new)) i
    ≡ Some new.seen
get_looked [] i old new h = absurd (cc)
get_looked (q ∷ qs) zero old new h = refl
get_looked (q ∷ qs) (suc i) old new h = get_looked qs i old new h

pub law_stands_by_look : StandsByLook
law_stands_by_look passes rules i old new before h a =
    record { longer = new.seen; there = get_looked passes i old new h; before = a }

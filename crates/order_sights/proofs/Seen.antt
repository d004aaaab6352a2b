-- States of an inode that are the same say the same of what can follow.
use Rattle.std.proofs.Common.{◌≡◌, ℕ, Bool, List, length, Option, Some, None, refl, ap, sym, ◌∙◌, arith}
use Rattle.std.specs.Prelude.{option_map}
use Rattle.std.proofs.lemmas.Option.{none-some, same_Some}
use Rattle.inode_events.specs.Inode.{Inode}
use Rattle.inode_events.specs.Integrity.{Collection, Digests}
use Rattle.inode_events.specs.State.{modified_since}
use Rattle.inode_events.specs.declared.told.Event.{Event}
use Rattle.inode_state.specs.Collecting.{Short, short_of, short_seen, shortened, shorts_seen}
use Rattle.inode_state.specs.InForce.{in_force_seen}
use Rattle.inode_state.specs.Writes.{reaches}
use Rattle.inode_state.specs.declared.collecting.Collecting.{Collecting}
use Rattle.inode_state.specs.declared.in_force.InForce.{InForce}
use Rattle.journal_laws.proofs.Fresh.{CollectionIs, DigestsIs}
use Rattle.order_outcomes.specs.alike.Alike.{HasBegun, HaveBegun, collection_seen, digests_seen}
use Rattle.order_sights.specs.States.{AreCollectionsSame, force_seen}
use Rattle.order_sights.specs.Taken.{taken}
use Rattle.order_sights.specs.TakenValue.{TakenValue}
use Rattle.order_sights.proofs.Taking.{TakenIs}

-- ---- what began

pub has_begun : (i : Inode) (p : List Event) (o : Option Collection) → CollectionIs i p o
    → HasBegun (length p) o
has_begun i p None h = tt
has_begun i p (Some c) h = let lt = h.0 in omega (arith, lt)

pub have_begun : (i : Inode) (p : List Event) (o : Option Digests) → DigestsIs i p o
    → HaveBegun (length p) o
have_begun i p None h = tt
have_begun i p (Some d) h = let lt = h.0 in omega (arith, lt)

-- ---- the digests in force

pub force_is : (p : List Event) (last : Option ℕ)
    → ((place : ℕ) → modified_since place p ≡ reaches place last) → (o : Option InForce)
    → option_map (digests_seen p) (in_force_seen o) ≡ force_seen last o
force_is p last since None = refl
force_is p last since (Some f) =
    ap (λ (s : Bool). Some (record { digest = f.sums.digest; sha1 = f.sums.sha1; stale = s }))
    (since f.begin)

-- ---- the open collection

module _ (i : Inode) (p q : List Event) (last last2 : Option ℕ)
    (since : (place : ℕ) → modified_since place p ≡ reaches place last)
    (since2 : (place : ℕ) → modified_since place q ≡ reaches place last2)
    (same : taken q ≡ taken p) where
  -- two that have taken the same are seen alike
  both : (x y : Collecting) (c d : Collection) → short_seen x ≡ short_of c
      → short_seen y ≡ short_of d → AreCollectionsSame last last2 (Some x) (Some y)
      → TakenIs (Some c) (taken p) → TakenIs (Some d) (taken q)
      → collection_seen q d ≡ collection_seen p c
  both x y c d is is2 h k l = λ j. record {
    closing = (sym (ap (λ (s : Short). s.closing) is2) ∙ h.closing
        ∙ ap (λ (s : Short). s.closing) is) j;
    algo = (sym (ap (λ (s : Short). s.algo) is2) ∙ h.algo ∙ ap (λ (s : Short). s.algo) is) j;
    pieces = (l.pieces ∙ ap (λ (t : TakenValue). t.pieces) same ∙ sym k.pieces) j;
    bytes = (l.bytes ∙ ap (λ (t : TakenValue). t.bytes) same ∙ sym k.bytes) j;
    complete = (sym (ap (λ (s : Short). s.complete) is2) ∙ h.complete
        ∙ ap (λ (s : Short). s.complete) is) j;
    stale = (since2 d.begin
        ∙ ap (λ (n : ℕ). reaches n last2) (sym (ap (λ (s : Short). s.begin) is2)) ∙ h.stale
        ∙ ap (λ (n : ℕ). reaches n last) (ap (λ (s : Short). s.begin) is)
        ∙ sym (since c.begin)) j;
  }

  pub collection_is : (o u : Option Collecting) (c d : Option Collection)
      → shorts_seen o ≡ shortened c → shorts_seen u ≡ shortened d
      → AreCollectionsSame last last2 o u → TakenIs c (taken p) → TakenIs d (taken q)
      → option_map (collection_seen q) d ≡ option_map (collection_seen p) c
  collection_is None None None None is is2 h k l = refl
  collection_is None None None (Some d) is is2 h k l = absurd (none-some (short_of d) is2)
  collection_is None None (Some c) d is is2 h k l = absurd (none-some (short_of c) is)
  collection_is None (Some y) c d is is2 h k l = absurd h
  collection_is (Some x) None c d is is2 h k l = absurd h
  collection_is (Some x) (Some y) None d is is2 h k l = absurd (none-some (short_seen x) (sym is))
  collection_is (Some x) (Some y) (Some c) None is is2 h k l =
      absurd (none-some (short_seen y) (sym is2))
  collection_is (Some x) (Some y) (Some c) (Some d) is is2 h k l =
      ap Some (both x y c d (same_Some (short_seen x) (short_of c) is)
      (same_Some (short_seen y) (short_of d) is2) h k l)

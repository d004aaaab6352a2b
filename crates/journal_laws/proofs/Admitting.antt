-- Grants in mode enforce.
use Rattle.std.proofs.Common.{◌≡◌, ℕ, Bool, true, false, not, ◌&&◌, List, Option, Some, None, refl, sym, ◌∙◌, ap, subst}
use Rattle.std.specs.Prelude.{unwrap_or, option_map}
use Rattle.std.proofs.lemmas.Bool.{cond-true, not-true}
use Rattle.hash_algos.specs.declared.digest.Digest.{Digest}
use Rattle.ima_templates.specs.declared.entry.Placed.{Placed}
use Rattle.inode_meta.specs.declared.appraisal.Mode.{Mode}
use Rattle.inode_meta.specs.declared.appraisal.Mode.TheVariants.{Enforce}
use Rattle.inode_meta.specs.declared.step.Who.{Who}
use Rattle.label_values.specs.Verdicts.{is_pass}
use Rattle.label_values.specs.declared.verdict.Verdict.{Verdict}
use Rattle.inode_events.specs.Admission.{collection_begin, fits, digests_begin, granted_file, granted_unmodified, unmodified_since}
use Rattle.inode_events.specs.Checks.{appraises, is_off, last_check}
use Rattle.inode_events.specs.Grants.{admits, grant_of, verdict_for}
use Rattle.inode_events.specs.Inode.{Inode}
use Rattle.inode_events.specs.Integrity.{Collection, Digests, collecting, digest_from, in_force}
use Rattle.inode_events.specs.Legal.{EachFollows, Follows}
use Rattle.inode_events.specs.Marks.{is_passed}
use Rattle.inode_events.specs.Says.{placed_in}
use Rattle.inode_events.specs.State.{modified_since}
use Rattle.inode_events.specs.Verdicts.{fresh_digest, fresh_verdict, judged, key_of, verdict_in_force}
use Rattle.inode_events.specs.declared.deed.Deed.{Deed}
use Rattle.inode_events.specs.declared.deed.Deed.TheVariants as deed
use Rattle.inode_events.specs.declared.told.Event.{Event}
use Rattle.inode_events.specs.declared.told.Grant.{Grant}
use Rattle.inode_events.specs.declared.told.Told.TheVariants as told
use Rattle.journal_laws.specs.Laws.{IsAdmitted}
use Rattle.journal_laws.proofs.Fresh.{CollectionIs, DigestsIs, Fresh, FreshUnless, VerdictIs, finish_grants, take_grants, verdict_fresh}
use Rattle.journal_laws.proofs.FreshSteps.{collected_fresh, finished, freshness_lem}
use Rattle.journal_laws.proofs.Stages.{Stages, stages}

-- an action that appraises does so in mode enforce
enforced : (i : Inode) (file : ℕ) (p : List Event) → i.settings.mode ≡ Enforce
    → (last_check file p).action.appraise ≡ true
    → appraises i (last_check file p).action ≡ true
enforced i file p m a =
    ap (λ (b : Bool). b && not (is_off i.settings.mode)) a ∙ ap (λ (x : Mode). not (is_off x)) m

-- mode enforce admits exactly on Pass
admits_passed : (m : Mode) (v : Verdict) → m ≡ Enforce → admits m (Some v) ≡ is_pass v
admits_passed m v e = subst (λ (x : Mode). admits x (Some v) ≡ is_pass v) (sym e) refl

-- a grant from a digest that is fresh unless the file was written since the digest's collection
-- began
admitted : (i : Inode) (p : List Event) (file : ℕ) (placed : Placed) (digest : Digest)
    (grant : Grant) (stale : Bool)
    → grant_of i file placed digest p ≡ grant → i.settings.mode ≡ Enforce
    → (last_check file p).action.appraise ≡ true
    → (stale ≡ false → digest ≡ fresh_digest i p)
    → FreshUnless i (key_of (last_check file p)) p stale
    (verdict_in_force i (key_of (last_check file p)) p)
    → (grant.admitted ≡ is_passed grant.verdict)
    × (stale ≡ false
    → grant.verdict ≡ Some
    (fresh_verdict i (last_check file p).action.need (last_check file p).action.algos p))
    × (stale ≡ false → grant.admitted ≡ fits i (last_check file p).action p)
admitted i p file placed digest grant stale made m a d f =
    let told : verdict_for i (last_check file p) digest p ≡ Some value = cond-true _ _ None
    (enforced i file p m a) in
    let v : grant.verdict ≡ Some value = sym (ap (λ (g : Grant). g.verdict) made) ∙ told in
    let ad : grant.admitted ≡ is_pass value =
    sym (ap (λ (g : Grant). g.admitted) made) ∙ ap (admits i.settings.mode) told
    ∙ admits_passed i.settings.mode value m in (
      ad ∙ sym (ap is_passed v),
      (λ s. v ∙ ap Some (fresh s)),
      (λ s. ad ∙ ap is_pass (fresh s)),
    ) where
      value : Verdict
      value = unwrap_or (verdict_in_force i (key_of (last_check file p)) p)
          (judged i (last_check file p).action.need (last_check file p).action.algos digest p)

      fresh : stale ≡ false → value ≡ fresh_verdict i (last_check file p).action.need
          (last_check file p).action.algos p
      fresh s = verdict_fresh i p (key_of (last_check file p)) digest stale d
          (verdict_in_force i (key_of (last_check file p)) p) f s

-- a take grants from the digest in force
take_admits : (i : Inode) (p : List Event) (who : Who) (file : ℕ) (grant : Grant)
    → Follows i p who (deed.Take file) (told.Grant grant) → Fresh i p
    → i.settings.mode ≡ Enforce → (last_check file p).action.appraise ≡ true
    → IsAdmitted i p (deed.Take file) grant file
take_admits i p who file grant h fr m a =
    let made : (x : Digests)
    × ((in_force i p ≡ Some x)
    × (grant_of i file (placed_in (told.Grant grant)) x.digest p ≡ grant)) =
    take_grants i p file (placed_in (told.Grant grant)) grant (collecting i p) (in_force i p) h.2 in
    at made.0 made.1.0 made.1.1 where
      at : (x : Digests) → in_force i p ≡ Some x
          → grant_of i file (placed_in (told.Grant grant)) x.digest p ≡ grant
          → IsAdmitted i p (deed.Take file) grant file
      at x f made =
          let fi : DigestsIs i p (Some x) =
          subst (λ (o : Option Digests). DigestsIs i p o) f fr.digests_is in
          let vi : FreshUnless i (key_of (last_check file p)) p (modified_since x.begin p)
          (verdict_in_force i (key_of (last_check file p)) p) =
          subst (λ (o : Option Digests). VerdictIs i (key_of (last_check file p)) p
          (verdict_in_force i (key_of (last_check file p)) p) o) f
          (fr.verdict_is (key_of (last_check file p))) in
          let un : granted_unmodified i (deed.Take file) p ≡ not (modified_since x.begin p) =
          ap (λ (o : Option Digests). unmodified_since (option_map digests_begin o) p) f in
          let r = admitted i p file (placed_in (told.Grant grant)) x.digest grant
          (modified_since x.begin p) made m a (λ w. (fi.2 w).0) vi in (
            r.0,
            (λ u. r.1 (not-true (modified_since x.begin p) (sym un ∙ u))),
            (λ u. r.2 (not-true (modified_since x.begin p) (sym un ∙ u))),
          )

-- a finish grants from its collection
finish_admits : (i : Inode) (p : List Event) (who : Who) (file : ℕ) (grant : Grant)
    → Follows i p who (deed.Finish file) (told.Grant grant) → Stages i p → Fresh i p
    → i.settings.mode ≡ Enforce → (last_check file p).action.appraise ≡ true
    → IsAdmitted i p (deed.Finish file) grant file
finish_admits i p who file grant h s fr m a =
    let made : (c : Collection)
    × ((collecting i p ≡ Some c)
    × (grant_of i file (placed_in (told.Grant grant)) (digest_from c) p ≡ grant)) =
    finish_grants i p file (placed_in (told.Grant grant)) grant (collecting i p) h.2 in
    at made.0 made.1.0 made.1.1 where
      at : (c : Collection) → collecting i p ≡ Some c
          → grant_of i file (placed_in (told.Grant grant)) (digest_from c) p ≡ grant
          → IsAdmitted i p (deed.Finish file) grant file
      at c f made =
          let ends : (c.file ≡ file) × (c.closing ≡ false) × (c.complete ≡ true) =
          finished i p file false h.1 s c f in
          let ci : CollectionIs i p (Some c) =
          subst (λ (o : Option Collection). CollectionIs i p o) f fr.collection_is in
          let none : verdict_in_force i (key_of (last_check file p)) p ≡ None =
          subst (λ (o : Option Digests). VerdictIs i (key_of (last_check file p)) p
          (verdict_in_force i (key_of (last_check file p)) p) o) (ci.4 ends.1)
          (fr.verdict_is (key_of (last_check file p))) in
          let un : granted_unmodified i (deed.Finish file) p ≡ not (modified_since c.begin p) =
          ap (λ (o : Option Collection). unmodified_since (option_map collection_begin o) p)
          f in
          let r = admitted i p file (placed_in (told.Grant grant)) (digest_from c) grant
          (modified_since c.begin p) made m a (λ w. collected_fresh i p c ci ends.2 w ends.1)
          (subst (λ (o : Option Verdict). FreshUnless i (key_of (last_check file p)) p
          (modified_since c.begin p) o) (sym none) tt) in (
            r.0,
            (λ u. r.1 (not-true (modified_since c.begin p) (sym un ∙ u))),
            (λ u. r.2 (not-true (modified_since c.begin p) (sym un ∙ u))),
          )

-- the law for a take or a finish
pub admits_lem : (i : Inode) (p : List Event) (who : Who) (d : Deed) (grant : Grant) (file : ℕ)
    → Follows i p who d (told.Grant grant) → EachFollows i p
    → granted_file d ≡ Some file → i.settings.mode ≡ Enforce
    → (last_check file p).action.appraise ≡ true → IsAdmitted i p d grant file
admits_lem i p who (deed.Take g) grant file h l e m a =
    let same : g ≡ file = cc in subst (λ (x : ℕ). IsAdmitted i p (deed.Take g) grant x) same
    (take_admits i p who g grant h (freshness_lem i p l) m
    (subst (λ (x : ℕ). (last_check x p).action.appraise ≡ true) (sym same) a))
admits_lem i p who (deed.Finish g) grant file h l e m a =
    let same : g ≡ file = cc in subst (λ (x : ℕ). IsAdmitted i p (deed.Finish g) grant x) same
    (finish_admits i p who g grant h (stages i p l) (freshness_lem i p l) m
    (subst (λ (x : ℕ). (last_check x p).action.appraise ≡ true) (sym same) a))
admits_lem i p who d grant file h l e m a = cc

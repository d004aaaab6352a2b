-- The verdicts in force after one more event.
use Rattle.std.proofs.Common.{◌≡◌, ◌⊎◌, ℕ, Bool, true, false, ◌&&◌, cond, List, [], ◌∷◌, ◌++◌, Option, Some, None, refl, sym, ◌∙◌, ap, subst, inl, inr, ⊎_elim}
use Rattle.std.specs.Prelude.{find, is_some, unwrap_or}
use Rattle.std.specs.Option.{option_map, option_or}
use Rattle.std.proofs.lemmas.List.Folds.{find-append}
use Rattle.hash_algos.specs.declared.algo_set.AlgoSet.{AlgoSet}
use Rattle.hash_algos.specs.declared.digest.Digest.{Digest}
use Rattle.inode_events.specs.templates.declared.entry.Placed.{Placed}
use Rattle.inode_meta.specs.declared.appraisal.Need.{Need}
use Rattle.inode_meta.specs.declared.appraisal.Need.TheVariants as need
use Rattle.inode_meta.specs.declared.appraisal.Slot.{Slot}
use Rattle.inode_meta.specs.declared.appraisal.Slot.TheVariants as slot
use Rattle.inode_meta.specs.declared.step.Who.{Who}
use Rattle.inode_events.specs.labels.declared.verdict.Verdict.{Verdict}
use Rattle.inode_events.specs.Checks.{Check, appraises, last_check}
use Rattle.inode_events.specs.Grants.{grant_of, verdict_for}
use Rattle.inode_events.specs.Inode.{Inode}
use Rattle.inode_events.specs.Integrity as journal
use Rattle.inode_events.specs.Integrity.{Collection, collecting, digest_from, in_force, voids_digest}
use Rattle.inode_events.specs.Legal.{Follows}
use Rattle.inode_events.specs.Says.{finish_told, placed_in, take_told, unless_collecting}
use Rattle.inode_events.specs.Verdicts.{Key, judged, key_of, same_algos, same_bool, same_key, same_need, same_set, same_slot, verdict_given, verdict_in_force, verdict_kept, voids_verdicts}
use Rattle.inode_events.specs.declared.deed.Deed.{Deed}
use Rattle.inode_events.specs.declared.deed.Deed.TheVariants as deed
use Rattle.inode_events.specs.declared.told.Event.{Event}
use Rattle.inode_events.specs.declared.told.Grant.{Grant}
use Rattle.inode_events.specs.declared.told.Told.{Told}
use Rattle.inode_events.specs.declared.told.Told.TheVariants as told
use Rattle.journal_laws.proofs.Small.{event}
use Rattle.inode_state.specs.Collecting.{Asks, IsAsked}
use Rattle.inode_state.specs.Verdicts.{AreVerdicts, found, given_under, kept_with, key_for, key_seen, verdicts_after, verdicts_next, voids_all}
use Rattle.inode_state.specs.declared.collecting.Asked.{Asked}
use Rattle.inode_state.specs.declared.keys.Key.{Key as StateKey}
use Rattle.inode_state.specs.declared.verdicts.KeyedVerdict.{KeyedVerdict}

-- ---- equal keys are the same key

both : (a b : Bool) → (a && b) ≡ true → (a ≡ true) × (b ≡ true)
both true b e = (refl, e)
both false b e = cc

one_bool : (a b : Bool) → same_bool a b ≡ true → a ≡ b
one_bool true b e = sym e
one_bool false true e = cc
one_bool false false e = refl

one_slot : (a b : Slot) → same_slot a b ≡ true → a ≡ b
one_slot slot.File slot.File e = refl
one_slot slot.Mmap slot.Mmap e = refl
one_slot slot.Bprm slot.Bprm e = refl
one_slot a b e = cc

one_need : (a b : Need) → same_need a b ≡ true → a ≡ b
one_need need.Any need.Any e = refl
one_need need.Signature need.Signature e = refl
one_need a b e = cc

one_set : (a b : AlgoSet) → same_set a b ≡ true → a ≡ b
one_set a b e =
    let h = both _ _ e in
    let h5 = both _ _ h.0 in
    let h4 = both _ _ h5.0 in
    let h3 = both _ _ h4.0 in
    let h2 = both _ _ h3.0 in
    let e1 = one_bool a.md5 b.md5 h2.0 in
    let e2 = one_bool a.sha1 b.sha1 h2.1 in
    let e3 = one_bool a.sha256 b.sha256 h3.1 in
    let e4 = one_bool a.sha384 b.sha384 h4.1 in
    let e5 = one_bool a.sha512 b.sha512 h5.1 in
    let e6 = one_bool a.sha224 b.sha224 h.1 in
    λ i. record {
      md5 = e1 i;
      sha1 = e2 i;
      sha256 = e3 i;
      sha384 = e4 i;
      sha512 = e5 i;
      sha224 = e6
          i;
    }

one_algos : (a b : Option AlgoSet) → same_algos a b ≡ true → a ≡ b
one_algos None None e = refl
one_algos None (Some b) e = cc
one_algos (Some a) None e = cc
one_algos (Some a) (Some b) e = ap Some (one_set a b e)

one_key : (a b : Key) → same_key a b ≡ true → a ≡ b
one_key a b e =
    let h = both (same_slot a.slot b.slot && same_need a.need b.need) (same_algos a.algos b.algos)
    e in
    let g = both (same_slot a.slot b.slot) (same_need a.need b.need) h.0 in
    let e1 = one_slot a.slot b.slot g.0 in
    let e2 = one_need a.need b.need g.1 in
    let e3 = one_algos a.algos b.algos h.1 in
    λ i. record { slot = e1 i; need = e2 i; algos = e3 i }

-- ---- one more verdict

-- if a verdict was in force, a grant gives the same one or none
abbrev GivesAgain : Option Verdict → Option Verdict → Type 0
GivesAgain old given = (v : Verdict) → old ≡ Some v → (given ≡ None) ⊎ (given ≡ Some v)

with_one : (k : Key) (x : KeyedVerdict) (kept : List KeyedVerdict)
    → found k (kept ++ x ∷ []) ≡ option_or (found k kept) (cond (same_key k (key_seen x.key)) (Some
    x.verdict) None)
with_one k x kept =
    ap (option_map (λ (y : KeyedVerdict). y.verdict))
    (find-append (λ (y : KeyedVerdict). same_key k (key_seen y.key)) kept (x ∷ []))
    ∙ at (find (λ (y : KeyedVerdict). same_key k (key_seen y.key)) kept)
    (same_key k (key_seen x.key)) where
      at : (o : Option KeyedVerdict) (b : Bool)
          → option_map (λ (y : KeyedVerdict). y.verdict) (option_or o (cond b
          (Some x) None)) ≡ option_or (option_map (λ (y : KeyedVerdict). y.verdict) o) (cond b (Some
          x.verdict) None)
      at (Some y) b = refl
      at None true = refl
      at None false = refl

given_on : (in_force : Key → Option Verdict) (kept : List KeyedVerdict) (key : StateKey)
    (given : Option Verdict) → ((k : Key) → in_force k ≡ found k kept)
    → GivesAgain (in_force (key_seen key)) given → (k : Key)
    → cond (same_key k (key_seen key)) (option_or given (in_force k)) (in_force k) ≡ found k
    (kept_with key given kept)
given_on in_force kept key None all again k = at (same_key k (key_seen key)) ∙ all k where
  at : (b : Bool) → cond b (in_force k) (in_force k) ≡ in_force k
  at true = refl
  at false = refl
given_on in_force kept key (Some v) all again k = at (found (key_seen key) kept) refl where
  same : same_key k (key_seen key) ≡ true → found k kept ≡ found (key_seen key) kept
  same e = ap (λ (x : Key). found x kept) (one_key k (key_seen key) e)

  there : (w : Verdict) → found (key_seen key) kept ≡ Some w → (b : Bool)
      → same_key k (key_seen key) ≡ b → cond b (Some v) (in_force k) ≡ found k kept
  there w f true e = ⊎_elim (λ n. absurd (cc)) (λ n. n ∙ sym (same e
      ∙ f)) (again w (all (key_seen key) ∙ f))
  there w f false e = all k

  more : found (key_seen key) kept ≡ None → (b : Bool) → same_key k (key_seen key) ≡ b
      → cond b (Some v) (in_force k) ≡ option_or (found k kept) (cond b (Some v) None)
  more f true e = sym (ap (λ (o : Option Verdict). option_or o (Some v)) (same e ∙ f))
  more f false e = all k ∙ alone (found k kept) where
    alone : (o : Option Verdict) → o ≡ option_or o None
    alone None = refl
    alone (Some w) = refl

  at : (o : Option Verdict) → found (key_seen key) kept ≡ o
      → cond (same_key k (key_seen key)) (Some v) (in_force k) ≡ found k (cond (is_some (found
      (key_seen key) kept)) kept (kept ++ record { key = key; verdict = v } ∷ []))
  at (Some w) f = there w f (same_key k (key_seen key)) refl
      ∙ ap (λ (o : Option Verdict). found k (cond (is_some o) kept (kept ++ record {
        key = key;
        verdict = v;
      } ∷ []))) (sym f)
  at None f =
      more f (same_key k (key_seen key)) refl
      ∙ sym (with_one k (record { key = key; verdict = v }) kept)
      ∙ ap (λ (o : Option Verdict). found k (cond (is_some o) kept (kept ++ record {
        key = key;
        verdict = v;
      } ∷ []))) (sym f)

-- ---- the verdict of a grant

again_at : (i : Inode) (check : Check) (digest : Digest) (p : List Event)
    → GivesAgain (verdict_in_force i (key_of check) p) (verdict_for i check digest p)
again_at i check digest p v e = at (appraises i check.action) where
  at : (b : Bool) → (cond b (Some (unwrap_or (verdict_in_force i (key_of check) p) (judged i
      check.action.need check.action.algos digest p))) None ≡ None)
      ⊎ (cond b (Some (unwrap_or (verdict_in_force i (key_of check) p) (judged i check.action.need
      check.action.algos digest p))) None ≡ Some v)
  at true = inr (ap (λ (o : Option Verdict). Some (unwrap_or o (judged i check.action.need
      check.action.algos digest p))) e)
  at false = inl refl

again_take : (i : Inode) (p : List Event) (file : ℕ) (placed : Placed) (grant : Grant) (c : Option
    Collection) (f : Option journal.Digests)
    → unless_collecting c (take_told i file placed f p) ≡ Some (told.Grant grant)
    → GivesAgain (verdict_in_force i (key_of (last_check file p)) p) grant.verdict
again_take i p file placed grant (Some c) f e = cc
again_take i p file placed grant None None e = cc
again_take i p file placed grant None (Some f) e =
    let s : grant_of i file placed f.digest p ≡ grant = cc in
    subst (λ (g : Grant). GivesAgain (verdict_in_force i (key_of (last_check file p)) p) g.verdict)
    s (again_at i (last_check file p) f.digest p)

again_finish : (i : Inode) (p : List Event) (file : ℕ) (placed : Placed) (grant : Grant) (c :
    Option Collection)
    → finish_told i file placed c p ≡ Some (told.Grant grant)
    → GivesAgain (verdict_in_force i (key_of (last_check file p)) p) grant.verdict
again_finish i p file placed grant None e = cc
again_finish i p file placed grant (Some c) e =
    let s : grant_of i file placed (digest_from c) p ≡ grant = cc in
    subst (λ (g : Grant). GivesAgain (verdict_in_force i (key_of (last_check file p)) p) g.verdict)
    s (again_at i (last_check file p) (digest_from c) p)

-- ---- after one more event

asked_key : (check : Check) (a : Asked) → IsAsked check a → key_seen (key_for a) ≡ key_of check
asked_key check a h = let s = h.slot in let t = h.action in λ i. record {
  slot = s i;
  need = (t
      i).need;
  algos = (t i).algos;
}

granted_on : (i : Inode) (p : List Event) (file : ℕ) (grant : Grant) (asked : Option Asked) (kept :
    List KeyedVerdict)
    → (a : Asked) × ((asked ≡ Some a) × IsAsked (last_check file p) a)
    → GivesAgain (verdict_in_force i (key_of (last_check file p)) p) grant.verdict
    → AreVerdicts i p kept → (k : Key) → verdict_kept k file grant.verdict p (verdict_in_force i k
    p) ≡ found k (given_under asked grant.verdict kept)
granted_on i p file grant asked kept h again all k =
    let key : key_seen (key_for h.0) ≡ key_of (last_check file p) = asked_key (last_check file p)
    h.0 h.1.1 in
    ap (λ (x : Key). cond (same_key k x) (option_or grant.verdict (verdict_in_force i k p))
    (verdict_in_force i k p)) (sym key)
    ∙ given_on (λ (x : Key). verdict_in_force i x p) kept (key_for h.0) grant.verdict all (subst (λ
    (x : Key). GivesAgain (verdict_in_force i x p) grant.verdict) (sym key) again) k
    ∙ ap (λ (o : Option Asked). found k (given_under o grant.verdict kept)) (sym h.1.0)

next_on : (i : Inode) (p : List Event) (who : Who) (d : Deed) (t : Told) (asked : Option Asked)
    (kept : List KeyedVerdict) → Follows i p who d t → Asks d p asked
    → AreVerdicts i p kept → (k : Key) → verdict_given k d t p (verdict_in_force i k p) ≡ found k
    (verdicts_next d t asked kept)
next_on i p who (deed.Take file) (told.Grant grant) asked kept f a all k =
    granted_on i p file grant asked kept a (again_take i p file (placed_in (told.Grant grant))
    grant (collecting i p) (in_force i p) f.2) all k
next_on i p who (deed.Finish file) (told.Grant grant) asked kept f a all k =
    granted_on i p file grant asked kept a (again_finish i p file (placed_in (told.Grant grant))
    grant (collecting i p) f.2) all k
next_on i p who d t asked kept f a all k = all k

voids_same : (d : Deed) (t : Told) (p : List Event) (f : Option journal.Digests) (voids : Bool)
    → voids ≡ voids_digest d t p f → voids_all d t voids ≡ voids_verdicts d t p f
voids_same (deed.SetMeta change) told.Done p f voids e = refl
voids_same d t p f voids e = e

pub verdicts_on : (i : Inode) (p : List Event) (who : Who) (d : Deed) (t : Told) (voids : Bool)
    (asked : Option Asked) (kept : List KeyedVerdict) → Follows i p who d t
    → voids ≡ voids_digest d t p (in_force i p) → Asks d p asked → AreVerdicts i p kept
    → AreVerdicts i (event who d t ∷ p) (verdicts_after d t voids asked kept)
verdicts_on i p who d t voids asked kept f v a all k =
    ap (λ (b : Bool). cond b None (verdict_given k d t p (verdict_in_force i k p))) (sym
    (voids_same d t p (in_force i p) voids v)) ∙ at (voids_all d t voids) where
      at : (b : Bool) → cond b None (verdict_given k d t p (verdict_in_force i k p)) ≡ found k
          (cond b [] (verdicts_next d t asked kept))
      at true = refl
      at false = next_on i p who d t asked kept f a all k

-- Freshness over every legal journal, one row for each kind of event.
use Rattle.std.proofs.Common.{◌≡◌, ℕ, ◌+◌, ◌<◌, suc, Bool, true, false, ◌&&◌, ◌||◌, not, cond, List, [], ◌∷◌, length, Option, Some, None, refl, sym, ◌∙◌, ap, subst, arith}
use Rattle.std.specs.Prelude.{◌==◌}
use Rattle.std.specs.Option.{option_or, option_map}
use Rattle.std.proofs.lemmas.Bool.{or_right, cond-true, cond-false, eqb-false, le-leb, or_left, or_parts}
use Rattle.hash_algos.specs.Digest.{digest_of}
use Rattle.hash_algos.specs.declared.algo.Algo.{Algo}
use Rattle.hash_algos.specs.declared.algo.Algo.TheVariants.{Sha1}
use Rattle.hash_algos.specs.declared.algo_set.AlgoSet.{AlgoSet}
use Rattle.hash_algos.specs.declared.digest.Digest.{Digest}
use Rattle.inode_meta.specs.declared.appraisal.Need.{Need}
use Rattle.inode_meta.specs.declared.step.Who.{Who}
use Rattle.label_values.specs.Labels.{collect_algo}
use Rattle.label_values.specs.Verdicts.{judge}
use Rattle.label_values.specs.declared.verdict.Verdict.{Verdict}
use Rattle.inode_events.specs.Checks.{Check, last_check}
use Rattle.inode_events.specs.Files.{files, less_file, is_writer, is_writing, tally, writers}
use Rattle.inode_events.specs.Grants.{grant_of, verdict_for}
use Rattle.inode_events.specs.Inode.{Inode}
use Rattle.inode_events.specs.Integrity.{Collection, Digests, attributes, chosen_algo, collecting, digest_from, in_force, digests_of, label, label_in}
use Rattle.inode_events.specs.Legal.{EachFollows, Follows}
use Rattle.inode_events.specs.Stage.{CloseCollected, is_collecting, is_gone}
use Rattle.inode_events.specs.Stage.{stage}
use Rattle.inode_events.specs.Says.{placed_in}
use Rattle.inode_events.specs.State.{content, new, present, versions, modified_since}
use Rattle.inode_events.specs.Verdicts.{Key, fresh_digest, fresh_verdict, key_of, same_key, verdict_in_force, verdict_kept}
use Rattle.inode_events.specs.declared.deed.Deed.{Deed}
use Rattle.inode_events.specs.declared.deed.Deed.TheVariants as deed
use Rattle.inode_events.specs.declared.told.Event.{Event}
use Rattle.inode_events.specs.declared.told.Grant.{Grant}
use Rattle.inode_events.specs.declared.told.Told.{Told}
use Rattle.inode_events.specs.declared.told.Told.TheVariants as told
use Rattle.journal_laws.proofs.Labels.{label-renewed}
use Rattle.journal_laws.proofs.Lives.{Lives, lives}
use Rattle.journal_laws.proofs.Small.{event, or_none}
use Rattle.journal_laws.specs.Standing.{collecting_stage}
use Rattle.journal_laws.proofs.Stages.{Busy, Stages, StageIs, free_at, stage_busy, stages}
use Rattle.journal_laws.proofs.Tallies.{tally-less}
use Rattle.journal_laws.proofs.Fresh.{CollectionIs, DigestsIs, Fresh, FreshUnless, LeavesContent, VerdictIs, digest_same, finish_grants, digests_still, fresh_unless, given_fresh, kept_fresh, last_told, leaves_fresh, piece_taken, take_begins, take_grants, unmodified, void_fresh, write_fresh}
use Rattle.inode_events.specs.Integrity.{fixed_by, is_stale}
use Rattle.inode_events.specs.State.{metadata}
use Rattle.inode_meta.specs.declared.identity.Meta.{Meta}
use Rattle.inode_events.specs.evm.Status.{evm_status}
use Rattle.ima_templates.specs.xattrs.Attrs.{Pair}
use Rattle.inode_events.specs.declared.image.Image.{Image}

-- ---- the verdict as a function of its parts

-- the verdict as a function of what it reads
verdict_over : Inode → Need → Option AlgoSet → List Pair → Meta → List ℕ → Bool → Verdict
verdict_over i need algos attrs meta bytes new =
    judge need algos (label_in attrs) (evm_status i.settings.evm attrs meta)
    (digest_of (collect_algo (label_in attrs) i.settings.hash) bytes)
    i.settings.hash (length bytes) new

-- an event that leaves what a verdict reads leaves the verdict
verdict_new : (i : Inode) (p q : List Event) → attributes i q ≡ attributes i p
    → metadata q ≡ metadata p → content q ≡ content p → new q ≡ new p
    → (need : Need) (algos : Option AlgoSet)
    → fresh_verdict i need algos q ≡ fresh_verdict i need algos p
unfolding verdict_over
verdict_new i p q a m c n need algos =
    ap (λ (x : List Pair). verdict_over i need algos x (metadata q) (content q) (new q)) a
    ∙ ap (λ (x : Meta). verdict_over i need algos (attributes i p) x (content q) (new q)) m
    ∙ ap (λ (x : List ℕ). verdict_over i need algos (attributes i p) (metadata p) x (new q)) c
    ∙ ap (λ (x : Bool). verdict_over i need algos (attributes i p) (metadata p) (content p) x) n

-- ---- grants

-- a grant that mends nothing leaves the attributes
unlabelled : (i : Inode) (b : Bool) (d : Option Digest) (meta : Meta) (attrs : List Pair)
    → b ≡ false → fixed_by i b d meta attrs ≡ attrs
unlabelled i b d meta attrs e = subst (λ (x : Bool). fixed_by i x d meta attrs ≡ attrs) (sym e) refl

-- a grant keeps the invariants: its verdict and its digest are those in force
granted_fresh : (i : Inode) (p q : List Event) (check : Check) (digest : Digest) (x : Digests)
    → in_force i q ≡ Some x → DigestsIs i q (Some x)
    → modified_since x.begin q ≡ modified_since x.begin p
    → (modified_since x.begin p ≡ false → digest ≡ fresh_digest i p)
    → ((k : Key) → FreshUnless i k p (modified_since x.begin p) (verdict_in_force i k p))
    → ((k : Key) → verdict_in_force i k q
    ≡ cond (same_key k (key_of check))
    (option_or (verdict_for i check digest p) (verdict_in_force i k p))
    (verdict_in_force i k p))
    → ((need : Need) (algos : Option AlgoSet)
    → fresh_verdict i need algos q ≡ fresh_verdict i need algos p)
    → CollectionIs i q (collecting i q) → present q ≡ true → Fresh i q
granted_fresh i p q check digest x f fi w d h v n c there = record {
  collection_is = c;
  digests_is = subst (λ (o : Option Digests). DigestsIs i q o) (sym f) fi;
  verdict_is =
      λ k. subst (λ (o : Option Digests). VerdictIs i k q (verdict_in_force i k q) o) (sym f)
      (subst (λ (o : Option Verdict). FreshUnless i k q (modified_since x.begin q) o) (sym (v k))
      (fresh_unless i k p q (modified_since x.begin p) (modified_since x.begin q) w n _
      (given_fresh i p k check digest (modified_since x.begin p) d h)));
  absent = λ a. cc;
}

-- a take's grant keeps the invariants, whether or not it mends
take_granted : (i : Inode) (p : List Event) (who : Who) (g : ℕ) (grant : Grant) (b : Bool)
    → grant.labelled ≡ b
    → Follows i p who (deed.Take g) (told.Grant grant) → Lives i p → Fresh i p
    → Fresh i (event who (deed.Take g) (told.Grant grant) ∷ p)
take_granted i p who g grant true e h v fr =
    let q : List Event = event who (deed.Take g) (told.Grant grant) ∷ p in
    void_fresh i (event who (deed.Take g) (told.Grant grant) ∷ p) (cond-true grant.labelled _ _ e)
    (λ k. cond-true grant.labelled _ _ e)
    (subst (λ (o : Option Collection). CollectionIs i
    (event who (deed.Take g) (told.Grant grant) ∷ p) o) (sym (free_at (collecting i p) _ _ h.2))
    tt)
take_granted i p who g grant false e h v fr =
    let made : (x : Digests)
    × ((in_force i p ≡ Some x)
    × (grant_of i g (placed_in (told.Grant grant)) x.digest p ≡ grant)) =
    take_grants i p g (placed_in (told.Grant grant)) grant (collecting i p) (in_force i p) h.2 in
    at made.0 made.1.0 made.1.1 where
      at : (x : Digests) → in_force i p ≡ Some x
          → grant_of i g (placed_in (told.Grant grant)) x.digest p ≡ grant
          → Fresh i (event who (deed.Take g) (told.Grant grant) ∷ p)
      at x f made =
          let attrs : fixed_by i grant.labelled
          (option_map (λ (y : Digests). y.digest) (in_force i p)) (metadata p)
          (attributes i p) ≡ attributes i p = unlabelled i grant.labelled _ _ _ e in
          let still : LeavesContent i p (event who (deed.Take g) (told.Grant grant) ∷ p) =
          record {
            longer = refl;
            since = λ place. refl;
            writers = omega arith;
            content =
                refl;
            label = ap label_in attrs;
          } in
          let fi : DigestsIs i p (Some x) =
          subst (λ (o : Option Digests). DigestsIs i p o) f fr.digests_is in
          granted_fresh i p (event who (deed.Take g) (told.Grant grant) ∷ p)
          (last_check g p) x.digest x (cond-false grant.labelled _ _ e ∙ f)
          (digests_still i p (event who (deed.Take g) (told.Grant grant) ∷ p) still (Some x) fi)
          refl (λ w. (fi.2 w).0)
          (λ k. subst (λ (o : Option Digests). VerdictIs i k p (verdict_in_force i k p) o) f
          (fr.verdict_is k))
          (λ k. cond-false grant.labelled _ _ e
          ∙ ap (λ (y : Grant). verdict_kept k g y.verdict p (verdict_in_force i k p))
          (sym made))
          (verdict_new i p (event who (deed.Take g) (told.Grant grant) ∷ p) attrs refl refl refl)
          (subst (λ (o : Option Collection). CollectionIs i
          (event who (deed.Take g) (told.Grant grant) ∷ p) o)
          (sym (free_at (collecting i p) _ _ h.2)) tt)
          (v g (ap is_gone h.1)).1

-- the stage of a collection that has its last piece
pub stage_ends : (a b k : Bool) → collecting_stage a b ≡ collecting_stage k true → (a ≡ k)
    × (b ≡ true)
stage_ends false true false e = (refl, refl)
stage_ends true true true e = (refl, refl)
stage_ends false false false e = cc
stage_ends false false true e = cc
stage_ends true false false e = cc
stage_ends true false true e = cc
stage_ends false true true e = cc
stage_ends true true false e = cc

-- the collection of a file that is due to finish is complete
pub finished : (i : Inode) (p : List Event) (g : ℕ) (k : Bool)
    → stage i g p ≡ collecting_stage k true → Stages i p
    → (c : Collection) → collecting i p ≡ Some c → (c.file ≡ g) × (c.closing ≡ k)
    × (c.complete ≡ true)
finished i p g k l s c e =
    let b : Busy i p (Some c) = subst (λ (o : Option Collection). Busy i p o) e s.0 in
    let t : StageIs i p (Some c) = subst (λ (o : Option Collection). StageIs i p o) e s.1 in
    let mine : c.file ≡ g = b g (ap is_collecting l ∙ stage_busy k true) in
    let ends : (c.closing ≡ k) × (c.complete ≡ true) = stage_ends c.closing c.complete k
    (sym t.0 ∙ ap (λ (x : ℕ). stage i x p) mine ∙ l) in
    (mine, ends.0, ends.1)

-- a complete collection gives the fresh digest, if nothing was written since it began
pub collected_fresh : (i : Inode) (p : List Event) (c : Collection) → CollectionIs i p (Some c)
    → c.complete ≡ true
    → modified_since c.begin p ≡ false → c.closing ≡ false → digest_from c ≡ fresh_digest i p
collected_fresh i p c h m w k =
    ap (λ (x : List ℕ). digest_of c.algo x) ((h.2 w).1 m)
    ∙ ap (λ (x : Algo). digest_of x (content p))
    (h.3 ∙ cond-false c.closing i.settings.hash (chosen_algo i p) k)

-- a finish's grant keeps the invariants, whether or not it mends
finish_granted : (i : Inode) (p : List Event) (who : Who) (g : ℕ) (grant : Grant) (b : Bool)
    → grant.labelled ≡ b
    → Follows i p who (deed.Finish g) (told.Grant grant) → Lives i p → Stages i p → Fresh i p
    → Fresh i (event who (deed.Finish g) (told.Grant grant) ∷ p)
finish_granted i p who g grant true e h v s fr =
    void_fresh i (event who (deed.Finish g) (told.Grant grant) ∷ p) (cond-true grant.labelled _ _ e)
    (λ k. cond-true grant.labelled _ _ e) tt
finish_granted i p who g grant false e h v s fr =
    let made : (c : Collection)
    × ((collecting i p ≡ Some c)
    × (grant_of i g (placed_in (told.Grant grant)) (digest_from c) p ≡ grant)) =
    finish_grants i p g (placed_in (told.Grant grant)) grant (collecting i p) h.2 in
    at made.0 made.1.0 made.1.1 where
      at : (c : Collection) → collecting i p ≡ Some c → grant_of i g (placed_in (told.Grant grant))
          (digest_from c) p ≡ grant → Fresh i (event who (deed.Finish g) (told.Grant grant) ∷ p)
      at c f made =
          let ends : (c.file ≡ g) × (c.closing ≡ false) × (c.complete ≡ true) =
          finished i p g false h.1 s c f in
          let ci : CollectionIs i p (Some c) =
          subst (λ (o : Option Collection). CollectionIs i p o) f fr.collection_is in
          let none : in_force i p ≡ None = ci.4 ends.1 in
          let attrs : fixed_by i grant.labelled (option_map digest_from (collecting i p))
          (metadata p) (attributes i p) ≡ attributes i p =
          unlabelled i grant.labelled _ _ _ e in
          let digest : modified_since c.begin p ≡ false → digest_from c ≡ fresh_digest i p =
          λ w. collected_fresh i p c ci ends.2 w ends.1 in
          granted_fresh i p (event who (deed.Finish g) (told.Grant grant) ∷ p) (last_check g p)
          (digest_from c) (digests_of c)
          (cond-false grant.labelled _ _ e ∙ ap (option_map digests_of) f) (
            omega (arith, ci.0),
            (λ w. let a : cond c.closing 1 0 < writers p = ci.1 w in omega arith),
            (λ w. (
              digest w
                  ∙ sym (digest_same i p (event who (deed.Finish g) (told.Grant grant) ∷ p) refl
                  (ap label_in attrs)),
              ap (digest_of Sha1) ((ci.2 w).1 ends.2),
            )),
          )
          refl digest
          (λ k. subst (λ (o : Option Verdict). FreshUnless i k p (modified_since c.begin p) o)
          (sym (subst (λ (o : Option Digests). VerdictIs i k p (verdict_in_force i k p) o) none
          (fr.verdict_is k))) tt)
          (λ k. cond-false grant.labelled _ _ e
          ∙ ap (λ (y : Grant). verdict_kept k g y.verdict p (verdict_in_force i k p))
          (sym made))
          (verdict_new i p (event who (deed.Finish g) (told.Grant grant) ∷ p) attrs refl refl refl)
          tt
          (v g (ap is_gone h.1)).1

-- ---- drops of writers

-- "or" groups either way
or_assoc : (a b c : Bool) → ((a || b) || c) ≡ (a || (b || c))
or_assoc true b c = refl
or_assoc false b c = refl

-- a writer that isn't the last leaves another
not_last : (n : ℕ) (b : Bool) → ((n == 1) && b) ≡ false → b ≡ true → 0 < n → 1 < n
not_last n b e t h = at (n == 1) refl e where
  at : (x : Bool) → (n == 1) ≡ x → (x && b) ≡ false → 1 < n
  at true q f = cc
  at false q f = let ne : n ≡ 1 → ⊥ = eqb-false n 1 q in omega arith

-- a drop that voids nothing leaves the digests
digests_dropped : (i : Inode) (p q : List Event) → length q ≡ suc (length p)
    → ((place : ℕ) → modified_since place q ≡ modified_since place p)
    → writers q + 1 ≡ writers p → content q ≡ content p → label i q ≡ label i p
    → (o : Option Digests) → ((writers p == 1) && (new p || not (versions p) || is_stale o p))
    ≡ false → DigestsIs i p o → DigestsIs i q o
digests_dropped i p q longer since w c l None v h = tt
digests_dropped i p q longer since w c l (Some f) v h = (
  omega (arith, h.0, longer),
  (λ u. let stale : modified_since f.begin p ≡ true = sym (since f.begin) ∙ u in
      let many : 1 < writers p = not_last (writers p) _ v (or_right _ _ stale) (h.1 stale) in
      omega arith),
  (λ u. let a : (f.digest ≡ fresh_digest i p) × (f.sha1 ≡ digest_of Sha1 (content p)) =
      h.2 (sym (since f.begin) ∙ u) in
      (a.0 ∙ sym (digest_same i p q c l), a.1 ∙ sym (ap (digest_of Sha1) c))),
)

-- a drop that voids nothing leaves newness
new_dropped : (n : ℕ) (new rest : Bool) → ((n == 1) && (new || rest)) ≡ false
    → cond (n == 1) false new ≡ new
new_dropped n new rest e = at (n == 1) e where
  at : (x : Bool) → (x && (new || rest)) ≡ false → cond x false new ≡ new
  at true f = sym (or_parts new rest f).0
  at false f = refl

-- a drop that voids nothing leaves the verdicts
verdict_dropped : (i : Inode) (k : Key) (p q : List Event)
    → ((place : ℕ) → modified_since place q ≡ modified_since place p)
    → ((need : Need) (algos : Option AlgoSet)
    → fresh_verdict i need algos q ≡ fresh_verdict i need algos p)
    → (v : Option Verdict) (o : Option Digests) → VerdictIs i k p v o → VerdictIs i k q v o
verdict_dropped i k p q since f v None h = h
verdict_dropped i k p q since f v (Some x) h = fresh_unless i k p q _ _ (since x.begin) f v h

-- the event drops a writer
record Drops (i : Inode) (p q : List Event) : Type 0 where
  longer : length q ≡ suc (length p)
  since : (place : ℕ) → modified_since place q ≡ modified_since place p
  writers_is : writers q + 1 ≡ writers p
  content_is : content q ≡ content p
  attributes_is : attributes i q ≡ attributes i p
  metadata_is : metadata q ≡ metadata p
  new_is : new q ≡ cond (writers p == 1) false (new p)
  digests_is : in_force i q ≡ cond
      ((writers p == 1) && (new p || not (versions p) || is_stale (in_force i p) p)) None
      (in_force i p)
  verdict_is : (k : Key) → verdict_in_force i k q
      ≡ cond ((writers p == 1) && (new p || not (versions p) || is_stale (in_force i p) p)) None
      (verdict_in_force i k p)
  collecting_is : collecting i q ≡ None
  present_is : present q ≡ present p

-- a drop keeps the invariants
dropped_fresh : (i : Inode) (p q : List Event) → Drops i p q → Fresh i p → Fresh i q
dropped_fresh i p q d h =
    at ((writers p == 1) && (new p || not (versions p) || is_stale (in_force i p) p)) refl where
      nothing : CollectionIs i q (collecting i q)
      nothing = subst (λ (o : Option Collection). CollectionIs i q o) (sym d.collecting_is) tt

      at : (b : Bool)
          → ((writers p == 1) && (new p || not (versions p) || is_stale (in_force i p) p))
          ≡ b → Fresh i q
      at true e = void_fresh i q (d.digests_is ∙ cond-true _ _ _ e)
          (λ k. d.verdict_is k ∙ cond-true _ _ _ e) nothing
      at false e =
          let f : in_force i q ≡ in_force i p = d.digests_is ∙ cond-false _ None (in_force i p) e in
          let n : new q ≡ new p = d.new_is
          ∙ new_dropped (writers p) (new p) (not (versions p) || is_stale (in_force i p) p)
          (sym (ap (λ (x : Bool). (writers p == 1) && x) (or_assoc (new p) _ _)) ∙ e) in
          record {
            collection_is = nothing;
            digests_is = subst (λ (o : Option Digests). DigestsIs i q o) (sym f)
                (digests_dropped i p q d.longer d.since d.writers_is d.content_is
                (ap label_in d.attributes_is) (in_force i p) e h.digests_is);
            verdict_is =
                λ k. subst (λ (o : Option Digests). VerdictIs i k q (verdict_in_force i k q) o)
                (sym f)
                (subst (λ (v : Option Verdict). VerdictIs i k q v (in_force i p))
                (sym (d.verdict_is k ∙ cond-false _ None (verdict_in_force i k p) e))
                (verdict_dropped i k p q d.since
                (verdict_new i p q d.attributes_is d.metadata_is d.content_is n)
                (verdict_in_force i k p) (in_force i p) (h.verdict_is k)));
            absent = λ a. f ∙ h.absent (sym d.present_is ∙ a);
          }

-- a drop subtracts one writer
dropped_one : (g : ℕ) (p : List Event) → is_writing g p ≡ true
    → tally is_writer (less_file g (files p)) + 1 ≡ writers p
dropped_one g p w = rw w at (tally-less is_writer g (files p))

-- the file of a close's finish is open for writing
pub closing_writer : (i : Inode) (p : List Event) (g : ℕ) → stage i g p ≡ CloseCollected
    → Stages i p → is_writing g p ≡ true
closing_writer i p g l s = at (collecting i p) refl where
  at : (o : Option Collection) → collecting i p ≡ o → is_writing g p ≡ true
  at None e =
      let b : Busy i p None = subst (λ (x : Option Collection). Busy i p x) e s.0 in
      absurd (b g (ap is_collecting l))
  at (Some c) e =
      let t : StageIs i p (Some c) = subst (λ (x : Option Collection). StageIs i p x) e s.1 in
      let ends : (c.file ≡ g) × (c.closing ≡ true) × (c.complete ≡ true) =
      finished i p g true l s c e in
      sym (ap (λ (x : ℕ). is_writing x p) ends.0) ∙ t.1 ends.1

-- ---- other kinds

-- a count of a file that exists leaves newness
new_held : (new there : Bool) → there ≡ true → (new || not there) ≡ new
new_held new there e = rw e (or_none new)

-- if no verdict is in force, the invariant requires nothing
none_is : (i : Inode) (k : Key) (q : List Event) (o : Option Digests) → VerdictIs i k q None o
none_is i k q None = refl
none_is i k q (Some f) = tt

-- if no collection is open, the invariant requires nothing
nothing_open : (i : Inode) (q : List Event) (o : Option Collection) → o ≡ None → CollectionIs i q o
nothing_open i q o e = subst (λ (x : Option Collection). CollectionIs i q x) (sym e) tt

-- a birth establishes the invariants
born : (i : Inode) (who : Who) (image : Image) (p : List Event) → p ≡ []
    → Fresh i (event who deed.Birth (told.Image image) ∷ p)
born i who image p e =
    subst (λ (x : List Event). Fresh i (event who deed.Birth (told.Image image) ∷ x)) (sym e)
    (record { collection_is = tt; digests_is = tt; verdict_is = λ k. refl; absent = λ a. refl })

-- ---- all events

-- each event keeps the invariants
step : (i : Inode) (p : List Event) (who : Who) (d : Deed) (t : Told) → Follows i p who d t
    → Lives i p → Stages i p → Fresh i p → Fresh i (event who d t ∷ p)
step i p who deed.Birth (told.Image image) h v s fr = born i who image p h.0
step i p who (deed.Count how) told.Held h v s fr =
    kept_fresh i p (event who (deed.Count how) told.Held ∷ p)
    (record {
      still = record {
        longer = refl;
        since = λ place. refl;
        writers = omega arith;
        content =
            refl;
        label = refl;
      };
      fresh = λ there. verdict_new i p (event who (deed.Count how) told.Held ∷ p) refl refl refl
          (new_held (new p) (present p) there);
      digests = refl;
      verdict = λ k. refl;
      present = λ a. cc;
    }) refl fr
step i p who (deed.Take g) told.Begun h v s fr =
    let none : in_force i p ≡ None = take_begins i p g (placed_in told.Begun) (collecting i p)
    (in_force i p) h.2 in
    leaves_fresh i p (event who (deed.Take g) told.Begun ∷ p)
    (record {
      still = record {
        longer = refl;
        since = λ place. refl;
        writers = omega arith;
        content =
            refl;
        label = refl;
      };
      fresh = λ there need algos. refl;
      digests = refl;
      verdict = λ k. refl;
      present = λ a. a;
    }) (
      omega arith,
      (λ w. let u : modified_since (length p) p ≡ false = unmodified (length p) p (omega arith) in
          cc),
      (λ w. (refl, (λ m. cc))),
      refl,
      (λ k. none),
    ) fr
step i p who (deed.Take g) (told.Grant grant) h v s fr =
    take_granted i p who g grant grant.labelled refl h v fr
step i p who (deed.Chunk g) told.More h v s fr =
    leaves_fresh i p (event who (deed.Chunk g) told.More ∷ p)
    (record {
      still = record {
        longer = refl;
        since = λ place. refl;
        writers = omega arith;
        content =
            refl;
        label = refl;
      };
      fresh = λ there need algos. refl;
      digests = refl;
      verdict = λ k. refl;
      present = λ a. a;
    })
    (piece_taken i p (event who (deed.Chunk g) told.More ∷ p) false
    (record {
      longer = refl;
      since = λ place. refl;
      writers = omega arith;
      content = refl;
      label =
          refl;
    }) (λ n. n) (collecting i p) (λ m. cc) fr.collection_is) fr
step i p who (deed.Chunk g) told.Last h v s fr =
    leaves_fresh i p (event who (deed.Chunk g) told.Last ∷ p)
    (record {
      still = record {
        longer = refl;
        since = λ place. refl;
        writers = omega arith;
        content =
            refl;
        label = refl;
      };
      fresh = λ there need algos. refl;
      digests = refl;
      verdict = λ k. refl;
      present = λ a. a;
    })
    (piece_taken i p (event who (deed.Chunk g) told.Last ∷ p) true
    (record {
      longer = refl;
      since = λ place. refl;
      writers = omega arith;
      content = refl;
      label =
          refl;
    }) (λ n. n) (collecting i p)
    (λ m c e. last_told (content p) (collecting i p) h.2 c e) fr.collection_is) fr
step i p who (deed.Finish g) (told.Grant grant) h v s fr =
    finish_granted i p who g grant grant.labelled refl h v s fr
step i p who (deed.Write g from bytes) told.Done h v s fr =
    write_fresh i p (event who (deed.Write g from bytes) told.Done ∷ p) g
    (record {
      longer = refl;
      since = λ place below. or_left _ _ (le-leb place (length p) below);
      writers = refl;
      label = refl;
      digests = refl;
      collecting = refl;
      verdict = λ k. refl;
      present = refl;
    }) h.1.0 h.1.1 s.1 fr
step i p who (deed.Trunc g len) told.Done h v s fr =
    write_fresh i p (event who (deed.Trunc g len) told.Done ∷ p) g
    (record {
      longer = refl;
      since = λ place below. or_left _ _ (le-leb place (length p) below);
      writers = refl;
      label = refl;
      digests = refl;
      collecting = refl;
      verdict = λ k. refl;
      present = refl;
    }) h.1.0 h.1.1 s.1 fr
step i p who (deed.SetAttr name bytes admin) told.Done h v s fr =
    void_fresh i (event who (deed.SetAttr name bytes admin) told.Done ∷ p) refl (λ k. refl)
    (nothing_open i (event who (deed.SetAttr name bytes admin) told.Done ∷ p) (collecting i p)
    (free_at (collecting i p) _ _ h.2))
step i p who (deed.SetMeta change) told.Done h v s fr = record {
  collection_is = nothing_open i (event who (deed.SetMeta change) told.Done ∷ p) (collecting i p)
      (free_at (collecting i p) _ _ h.2);
  digests_is = digests_still i p (event who (deed.SetMeta change) told.Done ∷ p)
      (record {
        longer = refl;
        since = λ place. refl;
        writers = omega arith;
        content = refl;
        label =
            label-renewed i.settings.evm (attributes i p) _;
      })
      (in_force i p) fr.digests_is;
  verdict_is = λ k. none_is i k (event who (deed.SetMeta change) told.Done ∷ p) (in_force i p);
  absent = λ a. fr.absent a;
}
step i p who (deed.Close g) told.Dropped h v s fr =
    kept_fresh i p (event who (deed.Close g) told.Dropped ∷ p)
    (record {
      still =
          record {
            longer = refl;
            since = λ place. refl;
            writers =
                omega (arith, rw h.1.1 at (tally-less is_writer g (files p)));
            content =
                refl;
            label = refl;
          };
      fresh = λ there need algos. refl;
      digests = refl;
      verdict = λ k. refl;
      present = λ a. a;
    }) refl fr
step i p who (deed.CloseTake g) told.Begun h v s fr =
    leaves_fresh i p (event who (deed.CloseTake g) told.Begun ∷ p)
    (record {
      still = record {
        longer = refl;
        since = λ place. refl;
        writers = omega arith;
        content =
            refl;
        label = refl;
      };
      fresh = λ there need algos. refl;
      digests = refl;
      verdict = λ k. refl;
      present = λ a. a;
    }) (
      omega arith,
      (λ w. let u : modified_since (length p) p ≡ false = unmodified (length p) p (omega arith) in
          cc),
      (λ w. (refl, (λ m. cc))),
      refl,
      (λ k. cc),
    ) fr
step i p who (deed.CloseTake g) told.Dropped h v s fr =
    dropped_fresh i p (event who (deed.CloseTake g) told.Dropped ∷ p)
    (record {
      longer = refl;
      since = λ place. refl;
      writers_is = dropped_one g p h.1.1;
      content_is = refl;
      attributes_is = refl;
      metadata_is = refl;
      new_is = refl;
      digests_is = refl;
      verdict_is = λ k. refl;
      collecting_is = free_at (collecting i p) _ _ h.2;
      present_is = refl;
    }) fr
step i p who (deed.CloseChunk g) told.More h v s fr =
    leaves_fresh i p (event who (deed.CloseChunk g) told.More ∷ p)
    (record {
      still = record {
        longer = refl;
        since = λ place. refl;
        writers = omega arith;
        content =
            refl;
        label = refl;
      };
      fresh = λ there need algos. refl;
      digests = refl;
      verdict = λ k. refl;
      present = λ a. a;
    })
    (piece_taken i p (event who (deed.CloseChunk g) told.More ∷ p) false
    (record {
      longer = refl;
      since = λ place. refl;
      writers = omega arith;
      content = refl;
      label =
          refl;
    }) (λ n. n) (collecting i p) (λ m. cc) fr.collection_is) fr
step i p who (deed.CloseChunk g) told.Last h v s fr =
    leaves_fresh i p (event who (deed.CloseChunk g) told.Last ∷ p)
    (record {
      still = record {
        longer = refl;
        since = λ place. refl;
        writers = omega arith;
        content =
            refl;
        label = refl;
      };
      fresh = λ there need algos. refl;
      digests = refl;
      verdict = λ k. refl;
      present = λ a. a;
    })
    (piece_taken i p (event who (deed.CloseChunk g) told.Last ∷ p) true
    (record {
      longer = refl;
      since = λ place. refl;
      writers = omega arith;
      content = refl;
      label =
          refl;
    }) (λ n. n) (collecting i p)
    (λ m c e. last_told (content p) (collecting i p) h.2 c e) fr.collection_is) fr
step i p who (deed.CloseFinish g) told.Dropped h v s fr =
    dropped_fresh i p (event who (deed.CloseFinish g) told.Dropped ∷ p)
    (record {
      longer = refl;
      since = λ place. refl;
      writers_is = dropped_one g p (closing_writer i p g h.1 s);
      content_is = refl;
      attributes_is = refl;
      metadata_is = refl;
      new_is = refl;
      digests_is = refl;
      verdict_is = λ k. refl;
      collecting_is = refl;
      present_is = refl;
    }) fr
step i p who (deed.CloseFinish g) told.LabelledDropped h v s fr =
    void_fresh i (event who (deed.CloseFinish g) told.LabelledDropped ∷ p) refl (λ k. refl) tt
step i p who d t h v s fr = kept_fresh i p (event who d t ∷ p)
    (record {
      still = record {
        longer = refl;
        since = λ place. refl;
        writers = omega arith;
        content =
            refl;
        label = refl;
      };
      fresh = λ there need algos. refl;
      digests = refl;
      verdict = λ k. refl;
      present = λ a. a;
    }) refl fr

-- the invariants hold for every journal
pub freshness_lem : (i : Inode) (p : List Event) → EachFollows i p → Fresh i p
freshness_lem i [] h =
    record { collection_is = tt; digests_is = tt; verdict_is = λ k. refl; absent = λ a. refl }
freshness_lem i (e ∷ before) h = step i before e.who e.deed e.told h.0 (lives i before h.1)
    (stages i before h.1) (freshness_lem i before h.1)

-- Freshness: while nothing was written since it began, a collection has taken the present content,
-- and digest and verdicts in force equal those computed afresh. If something was written, a writer
-- is still there.
use Rattle.std.proofs.Common.{◌≡◌, ℕ, ◌+◌, ◌*◌, ◌<◌, ◌≤◌, suc, Bool, true, false, cond, List, [], ◌∷◌, ◌++◌, length, take, drop, Option, Some, None, refl, sym, ◌∙◌, ap, subst, arith}
use Rattle.std.specs.Prelude.{◌==◌}
use Rattle.std.specs.Option.{option_or}
use Rattle.std.specs.Prelude.{unwrap_or}
use Rattle.std.proofs.Math.Seq.{take-add}
use Rattle.std.proofs.lemmas.List.{take_all}
use Rattle.std.proofs.lemmas.Bool.{and_right, or_from, eqb-true, lt-leb, leb-true}
use Rattle.hash_algos.specs.Digest.{digest_of}
use Rattle.hash_algos.specs.declared.algo.Algo.TheVariants.{Sha1}
use Rattle.hash_algos.specs.declared.algo_set.AlgoSet.{AlgoSet}
use Rattle.hash_algos.specs.declared.digest.Digest.{Digest}
use Rattle.ima_templates.specs.declared.entry.Placed.{Placed}
use Rattle.inode_meta.specs.declared.appraisal.Need.{Need}
use Rattle.label_values.specs.Labels.{collect_algo}
use Rattle.label_values.specs.declared.verdict.Verdict.{Verdict}
use Rattle.inode_events.specs.Checks.{Check, appraises}
use Rattle.inode_events.specs.pages.Content.{is_last_piece, piece_at}
use Rattle.inode_events.specs.Files.{files, is_writer, is_writing, writers}
use Rattle.inode_events.specs.Grants.{grant_of, verdict_for}
use Rattle.inode_events.specs.Inode.{Inode}
use Rattle.inode_events.specs.Integrity.{Collection, Digests, chosen_algo, collected_more, collecting, digest_from, in_force, label}
use Rattle.inode_events.specs.Stage.{Settled, is_collecting}
use Rattle.inode_events.specs.Stage.{stage}
use Rattle.inode_events.specs.Says.{chunk_told, finish_told, take_told, unless_collecting}
use Rattle.inode_events.specs.State.{content, present, modified_since}
use Rattle.inode_events.specs.Verdicts.{Key, fresh_digest, fresh_verdict, judged, key_of, same_key, verdict_in_force}
use Rattle.inode_events.specs.declared.told.Event.{Event}
use Rattle.inode_events.specs.declared.told.Grant.{Grant}
use Rattle.inode_events.specs.declared.told.Told.TheVariants as told
use Rattle.journal_laws.specs.Laws.{AreVerdictsFresh, IsDigestFresh}
use Rattle.journal_laws.proofs.Keys.{same_key-true}
use Rattle.journal_laws.proofs.Stages.{StageIs, stage_busy}
use Rattle.journal_laws.proofs.Tallies.{tally_held, tally_two}

-- ---- invariants of each part

-- the invariant of the open collection: its bytes, its pieces, its algorithm
abbrev pub CollectionIs : Inode → List Event → Option Collection → Type 0
CollectionIs i p None = Unit {0}
CollectionIs i p (Some c) =
    (c.begin < length p)
    × (modified_since c.begin p ≡ true → cond c.closing 1 0 < writers p)
    × (modified_since c.begin p ≡ false → (c.bytes ≡ take (4096 * c.pieces) (content p))
    × (c.complete ≡ true → c.bytes ≡ content p))
    × (c.algo ≡ cond c.closing i.settings.hash (chosen_algo i p))
    × (c.closing ≡ false → in_force i p ≡ None)

-- the invariant of the digests in force
abbrev pub DigestsIs : Inode → List Event → Option Digests → Type 0
DigestsIs i p None = Unit {0}
DigestsIs i p (Some f) =
    (f.begin < length p)
    × (modified_since f.begin p ≡ true → 0 < writers p)
    × (modified_since f.begin p ≡ false → (f.digest ≡ fresh_digest i p)
    × (f.sha1 ≡ digest_of Sha1 (content p)))

-- the verdict is the one computed afresh, unless the test holds
abbrev pub FreshUnless : Inode → Key → List Event → Bool → Option Verdict → Type 0
FreshUnless i k p stale None = Unit {0}
FreshUnless i k p stale (Some v) = stale ≡ false → v ≡ fresh_verdict i k.need k.algos p

-- the invariant of a verdict in force
abbrev pub VerdictIs : Inode → Key → List Event → Option Verdict → Option Digests → Type 0
VerdictIs i k p v None = v ≡ None
VerdictIs i k p v (Some f) = FreshUnless i k p (modified_since f.begin p) v

-- the invariants of collection, digests and verdicts together
pub record Fresh (i : Inode) (p : List Event) : Type 0 where
  pub collection_is : CollectionIs i p (collecting i p)
  pub digests_is : DigestsIs i p (in_force i p)
  pub verdict_is : (k : Key) → VerdictIs i k p (verdict_in_force i k p) (in_force i p)
  pub absent : present p ≡ false → in_force i p ≡ None

-- ---- events that leave these parts

-- the event leaves content, label and writes as they are
pub record LeavesContent (i : Inode) (p q : List Event) : Type 0 where
  pub longer : length q ≡ suc (length p)
  pub since : (place : ℕ) → modified_since place q ≡ modified_since place p
  pub writers : writers p ≤ writers q
  pub content : content q ≡ content p
  pub label : label i q ≡ label i p

-- the digest computed afresh is the same if content and label are
pub digest_same : (i : Inode) (p q : List Event) → content q ≡ content p → label i q ≡ label i p
    → fresh_digest i q ≡ fresh_digest i p
digest_same i p q c l =
    ap (λ (x : List ℕ). digest_of (chosen_algo i q) x) c
    ∙ ap (λ (x : Option (List ℕ)). digest_of (collect_algo x i.settings.hash) (content p)) l

-- a still event keeps the invariant of the open collection
pub collection_still : (i : Inode) (p q : List Event) → LeavesContent i p q
    → (in_force i p ≡ None → in_force i q ≡ None)
    → (o : Option Collection) → CollectionIs i p o → CollectionIs i q o
collection_still i p q still alone None h = tt
collection_still i p q still alone (Some c) h = (
  omega (arith, h.0, still.longer),
  (λ w. let a : cond c.closing 1 0 < writers p = h.1 (sym (still.since c.begin) ∙ w) in
      omega (arith, a, still.writers)),
  (λ w. let a : (c.bytes ≡ take (4096 * c.pieces) (content p))
      × (c.complete ≡ true → c.bytes ≡ content p) = h.2 (sym (still.since c.begin) ∙ w) in (
        a.0 ∙ sym (ap (λ (x : List ℕ). take (4096 * c.pieces) x) still.content),
        (λ m. a.1 m ∙ sym still.content),
      )),
  h.3 ∙ ap
      (λ (x : Option (List ℕ)). cond c.closing i.settings.hash (collect_algo x i.settings.hash))
      (sym still.label),
  (λ k. alone (h.4 k)),
)

-- a still event keeps the invariant of the digests in force
pub digests_still : (i : Inode) (p q : List Event) → LeavesContent i p q → (o : Option Digests)
    → DigestsIs i p o → DigestsIs i q o
digests_still i p q still None h = tt
digests_still i p q still (Some f) h = (
  omega (arith, h.0, still.longer),
  (λ w. let a : 0 < writers p = h.1 (sym (still.since f.begin) ∙ w) in
      omega (arith, a, still.writers)),
  (λ w. let a : (f.digest ≡ fresh_digest i p) × (f.sha1 ≡ digest_of Sha1 (content p)) =
      h.2 (sym (still.since f.begin) ∙ w) in (
        a.0 ∙ sym (digest_same i p q still.content still.label),
        a.1
            ∙ sym (ap (digest_of Sha1) still.content),
      )),
)

-- a verdict stays fresh if computing it afresh gives the same
pub fresh_unless : (i : Inode) (k : Key) (p q : List Event) (s s' : Bool) → s' ≡ s
    → ((need : Need) (algos : Option AlgoSet)
    → fresh_verdict i need algos q ≡ fresh_verdict i need algos p)
    → (v : Option Verdict) → FreshUnless i k p s v → FreshUnless i k q s' v
fresh_unless i k p q s s' e f None h = tt
fresh_unless i k p q s s' e f (Some v) h = λ w. h (sym e ∙ w) ∙ sym (f k.need k.algos)

-- a still event keeps the invariant of verdicts, whatever is in force
pub verdict_still : (i : Inode) (k : Key) (p q : List Event) → LeavesContent i p q
    → (present p ≡ true → (need : Need) (algos : Option AlgoSet)
    → fresh_verdict i need algos q ≡ fresh_verdict i need algos p)
    → (v : Option Verdict) (o : Option Digests) → (present p ≡ false → o ≡ None)
    → VerdictIs i k p v o → VerdictIs i k q v o
verdict_still i k p q still f v None a h = h
verdict_still i k p q still f v (Some x) a h = at (present p) refl where
  at : (b : Bool) → present p ≡ b → FreshUnless i k q (modified_since x.begin q) v
  at true e = fresh_unless i k p q (modified_since x.begin p) (modified_since x.begin q)
      (still.since x.begin) (f e) v h
  at false e = let n : Some x ≡ None = a e in cc

-- ---- kinds of events

-- nothing was written at a place that the journal doesn't reach yet
pub unmodified : (place : ℕ) (p : List Event) → length p ≤ place → modified_since place p ≡ false
unmodified place [] h = refl
unmodified place (e ∷ before) h =
    or_from _ _ (and_right _ _ (lt-leb place (length before) (omega arith)))
    (unmodified place before (omega arith))

-- with the last piece, the collection has all of the content
pub last_told : (content : List ℕ) (o : Option Collection) → chunk_told content o ≡ Some told.Last
    → (c : Collection) → o ≡ Some c → length content ≤ 4096 * (c.pieces + 1)
last_told content None h c e = cc
last_told content (Some d) h c e = at (is_last_piece content d.pieces) refl h where
  at : (b : Bool) → is_last_piece content d.pieces ≡ b
      → Some (cond b told.Last told.More) ≡ Some told.Last → length content ≤ 4096 * (c.pieces + 1)
  at true q g =
      let s : d ≡ c = cc in
      leb-true (length content) (4096 * (c.pieces + 1))
      (sym (ap (λ (x : Collection). is_last_piece content x.pieces) s) ∙ q)
  at false q g = cc

-- pieces of n bytes join to a prefix of the content
pieces_join : (n k : ℕ) (xs bytes : List ℕ) → bytes ≡ take (n * k) xs
    → (bytes ++ take n (drop (n * k) xs)) ≡ take (n * (k + 1)) xs
pieces_join n k xs bytes e =
    let f : n * (k + 1) ≡ n * k + n = grind arith in
    ap (λ (x : List ℕ). x ++ take n (drop (n * k) xs)) e ∙ sym (take-add (n * k) n xs)
    ∙ ap (λ (m : ℕ). take m xs) (sym f)

-- taking the next piece keeps the invariant of the collection
pub piece_taken : (i : Inode) (p q : List Event) (complete : Bool) → LeavesContent i p q
    → (in_force i p ≡ None → in_force i q ≡ None)
    → (o : Option Collection)
    → (complete ≡ true → (c : Collection) → o ≡ Some c
    → length (content p) ≤ 4096 * (c.pieces + 1))
    → CollectionIs i p o → CollectionIs i q (collected_more (content p) complete o)
piece_taken i p q complete still alone None last h = tt
piece_taken i p q complete still alone (Some c) last h =
    let old : CollectionIs i q (Some c) = collection_still i p q still alone (Some c) h in
    (old.0, old.1, (λ w. at w (old.2 w)), old.3, old.4) where
      at : modified_since c.begin q ≡ false → (c.bytes ≡ take (4096 * c.pieces) (content q))
          × (c.complete ≡ true → c.bytes ≡ content q)
          → ((c.bytes ++ piece_at (content p) c.pieces) ≡ take (4096 * (c.pieces + 1)) (content q))
          × (complete ≡ true → (c.bytes ++ piece_at (content p) c.pieces) ≡ content q)
      at w a =
          let joined : (c.bytes ++ piece_at (content p) c.pieces) ≡ take (4096 * (c.pieces + 1))
          (content p) =
          pieces_join 4096 c.pieces (content p) c.bytes
          (a.0 ∙ ap (λ (x : List ℕ). take (4096 * c.pieces) x) still.content) in (
            joined ∙ sym (ap (λ (x : List ℕ). take (4096 * (c.pieces + 1)) x) still.content),
            (λ m. joined ∙ take_all (4096 * (c.pieces + 1)) (content p) (last m c refl)
                ∙ sym still.content),
          )

-- a write keeps the invariant of the collection, since its writer is held
pub collection_written : (i : Inode) (p q : List Event) (g : ℕ) → length q ≡ suc (length p)
    → ((place : ℕ) → place ≤ length p → modified_since place q ≡ true)
    → writers q ≡ writers p → label i q ≡ label i p → in_force i q ≡ in_force i p
    → stage i g p ≡ Settled → is_writing g p ≡ true
    → (o : Option Collection) → StageIs i p o → CollectionIs i p o → CollectionIs i q o
collection_written i p q g longer since w l fo settled writing None s h = tt
collection_written i p q g longer since w l fo settled writing (Some c) s h = (
  omega (arith, h.0, longer),
  (λ u. at c.closing refl (s.1)),
  (λ u. let v : modified_since c.begin q ≡ true = since c.begin (omega (arith, h.0)) in cc),
  h.3 ∙ ap
      (λ (x : Option (List ℕ)). cond c.closing i.settings.hash (collect_algo x i.settings.hash))
      (sym l),
  (λ k. fo ∙ h.4 k),
) where
  other : (x : Bool) → (g == c.file) ≡ x → x ≡ false
  other true e = let z : stage i c.file p ≡ Settled = subst (λ (n : ℕ). stage i n p ≡ Settled)
      (eqb-true g c.file e) settled in
      let b : is_collecting (stage i c.file p) ≡ true = ap is_collecting s.0
      ∙ stage_busy c.closing c.complete in cc (ap is_collecting z)
  other false e = refl

  at : (k : Bool) → c.closing ≡ k → (c.closing ≡ true → is_writing c.file p ≡ true)
      → cond k 1 0 < writers q
  at true e f = let two : 1 < writers p = tally_two is_writer g c.file (files p)
      (other (g == c.file) refl) writing (f e) in omega (arith, two, w)
  at false e f =
      let one : 0 < writers p = tally_held is_writer g (files p) writing in omega (arith, one, w)

-- a write keeps the invariant of the digests, since its writer is held
digests_written : (i : Inode) (p q : List Event) (g : ℕ) → length q ≡ suc (length p)
    → ((place : ℕ) → place ≤ length p → modified_since place q ≡ true)
    → writers q ≡ writers p → is_writing g p ≡ true → (o : Option Digests) → DigestsIs i p o
    → DigestsIs i q o
digests_written i p q g longer since w writing None h = tt
digests_written i p q g longer since w writing (Some f) h = (
  omega (arith, h.0, longer),
  (λ u. let one : 0 < writers p = tally_held is_writer g (files p) writing in
      omega (arith, one, w)),
  (λ u. let v : modified_since f.begin q ≡ true = since f.begin (omega (arith, h.0)) in cc),
)

-- the invariant requires nothing of a stale verdict
stale_unless : (i : Inode) (k : Key) (q : List Event) (s : Bool) → s ≡ true → (v : Option Verdict)
    → FreshUnless i k q s v
stale_unless i k q s e None = tt
stale_unless i k q s e (Some v) = λ w. cc

-- a write keeps the invariant of verdicts, since they become stale
verdict_written : (i : Inode) (k : Key) (p q : List Event)
    → ((place : ℕ) → place ≤ length p → modified_since place q ≡ true)
    → (v : Option Verdict) (o : Option Digests) → DigestsIs i p o → VerdictIs i k p v o
    → VerdictIs i k q v o
verdict_written i k p q since v None f h = h
verdict_written i k p q since v (Some x) f h =
    stale_unless i k q (modified_since x.begin q) (since x.begin (omega (arith, f.0))) v

-- the event writes through a held file
pub record Written (i : Inode) (p q : List Event) (g : ℕ) : Type 0 where
  pub longer : length q ≡ suc (length p)
  pub since : (place : ℕ) → place ≤ length p → modified_since place q ≡ true
  pub writers : writers q ≡ writers p
  pub label : label i q ≡ label i p
  pub digests : in_force i q ≡ in_force i p
  pub collecting : collecting i q ≡ collecting i p
  pub verdict : (k : Key) → verdict_in_force i k q ≡ verdict_in_force i k p
  pub present : present q ≡ present p

-- a write keeps all invariants
pub write_fresh : (i : Inode) (p q : List Event) (g : ℕ) → Written i p q g → stage i g p ≡ Settled
    → is_writing g p ≡ true
    → StageIs i p (collecting i p) → Fresh i p → Fresh i q
write_fresh i p q g w settled writing s h = record {
  collection_is = subst (λ (o : Option Collection). CollectionIs i q o) (sym w.collecting)
      (collection_written i p q g w.longer w.since w.writers w.label w.digests settled writing
      (collecting i p) s h.collection_is);
  digests_is = subst (λ (o : Option Digests). DigestsIs i q o) (sym w.digests)
      (digests_written i p q g w.longer w.since w.writers writing (in_force i p) h.digests_is);
  verdict_is = λ k. subst (λ (o : Option Digests). VerdictIs i k q (verdict_in_force i k q) o)
      (sym w.digests)
      (subst (λ (v : Option Verdict). VerdictIs i k q v (in_force i p)) (sym (w.verdict k))
      (verdict_written i k p q w.since (verdict_in_force i k p) (in_force i p) h.digests_is
      (h.verdict_is k)));
  absent = λ a. w.digests ∙ h.absent (sym w.present ∙ a);
}

-- the event leaves the digest and the verdicts in force
pub record Leaves (i : Inode) (p q : List Event) : Type 0 where
  pub still : LeavesContent i p q
  pub fresh : present p ≡ true → (need : Need) (algos : Option AlgoSet)
      → fresh_verdict i need algos q ≡ fresh_verdict i need algos p
  pub digests : in_force i q ≡ in_force i p
  pub verdict : (k : Key) → verdict_in_force i k q ≡ verdict_in_force i k p
  pub present : present q ≡ false → present p ≡ false

-- an event that leaves all but the collection keeps the invariants
pub leaves_fresh : (i : Inode) (p q : List Event) → Leaves i p q → CollectionIs i q (collecting i q)
    → Fresh i p → Fresh i q
leaves_fresh i p q w c h = record {
  collection_is = c;
  digests_is = subst (λ (o : Option Digests). DigestsIs i q o) (sym w.digests)
      (digests_still i p q w.still (in_force i p) h.digests_is);
  verdict_is = λ k. subst (λ (o : Option Digests). VerdictIs i k q (verdict_in_force i k q) o)
      (sym w.digests)
      (subst (λ (v : Option Verdict). VerdictIs i k q v (in_force i p)) (sym (w.verdict k))
      (verdict_still i k p q w.still w.fresh (verdict_in_force i k p) (in_force i p) h.absent
      (h.verdict_is k)));
  absent = λ a. w.digests ∙ h.absent (w.present a);
}

-- an event that leaves everything keeps the invariants
pub kept_fresh : (i : Inode) (p q : List Event) → Leaves i p q → collecting i q ≡ collecting i p
    → Fresh i p → Fresh i q
kept_fresh i p q w c h = leaves_fresh i p q w
    (subst (λ (o : Option Collection). CollectionIs i q o) (sym c)
    (collection_still i p q w.still (λ n. w.digests ∙ n) (collecting i p) h.collection_is)) h

-- an event that voids digests and verdicts keeps the invariants
pub void_fresh : (i : Inode) (q : List Event) → in_force i q ≡ None
    → ((k : Key) → verdict_in_force i k q ≡ None) → CollectionIs i q (collecting i q) → Fresh i q
void_fresh i q f v c = record {
  collection_is = c;
  digests_is = subst (λ (o : Option Digests). DigestsIs i q o) (sym f) tt;
  verdict_is =
      λ k. subst (λ (o : Option Digests). VerdictIs i k q (verdict_in_force i k q) o) (sym f) (v k);
  absent = λ a. f;
}

-- ---- collections that begin

-- a take begins a collection only if no digest is in force
pub take_begins : (i : Inode) (p : List Event) (g : ℕ) (placed : Placed) (o : Option Collection)
    (f : Option Digests)
    → unless_collecting o (take_told i g placed f p) ≡ Some told.Begun → f ≡ None
take_begins i p g placed None None e = refl
take_begins i p g placed None (Some f) e = cc
take_begins i p g placed (Some c) f e = cc

-- ---- grants

-- a take grants from the digests in force
pub take_grants : (i : Inode) (p : List Event) (g : ℕ) (placed : Placed) (grant : Grant)
    (o : Option Collection) (f : Option Digests)
    → unless_collecting o (take_told i g placed f p) ≡ Some (told.Grant grant) → (x : Digests)
    × ((f ≡ Some x) × (grant_of i g placed x.digest p ≡ grant))
take_grants i p g placed grant None None e = cc
take_grants i p g placed grant None (Some f) e = (f, (refl, cc))
take_grants i p g placed grant (Some c) f e = cc

-- a finish grants from the open collection
pub finish_grants : (i : Inode) (p : List Event) (g : ℕ) (placed : Placed) (grant : Grant)
    (o : Option Collection)
    → finish_told i g placed o p ≡ Some (told.Grant grant) → (c : Collection)
    × ((o ≡ Some c) × (grant_of i g placed (digest_from c) p ≡ grant))
finish_grants i p g placed grant None e = cc
finish_grants i p g placed grant (Some c) e = (c, (refl, cc))

-- a verdict that was in force, or was made from a fresh digest, is fresh
pub verdict_fresh : (i : Inode) (p : List Event) (k : Key) (digest : Digest) (stale : Bool)
    → (stale ≡ false → digest ≡ fresh_digest i p)
    → (v : Option Verdict) → FreshUnless i k p stale v → stale ≡ false
    → unwrap_or v (judged i k.need k.algos digest p) ≡ fresh_verdict i k.need k.algos p
verdict_fresh i p k digest stale d None h s = ap (λ (x : Digest). judged i k.need k.algos x p) (d s)
verdict_fresh i p k digest stale d (Some v) h s = h s

-- the verdict that a grant keeps under a key is fresh
pub given_fresh : (i : Inode) (p : List Event) (k : Key) (check : Check) (digest : Digest)
    (stale : Bool) → (stale ≡ false → digest ≡ fresh_digest i p)
    → ((k : Key) → FreshUnless i k p stale (verdict_in_force i k p))
    → FreshUnless i k p stale
    (cond (same_key k (key_of check))
    (option_or (verdict_for i check digest p) (verdict_in_force i k p))
    (verdict_in_force i k p))
given_fresh i p k check digest stale d h =
    at (same_key k (key_of check)) refl (appraises i check.action) where
      at : (b : Bool) → same_key k (key_of check) ≡ b → (a : Bool)
          → FreshUnless i k p stale (cond b (option_or
          (cond a
          (Some (unwrap_or (verdict_in_force i (key_of check) p)
          (judged i check.action.need check.action.algos digest p))) None)
          (verdict_in_force i k p)) (verdict_in_force i k p))
      at false e a = h k
      at true e false = h k
      at true e true = subst
          (λ (x : Key). FreshUnless i x p stale
          (Some (unwrap_or (verdict_in_force i (key_of check) p)
          (judged i check.action.need check.action.algos digest p))))
          (sym (same_key-true k (key_of check) e))
          (λ s. verdict_fresh i p (key_of check) digest stale d
          (verdict_in_force i (key_of check) p)
          (h (key_of check)) s)

-- ---- while no writer holds the inode

-- without a writer, nothing was written since the collection of the digests in force began
unwritten_now : (i : Inode) (p : List Event) (f : Digests) → DigestsIs i p (Some f) → writers p ≡ 0
    → modified_since f.begin p ≡ false
unwritten_now i p f h none = at (modified_since f.begin p) refl where
  at : (b : Bool) → modified_since f.begin p ≡ b → b ≡ false
  at true e = let some : 0 < writers p = h.1 e in absurd (omega arith)
  at false e = refl

-- without a writer, each verdict in force is the one computed afresh
verdict_now : (i : Inode) (p : List Event) (k : Key) (w : Verdict) (v : Option Verdict)
    (o : Option Digests) → DigestsIs i p o → writers p ≡ 0
    → VerdictIs i k p v o → v ≡ Some w → w ≡ fresh_verdict i k.need k.algos p
verdict_now i p k w v None f none h e = cc
verdict_now i p k w None (Some x) f none h e = cc
verdict_now i p k w (Some u) (Some x) f none h e =
    let same : u ≡ w = cc in sym same ∙ h (unwritten_now i p x f none)

-- without a writer, digests and verdicts in force equal those computed afresh
pub fresh_at : (i : Inode) (p : List Event) → Fresh i p → writers p ≡ 0 → IsDigestFresh i p
    × AreVerdictsFresh i p
fresh_at i p h none = (
  (λ f e. let fi : DigestsIs i p (Some f) =
      subst (λ (o : Option Digests). DigestsIs i p o) e h.digests_is in
      fi.2 (unwritten_now i p f fi none)),
  (λ k w e. verdict_now i p k w (verdict_in_force i k p) (in_force i p) h.digests_is none
      (h.verdict_is k) e),
)

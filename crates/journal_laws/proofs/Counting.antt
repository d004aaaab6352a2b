-- Takes that begin a collection, against events that void the digest.
use Rattle.std.proofs.Common.{◌≡◌, ℕ, ◌+◌, ◌≤◌, Bool, true, false, ◌||◌, not, cond, List, [], ◌∷◌, Option, Some, None, refl, sym, ◌∙◌, ap, arith}
use Rattle.std.specs.Prelude.{is_some, option_map}
use Rattle.std.proofs.lemmas.Bool.{cond-false, or_right}
use Rattle.inode_meta.specs.declared.step.Who.{Who}
use Rattle.inode_events.specs.Counts.{takes_begun, times_voided, times_voided_before_last}
use Rattle.inode_events.specs.Inode.{Inode}
use Rattle.inode_events.specs.Integrity.{Collection, Digests, collected_more, collecting, drop_voids, in_force, digests_of, voids_digest}
use Rattle.inode_events.specs.Legal.{EachFollows, Follows}
use Rattle.inode_events.specs.Stage.{stage}
use Rattle.inode_events.specs.Stage.{CloseCollected}
use Rattle.inode_events.specs.Says.{placed_in}
use Rattle.inode_events.specs.declared.deed.Deed.{Deed}
use Rattle.inode_events.specs.declared.deed.Deed.TheVariants as deed
use Rattle.inode_events.specs.declared.told.Event.{Event}
use Rattle.inode_events.specs.declared.told.Grant.{Grant}
use Rattle.inode_events.specs.declared.told.Told.{Told}
use Rattle.inode_events.specs.declared.told.Told.TheVariants as told
use Rattle.journal_laws.proofs.Fresh.{finish_grants, take_begins}
use Rattle.journal_laws.proofs.FreshSteps.{finished}
use Rattle.journal_laws.proofs.Small.{event}
use Rattle.journal_laws.proofs.Stages.{Stages, free_at, stages}

-- whether a collection for a take is open
is_taking : Option Collection → Bool
is_taking None = false
is_taking (Some c) = not c.closing

-- whether a take's collection is still unvoided: it is open, or its digest is in force
owed : Option Digests → Option Collection → Bool
unfolding is_taking
owed f c = is_some f || is_taking c

-- 1 if the test holds, else 0
one_if : Bool → ℕ
one_if b = cond b 1 0

-- bounds by all events that voided, and by those before the last take that began a collection
record Few (i : Inode) (p : List Event) : Type 0 where
  by_voids : takes_begun p ≤ times_voided i p + one_if (owed (in_force i p) (collecting i p))
  by_last : takes_begun p ≤ times_voided_before_last i p + 1

-- an event that begins, voids and ends nothing keeps the bounds
few_kept : (i : Inode) (p q : List Event) → takes_begun q ≡ takes_begun p
    → times_voided i q ≡ times_voided i p
    → times_voided_before_last i q ≡ times_voided_before_last i p
    → owed (in_force i q) (collecting i q) ≡ owed (in_force i p) (collecting i p) → Few i p
    → Few i q
few_kept i p q t v l o h = record {
  by_voids = let e : one_if (owed (in_force i q) (collecting i q)) ≡ one_if
      (owed (in_force i p) (collecting i p)) = ap one_if o in omega (arith, h.by_voids);
  by_last = omega (arith, h.by_last);
}

-- the number for a test is at most 1
one_most : (b : Bool) → one_if b ≤ 1
unfolding one_if
one_most true = omega arith
one_most false = omega arith

-- an event that voids keeps the bounds
few_void : (i : Inode) (p q : List Event) → takes_begun q ≡ takes_begun p
    → times_voided i q ≡ 1 + times_voided i p
    → times_voided_before_last i q ≡ times_voided_before_last i p → Few i p → Few i q
few_void i p q t v l h = record {
  by_voids = let m : one_if (owed (in_force i p) (collecting i p)) ≤ 1 =
      one_most (owed (in_force i p) (collecting i p)) in omega (arith, h.by_voids);
  by_last = omega (arith, h.by_last);
}

-- a take that begins a collection keeps the bounds
few_begun : (i : Inode) (p q : List Event) → takes_begun q ≡ 1 + takes_begun p
    → times_voided i q ≡ times_voided i p → times_voided_before_last i q ≡ times_voided i p
    → in_force i p ≡ None → collecting i p ≡ None → owed (in_force i q) (collecting i q) ≡ true
    → Few i p → Few i q
unfolding owed one_if is_taking
few_begun i p q t v l f c o h =
    let z : one_if (owed (in_force i p) (collecting i p)) ≡ 0 =
    ap (λ (x : Option Digests). one_if (owed x (collecting i p))) f
    ∙ ap (λ (x : Option Collection). one_if (owed None x)) c in
    let w : one_if (owed (in_force i q) (collecting i q)) ≡ 1 = ap one_if o in
    record { by_voids = omega (arith, h.by_voids); by_last = omega (arith, h.by_voids) }

-- a grant keeps the bounds: it voids if it labels, and otherwise leaves what is unvoided
few_either : (i : Inode) (p q : List Event) (b : Bool) → takes_begun q ≡ takes_begun p
    → times_voided i q ≡ cond b (1 + times_voided i p) (times_voided i p)
    → times_voided_before_last i q ≡ times_voided_before_last i p
    → (b ≡ false → owed (in_force i q) (collecting i q) ≡ owed (in_force i p) (collecting i p))
    → Few i p → Few i q
few_either i p q true t v l o h = few_void i p q t v l h
few_either i p q false t v l o h = few_kept i p q t v l (o refl) h

-- one more piece leaves whether a collection is for a take
taking_more : (bytes : List ℕ) (complete : Bool) (o : Option Collection)
    → is_taking (collected_more bytes complete o) ≡ is_taking o
unfolding is_taking
taking_more bytes complete None = refl
taking_more bytes complete (Some c) = refl

-- one more piece leaves whether a take's collection is unvoided
owed_more : (f : Option Digests) (bytes : List ℕ) (complete : Bool) (o : Option Collection)
    → owed f (collected_more bytes complete o) ≡ owed f o
unfolding owed
owed_more f bytes complete o = ap (λ (b : Bool). is_some f || b) (taking_more bytes complete o)

-- a finish puts in force the digest of a collection that was unvoided
finish_owes : (i : Inode) (p : List Event) (g : ℕ) (grant : Grant) (who : Who)
    → Follows i p who (deed.Finish g) (told.Grant grant) → Stages i p
    → owed (option_map digests_of (collecting i p)) None ≡ owed (in_force i p) (collecting i p)
unfolding owed is_taking
finish_owes i p g grant who h s = at made.0 made.1.0 where
  made : (c : Collection)
      × ((collecting i p ≡ Some c)
      × (Rattle.inode_events.specs.Grants.grant_of i g (placed_in (told.Grant grant))
      (Rattle.inode_events.specs.Integrity.digest_from c) p ≡ grant))
  made = finish_grants i p g (placed_in (told.Grant grant)) grant (collecting i p) h.2

  at : (c : Collection) → collecting i p ≡ Some c
      → owed (option_map digests_of (collecting i p)) None ≡ owed (in_force i p) (collecting i p)
  at c e = let ends : (c.file ≡ g) × (c.closing ≡ false) × (c.complete ≡ true) =
      finished i p g false h.1 s c e in
      ap (λ (o : Option Collection). owed (option_map digests_of o) None) e
      ∙ sym (ap (owed (in_force i p)) e ∙ or_right (is_some (in_force i p)) (not c.closing)
      (ap not ends.1))

-- the finish of a close ends no take's collection
close_owes : (i : Inode) (p : List Event) (g : ℕ) → stage i g p ≡ CloseCollected → Stages i p
    → (f : Option Digests) → owed f None ≡ owed f (collecting i p)
unfolding owed is_taking
close_owes i p g l s f = at (collecting i p) refl where
  at : (o : Option Collection) → collecting i p ≡ o → owed f None ≡ owed f o
  at None e = refl
  at (Some c) e = let ends : (c.file ≡ g) × (c.closing ≡ true) × (c.complete ≡ true) =
      finished i p g true l s c e in
      ap (λ (b : Bool). is_some f || b) (sym (ap not ends.1))

-- each event keeps the bounds
step : (i : Inode) (p : List Event) (who : Who) (d : Deed) (t : Told) → Follows i p who d t
    → Stages i p → Few i p → Few i (event who d t ∷ p)
unfolding owed is_taking
step i p who (deed.Take g) told.Begun h s few =
    few_begun i p (event who (deed.Take g) told.Begun ∷ p) refl refl refl
    (take_begins i p g (placed_in told.Begun) (collecting i p) (in_force i p) h.2)
    (free_at (collecting i p) _ _ h.2) (or_right (is_some (in_force i p)) true refl) few
step i p who (deed.Take g) (told.Grant grant) h s few =
    few_either i p (event who (deed.Take g) (told.Grant grant) ∷ p) grant.labelled refl refl refl
    (λ e. ap (λ (f : Option Digests). owed f (collecting i p))
    (cond-false grant.labelled None (in_force i p) e)) few
step i p who (deed.Chunk g) told.More h s few =
    few_kept i p (event who (deed.Chunk g) told.More ∷ p) refl refl refl
    (owed_more (in_force i p) _ false (collecting i p)) few
step i p who (deed.Chunk g) told.Last h s few =
    few_kept i p (event who (deed.Chunk g) told.Last ∷ p) refl refl refl
    (owed_more (in_force i p) _ true (collecting i p)) few
step i p who (deed.CloseChunk g) told.More h s few =
    few_kept i p (event who (deed.CloseChunk g) told.More ∷ p) refl refl refl
    (owed_more (in_force i p) _ false (collecting i p)) few
step i p who (deed.CloseChunk g) told.Last h s few =
    few_kept i p (event who (deed.CloseChunk g) told.Last ∷ p) refl refl refl
    (owed_more (in_force i p) _ true (collecting i p)) few
step i p who (deed.Finish g) (told.Grant grant) h s few =
    few_either i p (event who (deed.Finish g) (told.Grant grant) ∷ p) grant.labelled refl refl refl
    (λ e. ap (λ (f : Option Digests). owed f None)
    (cond-false grant.labelled None (option_map digests_of (collecting i p)) e)
    ∙ finish_owes i p g grant who h s) few
step i p who (deed.SetAttr name bytes admin) told.Done h s few =
    few_void i p (event who (deed.SetAttr name bytes admin) told.Done ∷ p) refl refl refl few
step i p who (deed.CloseTake g) told.Begun h s few =
    few_kept i p (event who (deed.CloseTake g) told.Begun ∷ p) refl refl refl
    (sym (ap (owed (in_force i p)) (free_at (collecting i p) _ _ h.2))) few
step i p who (deed.CloseTake g) told.Dropped h s few =
    few_either i p (event who (deed.CloseTake g) told.Dropped ∷ p)
    (drop_voids (deed.CloseTake g) told.Dropped p (in_force i p)) refl refl refl
    (λ e. ap (λ (f : Option Digests). owed f (collecting i p)) (cond-false _ None (in_force i p) e))
    few
step i p who (deed.CloseFinish g) told.Dropped h s few =
    few_either i p (event who (deed.CloseFinish g) told.Dropped ∷ p)
    (drop_voids (deed.CloseFinish g) told.Dropped p (in_force i p)) refl refl refl
    (λ e. ap (λ (f : Option Digests). owed f None) (cond-false _ None (in_force i p) e)
    ∙ close_owes i p g h.1 s (in_force i p)) few
step i p who (deed.CloseFinish g) told.LabelledDropped h s few =
    few_void i p (event who (deed.CloseFinish g) told.LabelledDropped ∷ p) refl refl refl few
step i p who d t h s few = few_kept i p (event who d t ∷ p) refl refl refl refl few

-- the bounds hold for every journal
few : (i : Inode) (p : List Event) → EachFollows i p → Few i p
few i [] h = record { by_voids = omega arith; by_last = omega arith }
few i (e ∷ before) h =
    step i before e.who e.deed e.told h.0 (stages i before h.1) (few i before h.1)

-- the law of few collections
pub few_takes : (i : Inode) (p : List Event) → EachFollows i p
    → takes_begun p ≤ times_voided_before_last i p + 1
few_takes i p h = (few i p h).by_last

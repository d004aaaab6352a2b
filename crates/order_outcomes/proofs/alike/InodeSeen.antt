-- What the next steps see of a collection and of digests, after one more event.
use Rattle.std.proofs.Common.{◌≡◌, ℕ, suc, ◌+◌, Bool, false, ◌||◌, List, [], ◌∷◌, ◌++◌, length, Option, Some, None, is_some, option_map, refl, ap, ap₂, sym, ◌∙◌, arith}
use Rattle.journal_laws.proofs.Fresh.{unmodified}
use Rattle.report_text.specs.model.History.{event}
use Rattle.report_text.specs.model.events.Integrity.{Collection, Digests, collected_more, digests_of, is_stale}
use Rattle.report_text.specs.model.events.State.{modified_since, modifies}
use Rattle.report_text.specs.model.events.declared.deed.Deed.{Deed}
use Rattle.report_text.specs.model.events.declared.told.Event.{Event}
use Rattle.report_text.specs.model.events.declared.told.Told.{Told}
use Rattle.report_text.specs.model.events.hashes.Digest.{digest_of}
use Rattle.report_text.specs.model.events.hashes.declared.algo.Algo.{Algo}
use Rattle.report_text.specs.model.events.hashes.declared.algo.Algo.TheVariants.{Sha1}
use Rattle.report_text.specs.model.events.hashes.declared.digest.Digest.{Digest}
use Rattle.report_text.specs.model.events.meta.declared.step.Who.{Who}
use Rattle.report_text.specs.model.events.pages.Content.{piece_at}
use Rattle.order_outcomes.proofs.alike.InodeState.{since_grown}
use Rattle.order_outcomes.specs.alike.Alike.{CollectionSeen, DigestsSeen, HasBegun, HaveBegun, collection_seen, digests_seen}

-- ---- parts

-- the digest that a collection gives
abbrev pub digest_seen : CollectionSeen → Digest
digest_seen s = digest_of s.algo s.bytes

-- the digests that a collection gives
abbrev pub given_seen : CollectionSeen → DigestsSeen
given_seen s =
    record { digest = digest_seen s; sha1 = digest_of Sha1 s.bytes; stale = s.stale }

-- the digest by the algorithm that was chosen
abbrev pub chosen : DigestsSeen → Digest
chosen s = s.digest

-- the digests are stale, if there are any
abbrev pub stale_in : Option DigestsSeen → Bool
stale_in None = false
stale_in (Some s) = s.stale

-- the collection after its next piece
abbrev pub more_seen : List ℕ → Bool → CollectionSeen → CollectionSeen
more_seen content complete s = record s {
  pieces = s.pieces + 1;
  bytes = s.bytes ++ piece_at content s.pieces;
  complete = complete;
}

-- the digest of a collection is seen
pub digest_in : (p : List Event) (o : Option Collection)
    → option_map (λ (c : Collection). digest_of c.algo c.bytes) o
    ≡ option_map digest_seen (option_map (collection_seen p) o)
digest_in p None = refl
digest_in p (Some c) = refl

-- the digest in force is seen
pub chosen_in : (p : List Event) (o : Option Digests)
    → option_map (λ (f : Digests). f.digest) o ≡ option_map chosen (option_map (digests_seen p) o)
chosen_in p None = refl
chosen_in p (Some f) = refl

-- whether digests are stale is seen
pub stale_seen : (p : List Event) (o : Option Digests)
    → is_stale o p ≡ stale_in (option_map (digests_seen p) o)
stale_seen p None = refl
stale_seen p (Some f) = refl

-- what is seen of the digests that a collection gives
pub given_in : (p : List Event) (o : Option Collection)
    → option_map (digests_seen p) (option_map digests_of o)
    ≡ option_map given_seen (option_map (collection_seen p) o)
given_in p None = refl
given_in p (Some c) = refl

-- what is seen of a collection after its next piece
pub more_in : (p : List Event) (content : List ℕ) (complete : Bool) (o : Option Collection)
    → option_map (collection_seen p) (collected_more content complete o)
    ≡ option_map (more_seen content complete) (option_map (collection_seen p) o)
more_in p content complete None = refl
more_in p content complete (Some c) = refl

-- something is there as something else is seen of it
pub some_map : {A B : Type 0} (f : A → B) (o : Option A) → is_some (option_map f o) ≡ is_some o
some_map f None = refl
some_map f (Some x) = refl

-- ---- one more event

-- a collection after an event that modifies the content or doesn't
abbrev pub collection_staler : Bool → CollectionSeen → CollectionSeen
collection_staler b s = record s { stale = b || s.stale }

-- digests after such an event
abbrev pub digests_staler : Bool → DigestsSeen → DigestsSeen
digests_staler b s = record s { stale = b || s.stale }

-- what is seen of a collection that is stale or isn't
abbrev collection_with : Collection → Bool → CollectionSeen
collection_with c stale = record {
  closing = c.closing;
  algo = c.algo;
  pieces = c.pieces;
  bytes = c.bytes;
  complete = c.complete;
  stale = stale;
}

-- what is seen of digests that are stale or aren't
abbrev digests_with : Digests → Bool → DigestsSeen
digests_with f stale = record { digest = f.digest; sha1 = f.sha1; stale = stale }

-- what is seen of a collection after one more event that leaves it
pub collection_kept : (who : Who) (d : Deed) (t : Told) (p : List Event) (o : Option Collection)
    → HasBegun (length p) o
    → option_map (collection_seen (event who d t ∷ p)) o
    ≡ option_map (collection_staler (modifies d t)) (option_map (collection_seen p) o)
collection_kept who d t p None h = refl
collection_kept who d t p (Some c) h =
    ap (λ (b : Bool). Some (collection_with c b)) (since_grown who d t c.begin p h)

-- what is seen of digests after one more event that leaves them
pub digests_kept : (who : Who) (d : Deed) (t : Told) (p : List Event) (o : Option Digests)
    → HaveBegun (length p) o
    → option_map (digests_seen (event who d t ∷ p)) o
    ≡ option_map (digests_staler (modifies d t)) (option_map (digests_seen p) o)
digests_kept who d t p None h = refl
digests_kept who d t p (Some f) h =
    ap (λ (b : Bool). Some (digests_with f b)) (since_grown who d t f.begin p h)

-- what is seen of a collection that begins
abbrev begun_with : Bool → Algo → Bool → Option CollectionSeen
begun_with closing algo stale = Some (record {
  closing = closing;
  algo = algo;
  pieces = 0;
  bytes = [];
  complete = false;
  stale = stale;
})

-- nothing is modified yet since it began, in both
pub begun_same : (p q : List Event) (closing : Bool) (algo2 algo : Algo) → algo2 ≡ algo
    → begun_with closing algo2 (modified_since (length q) q)
    ≡ begun_with closing algo (modified_since (length p) p)
begun_same p q closing algo2 algo h =
    ap₂ (λ (a : Algo) (b : Bool). begun_with closing a b) h
    (unmodified (length q) q (omega arith) ∙ sym (unmodified (length p) p (omega arith)))

-- ---- they began before the event

-- a collection
pub begun_more : (n : ℕ) (o : Option Collection) → HasBegun n o → HasBegun (suc n) o
begun_more n None h = tt
begun_more n (Some c) h = omega arith

-- digests
pub digests_more : (n : ℕ) (o : Option Digests) → HaveBegun n o → HaveBegun (suc n) o
digests_more n None h = tt
digests_more n (Some f) h = omega arith

-- a collection that takes its next piece
pub begun_collected : (n : ℕ) (content : List ℕ) (complete : Bool) (o : Option Collection)
    → HasBegun n o → HasBegun n (collected_more content complete o)
begun_collected n content complete None h = tt
begun_collected n content complete (Some c) h = h

-- the digests that it gives
pub begun_given : (n : ℕ) (o : Option Collection) → HasBegun n o
    → HaveBegun n (option_map digests_of o)
begun_given n None h = tt
begun_given n (Some c) h = h

-- How a deed changes what its task has hashed.
use Rattle.std.proofs.Common.{◌≡◌, ℕ, ◌+◌, Bool, true, false, length, List, [], ◌∷◌, ◌++◌, Some, refl, sym, ◌∙◌, ap, subst}
use Rattle.std.proofs.lemmas.Option.{same_Some}
use Rattle.hash_algos.specs.Digest.{digest_of}
use Rattle.hash_algos.specs.declared.algo.Algo.{Algo}
use Rattle.hash_algos.specs.declared.algo.Algo.TheVariants.{Sha1}
use Rattle.hash_algos.specs.declared.digest.Digest.{Digest}
use Rattle.world_model.specs.inodes.answers.Answers.{piece_told}
use Rattle.world_model.specs.inodes.Sums.{HasSums}
use Rattle.world_model.specs.inodes.answers.declared.answers.Piece.{Piece}
use Rattle.world_model.specs.inodes.answers.declared.answers.Piece.TheVariants as piece
use Rattle.inode_events.specs.Asked.{made}
use Rattle.inode_events.specs.Inode.{Inode}
use Rattle.inode_events.specs.Integrity.{Collection, chosen_algo, collected_more, collecting, collection_of, digest_from}
use Rattle.inode_events.specs.NewestFirst.{newest_first, past_more}
use Rattle.inode_events.specs.State.{content}
use Rattle.inode_events.specs.declared.deed.Deed.{Deed}
use Rattle.inode_events.specs.declared.deed.Deed.TheVariants as deed
use Rattle.inode_events.specs.declared.told.Event.{Event}
use Rattle.inode_events.specs.declared.told.Told.{Told}
use Rattle.inode_events.specs.declared.told.Told.TheVariants as told
use Rattle.inode_hashing.specs.Hashing.{HasHashed}
use Rattle.inode_hashing.specs.declared.hashing.Hashing.{Hashing}
use Rattle.inode_meta.specs.declared.step.Who.{Who}
use Rattle.inode_events.specs.pages.Content.{piece_at}
use Rattle.task_steps.specs.Hashed.{HasGathered}
use Rattle.world_model.specs.Tasks.{Collects, HasSummed, HasTakenIn}
use Rattle.world_model.specs.declared.hash_state.HashState.{HashState}
use Rattle.world_model.specs.declared.hash_state.HashState.TheVariants as hash_state
use Rattle.world_model.specs.Due.{HashesAfter}

-- what was hashed depends only on the algorithm and the bytes
taken_same : (g : HashState) (a b : Collection) → a.algo ≡ b.algo → a.bytes ≡ b.bytes
    → HasTakenIn g a → HasTakenIn g b
taken_same hash_state.Idle a b x y h = h
taken_same (hash_state.Running hashing) a b x y h =
    subst (λ (m : List ℕ). HasHashed hashing b.algo m) y
    (subst (λ (k : Algo). HasHashed hashing k a.bytes) x h)
taken_same (hash_state.Done chosen sha1) a b x y h = h

summed_same : (g : HashState) (a b : Collection) → a.algo ≡ b.algo → a.bytes ≡ b.bytes
    → HasSummed g a → HasSummed g b
summed_same hash_state.Idle a b x y h = h
summed_same (hash_state.Running hashing) a b x y h = h
summed_same (hash_state.Done chosen sha1) a b x y h = (
  h.0 ∙ ap (λ (m : List ℕ). digest_of a.algo m) y ∙ ap (λ (k : Algo). digest_of k b.bytes) x,
  h.1 ∙ ap (λ (m : List ℕ). digest_of Sha1 m) y,
)

-- the journal after one more event
after : (list list2 : List Event) (who : Who) (d : Deed) (t : Told)
    → list2 ≡ list ++ made who d (Some t)
    → newest_first list2 ≡ record { who = who; deed = d; told = t } ∷ newest_first list
after list list2 who d t e =
    ap newest_first e ∙ past_more list (record { who = who; deed = d; told = t })

module _ (inode : Inode) (list : List Event) (g g2 : HashState) (page : List ℕ)
    (c : Collects inode (newest_first list) (HasTakenIn g))
    (taken : (k : Collection) → collecting inode (newest_first list) ≡ Some k
    → page ≡ piece_at (content (newest_first list)) k.pieces) where
  -- the collection with its next piece
  abbrev more : Bool → Collection
  more complete = record c.collection {
    pieces = c.collection.pieces + 1;
    bytes = c.collection.bytes ++ piece_at (content (newest_first list)) c.collection.pieces;
    complete = complete;
  }

  abbrev paged : Collection
  paged = record c.collection { bytes = c.collection.bytes ++ page }

  same_bytes : paged.bytes ≡ c.collection.bytes
      ++ piece_at (content (newest_first list)) c.collection.pieces
  same_bytes =
      ap (λ (x : List ℕ). c.collection.bytes ++ x) (taken c.collection c.is_open)

  is_more : (complete : Bool) → collected_more (content (newest_first list)) complete
      (collecting inode (newest_first list)) ≡ Some (more complete)
  is_more complete = ap (collected_more (content (newest_first list)) complete) c.is_open

  pub piece_left : (file : ℕ) (who : Who) (list2 : List Event) (p : Piece)
      → list2 ≡ list ++ made who (deed.Chunk file) (Some (piece_told p))
      → ((k : Collection) → HasTakenIn g k
      → HasGathered p g2 (record k { bytes = k.bytes ++ page }))
      → HashesAfter inode list2 g2 (deed.Chunk file) (piece_told p)
  piece_left file who list2 piece.More e h = record {
    collection = more false;
    is_open = ap (collecting inode) (after list list2 who (deed.Chunk file) told.More e)
        ∙ is_more false;
    has = taken_same g2 paged (more false) refl same_bytes (h c.collection c.has);
  }
  piece_left file who list2 piece.Last e h = record {
    collection = more true;
    is_open = ap (collecting inode) (after list list2 who (deed.Chunk file) told.Last e)
        ∙ is_more true;
    has = summed_same g2 paged (more true) refl same_bytes (h c.collection c.has);
  }

  pub close_piece_left : (file : ℕ) (who : Who) (list2 : List Event) (p : Piece)
      → list2 ≡ list ++ made who (deed.CloseChunk file) (Some (piece_told p))
      → ((k : Collection) → HasTakenIn g k
      → HasGathered p g2 (record k { bytes = k.bytes ++ page }))
      → HashesAfter inode list2 g2 (deed.CloseChunk file) (piece_told p)
  close_piece_left file who list2 piece.More e h = record {
    collection = more false;
    is_open = ap (collecting inode) (after list list2 who (deed.CloseChunk file) told.More e)
        ∙ is_more false;
    has = taken_same g2 paged (more false) refl same_bytes (h c.collection c.has);
  }
  close_piece_left file who list2 piece.Last e h = record {
    collection = more true;
    is_open = ap (collecting inode) (after list list2 who (deed.CloseChunk file) told.Last e)
        ∙ is_more true;
    has = summed_same g2 paged (more true) refl same_bytes (h c.collection c.has);
  }

-- ---- a collection begins

pub take_left : (inode : Inode) (list list2 : List Event) (file : ℕ) (who : Who) (h : Hashing)
    (algo : Algo) → list2 ≡ list ++ made who (deed.Take file) (Some told.Begun)
    → algo ≡ chosen_algo inode (newest_first list) → HasHashed h algo []
    → HashesAfter inode list2 (hash_state.Running h) (deed.Take file) told.Begun
take_left inode list list2 file who h algo e a x = record {
  collection = collection_of file false (chosen_algo inode (newest_first list))
      (length (newest_first list));
  is_open = ap (collecting inode) (after list list2 who (deed.Take file) told.Begun e);
  has = subst (λ (k : Algo). HasHashed h k []) a x;
}

pub close_left : (inode : Inode) (list list2 : List Event) (file : ℕ) (who : Who) (h : Hashing)
    (algo : Algo) → list2 ≡ list ++ made who (deed.CloseTake file) (Some told.Begun)
    → algo ≡ inode.settings.hash → HasHashed h algo []
    → HashesAfter inode list2 (hash_state.Running h) (deed.CloseTake file) told.Begun
close_left inode list list2 file who h algo e a x = record {
  collection = collection_of file true inode.settings.hash (length (newest_first list));
  is_open = ap (collecting inode) (after list list2 who (deed.CloseTake file) told.Begun e);
  has = subst (λ (k : Algo). HasHashed h k []) a x;
}

-- ---- a collection ends

-- the digests are those of the bytes that the collection took
pub sums_of : (inode : Inode) (p : List Event) (g : HashState) (sums : Digest × Digest)
    → Collects inode p (HasSummed g)
    → ((c : Collection) → HasSummed g c → Some sums ≡ Some (digest_from c, digest_of Sha1 c.bytes))
    → HasSums inode p sums
sums_of inode p g sums c h k e =
    let same : c.collection ≡ k = same_Some c.collection k (sym c.is_open ∙ e) in
    let is : sums ≡ (digest_from c.collection, digest_of Sha1 c.collection.bytes) =
    same_Some sums (digest_from c.collection, digest_of Sha1 c.collection.bytes)
    (h c.collection c.has) in (
      ap (λ (x : Digest × Digest). x.0) is ∙ ap digest_from same,
      ap (λ (x : Digest × Digest). x.1) is ∙ ap (λ (x : Collection). digest_of Sha1 x.bytes) same,
    )

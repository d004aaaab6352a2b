-- The outcome of a step with another reply of the list.
use Rattle.std.proofs.Common.{◌≡◌, ℕ, Bool, true, false, ◌&&◌, cond, List, Option, Some, None, option_map, Result, Ok, Err, refl, ap, sym}
use Rattle.std.specs.Prelude.{nat_lt}
use Rattle.report_text.specs.model.events.Checks.{last_check}
use Rattle.report_text.specs.model.events.Files.{is_writing, readers, writers}
use Rattle.report_text.specs.model.events.Grants.{grant_of}
use Rattle.report_text.specs.model.events.Inode.{Inode}
use Rattle.report_text.specs.model.events.Integrity.{Collection, Digests, collecting, digest_from, in_force}
use Rattle.report_text.specs.model.events.Marks.{is_label_due, must_measure}
use Rattle.report_text.specs.model.events.Says.{check_told, chunk_told, close_take_told, finish_told, place_of, says, set_attr_told, set_meta_told, status_told, take_told, unless_collecting}
use Rattle.report_text.specs.model.events.State.{content}
use Rattle.report_text.specs.model.events.declared.deed.Deed.{Deed}
use Rattle.report_text.specs.model.events.declared.deed.Deed.TheVariants as deed
use Rattle.report_text.specs.model.events.declared.told.Event.{Event}
use Rattle.report_text.specs.model.events.declared.told.Told.{Told}
use Rattle.report_text.specs.model.events.declared.told.Told.TheVariants as told
use Rattle.report_text.specs.model.events.hashes.declared.digest.Digest.{Digest}
use Rattle.report_text.specs.model.events.meta.declared.appraisal.EvmStatus.{EvmStatus}
use Rattle.report_text.specs.model.events.templates.declared.entry.Placed.{Placed}
use Rattle.order_outcomes.proofs.alike.InodeRetold.{told_with}

-- ---- outcomes that report no reply

-- the outcome is the same with any reply
record IsReplyFree (q : Placed) (t : Told) : Type 0 where
  same : told_with q t ≡ t

module _ (q : Placed) where
  -- by computing
  free_is : (t : Told) → told_with q t ≡ t → IsReplyFree q t
  free_is t h = record { same = h }

  -- it is
  free_same : (t : Told) → IsReplyFree q t → t ≡ told_with q t
  free_same t k = sym k.same

  -- a choice between two such outcomes
  free_cond : (b : Bool) (x y : Told) → IsReplyFree q x → IsReplyFree q y
      → IsReplyFree q (cond b x y)
  free_cond true x y h k = h
  free_cond false x y h k = k

  -- a change that EVM allows or forbids
  free_status : (x : Result (Unit {0}) EvmStatus) → IsReplyFree q (status_told x)
  free_status (Ok y) = record { same = refl }
  free_status (Err y) = record { same = refl }

  -- the outcome of a step with such an outcome
  said_free : (t : Told) → IsReplyFree q t → Some t ≡ option_map (told_with q) (Some t)
  said_free t k = ap Some (free_same t k)

  -- a step that waits for the integrity mutex
  said_unless : (c : Option Collection) (t2 t : Told) → t2 ≡ told_with q t
      → unless_collecting c t2 ≡ option_map (told_with q) (unless_collecting c t)
  said_unless None t2 t h = ap Some h
  said_unless (Some c) t2 t h = refl

  -- a chunk
  said_chunk : (content : List ℕ) (c : Option Collection)
      → chunk_told content c ≡ option_map (told_with q) (chunk_told content c)
  said_chunk content None = refl
  said_chunk content (Some c) = said_free _ (search (free_cond, free_is))

  -- ---- outcomes that report one

  module _ (q0 : Placed) where
    -- a check reports the place of its violation
    said_check : (writing measures : Bool) (readers writers : ℕ) (must : Bool)
        → check_told writing measures readers writers must (place_of q)
        ≡ told_with q (check_told writing measures readers writers must (place_of q0))
    said_check true measures readers writers must = at (nat_lt 0 readers && must)
      where
        at : (b : Bool) → cond b (told.ToMToU (place_of q)) told.Quiet
            ≡ told_with q (cond b (told.ToMToU (place_of q0)) told.Quiet)
        at true = refl
        at false = refl
    said_check false measures readers writers must = at (measures && nat_lt 0 writers)
      where
        at : (b : Bool) → cond b (told.OpenWriters (place_of q)) told.Quiet
            ≡ told_with q (cond b (told.OpenWriters (place_of q0)) told.Quiet)
        at true = refl
        at false = refl

    -- a grant reports the reply if its check measures
    said_grant : (inode : Inode) (file : ℕ) (digest : Digest) (p : List Event)
        → told.Grant (grant_of inode file q digest p)
        ≡ told_with q (told.Grant (grant_of inode file q0 digest p))
    said_grant inode file digest p =
        ap (λ (o : Option Placed). told.Grant (record (grant_of inode file q digest p) {
          placed = o;
        })) (at (last_check file p).action.measure)
      where
        at : (b : Bool) → cond b (Some q) None
            ≡ option_map (λ (old : Placed). q) (cond b (Some q0) None)
        at true = refl
        at false = refl

    -- a take
    said_take : (inode : Inode) (file : ℕ) (o : Option Digests) (p : List Event)
        → take_told inode file q o p ≡ told_with q (take_told inode file q0 o p)
    said_take inode file None p = refl
    said_take inode file (Some f) p = said_grant inode file f.digest p

    -- a finish
    said_finish : (inode : Inode) (file : ℕ) (c : Option Collection) (p : List Event)
        → finish_told inode file q c p ≡ option_map (told_with q) (finish_told inode file q0 c p)
    said_finish inode file None p = refl
    said_finish inode file (Some c) p = ap Some (said_grant inode file (digest_from c) p)

    -- any step
    pub said_with : (inode : Inode) (p : List Event) (d : Deed)
        → says inode p q d ≡ option_map (told_with q) (says inode p q0 d)
    said_with inode p (deed.Count how) = said_free _ (search (free_cond, free_is))
    said_with inode p (deed.Check file func action rules) =
        ap Some (said_check (is_writing file p) action.measure (readers p) (writers p)
        (must_measure p))
    said_with inode p (deed.Take file) =
        said_unless (collecting inode p) _ _ (said_take inode file (in_force inode p) p)
    said_with inode p (deed.Chunk file) = said_chunk (content p) (collecting inode p)
    said_with inode p (deed.Finish file) = said_finish inode file (collecting inode p) p
    said_with inode p (deed.Write file from bytes) = said_free _ (search (free_cond, free_is))
    said_with inode p (deed.Trunc file len) = said_free _ (search (free_cond, free_is))
    said_with inode p (deed.SetAttr name bytes admin) =
        said_unless (collecting inode p) _ _
        (free_same (set_attr_told inode name bytes admin p)
        (search (free_cond, free_is, free_status) depth 20))
    said_with inode p (deed.SetMeta change) =
        said_unless (collecting inode p) _ _
        (free_same (set_meta_told inode p) (search (free_cond, free_is, free_status)))
    said_with inode p (deed.CloseTake file) =
        said_unless (collecting inode p) _ _
        (free_same (close_take_told (is_label_due inode p) (writers p))
        (search (free_cond, free_is)))
    said_with inode p (deed.CloseChunk file) = said_chunk (content p) (collecting inode p)
    said_with inode p (deed.CloseFinish file) = said_free _ (search (free_cond, free_is))
    said_with inode p d = refl

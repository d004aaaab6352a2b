-- Cases that never occur: a signature that no entry can show, a second digest by an algorithm other
-- than SHA-1, and a piece past the end of the largest file.
use Rattle.std.proofs.Common.{◌≡◌, ℕ, ◌+◌, ◌*◌, ◌≤◌, ◌<◌, ◌^◌, Bool, true, false, cond, List, [], ◌∷◌, length, Option, Some, None, refl, sym, ◌∙◌, ap, subst, arith}
use Rattle.std.specs.Prelude.{◌==◌, ◌||◌, nat_le, option_map}
use Rattle.std.proofs.lemmas.Bool.{leb-false, leb-true}
use Rattle.std.proofs.lemmas.List.{length-append, length-drop, length-take}
use Rattle.std.proofs.lemmas.Option.{same_Some}
use Rattle.hash_algos.specs.Digest.{digest_of}
use Rattle.hash_algos.specs.declared.algo.Algo.TheVariants.{Sha1}
use Rattle.hash_algos.specs.declared.digest.Digest.{Digest}
use Rattle.inode_events.specs.Inode.{Inode}
use Rattle.inode_events.specs.Integrity.{Collection, Digests, collected_more, collecting, collecting_after, digest_from, digests_given, digests_of, in_force, integrity, voids_digest}
use Rattle.inode_events.specs.Legal.{EachFollows, Follows, May}
use Rattle.inode_events.specs.Listing.{signature_in}
use Rattle.inode_events.specs.Says.{chunk_told, write_told}
use Rattle.inode_events.specs.Stage.{is_collecting, stage}
use Rattle.inode_events.specs.State.{content, content_after}
use Rattle.inode_events.specs.declared.deed.Deed.{Deed}
use Rattle.inode_events.specs.declared.deed.Deed.TheVariants as deed
use Rattle.inode_events.specs.declared.told.Event.{Event}
use Rattle.inode_events.specs.declared.told.Told.{Told}
use Rattle.inode_events.specs.declared.told.Told.TheVariants as told
use Rattle.inode_state.specs.Collecting.{Short, short_of, short_seen, shortened, shorts_seen}
use Rattle.inode_state.specs.declared.collecting.Collecting.{Collecting}
use Rattle.inode_state.specs.declared.in_force.Sums.{Sums}
use Rattle.inode_meta.specs.declared.step.Who.{Who}
use Rattle.inode_pages.specs.Content.{is_last_piece, most_bytes, overwritten, piece_bytes, resized, with_zeros_to}
use Rattle.inode_state.specs.laws_of_journals.Standing.{collecting_stage}
use Rattle.inode_state.proofs.laws_of_journals.Stages.{Collects, collection_stands, stage_busy, stage_collects, stage_parts}
use Rattle.label_values.specs.Labels.{type_of}
use Rattle.xattr_store.specs.Attrs.{Fits, most_value}
use Rattle.inode_cell.specs.Granting.{sums_in, sums_in_force}
use Rattle.inode_cell.specs.Pieces.{IsPieceDeed}

-- ---- the signature

-- the signature fits if the attribute's value does
pub signature_fits : (o : Option (List ℕ)) → Fits o → length (signature_in o) ≤ most_value
signature_fits None h = omega arith
signature_fits (Some bytes) h = at (type_of bytes == 3 || type_of bytes == 6) where
  at : (b : Bool) → length (cond b bytes []) ≤ most_value
  at true = h
  at false = omega arith

-- ---- the second digest

-- the second digest is by SHA-1
abbrev pub HasSha1 : Option Digests → Type 0
HasSha1 None = Unit {0}
HasSha1 (Some f) = f.sha1.algo ≡ Sha1

-- the second digest of a collection is by SHA-1
given_sha1 : (o : Option Collection) → HasSha1 (option_map digests_of o)
given_sha1 None = tt
given_sha1 (Some c) = refl

-- an event leaves the second digest in force by SHA-1
next_sha1 : (i : Inode) (p : List Event) (d : Deed) (t : Told) → HasSha1 (in_force i p)
    → HasSha1 (digests_given d t (integrity i p))
next_sha1 i p (deed.Finish file) (told.Grant grant) h = given_sha1 (collecting i p)
next_sha1 i p d t h = h

-- the second digest in force is by SHA-1 after any journal
pub force_sha1 : (i : Inode) (p : List Event) → HasSha1 (in_force i p)
force_sha1 i [] = tt
force_sha1 i (e ∷ before) =
    at (voids_digest e.deed e.told before (in_force i before)) (force_sha1 i before) where
      at : (b : Bool) → HasSha1 (in_force i before)
          → HasSha1 (cond b None (digests_given e.deed e.told (integrity i before)))
      at true h = tt
      at false h = next_sha1 i before e.deed e.told h

-- the second digest that a take finds in force is by SHA-1
pub take_sha1 : (sums : Sums) (f : Option Digests) → HasSha1 f → sums_in_force f ≡ Some sums
    → sums.sha1.algo ≡ Sha1
take_sha1 sums None h e = cc
take_sha1 sums (Some f) h e =
    ap (λ (s : Sums). s.sha1.algo) (sym (same_Some (sums_in f) sums e)) ∙ h

-- the second digest that a finish is given is by SHA-1
pub finish_sha1 : (file : ℕ) (sums : Digest × Digest) (o : Option Collection) → Collects file o
    → ((c : Collection) → o ≡ Some c
    → (sums.0 ≡ digest_from c) × (sums.1 ≡ digest_of Sha1 c.bytes))
    → sums.1.algo ≡ Sha1
finish_sha1 file sums None h s = absurd h
finish_sha1 file sums (Some c) h s = ap (λ (d : Digest). d.algo) (s c refl).1

-- ---- the content

-- a write or truncation that was done ends within the limit
done_within : (n : ℕ) → Some (write_told n) ≡ Some told.Done → n ≤ most_bytes
done_within n s = at (nat_le n most_bytes) refl s where
  at : (b : Bool) → nat_le n most_bytes ≡ b → Some (cond b told.Done told.TooBig) ≡ Some told.Done
      → n ≤ most_bytes
  at true e s = leb-true n most_bytes e
  at false e s = cc

-- a write leaves at most as many bytes as the content had, or as its own end needs
length-overwritten : (old : List ℕ) (from most : ℕ) (bytes : List ℕ) → length old ≤ most
    → from + length bytes ≤ most → length (overwritten old from bytes) ≤ most
length-overwritten old from most bytes h w =
    simp (length-append, length-take, length-drop) (omega arith)

-- a truncation leaves at most `len` bytes
length-resized : (old : List ℕ) (len : ℕ) → length (resized old len) ≤ len
length-resized old len = omega (arith, length-take len (with_zeros_to len old))

small_after : (i : Inode) (p : List Event) (who : Who) (d : Deed) (t : Told)
    → length i.birth.content ≤ most_bytes → Follows i p who d t → length (content p) ≤ most_bytes
    → length (content_after d t (content p)) ≤ most_bytes
small_after i p who deed.Birth (told.Image image) b f h =
    subst (λ (t : Told). length (content_after deed.Birth t (content p)) ≤ most_bytes) (sym f.2) b
small_after i p who (deed.Write file from bytes) told.Done b f h =
    length-overwritten (content p) from most_bytes bytes h (done_within (from + length bytes) f.2)
small_after i p who (deed.Trunc file len) told.Done b f h =
    let fits = done_within len f.2 in omega (arith, fits, length-resized (content p) len)
small_after i p who d t b f h = h

-- the content always fits the largest file
pub content_small : (i : Inode) (p : List Event) → length i.birth.content ≤ most_bytes
    → EachFollows i p → length (content p) ≤ most_bytes
content_small i [] b h = omega arith
content_small i (e ∷ before) b h =
    small_after i before e.who e.deed e.told b h.0 (content_small i before b h.1)

-- ---- the pieces

-- a collection that isn't complete has taken no more bytes than the largest file has
abbrev pub IsFew : Option Collection → Type 0
IsFew None = Unit {0}
IsFew (Some c) = c.complete ≡ false → piece_bytes * c.pieces ≤ most_bytes

-- a piece that isn't the last lies within the content
more_few : (bytes : List ℕ) (o : Option Collection) → length bytes ≤ most_bytes
    → chunk_told bytes o ≡ Some told.More → IsFew (collected_more bytes false o)
more_few bytes None h s = tt
more_few bytes (Some c) h s = λ e. at (is_last_piece bytes c.pieces) refl s where
  at : (b : Bool) → is_last_piece bytes c.pieces ≡ b
      → Some (cond b told.Last told.More) ≡ Some told.More
      → piece_bytes * (c.pieces + 1) ≤ most_bytes
  at true q s = cc
  at false q s =
      let within = leb-false (length bytes) (piece_bytes * (c.pieces + 1)) q in
      omega (arith, within, h)

-- a collection that has its last piece is complete
last_few : (bytes : List ℕ) (o : Option Collection) → IsFew (collected_more bytes true o)
last_few bytes None = tt
last_few bytes (Some c) = λ e. cc

few_after : (i : Inode) (p : List Event) (who : Who) (d : Deed) (t : Told)
    → length (content p) ≤ most_bytes → Follows i p who d t → IsFew (collecting i p)
    → IsFew (collecting_after i d t p (integrity i p))
few_after i p who (deed.Take file) told.Begun b f h = λ e. omega arith
few_after i p who (deed.CloseTake file) told.Begun b f h = λ e. omega arith
few_after i p who (deed.Chunk file) told.More b f h = more_few (content p) (collecting i p) b f.2
few_after i p who (deed.Chunk file) told.Last b f h = last_few (content p) (collecting i p)
few_after i p who (deed.CloseChunk file) told.More b f h =
    more_few (content p) (collecting i p) b f.2
few_after i p who (deed.CloseChunk file) told.Last b f h = last_few (content p) (collecting i p)
few_after i p who (deed.Finish file) (told.Grant grant) b f h = tt
few_after i p who (deed.CloseFinish file) told.Dropped b f h = tt
few_after i p who (deed.CloseFinish file) told.LabelledDropped b f h = tt
few_after i p who d t b f h = h

few : (i : Inode) (p : List Event) → length i.birth.content ≤ most_bytes → EachFollows i p
    → IsFew (collecting i p)
few i [] b h = tt
few i (e ∷ before) b h =
    few_after i before e.who e.deed e.told (content_small i before b h.1) h.0 (few i before b h.1)

-- if the file is at the stage of collecting, its collection isn't complete
pub pieces_left : (i : Inode) (p : List Event) (file : ℕ) (k : Bool) → EachFollows i p
    → stage i file p ≡ collecting_stage k false → (c : Collection) → collecting i p ≡ Some c
    → c.complete ≡ false
pieces_left i p file k each was c e =
    let there = stage_collects i p file each (ap is_collecting was ∙ stage_busy k false) in
    let same : there.0 ≡ c = same_Some there.0 c (sym there.1.0 ∙ e) in
    let mine : c.file ≡ file = ap (λ (x : Collection). x.file) (sym same) ∙ there.1.1 in
    let stands = collection_stands i p c each e in
    (stage_parts c.closing c.complete k (sym stands.0 ∙ ap (λ (f : ℕ). stage i f p) mine ∙ was)).1

-- if a deed may take a piece, the collection has taken no more than the largest file has
piece_few : (i : Inode) (p : List Event) (d : Deed) → length i.birth.content ≤ most_bytes
    → EachFollows i p → May i p d → IsPieceDeed d → (c : Collection) → collecting i p ≡ Some c
    → piece_bytes * c.pieces ≤ most_bytes
piece_few i p (deed.Chunk file) b each may piece c e =
    subst IsFew e (few i p b each) (pieces_left i p file false each may c e)
piece_few i p (deed.CloseChunk file) b each may piece c e =
    subst IsFew e (few i p b each) (pieces_left i p file true each may c e)
piece_few i p d b each may piece c e = absurd piece

-- the number of the next piece fits in 32 bits
pub next_is_small : (i : Inode) (p : List Event) (d : Deed) (o : Collecting)
    → length i.birth.content ≤ most_bytes → EachFollows i p → May i p d → IsPieceDeed d
    → shorts_seen (Some o) ≡ shortened (collecting i p) → o.pieces < 2 ^ 32
next_is_small i p d o b each may piece seen =
    at (collecting i p) seen (piece_few i p d b each may piece) where
      at : (k : Option Collection) → shorts_seen (Some o) ≡ shortened k
          → ((c : Collection) → k ≡ Some c → piece_bytes * c.pieces ≤ most_bytes)
          → o.pieces < 2 ^ 32
      at None e h = cc
      at (Some c) e h =
          let same = ap (λ (s : Short). s.pieces) (same_Some (short_seen o) (short_of c) e) in
          let most = h c refl in
          omega (arith, same, most)

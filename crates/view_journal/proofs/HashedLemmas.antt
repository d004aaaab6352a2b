-- Where the strip says `as hashed`, the last finished digest is that of the content.
use Rattle.std.proofs.Common.{◌≡◌, ℕ, ◌+◌, ◌-◌, ◌*◌, ◌<◌, ◌≤◌, ◌==◌, Bool, true, false, ◌||◌, cond, List, [], ◌∷◌, ◌++◌, length, map, take, drop, Option, Some, None, refl, sym, ◌∙◌, ap, subst, arith}
use Rattle.std.specs.Prelude.{nat_lt, option_map, replicate}
use Rattle.std.proofs.Math.Seq.{take-add}
use Rattle.std.proofs.lemmas.Bool.{leb-false, leb-true, ltb-false, or_parts}
use Rattle.std.proofs.lemmas.List.{length-append, length-replicate, length-take-le, take-append-le, take-take, take_all}
use Rattle.report_read.specs.Short.{short, short_deed, short_told}
use Rattle.report_read.specs.reports.model.events.Grants.{grant_of}
use Rattle.report_read.specs.reports.model.events.Inode.{Inode}
use Rattle.report_read.specs.reports.model.events.Integrity as model
use Rattle.report_read.specs.reports.model.events.Integrity.{Collection, digest_from, integrity}
use Rattle.report_read.specs.reports.model.events.Legal.{EachFollows, Follows}
use Rattle.report_read.specs.reports.model.events.Says.{chunk_told, close_finish_told, finish_told}
use Rattle.report_read.specs.reports.model.events.State.{content, content_after}
use Rattle.report_read.specs.reports.model.events.declared.deed.Deed.{Deed}
use Rattle.report_read.specs.reports.model.events.declared.deed.Deed.TheVariants as deed
use Rattle.report_read.specs.reports.model.events.declared.deed.How.TheVariants as how
use Rattle.report_read.specs.reports.model.events.declared.told.Event.{Event}
use Rattle.report_read.specs.reports.model.events.declared.told.Grant.{Grant}
use Rattle.report_read.specs.reports.model.events.declared.told.Told.{Told}
use Rattle.report_read.specs.reports.model.events.declared.told.Told.TheVariants as told
use Rattle.report_read.specs.reports.model.events.hashes.Digest.{digest_of}
use Rattle.report_read.specs.reports.model.events.hashes.declared.algo.Algo.{Algo}
use Rattle.report_read.specs.reports.model.events.hashes.declared.digest.Digest.{Digest}
use Rattle.report_read.specs.reports.model.events.meta.declared.step.Who.{Who}
use Rattle.report_read.specs.reports.model.events.pages.Content.{is_last_piece, overwritten, resized, with_zeros_to}
use Rattle.report_read.specs.reports.model.events.templates.declared.entry.Placed.{Placed}
use Rattle.view_journal.specs.declared.kinds.Collection.{Collection as Seen}
use Rattle.view_journal.specs.declared.kinds.Freshness.{Freshness}
use Rattle.view_journal.specs.declared.kinds.Freshness.TheVariants as fresh
use Rattle.view_journal.specs.Promises.{AsHashedIsSound, finished_by, last_finished}
use Rattle.view_journal.specs.State.{begun, collecting, collecting_after, freshness, freshness_after, hashed, one_more, touched, written}
use Rattle.view_journal.proofs.StagesLemmas.{Stages, of_file, progress, progress_of, stages}

-- ---- the collection that the reader of a report sees

-- while nothing that it took was changed, the collection has the front of the content: at least so
-- many bytes are there before the last piece, and no more after it
record IsSeen (c : Collection) (v : Seen) (bytes : List ℕ) : Type 0 where
  pieces : v.pieces ≡ c.pieces
  complete : v.complete ≡ c.complete
  front : v.hit ≡ false → c.bytes ≡ take (4096 * c.pieces) bytes
  inside : v.hit ≡ false → c.complete ≡ false → 4096 * c.pieces ≤ length bytes
  whole : v.hit ≡ false → c.complete ≡ true → length bytes ≤ 4096 * c.pieces

-- both have a collection, and it is the same one, or both have none
abbrev AreSeen : Option Collection → Option Seen → List ℕ → Type 0
AreSeen None None bytes = Unit {0}
AreSeen (Some c) (Some v) bytes = IsSeen c v bytes
AreSeen _ _ bytes = ⊥

-- a collection that has just begun has taken nothing
just_begun : (file : ℕ) (closing : Bool) (algo : Algo) (begin : ℕ) (bytes : List ℕ)
    → AreSeen (Some (model.collection_of file closing algo begin)) begun bytes
just_begun file closing algo begin bytes = record {
  pieces = refl;
  complete = refl;
  front = λ n. refl;
  inside = λ n k. omega arith;
  whole = λ n k. cc;
}

-- ---- chunks

-- pieces of n bytes join to a front of the content
pieces_join : (n k : ℕ) (xs bytes : List ℕ) → bytes ≡ take (n * k) xs
    → (bytes ++ take n (drop (n * k) xs)) ≡ take (n * (k + 1)) xs
pieces_join n k xs bytes e =
    let f : n * (k + 1) ≡ n * k + n = grind arith in
    ap (λ (x : List ℕ). x ++ take n (drop (n * k) xs)) e
    ∙ (sym (take-add (n * k) n xs) ∙ ap (λ (m : ℕ). take m xs) (sym f))

-- after a piece that isn't the last, the content goes on
more_follows : (bytes : List ℕ) (c : Collection) → chunk_told bytes (Some c) ≡ Some told.More
    → 4096 * (c.pieces + 1) ≤ length bytes
more_follows bytes c h = at (is_last_piece bytes c.pieces) refl h where
  at : (b : Bool) → is_last_piece bytes c.pieces ≡ b
      → Some (cond b told.Last told.More) ≡ Some told.More
      → 4096 * (c.pieces + 1) ≤ length bytes
  at true e k = cc
  at false e k =
      let past : 4096 * (c.pieces + 1) < length bytes
      = leb-false (length bytes) (4096 * (c.pieces + 1)) e in omega (arith, past)

-- after the last piece, it doesn't
none_follows : (bytes : List ℕ) (c : Collection) → chunk_told bytes (Some c) ≡ Some told.Last
    → length bytes ≤ 4096 * (c.pieces + 1)
none_follows bytes c h = at (is_last_piece bytes c.pieces) refl h where
  at : (b : Bool) → is_last_piece bytes c.pieces ≡ b
      → Some (cond b told.Last told.More) ≡ Some told.Last
      → length bytes ≤ 4096 * (c.pieces + 1)
  at true e k = leb-true (length bytes) (4096 * (c.pieces + 1)) e
  at false e k = cc

-- after a chunk that isn't the last
more_seen : (bytes : List ℕ) (o : Option Collection) (v : Option Seen)
    → chunk_told bytes o ≡ Some told.More → AreSeen o v bytes
    → AreSeen (model.collected_more bytes false o) (one_more false v) bytes
more_seen bytes None v h s = cc
more_seen bytes (Some c) None h s = absurd s
more_seen bytes (Some c) (Some v) h s = record {
  pieces = ap (λ (n : ℕ). n + 1) s.pieces;
  complete = refl;
  front = λ n. pieces_join 4096 c.pieces bytes c.bytes (s.front n);
  inside = λ n k. more_follows bytes c h;
  whole = λ n k. cc;
}

-- after the last chunk
last_seen : (bytes : List ℕ) (o : Option Collection) (v : Option Seen)
    → chunk_told bytes o ≡ Some told.Last → AreSeen o v bytes
    → AreSeen (model.collected_more bytes true o) (one_more true v) bytes
last_seen bytes None v h s = cc
last_seen bytes (Some c) None h s = absurd s
last_seen bytes (Some c) (Some v) h s = record {
  pieces = ap (λ (n : ℕ). n + 1) s.pieces;
  complete = refl;
  front = λ n. pieces_join 4096 c.pieces bytes c.bytes (s.front n);
  inside = λ n k. cc;
  whole = λ n k. none_follows bytes c h;
}

-- ---- writes and truncations

-- the new content has the front of the old one up to this offset
abbrev KeepsFront : ℕ → List ℕ → List ℕ → Type 0
KeepsFront from old new =
    (k : ℕ) → k ≤ from → k ≤ length old → (take k new ≡ take k old) × (k ≤ length new)

-- the front of a content that zeros are appended to
front_kept : (from k : ℕ) (old zeros : List ℕ) → from ≤ length (old ++ zeros) → k ≤ from
    → k ≤ length old → (take k (take from (old ++ zeros)) ≡ take k old)
    × (k ≤ length (take from (old ++ zeros)))
front_kept from k old zeros room le inside = (
  take-take k from (old ++ zeros) le ∙ take-append-le k old zeros inside,
  omega (arith, length-take-le from (old ++ zeros) room, le),
)

-- with its zeros, the content reaches to the offset
zeros_reach : (from : ℕ) (old : List ℕ) → from ≤ length (with_zeros_to from old)
zeros_reach from old =
    rw (
      length-append old (replicate (from - length old) 0),
      length-replicate {A = ℕ} (from - length old) 0,
    )
    (omega arith)

-- a write keeps what is before it
write_keeps : (old : List ℕ) (from : ℕ) (bytes : List ℕ)
    → KeepsFront from old (overwritten old from bytes)
write_keeps old from bytes k le inside =
    let front : List ℕ = take from (with_zeros_to from old) in
    let rest : List ℕ = drop (from + length bytes) old in
    let kept : (take k front ≡ take k old) × (k ≤ length front)
    = front_kept from k old (replicate (from - length old) 0) (zeros_reach from old) le inside in
    let longer : length front ≤ length (front ++ bytes)
    = rw (length-append front bytes) (omega arith) in (
      take-append-le k (front ++ bytes) rest (omega (arith, kept.1, longer))
          ∙ (take-append-le k front bytes kept.1 ∙ kept.0),
      rw (length-append (front ++ bytes) rest) (omega (arith, kept.1, longer)),
    )

-- a truncation keeps what is before it
trunc_keeps : (old : List ℕ) (len : ℕ) → KeepsFront len old (resized old len)
trunc_keeps old len k le inside =
    front_kept len k old (replicate (len - length old) 0) (zeros_reach len old) le inside

-- after a change from this offset on
touch_seen : (old new : List ℕ) (from : ℕ) (o : Option Collection) (v : Option Seen)
    → KeepsFront from old new → AreSeen o v old → AreSeen o (touched from v) new
touch_seen old new from None None keeps s = tt
touch_seen old new from None (Some v) keeps s = absurd s
touch_seen old new from (Some c) None keeps s = absurd s
touch_seen old new from (Some c) (Some v) keeps s =
    let parts : (v.hit || (v.complete || nat_lt from (4096 * v.pieces))) ≡ false
    → (v.hit ≡ false) × (c.complete ≡ false) × (4096 * c.pieces ≤ from)
    = λ n. missed n in
    record {
      pieces = s.pieces;
      complete = s.complete;
      front = λ n. s.front (parts n).0
          ∙ sym (keeps (4096 * c.pieces) (parts n).2 (s.inside (parts n).0 (parts n).1)).0;
      inside = λ n k.
          (keeps (4096 * c.pieces) (parts n).2 (s.inside (parts n).0 (parts n).1)).1;
      whole = λ n k. let no : c.complete ≡ false = (parts n).1 in cc;
    } where
      missed : (v.hit || (v.complete || nat_lt from (4096 * v.pieces))) ≡ false
          → (v.hit ≡ false) × (c.complete ≡ false) × (4096 * c.pieces ≤ from)
      missed n =
          let two = or_parts v.hit (v.complete || nat_lt from (4096 * v.pieces)) n in
          let rest = or_parts v.complete (nat_lt from (4096 * v.pieces)) two.1 in
          let le : 4096 * v.pieces ≤ from = ltb-false from (4096 * v.pieces) rest.1 in
          (two.0, sym s.complete ∙ rest.0, subst (λ (n : ℕ). 4096 * n ≤ from) s.pieces le)

-- ---- the collection after each event

-- a finish grants
finish_ends : (inode : Inode) (g : ℕ) (placed : Placed) (o : Option Collection)
    (before : List Event) (t : Told) → finish_told inode g placed o before ≡ Some t
    → (grant : Grant) × (told.Grant grant ≡ t)
finish_ends inode g placed None before t e = cc
finish_ends inode g placed (Some c) before t e =
    (grant_of inode g placed (digest_from c) before, cc)

-- after a finish no collection is open
seen_nothing : (inode : Inode) (g : ℕ) (before : List Event) (t : Told)
    → (grant : Grant) × (told.Grant grant ≡ t)
    → AreSeen (model.collecting_after inode (deed.Finish g) t before (integrity inode before)) None
    (content before)
seen_nothing inode g before t w =
    subst (λ (x : Told). AreSeen
    (model.collecting_after inode (deed.Finish g) x before (integrity inode before)) None
    (content before)) w.1 tt

-- nor is one after the finish of a close
close_ends : (inode : Inode) (g : ℕ) (before : List Event) (n : ℕ) (t : Told)
    → Some (close_finish_told n) ≡ Some t
    → AreSeen (model.collecting_after inode (deed.CloseFinish g) t before (integrity inode before))
    None (content before)
close_ends inode g before n t e =
    let is : close_finish_told n ≡ t = cc e in
    subst (λ (x : Told). AreSeen
    (model.collecting_after inode (deed.CloseFinish g) x before (integrity inode before)) None
    (content before)) is (at (n == 1)) where
      at : (b : Bool) → AreSeen (model.collecting_after inode (deed.CloseFinish g)
          (cond b told.LabelledDropped told.Dropped) before (integrity inode before)) None
          (content before)
      at true = tt
      at false = tt

-- the reader of the report sees the open collection
abbrev Seeing : Inode → List Event → Type 0
Seeing inode before =
    AreSeen (model.collecting inode before) (collecting (map short before)) (content before)

-- before the birth no collection is open
born_seen : (inode : Inode) (before : List Event) (bytes : List ℕ) → before ≡ []
    → AreSeen (model.collecting inode before) (collecting (map short before)) bytes
born_seen inode before bytes e =
    subst (λ (x : List Event). AreSeen (model.collecting inode x) (collecting (map short x)) bytes)
    (sym e) tt

-- after each event that may follow
seen_on : (inode : Inode) (before : List Event) (who : Who) (d : Deed) (t : Told)
    → Follows inode before who d t → Seeing inode before
    → AreSeen (model.collecting_after inode d t before (integrity inode before))
    (collecting_after (short_deed d) (short_told t) (collecting (map short before)))
    (content_after d t (content before))
seen_on inode before who deed.Birth t h s = born_seen inode before _ h.0
seen_on inode before who (deed.Count (how.Read create)) t h s = s
seen_on inode before who (deed.Count (how.Write read create)) t h s = s
seen_on inode before who (deed.Count how.Exec) t h s = s
seen_on inode before who (deed.Take g) told.Begun h s = just_begun g _ _ _ (content before)
seen_on inode before who (deed.CloseTake g) told.Begun h s = just_begun g _ _ _ (content before)
seen_on inode before who (deed.Chunk g) told.More h s =
    more_seen (content before) (model.collecting inode before) (collecting (map short before)) h.2 s
seen_on inode before who (deed.Chunk g) told.Last h s =
    last_seen (content before) (model.collecting inode before) (collecting (map short before)) h.2 s
seen_on inode before who (deed.CloseChunk g) told.More h s =
    more_seen (content before) (model.collecting inode before) (collecting (map short before)) h.2 s
seen_on inode before who (deed.CloseChunk g) told.Last h s =
    last_seen (content before) (model.collecting inode before) (collecting (map short before)) h.2 s
seen_on inode before who (deed.Finish g) t h s =
    seen_nothing inode g before t
    (finish_ends inode g _ (model.collecting inode before) before t h.2)
seen_on inode before who (deed.CloseFinish g) t h s = close_ends inode g before _ t h.2
seen_on inode before who (deed.Write g from bytes) told.Done h s =
    touch_seen (content before) (overwritten (content before) from bytes) from
    (model.collecting inode before) (collecting (map short before))
    (write_keeps (content before) from bytes) s
seen_on inode before who (deed.Trunc g len) told.Done h s =
    touch_seen (content before) (resized (content before) len) len
    (model.collecting inode before) (collecting (map short before))
    (trunc_keeps (content before) len) s
seen_on inode before who (deed.SetAttr name None admin) t h s = s
seen_on inode before who (deed.SetAttr name (Some bytes) admin) t h s = s
seen_on inode before who d t h s = s

-- along a legal journal
seeing : (inode : Inode) (events : List Event) → EachFollows inode events → Seeing inode events
seeing inode [] h = tt
seeing inode (x ∷ before) h =
    seen_on inode before x.who x.deed x.told h.0 (seeing inode before h.1)

-- ---- the digest

-- the digest is that of the content
abbrev IsOf : Option Digest → List ℕ → Type 0
IsOf o bytes = (d : Digest) × (o ≡ Some d) × (d ≡ digest_of d.algo bytes)

-- a finished collection that wasn't hit gives the digest of the content
finished : (bytes : List ℕ) (o : Option Collection) (v : Option Seen) (g : ℕ)
    → progress_of o g ≡ Some true → AreSeen o v bytes → hashed v ≡ fresh.AsHashed
    → IsOf (option_map digest_from o) bytes
finished bytes None v g p s h = cc
finished bytes (Some c) None g p s h = absurd s
finished bytes (Some c) (Some v) g p s h = at v.hit refl h where
  at : (b : Bool) → v.hit ≡ b → cond b fresh.Written fresh.AsHashed ≡ fresh.AsHashed
      → IsOf (Some (digest_from c)) bytes
  at true e k = cc
  at false e k =
      let all : c.bytes ≡ bytes
      = s.front e ∙ take_all (4096 * c.pieces) bytes (s.whole e (of_file c g true p).1) in
      (digest_from c, refl, ap (digest_of c.algo) all)

-- after a write the content isn't as hashed
written_not : (f : Freshness) → written f ≡ fresh.AsHashed → ⊥
written_not fresh.NotHashed e = cc
written_not fresh.AsHashed e = cc
written_not fresh.Written e = cc

-- where the strip says `as hashed`, the last finished digest is that of the content
abbrev Sound : Inode → List Event → Type 0
Sound inode before = freshness (map short before) ≡ fresh.AsHashed
    → IsOf (last_finished inode before) (content before)

-- before the birth nothing is hashed
not_hashed : (before : List Event) → before ≡ [] → freshness (map short before) ≡ fresh.AsHashed → ⊥
not_hashed before e h =
    let no : freshness (map short []) ≡ fresh.AsHashed
    = subst (λ (x : List Event). freshness (map short x) ≡ fresh.AsHashed) e h in cc

-- after each event that may follow
sound_on : (inode : Inode) (before : List Event) (who : Who) (d : Deed) (t : Told)
    → Follows inode before who d t → Stages inode before → Seeing inode before
    → Sound inode before
    → freshness_after (short_deed d) (short_told t) (collecting (map short before))
    (freshness (map short before)) ≡ fresh.AsHashed
    → IsOf (finished_by d t (integrity inode before).collecting (last_finished inode before))
    (content_after d t (content before))
sound_on inode before who deed.Birth t h l s i e = absurd (not_hashed before h.0 e)
sound_on inode before who (deed.Count (how.Read create)) t h l s i e = i e
sound_on inode before who (deed.Count (how.Write read create)) t h l s i e = i e
sound_on inode before who (deed.Count how.Exec) t h l s i e = i e
sound_on inode before who (deed.Finish g) t h l s i e =
    finished (content before) (model.collecting inode before) (collecting (map short before)) g
    (l g true (ap progress h.1)) s e
sound_on inode before who (deed.CloseFinish g) told.LabelledDropped h l s i e =
    finished (content before) (model.collecting inode before) (collecting (map short before)) g
    (l g true (ap progress h.1)) s e
sound_on inode before who (deed.Write g from bytes) told.Done h l s i e =
    absurd (written_not (freshness (map short before)) e)
sound_on inode before who (deed.Trunc g len) told.Done h l s i e =
    absurd (written_not (freshness (map short before)) e)
sound_on inode before who (deed.SetAttr name None admin) t h l s i e = i e
sound_on inode before who (deed.SetAttr name (Some bytes) admin) t h l s i e = i e
sound_on inode before who d t h l s i e = i e

-- along a legal journal
sound : (inode : Inode) (events : List Event) → EachFollows inode events → Sound inode events
sound inode [] h e = cc
sound inode (x ∷ before) h e =
    sound_on inode before x.who x.deed x.told h.0 (stages inode before h.1)
    (seeing inode before h.1) (sound inode before h.1) e

pub as_hashed_is_sound : AsHashedIsSound
as_hashed_is_sound inode before legal e = sound inode before legal.1 e

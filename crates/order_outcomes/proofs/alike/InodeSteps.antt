-- The entry that a step asks for and its outcome, in two journals in which the same files have
-- other names.
use Rattle.std.proofs.Common.{◌≡◌, ℕ, Bool, true, false, cond, List, Option, Some, None, is_some, option_map, refl, ap, ap₂, sym, ◌∙◌}
use Rattle.report_text.specs.model.events.Asked.{asked, measured_if, outcome, placed_for, violation_in}
use Rattle.report_text.specs.model.events.Checks.{Check, last_check}
use Rattle.report_text.specs.model.events.Files.{execs, is_writing, readers, writers}
use Rattle.report_text.specs.model.events.Inode.{Inode}
use Rattle.report_text.specs.model.events.Integrity.{Collection, Digests, collecting, digest_from, digests_of, in_force, label, label_in}
use Rattle.report_text.specs.model.events.Listing.{signature_in, template_for}
use Rattle.report_text.specs.model.events.Marks.{is_label_due, must_measure}
use Rattle.report_text.specs.model.events.NewestFirst.{newest_first}
use Rattle.report_text.specs.model.events.Says.{check_told, chunk_told, close_finish_told, close_take_told, count_told, finish_told, place_of, read_told, says, set_attr_told, set_meta_told, take_told, unless_collecting}
use Rattle.report_text.specs.model.events.State.{content, present}
use Rattle.report_text.specs.model.events.declared.deed.Deed.{Deed}
use Rattle.report_text.specs.model.events.declared.deed.Deed.TheVariants as deed
use Rattle.report_text.specs.model.events.declared.told.Event.{Event}
use Rattle.report_text.specs.model.events.declared.told.Grant.{Grant}
use Rattle.report_text.specs.model.events.declared.told.Told.{Told}
use Rattle.report_text.specs.model.events.declared.told.Told.TheVariants as told
use Rattle.report_text.specs.model.events.hashes.declared.digest.Digest.{Digest}
use Rattle.report_text.specs.model.events.pages.Content.{bytes_at, is_last_piece}
use Rattle.report_text.specs.model.events.templates.Entries.{entry_of}
use Rattle.report_text.specs.model.events.templates.declared.entry.Entry.{Entry}
use Rattle.report_text.specs.model.events.templates.declared.entry.Placed.{Placed}
use Rattle.report_text.specs.model.events.templates.xattrs.Attrs.{Pair}
use Rattle.order_outcomes.proofs.alike.InodeGrants.{grant_same}
use Rattle.report_text.specs.model.events.Grants.{grant_of}
use Rattle.order_outcomes.proofs.alike.InodeIntegrity.{chosen_same, taken_same}
use Rattle.order_outcomes.proofs.alike.InodeLaws.{IsUsed, deed_named, file_in}
use Rattle.order_outcomes.proofs.alike.InodeMarks.{writing_same}
use Rattle.order_outcomes.proofs.alike.InodeRetold.{told_with}
use Rattle.order_outcomes.proofs.alike.InodeSaid.{said_with}
use Rattle.order_outcomes.proofs.alike.InodeSeen.{given_in, given_seen, some_map}
use Rattle.order_outcomes.specs.alike.Alike.{CollectionSeen, DigestsSeen, IsInodeAlike, collection_seen, digests_seen}

-- ---- by what is seen

-- the entry that measures a file, by what is seen of the digests
abbrev measured_by : Bool → Inode → Check → Option (List ℕ) → Option DigestsSeen → Option Entry
measured_by true inode check label (Some s) =
    Some (entry_of check.action.pcr (template_for inode check.action) s.digest s.sha1 inode.path
    (signature_in label))
measured_by _ inode check label _ = None

-- the entry depends on nothing else
measured_seen : (measures : Bool) (inode : Inode) (file : ℕ) (o : Option Digests) (p : List Event)
    → measured_if measures inode file o p
    ≡ measured_by measures inode (last_check file p) (label inode p)
    (option_map (digests_seen p) o)
measured_seen true inode file (Some f) p = refl
measured_seen true inode file None p = refl
measured_seen false inode file o p = refl

-- the outcome of a chunk
abbrev chunk_by : List ℕ → Option CollectionSeen → Option Told
chunk_by content None = None
chunk_by content (Some s) = Some (cond (is_last_piece content s.pieces) told.Last told.More)

-- it depends on nothing else
chunk_seen : (p : List Event) (content : List ℕ) (o : Option Collection)
    → chunk_told content o ≡ chunk_by content (option_map (collection_seen p) o)
chunk_seen p content None = refl
chunk_seen p content (Some c) = refl

-- a step that waits for the integrity mutex
unless_some : (o : Option Collection) (t : Told)
    → unless_collecting o t ≡ cond (is_some o) None (Some t)
unless_some None t = refl
unless_some (Some c) t = refl

module _ (inode : Inode) (list list2 : List Entry) (used : ℕ → Bool) (r : ℕ → ℕ) (j j2 : List Event)
    (s : IsInodeAlike inode list list2 used r j j2) where
  -- ---- the entry

  -- a collection is open in both, or in neither
  busy_same : is_some (collecting inode (newest_first j2))
      ≡ is_some (collecting inode (newest_first j))
  busy_same =
      sym (some_map (collection_seen (newest_first j2)) (collecting inode (newest_first j2)))
      ∙ ap (λ (o : Option CollectionSeen). is_some o) s.collection
      ∙ some_map (collection_seen (newest_first j)) (collecting inode (newest_first j))

  -- the same entry measures the file
  measured_same : (file : ℕ) → used file ≡ true → (o2 o : Option Digests)
      → option_map (digests_seen (newest_first j2)) o2
      ≡ option_map (digests_seen (newest_first j)) o
      → measured_if (last_check (r file) (newest_first j2)).action.measure inode (r file) o2
      (newest_first j2)
      ≡ measured_if (last_check file (newest_first j)).action.measure inode file o (newest_first j)
  measured_same file u o2 o h =
      measured_seen (last_check (r file) (newest_first j2)).action.measure inode (r file) o2
      (newest_first j2)
      ∙ ap (λ (c : Check). measured_by c.action.measure inode c (label inode (newest_first j2))
      (option_map (digests_seen (newest_first j2)) o2)) (s.checks file u)
      ∙ ap₂ (λ (a : List Pair) (d : Option DigestsSeen). measured_by
      (last_check file (newest_first j)).action.measure inode (last_check file (newest_first j))
      (label_in a) d) s.attributes_in h
      ∙ sym (measured_seen (last_check file (newest_first j)).action.measure inode file o
      (newest_first j))

  -- the digests of both collections
  given_both : option_map (digests_seen (newest_first j2))
      (option_map digests_of (collecting inode (newest_first j2)))
      ≡ option_map (digests_seen (newest_first j))
      (option_map digests_of (collecting inode (newest_first j)))
  given_both =
      given_in (newest_first j2) (collecting inode (newest_first j2))
      ∙ ap (λ (o : Option CollectionSeen). option_map given_seen o) s.collection
      ∙ sym (given_in (newest_first j) (collecting inode (newest_first j)))

  -- a check finds the same violation
  violation_same : (file : ℕ) → used file ≡ true → (measures : Bool) (place : ℕ)
      → check_told (is_writing (r file) (newest_first j2)) measures (readers (newest_first j2))
      (writers (newest_first j2)) (must_measure (newest_first j2)) place
      ≡ check_told (is_writing file (newest_first j)) measures (readers (newest_first j))
      (writers (newest_first j)) (must_measure (newest_first j)) place
  violation_same file u measures place =
      ap₂ (λ (w : Bool) (n : ℕ). check_told w measures n (writers (newest_first j2))
      (must_measure (newest_first j2)) place) (writing_same inode list list2 used r j j2 s file u)
      s.readers_in
      ∙ ap₂ (λ (n : ℕ) (m : Bool). check_told (is_writing file (newest_first j)) measures
      (readers (newest_first j)) n m place) s.writers_in s.must_measure_in

  -- the step asks for the same entry
  pub asked_alike : (d : Deed) → IsUsed used (file_in d)
      → asked inode (deed_named r d) (newest_first j2) ≡ asked inode d (newest_first j)
  asked_alike (deed.Check file func action rules) u =
      ap (λ (t : Told). violation_in inode t) (violation_same file u action.measure 0)
  asked_alike (deed.Take file) u =
      ap₂ (λ (b : Bool) (e : Option Entry). cond b None e) busy_same
      (measured_same file u (in_force inode (newest_first j2))
      (in_force inode (newest_first j)) s.digests)
  asked_alike (deed.Finish file) u =
      measured_same file u (option_map digests_of (collecting inode (newest_first j2)))
      (option_map digests_of (collecting inode (newest_first j))) given_both
  asked_alike d u = refl

  -- ---- the outcome

  -- a step waits for the integrity mutex in both
  unless_same : (t2 t : Told) → t2 ≡ t
      → unless_collecting (collecting inode (newest_first j2)) t2
      ≡ unless_collecting (collecting inode (newest_first j)) t
  unless_same t2 t h =
      unless_some (collecting inode (newest_first j2)) t2
      ∙ ap₂ (λ (b : Bool) (x : Told). cond b None (Some x)) busy_same h
      ∙ sym (unless_some (collecting inode (newest_first j)) t)

  -- a chunk
  chunk_same : chunk_told (content (newest_first j2)) (collecting inode (newest_first j2))
      ≡ chunk_told (content (newest_first j)) (collecting inode (newest_first j))
  chunk_same =
      chunk_seen (newest_first j2) (content (newest_first j2)) (collecting inode (newest_first j2))
      ∙ ap₂ (λ (c : List ℕ) (o : Option CollectionSeen). chunk_by c o) s.content_in s.collection
      ∙ sym (chunk_seen (newest_first j) (content (newest_first j))
      (collecting inode (newest_first j)))

  -- a label is due in both
  due_same : is_label_due inode (newest_first j2) ≡ is_label_due inode (newest_first j)
  due_same = rw (s.update_in, s.attributes_in, s.new_in, s.versions_in, s.modified)

  -- a change of attributes
  set_attr_same : (name : List ℕ) (bytes : Option (List ℕ)) (admin : Bool)
      → set_attr_told inode name bytes admin (newest_first j2)
      ≡ set_attr_told inode name bytes admin (newest_first j)
  set_attr_same name bytes admin = rw (s.present_in, s.attributes_in, s.metadata_in, s.new_in)

  -- a change of mode or owner
  set_meta_same : set_meta_told inode (newest_first j2) ≡ set_meta_told inode (newest_first j)
  set_meta_same = rw (s.present_in, s.attributes_in, s.metadata_in)

  module _ (file : ℕ) (u : used file ≡ true) (placed : Placed) where
    -- a take
    take_same : (o2 o : Option Digests)
        → option_map (λ (f : Digests). f.digest) o2 ≡ option_map (λ (f : Digests). f.digest) o
        → take_told inode (r file) placed o2 (newest_first j2)
        ≡ take_told inode file placed o (newest_first j)
    take_same None None h = refl
    take_same None (Some f) h = cc
    take_same (Some f2) None h = cc
    take_same (Some f2) (Some f) h =
        let same : f2.digest ≡ f.digest = cc in
        ap (λ (d : Digest). told.Grant (grant_of inode (r file) placed d (newest_first j2))) same
        ∙ ap told.Grant (grant_same inode list list2 used r j j2 s file u placed f.digest)

    -- a finish
    finish_same : (o2 o : Option Collection)
        → option_map digest_from o2 ≡ option_map digest_from o
        → finish_told inode (r file) placed o2 (newest_first j2)
        ≡ finish_told inode file placed o (newest_first j)
    finish_same None None h = refl
    finish_same None (Some c) h = cc
    finish_same (Some c2) None h = cc
    finish_same (Some c2) (Some c) h =
        let same : digest_from c2 ≡ digest_from c = cc in
        ap (λ (d : Digest). Some (told.Grant (grant_of inode (r file) placed d (newest_first j2))))
        same ∙ ap (λ (g : Grant). Some (told.Grant g))
        (grant_same inode list list2 used r j j2 s file u placed (digest_from c))

  -- the outcome for one reply of the list
  says_alike : (placed : Placed) (d : Deed) → IsUsed used (file_in d)
      → says inode (newest_first j2) placed (deed_named r d) ≡ says inode (newest_first j) placed d
  says_alike placed (deed.Count how) u =
      ap (λ (b : Bool). Some
      (count_told how b (writers (newest_first j2)) (execs (newest_first j2)))) s.present_in
      ∙ ap₂ (λ (w e : ℕ). Some (count_told how (present (newest_first j)) w e))
      s.writers_in s.execs_in
  says_alike placed (deed.Check file func action rules) u =
      ap (λ (t : Told). Some t) (violation_same file u action.measure (place_of placed))
  says_alike placed (deed.Take file) u =
      unless_same _ _ (take_same file u placed (in_force inode (newest_first j2))
      (in_force inode (newest_first j)) (chosen_same inode list list2 used r j j2 s))
  says_alike placed (deed.Chunk file) u = chunk_same
  says_alike placed (deed.Finish file) u =
      finish_same file u placed (collecting inode (newest_first j2))
      (collecting inode (newest_first j)) (taken_same inode list list2 used r j j2 s)
  says_alike placed (deed.Read file from len) u =
      ap (λ (c : List ℕ). Some (read_told (bytes_at c from len))) s.content_in
  says_alike placed (deed.SetAttr name bytes admin) u =
      unless_same _ _ (set_attr_same name bytes admin)
  says_alike placed (deed.SetMeta change) u = unless_same _ _ set_meta_same
  says_alike placed (deed.CloseTake file) u =
      unless_same _ _
      (ap₂ (λ (b : Bool) (n : ℕ). close_take_told b n) due_same s.writers_in)
  says_alike placed (deed.CloseChunk file) u = chunk_same
  says_alike placed (deed.CloseFinish file) u =
      ap (λ (n : ℕ). Some (close_finish_told n)) s.writers_in
  says_alike placed d u = refl

  -- the step has the same outcome, but for the list's reply
  pub outcome_alike : (d : Deed) → IsUsed used (file_in d)
      → outcome inode list2 (deed_named r d) (newest_first j2)
      ≡ option_map (told_with (placed_for list2 (asked inode d (newest_first j))))
      (outcome inode list d (newest_first j))
  outcome_alike d u =
      let q = placed_for list2 (asked inode d (newest_first j)) in
      ap (λ (e : Option Entry). says inode (newest_first j2) (placed_for list2 e) (deed_named r d))
      (asked_alike d u)
      ∙ says_alike q d u
      ∙ said_with q (placed_for list (asked inode d (newest_first j))) inode (newest_first j) d

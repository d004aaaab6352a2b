-- Three complete runs over one file: a task opens it, reads and closes it; a writer opens it while
-- there is a reader; two readers open it while there is a writer. Each journal is legal, its
-- entries are in its list, the list is merged from it, and each read is covered.
use Rattle.std.proofs.Common.{◌≡◌, ℕ, zero, suc, ◌+◌, ◌<◌, Bool, true, false, List, [], ◌∷◌, ◌++◌, codes, Option, Some, None, refl, ap, sym, subst, arith, inl, inr, lit<}
use Rattle.std.specs.Prelude.{◌&&◌, nat_le, ◌⊎◌, All, Contains, slice_get, if◌then◌else◌, ◌==◌}
use Rattle.std.proofs.lemmas.List.Elements.{All-cons, All-contains, All-nil}
use Rattle.std.proofs.lemmas.Bool.{and_parts, leb-true}
use Rattle.std.proofs.lemmas.Option.{none-some}
use Rattle.hash_algos.proofs.HashLemmas.{length-hash}
use Rattle.ima_templates.proofs.SameLemmas.{same_data-fields}
use Rattle.ima_templates.specs.IsEntry.{IsEntry}
use Rattle.ima_templates.specs.Path.{IsGraphic}
use Rattle.hash_algos.specs.Digest.{digest_of, zero_digest}
use Rattle.hash_algos.specs.declared.algo.Algo.TheVariants.{Sha256}
use Rattle.ima_templates.specs.Same.{place_of_same, same}
use Rattle.ima_templates.specs.declared.entry.Entry.{Entry}
use Rattle.ima_templates.specs.declared.entry.Placed.{Placed}
use Rattle.ima_templates.specs.declared.entry.Placed.TheVariants.{Added, Already}
use Rattle.inode_meta.specs.declared.measurement.Template.TheVariants.{ImaNg}
use Rattle.policy_rules.specs.declared.rule.Func.TheVariants.{FileCheck}
use Rattle.inode_meta.specs.declared.step.Who.{Who}
use Rattle.inode_events.specs.Inode.{Inode}
use Rattle.inode_events.specs.Checks.{no_action}
use Rattle.inode_events.specs.Coverage.{IsAnswered, IsCovered, ShowsContent, ShowsViolation}
use Rattle.inode_events.specs.Legal.{Legal}
use Rattle.inode_events.specs.Listing.{IsListed, violated}
use Rattle.inode_events.specs.Merged.{IsMerged, Journal, Named, PlacesRise, places_added, times_added}
use Rattle.inode_events.specs.Stage.{stage, stage_in}
use Rattle.inode_events.specs.declared.deed.Deed.{Deed}
use Rattle.inode_events.specs.declared.deed.Deed.TheVariants as deed
use Rattle.inode_events.specs.declared.deed.How.TheVariants as how
use Rattle.inode_events.specs.declared.told.Event.{Event}
use Rattle.inode_events.specs.declared.told.Told.{Told}
use Rattle.inode_events.specs.declared.told.Told.TheVariants as told
use Rattle.inode_events.proofs.Deciding.{covered_by, has_none, legal_by, listed_by, merged_by, one_has, onto}
use Rattle.inode_events.proofs.EntryExamples.{file_entry, violation_entry}
use Rattle.inode_events.proofs.Examples.{abc, born, grant, measure, plain}

-- a step of a task
abbrev pub did : ℕ → ℕ → ℕ → Deed → Told → Event
did task call step d t =
    record { who = record { task = task; call = call; step = step }; deed = d; told = t }

-- a grant that reports an index of the list
abbrev pub granted : Placed → Told
granted placed = told.Grant (grant (Some placed) None true false)

-- the boot aggregate of a machine without a TPM
abbrev pub boot : Entry
boot = record {
  pcr = 10;
  template = ImaNg;
  digest = zero_digest Sha256;
  name = codes "boot_aggregate";
  sig = [];
  violation = false;
}

-- ---- the three runs, oldest event first

-- the events of `open 0 /a r`
abbrev before_read : List Event
before_read =
    did 0 0 0 (deed.Count (how.Read false)) told.Held ∷
    did 0 0 1 (deed.Check 1 FileCheck measure 1) told.Quiet ∷
    did 0 0 2 (deed.Take 1) told.Begun ∷
    did 0 0 3 (deed.Chunk 1) told.Last ∷
    did 0 0 4 (deed.Finish 1) (granted (Added 1)) ∷
    []

-- the first run: `open 0 /a r`, then `read 0 0 3` and `close 0`
abbrev pub reading : List Event
reading =
    before_read ++
    did 0 1 0 (deed.Read 1 0 3) (told.Read 3 (digest_of Sha256 abc)) ∷
    did 0 2 0 (deed.Close 1) told.Dropped ∷
    []

-- the second run: task 0 opens for reading, and then task 1 for writing
abbrev pub overtaken : List Event
overtaken =
    before_read ++
    did 1 0 0 (deed.Count (how.Write false false)) told.Held ∷
    did 1 0 1 (deed.Check 6 FileCheck no_action 1) (told.ToMToU 2) ∷
    []

-- the third run: task 0 opens for writing, and then tasks 1 and 2 for reading
abbrev pub beside_writer : List Event
beside_writer =
    did 0 0 0 (deed.Count (how.Write false false)) told.Held ∷
    did 0 0 1 (deed.Check 1 FileCheck no_action 1) told.Quiet ∷
    did 1 0 0 (deed.Count (how.Read false)) told.Held ∷
    did 1 0 1 (deed.Check 3 FileCheck measure 1) (told.OpenWriters 1) ∷
    did 1 0 2 (deed.Take 3) told.Begun ∷
    did 1 0 3 (deed.Chunk 3) told.Last ∷
    did 1 0 4 (deed.Finish 3) (granted (Added 2)) ∷
    did 2 0 0 (deed.Count (how.Read false)) told.Held ∷
    did 2 0 1 (deed.Check 8 FileCheck measure 1) (told.OpenWriters 3) ∷
    did 2 0 2 (deed.Take 8) (granted (Already 2)) ∷
    []

-- the journal of a run
abbrev pub journal_of : List Event → List Event
journal_of events = onto (born plain) events

-- the list of the first run
abbrev pub reading_list : List Entry
reading_list = boot ∷ file_entry ∷ []

-- the list of the second run
abbrev pub overtaken_list : List Entry
overtaken_list = boot ∷ file_entry ∷ violation_entry ∷ []

-- the list of the third run
abbrev pub beside_list : List Entry
beside_list = boot ∷ violation_entry ∷ file_entry ∷ violation_entry ∷ []

-- ---- legal

-- the first journal is legal
reading_legal : Legal plain (journal_of reading)
reading_legal = legal_by plain reading refl refl

-- the second journal is legal
overtaken_legal : Legal plain (journal_of overtaken)
overtaken_legal = legal_by plain overtaken refl refl

-- the third journal is legal
beside_legal : Legal plain (journal_of beside_writer)
beside_legal = legal_by plain beside_writer refl refl

-- a journal in which a writer's check is quiet although there is a violation
abbrev unheard : List Event
unheard =
    did 1 0 1 (deed.Check 6 FileCheck no_action 1) told.Quiet ∷
    did 1 0 0 (deed.Count (how.Write false false)) told.Held ∷
    did 0 0 4 (deed.Finish 1) (granted (Added 1)) ∷
    did 0 0 3 (deed.Chunk 1) told.Last ∷
    did 0 0 2 (deed.Take 1) told.Begun ∷
    did 0 0 1 (deed.Check 1 FileCheck measure 1) told.Quiet ∷
    did 0 0 0 (deed.Count (how.Read false)) told.Held ∷
    born plain

-- the journal isn't legal, since the check's outcome isn't the one that the journal determines
unheard_illegal : Legal plain unheard → ⊥
unheard_illegal legal = cc legal.1.0.2

-- ---- the stage of a file by the events of its own task

-- the stage of the writer's file follows from the events of task 1 alone
own_stage : stage_in plain 6 ((
  7,
  did 1 0 1 (deed.Check 6 FileCheck no_action 1) (told.ToMToU 2),
) ∷ (
  6,
  did 1 0 0 (deed.Count (how.Write false false)) told.Held,
) ∷ [])
    ≡ stage plain 6 (journal_of overtaken)
own_stage = refl

-- ---- the entries are in the list

-- the list of the first run has the entries of its journal
reading_listed : IsListed plain reading_list (journal_of reading)
reading_listed = listed_by plain reading_list (journal_of reading) refl refl

-- the list of the second run has the entries of its journal
overtaken_listed : IsListed plain overtaken_list (journal_of overtaken)
overtaken_listed = listed_by plain overtaken_list (journal_of overtaken) refl refl

-- a list without the violation doesn't have the entries of the second journal
unlisted : IsListed plain reading_list (journal_of overtaken) → ⊥
unlisted listed = none-some violation_entry listed.0

-- ---- the entries that are the same

-- all bytes are printing ASCII bytes other than the space
abbrev are_graphic : List ℕ → Bool
are_graphic [] = true
are_graphic (b ∷ rest) = (nat_le 0x21 b && nat_le b 0x7e) && are_graphic rest

-- bytes that pass `are_graphic` are graphic
graphic : (bytes : List ℕ) → are_graphic bytes ≡ true → All IsGraphic bytes
graphic [] g = All-nil IsGraphic
graphic (b ∷ rest) g =
    let parts = and_parts (nat_le 0x21 b && nat_le b 0x7e) (are_graphic rest) g in
    let ends = and_parts (nat_le 0x21 b) (nat_le b 0x7e) parts.0 in
    All-cons IsGraphic b rest (
      leb-true 0x21 b ends.0,
      leb-true b 0x7e ends.1,
    ) (graphic rest parts.1)

-- the boot aggregate is a valid entry
boot_valid : IsEntry boot
boot_valid = record {
  pcr = lit< tt;
  digest_size = refl;
  digest_of_ima = λ e. cc;
  name_not_empty = omega arith;
  name_at_most = omega arith;
  name_graphic = graphic boot.name refl;
  name_of_ima = λ e. cc;
  sig_at_most = omega arith;
  sig_of_ima = λ e. refl;
  sig_of_ima_ng = λ e. refl;
  violation = λ e. cc;
}

-- the entry of the file is a valid entry
file_valid : IsEntry file_entry
file_valid = record {
  pcr = lit< tt;
  digest_size = length-hash Sha256 abc;
  digest_of_ima = λ e. cc;
  name_not_empty = omega arith;
  name_at_most = omega arith;
  name_graphic = graphic file_entry.name refl;
  name_of_ima = λ e. cc;
  sig_at_most = omega arith;
  sig_of_ima = λ e. refl;
  sig_of_ima_ng = λ e. refl;
  violation = λ e. cc;
}

-- the file's entry is the same as itself
file_same : same file_entry file_entry ≡ true
unfolding same
file_same = sym (same_data-fields file_entry file_entry true file_valid file_valid refl
    ((λ y. (refl, refl, refl)), (λ f. refl)))

-- the boot aggregate isn't the same as the file's entry, since the names differ
boot_apart : same boot file_entry ≡ false
unfolding same
boot_apart = sym (same_data-fields boot file_entry false boot_valid file_valid refl (
  (λ y. cc),
  (λ f. other_name f.1),
)) where
  other_name : boot.name ≡ file_entry.name → false ≡ true
  other_name e = cc

-- a violation isn't the same as the file's entry
violation_apart : same violation_entry file_entry ≡ false
unfolding same
violation_apart = refl

-- the first entry that is the same as the file's is the third one
found_third : place_of_same beside_list file_entry ≡ Some 2
found_third = rw (boot_apart, violation_apart, file_same) refl

-- the list of the third run has the entries of its journal
beside_listed : IsListed plain beside_list (journal_of beside_writer)
beside_listed = listed_by plain beside_list (journal_of beside_writer) refl
    (ap (λ (o : Option ℕ). o ∷ []) found_third)

-- ---- merged

-- one event adds the entry after the boot aggregate
reading_once : (place : ℕ) → place < 2
    → 0 + times_added place (places_added plain (journal_of reading))
    ≡ (if place == 0 then 0 else 1)
reading_once zero b = refl
reading_once (suc zero) b = refl
reading_once (suc (suc k)) b = absurd (omega arith)

-- the list of the first run is merged from its journal
reading_merged : IsMerged boot reading_list (record {
  inode = plain;
  events = journal_of reading;
} ∷ [])
reading_merged =
    merged_by boot reading_list plain
    (journal_of reading) refl reading_listed reading_once refl refl
    (ap (λ (b : Bool). b ∷ []) boot_apart, (refl, tt))

-- the boot aggregate isn't the same as a violation
boot_violation : same boot violation_entry ≡ false
unfolding same
boot_violation = refl

-- the file's entry isn't the same as a violation
file_violation : same file_entry violation_entry ≡ false
unfolding same
file_violation = refl

-- a violation isn't the same as another violation
violation_violation : same violation_entry violation_entry ≡ false
unfolding same
violation_violation = refl

-- in the second run, one event adds each of the two entries after the boot aggregate
overtaken_once : (place : ℕ) → place < 3
    → 0 + times_added place (places_added plain (journal_of overtaken))
    ≡ (if place == 0 then 0 else 1)
overtaken_once zero b = refl
overtaken_once (suc zero) b = refl
overtaken_once (suc (suc zero)) b = refl
overtaken_once (suc (suc (suc k))) b = absurd (omega arith)

-- the list of the second run is merged from its journal
overtaken_merged : IsMerged boot overtaken_list (record {
  inode = plain;
  events = journal_of overtaken;
} ∷ [])
overtaken_merged =
    merged_by boot overtaken_list plain
    (journal_of overtaken) refl overtaken_listed overtaken_once refl refl
    ((λ k. boot_apart k ∷ boot_violation k ∷ []), ((λ k. file_violation k ∷ []), (refl, tt)))

-- in the third run, one event adds each of the three entries after the boot aggregate
beside_once : (place : ℕ) → place < 4
    → 0 + times_added place (places_added plain (journal_of beside_writer))
    ≡ (if place == 0 then 0 else 1)
beside_once zero b = refl
beside_once (suc zero) b = refl
beside_once (suc (suc zero)) b = refl
beside_once (suc (suc (suc zero))) b = refl
beside_once (suc (suc (suc (suc k)))) b = absurd (omega arith)

-- the list of the third run is merged from its journal
beside_merged : IsMerged boot beside_list (record {
  inode = plain;
  events = journal_of beside_writer;
} ∷ [])
beside_merged =
    merged_by boot beside_list plain
    (journal_of beside_writer) refl beside_listed beside_once refl refl (
      (λ k. boot_violation k ∷ boot_apart k ∷ boot_violation k ∷ []),
      (
        (λ k. violation_apart k ∷ violation_violation k ∷ []),
        ((λ k. file_violation k ∷ []), (refl, tt)),
      ),
    )

-- A journal whose event reports that it added the first entry is legal and its entry is in the
-- list, but the list isn't merged from it.
abbrev adds_first : List Event
adds_first =
    did 0 0 0 (deed.Count (how.Read false)) told.Held ∷
    did 0 0 1 (deed.Check 1 FileCheck measure 1) told.Quiet ∷
    did 0 0 2 (deed.Take 1) told.Begun ∷
    did 0 0 3 (deed.Chunk 1) told.Last ∷
    did 0 0 4 (deed.Finish 1) (granted (Added 0)) ∷
    []

-- the journal is legal, and its entry is in the list of that entry only
adds_first_fits : Legal plain (journal_of adds_first)
    × IsListed plain (file_entry ∷ []) (journal_of adds_first)
adds_first_fits = (
  legal_by plain adds_first refl refl,
  listed_by plain (file_entry ∷ []) (journal_of adds_first) refl refl,
)

-- the list isn't merged, since the first entry is the boot aggregate, which no event adds
adds_first_unmerged : IsMerged file_entry (file_entry ∷ []) (record {
  inode = plain;
  events = journal_of adds_first;
} ∷ []) → ⊥
adds_first_unmerged merged = added_once 1 refl (merged.once 0 (lit< tt)) where
  added_once : (times : ℕ) → times ≡ 1 → times ≡ 0 → ⊥
  added_once times is never = absurd (omega arith)

-- A journal in which a later event adds an entry below an earlier one is legal and its entries are
-- in the list, but the list isn't merged from it.
abbrev falls : List Event
falls =
    did 0 0 0 (deed.Count (how.Write false false)) told.Held ∷
    did 0 0 1 (deed.Check 1 FileCheck no_action 1) told.Quiet ∷
    did 1 0 0 (deed.Count (how.Read false)) told.Held ∷
    did 1 0 1 (deed.Check 3 FileCheck measure 1) (told.OpenWriters 2) ∷
    did 2 0 0 (deed.Count (how.Read false)) told.Held ∷
    did 2 0 1 (deed.Check 5 FileCheck measure 1) (told.OpenWriters 1) ∷
    []

-- the list that has the entries of `falls`
abbrev falls_list : List Entry
falls_list = boot ∷ violation_entry ∷ violation_entry ∷ []

-- the journal `falls` is legal, and its entries are in the list
falls_fits : Legal plain (journal_of falls) × IsListed plain falls_list (journal_of falls)
falls_fits =
    (legal_by plain falls refl refl, listed_by plain falls_list (journal_of falls) refl refl)

-- the journal `falls` and its inode
abbrev falls_journal : Journal
falls_journal = record { inode = plain; events = journal_of falls }

-- the list isn't merged, since the last event adds an entry below an index that an earlier one
-- reported
falls_unmerged : IsMerged boot falls_list (falls_journal ∷ []) → ⊥
falls_unmerged merged =
    at (All-contains (λ j. PlacesRise j.inode j.events)
    (falls_journal ∷ []) falls_journal merged.along_journals (0, omega arith, refl)) where
      step : ℕ → Who
      step task = record { task = task; call = 0; step = 1 }

      at : PlacesRise plain (journal_of falls) → ⊥
      at rise =
          let earlier : List Named = (step 1, 2) ∷ [] in
          let last : All (λ (n : Named). n.1 < 1) earlier =
          All-contains (λ (a : Named). All (λ (n : Named). n.1 < a.1) earlier)
          ((step 2, 1) ∷ []) (step 2, 1) rise.0 (0, omega arith, refl) in
          let fell : 2 < 1 =
          All-contains (λ (n : Named). n.1 < 1) earlier (step 1, 2) last (
            0,
            omega arith,
            refl,
          ) in
          absurd (omega arith)

-- A list isn't merged from two journals in which a task's later call adds an entry below its
-- earlier call's.
abbrev other : Inode
other = record plain { path = codes "/b" }

-- task 0 opens the file while there is a writer, in this call, and the outcome reports this index
abbrev beside : ℕ → ℕ → List Event
beside call place =
    did 1 call 0 (deed.Count (how.Write false false)) told.Held ∷
    did 1 call 1 (deed.Check 1 FileCheck no_action 1) told.Quiet ∷
    did 0 call 0 (deed.Count (how.Read false)) told.Held ∷
    did 0 call 1 (deed.Check 3 FileCheck measure 1) (told.OpenWriters place) ∷
    []

-- the list that has the entries of both journals
abbrev cross_list : List Entry
cross_list = boot ∷ violated other ∷ violation_entry ∷ []

-- the journal of the task's earlier call
abbrev first_call : Journal
first_call = record { inode = plain; events = onto (born plain) (beside 0 2) }

-- the journal of the task's later call, on another inode
abbrev second_call : Journal
second_call = record { inode = other; events = onto (born other) (beside 1 1) }

-- both journals are legal, and their entries are in the list
crosses_fit : (Legal plain first_call.events × IsListed plain cross_list first_call.events)
    × (Legal other second_call.events × IsListed other cross_list second_call.events)
crosses_fit = (
  (legal_by plain (beside 0 2) refl refl, listed_by plain cross_list first_call.events refl refl),
  (legal_by other (beside 1 1) refl refl, listed_by other cross_list second_call.events refl refl),
)

-- the list isn't merged, since the later call adds an entry below the index that the earlier one
-- reported
crosses_unmerged : IsMerged boot cross_list (first_call ∷ second_call ∷ []) → ⊥
crosses_unmerged merged =
    let fell : 2 < 1 = merged.along_tasks first_call second_call
    (record { task = 0; call = 0; step = 1 }, 2) (record { task = 0; call = 1; step = 1 }, 1)
    (0, omega arith, refl) (1, omega arith, refl) (0, omega arith, refl) (
      0,
      omega arith,
      refl,
    ) refl in
    absurd (omega arith)

-- ---- the reads are covered

-- the read of the first run is covered by the entry that the grant reports
read_covered : IsCovered plain reading_list 1 (journal_of before_read)
read_covered = covered_by plain reading_list 1 (journal_of before_read) (
  (
    1,
    ((0, omega arith, refl), inl (file_entry, (refl, refl, refl, refl))),
  ),
  tt,
)

-- each of the two readers of the third run is covered by the same entry
beside_covered : IsCovered plain beside_list 3 (journal_of beside_writer)
    × IsCovered plain beside_list 8 (journal_of beside_writer)
beside_covered = (
  covered_by plain beside_list 3 (journal_of beside_writer) (
    (
      2,
      ((0, omega arith, refl), inl (file_entry, (refl, refl, refl, refl))),
    ),
    tt,
  ),
  covered_by plain beside_list 8 (journal_of beside_writer) (
    (
      2,
      ((0, omega arith, refl), inl (file_entry, (refl, refl, refl, refl))),
    ),
    tt,
  ),
)

-- the second run, after its writer has written: a read is then covered by the violation
abbrev written_over : List Event
written_over = did 1 1 0 (deed.Write 6 0 (88 ∷ [])) told.Done ∷ journal_of overtaken

-- the check is answered by the violation, so the read is covered
overtaken_covered : IsCovered plain overtaken_list 1 written_over
overtaken_covered =
    covered_by plain overtaken_list 1 written_over (
      (
        1,
        (
          (0, omega arith, refl),
          inr (2, ((0, omega arith, refl), (violation_entry, (refl, refl, refl)))),
        ),
      ),
      tt,
    )

-- the events of the first run after its check; a list without the entry doesn't cover its read
abbrev lacking_later : List Event
lacking_later = did 0 0 4 (deed.Finish 1) (granted (Added 1)) ∷ did 0 0 3 (deed.Chunk 1) told.Last
    ∷ did 0 0 2 (deed.Take 1) told.Begun ∷ []

-- the check isn't answered: no grant reports an index of that list, and there was no violation
lacking : IsAnswered plain (boot ∷ []) 1 abc lacking_later
    (did 0 0 1 (deed.Check 1 FileCheck measure 1) told.Quiet) → ⊥
lacking answer = at answer.0 (one_has 1 answer.0 answer.1.0) answer.1.1 where
  at : (place : ℕ) → 1 ≡ place → ShowsContent plain (boot ∷ []) abc place
      ⊎ ((violation : ℕ) × (Contains [] violation × ShowsViolation plain (boot ∷ []) violation)) → ⊥
  at place e (inl shown) =
      none-some shown.0 (subst (λ (k : ℕ). slice_get (boot ∷ []) k ≡ Some shown.0)
      (sym e) shown.1.0)
  at place e (inr violation) = has_none violation.0 violation.1.0

-- the read isn't covered, since the check isn't answered
uncovered : IsCovered plain (boot ∷ []) 1 (journal_of before_read) → ⊥
uncovered covered =
    lacking (covered lacking_later (did 0 0 1 (deed.Check 1 FileCheck measure 1) told.Quiet)
    (did 0 0 0 (deed.Count (how.Read false)) told.Held ∷ born plain) refl refl)

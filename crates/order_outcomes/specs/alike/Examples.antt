-- Moments that are alike, and moments that aren't.
use Rattle.std.specs.Prelude.{ℕ, false, true, List, [], ◌∷◌, ◌++◌, codes}
use Rattle.order_outcomes.specs.Examples.{boot, scene, script_file, step, task}
use Rattle.report_text.specs.model.Scene.{Program, Scene}
use Rattle.report_text.specs.model.Turns.{Moment, newborn, start_of, turns_of}
use Rattle.report_text.specs.model.events.declared.deed.Change.TheVariants as change
use Rattle.report_text.specs.model.events.declared.deed.Deed.{Deed}
use Rattle.report_text.specs.model.events.declared.deed.Deed.TheVariants as deed
use Rattle.report_text.specs.model.events.declared.deed.How.TheVariants as how
use Rattle.report_text.specs.model.events.declared.told.Told.{Told}
use Rattle.report_text.specs.model.events.declared.told.Told.TheVariants as told
use Rattle.report_text.specs.model.events.hashes.Digest.{zero_digest}
use Rattle.report_text.specs.model.events.hashes.declared.algo.Algo.TheVariants.{Sha256}
use Rattle.report_text.specs.model.events.meta.declared.measurement.Template.TheVariants.{ImaNg}
use Rattle.report_text.specs.model.events.templates.declared.entry.Entry.{Entry}
use Rattle.report_text.specs.model.steps.declared.call.Call.TheVariants as call
use Rattle.order_outcomes.specs.alike.Alike.{IsAlike}

-- each of two tasks opens the file for reading
abbrev pub reader : Program
reader = task (call.Open 0 0 (how.Read false) false ∷ [])

abbrev pub readers : Scene
readers = scene (reader ∷ reader ∷ [])

-- the moment after these turns
abbrev pub after : List ℕ → Moment
after turns = turns_of readers (start_of readers) turns

-- the first moment with one more event in the journal of the file
abbrev pub with_event : Deed → Told → Moment
with_event d t = record (start_of readers) {
  state = record (start_of readers).state
      { journals = (newborn script_file ++ step 0 d t ∷ []) ∷ [] };
}

-- the first moment with more entries in the list
abbrev pub with_entries : List Entry → Moment
with_entries entries = record (start_of readers) {
  state = record (start_of readers).state { list = boot ∷ entries };
}

-- a violation of the file, in this register
abbrev pub violation : ℕ → Entry
violation pcr = record {
  pcr = pcr;
  template = ImaNg;
  digest = zero_digest Sha256;
  name = codes "/a";
  sig = [];
  violation = true;
}

-- the moment isn't alike to the first one
abbrev pub IsOther : Moment → Type 0
IsOther m = IsAlike readers (start_of readers) m → ⊥

pub record AlikeExamples : Type 0 where
  -- both tasks have opened the file: it doesn't matter which was first
  pub either_first : IsAlike readers (after (0 ∷ 0 ∷ 1 ∷ 1 ∷ [])) (after (1 ∷ 1 ∷ 0 ∷ 0 ∷ []))
  -- only one has opened it: it matters which one
  pub only_one : IsAlike readers (after (0 ∷ 0 ∷ [])) (after (1 ∷ 1 ∷ [])) → ⊥
  -- a task has made a step
  pub further : IsOther (after (0 ∷ []))
  -- an open file more, another content, and other metadata
  pub other_count : IsOther (with_event (deed.Count (how.Read false)) told.Held)
  pub other_content : IsOther (with_event (deed.Trunc 0 2) told.Done)
  pub other_mode : IsOther (with_event (deed.SetMeta (change.Mode 0)) told.Done)
  -- a list with an entry more
  pub other_list : IsOther (with_entries (violation 10 ∷ []))
  -- the same entries in another order, and one of them twice
  pub other_order : IsAlike readers (with_entries (violation 10 ∷ violation 11 ∷ []))
      (with_entries (violation 11 ∷ violation 10 ∷ violation 11 ∷ []))

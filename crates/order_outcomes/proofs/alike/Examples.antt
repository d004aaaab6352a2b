-- The examples: the names by which moments are alike, and what tells others apart.
use Rattle.std.proofs.Common.{◌≡◌, ℕ, zero, suc, ◌<◌, ◌==◌, Bool, true, false, ◌&&◌, ◌||◌, List, [], ◌∷◌, length, Option, Some, None, is_some, slice_get, if◌then◌else◌, refl, ap, sym, subst, ◌∙◌, inl, inr, ⊎_elim, arith}
use Rattle.std.specs.Option.{option_or}
use Rattle.std.proofs.Math.Bool.{or-false}
use Rattle.std.proofs.lemmas.Bool.{eqb-true, or_cases, true≢false}
use Rattle.std.proofs.lemmas.Option.{none-some, same_Some}
use Rattle.order_outcomes.specs.Calls.{listed_in, verdict_in}
use Rattle.order_outcomes.specs.Examples.{boot, script_file}
use Rattle.order_outcomes.specs.declared.lines.Kind.TheVariants.{Violations}
use Rattle.report_text.specs.model.History.{Position}
use Rattle.report_text.specs.model.Scene.{ScriptFile, inode_of}
use Rattle.report_text.specs.model.Turns.{Moment, journal_at, newborn}
use Rattle.report_text.specs.model.events.Checks.{last_check}
use Rattle.report_text.specs.model.events.Files.{held, readers as readers_in}
use Rattle.report_text.specs.model.events.NewestFirst.{newest_first}
use Rattle.report_text.specs.model.events.State.{content, metadata}
use Rattle.report_text.specs.model.events.declared.deed.Change.TheVariants as change
use Rattle.report_text.specs.model.events.declared.deed.Deed.TheVariants as deed
use Rattle.report_text.specs.model.events.declared.deed.How.TheVariants as how
use Rattle.report_text.specs.model.events.declared.told.Event.{Event}
use Rattle.report_text.specs.model.events.declared.told.Told.TheVariants as told
use Rattle.report_text.specs.model.events.templates.Same.{same}
use Rattle.report_text.specs.model.events.templates.declared.entry.Entry.{Entry}
use Rattle.report_text.specs.model.events.labels.declared.verdict.Verdict.{Verdict}
use Rattle.report_text.specs.model.events.meta.declared.identity.Meta.{Meta}
use Rattle.order_outcomes.specs.alike.Alike.{AreIn, IsAlike, IsAlikeBy, IsInodeAlike, IsSound, found_in}
use Rattle.order_outcomes.specs.alike.Examples.{AlikeExamples, IsOther, after, readers, violation, with_entries, with_event}
use Rattle.order_outcomes.specs.alike.Names.{Naming, is_used}
use Rattle.order_outcomes.proofs.alike.Entries.{lines_same}
use Rattle.order_outcomes.proofs.alike.InodeLists.{lists_itself}
use Rattle.order_outcomes.proofs.alike.Reached.{birth_alike, own, start_used}

-- ---- two tasks have opened the file, in either order

-- task 0 was first, or task 1 was
abbrev first_0 : Moment
first_0 = after (0 ∷ 0 ∷ 1 ∷ 1 ∷ [])

abbrev first_1 : Moment
first_1 = after (1 ∷ 1 ∷ 0 ∷ 0 ∷ [])

-- the journal of the file in these moments
abbrev journal_0 : List Event
journal_0 = journal_at first_0.state 0

abbrev journal_1 : List Event
journal_1 = journal_at first_1.state 0

-- the files are the counts at the places 1 and 3
abbrev swapped : ℕ → ℕ
swapped file = if file == 1 then 3 else if file == 3 then 1 else file

-- the names of files; the scene has one inode
abbrev names : Naming
names zero file = swapped file
names (suc i) file = file

-- a test that doesn't matter
same_if : {X : Type 0} {x y : X} (b : Bool) → y ≡ x → (if b then x else y) ≡ x
same_if true e = refl
same_if false e = e

-- the checks have no action, like that of a file without a check
sound_0 : IsSound (inode_of readers script_file) first_0.state.list (newest_first journal_0)
unfolding newest_first
sound_0 = record {
  files = λ file le. same_if (3 == file) (same_if (1 == file) refl);
  collection = tt;
  digests = tt;
  places = λ k d lt. absurd (omega arith);
}

-- the same of the other journal
sound_1 : IsSound (inode_of readers script_file) first_0.state.list (newest_first journal_1)
unfolding newest_first
sound_1 = record {
  files = λ file le. same_if (3 == file) (same_if (1 == file) refl);
  collection = tt;
  digests = tt;
  places = λ k d lt. absurd (omega arith);
}

-- what holds of the three files that are used holds of each
each : (P : ℕ → Type 0) → P 0 → P 1 → P 3 → (file : ℕ)
    → is_used first_0.positions 0 file ≡ true → P file
unfolding newest_first
each P none one three file is =
    ⊎_elim (λ e. subst P (sym (eqb-true file 0 e)) none)
    (λ more. ⊎_elim
    (λ e. subst P (eqb-true 1 file (sym (or-false (1 == file)) ∙ e)) one)
    (λ e. subst P (eqb-true 3 file (sym (or-false (3 == file)) ∙ sym (or-false (3 == file || false))
    ∙ e)) three)
    (or_cases (1 == file || false) ((3 == file || false) || false) more))
    (or_cases (file == 0) ((1 == file || false) || ((3 == file || false) || false)) is)

-- an event without a verdict tells none
no_verdict : {o : Option Verdict} (b : Bool) → o ≡ None
    → option_or (if b then None else None) o ≡ None
no_verdict true e = e
no_verdict false e = e

-- an event that isn't a read tells nothing of the list
no_read : {y : Option Bool} (b : Bool) (x : Option Bool) → y ≡ None
    → (if b && false then x else y) ≡ None
no_read true x e = e
no_read false x e = e

-- no call was told a verdict
told_0 : (task n : ℕ) → verdict_in task n journal_0 ≡ None
unfolding newest_first
told_0 task n =
    no_verdict (0 == task && 0 == n) (no_verdict (0 == task && 0 == n)
    (no_verdict (0 == task && 0 == n) (no_verdict (1 == task && 0 == n)
    (no_verdict (1 == task && 0 == n) refl))))

-- nor in the other moment
told_1 : (task n : ℕ) → verdict_in task n journal_1 ≡ None
unfolding newest_first
told_1 task n =
    no_verdict (0 == task && 0 == n) (no_verdict (1 == task && 0 == n)
    (no_verdict (1 == task && 0 == n) (no_verdict (0 == task && 0 == n)
    (no_verdict (0 == task && 0 == n) refl))))

-- no call has read
listed_0 : (task n : ℕ) → listed_in first_0.state.list task n (newest_first journal_0) ≡ None
unfolding newest_first
listed_0 task n =
    no_read (1 == task && 0 == n) _ (no_read (1 == task && 0 == n) _
    (no_read (0 == task && 0 == n) _ (no_read (0 == task && 0 == n) _
    (no_read (0 == task && 0 == n) _ refl))))

-- nor in the other moment
listed_1 : (task n : ℕ) → listed_in first_0.state.list task n (newest_first journal_1) ≡ None
unfolding newest_first
listed_1 task n =
    no_read (0 == task && 0 == n) _ (no_read (0 == task && 0 == n) _
    (no_read (1 == task && 0 == n) _ (no_read (1 == task && 0 == n) _
    (no_read (0 == task && 0 == n) _ refl))))

-- the names of two files that are used are equal if the files are
apart : (f g : ℕ) → is_used first_0.positions 0 f ≡ true → is_used first_0.positions 0 g ≡ true
    → (swapped f == swapped g) ≡ (f == g)
apart f g is is2 =
    each (λ x. (swapped x == swapped g) ≡ (x == g))
    (each (λ y. (swapped 0 == swapped y) ≡ (0 == y)) refl refl refl g is2)
    (each (λ y. (swapped 1 == swapped y) ≡ (1 == y)) refl refl refl g is2)
    (each (λ y. (swapped 3 == swapped y) ≡ (3 == y)) refl refl refl g is2) f is

-- the journals are alike under these names
inode : IsInodeAlike (inode_of readers script_file) first_0.state.list first_1.state.list
    (is_used first_0.positions 0) swapped journal_0 journal_1
unfolding newest_first
inode = record {
  sound = sound_0;
  sound2 = sound_1;
  below = each (λ file. file < length journal_0) (omega arith) (omega arith) (omega arith);
  below2 = each (λ file. swapped file < length journal_1) (omega arith) (omega arith) (omega arith);
  apart = apart;
  how = each (λ file. held (swapped file) (newest_first journal_1)
      ≡ held file (newest_first journal_0)) refl refl refl;
  checks = each (λ file. last_check (swapped file) (newest_first journal_1)
      ≡ last_check file (newest_first journal_0)) refl refl refl;
  present_in = refl;
  new_in = refl;
  versions_in = refl;
  content_in = refl;
  metadata_in = refl;
  attributes_in = refl;
  writers_in = refl;
  readers_in = refl;
  execs_in = refl;
  must_measure_in = refl;
  update_in = refl;
  modified = refl;
  collection = refl;
  digests = refl;
  verdicts = λ key. refl;
  shown = λ bytes. refl;
  told = λ task n. told_1 task n ∙ sym (told_0 task n);
  listed = λ task n. listed_1 task n ∙ sym (listed_0 task n);
}

-- the file without a count keeps its name
none : (i : ℕ) → names i 0 ≡ 0
none zero = refl
none (suc i) = refl

-- and so do files that aren't in the scene
elsewhere : (i : ℕ) → slice_get readers.script_files i ≡ None → (file : ℕ) → names i file ≡ file
elsewhere zero e file = absurd (none-some script_file (sym e))
elsewhere (suc i) e file = refl

-- the file is the only one
inodes : (i : ℕ) (s : ScriptFile) → slice_get readers.script_files i ≡ Some s
    → IsInodeAlike (inode_of readers s) first_0.state.list first_1.state.list
    (is_used first_0.positions i) (names i)
    (journal_at first_0.state i) (journal_at first_1.state i)
unfolding newest_first
inodes zero s e =
    subst (λ (x : ScriptFile). IsInodeAlike (inode_of readers x) first_0.state.list
    first_1.state.list
    (is_used first_0.positions 0) swapped journal_0 journal_1) (same_Some script_file s e) inode
inodes (suc i) s e = absurd (none-some s e)

-- both moments are alike
either_first : IsAlikeBy readers names first_0 first_1
unfolding newest_first
either_first = record {
  none = none;
  elsewhere = elsewhere;
  positions = refl;
  inodes = inodes;
  lists = lists_itself first_0.state.list;
  added = refl;
  semaphores = λ sem. refl;
}

-- ---- others

-- how many calls of the first task are answered
abbrev answered : List Position → ℕ
answered [] = 0
answered (t ∷ ts) = length t.replies

-- whether the first task is in a call
abbrev in_call : List Position → Bool
in_call [] = false
in_call (t ∷ ts) = is_some t.call_state.progress

-- the first task has its answer in one of them
only_one : IsAlike readers (after (0 ∷ 0 ∷ [])) (after (1 ∷ 1 ∷ [])) → ⊥
unfolding newest_first
only_one (inl e) = let same = ap (λ (m : Moment). answered m.positions) e in omega (arith, same)
only_one (inr x) = let same = ap answered x.1.positions in omega (arith, same)

-- the first task is in a call in one of them
further : IsOther (after (0 ∷ []))
unfolding newest_first
further (inl e) = true≢false (sym (ap (λ (m : Moment). in_call m.positions) e))
further (inr x) = true≢false (ap in_call x.1.positions)

-- the file has a reader in one of them
other_count : IsOther (with_event (deed.Count (how.Read false)) told.Held)
unfolding newest_first
other_count (inl e) =
    let same = ap (λ (m : Moment). readers_in (newest_first (journal_at m.state 0))) e in
    omega (arith, same)
other_count (inr x) =
    let same = (x.1.inodes 0 script_file refl).readers_in in
    omega (arith, same)

-- the content has another length
other_content : IsOther (with_event (deed.Trunc 0 2) told.Done)
unfolding newest_first
other_content (inl e) =
    let same = ap (λ (m : Moment). length (content (newest_first (journal_at m.state 0)))) e in
    omega (arith, same)
other_content (inr x) =
    let same = ap length (x.1.inodes 0 script_file refl).content_in in
    omega (arith, same)

-- the mode is another
other_mode : IsOther (with_event (deed.SetMeta (change.Mode 0)) told.Done)
unfolding newest_first
other_mode (inl e) =
    let same = ap (λ (m : Moment). (metadata (newest_first (journal_at m.state 0))).mode) e in
    omega (arith, same)
other_mode (inr x) =
    let same = ap (λ (m : Meta). m.mode) (x.1.inodes 0 script_file refl).metadata_in in
    omega (arith, same)

-- an outcome has a line more
other_list : IsOther (with_entries (violation 10 ∷ []))
other_list (inl e) =
    let same = ap (λ (m : Moment). length m.state.list) e in
    omega (arith, same)
other_list (inr x) = let same = ap length (x.1.lists.lines Violations) in omega (arith, same)

-- ---- lists in another order

abbrev two : List Entry
two = violation 10 ∷ violation 11 ∷ []

abbrev three : List Entry
three = violation 11 ∷ violation 10 ∷ violation 11 ∷ []

-- no violation is the same as any entry
found_two : (e : Entry) → found_in (boot ∷ three) e ≡ found_in (boot ∷ two) e
unfolding same
found_two e = refl

-- each list has the entries of the other
in_three : AreIn (boot ∷ three) (boot ∷ two)
in_three zero e h = (0, h)
in_three (suc zero) e h = (2, h)
in_three (suc (suc zero)) e h = (1, h)
in_three (suc (suc (suc place))) e h = absurd (none-some e h)

in_two : AreIn (boot ∷ two) (boot ∷ three)
in_two zero e h = (0, h)
in_two (suc zero) e h = (2, h)
in_two (suc (suc zero)) e h = (1, h)
in_two (suc (suc (suc zero))) e h = (2, h)
in_two (suc (suc (suc (suc place)))) e h = absurd (none-some e h)

-- so the moments are alike
other_order : IsAlikeBy readers own (with_entries two) (with_entries three)
other_order = record {
  none = λ i. refl;
  elsewhere = λ i e file. refl;
  positions = refl;
  inodes = inodes_two;
  lists = record {
    lines = λ kind. lines_same kind (boot ∷ two) (boot ∷ three) in_three in_two;
    found = found_two;
  };
  added = refl;
  semaphores = λ sem. refl;
}
  where
    inodes_two : (i : ℕ) (s : ScriptFile) → slice_get readers.script_files i ≡ Some s
        → IsInodeAlike (inode_of readers s) (boot ∷ two) (boot ∷ three)
        (is_used (with_entries two).positions i) (own i)
        (journal_at (with_entries two).state i) (journal_at (with_entries three).state i)
    inodes_two zero s e =
        subst (λ (x : ScriptFile). IsInodeAlike (inode_of readers x) (boot ∷ two) (boot ∷ three)
        (is_used (with_entries two).positions 0) (own 0) (newborn script_file)
        (newborn script_file)) (same_Some script_file s e)
        (birth_alike (inode_of readers script_file) (boot ∷ two) (boot ∷ three)
        (is_used (with_entries two).positions 0) script_file
        (λ file u. start_used 0 file readers.programs u))
    inodes_two (suc i) s e = absurd (none-some s e)

-- all examples
pub examples : AlikeExamples
examples = record {
  either_first = inr (names, either_first);
  only_one = only_one;
  further = further;
  other_count = other_count;
  other_content = other_content;
  other_mode = other_mode;
  other_list = other_list;
  other_order = inr (own, other_order);
}

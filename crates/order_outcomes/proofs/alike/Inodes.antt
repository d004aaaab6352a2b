-- An inode is alike in two moments after a step of the same task in both.
use Rattle.std.proofs.Common.{◌≡◌, ℕ, ◌<◌, ◌≤◌, ◌⊎◌, inl, inr, Bool, true, ◌||◌, List, [], ◌∷◌, ◌++◌, length, length-append, Option, Some, is_some, option_map, ap, ap₂, sym, subst, ◌∙◌, arith}
use Rattle.std.specs.Prelude.{◌==◌}
use Rattle.std.proofs.lemmas.Bool.{cond-false, cond-true, eq-eqb, ne_eqb}
use Rattle.std.proofs.lemmas.List.{length-reverse}
use Rattle.report_text.specs.model.History.{event}
use Rattle.report_text.specs.model.events.Asked.{asked, list_after, outcome, placed_for}
use Rattle.report_text.specs.model.events.Checks.{last_check}
use Rattle.report_text.specs.model.events.Files.{counted, execs, files, find_file, held, is_exec, is_reader, is_writer, readers, tally, writers}
use Rattle.report_text.specs.model.events.Inode.{Inode}
use Rattle.report_text.specs.model.events.Integrity.{attributes, collecting, in_force}
use Rattle.report_text.specs.model.events.Marks.{must_measure, update}
use Rattle.report_text.specs.model.events.NewestFirst.{newest_first, past_more}
use Rattle.report_text.specs.model.events.State.{content, content_after, metadata, metadata_after, modified_in, new, present, present_after, span, versions, versions_after}
use Rattle.report_text.specs.model.events.Verdicts.{verdict_in_force}
use Rattle.report_text.specs.model.events.declared.deed.Deed.{Deed}
use Rattle.report_text.specs.model.events.declared.deed.How.{How}
use Rattle.report_text.specs.model.events.declared.told.Event.{Event}
use Rattle.report_text.specs.model.events.declared.told.Told.{Told}
use Rattle.report_text.specs.model.events.meta.declared.identity.Meta.{Meta}
use Rattle.report_text.specs.model.events.meta.declared.step.Who.{Who}
use Rattle.report_text.specs.model.events.templates.declared.entry.Entry.{Entry}
use Rattle.report_text.specs.model.events.templates.declared.entry.Placed.{Placed}
use Rattle.order_outcomes.specs.Calls.{is_listed, listed_in, place_told}
use Rattle.order_outcomes.proofs.alike.InodeFiles.{check_grown, counted_named, held_grown, held_new, tally_grown, unchecked_new}
use Rattle.order_outcomes.proofs.alike.InodeIntegrity.{attributes_grown, collection_grown, digests_grown}
use Rattle.order_outcomes.proofs.alike.InodeLaws.{InodeLaws, IsUsed, deed_named, file_in, named_after}
use Rattle.order_outcomes.proofs.alike.InodeMarks.{must_measure_grown, update_grown, verdicts_grown}
use Rattle.order_outcomes.proofs.alike.InodePlaces.{IsPlaced, after_longer, outcome_placed, outcome_shown}
use Rattle.order_outcomes.proofs.alike.InodeRetold.{attributes_again, collection_again, content_again, digests_again, files_again, metadata_again, must_measure_again, new_again, present_again, span_again, told_verdict_with, told_with, update_again, verdicts_again, versions_again}
use Rattle.order_outcomes.proofs.alike.InodeSound.{checks_below, checks_below_named, sound_grown, sound_longer}
use Rattle.order_outcomes.proofs.alike.InodeState.{content_named, metadata_named, new_grown, present_named, span_grown, versions_named}
use Rattle.order_outcomes.proofs.alike.InodeSteps.{asked_alike, outcome_alike}
use Rattle.order_outcomes.proofs.alike.InodeTold.{is_listed_longer, listed_grown, listed_longer, told_grown}
use Rattle.order_outcomes.specs.alike.Alike.{AreListsAlike, IsInodeAlike, IsSound, collection_seen, digests_seen}

-- ---- names

-- a journal and its past are equally long
past_length : (journal : List Event) → length (newest_first journal) ≡ length journal
unfolding newest_first
past_length journal = length-reverse journal

-- a file that was there before the event keeps its name
name_old : (r : ℕ → ℕ) (n n2 file : ℕ) → file < n → named_after r n n2 file ≡ r file
name_old r n n2 file b = cond-false (file == n) n2 (r file) (ne_eqb file n (λ same. omega arith))

-- the file of the event is named by its place
name_new : (r : ℕ → ℕ) (n n2 file : ℕ) → file ≡ n → named_after r n n2 file ≡ n2
name_new r n n2 file e = cond-true (file == n) n2 (r file) (eq-eqb file n e)

-- ---- a longer list

module _ (inode : Inode) (list list2 more more2 : List Entry) (used : ℕ → Bool) (r : ℕ → ℕ)
    (j j2 : List Event) (s : IsInodeAlike inode list list2 used r j j2) where
  -- the same reads were listed if the lists get longer
  reads_longer : (task n : ℕ) → listed_in (list2 ++ more2) task n (newest_first j2)
      ≡ listed_in (list ++ more) task n (newest_first j)
  reads_longer task n =
      listed_longer list2 more2 task n (newest_first j2) s.sound2.places ∙ s.listed task n
      ∙ sym (listed_longer list more task n (newest_first j) s.sound.places)

  -- and the same bytes are shown
  shown_longer : (bytes : List ℕ) → is_listed (list2 ++ more2) bytes (newest_first j2)
      ≡ is_listed (list ++ more) bytes (newest_first j)
  shown_longer bytes =
      is_listed_longer list2 more2 bytes (newest_first j2) s.sound2.places ∙ s.shown bytes
      ∙ sym (is_listed_longer list more bytes (newest_first j) s.sound.places)

-- ---- one more event

module _ (inode : Inode) (list list2 : List Entry) (used : ℕ → Bool) (r : ℕ → ℕ)
    (j j2 : List Event) (d : Deed) (t : Told) (who : Who) (used2 : ℕ → Bool)
    (s : IsInodeAlike inode list list2 used r j j2) (lists : AreListsAlike list list2)
    (u : IsUsed used (file_in d))
    (says : outcome inode list d (newest_first j) ≡ Some t)
    (uses : (file : ℕ) → used2 file ≡ true
    → (used file ≡ true) ⊎ ((file ≡ length j) × (is_some (counted d t) ≡ true))) where
  -- the event in each journal
  abbrev e : Event
  e = event who d t

  -- the second list's reply
  abbrev reply2 : Placed
  reply2 = placed_for list2 (asked inode d (newest_first j))

  -- the outcome with it
  abbrev t2 : Told
  t2 = told_with reply2 t

  abbrev e2 : Event
  e2 = event who (deed_named r d) t2

  -- the event in the second journal, with the outcome of the first
  abbrev e3 : Event
  e3 = event who (deed_named r d) t

  -- the names after the event
  abbrev name : ℕ → ℕ
  name = named_after r (length j) (length j2)

  -- the lists after the step
  abbrev after_list : List Entry
  after_list = list_after list (asked inode d (newest_first j)) (Some t)

  abbrev after_list2 : List Entry
  after_list2 = list_after list2 (asked inode d (newest_first j)) (Some t2)

  -- the file was used before the event
  abbrev IsOld : ℕ → Type 0
  IsOld file = used file ≡ true

  -- the event counts the file
  abbrev IsNew : ℕ → Type 0
  IsNew file = (file ≡ length j) × (is_some (counted d t) ≡ true)

  -- what holds of the events, newest first, holds of both journals
  on : (P : List Event → List Event → Type 0) → P (e ∷ newest_first j) (e2 ∷ newest_first j2)
      → P (newest_first (j ++ e ∷ [])) (newest_first (j2 ++ e2 ∷ []))
  on P h =
      subst (λ (y : List Event). P (newest_first (j ++ e ∷ [])) y) (sym (past_more j2 e2))
      (subst (λ (x : List Event). P x (e2 ∷ newest_first j2)) (sym (past_more j e)) h)

  -- a list isn't shorter after the step
  not_shorter : (l : List Entry) (x : Told)
      → length l ≤ length (list_after l (asked inode d (newest_first j)) (Some x))
  not_shorter l x =
      let more = after_longer l (asked inode d (newest_first j)) x in
      omega (arith, length-append l more.0, ap (λ (y : List Entry). length y) more.1)

  -- the place of the outcome is in it
  placed : IsPlaced (length after_list) (place_told t)
  placed = outcome_placed inode list d (newest_first j) t says

  -- and in the second list
  placed2 : IsPlaced (length after_list2) (place_told t2)
  placed2 =
      let says2 : outcome inode list2 (deed_named r d) (newest_first j2) ≡ Some t2
      = outcome_alike inode list list2 used r j j2 s d u
      ∙ ap (option_map (told_with reply2)) says in
      subst (λ (o : Option Entry). IsPlaced (length (list_after list2 o (Some t2))) (place_told t2))
      (asked_alike inode list list2 used r j j2 s d u)
      (outcome_placed inode list2 (deed_named r d) (newest_first j2) t2 says2)

  -- ---- its files

  -- a file that was used was counted before the event
  old_below : (file : ℕ) → IsOld file → file < length (newest_first j)
  old_below file uf = let b = s.below file uf in omega (arith, past_length j, b)

  -- in both
  old_below2 : (file : ℕ) → IsOld file → r file < length (newest_first j2)
  old_below2 file uf = let b = s.below2 file uf in omega (arith, past_length j2, b)

  -- it keeps its name
  keeps_name : (file : ℕ) → IsOld file → name file ≡ r file
  keeps_name file uf = name_old r (length j) (length j2) file (s.below file uf)

  -- the file that the event counts has the event's place
  new_name : (file : ℕ) → IsNew file → name file ≡ length (newest_first j2)
  new_name file is = name_new r (length j) (length j2) file is.0 ∙ sym (past_length j2)

  -- files are counted before the end
  below_after : (file : ℕ) → IsOld file ⊎ IsNew file → file < length (j ++ e ∷ [])
  below_after file (inl uf) =
      let b = s.below file uf in let more = length-append j (e ∷ []) in omega (arith, b, more)
  below_after file (inr is) =
      let more = length-append j (e ∷ []) in omega (arith, is.0, more)

  -- under their other names too
  below2_after : (file : ℕ) → IsOld file ⊎ IsNew file → name file < length (j2 ++ e2 ∷ [])
  below2_after file (inl uf) =
      let b = s.below2 file uf in
      let more = length-append j2 (e2 ∷ []) in
      let same = keeps_name file uf in omega (arith, b, more, same)
  below2_after file (inr is) =
      let more = length-append j2 (e2 ∷ []) in
      let same = new_name file is in omega (arith, past_length j2, more, same)

  -- different files have different names
  apart_after : (f g : ℕ) → IsOld f ⊎ IsNew f → IsOld g ⊎ IsNew g
      → (name f == name g) ≡ (f == g)
  apart_after f g (inl uf) (inl ug) =
      ap₂ (λ (x y : ℕ). x == y) (keeps_name f uf) (keeps_name g ug) ∙ s.apart f g uf ug
  apart_after f g (inl uf) (inr is) =
      let x = keeps_name f uf in let y = new_name g is in
      let b = s.below f uf in let b2 = old_below2 f uf in
      ne_eqb (name f) (name g) (λ same. omega (arith, x, y, b2, same))
      ∙ sym (ne_eqb f g (λ same. omega (arith, b, is.0, same)))
  apart_after f g (inr is) (inl ug) =
      let x = new_name f is in let y = keeps_name g ug in
      let b = s.below g ug in let b2 = old_below2 g ug in
      ne_eqb (name f) (name g) (λ same. omega (arith, x, y, b2, same))
      ∙ sym (ne_eqb f g (λ same. omega (arith, b, is.0, same)))
  apart_after f g (inr is) (inr is2) =
      eq-eqb (name f) (name g) (new_name f is ∙ sym (new_name g is2))
      ∙ sym (eq-eqb f g (is.0 ∙ sym is2.0))

  -- files are held alike
  how_after : (file : ℕ) → IsOld file ⊎ IsNew file
      → held (name file) (e3 ∷ newest_first j2) ≡ held file (e ∷ newest_first j)
  how_after file (inl uf) =
      ap (λ (n : ℕ). held n (e3 ∷ newest_first j2)) (keeps_name file uf)
      ∙ held_grown used r (newest_first j) (newest_first j2) s.apart s.how who d t u file uf
      (old_below file uf) (old_below2 file uf)
  how_after file (inr is) =
      ap (λ (n : ℕ). held n (e3 ∷ newest_first j2)) (new_name file is)
      ∙ held_new r (newest_first j) (newest_first j2) who d t is.1
      ∙ ap (λ (n : ℕ). held n (e ∷ newest_first j)) (past_length j ∙ sym is.0)

  -- their last checks are alike
  checks_after : (file : ℕ) → IsOld file ⊎ IsNew file
      → last_check (name file) (e3 ∷ newest_first j2) ≡ last_check file (e ∷ newest_first j)
  checks_after file (inl uf) =
      ap (λ (n : ℕ). last_check n (e3 ∷ newest_first j2)) (keeps_name file uf)
      ∙ check_grown used r (newest_first j) (newest_first j2) s.apart s.how d u file uf
      (last_check (r file) (newest_first j2)) (last_check file (newest_first j)) (s.checks file uf)
  checks_after file (inr is) =
      let counts2 : is_some (counted (deed_named r d) t) ≡ true
      = ap (λ (c : Option How). is_some c) (counted_named r d t) ∙ is.1 in
      let n = length (newest_first j) in
      let n2 = length (newest_first j2) in
      ap (λ (x : ℕ). last_check x (e3 ∷ newest_first j2)) (new_name file is)
      ∙ unchecked_new (deed_named r d) t counts2 n2 (last_check n2 (newest_first j2))
      ∙ s.sound2.files n2 (omega arith)
      ∙ sym (s.sound.files n (omega arith))
      ∙ sym (unchecked_new d t is.1 n (last_check n (newest_first j)))
      ∙ ap (λ (x : ℕ). last_check x (e ∷ newest_first j)) (past_length j ∙ sym is.0)

  -- ---- what calls were told

  -- longer lists show the same bytes
  shown_before : (bytes : List ℕ)
      → is_listed after_list2 bytes (newest_first j2) ≡ is_listed after_list bytes (newest_first j)
  shown_before bytes =
      let more = after_longer list (asked inode d (newest_first j)) t in
      let more2 = after_longer list2 (asked inode d (newest_first j)) t2 in
      sym (ap (λ (l : List Entry). is_listed l bytes (newest_first j2)) more2.1)
      ∙ shown_longer inode list list2 more.0 more2.0 used r j j2 s bytes
      ∙ ap (λ (l : List Entry). is_listed l bytes (newest_first j)) more.1

  -- and do so after the event
  shown_after : (bytes : List ℕ)
      → is_listed after_list2 bytes (e2 ∷ newest_first j2)
      ≡ is_listed after_list bytes (e ∷ newest_first j)
  shown_after bytes =
      ap₂ (λ (a b : Bool). a || b) (shown_before bytes)
      (outcome_shown inode list list2 lists d (newest_first j) t bytes says)

  -- reads were listed alike
  listed_after : (task n : ℕ)
      → listed_in after_list2 task n (e2 ∷ newest_first j2)
      ≡ listed_in after_list task n (e ∷ newest_first j)
  listed_after task n =
      let more = after_longer list (asked inode d (newest_first j)) t in
      let more2 = after_longer list2 (asked inode d (newest_first j)) t2 in
      listed_grown r after_list after_list2 task n (newest_first j) (newest_first j2) who d t t2
      s.content_in shown_before
      (sym (ap (λ (l : List Entry). listed_in l task n (newest_first j2)) more2.1)
      ∙ reads_longer inode list list2 more.0 more2.0 used r j j2 s task n
      ∙ ap (λ (l : List Entry). listed_in l task n (newest_first j)) more.1)

  -- ---- all of it

  -- the numbers of open files
  tallies : (test : How → Bool)
      → tally test (files (newest_first j2)) ≡ tally test (files (newest_first j))
      → tally test (files (e2 ∷ newest_first j2)) ≡ tally test (files (e ∷ newest_first j))
  tallies test h =
      ap (tally test) (files_again inode who (deed_named r d) t reply2 (newest_first j2))
      ∙ tally_grown used r (newest_first j) (newest_first j2) s.apart s.how who d t u test h

  -- the inode is alike after the step
  pub grown_alike : IsInodeAlike inode after_list after_list2 used2 name (j ++ e ∷ [])
      (j2 ++ e2 ∷ [])
  grown_alike = record {
    sound = on (λ x y. IsSound inode after_list x)
        (sound_grown inode list after_list (newest_first j) who d t (not_shorter list t)
        (checks_below used (length (newest_first j)) d old_below u) placed s.sound);
    sound2 = on (λ x y. IsSound inode after_list2 y)
        (sound_grown inode list2 after_list2 (newest_first j2) who (deed_named r d) t2
        (not_shorter list2 t2)
        (checks_below_named used r (length (newest_first j2)) d old_below2 u) placed2 s.sound2);
    below = λ file uf. below_after file (uses file uf);
    below2 = λ file uf. below2_after file (uses file uf);
    apart = λ f g uf ug. apart_after f g (uses f uf) (uses g ug);
    how = λ file uf. on (λ x y. held (name file) y ≡ held file x)
        (ap (find_file (name file))
        (files_again inode who (deed_named r d) t reply2 (newest_first j2))
        ∙ how_after file (uses file uf));
    checks = λ file uf. on (λ x y. last_check (name file) y ≡ last_check file x)
        (checks_after file (uses file uf));
    present_in = on (λ x y. present y ≡ present x)
        (present_again inode who (deed_named r d) t reply2 (newest_first j2)
        ∙ present_named r d t (present (newest_first j2))
        ∙ ap (λ (b : Bool). present_after d t b) s.present_in);
    new_in = on (λ x y. new y ≡ new x)
        (new_again inode who (deed_named r d) t reply2 (newest_first j2)
        ∙ new_grown r (newest_first j) (newest_first j2) s.writers_in d t (new (newest_first j2))
        (new (newest_first j)) s.new_in s.present_in);
    versions_in = on (λ x y. versions y ≡ versions x)
        (versions_again inode who (deed_named r d) t reply2 (newest_first j2)
        ∙ versions_named r d t (versions (newest_first j2))
        ∙ ap (λ (b : Bool). versions_after d t b) s.versions_in);
    content_in = on (λ x y. content y ≡ content x)
        (content_again inode who (deed_named r d) t reply2 (newest_first j2)
        ∙ content_named r d t (content (newest_first j2))
        ∙ ap (λ (c : List ℕ). content_after d t c) s.content_in);
    metadata_in = on (λ x y. metadata y ≡ metadata x)
        (metadata_again inode who (deed_named r d) t reply2 (newest_first j2)
        ∙ metadata_named r d t (metadata (newest_first j2))
        ∙ ap (λ (m : Meta). metadata_after d t m) s.metadata_in);
    attributes_in = on (λ x y. attributes inode y ≡ attributes inode x)
        (attributes_again inode who (deed_named r d) t reply2 (newest_first j2)
        ∙ attributes_grown inode list list2 used r j j2 s d t);
    writers_in = on (λ x y. writers y ≡ writers x) (tallies is_writer s.writers_in);
    readers_in = on (λ x y. readers y ≡ readers x) (tallies is_reader s.readers_in);
    execs_in = on (λ x y. execs y ≡ execs x) (tallies is_exec s.execs_in);
    must_measure_in = on (λ x y. must_measure y ≡ must_measure x)
        (must_measure_again inode who (deed_named r d) t reply2 (newest_first j2)
        ∙ must_measure_grown inode list list2 used r j j2 s d t u);
    update_in = on (λ x y. update y ≡ update x)
        (update_again inode who (deed_named r d) t reply2 (newest_first j2)
        ∙ update_grown inode list list2 used r j j2 s d t u);
    modified = on (λ x y. modified_in (span y) ≡ modified_in (span x))
        (span_again inode who (deed_named r d) t reply2 (newest_first j2)
        ∙ span_grown r (newest_first j) (newest_first j2) s.writers_in who d t s.modified);
    collection = on (λ x y. option_map (collection_seen y) (collecting inode y)
        ≡ option_map (collection_seen x) (collecting inode x))
        (collection_again inode who (deed_named r d) t reply2 (newest_first j2)
        ∙ collection_grown inode list list2 used r j j2 s who d t);
    digests = on (λ x y. option_map (digests_seen y) (in_force inode y)
        ≡ option_map (digests_seen x) (in_force inode x))
        (digests_again inode who (deed_named r d) t reply2 (newest_first j2)
        ∙ digests_grown inode list list2 used r j j2 s who d t);
    verdicts = λ key. on (λ x y. verdict_in_force inode key y ≡ verdict_in_force inode key x)
        (verdicts_again inode who (deed_named r d) t reply2 (newest_first j2) key
        ∙ verdicts_grown inode list list2 used r j j2 s key d t u);
    shown = λ bytes. on (λ x y. is_listed after_list2 bytes y ≡ is_listed after_list bytes x)
        (shown_after bytes);
    told = λ task n. told_grown r task n j j2 who d t t2 (told_verdict_with reply2 t)
        (s.told task n);
    listed = λ task n. on
        (λ x y. listed_in after_list2 task n y ≡ listed_in after_list task n x)
        (listed_after task n);
  }

-- ---- other lists, files and moments

-- longer lists
listed_alike : (inode : Inode) (list list2 more more2 : List Entry) (used : ℕ → Bool) (r : ℕ → ℕ)
    (j j2 : List Event) → IsInodeAlike inode list list2 used r j j2
    → IsInodeAlike inode (list ++ more) (list2 ++ more2) used r j j2
listed_alike inode list list2 more more2 used r j j2 s =
    let longer : length list ≤ length (list ++ more)
    = omega (arith, length-append list more) in
    let longer2 : length list2 ≤ length (list2 ++ more2)
    = omega (arith, length-append list2 more2) in
    record {
      sound = sound_longer inode list (list ++ more) (newest_first j) longer s.sound;
      sound2 = sound_longer inode list2 (list2 ++ more2) (newest_first j2) longer2 s.sound2;
      below = s.below;
      below2 = s.below2;
      apart = s.apart;
      how = s.how;
      checks = s.checks;
      present_in = s.present_in;
      new_in = s.new_in;
      versions_in = s.versions_in;
      content_in = s.content_in;
      metadata_in = s.metadata_in;
      attributes_in = s.attributes_in;
      writers_in = s.writers_in;
      readers_in = s.readers_in;
      execs_in = s.execs_in;
      must_measure_in = s.must_measure_in;
      update_in = s.update_in;
      modified = s.modified;
      collection = s.collection;
      digests = s.digests;
      verdicts = s.verdicts;
      shown = λ bytes. shown_longer inode list list2 more more2 used r j j2 s bytes;
      told = s.told;
      listed = λ task n. reads_longer inode list list2 more more2 used r j j2 s task n;
    }

-- fewer files
fewer_alike : (inode : Inode) (list list2 : List Entry) (used used2 : ℕ → Bool) (r : ℕ → ℕ)
    (j j2 : List Event) → IsInodeAlike inode list list2 used r j j2
    → ((file : ℕ) → used2 file ≡ true → used file ≡ true)
    → IsInodeAlike inode list list2 used2 r j j2
fewer_alike inode list list2 used used2 r j j2 s was = record {
  sound = s.sound;
  sound2 = s.sound2;
  below = λ file uf. s.below file (was file uf);
  below2 = λ file uf. s.below2 file (was file uf);
  apart = λ f g uf ug. s.apart f g (was f uf) (was g ug);
  how = λ file uf. s.how file (was file uf);
  checks = λ file uf. s.checks file (was file uf);
  present_in = s.present_in;
  new_in = s.new_in;
  versions_in = s.versions_in;
  content_in = s.content_in;
  metadata_in = s.metadata_in;
  attributes_in = s.attributes_in;
  writers_in = s.writers_in;
  readers_in = s.readers_in;
  execs_in = s.execs_in;
  must_measure_in = s.must_measure_in;
  update_in = s.update_in;
  modified = s.modified;
  collection = s.collection;
  digests = s.digests;
  verdicts = s.verdicts;
  shown = s.shown;
  told = s.told;
  listed = s.listed;
}

-- a third moment
along_alike : (inode : Inode) (list list2 list3 : List Entry) (used used2 : ℕ → Bool)
    (r r2 : ℕ → ℕ) (j j2 j3 : List Event) → IsInodeAlike inode list list2 used r j j2
    → IsInodeAlike inode list2 list3 used2 r2 j2 j3
    → ((file : ℕ) → used file ≡ true → used2 (r file) ≡ true)
    → IsInodeAlike inode list list3 used (λ file. r2 (r file)) j j3
along_alike inode list list2 list3 used used2 r r2 j j2 j3 s s2 on = record {
  sound = s.sound;
  sound2 = s2.sound2;
  below = s.below;
  below2 = λ file uf. s2.below2 (r file) (on file uf);
  apart = λ f g uf ug. s2.apart (r f) (r g) (on f uf) (on g ug) ∙ s.apart f g uf ug;
  how = λ file uf. s2.how (r file) (on file uf) ∙ s.how file uf;
  checks = λ file uf. s2.checks (r file) (on file uf) ∙ s.checks file uf;
  present_in = s2.present_in ∙ s.present_in;
  new_in = s2.new_in ∙ s.new_in;
  versions_in = s2.versions_in ∙ s.versions_in;
  content_in = s2.content_in ∙ s.content_in;
  metadata_in = s2.metadata_in ∙ s.metadata_in;
  attributes_in = s2.attributes_in ∙ s.attributes_in;
  writers_in = s2.writers_in ∙ s.writers_in;
  readers_in = s2.readers_in ∙ s.readers_in;
  execs_in = s2.execs_in ∙ s.execs_in;
  must_measure_in = s2.must_measure_in ∙ s.must_measure_in;
  update_in = s2.update_in ∙ s.update_in;
  modified = s2.modified ∙ s.modified;
  collection = s2.collection ∙ s.collection;
  digests = s2.digests ∙ s.digests;
  verdicts = λ key. s2.verdicts key ∙ s.verdicts key;
  shown = λ bytes. s2.shown bytes ∙ s.shown bytes;
  told = λ task n. s2.told task n ∙ s.told task n;
  listed = λ task n. s2.listed task n ∙ s.listed task n;
}

-- ---- the laws

-- all of them
pub inode_laws : InodeLaws
inode_laws = record {
  outcome_same = λ inode list list2 used r j j2 d s u.
      outcome_alike inode list list2 used r j j2 s d u;
  asked_same = λ inode list list2 used r j j2 d s u.
      asked_alike inode list list2 used r j j2 s d u;
  grown = λ inode list list2 used r j j2 d t who used2 s lists u says uses.
      grown_alike inode list list2 used r j j2 d t who used2 s lists u says uses;
  listed = listed_alike;
  fewer = fewer_alike;
  along = along_alike;
}

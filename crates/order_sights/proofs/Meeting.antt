-- Moments of which the code finds that they can be met as one are alike.
use Rattle.std.proofs.Common.{◌≡◌, ℕ, zero, suc, ◌+◌, ◌<◌, ◌≤◌, Bool, true, List, [], ◌∷◌, length, map, Option, Some, None, option_map, refl, ap, sym, subst, ◌∙◌, inr, slice_get, arith}
use Rattle.std.specs.Prelude.{All, reverse}
use Rattle.std.proofs.lemmas.Option.{get_or_from_slice_get, none-some, same_Some, slice_get-map, slice_get_within}
use Rattle.call_steps.specs.declared.call.Call.{Call}
use Rattle.run_laws.proofs.progress.Totals.{count_past, counted_when_reached}
use Rattle.inode_cell.specs.Value.{CellValue}
use Rattle.inode_events.specs.Checks.{last_check}
use Rattle.inode_events.specs.EndedInode.{ended_inode}
use Rattle.inode_events.specs.Files.{held}
use Rattle.inode_events.specs.Inode.{Inode}
use Rattle.inode_events.specs.Integrity.{attributes, collecting, in_force}
use Rattle.inode_events.specs.Legal.{EachFollows}
use Rattle.inode_events.specs.NewestFirst.{newest_first}
use Rattle.inode_events.specs.Semaphores.{posts, waits}
use Rattle.inode_events.specs.State.{content}
use Rattle.inode_events.specs.declared.told.Event.{Event}
use Rattle.inode_events.specs.templates.declared.entry.Entry.{Entry}
use Rattle.inode_state.specs.State.{IsState}
use Rattle.inode_state.specs.Verdicts.{found}
use Rattle.inode_state.specs.declared.counts.Counts.{Counts}
use Rattle.inode_state.specs.declared.marks.Marks.{Marks}
use Rattle.journal_laws.proofs.Fresh.{Fresh}
use Rattle.journal_laws.proofs.FreshSteps.{freshness_lem}
use Rattle.order_outcomes.specs.alike.Alike.{AreIn, AreListsAlike, IsAlike, IsIn, IsInodeAlike, IsSound, digests_seen, places_in}
use Rattle.order_outcomes.proofs.alike.Entries.{lists_alike}
use Rattle.order_outcomes.specs.alike.Names.{is_used, position_named}
use Rattle.run_model.specs.Ended.{answered, answered_by, how_many, posted, posts_to, waited, waits_for}
use Rattle.run_model.specs.EndedValue.{EndedValue, inodes_ended}
use Rattle.run_model.specs.History.{Position}
use Rattle.run_model.specs.Scene.{Program, Scene, ScriptFile, inode_of}
use Rattle.run_model.specs.Turns.{Moment, State, journal_at}
use Rattle.task_core.specs.Cells.{IsCellAt}
use Rattle.task_core.specs.worlds.WorldConsts.{script_file_of}
use Rattle.task_core.specs.worlds.Runs.{position_of}
use Rattle.order_sights.specs.Inodes.{AreJournalsSame, FitsIfThere, IsCellSame, IsPairFit}
use Rattle.order_sights.specs.Pairs.{ArePositionsPaired, are_apart, are_within, has_pair, named}
use Rattle.order_sights.specs.Sights.{AreInodesSame, IsInodeSame, IsSight}
use Rattle.order_sights.specs.declared.pairs.Pair.{Pair}
use Rattle.order_sights.specs.declared.sight.Sight.{Sight}
use Rattle.order_sights.proofs.Listing.{shown_same}
use Rattle.order_sights.proofs.Naming.{named_apart, named_elsewhere, named_is, passed_all, positions_are, used_in}
use Rattle.order_sights.proofs.Saying.{listed_same, told_same, unchecked_beyond}
use Rattle.order_sights.proofs.Taking.{taken_is}
use Rattle.order_told.proofs.Telling.{All-reverse}
use Rattle.order_told.proofs.Walks.{length_past}
use Rattle.order_sights.proofs.Seen.{collection_is, force_is, has_begun, have_begun}

-- ---- an inode, by its journals

module _ (inode : Inode) (list list2 : List Entry) (pairs : List Pair) (i : ℕ) (j j2 : List Event)
    (used : ℕ → Bool) (apart : are_apart pairs ≡ true)
    (used_is : (f : ℕ) → used f ≡ true → (g : ℕ) × (has_pair pairs i f g ≡ true))
    (follows : EachFollows inode (newest_first j)) (follows2 : EachFollows inode (newest_first j2))
    (a b : CellValue) (cells : IsCellSame a b) (is : a.list ≡ j) (is2 : b.list ≡ j2)
    (own : a.inode ≡ inode) (own2 : b.inode ≡ inode)
    (h : AreJournalsSame list list2 pairs i (ended_inode inode j) (ended_inode inode j2)) where
  state : IsState inode (newest_first j) cells.first
  state = subst (λ (x : Inode). IsState x (newest_first j) cells.first) own
      (subst (λ (x : List Event). IsState a.inode (newest_first x) cells.first) is cells.state)

  state2 : IsState inode (newest_first j2) cells.second
  state2 = subst (λ (x : Inode). IsState x (newest_first j2) cells.second) own2
      (subst (λ (x : List Event). IsState b.inode (newest_first x) cells.second) is2 cells.state2)

  same_content : content (newest_first j2) ≡ content (newest_first j)
  same_content = ap (λ (x : List Event). content (newest_first x)) (sym is2) ∙ cells.content
      ∙ ap (λ (x : List Event). content (newest_first x)) is

  fresh : Fresh inode (newest_first j)
  fresh = freshness_lem inode (newest_first j) follows

  fresh2 : Fresh inode (newest_first j2)
  fresh2 = freshness_lem inode (newest_first j2) follows2

  -- the places of a journal are in the list
  placed : (l : List Entry) (p : List Event) (places : List ℕ) → reverse places ≡ places_in p
      → All (λ place. place < length l) places → All (λ place. place < length l) (places_in p)
  placed l p places told below =
      subst (λ (ps : List ℕ). All (λ place. place < length l) ps) told
      (All-reverse (λ place. place < length l) places below)

  sound : IsSound inode list (newest_first j)
  sound = record {
    files = λ file le. unchecked_beyond file (length j) j h.files.checks
        (subst (λ n. n ≤ file) (length_past j) le);
    collection = has_begun inode (newest_first j) (collecting inode (newest_first j))
        fresh.collection_is;
    digests = have_begun inode (newest_first j) (in_force inode (newest_first j)) fresh.digests_is;
    places = placed list (newest_first j) h.entries.places h.entries.told h.entries.below;
  }

  sound2 : IsSound inode list2 (newest_first j2)
  sound2 = record {
    files = λ file le. unchecked_beyond file (length j2) j2 h.files.checks2
        (subst (λ n. n ≤ file) (length_past j2) le);
    collection = has_begun inode (newest_first j2) (collecting inode (newest_first j2))
        fresh2.collection_is;
    digests = have_begun inode (newest_first j2) (in_force inode (newest_first j2))
        fresh2.digests_is;
    places = placed list2 (newest_first j2) h.entries.places2 h.entries.told2 h.entries.below2;
  }

  -- what the pair of a used file says
  fit_of : (f : ℕ) → used f ≡ true
      → (g : ℕ) × ((named pairs i f ≡ g)
      × IsPairFit j j2 (record { inode = i; first = f; second = g }))
  fit_of f u =
      let pair = used_is f u in (
        pair.0,
        (
          named_is pairs apart i f pair.0 pair.1,
          passed_all (FitsIfThere i j j2) i f pair.0 pairs h.files.fit pair.1 refl,
        ),
      )

  pub inode_alike : IsInodeAlike inode list list2 used (named pairs i) j j2
  inode_alike = record {
    sound = sound;
    sound2 = sound2;
    below = λ f u. (fit_of f u).1.1.below;
    below2 = λ f u. let x = fit_of f u in
        subst (λ n. n < length j2) (sym x.1.0) x.1.1.below2;
    apart = λ f g u u2. let x = used_is f u in let y = used_is g u2 in
        named_apart pairs apart i f g x.0 y.0 x.1 y.1;
    how = λ f u. let x = fit_of f u in
        ap (λ n. held n (newest_first j2)) x.1.0 ∙ x.1.1.how;
    checks = λ f u. let x = fit_of f u in
        ap (λ n. last_check n (newest_first j2)) x.1.0 ∙ x.1.1.check;
    present_in = sym state2.marks.present ∙ ap (λ (m : Marks). m.present) cells.same.marks
        ∙ state.marks.present;
    new_in = sym state2.marks.new ∙ ap (λ (m : Marks). m.new) cells.same.marks
        ∙ state.marks.new;
    versions_in = sym state2.marks.versions ∙ ap (λ (m : Marks). m.versions) cells.same.marks
        ∙ state.marks.versions;
    content_in = same_content;
    metadata_in = sym state2.meta ∙ cells.same.meta ∙ state.meta;
    attributes_in =
        (λ k. attributes (sym own2 k) (newest_first (sym is2 k)))
        ∙ cells.attributes
        ∙ (λ k. attributes (own k) (newest_first (is k)));
    writers_in = sym state2.counts.writers ∙ ap (λ (m : Counts). m.writers) cells.same.counts
        ∙ state.counts.writers;
    readers_in = sym state2.counts.readers ∙ ap (λ (m : Counts). m.readers) cells.same.counts
        ∙ state.counts.readers;
    execs_in = sym state2.counts.execs ∙ ap (λ (m : Counts). m.execs) cells.same.counts
        ∙ state.counts.execs;
    must_measure_in =
        sym state2.marks.must_measure ∙ ap (λ (m : Marks). m.must_measure) cells.same.marks
        ∙ state.marks.must_measure;
    update_in = sym state2.marks.update ∙ ap (λ (m : Marks). m.update) cells.same.marks
        ∙ state.marks.update;
    modified = sym state2.writes.in_span ∙ cells.same.in_span ∙ state.writes.in_span;
    collection = collection_is inode (newest_first j) (newest_first j2) cells.first.writes.last
        cells.second.writes.last state.writes.since state2.writes.since h.taken
        cells.first.collecting cells.second.collecting (collecting inode (newest_first j))
        (collecting inode (newest_first j2)) state.collecting state2.collecting
        cells.same.collecting (taken_is inode (newest_first j)) (taken_is inode (newest_first j2));
    digests = ap (option_map (digests_seen (newest_first j2))) (sym state2.in_force)
        ∙ force_is (newest_first j2) cells.second.writes.last state2.writes.since
        cells.second.in_force ∙ cells.same.force
        ∙ sym (force_is (newest_first j) cells.first.writes.last state.writes.since
        cells.first.in_force) ∙ ap (option_map (digests_seen (newest_first j))) state.in_force;
    verdicts = λ key. state2.verdicts key ∙ ap (found key) cells.same.verdicts
        ∙ sym (state.verdicts key);
    shown = shown_same list list2 j j2 h.entries;
    told = told_same list list2 (ended_inode inode j) (ended_inode inode j2) h.calls h.calls2;
    listed = listed_same list list2 (ended_inode inode j) (ended_inode inode j2) h.calls h.calls2;
  }

-- there is nothing from the end of a list on
beyond_none : {X : Type 0} (xs : List X) (i : ℕ) → slice_get xs i ≡ None → length xs ≤ i
beyond_none [] i h = omega arith
beyond_none (x ∷ xs) zero h = absurd (none-some x (sym h))
beyond_none (x ∷ xs) (suc i) h = let rest = beyond_none xs i h in omega (arith, rest)

-- ---- semaphores

-- the answered calls don't depend on the names of files
answered_named : (r : ℕ → ℕ → ℕ) (test : Call → Bool) (ps : List Program) (ts : List Position)
    → answered_by test ps (map (position_named r) ts) ≡ answered_by test ps ts
answered_named r test [] ts = refl
answered_named r test (p ∷ ps) [] = refl
answered_named r test (p ∷ ps) (t ∷ ts) =
    ap (λ n. how_many test (answered p t) + n) (answered_named r test ps ts)

-- ---- what a sight shows

-- the inode of a number, as it is left
ended_at : (scene : Scene) (ss : List ScriptFile) (js : List (List Event)) (i : ℕ) (s : ScriptFile)
    (j : List Event) → slice_get ss i ≡ Some s → slice_get js i ≡ Some j
    → slice_get (inodes_ended scene ss js) i ≡ Some (ended_inode (inode_of scene s) j)
ended_at scene [] js i s j at at2 = absurd (none-some s at)
ended_at scene (x ∷ ss) [] i s j at at2 = absurd (none-some j at2)
ended_at scene (x ∷ ss) (y ∷ js) zero s j at at2 =
    (λ k. Some (ended_inode (inode_of scene (same_Some x s at k)) (same_Some y j at2 k)))
ended_at scene (x ∷ ss) (y ∷ js) (suc i) s j at at2 = ended_at scene ss js i s j at at2

-- there are as many as there are files
ended_length : (scene : Scene) (ss : List ScriptFile) (js : List (List Event))
    → length js ≡ length ss → length (inodes_ended scene ss js) ≡ length ss
ended_length scene [] js even = refl
ended_length scene (x ∷ ss) [] even = absurd (omega (arith, even))
ended_length scene (x ∷ ss) (y ∷ js) even =
    ap suc (ended_length scene ss js (omega (arith, even)))

module _ (scene : Scene) (m : Moment) (s : Sight) (sight : IsSight scene m s) where
  state_is : s.world.state ≡ m.state
  state_is = ap (λ (x : Moment). x.state) sight.moment_is

  pub length_is : length s.ended.inodes ≡ length scene.script_files
  length_is = ap (λ (e : EndedValue). length e.inodes) sight.left
      ∙ ended_length scene scene.script_files m.state.journals sight.even

  module _ (i : ℕ) (st : ScriptFile) (at : slice_get scene.script_files i ≡ Some st) (c : CellValue)
      (cell : IsCellAt s.world.consts s.world.state i (Some c)) where
    pub journal_is : slice_get m.state.journals i ≡ Some c.list
    journal_is = ap (λ (x : State). slice_get x.journals i) (sym state_is) ∙ cell.0

    pub journal_there : journal_at m.state i ≡ c.list
    journal_there = get_or_from_slice_get m.state.journals i c.list [] journal_is

    script_file_is : script_file_of s.world.consts cell.1.0 ≡ st
    script_file_is = same_Some (script_file_of s.world.consts cell.1.0) st
        (sym (slice_get-map (script_file_of s.world.consts) s.world.consts.each_inode i
        ∙ ap (option_map (script_file_of s.world.consts)) cell.1.1.0)
        ∙ ap (λ (x : Scene). slice_get x.script_files i) sight.scene_is ∙ at)

    pub inode_is : c.inode ≡ inode_of scene st
    inode_is = cell.1.1.1 ∙ (λ k. record {
      path = (ap (λ (x : ScriptFile). x.path) script_file_is) k;
      settings = (ap (λ (x : Scene). x.settings) sight.scene_is) k;
      birth = (ap (λ (x : ScriptFile). x.birth) script_file_is) k;
    })

    pub ended_is : slice_get s.ended.inodes i ≡ Some (ended_inode (inode_of scene st) c.list)
    ended_is = ap (λ (e : EndedValue). slice_get e.inodes i) sight.left
        ∙ ended_at scene scene.script_files m.state.journals i st c.list at journal_is

    pub follows_is : EachFollows (inode_of scene st) (newest_first c.list)
    follows_is = (sight.finished.reached.legal.follows i st c.list at journal_is).0

-- ---- moments

module _ (scene : Scene) (m n : Moment) (a b : Sight) (one : IsSight scene m a)
    (two : IsSight scene n b) (pairs : List Pair) (apart : are_apart pairs ≡ true)
    (within : are_within (length a.ended.inodes) pairs ≡ true)
    (there : AreIn b.ended.list a.ended.list) (back : AreIn a.ended.list b.ended.list)
    (added : a.ended.rules ≡ []) (added2 : b.ended.rules ≡ [])
    (tasks : ArePositionsPaired pairs (map position_of a.tasks.items)
    (map position_of b.tasks.items))
    (inodes : AreInodesSame pairs a b (length a.ended.inodes)) where
  positions : ArePositionsPaired pairs m.positions n.positions
  positions =
      subst (λ (us : List Position). ArePositionsPaired pairs m.positions us)
      (ap (λ (x : Moment). x.positions) two.moment_is)
      (subst (λ (ts : List Position). ArePositionsPaired pairs ts (map position_of b.tasks.items))
      (ap (λ (x : Moment). x.positions) one.moment_is) tasks)

  named_positions : n.positions ≡ map (position_named (named pairs)) m.positions
  named_positions = positions_are pairs apart m.positions n.positions positions

  list_is : a.ended.list ≡ m.state.list
  list_is = ap (λ (e : EndedValue). e.list) one.left

  list_is2 : b.ended.list ≡ n.state.list
  list_is2 = ap (λ (e : EndedValue). e.list) two.left

  -- the lists have the same entries
  lists : AreListsAlike m.state.list n.state.list
  lists =
      lists_alike m.state.list n.state.list one.finished.merged.distinct
      (λ place e at. subst (λ (l : List Entry). IsIn l e) list_is2
      (there place e (ap (λ (l : List Entry). slice_get l place) list_is ∙ at)))
      (λ place e at. subst (λ (l : List Entry). IsIn l e) list_is
      (back place e (ap (λ (l : List Entry). slice_get l place) list_is2 ∙ at)))

  rules : n.state.added ≡ m.state.added
  rules = sym (ap (λ (e : EndedValue). e.rules) two.left) ∙ added2 ∙ sym added
      ∙ ap (λ (e : EndedValue). e.rules) one.left

  same_posted : (sem : ℕ)
      → posts sem (newest_first n.state.signals) ≡ posts sem (newest_first m.state.signals)
  same_posted sem =
      (count_past sem n.state.signals).0
      ∙ sym (counted_when_reached scene n two.finished.reached sem).0
      ∙ ap (λ (ts : List Position). posted sem scene.programs ts) named_positions
      ∙ answered_named (named pairs) (posts_to sem) scene.programs
      m.positions
      ∙ (counted_when_reached scene m one.finished.reached sem).0
      ∙ sym (count_past sem m.state.signals).0

  same_waited : (sem : ℕ)
      → waits sem (newest_first n.state.signals) ≡ waits sem (newest_first m.state.signals)
  same_waited sem =
      (count_past sem n.state.signals).1
      ∙ sym (counted_when_reached scene n two.finished.reached sem).1
      ∙ ap (λ (ts : List Position). waited sem scene.programs ts) named_positions
      ∙ answered_named (named pairs) (waits_for sem) scene.programs
      m.positions
      ∙ (counted_when_reached scene m one.finished.reached sem).1
      ∙ sym (count_past sem m.state.signals).1

  here : (i : ℕ) (st : ScriptFile) → slice_get scene.script_files i ≡ Some st
      → IsInodeSame pairs i a b
  here i st at =
      inodes i (subst (λ k. i < k) (sym (length_is scene m a one))
      (slice_get_within scene.script_files i st at))

  journals : (i : ℕ) (st : ScriptFile) (at : slice_get scene.script_files i ≡ Some st)
      → AreJournalsSame m.state.list n.state.list pairs i
      (ended_inode (inode_of scene st) (here i st at).cell.list)
      (ended_inode (inode_of scene st) (here i st at).cell2.list)
  journals i st at =
      let x = here i st at in
      subst (λ (l : List Entry). AreJournalsSame l n.state.list pairs i
      (ended_inode (inode_of scene st) x.cell.list)
      (ended_inode (inode_of scene st) x.cell2.list)) list_is
      (subst (λ (l : List Entry). AreJournalsSame a.ended.list l pairs i
      (ended_inode (inode_of scene st) x.cell.list)
      (ended_inode (inode_of scene st) x.cell2.list)) list_is2
      (x.journals (ended_inode (inode_of scene st) x.cell.list)
      (ended_inode (inode_of scene st) x.cell2.list)
      (ended_is scene m a one i st at x.cell x.at)
      (ended_is scene n b two i st at x.cell2 x.at2)))

  inode_there : (i : ℕ) (st : ScriptFile) → slice_get scene.script_files i ≡ Some st
      → IsInodeAlike (inode_of scene st) m.state.list n.state.list (is_used m.positions i)
      (named pairs i) (journal_at m.state i) (journal_at n.state i)
  inode_there i st at =
      let x = here i st at in
      subst (λ (j2 : List Event). IsInodeAlike (inode_of scene st) m.state.list n.state.list
      (is_used m.positions i) (named pairs i) (journal_at m.state i) j2)
      (sym (journal_there scene n b two i st at x.cell2 x.at2))
      (subst (λ (j : List Event). IsInodeAlike (inode_of scene st) m.state.list n.state.list
      (is_used m.positions i) (named pairs i) j x.cell2.list)
      (sym (journal_there scene m a one i st at x.cell x.at))
      (inode_alike (inode_of scene st) m.state.list n.state.list pairs i x.cell.list x.cell2.list
      (is_used m.positions i) apart
      (λ f u. used_in pairs apart i f m.positions n.positions positions
      (journals i st at).files.uncounted u)
      (follows_is scene m a one i st at x.cell x.at)
      (follows_is scene n b two i st at x.cell2 x.at2) x.cell x.cell2 x.cells refl refl
      (inode_is scene m a one i st at x.cell x.at)
      (inode_is scene n b two i st at x.cell2 x.at2) (journals i st at)))

  elsewhere : (i : ℕ) → slice_get scene.script_files i ≡ None → (file : ℕ)
      → named pairs i file ≡ file
  elsewhere i none file =
      named_elsewhere (length a.ended.inodes) i file pairs within
      (subst (λ k. k ≤ i) (sym (length_is scene m a one)) (beyond_none scene.script_files i none))

  pub alike : IsAlike scene m n
  alike = inr (
    named pairs,
    record {
      none = λ i. by i (slice_get scene.script_files i) refl;
      elsewhere = elsewhere;
      positions = named_positions;
      inodes = inode_there;
      lists = lists;
      added = rules;
      semaphores = λ sem. (λ k. same_posted sem k + sym (same_waited sem) k);
    },
  )
    where
      by : (i : ℕ) (o : Option ScriptFile) → slice_get scene.script_files i ≡ o
          → named pairs i 0 ≡ 0
      by i None at = elsewhere i at 0
      by i (Some st) at = named_is pairs apart i 0 0 (journals i st at).files.uncounted

-- Two runs shown by one script with equal reports are the same run.
use Rattle.std.proofs.Common.{◌≡◌, ℕ, zero, suc, ◌<◌, ◌≤◌, ◌==◌, true, List, [], ◌∷◌, ◌++◌, length, map, Option, Some, None, refl, sym, ap, ◌∙◌, subst, inl, inr, arith}
use Rattle.std.specs.Prelude.{slice_get, All, sum_by}
use Rattle.std.proofs.lemmas.Bool.{cases_Bool, false≢true}
use Rattle.std.proofs.lemmas.Bool.Decides.{nat_tests}
use Rattle.std.proofs.lemmas.List.Elements.{All-head, All-tail}
use Rattle.std.proofs.lemmas.List.Sums.{sum_by-cons}
use Rattle.inode_events.specs.templates.declared.entry.Entry.{Entry}
use Rattle.inode_meta.specs.declared.step.Who.{Who}
use Rattle.inode_events.specs.Callers.{caller_of}
use Rattle.inode_events.specs.Inode.{Inode}
use Rattle.inode_events.specs.Legal.{EachFollows, Legal}
use Rattle.inode_events.specs.Listing.{IsListed, Listed, StandsIn, adds}
use Rattle.inode_events.specs.Merged.{IsMerged, Journal, Named, named, places_added, times_added}
use Rattle.inode_events.specs.NewestFirst.{newest_first}
use Rattle.inode_events.specs.declared.told.Event.{Event}
use Rattle.run_model.specs.History.{Position}
use Rattle.run_model.specs.Served.{Run}
use Rattle.run_model.specs.Scene.{Program, Scene, ScriptFile, inode_of}
use Rattle.run_model.specs.Shown.{IsShown, journals_of}
use Rattle.call_steps.specs.declared.ending.Ending.{Ending}
use Rattle.report_text.specs.Printed.{IsOneScript, IsTold, printed}
use Rattle.inode_events.specs.EndedInode.{EndedInodeValue as EndedInode}
use Rattle.report_text.proofs.Whole.{report_tells}
use Rattle.run_laws.proofs.shown.Sound.{journal_has}
use Rattle.report_laws.specs.Law.{IsSameRun, ReportDetermines}
use Rattle.report_laws.proofs.Fitting.{shown_fits}
use Rattle.run_model.specs.EndedValue.{EndedTaskValue as EndedTask, ended_of, grows, inodes_ended, tasks_ended}
use Rattle.report_laws.proofs.Own.{Meet, alike, get_below, is_there, some_same}
use Rattle.report_laws.proofs.NoRules.{no_rules}
use Rattle.report_laws.proofs.Histories.{Shows, same_callers, task_alike}
use Rattle.report_laws.proofs.Journals.{map_past, merged_events, past_once, same_meta, same_past}

-- ---- lists, place by place

-- a list has an element at each place below its length
get_some : {X : Type 0} (xs : List X) (i : ℕ) → i < length xs → (x : X) × (slice_get xs i ≡ Some x)
get_some [] i h = absurd (omega (arith, h))
get_some (x ∷ xs) zero h = (x, refl)
get_some (x ∷ xs) (suc i) h = get_some xs i (omega (arith, h))

-- two lists that map alike have elements at a place that map alike
get_both : {X Y : Type 0} (f : X → Y) (xs ys : List X) (i : ℕ) → map f xs ≡ map f ys → i < length xs
    → (x : X) × (y : X) × (slice_get xs i ≡ Some x) × (slice_get ys i ≡ Some y) × (f x ≡ f y)
get_both f [] ys i e h = absurd (omega (arith, h))
get_both f (x ∷ xs) [] i e h = absurd (let n = ap length e in omega (arith, n))
get_both f (x ∷ xs) (y ∷ ys) zero e h = (x, y, refl, refl, cc e)
get_both f (x ∷ xs) (y ∷ ys) (suc i) e h = get_both f xs ys i (cc e) (omega (arith, h))

-- what holds of all elements holds of the one at a place
All-at : {X : Type 0} (P : X → Type 0) (xs : List X) (i : ℕ) (x : X) → All P xs → slice_get xs i
    ≡ Some x → P x
All-at P [] i x h e = absurd (false≢true (ap is_there e))
All-at P (y ∷ xs) zero x h e = subst P (some_same y x e) (All-head P y xs h)
All-at P (y ∷ xs) (suc i) x h e = All-at P xs i x (All-tail P y xs h) e

-- lists of one length with the same element at each place are equal
same_by_place : {X : Type 0} (xs ys : List X) → length xs ≡ length ys
    → ((i : ℕ) → i < length xs → slice_get xs i ≡ slice_get ys i) → xs ≡ ys
same_by_place [] [] n h = refl
same_by_place [] (y ∷ ys) n h = absurd (omega (arith, n))
same_by_place (x ∷ xs) [] n h = absurd (omega (arith, n))
same_by_place (x ∷ xs) (y ∷ ys) n h =
    let here : x ≡ y = some_same x y (h 0 (omega arith)) in
    let others : xs ≡ ys =
    same_by_place xs ys (omega (arith, n)) (λ i below. h (suc i) (omega (arith, below))) in
    λ i. here i ∷ others i

-- ---- the ended run, from which a report is made

-- the journals of the ended run are those of the run, as printed
shown_journals : (scene : Scene) (ss : List ScriptFile) (js : List (List Event)) → length js
    ≡ length ss
    → map (λ (i : EndedInode). map (printed scene.settings.template (grows scene)) i.journal)
    (inodes_ended scene ss js) ≡ map (map (printed scene.settings.template (grows scene))) js
shown_journals scene [] [] n = refl
shown_journals scene [] (j ∷ js) n = absurd (omega (arith, n))
shown_journals scene (s ∷ ss) [] n = refl
shown_journals scene (s ∷ ss) (j ∷ js) n =
    ap (λ l. map (printed scene.settings.template (grows scene)) j ∷ l)
    (shown_journals scene ss js (omega (arith, n)))

-- the ended run has an inode for each file
length_inodes : (scene : Scene) (ss : List ScriptFile) (js : List (List Event))
    → length js ≡ length ss → length (inodes_ended scene ss js) ≡ length ss
length_inodes scene [] js n = refl
length_inodes scene (s ∷ ss) [] n = absurd (omega (arith, n))
length_inodes scene (s ∷ ss) (j ∷ js) n =
    omega (arith, length_inodes scene ss js (omega (arith, n)))

-- the ended run has a task for each program
length_tasks : (ps : List Program) (ts : List Position) → length ts ≡ length ps
    → length (tasks_ended ps ts) ≡ length ps
length_tasks [] ts n = refl
length_tasks (p ∷ ps) [] n = absurd (omega (arith, n))
length_tasks (p ∷ ps) (t ∷ ts) n = omega (arith, length_tasks ps ts (omega (arith, n)))

-- the replies in the ended run are those of the tasks
shown_replies : (ps : List Program) (ts : List Position) → length ts ≡ length ps
    → map (λ (t : EndedTask). t.replies) (tasks_ended ps ts) ≡ map (λ (t : Position). t.replies) ts
shown_replies [] [] n = refl
shown_replies [] (t ∷ ts) n = absurd (omega (arith, n))
shown_replies (p ∷ ps) [] n = refl
shown_replies (p ∷ ps) (t ∷ ts) n = ap (λ l. t.replies ∷ l) (shown_replies ps ts (omega (arith, n)))

-- ---- the measurement list

-- two lists that both have the entry that an event names are equal at its place
stands_same : (xs ys : List Entry) (l : Listed) (place : ℕ) → (l.0 == place) ≡ true
    → StandsIn xs (Some l) → StandsIn ys (Some l) → slice_get xs place ≡ slice_get ys place
stands_same xs ys l place eq p q =
    let at : l.0 ≡ place = grind (arith, nat_tests) in
    ap (slice_get xs) (sym at) ∙ p ∙ sym q ∙ ap (slice_get ys) at

-- if the event or an earlier one names the place, the lists are equal there
added_same : (xs ys : List Entry) (place : ℕ) (w : Who) (o : Option Listed) (rest : List Named)
    → StandsIn xs o → StandsIn ys o
    → (0 < times_added place rest → slice_get xs place ≡ slice_get ys place)
    → 0 < times_added place (named w o ++ rest) → slice_get xs place ≡ slice_get ys place
added_same xs ys place w None rest p q h lt = h lt
added_same xs ys place w (Some l) rest p q h lt = elim (cases_Bool (l.0 == place)) [
  | inl eq ↦ stands_same xs ys l place eq p q
  | inr ne ↦ h (rw ne at lt)
]

-- at a place that a journal adds, the lists are equal
journal_same : (xs ys : List Entry) (place : ℕ) (inode : Inode) (es : List Event)
    → IsListed inode xs es → IsListed inode ys es
    → 0 < times_added place (places_added inode es) → slice_get xs place ≡ slice_get ys place
journal_same xs ys place inode [] p q lt = absurd (omega (arith, lt))
journal_same xs ys place inode (e ∷ es) p q lt =
    added_same xs ys place e.who (adds inode e.deed e.told es) (places_added inode es) p.0 q.0
    (journal_same xs ys place inode es p.2 q.2) lt

-- at a place that one of the journals adds, the lists are equal
journals_same : (xs ys : List Entry) (place : ℕ) (js : List Journal)
    → All (λ (j : Journal). IsListed j.inode xs j.events) js
    → All (λ (j : Journal). IsListed j.inode ys j.events) js
    → 0 < sum_by (λ (j : Journal). times_added place (places_added j.inode j.events)) js
    → slice_get xs place ≡ slice_get ys place
journals_same xs ys place [] p q lt = absurd (omega (arith, lt))
journals_same xs ys place (j ∷ js) p q lt =
    let sum = sum_by-cons (λ (j : Journal). times_added place (places_added j.inode j.events)) j js
    in
    elim (cases_Bool (times_added place (places_added j.inode j.events) == 0)) [
      | inl z ↦
          let none : times_added place (places_added j.inode j.events)
          ≡ 0 = grind (arith, nat_tests) in
          journals_same xs ys place js
          (All-tail (λ (j : Journal). IsListed j.inode xs j.events) j js p)
          (All-tail (λ (j : Journal). IsListed j.inode ys j.events) j js q)
          (omega (arith, lt, sum, none))
      | inr s ↦
          let some : 0 < times_added place (places_added j.inode j.events) =
          grind (arith, nat_tests) in
          journal_same xs ys place j.inode j.events
          (All-head (λ (j : Journal). IsListed j.inode xs j.events) j js p)
          (All-head (λ (j : Journal). IsListed j.inode ys j.events) j js q) some
    ]

-- the journals and the length determine the list
pub list_same : (boot : Entry) (js : List Journal) (xs ys : List Entry) → IsMerged boot xs js
    → IsMerged boot ys js → length xs ≡ length ys → xs ≡ ys
list_same boot js xs ys p q n =
    same_by_place xs ys n (λ place below. elim (cases_Bool (place == 0)) [
      | inl z ↦ let zero_is : place ≡ 0 = grind (arith, nat_tests) in ap (slice_get xs) zero_is
          ∙ p.first ∙ sym q.first ∙ ap (slice_get ys) (sym zero_is)
      | inr s ↦
          let one : sum_by (λ (j : Journal). times_added place (places_added j.inode j.events)) js
          ≡ 1 = rw s at (p.once place below) in
          journals_same xs ys place js p.listed q.listed (omega (arith, one))
    ])

-- ---- the whole

module _ (scene : Scene) (ending : Ending) (a b : Run) (sa : IsShown scene ending a)
    (sb : IsShown scene ending b)
    (told : IsTold (ended_of scene a) (ended_of scene b)) where
  shown : map (map (printed scene.settings.template (grows scene))) a.journals
      ≡ map (map (printed scene.settings.template (grows scene))) b.journals
  shown = sym (shown_journals scene scene.script_files a.journals sa.served.journals) ∙ told.events
      ∙ shown_journals scene scene.script_files b.journals sb.served.journals

  shows : Shows scene a b
  shows i below = get_both (map (printed scene.settings.template (grows scene))) a.journals
      b.journals i shown (omega (arith, below, sa.served.journals))

  each_at : (i : ℕ) (s : ScriptFile) (x y : List Event) → slice_get scene.script_files i ≡ Some s
      → slice_get a.journals i ≡ Some x → slice_get b.journals i ≡ Some y
      → EachFollows (inode_of scene s) (newest_first x)
      × EachFollows (inode_of scene s) (newest_first y)
  each_at i s x y es ex ey = (
    (journal_has (λ (j : Journal). Legal j.inode j.events) scene scene.script_files a.journals i s x
        sa.legal es ex).1,
    (journal_has (λ (j : Journal). Legal j.inode j.events) scene scene.script_files b.journals i s y
        sb.legal es ey).1,
  )

  same_shown : (i : ℕ) (x y : List Event) → slice_get a.journals i ≡ Some x → slice_get b.journals i
      ≡ Some y
      → map (printed scene.settings.template (grows scene)) x
      ≡ map (printed scene.settings.template (grows scene)) y
  same_shown i x y ex ey =
      let s = shows i (omega (arith, get_below a.journals i x ex, sa.served.journals)) in
      ap (map (printed scene.settings.template (grows scene))) (some_same x s.0 (sym ex ∙ s.2))
      ∙ s.4
      ∙ ap (map (printed scene.settings.template (grows scene))) (some_same s.1 y (sym s.3 ∙ ey))

  meet : Meet scene a b
  meet = record {
    added = told.rules;
    few = no_rules scene a sa.served;
    meta = λ i k x y ex ey.
        let below : i < length scene.script_files =
        omega (arith, get_below a.journals i x ex, sa.served.journals) in
        let s = get_some scene.script_files i below in
        let each = each_at i s.0 x y s.1 ex ey in
        same_meta scene (inode_of scene s.0) k x y each.0 each.1 (same_shown i x y ex ey);
  }

  journal_once : (i : ℕ) (x y : List Event) → slice_get a.journals i ≡ Some x
      → slice_get b.journals i ≡ Some y → x ≡ y
  journal_once i x y ex ey =
      let below : i < length scene.script_files =
      omega (arith, get_below a.journals i x ex, sa.served.journals) in
      let s = get_some scene.script_files i below in
      let each = each_at i s.0 x y s.1 ex ey in
      let callers = same_callers scene x y (same_shown i x y ex ey) in
      let few = All-at (λ (j : List Event). All (λ (e : Event). caller_of e ≤ length scene.programs)
      j) a.journals i x sa.served.no_other_events ex in
      let events : map alike x ≡ map alike y = merged_events (length scene.programs) x y callers few
      (λ n at.
      let p = get_some scene.programs n at in
      let ta = get_some a.positions n (omega (arith, at, sa.served.positions)) in
      let tb = get_some b.positions n (omega (arith, at, sb.served.positions)) in
      task_alike scene a b n p.0 ta.0 tb.0 meet shows (sa.served.tasks n p.0 ta.0 p.1 ta.1)
      (sb.served.tasks n p.0 tb.0 p.1 tb.1) i x y below ex ey) in
      past_once x y
      (same_past (inode_of scene s.0) (newest_first x) (newest_first y) each.0 each.1
      (map_past alike x ∙ ap newest_first events ∙ sym (map_past alike y)))

  same_lengths : length a.journals ≡ length b.journals
  same_lengths = sa.served.journals ∙ sym sb.served.journals

  journals_once : a.journals ≡ b.journals
  journals_once = same_by_place a.journals b.journals same_lengths (λ i below.
      let x = get_some a.journals i below in
      let y = get_some b.journals i (omega (arith, below, same_lengths)) in
      x.1 ∙ ap (λ z. Some z) (journal_once i x.0 y.0 x.1 y.1) ∙ sym y.1)

  pub run_once : IsSameRun a b
  run_once = record {
    journals = journals_once;
    list = list_same scene.boot (journals_of scene scene.script_files a.journals) a.list b.list
        sa.merged
        (subst (λ js. IsMerged scene.boot b.list (journals_of scene scene.script_files js))
        (sym journals_once) sb.merged)
        told.count;
    added = told.rules;
    replies = sym (shown_replies scene.programs a.positions sa.served.positions) ∙ told.replies
        ∙ shown_replies scene.programs b.positions sb.served.positions;
  }

-- two runs shown by one script with equal reports are the same run
pub report_determines : ReportDetermines
report_determines scene ending a b names sa sb e =
    let one : IsOneScript (ended_of scene a) (ended_of scene b) = record {
      template = refl;
      grows = refl;
      base = refl;
      inodes = length_inodes scene scene.script_files a.journals sa.served.journals
          ∙ sym (length_inodes scene scene.script_files b.journals sb.served.journals);
      tasks = length_tasks scene.programs a.positions sa.served.positions
          ∙ sym (length_tasks scene.programs b.positions sb.served.positions);
      none_of_a = no_rules scene a sa.served;
      none_of_b = no_rules scene b sb.served;
    } in
    run_once scene ending a b sa sb (report_tells (ended_of scene a) (ended_of scene b)
    (shown_fits scene ending a names sa) (shown_fits scene ending b names sb) one e)

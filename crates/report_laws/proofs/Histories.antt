-- Two histories of one task whose events print alike make the same steps.
use Rattle.std.proofs.Common.{◌≡◌, ℕ, ◌+◌, ◌-◌, ◌<◌, ◌≤◌, ◌==◌, Bool, true, false, ◌&&◌, nat_le, List, [], ◌∷◌, ◌++◌, length, map, take, drop, Some, refl, sym, ap, ◌∙◌, subst, append_assoc, inl, inr, arith, length-append, length-drop}
use Rattle.std.specs.Prelude.{slice_get}
use Rattle.std.specs.List.{list_all}
use Rattle.std.proofs.lemmas.Bool.{and_parts, cases_Bool, false≢true, leb-true}
use Rattle.std.proofs.lemmas.Bool.Decides.{nat_tests}
use Rattle.std.proofs.lemmas.List.{append-nil, take-append-drop}
use Rattle.std.proofs.lemmas.List.Folds.{list_all-append}
use Rattle.run_model.specs.growing.Entries.{entries_from}
use Rattle.inode_events.specs.Callers.{caller_in, caller_of}
use Rattle.inode_events.specs.declared.deed.Deed.{Deed}
use Rattle.inode_events.specs.declared.deed.Deed.TheVariants as deed
use Rattle.inode_events.specs.declared.told.Event.{Event}
use Rattle.run_model.specs.History.{Answer, Position, call_at, event_in, own, position, step_at, who_at}
use Rattle.run_model.specs.Served.{AreSuited, IsServed, Run, Suits, events_of, rules_known}
use Rattle.run_model.specs.Scene.{Program, Scene, mode_of}
use Rattle.report_text.specs.Printed.{printed, printed_by}
use Rattle.run_model.specs.EndedValue.{grows}
use Rattle.report_laws.proofs.CallStates.{call_state_after, next_call_state, place_in, step_plain, who_plain}
use Rattle.report_laws.proofs.Own.{Alike, Meet, al, empty, event_length, is_no_birth, length_alike, length_map, map_append, middle, no_birth, own_after, pr, rules_least, step_alike, suited_after}

-- a test that a whole list passes, each part of the list passes
all_middle : {X : Type 0} (q : X → Bool) (u v w : List X) → list_all q ((u ++ v) ++ w) ≡ true
    → list_all q v ≡ true
all_middle q u v w h =
    let one : (list_all q (u ++ v) && list_all q w) ≡ true = rw (list_all-append q (u ++ v) w) at h
    in
    let two : list_all q (u ++ v) ≡ true = (and_parts _ _ one).0 in
    let three : (list_all q u && list_all q v) ≡ true = rw (list_all-append q u v) at two in
    (and_parts _ _ three).1

module _ (scene : Scene) (a b : Run) (n : ℕ) (p : Program) (meet : Meet scene a b)
    (ha hb : List Answer)
    (sa : AreSuited scene a p ha) (sb : AreSuited scene b p hb)
    (same : (i : ℕ) → i < length scene.script_files → map (pr scene) (own (mode_of scene) n p i ha)
    ≡ map (pr scene) (own (mode_of scene) n p i hb))
    (nb : (i : ℕ) → i < length scene.script_files → list_all no_birth (own (mode_of scene) n p i ha)
    ≡ true) where
  -- histories of one length lead to the same state and to alike events
  alike_from : (ga gb fa fb : List Answer) → ha ≡ fa ++ ga → hb ≡ fb ++ gb → length ga ≡ length gb
      → Alike scene n p ga gb
  alike_from [] [] fa fb ea eb len = record { call_states = refl; events = λ i. refl }
  alike_from [] (y ∷ gb) fa fb ea eb len = absurd (omega (arith, len))
  alike_from (x ∷ ga) [] fa fb ea eb len = absurd (omega (arith, len))
  alike_from (x ∷ ga) (y ∷ gb) fa fb ea eb len =
      let before =
      alike_from ga gb (fa ++ x ∷ []) (fb ++ y ∷ []) (ea ∙ sym (append_assoc fa (x ∷ []) ga))
      (eb ∙ sym (append_assoc fb (y ∷ []) gb)) (omega (arith, len)) in
      let ta = position (mode_of scene) p ga in
      let tb = position (mode_of scene) p gb in
      let s = step_at p ta.call_state in
      let w = who_at n p ta.call_state in
      let step : s ≡ step_at p tb.call_state =
      step_plain p ta.call_state ∙ ap (step_at p) before.call_states
      ∙ sym (step_plain p tb.call_state) in
      let who : w ≡ who_at n p tb.call_state =
      who_plain n p ta.call_state ∙ ap (who_at n p) before.call_states
      ∙ sym (who_plain n p tb.call_state) in
      let suits_a = suited_after scene a p fa (x ∷ ga) (subst (AreSuited scene a p) ea sa) in
      let suits_b = suited_after scene b p fb (y ∷ gb) (subst (AreSuited scene b p) eb sb) in
      let hy : Suits scene b p (rules_known scene p gb) s y =
      subst (λ z. Suits scene b p (rules_known scene p gb) z y) (sym step) suits_b.0 in
      let whole_a = λ (i : ℕ). ap (own (mode_of scene) n p i) ea
      ∙ (own_after scene n p i fa (x ∷ ga)).1 in
      let mine : (i : ℕ) → own (mode_of scene) n p i gb ++ event_in i w s y
      ≡ own (mode_of scene) n p i (y ∷ gb) = λ i. λ j. own (mode_of scene) n p i gb
      ++ event_in i (who j) (step j) y in
      let whole_b = λ (i : ℕ). ap (own (mode_of scene) n p i) eb
      ∙ (own_after scene n p i fb (y ∷ gb)).1
      ∙ sym (ap (λ l. l ++ (own_after scene n p i fb (y ∷ gb)).0) (mine i)) in
      let shown = λ (i : ℕ) (below : i < length scene.script_files).
      middle (pr scene) (own (mode_of scene) n p i ga) (own (mode_of scene) n p i gb)
      (event_in i w s x) (event_in i w s y)
      (own_after scene n p i fa (x ∷ ga)).0 (own_after scene n p i fb (y ∷ gb)).0
      (length_alike (own (mode_of scene) n p i ga) (own (mode_of scene) n p i gb) (before.events i))
      (event_length i w s x y)
      (sym (ap (map (pr scene)) (whole_a i)) ∙ same i below ∙ ap (map (pr scene)) (whole_b i)) in
      let births = λ (i : ℕ) (below : i < length scene.script_files).
      all_middle no_birth (own (mode_of scene) n p i ga) (event_in i w s x)
      (own_after scene n p i fa (x ∷ ga)).0
      (subst (λ l. list_all no_birth l ≡ true) (whole_a i) (nb i below)) in
      let here = step_alike scene a b p meet (rules_known scene p ga) (rules_known scene p gb) w s x
      y suits_a.0 hy
      (rules_least scene a p ga suits_a.1) (rules_least scene b p gb suits_b.1) shown births in
      let place : place_in s x.place ≡ place_in (step_at p tb.call_state) y.place = here.place
      ∙ ap (λ z. place_in z y.place) step in
      record {
        call_states = call_state_after (mode_of scene) p ta x
            ∙ (λ j. next_call_state (mode_of scene) p (call_at p (before.call_states j))
            (before.call_states j) (place j) (here.told j) (here.action j))
            ∙ sym (call_state_after (mode_of scene) p tb y);
        events = λ i. map_append al (own (mode_of scene) n p i ga) (event_in i w s x)
            ∙ (λ j. before.events i j ++ here.events i j)
            ∙ sym (map_append al (own (mode_of scene) n p i gb) (event_in i w s y))
            ∙ ap (map al) (mine i);
      }

  same_length : (i : ℕ) → i < length scene.script_files → length (own (mode_of scene) n p i ha)
      ≡ length (own (mode_of scene) n p i hb)
  same_length i below = sym (length_map (pr scene) (own (mode_of scene) n p i ha))
      ∙ ap length (same i below) ∙ length_map (pr scene) (own (mode_of scene) n p i hb)

  -- whichever history is longer, its further steps made no event
  pub whole_alike : (i : ℕ) → i < length scene.script_files → map al (own (mode_of scene) n p i ha)
      ≡ map al (own (mode_of scene) n p i hb)
  whole_alike i below = elim (cases_Bool (nat_le (length ha) (length hb))) [
    | inl le ↦
        let k = length hb - length ha in
        let fb = take k hb in
        let gb = drop k hb in
        let eb : hb ≡ fb ++ gb = sym (take-append-drop k hb) in
        let fits : length ha ≤ length hb = leb-true _ _ le in
        let len : length ha ≡ length gb = omega (arith, length-drop k hb, fits) in
        let r = own_after scene n p i fb gb in
        let alike = alike_from ha gb [] fb refl eb len in
        let whole : own (mode_of scene) n p i hb ≡ own (mode_of scene) n p i gb ++ r.0 =
        ap (own (mode_of scene) n p i) eb ∙ r.1 in
        let none : r.0 ≡ [] = empty r.0 (omega (
          arith,
          same_length i below,
          length_alike (own (mode_of scene) n p i ha) (own (mode_of scene) n p i gb)
              (alike.events i),
          ap length whole,
          length-append (own (mode_of scene) n p i gb) r.0,
        )) in
        alike.events i
        ∙ ap (map al)
        (sym (whole ∙ ap (λ l. own (mode_of scene) n p i gb ++ l) none
        ∙ append-nil (own (mode_of scene) n p i gb)))
    | inr gt ↦
        let k = length ha - length hb in
        let fa = take k ha in
        let ga = drop k ha in
        let ea : ha ≡ fa ++ ga = sym (take-append-drop k ha) in
        let fits : length hb ≤ length ha = grind (arith, nat_tests) in
        let len : length ga ≡ length hb = omega (arith, length-drop k ha, fits) in
        let r = own_after scene n p i fa ga in
        let alike = alike_from ga hb fa [] ea refl len in
        let whole : own (mode_of scene) n p i ha ≡ own (mode_of scene) n p i ga ++ r.0 =
        ap (own (mode_of scene) n p i) ea ∙ r.1 in
        let none : r.0 ≡ [] = empty r.0 (omega (
          arith,
          same_length i below,
          length_alike (own (mode_of scene) n p i ga) (own (mode_of scene) n p i hb)
              (alike.events i),
          ap length whole,
          length-append (own (mode_of scene) n p i ga) r.0,
        )) in
        ap (map al) (whole ∙ ap (λ l. own (mode_of scene) n p i ga ++ l) none
        ∙ append-nil (own (mode_of scene) n p i ga)) ∙ alike.events i
  ]

-- ---- a task's entries in a journal

-- the entries of a caller, as printed, are those of the printed journal
pr_entries : (scene : Scene) (n k : ℕ) (ms : List ℕ) (xs : List Event)
    → map (pr scene) (entries_from n k ms xs)
    ≡ entries_from n k ms (map (printed scene.settings.template (grows scene)) xs)
pr_entries scene n k [] xs = refl
pr_entries scene n k (m ∷ ms) [] = refl
pr_entries scene n k (m ∷ ms) (x ∷ xs) = elim (cases_Bool (n == m)) [
  | inl e ↦ rw (e, pr_entries scene n (k + 1) ms xs) refl
  | inr e ↦ rw (e, pr_entries scene n (k + 1) ms xs) refl
]

-- an event of a task isn't a birth
no_birth_by : (n t : ℕ) (d : Deed) → (n + 1 == caller_in t d) ≡ true → is_no_birth d ≡ true
no_birth_by n t deed.Birth h =
    absurd (let no : (n + 1 == 0) ≡ false = grind (arith, nat_tests) in false≢true (sym no ∙ h))
no_birth_by n t (deed.Count h) hh = refl
no_birth_by n t (deed.Check f fn ac r) hh = refl
no_birth_by n t (deed.Take f) hh = refl
no_birth_by n t (deed.Chunk f) hh = refl
no_birth_by n t (deed.Finish f) hh = refl
no_birth_by n t (deed.Read f o v) hh = refl
no_birth_by n t (deed.Write f o b) hh = refl
no_birth_by n t (deed.Trunc f v) hh = refl
no_birth_by n t (deed.SetAttr nm b ad) hh = refl
no_birth_by n t (deed.SetMeta c) hh = refl
no_birth_by n t (deed.Close f) hh = refl
no_birth_by n t (deed.CloseTake f) hh = refl
no_birth_by n t (deed.CloseChunk f) hh = refl
no_birth_by n t (deed.CloseFinish f) hh = refl
no_birth_by n t (deed.Post s) hh = refl
no_birth_by n t (deed.Wait s) hh = refl

-- none of a task's entries is a birth
no_births : (n k : ℕ) (xs : List Event)
    → list_all no_birth (entries_from (n + 1) k (map caller_of xs) xs) ≡ true
no_births n k [] = refl
no_births n k (x ∷ xs) = elim (cases_Bool (n + 1 == caller_of x)) [
  | inl e ↦ rw (e, no_birth_by n x.who.task x.deed e) (no_births n (k + 1) xs)
  | inr e ↦ rw e (no_births n (k + 1) xs)
]

-- a printed event has the caller of the event, deed by deed
caller_printed_by : (scene : Scene) (e : Event) (d : Deed)
    → caller_of (printed_by scene.settings.template (grows scene) e d) ≡ caller_in e.who.task d
caller_printed_by scene e deed.Birth = refl
caller_printed_by scene e (deed.Count h) = refl
caller_printed_by scene e (deed.Check f fn ac r) = refl
caller_printed_by scene e (deed.Take f) = refl
caller_printed_by scene e (deed.Chunk f) = refl
caller_printed_by scene e (deed.Finish f) = refl
caller_printed_by scene e (deed.Read f o v) = refl
caller_printed_by scene e (deed.Write f o b) = refl
caller_printed_by scene e (deed.Trunc f v) = refl
caller_printed_by scene e (deed.SetAttr nm b ad) = refl
caller_printed_by scene e (deed.SetMeta c) = refl
caller_printed_by scene e (deed.Close f) = refl
caller_printed_by scene e (deed.CloseTake f) = refl
caller_printed_by scene e (deed.CloseChunk f) = refl
caller_printed_by scene e (deed.CloseFinish f) = refl
caller_printed_by scene e (deed.Post s) = refl
caller_printed_by scene e (deed.Wait s) = refl

-- a printed journal has the callers of the journal
pub callers_printed : (scene : Scene) (xs : List Event)
    → map caller_of (map (printed scene.settings.template (grows scene)) xs) ≡ map caller_of xs
callers_printed scene [] = refl
callers_printed scene (x ∷ xs) = cc (caller_printed_by scene x x.deed, callers_printed scene xs)

-- journals that print alike have the same callers
pub same_callers : (scene : Scene) (xs ys : List Event)
    → map (printed scene.settings.template (grows scene)) xs
    ≡ map (printed scene.settings.template (grows scene)) ys
    → map caller_of xs ≡ map caller_of ys
same_callers scene xs ys e = sym (callers_printed scene xs) ∙ ap (map caller_of) e
    ∙ callers_printed scene ys

-- journals that print alike have the same printed entries of each task
same_entries : (scene : Scene) (n : ℕ) (xs ys : List Event)
    → map (printed scene.settings.template (grows scene)) xs
    ≡ map (printed scene.settings.template (grows scene)) ys
    → map (pr scene) (events_of n xs) ≡ map (pr scene) (events_of n ys)
same_entries scene n xs ys e =
    pr_entries scene (n + 1) 0 (map caller_of xs) xs
    ∙ (λ i. entries_from (n + 1) 0 (same_callers scene xs ys e i) (e i))
    ∙ sym (pr_entries scene (n + 1) 0 (map caller_of ys) ys)

-- the two journals of each inode print alike
abbrev pub Shows : Scene → Run → Run → Type 0
Shows scene a b = (i : ℕ) → i < length scene.script_files → (x : List Event) × (y : List Event)
    × (slice_get a.journals i ≡ Some x) × (slice_get b.journals i ≡ Some y)
    × (map (printed scene.settings.template (grows scene)) x
    ≡ map (printed scene.settings.template (grows scene)) y)

-- two runs whose journals print alike have alike events of each task in each journal
pub task_alike : (scene : Scene) (a b : Run) (n : ℕ) (p : Program) (ta tb : Position)
    → Meet scene a b → Shows scene a b
    → IsServed scene a n p ta → IsServed scene b n p tb
    → (i : ℕ) (x y : List Event) → i < length scene.script_files → slice_get a.journals i ≡ Some x
    → slice_get b.journals i ≡ Some y
    → map al (events_of n x) ≡ map al (events_of n y)
task_alike scene a b n p ta tb meet shows sa sb i x y below ex ey =
    let same = λ (k : ℕ) (at : k < length scene.script_files). (let s = shows k at in
    ap (map (pr scene)) (sym (sa.events k s.0 s.2)) ∙ same_entries scene n s.0 s.1 s.4
    ∙ ap (map (pr scene)) (sb.events k s.1 s.3)) in
    let births = λ (k : ℕ) (at : k < length scene.script_files). (let s = shows k at in
    subst (λ l. list_all no_birth l ≡ true) (sa.events k s.0 s.2) (no_births n 0 s.0)) in
    ap (map al) (sa.events i x ex) ∙ whole_alike scene a b n p meet sa.history sb.history sa.suited
    sb.suited same births i below ∙ sym (ap (map al) (sb.events i y ey))

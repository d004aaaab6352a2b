-- At moments that are alike, a turn of a task moves it in both or in none, and if it does, it leads
-- to moments that are alike.
use Rattle.std.proofs.Common.{◌≡◌, ℕ, ◌++◌, ◌∷◌, [], ◌⊎◌, Bool, true, false, List, length, Option, Some, None, is_some, option_map, slice_get, slice_set, if◌then◌else◌, refl, ap, sym, subst, ◌∙◌, inl, inr, ⊎_elim}
use Rattle.std.proofs.lemmas.Option.{slice_get-map}
use Rattle.order_counts.specs.Layers.{BothOrNone}
use Rattle.order_outcomes.specs.Orders.{moved}
use Rattle.report_text.specs.model.History.{Position, call_at, event, position_with, resume, resume_in, step_in, who_at, who_in}
use Rattle.report_text.specs.model.Rounds.{is_moved, moves_at}
use Rattle.report_text.specs.model.Scene.{Program, Scene, ScriptFile, decided, inode_of, mode_of, rules_with}
use Rattle.report_text.specs.model.Turns.{Moment, State, Turned, journal_at, resume_told, state_on, step_check, step_does, step_due, step_event, step_signal, step_task, turn_of, turned}
use Rattle.report_text.specs.model.events.Asked.{made, outcome}
use Rattle.report_text.specs.model.events.Checks.{no_action}
use Rattle.report_text.specs.model.events.Files.{counted}
use Rattle.report_text.specs.model.events.NewestFirst.{newest_first}
use Rattle.report_text.specs.model.events.Semaphores.{semaphore_says}
use Rattle.report_text.specs.model.events.State.{metadata}
use Rattle.report_text.specs.model.events.declared.deed.Deed.{Deed}
use Rattle.report_text.specs.model.events.declared.deed.Deed.TheVariants as deed
use Rattle.report_text.specs.model.events.declared.deed.How.{How}
use Rattle.report_text.specs.model.events.declared.told.Event.{Event}
use Rattle.report_text.specs.model.events.declared.told.Told.{Told}
use Rattle.report_text.specs.model.events.declared.told.Told.TheVariants as told
use Rattle.report_text.specs.model.events.meta.declared.appraisal.Mode.{Mode}
use Rattle.report_text.specs.model.events.meta.declared.identity.Meta.{Meta}
use Rattle.report_text.specs.model.events.meta.declared.step.Who.{Who}
use Rattle.report_text.specs.model.policy.RuleValue.{RuleValue}
use Rattle.report_text.specs.model.policy.declared.access.Action.{Action}
use Rattle.report_text.specs.model.policy.declared.rule.Func.{Func}
use Rattle.report_text.specs.model.events.templates.declared.entry.Placed.{Placed}
use Rattle.report_text.specs.model.rules.declared.cell.RuleEntry.{RuleEntry}
use Rattle.report_text.specs.model.steps.CallState.{Progress, Step, deed_of, file_after, plain_step, progress_of, step_by}
use Rattle.report_text.specs.model.steps.CallState.{moved as moved_on}
use Rattle.report_text.specs.model.steps.CallState.{Nothing, Does, Checks, Signals, Appends}
use Rattle.report_text.specs.model.steps.Steps.{after_count, course_of, next, next_by}
use Rattle.report_text.specs.model.steps.declared.ask.Ask.{Ask}
use Rattle.report_text.specs.model.steps.declared.ask.Ask.TheVariants as ask
use Rattle.report_text.specs.model.steps.declared.call.Call.{Call}
use Rattle.report_text.specs.model.steps.declared.call.Call.TheVariants as call
use Rattle.report_text.specs.model.steps.declared.course.Course.{Course}
use Rattle.report_text.specs.model.steps.declared.due.Next.{Next}
use Rattle.report_text.specs.model.steps.declared.reply.Reply.{Reply}
use Rattle.report_text.specs.model.declared.turn.Turn.TheVariants as turns
use Rattle.order_outcomes.specs.alike.Alike.{IsAlike, IsAlikeBy, IsRenamed}
use Rattle.order_outcomes.specs.alike.Names.{Naming, has_file, is_used, position_named, progress_named}
use Rattle.order_outcomes.proofs.alike.InodeLaws.{InodeLaws, IsUsed, deed_named, file_in}
use Rattle.order_outcomes.proofs.alike.InodeRetold.{told_with}
use Rattle.order_outcomes.proofs.alike.MomentAfter.{SameCount, count_more, event_alike, keeps_apart, keeps_names, naming_after, naming_new, outcome_alike, reply2, rest_alike, says_same}
use Rattle.order_outcomes.proofs.alike.MomentNames.{KeepsApart, progress_of-named, progress_of-used}
use Rattle.order_outcomes.proofs.alike.MomentSteps.{IsNew, deed_of-used, moved_named, moved_used, step_by-named, step_named}
use Rattle.order_outcomes.proofs.alike.MomentPositions.{Covers, covers_at, handles_agree, handles_used, progress_used}

-- ---- the step that counts a file

-- the deed of this step: only a count counts a file
abbrev Suits : Ask → Deed → Type 0
Suits ask.Count d = (h : How) × (d ≡ deed.Count h)
Suits _ d = Unit {0}

-- a call goes on after a count only if the file was counted
new_counted : (course : Course) (rep : Reply) (t : Told) (h : How) (g : Progress)
    (place k file : ℕ) → IsNew ask.Count (after_count course rep t) g place k file
    → ((k ≡ g.inode) × (file ≡ place)) × (is_some (counted (deed.Count h) t) ≡ true)
new_counted course rep told.Held h g place k file new = (new, refl)
new_counted course rep _ h g place k file new = absurd new

-- a new file is one that the deed has counted
new_by : (mode : Mode) (course : Course) (k : Ask) (rep : Reply) (t : Told) (action : Action)
    (g : Progress) (place i file : ℕ) (d : Deed) → Suits k d
    → IsNew k (next_by mode course k rep t action) g place i file
    → (i ≡ g.inode) × ((file ≡ place) × (is_some (counted d t) ≡ true))
new_by mode course ask.Count rep t action g place i file d suits new =
    let found = new_counted course rep t suits.0 g place i file new in
    (found.0.0, (found.0.1, ap (λ (x : Deed). is_some (counted x t)) suits.1 ∙ found.1))
new_by mode course _ rep t action g place i file d suits new = absurd new

-- the file after the step has its name: a counted one that of its place
file_named : (q : ℕ → ℕ) (k : Ask) (place place2 file old : ℕ) → q place ≡ place2
    → old ≡ q file → file_after k place2 old ≡ q (file_after k place file)
file_named q ask.Count place place2 file old new same = sym new
file_named q _ place place2 file old new same = same

-- what comes next doesn't depend on the reply of a list
next_with : (q : Placed) (mode : Mode) (course : Course) (k : Ask) (rep : Reply) (t : Told)
    (action : Action)
    → next_by mode course k rep (told_with q t) action ≡ next_by mode course k rep t action
next_with q mode course ask.Count rep told.Held action = refl
next_with q mode course (ask.Take slot) rep (told.Grant grant) action = refl
next_with q mode course ask.Chunk rep told.More action = refl
next_with q mode course ask.Finish rep (told.Grant grant) action = refl
next_with q mode course (ask.Read from len) rep told.Done action = refl
next_with q mode course ask.Write rep told.Done action = refl
next_with q mode course (ask.Trunc len) rep told.Done action = refl
next_with q mode course ask.SetAttr rep told.Done action = refl
next_with q mode course ask.SetMeta rep told.Done action = refl
next_with q mode course ask.CloseTake rep told.Begun action = refl
next_with q mode course ask.CloseChunk rep told.More action = refl
next_with q mode course k rep t action = refl

-- ---- the turn

-- a moment after a turn of task n
abbrev pub with_turned : Moment → ℕ → Turned → Moment
with_turned m n x = record { state = x.state; positions = slice_set m.positions n x.position }

-- the turn moves the task in both moments, and leads to moments that are alike, or in none
abbrev pub MoveAlike : Scene → Moment → Moment → ℕ → Turned → Turned → Type 0
MoveAlike scene a b n x y =
    ((is_moved x.turn ≡ false) × (is_moved y.turn ≡ false))
    ⊎ ((is_moved x.turn ≡ true) × ((is_moved y.turn ≡ true)
    × IsRenamed scene (with_turned a n x) (with_turned b n y)))

module _ (laws : InodeLaws) (scene : Scene) (r : Naming) (a b : Moment)
    (alike : IsAlikeBy scene r a b) (n : ℕ) (p : Program) (t : Position)
    (in_a : slice_get a.positions n ≡ Some t) where
  abbrev used : ℕ → ℕ → Bool
  used = is_used a.positions

  -- different files have different names, and the task's are used
  abbrev keeps : KeepsApart r used
  keeps = keeps_apart laws scene r a b alike

  abbrev covers : Covers used t
  covers = covers_at a.positions n t in_a

  -- the task in the second moment
  abbrev t2 : Position
  t2 = position_named r t

  -- the mode of the script
  abbrev mode : Mode
  mode = mode_of scene

  module _ (c : Call) (at : call_at p t.call_state ≡ Some c) where
    -- the progress of the call
    abbrev g : Progress
    g = progress_of p.cred.admin c t.call_state

    -- in the second moment its file has the other name
    g_named : progress_of p.cred.admin c t2.call_state ≡ progress_named r g
    g_named = progress_of-named r used keeps p.cred.admin c t.call_state
        (handles_used used t covers)

    -- its file is used
    g_used : used g.inode g.file ≡ true
    g_used =
        progress_of-used r used keeps p.cred.admin c t.call_state (handles_used used t covers)
        (progress_used used t covers)

    -- the step has the same number
    who_same : who_at n p t2.call_state ≡ who_at n p t.call_state
    who_same =
        ap (λ (o : Option Call). who_in n p o t2.call_state) at
        ∙ (λ j. record { task = n; call = t.call_state.at; step = (g_named j).step })
        ∙ sym (ap (λ (o : Option Call). who_in n p o t.call_state) at)

    -- the task after the step
    abbrev after : ℕ → Told → Action → Position
    after place o action =
        position_with t (moved_on c t.call_state g place (next mode c g.due o action))

    -- the task has this outcome after its step
    resumed : (place : ℕ) (o : Told) (action : Action) (rules : ℕ)
        → resume mode p t (record { place = place; told = o; action = action; rules = rules })
        ≡ after place o action
    resumed place o action rules =
        ap (λ (x : Option Call). resume_in mode p x t (record {
          place = place;
          told = o;
          action = action;
          rules = rules;
        })) at

    -- in the second moment the task is the same after the step, with the names r2
    resumed_named : (r2 : Naming) (place place2 : ℕ) (o : Told) (action : Action) (rules : ℕ)
        → ((i file : ℕ) → used i file ≡ true → r i file ≡ r2 i file)
        → file_after g.due.ask place2 (r g.inode g.file)
        ≡ r2 g.inode (file_after g.due.ask place g.file)
        → resume mode p t2 (record { place = place2; told = o; action = action; rules = rules })
        ≡ position_named r2 (resume mode p t (record {
          place = place;
          told = o;
          action = action;
          rules = rules;
        }))
    resumed_named r2 place place2 o action rules agree file =
        ap (λ (x : Option Call). resume_in mode p x t2 (record {
          place = place2;
          told = o;
          action = action;
          rules = rules;
        })) at
        ∙ ap (λ (x : Progress). position_with t2 (moved_on c t2.call_state x place2
        (next mode c x.due o action))) g_named
        ∙ ap (position_with t2) (moved_named r r2 c t.call_state g place place2
        (next mode c g.due o action)
        (handles_agree r r2 used agree t.call_state.handles (handles_used used t covers))
        (agree g.inode g.file g_used) file)
        ∙ sym (ap (position_named r2) (resumed place o action rules))

    -- the reply of a list is of no account to the task
    resumed_reply : (q : Placed) (place : ℕ) (o : Told) (action : Action) (rules : ℕ)
        → resume mode p t2 (record {
          place = place;
          told = told_with q o;
          action = action;
          rules = rules;
        })
        ≡ resume mode p t2 (record { place = place; told = o; action = action; rules = rules })
    resumed_reply q place o action rules =
        let g2 = progress_of p.cred.admin c t2.call_state in
        ap (λ (x : Option Call). resume_in mode p x t2 (record {
          place = place;
          told = told_with q o;
          action = action;
          rules = rules;
        })) at
        ∙ ap (λ (x : Next). position_with t2 (moved_on c t2.call_state g2 place x))
        (next_with q mode (course_of c) g2.due.ask g2.due.reply o action)
        ∙ sym (ap (λ (x : Option Call). resume_in mode p x t2 (record {
          place = place;
          told = o;
          action = action;
          rules = rules;
        })) at)

    -- its files were used, or the step has counted one
    resumed_used : (place : ℕ) (o : Told) (action : Action) (rules i file : ℕ)
        → has_file i file (resume mode p t (record {
          place = place;
          told = o;
          action = action;
          rules = rules;
        })) ≡ true
        → (used i file ≡ true)
        ⊎ IsNew g.due.ask (next mode c g.due o action) g place i file
    resumed_used place o action rules i file has =
        moved_used used c t.call_state g place (next mode c g.due o action)
        (handles_used used t covers) g_used i file
        (sym (ap (has_file i file) (resumed place o action rules)) ∙ has)

    -- ---- an event of the inode

    module _ (s : ScriptFile) (there : slice_get scene.script_files g.inode ≡ Some s) (d : Deed)
        (suits : Suits g.due.ask d) (is : IsUsed (used g.inode) (file_in d)) (action : Action)
        (rules : ℕ) where
      abbrev place : ℕ
      place = length (journal_at a.state g.inode)

      abbrev place2 : ℕ
      place2 = length (journal_at b.state g.inode)

      -- the names after it
      abbrev r2 : Naming
      r2 = naming_after r g.inode place place2

      -- the turn with this outcome
      abbrev event_with : State → Position → Who → Deed → ℕ → Option Told → Turned
      event_with x u who deed at o = record {
        state = state_on x g.inode (inode_of scene s) who deed o;
        position = resume_told mode p u at action rules o;
        turn = turn_of o;
      }

      -- the reply of the second list
      abbrev q : Placed
      q = reply2 laws scene r a b alike g.inode s there d

      -- an event with this outcome, or none if the step is blocked
      told_alike : (o : Option Told)
          → outcome (inode_of scene s) a.state.list d (newest_first (journal_at a.state g.inode))
          ≡ o → MoveAlike scene a b n (event_with a.state t (who_at n p t.call_state) d place o)
          (event_with b.state t2 (who_at n p t.call_state) (deed_named (r g.inode) d) place2
          (option_map (told_with q) o))
      told_alike None out = inl (refl, refl)
      told_alike (Some o) out =
          let both = event_alike laws scene r a b alike g.inode s there n (who_at n p t.call_state)
          d o (resume mode p t (record { place = place; told = o; action = action; rules = rules }))
          (resume mode p t2 (record {
            place = place2;
            told = told_with q o;
            action = action;
            rules = rules;
          }))
          is out named files in
          inr (refl, (refl, (r2, both)))
        where
          named : resume mode p t2 (record {
            place = place2;
            told = told_with q o;
            action = action;
            rules = rules;
          }) ≡ position_named r2 (resume mode p t (record {
            place = place;
            told = o;
            action = action;
            rules = rules;
          }))
          named =
              let agree = keeps_names laws scene r a b alike g.inode s there in
              resumed_reply q place2 o action rules
              ∙ resumed_named r2 place place2 o action rules agree
              (file_named (r2 g.inode) g.due.ask place place2 g.file (r g.inode g.file)
              (naming_new r g.inode place place2) (agree g.inode g.file g_used))

          files : (k file : ℕ) → has_file k file (resume mode p t (record {
            place = place;
            told = o;
            action = action;
            rules = rules;
          })) ≡ true
              → (used k file ≡ true)
              ⊎ ((k ≡ g.inode) × ((file ≡ place) × (is_some (counted d o) ≡ true)))
          files k file has =
              ⊎_elim (λ old. inl old)
              (λ new. inr (new_by mode (course_of c) g.due.ask g.due.reply o action g place k file d
              suits new))
              (resumed_used place o action rules k file has)

      -- the step, with the outcome that it has in either moment
      pub inode_step : MoveAlike scene a b n
          (event_with a.state t (who_at n p t.call_state) d place
          (outcome (inode_of scene s) a.state.list d (newest_first (journal_at a.state g.inode))))
          (event_with b.state t2 (who_at n p t2.call_state) (deed_named (r g.inode) d) place2
          (outcome (inode_of scene s) b.state.list (deed_named (r g.inode) d)
          (newest_first (journal_at b.state g.inode))))
      inode_step =
          let x = event_with a.state t (who_at n p t.call_state) d place
          (outcome (inode_of scene s) a.state.list d (newest_first (journal_at a.state g.inode))) in
          let same = outcome_alike laws scene r a b alike g.inode s there d is in
          subst (λ (who : Who). MoveAlike scene a b n x (event_with b.state t2 who
          (deed_named (r g.inode) d) place2 (outcome (inode_of scene s) b.state.list
          (deed_named (r g.inode) d) (newest_first (journal_at b.state g.inode))))) (sym who_same)
          (subst (λ (o : Option Told). MoveAlike scene a b n x (event_with b.state t2
          (who_at n p t.call_state) (deed_named (r g.inode) d) place2 o)) (sym same)
          (told_alike (outcome (inode_of scene s) a.state.list d
          (newest_first (journal_at a.state g.inode))) refl))

    -- a step on the inode
    does_alike : (d : Deed) → Suits g.due.ask d → IsUsed (used g.inode) (file_in d)
        → MoveAlike scene a b n (step_due scene n p a.state t (Some (Does g.inode d)))
        (step_due scene n p b.state t2 (Some (Does g.inode (deed_named (r g.inode) d))))
    does_alike d suits is = by (slice_get scene.script_files g.inode) refl
      where
        by : (o : Option ScriptFile) → slice_get scene.script_files g.inode ≡ o
            → MoveAlike scene a b n (step_does scene n p a.state t g.inode o d)
            (step_does scene n p b.state t2 g.inode o (deed_named (r g.inode) d))
        by None there = inl (refl, refl)
        by (Some s) there = inode_step s there d suits is no_action 0

    -- a check, by the rules in force and the metadata
    check_alike : (func : Func) (mask : ℕ) → g.due.ask ≡ ask.Check func mask
        → MoveAlike scene a b n
        (step_due scene n p a.state t (Some (Checks g.inode g.file func mask)))
        (step_due scene n p b.state t2 (Some (Checks g.inode (r g.inode g.file) func mask)))
    check_alike func mask e = by (slice_get scene.script_files g.inode) refl
      where
        by : (o : Option ScriptFile) → slice_get scene.script_files g.inode ≡ o
            → MoveAlike scene a b n (step_check scene n p a.state t g.inode o g.file func mask)
            (step_check scene n p b.state t2 g.inode o (r g.inode g.file) func mask)
        by None there = inl (refl, refl)
        by (Some s) there =
            let meta = (alike.inodes g.inode s there).metadata_in in
            let rules = rules_with scene a.state.added in
            let action = decided rules p.cred s.place
            (metadata (newest_first (journal_at a.state g.inode))) func mask in
            let d = deed.Check g.file func action (length rules) in
            let x = step_check scene n p a.state t g.inode (Some s) g.file func mask in
            let checked = λ (added : List RuleEntry) (m : Meta).
            step_event scene n p b.state t2 g.inode (inode_of scene s)
            (deed.Check (r g.inode g.file) func
            (decided (rules_with scene added) p.cred s.place m func mask)
            (length (rules_with scene added)))
            (decided (rules_with scene added) p.cred s.place m func mask)
            (length (rules_with scene added)) in
            subst (λ (added : List RuleEntry). MoveAlike scene a b n x
            (checked added (metadata (newest_first (journal_at b.state g.inode)))))
            (sym alike.added)
            (subst (λ (m : Meta). MoveAlike scene a b n x (checked a.state.added m)) (sym meta)
            (inode_step s there d (subst (λ (k : Ask). Suits k d) (sym e) tt) g_used action
            (length rules)))

    -- ---- a step that is no event of an inode

    module _ (plain : g.due.ask ≡ ask.Plain) where
      rest_step : (place place2 : ℕ) (o : Told) (action : Action) (rules : ℕ)
          (ga gb : List Event) (xa xb : List RuleEntry) → xb ≡ xa
          → ((sem : ℕ) → SameCount sem (newest_first ga) (newest_first gb))
          → IsAlikeBy scene r
          (record {
            state = record a.state { signals = ga; added = xa };
            positions = slice_set a.positions n (resume mode p t (record {
              place = place;
              told = o;
              action = action;
              rules = rules;
            }));
          })
          (record {
            state = record b.state { signals = gb; added = xb };
            positions = slice_set b.positions n (resume mode p t2 (record {
              place = place2;
              told = o;
              action = action;
              rules = rules;
            }));
          })
      rest_step place place2 o action rules ga gb xa xb added counts =
          rest_alike laws scene r a b alike n ga gb xa xb
          (resume mode p t (record { place = place; told = o; action = action; rules = rules }))
          (resume mode p t2 (record { place = place2; told = o; action = action; rules = rules }))
          (λ i file has. ⊎_elim (λ old. old)
          (λ new. absurd (subst (λ (k : Ask). IsNew k (next mode c g.due o action) g place i file)
          plain new))
          (resumed_used place o action rules i file has))
          (resumed_named r place place2 o action rules (λ i file is. refl)
          (subst (λ (k : Ask). file_after k place2 (r g.inode g.file)
          ≡ r g.inode (file_after k place g.file)) (sym plain) refl))
          added counts

      -- a step that does nothing
      nothing_alike : MoveAlike scene a b n (step_due scene n p a.state t (Some Nothing))
          (step_due scene n p b.state t2 (Some Nothing))
      nothing_alike =
          let both = rest_step 0 0 told.Nothing no_action 0 a.state.signals b.state.signals
          a.state.added b.state.added alike.added alike.semaphores in
          inr (refl, (refl, (r, both)))

      -- a post or a wait
      signal_alike : (d : Deed)
          → MoveAlike scene a b n (step_due scene n p a.state t (Some (Signals d)))
          (step_due scene n p b.state t2 (Some (Signals d)))
      signal_alike d =
          let x = step_due scene n p a.state t (Some (Signals d)) in
          subst (λ (o : Option Told). MoveAlike scene a b n x
          (step_signal scene n p b.state t2 d o))
          (sym (says_same (newest_first a.state.signals) (newest_first b.state.signals)
          alike.semaphores d)) (by (semaphore_says (newest_first a.state.signals) d))
        where
          by : (o : Option Told) → MoveAlike scene a b n (step_signal scene n p a.state t d o)
              (step_signal scene n p b.state t2 d o)
          by None = inl (refl, refl)
          by (Some o) =
              let e = event (who_at n p t.call_state) d o in
              let counts = λ (sem : ℕ). count_more sem a.state.signals b.state.signals e
              (alike.semaphores sem) in
              let both = rest_step (length a.state.signals) (length b.state.signals) o no_action 0
              (a.state.signals ++ e ∷ []) (b.state.signals ++ e ∷ []) a.state.added b.state.added
              alike.added counts in
              subst (λ (who : Who). MoveAlike scene a b n
              (step_signal scene n p a.state t d (Some o)) (record {
                state = record b.state { signals = b.state.signals ++ made who d (Some o) };
                position = resume_told mode p t2 (length b.state.signals) no_action 0 (Some o);
                turn = turns.Moved;
              })) (sym who_same)
              (inr (refl, (refl, (r, both))))

      -- a rule that is appended
      appends_alike : (rule : RuleValue)
          → MoveAlike scene a b n (step_due scene n p a.state t (Some (Appends rule)))
          (step_due scene n p b.state t2 (Some (Appends rule)))
      appends_alike rule =
          let added : b.state.added ++ record { who = who_at n p t2.call_state; rule = rule } ∷ []
          ≡ a.state.added ++ record { who = who_at n p t.call_state; rule = rule } ∷ []
          = λ j. alike.added j ++ record { who = who_same j; rule = rule } ∷ [] in
          let both = rest_step (length a.state.added) (length b.state.added) told.Done no_action 0
          a.state.signals b.state.signals
          (a.state.added ++ record { who = who_at n p t.call_state; rule = rule } ∷ [])
          (b.state.added ++ record { who = who_at n p t2.call_state; rule = rule } ∷ []) added
          alike.semaphores in
          inr (refl, (refl, (r, both)))

      -- the step of a call that makes no event of an inode
      plain_alike : (k : Call)
          → MoveAlike scene a b n
          (step_due scene n p a.state t (Some (plain_step p.cred.admin k)))
          (step_due scene n p b.state t2 (Some (step_named r (plain_step p.cred.admin k))))
      plain_alike (call.Post sem) = signal_alike (deed.Post sem)
      plain_alike (call.Wait sem) = signal_alike (deed.Wait sem)
      plain_alike (call.AddRule rule) = by p.cred.admin
        where
          by : (admin : Bool) → MoveAlike scene a b n
              (step_due scene n p a.state t (Some (if admin then Appends rule else Nothing)))
              (step_due scene n p b.state t2
              (Some (step_named r (if admin then Appends rule else Nothing))))
          by true = appends_alike rule
          by false = nothing_alike
      plain_alike _ = nothing_alike

    -- ---- any step of the call

    -- the step of a call that asks for an event of its inode
    on_inode : (k : Ask) → g.due.ask ≡ k → (d : Deed) → Suits k d
        → IsUsed (used g.inode) (file_in d)
        → MoveAlike scene a b n (step_due scene n p a.state t (Some (Does g.inode d)))
        (step_due scene n p b.state t2 (Some (Does g.inode (deed_named (r g.inode) d))))
    on_inode k e d suits is = does_alike d (subst (λ (x : Ask). Suits x d) (sym e) suits) is

    -- whatever the call asks for
    asked_alike : (k : Ask) → g.due.ask ≡ k
        → MoveAlike scene a b n
        (step_due scene n p a.state t (Some (step_by p.cred.admin c g k)))
        (step_due scene n p b.state t2 (Some (step_named r (step_by p.cred.admin c g k))))
    asked_alike (ask.Check func mask) e = check_alike func mask e
    asked_alike ask.Plain e = plain_alike e c
    asked_alike ask.Count e = on_inode ask.Count e (deed.Count g.how) (g.how, refl) tt
    asked_alike (ask.Take slot) e = on_inode (ask.Take slot) e (deed.Take g.file) tt g_used
    asked_alike ask.Chunk e = on_inode ask.Chunk e (deed.Chunk g.file) tt g_used
    asked_alike ask.Finish e = on_inode ask.Finish e (deed.Finish g.file) tt g_used
    asked_alike (ask.Read from len) e =
        on_inode (ask.Read from len) e (deed.Read g.file from len) tt g_used
    asked_alike ask.Write e =
        on_inode ask.Write e (deed_of p.cred.admin c g.file) tt
        (deed_of-used (used g.inode) p.cred.admin c g.file g_used)
    asked_alike (ask.Trunc len) e = on_inode (ask.Trunc len) e (deed.Trunc g.file len) tt g_used
    asked_alike ask.SetAttr e =
        on_inode ask.SetAttr e (deed_of p.cred.admin c g.file) tt
        (deed_of-used (used g.inode) p.cred.admin c g.file g_used)
    asked_alike ask.SetMeta e =
        on_inode ask.SetMeta e (deed_of p.cred.admin c g.file) tt
        (deed_of-used (used g.inode) p.cred.admin c g.file g_used)
    asked_alike ask.Close e = on_inode ask.Close e (deed.Close g.file) tt g_used
    asked_alike ask.CloseTake e = on_inode ask.CloseTake e (deed.CloseTake g.file) tt g_used
    asked_alike ask.CloseChunk e = on_inode ask.CloseChunk e (deed.CloseChunk g.file) tt g_used
    asked_alike ask.CloseFinish e =
        on_inode ask.CloseFinish e (deed.CloseFinish g.file) tt g_used

  -- a task without a call doesn't move
  called_alike : (o : Option Call) → call_at p t.call_state ≡ o
      → MoveAlike scene a b n (step_due scene n p a.state t (step_in p o t.call_state))
      (step_due scene n p b.state t2 (step_in p o t2.call_state))
  called_alike None at = inl (refl, refl)
  called_alike (Some c) at =
      let due = progress_of p.cred.admin c t.call_state in
      let named = g_named c at in
      let same : Some (step_by p.cred.admin c (progress_of p.cred.admin c t2.call_state)
      (progress_of p.cred.admin c t2.call_state).due.ask)
      ≡ Some (step_by p.cred.admin c (progress_named r due) due.due.ask)
      = λ j. Some (step_by p.cred.admin c (named j) (named j).due.ask) in
      let step = same ∙ ap Some (step_by-named r p.cred.admin c due due.due.ask) in
      subst (λ (x : Option Step). MoveAlike scene a b n
      (step_due scene n p a.state t (step_in p (Some c) t.call_state))
      (step_due scene n p b.state t2 x)) (sym step) (asked_alike c at due.due.ask refl)

  -- a step of the task
  pub step_alike : MoveAlike scene a b n (step_task scene n p a.state t)
      (step_task scene n p b.state t2)
  step_alike = called_alike (call_at p t.call_state) refl

-- ---- a turn

-- the moment after a turn that moves
abbrev if_moved : Moment → ℕ → Turned → Option Moment
if_moved m n x = if is_moved x.turn then Some (with_turned m n x) else None

-- the moments after the turn, if it moves
both_moved : (scene : Scene) (a b : Moment) (n : ℕ) (x y : Turned) → MoveAlike scene a b n x y
    → BothOrNone (IsRenamed scene) (if_moved a n x) (if_moved b n y)
both_moved scene a b n x y (inl still) =
    subst (λ (p : Bool). BothOrNone (IsRenamed scene) (if p then Some (with_turned a n x) else None)
    (if_moved b n y)) (sym still.0)
    (subst (λ (q : Bool). BothOrNone (IsRenamed scene) None
    (if q then Some (with_turned b n y) else None)) (sym still.1) tt)
both_moved scene a b n x y (inr moving) =
    subst (λ (p : Bool). BothOrNone (IsRenamed scene) (if p then Some (with_turned a n x) else None)
    (if_moved b n y)) (sym moving.0)
    (subst (λ (q : Bool). BothOrNone (IsRenamed scene) (Some (with_turned a n x))
    (if q then Some (with_turned b n y) else None)) (sym moving.1.0) moving.1.1)

-- the same tasks can move at moments that are alike, and lead to moments that are alike
pub turn_alike : InodeLaws → (scene : Scene) (r : Naming) (a b : Moment) → IsAlikeBy scene r a b
    → (n : ℕ) → BothOrNone (IsRenamed scene) (moved scene a n) (moved scene b n)
turn_alike laws scene r a b alike n =
    subst (λ (o : Option Position). BothOrNone (IsRenamed scene) (moved scene a n)
    (picked b (slice_get scene.programs n) o))
    (sym (ap (λ (ts : List Position). slice_get ts n) alike.positions
    ∙ slice_get-map (position_named r) a.positions n))
    (by (slice_get scene.programs n) (slice_get a.positions n) refl)
  where
    picked : Moment → Option Program → Option Position → Option Moment
    picked m q o = if moves_at scene m n q o then Some (turned scene m n q o) else None

    by : (q : Option Program) (o : Option Position) → slice_get a.positions n ≡ o
        → BothOrNone (IsRenamed scene) (picked a q o) (picked b q (option_map (position_named r) o))
    by None o at = tt
    by (Some p) None at = tt
    by (Some p) (Some t) at =
        both_moved scene a b n (step_task scene n p a.state t)
        (step_task scene n p b.state (position_named r t))
        (step_alike laws scene r a b alike n p t at)

-- ---- the same moment

-- a moment is alike to itself
pub turn_itself : (scene : Scene) (o : Option Moment) → BothOrNone (IsAlike scene) o o
turn_itself scene None = tt
turn_itself scene (Some m) = inl refl

-- Steps that aren't events on an inode make the history longer, or leave it as it was.
use Rattle.std.proofs.Common.{◌≡◌, ℕ, List, [], ◌++◌, length, Option, Some, None, refl, sym, ◌∙◌, ap, subst}
use Rattle.std.specs.Prelude.{slice_get}
use Rattle.std.proofs.lemmas.List.{append-nil}
use Rattle.grow_list.proofs.Prefixes.{prefix_refl}
use Rattle.grow_list.specs.Shown.{Passed}
use Rattle.call_steps.specs.templates.declared.entry.Entry.{Entry}
use Rattle.inode_meta.specs.declared.step.Who.{Who}
use Rattle.inode_events.specs.declared.told.Event.{Event}
use Rattle.call_steps.specs.CallState.{CallState, Step}
use Rattle.call_steps.specs.CallState.{Nothing, Does, Checks, Signals, Appends}
use Rattle.world_model.specs.laws_of_runs.Logs.{logged}
use Rattle.world_model.specs.laws_of_runs.Steps.{Made, RisesWithin}
use Rattle.run_model.specs.rules.declared.cell.RuleEntry.{RuleEntry}
use Rattle.world_model.proofs.laws_of_runs.Checking.{law_fits_by_step}
use Rattle.world_model.specs.laws_of_runs.Checks.{IsPlainStep, SeesMore, seen_by}
use Rattle.run_model.specs.History.{Answer, Position, event_in, step_at, who_at}
use Rattle.world_model.specs.WorldConsts.{WorldConsts, mode_in, scene_of}
use Rattle.world_model.specs.Tasks.{HashesFor, HasPlayed, PassesValue, Tasked}
use Rattle.world_model.specs.Due.{HashesAfterStep}
use Rattle.world_model.specs.Plays.{HasResumed, task_after, task_left}
use Rattle.world_model.specs.Quiet.{IsQuiet, QuietIsLeft, QuietIsPlayed, QuietPasses}
use Rattle.world_model.specs.Steps.{HasStepped, InodeStepped}
use Rattle.world_model.proofs.Eventing.{adds_none}
use Rattle.world_model.proofs.Next.{hashes_resumed}
use Rattle.world_model.proofs.Playing.{step_is_played}
use Rattle.world_model.specs.task_states.Value.{TaskValue}

no_event : (o : Option Step) (j : ℕ) (who : Who) (a : Answer) → IsQuiet o → event_in j who o a ≡ []
no_event (Some Nothing) j who a q = refl
no_event (Some (Signals d)) j who a q = refl
no_event (Some (Appends rule)) j who a q = refl
no_event (Some (Does i d)) j who a q = absurd q
no_event (Some (Checks i file func mask)) j who a q = absurd q
no_event None j who a q = absurd q

not_logged : (o : Option Step) (who : Who) (a : Answer) → IsQuiet o → logged who o a ≡ []
not_logged (Some Nothing) who a q = refl
not_logged (Some (Signals d)) who a q = refl
not_logged (Some (Appends rule)) who a q = refl
not_logged (Some (Does i d)) who a q = absurd q
not_logged (Some (Checks i file func mask)) who a q = absurd q
not_logged None who a q = absurd q

module _ (consts : WorldConsts) (t : Tasked) (a : Answer) (passes : PassesValue)
    (task_state : TaskValue)
    (quiet : IsQuiet (step_at t.task_state.program t.task_state.position.call_state))
    (y : QuietPasses consts t passes a) (hd : HasResumed consts t a task_state) where
  abbrev who : Who
  who = who_at t.number t.task_state.program t.task_state.position.call_state

  abbrev due : Option Step
  due = step_at t.task_state.program t.task_state.position.call_state

  inodes_quiet : (j : ℕ) (q : Passed Event) → slice_get passes.inodes j ≡ Some q
      → InodeStepped who due a j t.passes.inodes q
  inodes_quiet j q g = record {
    before = q;
    at = ap (λ (xs : List (Passed Event)). slice_get xs j) (sym y.inodes) ∙ g;
    name = refl;
    number = refl;
    mine = sym (append-nil q.mine)
        ∙ ap (λ (xs : List (ℕ × Event)). q.mine ++ xs) (sym (no_event due j who a quiet));
    placed = λ b. b;
  }

  sees_quiet : SeesMore (seen_by t.passes.inodes t.passes.rules)
      (seen_by passes.inodes passes.rules)
  sees_quiet =
      subst (λ (xs : List (Passed Event)). SeesMore (seen_by t.passes.inodes t.passes.rules)
      (seen_by xs passes.rules)) (sym y.inodes)
      (record {
        journals = λ i j g. record { longer = j; there = g; before = prefix_refl j };
        added = y.rules_seen;
      })

  resumed : (step : Step) → due ≡ Some step
      → HashesAfterStep consts passes.inodes t.hash_state step a.told
      → HashesFor consts passes.inodes t.hash_state
      (step_at t.task_state.program task_state.position.call_state)
  resumed step st k =
      subst (λ (z : Position).
      HashesFor consts passes.inodes t.hash_state (step_at t.task_state.program z.call_state))
      (sym hd.position)
      (hashes_resumed consts passes.inodes t.hash_state t.task_state.program (mode_in consts)
      t.task_state.position a step st k)

  -- a quiet step needs and leaves no hashing, whichever it is
  hashes_quiet : (o : Option Step) → due ≡ o → IsQuiet o
      → HashesFor consts passes.inodes t.hash_state
      (step_at t.task_state.program task_state.position.call_state)
  hashes_quiet (Some Nothing) st q = resumed Nothing st tt
  hashes_quiet (Some (Signals d)) st q = resumed (Signals d) st tt
  hashes_quiet (Some (Appends rule)) st q = resumed (Appends rule) st tt
  hashes_quiet (Some (Does i d)) st q = absurd q
  hashes_quiet (Some (Checks i file func mask)) st q = absurd q
  hashes_quiet None st q = absurd q

  quiet_stepped : HasStepped consts t (task_after t task_state passes t.hash_state) a
  quiet_stepped = record {
    number = refl;
    program = hd.program;
    stands = hd.position;
    checked = hd.checked;
    even = ap length y.inodes;
    inodes = inodes_quiet;
    sems = y.sems;
    rules = y.rules;
    book = adds_none t.passes.book passes.book y.book;
    checks = λ programs h same fit. law_fits_by_step (scene_of consts programs) t.task_state.program
        (seen_by t.passes.inodes t.passes.rules) (seen_by passes.inodes passes.rules) h a
        sees_quiet fit
        (subst (λ (m : CallState). IsPlainStep (scene_of consts programs)
        (seen_by passes.inodes passes.rules) (step_at t.task_state.program m) a) (sym same)
        (y.plain programs));
    rises = λ steps r.
        subst (λ (xs : List Made). RisesWithin (xs ++ steps) passes.book.seen)
        (sym (not_logged due who a quiet))
        (subst (λ (q : Passed Entry). RisesWithin steps q.seen) (sym y.book) r);
    hashed = hashes_quiet due refl quiet;
  }

pub quiet_is_played : QuietIsPlayed
quiet_is_played consts t h a passes task_state x quiet y hd =
    step_is_played consts t (task_after t task_state passes t.hash_state) h a x
    (quiet_stepped consts t a passes task_state quiet y hd)

-- proof of `QuietIsLeft`
pub quiet_is_left : QuietIsLeft
quiet_is_left consts t h passes x l =
    subst (λ (qs : List (Passed Event)). HasPlayed consts
    (task_left t (record passes { inodes = qs }) t.hash_state) h) (sym l.inodes)
    (subst (λ (q : Passed Entry). HasPlayed consts
    (task_left t (record passes { inodes = t.passes.inodes; book = q }) t.hash_state) h)
    (sym l.book) (subst (λ (q : Passed RuleEntry). HasPlayed consts
    (task_left t (record passes { inodes = t.passes.inodes; book = t.passes.book; rules = q })
    t.hash_state) h) (sym l.rules)
    (record {
      calls = x.calls;
      stands = x.stands;
      checked = x.checked;
      passes = record {
        even = x.passes.even;
        inodes = x.passes.inodes;
        sems = (l.sems.name ∙ x.passes.sems.0, l.sems.number ∙ x.passes.sems.1);
        book = x.passes.book;
        rules = x.passes.rules;
      };
      events = x.events;
      placed = x.placed;
      signals = l.sems.mine ∙ append-nil t.passes.sems.mine ∙ x.signals;
      rules = x.rules;
      unlisted = x.unlisted;
      checks = x.checks;
      rises = x.rises;
      hashed = x.hashed;
    })))

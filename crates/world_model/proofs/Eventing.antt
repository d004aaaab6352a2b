-- An event on an inode makes its task's history longer.
use Rattle.std.proofs.Common.{◌≡◌, ◌≢◌, ℕ, zero, suc, get_or, map, ◌+◌, ◌<◌, ◌≤◌, cond, List, [], ◌∷◌, ◌++◌, length, Option, Some, refl, sym, ◌∙◌, ap, subst, arith, inl, inr, length-append}
use Rattle.std.specs.Prelude.{◌⊎◌, ◌==◌, All, slice_get, slice_set}
use Rattle.std.proofs.lemmas.Bool.{eq-eqb, ne_eqb, cond-true, cond-false}
use Rattle.std.proofs.lemmas.List.{append-nil, length-set, length-map}
use Rattle.std.proofs.lemmas.List.Elements.{All-push, All-weaker}
use Rattle.std.proofs.lemmas.Option.{get_or_from_slice_get, same_Some, slice_get_within}
use mathlib.Core.List.{IsPrefix}
use Rattle.grow_list.proofs.Prefixes.{prefix_append, prefix_length, prefix_trans}
use Rattle.grow_list.specs.Shown.{Passed}
use Rattle.call_steps.specs.templates.declared.entry.Entry.{Entry}
use Rattle.inode_meta.specs.declared.step.Who.{Who}
use Rattle.inode_events.specs.Asked.{asked, list_after, made, outcome}
use Rattle.inode_events.specs.NewestFirst.{newest_first}
use Rattle.inode_events.specs.State.{metadata}
use Rattle.inode_events.specs.declared.deed.Deed.{Deed}
use Rattle.inode_events.specs.declared.deed.Deed.TheVariants as deed
use Rattle.inode_events.specs.declared.told.Event.{Event}
use Rattle.inode_events.specs.declared.told.Told.{Told}
use Rattle.call_steps.specs.CallState.{Step}
use Rattle.call_steps.specs.CallState.{Does, Checks}
use Rattle.world_model.specs.laws_of_runs.Logs.{logged}
use Rattle.world_model.specs.laws_of_runs.Steps.{Made, RisesWithin, made_of}
use Rattle.world_model.proofs.laws_of_runs.Rising.{rises_event}
use Rattle.run_model.specs.rules.declared.cell.RuleEntry.{RuleEntry}
use Rattle.policy_rules.specs.declared.access.Action.{Action}
use Rattle.policy_rules.specs.declared.rule.Func.{Func}
use Rattle.world_model.proofs.laws_of_runs.Checking.{law_fits_by_check, law_fits_by_step}
use Rattle.world_model.proofs.laws_of_runs.Owned.{set_parts}
use Rattle.world_model.proofs.laws_of_runs.Passing.{law_sees_by_look, law_stands_by_look}
use Rattle.world_model.specs.laws_of_runs.Checks.{IsPlainStep, Longer, SeesMore, seen_by}
use Rattle.run_model.specs.History.{Answer, Position, event, event_in, plain_answer, rule_in, signal_in, step_at, who_at}
use Rattle.run_model.specs.Scene.{Program, decided, rules_with}
use Rattle.run_model.specs.Turns.{State}
use Rattle.world_model.specs.WorldConsts.{InodeConsts, WorldConsts, inode_in, mode_in, scene_of, script_file_of, super_at}
use Rattle.world_model.specs.Tasks.{HashesFor, PassesValue, Tasked}
use Rattle.world_model.specs.declared.hash_state.HashState.{HashState}
use Rattle.world_model.specs.Due.{HashesAfter, HashesAfterStep}
use Rattle.world_model.specs.Events.{EventOn}
use Rattle.world_model.specs.Plays.{CheckIsPlayed, EventIsPlayed, HasResumed, check_answer, task_after}
use Rattle.world_model.specs.Steps.{Adds, HasStepped, InodeStepped}
use Rattle.world_model.proofs.Next.{hashes_resumed}
use Rattle.world_model.proofs.Playing.{step_is_played}
use Rattle.world_model.specs.task_states.Value.{TaskValue}

-- ---- lists

-- an element that was put at a place of a list is found there
pub get_set : {A : Type 0} (xs : List A) (i : ℕ) (x y : A) → slice_get xs i ≡ Some y
    → slice_get (slice_set xs i x) i ≡ Some x
get_set [] i x y h = absurd (cc)
get_set (z ∷ xs) zero x y h = refl
get_set (z ∷ xs) (suc i) x y h = get_set xs i x y h

pub adds_none : {E : Type 0} (old new : Passed E) → new ≡ old → Adds old new []
adds_none old new e = record {
  name = ap (λ q. q.name) e;
  number = ap (λ q. q.number) e;
  mine = ap (λ q. q.mine) e ∙ sym (append-nil old.mine);
}

-- the places of own events are within what the pass has seen
placed_on : (seen list : List Event) (mine : List (ℕ × Event)) (e : Event) → IsPrefix seen list
    → All (λ x. x.0 < length seen) mine
    → All (λ x. x.0 < length (list ++ e ∷ [])) (mine ++ (length list, e) ∷ [])
placed_on seen list mine e a b =
    let le : length seen ≤ length list = prefix_length seen list a in
    let more : length (list ++ e ∷ []) ≡ length list + 1 = length-append list (e ∷ []) in
    All-push (λ (x : ℕ × Event). x.0 < length (list ++ e ∷ [])) mine (length list, e)
    (All-weaker (λ (x : ℕ × Event). x.0 < length seen)
    (λ (x : ℕ × Event). x.0 < length (list ++ e ∷ [])) (λ x h. omega arith) mine b)
    (omega arith)

-- ---- the passes of journals

module _ (consts : WorldConsts) (i : ℕ) (s : InodeConsts) (who : Who) (d : Deed) (old new : State)
    (passes passes2 : PassesValue) (g g2 : HashState) (told : Told)
    (e : EventOn consts i s who d old new passes passes2 g g2 (Some told)) where
  within : i < length passes.inodes
  within = slice_get_within passes.inodes i e.pass e.pass_at

  -- the passes of all journals after the step that does this deed with this answer
  pub inodes_on : (step : Option Step) (a : Answer)
      → ((j : ℕ) → event_in j who step a
      ≡ cond (i == j) ((length e.journal, event who d told) ∷ []) [])
      → (j : ℕ) (q : Passed Event) → slice_get passes2.inodes j ≡ Some q
      → InodeStepped who step a j passes.inodes q
  inodes_on step a is j q h =
      at (set_parts passes.inodes i j e.pass2 q
      (subst (λ (xs : List (Passed Event)). slice_get xs j ≡ Some q) e.inodes h) within) where
        at : ((j ≡ i) × (q ≡ e.pass2)) ⊎ ((i ≢ j) × (slice_get passes.inodes j ≡ Some q))
            → InodeStepped who step a j passes.inodes q
        at (inl x) = record {
          before = e.pass;
          at = ap (slice_get passes.inodes) x.0 ∙ e.pass_at;
          name = ap (λ (p : Passed Event). p.name) x.1 ∙ e.name;
          number = ap (λ (p : Passed Event). p.number) x.1 ∙ e.number;
          mine = ap (λ (p : Passed Event). p.mine) x.1 ∙ e.mine
              ∙ ap (λ (xs : List (ℕ × Event)). e.pass.mine ++ xs)
              (sym (is j ∙ cond-true (i == j) _ _ (eq-eqb i j (sym x.0))));
          placed = λ b. subst (λ (p : Passed Event). All (λ z. z.0 < length p.seen) p.mine)
              (sym x.1)
              (subst (λ (xs : List (ℕ × Event)). All (λ z. z.0 < length e.pass2.seen) xs)
              (sym e.mine)
              (subst (λ (xs : List Event). All (λ z. z.0 < length xs)
              (e.pass.mine ++ (length e.journal, event who d told) ∷ [])) (sym e.seen)
              (placed_on e.pass.seen e.journal e.pass.mine (event who d told) e.looked.before
              b)));
        }
        at (inr x) = record {
          before = q;
          at = x.1;
          name = refl;
          number = refl;
          mine = sym (append-nil q.mine)
              ∙ ap (λ (xs : List (ℕ × Event)). q.mine ++ xs)
              (sym (is j ∙ cond-false (i == j) _ _ (ne_eqb i j x.0)));
          placed = λ b. b;
        }

  even_on : length passes2.inodes ≡ length passes.inodes
  even_on = ap length e.inodes ∙ length-set passes.inodes i e.pass2

  -- the task's passes have seen at least what they had seen
  sees_on : SeesMore (seen_by passes.inodes passes.rules) (seen_by passes2.inodes passes2.rules)
  sees_on =
      subst (λ (xs : List (Passed Event)). SeesMore (seen_by passes.inodes passes.rules)
      (seen_by xs passes2.rules)) (sym e.inodes)
      (law_sees_by_look passes.inodes passes.rules passes2.rules i e.pass e.pass2 e.pass_at
      (subst (λ (xs : List Event). IsPrefix e.pass.seen xs) (sym e.seen)
      (prefix_trans e.pass.seen e.journal (e.journal ++ made who d (Some told)) e.looked.before
      (prefix_append e.journal (made who d (Some told)))))
      e.rules_seen)

  journal_is : get_or old.journals i [] ≡ e.journal
  journal_is = get_or_from_slice_get old.journals i e.journal [] e.journal_at

  list_is : passes2.book.seen
      ≡ list_after old.list (asked (inode_in consts s) d (newest_first e.journal)) (Some told)
  list_is =
      e.book_seen ∙ ap (λ (z : State). z.list) e.state
      ∙ ap (λ (xs : List Event). list_after old.list (asked (inode_in consts s) d (newest_first xs))
      (Some told)) journal_is

  -- the places of the measurement list in the task's answers increase
  rises_on : Some told ≡ outcome (inode_in consts s) old.list d (newest_first e.journal)
      → (steps : List Made) → RisesWithin steps passes.book.seen
      → RisesWithin (made_of i (length e.journal) who d told ∷ steps) passes2.book.seen
  rises_on tells steps r =
      subst (λ (xs : List Entry).
      RisesWithin (made_of i (length e.journal) who d told ∷ steps) xs) (sym list_is)
      (rises_event steps passes.book.seen old.list (inode_in consts s) (newest_first e.journal) i
      (length e.journal) who d told e.book_before r (sym tells))

  -- what the task has hashed suits the step's outcome
  hashes_on : slice_get consts.each_inode i ≡ Some s
      → HashesAfterStep consts passes2.inodes g2 (Does i d) told
  hashes_on there s2 q x y =
      let same : s ≡ s2 = same_Some s s2 (sym there ∙ x) in
      let pass : e.pass2 ≡ q =
      same_Some e.pass2 q (sym (ap (λ (xs : List (Passed Event)). slice_get xs i) e.inodes
      ∙ get_set passes.inodes i e.pass2 e.pass e.pass_at) ∙ y) in
      subst (λ (z : InodeConsts). HashesAfter (inode_in consts z) q.seen g2 d told) same
      (subst (λ (z : Passed Event). HashesAfter (inode_in consts s) z.seen g2 d told) pass
      (subst (λ (xs : List Event). HashesAfter (inode_in consts s) xs g2 d told) (sym e.seen)
      e.hashes))

  -- the passes have now seen the journal as it was before the event
  stands_on : Longer (seen_by passes2.inodes passes2.rules).journals i e.journal
  stands_on =
      subst (λ (xs : List (Passed Event)). Longer (seen_by xs passes2.rules).journals i e.journal)
      (sym e.inodes)
      (law_stands_by_look passes.inodes passes2.rules i e.pass e.pass2 e.journal e.pass_at
      (subst (λ (xs : List Event). IsPrefix e.journal xs) (sym e.seen)
      (prefix_append e.journal (made who d (Some told)))))

  within_scene : (programs : List Program) → slice_get consts.each_inode i ≡ Some s
      → i < length (scene_of consts programs).script_files
  within_scene programs there =
      let l : i < length consts.each_inode = slice_get_within consts.each_inode i s there in
      omega (arith, length-map consts.each_inode (script_file_of consts))

pub get_map : {A B : Type 0} (f : A → B) (xs : List A) (k : ℕ) (x : A) → slice_get xs k ≡ Some x
    → slice_get (map f xs) k ≡ Some (f x)
get_map f [] k x h = absurd (cc)
get_map f (y ∷ ys) zero x h = ap (λ z. Some (f z)) (same_Some y x h)
get_map f (y ∷ ys) (suc k) x h = get_map f ys k x h

-- ---- an event with the outcome told to the task

event_stepped : (consts : WorldConsts) (t : Tasked) (i : ℕ) (s : InodeConsts) (d : Deed)
    (told : Told) (old new : State) (passes : PassesValue) (g : HashState) (task_state : TaskValue)
    → step_at t.task_state.program t.task_state.position.call_state ≡ Some (Does i d)
    → slice_get consts.each_inode i ≡ Some s
    → (e : EventOn consts i s
    (who_at t.number t.task_state.program t.task_state.position.call_state) d old new
    t.passes passes t.hash_state g (Some told))
    → Some told ≡ outcome (inode_in consts s) old.list d (newest_first e.journal)
    → HasResumed consts t (plain_answer (length e.journal) told) task_state
    → HasStepped consts t (task_after t task_state passes g) (plain_answer (length e.journal) told)
event_stepped consts t i s d told old new passes g task_state st there e tells hd =
    let p = t.task_state.program in
    let m = t.task_state.position.call_state in
    let who = who_at t.number p m in
    let a = plain_answer (length e.journal) told in
    record {
      number = refl;
      program = hd.program;
      stands = hd.position;
      checked = hd.checked;
      even = even_on consts i s who d old new t.passes passes t.hash_state g told e;
      inodes = inodes_on consts i s who d old new t.passes passes t.hash_state g told e
          (step_at p m) a (λ j. ap (λ (o : Option Step). event_in j who o a) st);
      sems = subst (λ (o : Option Step). Adds t.passes.sems passes.sems (signal_in who o a))
          (sym st)
          (adds_none t.passes.sems passes.sems e.sems);
      rules = subst (λ (o : Option Step). Adds t.passes.rules passes.rules (rule_in who o a))
          (sym st) e.rules;
      book = e.book;
      checks = λ programs h same fit. law_fits_by_step (scene_of consts programs) p
          (seen_by t.passes.inodes t.passes.rules) (seen_by passes.inodes passes.rules) h a
          (sees_on consts i s who d old new t.passes passes t.hash_state g told e) fit
          (subst (λ (o : Option Step). IsPlainStep (scene_of consts programs)
          (seen_by passes.inodes passes.rules) o a)
          (sym (ap (step_at p) same ∙ st)) (
            within_scene consts i s who d old new t.passes passes t.hash_state g told e
                programs there,
            refl,
          ));
      rises = λ steps r. subst (λ (o : Option Step). RisesWithin (logged who o a ++ steps)
          passes.book.seen) (sym st)
          (rises_on consts i s who d old new t.passes passes t.hash_state g told e tells steps r);
      hashed = subst (λ (z : Position). HashesFor consts passes.inodes g (step_at p z.call_state))
          (sym hd.position)
          (hashes_resumed consts passes.inodes g p (mode_in consts) t.task_state.position a
          (Does i d) st
          (hashes_on consts i s who d old new t.passes passes t.hash_state g told e there));
    }

pub event_is_played : EventIsPlayed
event_is_played consts t h i s d told old new passes g task_state x st there e tells hd =
    step_is_played consts t (task_after t task_state passes g) h
    (plain_answer (length e.journal) told) x
    (event_stepped consts t i s d told old new passes g task_state st there e tells hd)

-- ---- a check

check_stepped : (consts : WorldConsts) (t : Tasked) (i : ℕ) (s : InodeConsts) (file : ℕ)
    (func : Func) (mask : ℕ) (action : Action) (rules : ℕ) (told : Told) (old new : State)
    (passes : PassesValue) (g : HashState) (task_state : TaskValue)
    → step_at t.task_state.program t.task_state.position.call_state ≡ Some (Checks i file func mask)
    → slice_get consts.each_inode i ≡ Some s
    → (e : EventOn consts i s
    (who_at t.number t.task_state.program t.task_state.position.call_state)
    (deed.Check file func action rules) old new t.passes passes t.hash_state g (Some told))
    → Some told ≡ outcome (inode_in consts s) old.list (deed.Check file func action rules)
    (newest_first e.journal)
    → passes.rules.seen ≡ old.added
    → rules ≡ length (rules_with (scene_of consts []) old.added)
    → action ≡ decided (rules_with (scene_of consts []) old.added) t.task_state.program.cred
    (super_at consts s.place) (metadata (newest_first e.journal)) func mask
    → HasResumed consts t (check_answer (length e.journal) told action rules) task_state
    → HasStepped consts t (task_after t task_state passes g)
    (check_answer (length e.journal) told action rules)
check_stepped consts t i s file func mask action rules told old new passes g task_state st there
    e tells added count is hd =
    let p = t.task_state.program in
    let m = t.task_state.position.call_state in
    let who = who_at t.number p m in
    let d = deed.Check file func action rules in
    let a = check_answer (length e.journal) told action rules in
    record {
      number = refl;
      program = hd.program;
      stands = hd.position;
      checked = hd.checked;
      even = even_on consts i s who d old new t.passes passes t.hash_state g told e;
      inodes = inodes_on consts i s who d old new t.passes passes t.hash_state g told e
          (step_at p m) a (λ j. ap (λ (o : Option Step). event_in j who o a) st);
      sems = subst (λ (o : Option Step). Adds t.passes.sems passes.sems (signal_in who o a))
          (sym st)
          (adds_none t.passes.sems passes.sems e.sems);
      rules = subst (λ (o : Option Step). Adds t.passes.rules passes.rules (rule_in who o a))
          (sym st) e.rules;
      book = e.book;
      checks = λ programs h same fit. law_fits_by_check (scene_of consts programs) p
          (seen_by t.passes.inodes t.passes.rules) (seen_by passes.inodes passes.rules) h a i file
          func mask (sees_on consts i s who d old new t.passes passes t.hash_state g told e) fit
          (ap (step_at p) same ∙ st)
          (record {
            script_file = script_file_of consts s;
            before = e.journal;
            at = get_map (script_file_of consts) consts.each_inode i s there;
            journal = stands_on consts i s who d old new t.passes passes t.hash_state g told e;
            place = refl;
            rules = count ∙ ap (λ (xs : List RuleEntry).
                length (rules_with (scene_of consts []) xs)) (sym added);
            action = is ∙ ap (λ (xs : List RuleEntry).
                decided (rules_with (scene_of consts []) xs) p.cred (super_at consts s.place)
                (metadata (newest_first e.journal)) func mask) (sym added);
          });
      rises = λ steps r. subst (λ (o : Option Step). RisesWithin (logged who o a ++ steps)
          passes.book.seen) (sym st)
          (rises_on consts i s who d old new t.passes passes t.hash_state g told e tells steps r);
      hashed = subst (λ (z : Position). HashesFor consts passes.inodes g (step_at p z.call_state))
          (sym hd.position)
          (hashes_resumed consts passes.inodes g p (mode_in consts) t.task_state.position a
          (Checks i file func mask) st tt);
    }

pub check_is_played : CheckIsPlayed
check_is_played consts t h i s file func mask action rules told old new passes g task_state x st
    there e tells added count is hd =
    step_is_played consts t (task_after t task_state passes g) h
    (check_answer (length e.journal) told action rules) x
    (check_stepped consts t i s file func mask action rules told old new passes g task_state st
    there e tells added count is hd)

-- A deed that was blocked or ran out of memory leaves its task's history as it was.
use Rattle.std.proofs.Common.{◌≡◌, ◌≢◌, ℕ, ◌+◌, ◌<◌, ◌≤◌, List, length, Option, Some, None, refl, sym, ◌∙◌, ap, subst, arith, inl, inr}
use Rattle.std.specs.Prelude.{◌⊎◌, All, slice_get}
use Rattle.std.proofs.lemmas.List.{append-nil, length-set}
use Rattle.std.proofs.lemmas.List.Elements.{All-weaker}
use Rattle.std.proofs.lemmas.Option.{same_Some, slice_get_within}
use mathlib.Core.List.{IsPrefix}
use Rattle.grow_list.proofs.Prefixes.{prefix_length}
use Rattle.grow_list.specs.Shown.{Passed}
use Rattle.call_steps.specs.templates.declared.entry.Entry.{Entry}
use Rattle.inode_events.specs.declared.deed.Deed.{Deed}
use Rattle.inode_events.specs.declared.told.Event.{Event}
use Rattle.call_steps.specs.declared.call.Call.{Call}
use Rattle.call_steps.specs.CallState.{CallState, Step}
use Rattle.call_steps.specs.CallState.{Nothing, Does, Checks, Signals, Appends}
use Rattle.world_model.specs.laws_of_runs.Logs.{log}
use Rattle.world_model.proofs.laws_of_runs.Rising.{rises_look}
use Rattle.world_model.proofs.laws_of_runs.Checking.{law_fits_with_more}
use Rattle.world_model.proofs.laws_of_runs.Owned.{set_parts}
use Rattle.world_model.proofs.laws_of_runs.Passing.{law_sees_by_look}
use Rattle.world_model.specs.laws_of_runs.Checks.{SeesMore, seen_by}
use Rattle.run_model.specs.History.{Answer, call_at, step_at, who_at, who_in}
use Rattle.run_model.specs.Scene.{Program}
use Rattle.run_model.specs.Turns.{State}
use Rattle.world_model.specs.WorldConsts.{InodeConsts, WorldConsts, inode_in, mode_in, scene_of}
use Rattle.world_model.specs.Tasks.{ArePassesOf, HashesBefore, HashesFor, HasPlayed, PassesValue, Tasked}
use Rattle.world_model.specs.declared.hash_state.HashState.{HashState}
use Rattle.world_model.specs.Events.{EventOn}
use Rattle.world_model.specs.Plays.{IsStepFor, NoneIsPlayed}
use Rattle.world_model.specs.Ready.{HasLooked, IsReady, IsStepOn}
use Rattle.world_model.proofs.Eventing.{get_set}
use Rattle.world_model.proofs.Readying.{ready_by_look}
use Rattle.world_model.specs.Due.{slot_in}
use Rattle.world_model.specs.task_states.Value.{due_at}

-- the `Who` of a step has the number of its task
task_in : (n : ℕ) (p : Program) (m : CallState) (o : Option Call) → (who_in n p o m).task ≡ n
task_in n p m None = refl
task_in n p m (Some c) = refl

pub task_of_who : (n : ℕ) (p : Program) (m : CallState) → (who_at n p m).task ≡ n
task_of_who n p m = task_in n p m (call_at p m)

-- the pass of a journal before it was brought up to date
record Looked (j : ℕ) (old : List (Passed Event)) (q : Passed Event) : Type 0 where
  before : Passed Event
  at : slice_get old j ≡ Some before
  name : q.name ≡ before.name
  number : q.number ≡ before.number
  mine : q.mine ≡ before.mine
  placed : All (λ x. x.0 < length before.seen) before.mine → All (λ x. x.0 < length q.seen) q.mine

module _ (consts : WorldConsts) (t : Tasked) (h : List Answer) (i : ℕ) (s : InodeConsts) (d : Deed)
    (old new : State) (passes : PassesValue) (g : HashState) (x : HasPlayed consts t h)
    (there : slice_get consts.each_inode i ≡ Some s)
    (e : EventOn consts i s (who_at t.number t.task_state.program t.task_state.position.call_state)
    d old new t.passes passes t.hash_state g None) where
  within : i < length t.passes.inodes
  within = slice_get_within t.passes.inodes i e.pass e.pass_at

  seen_is : e.pass2.seen ≡ e.journal
  seen_is = e.seen ∙ append-nil e.journal

  mine_is : e.pass2.mine ≡ e.pass.mine
  mine_is = e.mine ∙ append-nil e.pass.mine

  seen_more : IsPrefix e.pass.seen e.pass2.seen
  seen_more =
      subst (λ (xs : List Event). IsPrefix e.pass.seen xs) (sym seen_is) e.looked.before

  inodes_looked : (j : ℕ) (q : Passed Event) → slice_get passes.inodes j ≡ Some q
      → Looked j t.passes.inodes q
  inodes_looked j q k =
      at (set_parts t.passes.inodes i j e.pass2 q
      (subst (λ (xs : List (Passed Event)). slice_get xs j ≡ Some q) e.inodes k) within) where
        at : ((j ≡ i) × (q ≡ e.pass2)) ⊎ ((i ≢ j) × (slice_get t.passes.inodes j ≡ Some q))
            → Looked j t.passes.inodes q
        at (inl y) = record {
          before = e.pass;
          at = ap (slice_get t.passes.inodes) y.0 ∙ e.pass_at;
          name = ap (λ (p : Passed Event). p.name) y.1 ∙ e.name;
          number = ap (λ (p : Passed Event). p.number) y.1 ∙ e.number;
          mine = ap (λ (p : Passed Event). p.mine) y.1 ∙ mine_is;
          placed = λ b.
              let le : length e.pass.seen ≤ length e.pass2.seen =
              prefix_length e.pass.seen e.pass2.seen seen_more in
              subst (λ (p : Passed Event). All (λ z. z.0 < length p.seen) p.mine) (sym y.1)
              (subst (λ (xs : List (ℕ × Event)). All (λ z. z.0 < length e.pass2.seen) xs)
              (sym mine_is)
              (All-weaker (λ (z : ℕ × Event). z.0 < length e.pass.seen)
              (λ (z : ℕ × Event). z.0 < length e.pass2.seen) (λ z l. omega arith) e.pass.mine b));
        }
        at (inr y) = record {
          before = q;
          at = y.1;
          name = refl;
          number = refl;
          mine = refl;
          placed = λ b. b;
        }

  sees_more : SeesMore (seen_by t.passes.inodes t.passes.rules)
      (seen_by passes.inodes passes.rules)
  sees_more =
      subst (λ (xs : List (Passed Event)). SeesMore (seen_by t.passes.inodes t.passes.rules)
      (seen_by xs passes.rules)) (sym e.inodes)
      (law_sees_by_look t.passes.inodes t.passes.rules passes.rules i e.pass e.pass2 e.pass_at
      seen_more e.rules_seen)

  book_more : IsPrefix t.passes.book.seen passes.book.seen
  book_more =
      subst (λ (xs : List Entry). IsPrefix t.passes.book.seen xs)
      (sym (e.book_seen ∙ ap (λ (z : State). z.list) e.state)) e.book_before

  passes_left : ArePassesOf consts t.number passes
  passes_left = record {
    even = ap length e.inodes ∙ length-set t.passes.inodes i e.pass2 ∙ x.passes.even;
    inodes = λ j s2 q a k.
        let l : Looked j t.passes.inodes q = inodes_looked j q k in
        let o = x.passes.inodes j s2 l.before a l.at in
        (l.name ∙ o.0, l.number ∙ o.1);
    sems = subst (λ (q : Passed Event). (q.name ≡ consts.signals) × (q.number ≡ t.number + 1))
        (sym e.sems) x.passes.sems;
    book = (e.book.name ∙ x.passes.book.0, e.book.number ∙ x.passes.book.1);
    rules = (e.rules.name ∙ x.passes.rules.0, e.rules.number ∙ x.passes.rules.1);
  }

  -- what was hashed before the step suits it again, since it will be tried again
  hashes_left : (o : Option Step)
      → step_at t.task_state.program t.task_state.position.call_state ≡ o
      → IsStepFor i d o → HashesFor consts passes.inodes g o
  hashes_left (Some (Does j y)) st f = λ s2 q a b.
      let p = t.task_state.program in
      let on : IsStepOn i d (step_at p t.task_state.position.call_state) =
      subst (IsStepOn i d) (sym st) f in
      let looked : HasLooked (inode_in consts s) (t.number + 1) e.pass.seen e.journal e.pass.mine =
      subst (λ (n : ℕ). HasLooked (inode_in consts s) (n + 1) e.pass.seen e.journal e.pass.mine)
      (task_of_who t.number p t.task_state.position.call_state) e.looked in
      let ready : IsReady (inode_in consts s) (t.number + 1) e.journal t.hash_state
      t.task_state.checked (slot_in (due_at p t.task_state.position.call_state)) d =
      ready_by_look consts t h i s e.pass e.journal d x there e.pass_at looked on in
      let same : s ≡ s2 =
      same_Some s s2 (sym there ∙ ap (slice_get consts.each_inode) (sym f.0) ∙ a) in
      let pass : e.pass2 ≡ q =
      same_Some e.pass2 q (sym (ap (λ (xs : List (Passed Event)). slice_get xs i) e.inodes
      ∙ get_set t.passes.inodes i e.pass2 e.pass e.pass_at)
      ∙ ap (slice_get passes.inodes) (sym f.0) ∙ b) in
      subst (λ (z : InodeConsts). HashesBefore (inode_in consts z) q.seen g y) same
      (subst (λ (z : Passed Event). HashesBefore (inode_in consts s) z.seen g y) pass
      (subst (λ (xs : List Event). HashesBefore (inode_in consts s) xs g y) (sym seen_is)
      (subst (λ (z : HashState). HashesBefore (inode_in consts s) e.journal z y) (sym e.hashes)
      (subst (λ (z : Deed). HashesBefore (inode_in consts s) e.journal t.hash_state z) (sym f.1)
      ready.hashes))))
  hashes_left (Some (Checks j file func mask)) st f = tt
  hashes_left (Some Nothing) st f = absurd f
  hashes_left (Some (Signals y)) st f = absurd f
  hashes_left (Some (Appends rule)) st f = absurd f
  hashes_left None st f = absurd f

pub none_is_played : NoneIsPlayed
none_is_played consts t h i s d old new passes g x f there e =
    let look = inodes_looked consts t h i s d old new passes g x there e in
    record {
      calls = x.calls;
      stands = x.stands;
      checked = x.checked;
      passes = passes_left consts t h i s d old new passes g x there e;
      events = λ j q k. let l = look j q k in l.mine ∙ x.events j l.before l.at;
      placed = λ j q k. let l = look j q k in l.placed (x.placed j l.before l.at);
      signals = ap (λ (q : Passed Event). q.mine) e.sems ∙ x.signals;
      rules = e.rules.mine ∙ append-nil t.passes.rules.mine ∙ x.rules;
      unlisted = e.book.mine ∙ append-nil t.passes.book.mine ∙ x.unlisted;
      checks = λ programs. law_fits_with_more (scene_of consts programs) t.task_state.program
          (seen_by t.passes.inodes t.passes.rules) (seen_by passes.inodes passes.rules) h
          (sees_more consts t h i s d old new passes g x there e) (x.checks programs);
      rises = rises_look (log (mode_in consts) t.number t.task_state.program h) t.passes.book.seen
          passes.book.seen (book_more consts t h i s d old new passes g x there e) x.rises;
      hashed = hashes_left consts t h i s d old new passes g x there e
          (step_at t.task_state.program t.task_state.position.call_state) refl f;
    }

-- A look of a task at all lists preserves its history.
use Rattle.std.proofs.Common.{◌≡◌, ℕ, zero, suc, ◌+◌, ◌<◌, ◌≤◌, List, [], ◌∷◌, length, map, Option, Some, None, refl, sym, ◌∙◌, ap, subst, arith}
use Rattle.std.specs.Prelude.{All, slice_get}
use Rattle.std.proofs.lemmas.List.{append-nil}
use Rattle.std.proofs.lemmas.List.Elements.{All-weaker}
use Rattle.std.proofs.lemmas.Option.{same_Some, slice_get_within}
use mathlib.Core.List.{IsPrefix}
use Rattle.grow_list.proofs.Prefixes.{prefix_length, prefix_same}
use Rattle.grow_list.specs.Shown.{Passed}
use Rattle.call_steps.specs.templates.declared.entry.Entry.{Entry}
use Rattle.inode_events.specs.declared.told.Event.{Event}
use Rattle.call_steps.specs.CallState.{Step}
use Rattle.call_steps.specs.CallState.{Nothing, Does, Checks, Signals, Appends}
use Rattle.world_model.specs.laws_of_runs.Logs.{log}
use Rattle.world_model.specs.laws_of_runs.Steps.{RisesWithin}
use Rattle.world_model.proofs.laws_of_runs.Rising.{rises_look}
use Rattle.run_model.specs.rules.declared.cell.RuleEntry.{RuleEntry}
use Rattle.world_model.proofs.laws_of_runs.Checking.{law_fits_with_more}
use Rattle.world_model.specs.laws_of_runs.Checks.{SeesMore, seen_by}
use Rattle.world_model.specs.laws_of_runs.Moments.{seen_in}
use Rattle.run_model.specs.History.{Answer, own, step_at}
use Rattle.run_model.specs.Served.{events_of}
use Rattle.run_model.specs.Turns.{State}
use Rattle.world_model.specs.WorldConsts.{WorldConsts, inode_in, mode_in, scene_of}
use Rattle.world_model.specs.Tasks.{ArePassesOf, HashesBefore, HashesFor, HasPlayed, PassesValue, Tasked}
use Rattle.world_model.specs.Looks.{HasLookedAtAll, InodeLooked, LookIsMade, LookIsPlayed}
use Rattle.world_model.specs.Plays.{task_left}
use Rattle.world_model.specs.Ready.{IsReady, IsStepOn}
use Rattle.world_model.specs.Due.{slot_in}
use Rattle.world_model.proofs.Readying.{ready_by_look}
use Rattle.world_model.specs.task_states.Value.{due_at}

-- a list has an element at each place below its length
pub get_within : {A : Type 0} (xs : List A) (k : ℕ) → k < length xs
    → (x : A) × (slice_get xs k ≡ Some x)
get_within [] k l = absurd (omega arith)
get_within (x ∷ xs) zero l = (x, refl)
get_within (x ∷ xs) (suc k) l = get_within xs k (omega arith)

-- the journal seen at place k was seen by the pass at place k
seen_at : (passes : List (Passed Event)) (k : ℕ) (j : List Event)
    → slice_get (map (λ (q : Passed Event). q.seen) passes) k ≡ Some j
    → (q : Passed Event) × ((slice_get passes k ≡ Some q) × (q.seen ≡ j))
seen_at [] k j h = absurd (cc)
seen_at (q ∷ qs) zero j h = (q, (refl, same_Some q.seen j h))
seen_at (q ∷ qs) (suc k) j h = seen_at qs k j h

at_seen : (passes : List (Passed Event)) (k : ℕ) (q : Passed Event) → slice_get passes k ≡ Some q
    → slice_get (map (λ (q : Passed Event). q.seen) passes) k ≡ Some q.seen
at_seen [] k q h = absurd (cc)
at_seen (x ∷ xs) zero q h = ap (λ (z : Passed Event). Some z.seen) (same_Some x q h)
at_seen (x ∷ xs) (suc k) q h = at_seen xs k q h

module _ (consts : WorldConsts) (t : Tasked) (h : List Answer) (s : State) (passes : PassesValue)
    (x : HasPlayed consts t h) (l : HasLookedAtAll consts t s passes) where
  abbrev Looked : ℕ → Passed Event → Type 0
  Looked k q = InodeLooked consts (t.number + 1) k s.journals t.passes.inodes q

  -- the pass of journal k after the look
  after : (k : ℕ) (q : Passed Event) → slice_get t.passes.inodes k ≡ Some q
      → (q2 : Passed Event) × ((slice_get passes.inodes k ≡ Some q2) × Looked k q2)
  after k q g =
      let lt : k < length t.passes.inodes = slice_get_within t.passes.inodes k q g in
      let le : length passes.inodes ≡ length t.passes.inodes = l.even in
      let y = get_within passes.inodes k (omega arith) in
      (y.0, (y.1, l.inodes k y.0 y.1))

  -- a look never makes a pass forget an entry
  seen_more : (k : ℕ) (q : Passed Event) (e : Looked k q) → IsPrefix e.before.seen q.seen
  seen_more k q e =
      let lt : k < length t.passes.inodes = slice_get_within t.passes.inodes k e.before e.at in
      let le : length t.passes.inodes ≡ length consts.each_inode = x.passes.even in
      let y = get_within consts.each_inode k (omega arith) in
      subst (λ (xs : List Event). IsPrefix e.before.seen xs) (sym e.seen)
      (e.looked y.0 y.1).before

  sees_more : SeesMore (seen_by t.passes.inodes t.passes.rules)
      (seen_by passes.inodes passes.rules)
  sees_more = record {
    journals = λ k j g.
        let o = seen_at t.passes.inodes k j g in
        let b = after k o.0 o.1.0 in
        let e : Looked k b.0 = b.1.1 in
        let same : e.before ≡ o.0 = same_Some e.before o.0 (sym e.at ∙ o.1.0) in
        record {
          longer = b.0.seen;
          there = at_seen passes.inodes k b.0 b.1.0;
          before = subst (λ (xs : List Event). IsPrefix xs b.0.seen)
              (ap (λ (q : Passed Event). q.seen) same ∙ o.1.1) (seen_more k b.0 e);
        };
    added = subst (λ (xs : List RuleEntry). IsPrefix t.passes.rules.seen xs) (sym l.rules_seen)
        l.rules_before;
  }

  passes_left : ArePassesOf consts t.number passes
  passes_left = record {
    even = l.even ∙ x.passes.even;
    inodes = λ k s2 q a g.
        let e : Looked k q = l.inodes k q g in
        let o = x.passes.inodes k s2 e.before a e.at in
        (e.name ∙ o.0, e.number ∙ o.1);
    sems = (l.sems.name ∙ x.passes.sems.0, l.sems.number ∙ x.passes.sems.1);
    book = (l.book.name ∙ x.passes.book.0, l.book.number ∙ x.passes.book.1);
    rules = (l.rules.name ∙ x.passes.rules.0, l.rules.number ∙ x.passes.rules.1);
  }

  events_left : (k : ℕ) (q : Passed Event) → slice_get passes.inodes k ≡ Some q
      → q.mine ≡ own (mode_in consts) t.number t.task_state.program k h
  events_left k q g =
      let e : Looked k q = l.inodes k q g in e.mine ∙ x.events k e.before e.at

  placed_left : (k : ℕ) (q : Passed Event) → slice_get passes.inodes k ≡ Some q
      → All (λ z. z.0 < length q.seen) q.mine
  placed_left k q g =
      let e : Looked k q = l.inodes k q g in
      let le : length e.before.seen ≤ length q.seen =
      prefix_length e.before.seen q.seen (seen_more k q e) in
      subst (λ (xs : List (ℕ × Event)). All (λ z. z.0 < length q.seen) xs) (sym e.mine)
      (All-weaker (λ (z : ℕ × Event). z.0 < length e.before.seen)
      (λ (z : ℕ × Event). z.0 < length q.seen) (λ z y. omega arith) e.before.mine
      (x.placed k e.before e.at))

  hashes_left : (o : Option Step)
      → step_at t.task_state.program t.task_state.position.call_state ≡ o
      → HashesFor consts passes.inodes t.hash_state o
  hashes_left (Some (Does i d)) st = λ s2 q a b.
      let p = t.task_state.program in
      let e : Looked i q = l.inodes i q b in
      let on : IsStepOn i d (step_at p t.task_state.position.call_state) =
      subst (IsStepOn i d) (sym st) (refl, refl) in
      let ready : IsReady (inode_in consts s2) (t.number + 1) e.journal t.hash_state
      t.task_state.checked (slot_in (due_at p t.task_state.position.call_state)) d =
      ready_by_look consts t h i s2 e.before e.journal d x a e.at (e.looked s2 a) on in
      subst (λ (xs : List Event). HashesBefore (inode_in consts s2) xs t.hash_state d) (sym e.seen)
      ready.hashes
  hashes_left (Some (Checks j file func mask)) st = tt
  hashes_left (Some Nothing) st = tt
  hashes_left (Some (Signals y)) st = tt
  hashes_left (Some (Appends rule)) st = tt
  hashes_left None st = tt

  rises_left : RisesWithin (log (mode_in consts) t.number t.task_state.program h) passes.book.seen
  rises_left =
      rises_look (log (mode_in consts) t.number t.task_state.program h) t.passes.book.seen
      passes.book.seen
      (subst (λ (xs : List Entry). IsPrefix t.passes.book.seen xs) (sym l.book_seen) l.book_before)
      x.rises

pub look_is_played : LookIsPlayed
look_is_played consts t h s passes x l = record {
  calls = x.calls;
  stands = x.stands;
  checked = x.checked;
  passes = passes_left consts t h s passes x l;
  events = events_left consts t h s passes x l;
  placed = placed_left consts t h s passes x l;
  signals = l.sems.mine ∙ append-nil t.passes.sems.mine ∙ x.signals;
  rules = l.rules.mine ∙ append-nil t.passes.rules.mine ∙ x.rules;
  unlisted = l.book.mine ∙ append-nil t.passes.book.mine ∙ x.unlisted;
  checks = λ programs. law_fits_with_more (scene_of consts programs) t.task_state.program
      (seen_by t.passes.inodes t.passes.rules) (seen_by passes.inodes passes.rules) h
      (sees_more consts t h s passes x l) (x.checks programs);
  rises = rises_left consts t h s passes x l;
  hashed = hashes_left consts t h s passes x l
      (step_at t.task_state.program t.task_state.position.call_state) refl;
}

-- ---- what the lists themselves have

module _ (consts : WorldConsts) (t : Tasked) (h : List Answer) (s : State) (passes : PassesValue)
    (y : HasPlayed consts (task_left t passes t.hash_state) h)
    (l : HasLookedAtAll consts t s passes) where
  abbrev here : ℕ → Passed Event → Type 0
  here k q = InodeLooked consts (t.number + 1) k s.journals t.passes.inodes q

  journal_seen : (k : ℕ) (journal : List Event) → slice_get s.journals k ≡ Some journal
      → (q : Passed Event) × ((slice_get passes.inodes k ≡ Some q) × (q.seen ≡ journal))
  journal_seen k journal g =
      let lt : k < length s.journals = slice_get_within s.journals k journal g in
      let le : length s.journals ≡ length consts.each_inode = l.journals in
      let more : length passes.inodes ≡ length consts.each_inode = y.passes.even in
      let z = get_within passes.inodes k (omega arith) in
      let e : here k z.0 = l.inodes k z.0 z.1 in
      (z.0, (z.1, e.seen ∙ same_Some e.journal journal (sym e.journal_at ∙ g)))

  events_made : (k : ℕ) (journal : List Event) → slice_get s.journals k ≡ Some journal
      → events_of t.number journal ≡ own (mode_in consts) t.number t.task_state.program k h
  events_made k journal g =
      let z = journal_seen k journal g in
      let e : here k z.0 = l.inodes k z.0 z.1.0 in
      let lt : k < length s.journals = slice_get_within s.journals k journal g in
      let le : length s.journals ≡ length consts.each_inode = l.journals in
      let inode_consts = get_within consts.each_inode k (omega arith) in
      ap (events_of t.number) (same_Some journal e.journal (sym g ∙ e.journal_at))
      ∙ (e.looked inode_consts.0 inode_consts.1).own ∙ sym e.mine ∙ y.events k z.0 z.1.0

  sees_all : SeesMore (seen_by passes.inodes passes.rules) (seen_in s)
  sees_all = record {
    journals = λ k j g.
        let o = seen_at passes.inodes k j g in
        let e : here k o.0 = l.inodes k o.0 o.1.0 in
        record {
          longer = e.journal;
          there = e.journal_at;
          before = prefix_same j e.journal (sym o.1.1 ∙ e.seen);
        };
    added = prefix_same passes.rules.seen s.added l.rules_seen;
  }

pub look_is_made : LookIsMade
look_is_made consts t s passes k l =
    let h = k.history in
    let y : HasPlayed consts (task_left t passes t.hash_state) h =
    look_is_played consts t h s passes k.played l in
    record {
      history = h;
      stands = y.stands;
      events = events_made consts t h s passes y l;
      signals = l.signals ∙ y.signals;
      rules = l.appended ∙ y.rules;
      checks = λ programs. law_fits_with_more (scene_of consts programs) t.task_state.program
          (seen_by passes.inodes passes.rules) (seen_in s) h (sees_all consts t h s passes y l)
          (y.checks programs);
      rises = subst (λ (xs : List Entry).
          RisesWithin (log (mode_in consts) t.number t.task_state.program h) xs)
          l.book_seen y.rises;
    }

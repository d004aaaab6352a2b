-- The merged run, from served tasks.
use Rattle.std.proofs.Common.{◌≡◌, ℕ, zero, suc, ◌+◌, ◌<◌, ◌≤◌, List, [], ◌∷◌, length, Some, refl, sym, ◌∙◌, ap, subst, arith}
use Rattle.std.specs.Prelude.{All, Contains, reverse, slice_get}
use Rattle.std.proofs.lemmas.List.Elements.{All-contains}
use Rattle.std.proofs.lemmas.Option.{same_Some, slice_get_within, get_or_from_slice_get}
use Rattle.inode_events.specs.Callers.{caller_of}
use Rattle.inode_events.specs.Merged.{Journal}
use Rattle.inode_events.specs.NewestFirst.{newest_first}
use Rattle.inode_events.specs.declared.told.Event.{Event}
use Rattle.journal_laws.specs.Own.{own_past}
use Rattle.run_model.specs.History.{Position}
use Rattle.run_model.specs.Scene.{Program, Scene, ScriptFile, mode_of}
use Rattle.run_model.specs.Served.{IsServed, Run, Served, events_of}
use Rattle.run_model.specs.Shown.{journals_of}
use Rattle.run_laws.specs.Steps.{AreStepped, Stepped, own_in}
use Rattle.list_lemmas.proofs.Containing.{has_at, has_reversed}
use Rattle.run_laws.proofs.Merging.{merged}
use Rattle.run_laws.proofs.Rising.{own_is_past}
use Rattle.run_laws.specs.Laws.{MergedFromServed}
use Rattle.run_laws.specs.Logs.{RiseServed, log}
use Rattle.run_laws.proofs.Logging.{log_ordered, log_own}

-- a list has an element at each place below its length
get_within : {A : Type 0} (xs : List A) (k : ℕ) → k < length xs → (x : A)
    × (slice_get xs k ≡ Some x)
get_within [] k l = absurd (omega arith)
get_within (x ∷ xs) zero l = (x, refl)
get_within (x ∷ xs) (suc k) l = get_within xs k (omega arith)

-- a list contains the element at each of its places
has_get : {A : Type 0} (xs : List A) (k : ℕ) (x : A) → slice_get xs k ≡ Some x → Contains xs x
has_get xs k x h = (k, slice_get_within xs k x h, get_or_from_slice_get xs k x x h)

-- a journal and its reverse contain the same events
has_past : (list : List Event) (e : Event) → Contains (newest_first list) e → Contains list e
unfolding newest_first
has_past list e h = has_reversed list e h

-- the journal of an inode is among those of the run
journal_of : (scene : Scene) (ss : List ScriptFile) (lists : List (List Event)) (i : ℕ)
    (j : Journal) → slice_get (journals_of scene ss lists) i ≡ Some j
    → (list : List Event) × (slice_get lists i ≡ Some list) × (j.events ≡ newest_first list)
journal_of scene [] lists i j h = absurd (cc)
journal_of scene (s ∷ ss) [] i j h = absurd (cc)
journal_of scene (s ∷ ss) (l ∷ lists) zero j h =
    (l, refl, sym (ap (λ (x : Journal). x.events) (same_Some _ j h)))
journal_of scene (s ∷ ss) (l ∷ lists) (suc i) j h = journal_of scene ss lists i j h

-- a served task has made the steps of its history
stepped_by : (scene : Scene) (run : Run) (s : Served scene run) → RiseServed scene run s → (k : ℕ)
    → k < length scene.programs → Stepped k (journals_of scene scene.script_files run.journals)
stepped_by scene run s rise k l =
    let p = get_within scene.programs k l in
    let even : length run.positions ≡ length scene.programs = s.positions in
    let t = get_within run.positions k (omega arith) in
    let served : IsServed scene run k p.0 t.0 = s.tasks k p.0 t.0 p.1 t.1 in
    record {
      steps = log (mode_of scene) k p.0 served.history;
      own_is = λ i j h. own_at served i j h;
      rises = rise k p.0 t.0 p.1 t.1;
      ordered = (log_ordered (mode_of scene) k p.0 served.history).ordered;
    } where
      own_at : {p : Program} {t : Position} (served : IsServed scene run k p t) (i : ℕ)
          (j : Journal) → slice_get (journals_of scene scene.script_files run.journals) i ≡ Some j
          → own_past (k + 1) j.events ≡ reverse (own_in i (log (mode_of scene) k p served.history))
      own_at {p} {t} served i j h =
          let x = journal_of scene scene.script_files run.journals i j h in
          let e : events_of k x.0 ≡ own_in i (log (mode_of scene) k p served.history) =
          served.events i x.0 x.1 ∙ sym (log_own (mode_of scene) k p i served.history) in
          ap (own_past (k + 1)) x.2 ∙ own_is_past k i (log (mode_of scene) k p served.history) x.0 e

-- all served tasks have made their steps
all_stepped : (scene : Scene) (run : Run) (s : Served scene run) → RiseServed scene run s
    → AreStepped (length scene.programs) (journals_of scene scene.script_files run.journals)
all_stepped scene run s rise =
    record { signed = signed; stepped = stepped_by scene run s rise } where
      signed : (j : Journal) (e : Event)
          → Contains (journals_of scene scene.script_files run.journals) j
          → Contains j.events e → caller_of e < length scene.programs + 1
      signed j e hj he =
          let i = has_at (journals_of scene scene.script_files run.journals) j hj in
          let x = journal_of scene scene.script_files run.journals i.0 j i.1 in
          let inside : Contains x.0 e =
          has_past x.0 e (subst (λ (l : List Event). Contains l e) x.2 he) in
          let all : All (λ (y : Event). caller_of y ≤ length scene.programs) x.0 =
          All-contains
          (λ (journal : List Event). All (λ (y : Event). caller_of y ≤ length scene.programs)
          journal) run.journals x.0 s.no_other_events (has_get run.journals i.0 x.0 x.1) in
          let le : caller_of e ≤ length scene.programs =
          All-contains (λ (y : Event). caller_of y ≤ length scene.programs) x.0 e all inside in
          omega arith

-- the law for a served run
pub joined : MergedFromServed
joined scene run inodes tasks b z none even s rise =
    merged scene.boot run.list (journals_of scene scene.script_files run.journals) inodes tasks b
    z none
    (subst (λ (n : ℕ). AreStepped n (journals_of scene scene.script_files run.journals)) (sym even)
    (all_stepped scene run s rise))

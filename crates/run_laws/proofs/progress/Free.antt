-- If no task moves, no collection is open.
use Rattle.std.proofs.Common.{◌≡◌, ℕ, zero, suc, ◌+◌, ◌<◌, ◌≤◌, Bool, true, false, cond, List, [], ◌∷◌, length, Option, Some, None, refl, sym, ◌∙◌, ap, subst, arith}
use Rattle.std.specs.Prelude.{◌==◌, All, reverse, slice_get, option_map}
use Rattle.std.proofs.lemmas.Bool.{eq-eqb, ne_eqb}
use Rattle.std.proofs.lemmas.List.Elements.{All-head, All-tail}
use Rattle.std.proofs.lemmas.Option.{get_or_from_slice_get, same_Some}
use Rattle.inode_events.specs.templates.declared.entry.Placed.{Placed}
use Rattle.inode_meta.specs.declared.step.Who.{Who}
use Rattle.inode_events.specs.Asked.{asked, outcome, placed_for}
use Rattle.inode_events.specs.Callers.{caller_in, caller_of}
use Rattle.inode_events.specs.Inode.{Inode}
use Rattle.inode_events.specs.Integrity.{Collection, collecting}
use Rattle.inode_events.specs.NewestFirst.{newest_first}
use Rattle.inode_events.specs.Says.{chunk_told, finish_told, says}
use Rattle.inode_events.specs.State.{content}
use Rattle.inode_events.specs.declared.deed.Deed.{Deed}
use Rattle.inode_events.specs.declared.deed.Deed.TheVariants as deed
use Rattle.inode_events.specs.declared.told.Event.{Event}
use Rattle.inode_events.specs.declared.told.Told.{Told}
use Rattle.journal_laws.proofs.Lives.{lives}
use Rattle.journal_laws.proofs.Small.{event}
use Rattle.journal_laws.proofs.Stages.{StageIs, stage_busy, stages}
use Rattle.journal_laws.specs.Standing.{event_at}
use Rattle.journal_laws.proofs.Bridge.{own_bridge}
use Rattle.journal_laws.proofs.Owning.{stage_own}
use Rattle.journal_laws.specs.Own.{counter, own_past}
use Rattle.call_steps.specs.CallState.{Step}
use Rattle.call_steps.specs.CallState.{Does}
use Rattle.run_model.specs.History.{Position, own, step_at}
use Rattle.run_model.specs.Rounds.{is_moved, moves, moves_at}
use Rattle.run_model.specs.Scene.{Program, Scene, ScriptFile, inode_of, mode_of}
use Rattle.run_model.specs.Turns.{Moment, State, step_does, step_due, step_task, turn_of}
use Rattle.run_laws.specs.progress.Resting.{AtRest, GoesOn, Resting}
use Rattle.run_laws.proofs.progress.Busy.{busy_goes}
use Rattle.inode_events.specs.Stage.{Asked, CloseCollected, CloseCollecting, Collected, Collecting, Counted, Gone, Settled, Stage, is_collecting, is_gone, stage, stage_in}

pub get_within : {A : Type 0} (xs : List A) (k : ℕ) → k < length xs
    → (x : A) × (slice_get xs k ≡ Some x)
get_within [] k l = absurd (omega arith)
get_within (x ∷ xs) zero l = (x, refl)
get_within (x ∷ xs) (suc k) l = get_within xs k (omega arith)

-- ---- the owner of a file

counter_there : (f : ℕ) (p : List Event) → f < length p → (m : ℕ) × (counter f p ≡ Some m)
counter_there f [] l = absurd (omega arith)
counter_there f (e ∷ p) l = at (length p == f) refl (counter_there f p) where
  apart : (length p == f) ≡ false → f < length p
  apart q = below (eq-eqb (length p) f) where
    below : (length p ≡ f → (length p == f) ≡ true) → f < length p
    below y = omega (arith, λ (x : length p ≡ f). no x) where
      no : length p ≡ f → ⊥
      no x = let z : (length p == f) ≡ true = y x in cc

  at : (b : Bool) → (length p == f) ≡ b → (f < length p → (m : ℕ) × (counter f p ≡ Some m))
      → (m : ℕ) × (option_map caller_of (cond b (Some e) (event_at f p)) ≡ Some m)
  at true q ih = (caller_of e, refl)
  at false q ih = ih (apart q)

counter_signed : (count f m : ℕ) (p : List Event) → All (λ e. caller_of e ≤ count) p
    → counter f p ≡ Some m → m ≤ count
counter_signed count f m [] s h = absurd (cc)
counter_signed count f m (e ∷ p) s h =
    at (length p == f) (All-head (λ (x : Event). caller_of x ≤ count) e p s)
    (counter_signed count f m p (All-tail (λ (x : Event). caller_of x ≤ count) e p s)) h where
      at : (b : Bool) → caller_of e ≤ count → (counter f p ≡ Some m → m ≤ count)
          → option_map caller_of (cond b (Some e) (event_at f p)) ≡ Some m → m ≤ count
      at true here ih g = let c : caller_of e ≡ m = same_Some (caller_of e) m g in omega arith
      at false here ih g = ih g

-- the inode's own caller counts no file
born : (i : Inode) (f place : ℕ) (xs : List (ℕ × Event)) (e : Event) (who : Who) (d : Deed)
    → stage_in i f (cond (0 == caller_in who.task d) ((place, event who d e.told) ∷ xs) xs)
    ≡ stage_in i f xs
born i f place xs e who deed.Birth = refl
born i f place xs e who d =
    ap (λ (b : Bool). stage_in i f (cond b ((place, event who d e.told) ∷ xs) xs))
    (ne_eqb 0 (who.task + 1) (λ z. absurd (omega arith)))

births_gone : (i : Inode) (f : ℕ) (p : List Event) → stage_in i f (own_past 0 p) ≡ Gone
births_gone i f [] = refl
births_gone i f (e ∷ p) = born i f (length p) (own_past 0 p) e e.who e.deed ∙ births_gone i f p

busy_alive : (l : Stage) → is_collecting l ≡ true → is_gone l ≡ false
busy_alive Gone b = cc
busy_alive Counted b = refl
busy_alive Asked b = refl
busy_alive Collecting b = refl
busy_alive Collected b = refl
busy_alive Settled b = refl
busy_alive CloseCollecting b = refl
busy_alive CloseCollected b = refl

busy_collects : (l : Stage) → is_collecting l ≡ true → is_collecting l ≡ true
busy_collects Gone h = h
busy_collects Counted h = h
busy_collects Asked h = h
busy_collects Collecting h = h
busy_collects Collected h = h
busy_collects Settled h = h
busy_collects CloseCollecting h = h
busy_collects CloseCollected h = h

-- ---- the outcome of a step that continues a collection

pub goes_told : (i : Inode) (p : List Event) (placed : Placed) (f : ℕ) (c : Collection) (d : Deed)
    → GoesOn f d → collecting i p ≡ Some c → (t : Told) × (says i p placed d ≡ Some t)
goes_told i p placed f c (deed.Chunk g) e h = (_, ap (chunk_told (content p)) h)
goes_told i p placed f c (deed.Finish g) e h =
    (_, ap (λ (o : Option Collection). finish_told i g placed o p) h)
goes_told i p placed f c (deed.CloseChunk g) e h = (_, ap (chunk_told (content p)) h)
goes_told i p placed f c (deed.CloseFinish g) e h = (_, refl)
goes_told i p placed f c d e h = absurd e

-- ---- turns

pub moves_is : (scene : Scene) (m : Moment) (n : ℕ) (p : Program) (t : Position)
    → slice_get scene.programs n ≡ Some p → slice_get m.positions n ≡ Some t
    → moves scene m n ≡ is_moved (step_task scene n p m.state t).turn
moves_is scene m n p t a b = (λ k. moves_at scene m n (a k) (b k))

pub does_turn : (scene : Scene) (n : ℕ) (p : Program) (s : State) (t : Position) (i : ℕ) (d : Deed)
    (script_file : ScriptFile) (journal : List Event)
    → step_at p t.call_state ≡ Some (Does i d) → slice_get scene.script_files i ≡ Some script_file
    → slice_get s.journals i ≡ Some journal
    → is_moved (step_task scene n p s t).turn ≡ is_moved
    (turn_of (outcome (inode_of scene script_file) s.list d (newest_first journal)))
does_turn scene n p s t i d script_file journal a b c =
    ap (λ (o : Option Step). is_moved (step_due scene n p s t o).turn) a
    ∙ ap (λ (o : Option ScriptFile). is_moved (step_does scene n p s t i o d).turn) b
    ∙ ap (λ (l : List Event). is_moved (turn_of
    (outcome (inode_of scene script_file) s.list d (newest_first l))))
    (get_or_from_slice_get s.journals i journal [] c)

-- the owner of an open collection can move
owner_moves : (scene : Scene) (m : Moment) (r : AtRest scene m) (i : ℕ) (script_file : ScriptFile)
    (journal : List Event) (c : Collection) (k : ℕ)
    → slice_get scene.script_files i ≡ Some script_file
    → slice_get m.state.journals i ≡ Some journal
    → collecting (inode_of scene script_file) (newest_first journal) ≡ Some c
    → k < length scene.programs → is_collecting
    (stage_in (inode_of scene script_file) c.file (own_past (k + 1) (newest_first journal))) ≡ true
    → ⊥
owner_moves scene m r i script_file journal c k es ej h below collects =
    let pp = get_within scene.programs k below in
    let even : length m.positions ≡ length scene.programs = r.legal.positions_even in
    let tt' = get_within m.positions k (omega arith) in
    let rest : Resting scene m.state k pp.0 tt'.0 = r.tasks k pp.0 tt'.0 pp.1 tt'.1 in
    let path : own_past (k + 1) (newest_first journal)
    ≡ reverse (own (mode_of scene) k pp.0 i rest.history) =
    own_bridge (k + 1) journal ∙ ap reverse (rest.events i journal ej) in
    let mine : is_collecting (stage_in (inode_of scene script_file) c.file
    (reverse (own (mode_of scene) k pp.0 i rest.history))) ≡ true =
    subst (λ (l : List (ℕ × Event)). is_collecting (stage_in (inode_of scene script_file) c.file l)
    ≡ true) path collects in
    let g0 = busy_goes (inode_of scene script_file)
    (mode_of scene) k pp.0 rest.history i journal c.file
    (r.legal.follows i script_file journal es ej).0 (rest.events i journal ej) mine in
    let g : (d : Deed) × (step_at pp.0 tt'.0.call_state ≡ Some (Does i d)) × GoesOn c.file d =
    subst (λ (u : Position). (d : Deed) × (step_at pp.0 u.call_state ≡ Some (Does i d))
    × GoesOn c.file d) rest.stands g0 in
    let told = goes_told (inode_of scene script_file) (newest_first journal)
    (placed_for m.state.list (asked (inode_of scene script_file) g.0
    (newest_first journal))) c.file c g.0 g.2 h in
    let moved : is_moved (step_task scene k pp.0 m.state tt'.0).turn ≡ true =
    does_turn scene k pp.0 m.state tt'.0 i g.0 script_file journal g.1 es ej
    ∙ ap (λ (o : Option Told). is_moved (turn_of o)) told.1 in
    let still : is_moved (step_task scene k pp.0 m.state tt'.0).turn ≡ false =
    sym (moves_is scene m k pp.0 tt'.0 pp.1 tt'.1) ∙ r.still k below in
    both (is_moved (step_task scene k pp.0 m.state tt'.0).turn) moved still where
      both : (b : Bool) → b ≡ true → b ≡ false → ⊥
      both true x y = absurd (cc)
      both false x y = absurd (cc)

by_caller : (scene : Scene) (m : Moment) (r : AtRest scene m) (i : ℕ) (script_file : ScriptFile)
    (journal : List Event) (c : Collection) (n : ℕ)
    → slice_get scene.script_files i ≡ Some script_file
    → slice_get m.state.journals i ≡ Some journal
    → collecting (inode_of scene script_file) (newest_first journal) ≡ Some c
    → n ≤ length scene.programs → is_collecting
    (stage_in (inode_of scene script_file) c.file (own_past n (newest_first journal))) ≡ true → ⊥
by_caller scene m r i script_file journal c zero es ej h below collects =
    let z : is_collecting
    (stage_in (inode_of scene script_file) c.file (own_past 0 (newest_first journal)))
    ≡ false = ap is_collecting
    (births_gone (inode_of scene script_file) c.file (newest_first journal)) in
    both (is_collecting (stage_in (inode_of scene script_file) c.file
    (own_past 0 (newest_first journal)))) collects z where
      both : (b : Bool) → b ≡ true → b ≡ false → ⊥
      both true x y = absurd (cc)
      both false x y = absurd (cc)
by_caller scene m r i script_file journal c (suc k) es ej h below collects =
    let e : suc k ≡ k + 1 = omega arith in
    owner_moves scene m r i script_file journal c k es ej h (omega arith)
    (subst (λ (n : ℕ). is_collecting (stage_in (inode_of scene script_file) c.file
    (own_past n (newest_first journal))) ≡ true) e collects)

pub no_collection : (scene : Scene) (m : Moment) → AtRest scene m
    → (i : ℕ) (script_file : ScriptFile) (journal : List Event)
    → slice_get scene.script_files i ≡ Some script_file
    → slice_get m.state.journals i ≡ Some journal
    → (o : Option Collection) → collecting (inode_of scene script_file) (newest_first journal) ≡ o
    → o ≡ None
no_collection scene m r i script_file journal es ej None h = refl
no_collection scene m r i script_file journal es ej (Some c) h =
    let inode : Inode = inode_of scene script_file in
    let legal = r.legal.follows i script_file journal es ej in
    let stands : StageIs (inode_of scene script_file) (newest_first journal) (Some c) =
    subst (StageIs (inode_of scene script_file) (newest_first journal)) h
    (stages (inode_of scene script_file) (newest_first journal) legal.0).1 in
    let busy : is_collecting (stage (inode_of scene script_file) c.file (newest_first journal))
    ≡ true =
    ap is_collecting stands.0 ∙ stage_busy c.closing c.complete in
    let alive : is_gone (stage (inode_of scene script_file) c.file (newest_first journal)) ≡ false =
    busy_alive (stage (inode_of scene script_file) c.file (newest_first journal)) busy in
    let within : c.file < length (newest_first journal) =
    (lives (inode_of scene script_file) (newest_first journal) legal.0 c.file alive).0 in
    let owner = counter_there c.file (newest_first journal) within in
    let mine : stage (inode_of scene script_file) c.file (newest_first journal)
    ≡ stage_in (inode_of scene script_file) c.file (own_past owner.0 (newest_first journal)) =
    stage_own (inode_of scene script_file) owner.0 c.file (newest_first journal) legal.1 owner.1 in
    let collects : is_collecting (stage_in (inode_of scene script_file) c.file
    (own_past owner.0 (newest_first journal))) ≡ true =
    ap is_collecting (sym mine) ∙ busy_collects
    (stage (inode_of scene script_file) c.file (newest_first journal)) busy in
    absurd (by_caller scene m r i script_file journal c owner.0 es ej h
    (counter_signed (length scene.programs) c.file owner.0
    (newest_first journal) legal.2 owner.1) collects)

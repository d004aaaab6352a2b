-- A run appends no rule if no program has an `addrule`.
use Rattle.std.proofs.Common.{◌≡◌, ℕ, zero, suc, ◌<◌, ◌||◌, Bool, true, false, List, [], ◌∷◌, ◌++◌, length, Option, Some, None, refl, sym, ap, ◌∙◌, subst, arith}
use Rattle.std.specs.Prelude.{slice_get, All}
use Rattle.std.specs.List.{list_any}
use Rattle.std.proofs.lemmas.Bool.{false≢true}
use Rattle.std.proofs.lemmas.List.Elements.{All-head}
use Rattle.inode_meta.specs.declared.appraisal.Mode.{Mode}
use Rattle.inode_meta.specs.declared.step.Who.{Who}
use Rattle.call_steps.specs.CallState.{CallState, Progress, progress_of, step_by}
use Rattle.call_steps.specs.declared.ask.Ask.{Ask}
use Rattle.call_steps.specs.declared.ask.Ask.TheVariants as ask
use Rattle.call_steps.specs.declared.call.Call.{Call}
use Rattle.call_steps.specs.declared.call.Call.TheVariants as call
use Rattle.run_model.specs.History.{Answer, call_at, own_rules, position, rule_in, step_at, step_in, who_at}
use Rattle.run_model.specs.Served.{Run, Served, rules_of}
use Rattle.run_model.specs.Scene.{Program, Scene, mode_of}
use Rattle.run_model.specs.rules.declared.cell.RuleEntry.{RuleEntry}
use Rattle.run_model.specs.EndedValue.{appends, grows}
use Rattle.report_laws.proofs.Own.{is_there, some_same, same_number}

-- if it is false that one of two tests holds, both are false
neither : (a b : Bool) → (a || b) ≡ false → (a ≡ false) × (b ≡ false)
neither true b h = absurd (false≢true (sym h))
neither false b h = (refl, h)

-- if no element passes a test, the one at a place doesn't
none_at : {X : Type 0} (test : X → Bool) (xs : List X) (i : ℕ) (x : X) → list_any test xs ≡ false
    → slice_get xs i ≡ Some x → test x ≡ false
none_at test [] i x h e = absurd (false≢true (ap is_there e))
none_at test (y ∷ xs) zero x h e =
    subst (λ z. test z ≡ false) (some_same y x e) (neither (test y) (list_any test xs) h).0
none_at test (y ∷ xs) (suc i) x h e = none_at test xs i x (neither (test y) (list_any test xs) h).1
    e

-- a step of a call that isn't an `addrule` appends nothing
none_by : (admin : Bool) (c : Call) (g : Progress) (a : Ask) (w : Who) (x : Answer) → appends c
    ≡ false → rule_in w (Some (step_by admin c g a)) x ≡ []
none_by admin c g ask.Count w x h = refl
none_by admin c g (ask.Check f mm) w x h = refl
none_by admin c g (ask.Take s) w x h = refl
none_by admin c g ask.Chunk w x h = refl
none_by admin c g ask.Finish w x h = refl
none_by admin c g (ask.Read o n) w x h = refl
none_by admin c g ask.Write w x h = refl
none_by admin c g (ask.Trunc n) w x h = refl
none_by admin c g ask.SetAttr w x h = refl
none_by admin c g ask.SetMeta w x h = refl
none_by admin c g ask.Close w x h = refl
none_by admin c g ask.CloseTake w x h = refl
none_by admin c g ask.CloseChunk w x h = refl
none_by admin c g ask.CloseFinish w x h = refl
none_by admin (call.Open f i hh t) g ask.Plain w x h = refl
none_by admin (call.Read f o n) g ask.Plain w x h = refl
none_by admin (call.Write f o bs) g ask.Plain w x h = refl
none_by admin (call.Ftruncate f n) g ask.Plain w x h = refl
none_by admin (call.Close f) g ask.Plain w x h = refl
none_by admin (call.Mmap m f e) g ask.Plain w x h = refl
none_by admin (call.Mread m o n) g ask.Plain w x h = refl
none_by admin (call.Munmap m) g ask.Plain w x h = refl
none_by admin (call.Exec r i) g ask.Plain w x h = refl
none_by admin (call.Endexec r) g ask.Plain w x h = refl
none_by admin (call.SetAttr i n v) g ask.Plain w x h = refl
none_by admin (call.SetMeta i c) g ask.Plain w x h = refl
none_by admin (call.Post s) g ask.Plain w x h = refl
none_by admin (call.Wait s) g ask.Plain w x h = refl
none_by admin (call.Module i) g ask.Plain w x h = refl
none_by admin (call.Firmware i) g ask.Plain w x h = refl
none_by admin (call.AddRule r) g ask.Plain w x h = absurd (false≢true (sym h))

-- a step of a call that may be missing appends nothing, unless the call is an `addrule`
none_in : (p : Program) (c : Option Call) (m : CallState) (w : Who) (x : Answer)
    → ((d : Call) → c ≡ Some d → appends d ≡ false) → rule_in w (step_in p c m) x ≡ []
none_in p None m w x h = refl
none_in p (Some c) m w x h = none_by p.cred.admin c (progress_of p.cred.admin c m)
    (progress_of p.cred.admin c m).due.ask w x (h c refl)

-- a task whose program has no `addrule` appends nothing
none_of : (mode : Mode) (n : ℕ) (p : Program) (h : List Answer) → list_any appends p.calls ≡ false
    → own_rules mode n p h ≡ []
none_of mode n p [] e = refl
none_of mode n p (x ∷ h) e =
    let m = (position mode p h).call_state in
    let here : rule_in (who_at n p m) (step_at p m) x ≡ [] =
    none_in p (call_at p m) m (who_at n p m) x (λ d k. none_at appends p.calls m.at d e k) in
    λ i. none_of mode n p h e i ++ here i

abbrev is_empty : {X : Type 0} → List X → Bool
is_empty [] = true
is_empty (x ∷ xs) = false

-- a list has an element at each place below its length
pub some_at : {X : Type 0} (xs : List X) (i : ℕ) → i < length xs → (x : X) × (slice_get xs i ≡ Some x)
some_at [] i h = absurd (omega (arith, h))
some_at (x ∷ xs) zero h = (x, refl)
some_at (x ∷ xs) (suc i) h = some_at xs i (omega (arith, h))

-- if no program has an `addrule`, the list of appended rules has no first one
none_added : (scene : Scene) (a : Run) (added : List RuleEntry) → Served scene a → a.added ≡ added
    → grows scene ≡ false → added ≡ []
none_added scene a [] s e g = refl
none_added scene a (r ∷ rs) s e g =
    let below : r.who.task < length scene.programs =
    All-head (λ (r : RuleEntry). r.who.task < length scene.programs) r rs
    (subst (λ l. All (λ (r : RuleEntry). r.who.task < length scene.programs) l) e s.no_other_rules)
    in
    let p = some_at scene.programs r.who.task below in
    let t = some_at a.positions r.who.task (omega (arith, below, s.positions)) in
    let task = s.tasks r.who.task p.0 t.0 p.1 t.1 in
    let calls : list_any appends p.0.calls ≡ false =
    none_at (λ (p : Program). list_any appends p.calls) scene.programs r.who.task p.0 g p.1 in
    let none : rules_of r.who.task (r ∷ rs) ≡ [] = ap (rules_of r.who.task) (sym e) ∙ task.rules
    ∙ none_of (mode_of scene) r.who.task p.0 task.history calls in
    let one : is_empty (rules_of r.who.task (r ∷ rs)) ≡ false = rw (same_number r.who.task) refl in
    absurd (false≢true (sym one ∙ ap is_empty none))

-- if no program has an `addrule`, no rule is appended
pub no_rules : (scene : Scene) (a : Run) → Served scene a → grows scene ≡ false → a.added ≡ []
no_rules scene a s g = none_added scene a a.added s refl g

-- Turns from the start give served runs.
use Rattle.std.proofs.Common.{◌≡◌, ◌≢◌, ℕ, zero, suc, ◌+◌, ◌<◌, ◌≤◌, List, [], ◌∷◌, length, get_or, Option, Some, None, refl, sym, ◌∙◌, ap, subst, arith, inl, inr}
use Rattle.std.specs.Prelude.{◌⊎◌, All, Bool, cond, slice_get}
use Rattle.std.proofs.lemmas.Bool.{ne_eqb}
use Rattle.std.proofs.lemmas.List.{length-map, length-set}
use Rattle.std.proofs.lemmas.List.Elements.{All-nil, All-cons}
use Rattle.std.proofs.lemmas.Option.{same_Some, slice_get_within, slice_get-get_or}
use Rattle.inode_events.specs.Callers.{caller_of}
use Rattle.inode_events.specs.Inode.{nobody}
use Rattle.inode_events.specs.declared.deed.Deed.TheVariants as deed
use Rattle.inode_events.specs.declared.told.Event.{Event}
use Rattle.inode_events.specs.declared.told.Told.TheVariants as told
use Rattle.run_model.specs.History.{Position, event, start}
use Rattle.run_model.specs.Scene.{Program, Scene, ScriptFile}
use Rattle.run_model.specs.Rounds.{RoundsTo, all_tasks, rounds}
use Rattle.run_model.specs.Served.{Served, events_of}
use Rattle.run_model.specs.steps.declared.ending.Ending.TheVariants as ending
use Rattle.run_model.specs.Turns.{Moment, State, newborn, run_at, start_of, step_task, turn, turned, turns_of}
use Rattle.run_model.specs.rules.declared.cell.RuleEntry.{RuleEntry}
use Rattle.run_laws.specs.Histories.{HasHistories, HasMade, RunsAreServed, TurnsAreServed}
use Rattle.run_laws.specs.Moments.{history_after, seen_in}
use Rattle.run_laws.specs.ScriptFiles.{ScriptFileRules}
use Rattle.run_laws.proofs.Checking.{law_fits_are_suited, law_fits_at_first, law_fits_with_more}
use Rattle.run_laws.proofs.Owned.{law_step_leaves, law_step_owns, law_step_signs, set_parts}
use Rattle.run_laws.proofs.Risen.{law_rise_at_first}
use Rattle.run_laws.proofs.Turning.{get_map, law_step_fits, law_step_grows, law_step_resumes, law_step_rises, run_sees}

after_own : (scene : Scene) (n : ℕ) (p : Program) (s : State) (t : Position)
    → length s.journals ≡ length scene.script_files → HasMade scene s n p t
    → HasMade scene (step_task scene n p s t).state n p (step_task scene n p s t).position
after_own scene n p s t even c =
    subst (λ (x : Position). HasMade scene (step_task scene n p s x).state n p
    (step_task scene n p s x).position) c.stands (record {
      history = history_after scene p s c.history;
      stands = sym (law_step_resumes scene n p s c.history);
      fit = law_step_fits scene n p s c.history even c.fit;
      owns = law_step_owns scene n p s c.history even c.owns;
    })

after_other : (scene : Scene) (n k : ℕ) (p q : Program) (s : State) (t u : Position)
    → length s.journals ≡ length scene.script_files → k ≢ n → HasMade scene s k q u
    → HasMade scene (step_task scene n p s t).state k q u
after_other scene n k p q s t u even ne c = record {
  history = c.history;
  stands = c.stands;
  fit = law_fits_with_more scene q (seen_in s) (seen_in (step_task scene n p s t).state) c.history
      (law_step_grows scene n p s t).0 c.fit;
  owns = law_step_leaves scene n k p q s t c.history even ne c.owns;
}

turned_kept : (scene : Scene) (m : Moment) (n : ℕ) (o : Option Program) (q : Option Position)
    → slice_get scene.programs n ≡ o → slice_get m.positions n ≡ q → HasHistories scene m
    → HasHistories scene (turned scene m n o q)
turned_kept scene m n None q e g f = f
turned_kept scene m n (Some p) None e g f = f
turned_kept scene m n (Some p) (Some t) e g f = record {
  even = (law_step_grows scene n p m.state t).1 ∙ f.even;
  positions = length-set m.positions n (step_task scene n p m.state t).position ∙ f.positions;
  rise = law_step_rises scene n p m.state t f.even f.rise;
  signed = law_step_signs scene n (length scene.programs) p m.state t f.even
      (slice_get_within scene.programs n p e) f.signed;
  tasks = λ k p2 t2 hp ht. at k p2 t2 hp (set_parts m.positions n k
      (step_task scene n p m.state t).position t2 ht (slice_get_within m.positions n t g));
} where
  at : (k : ℕ) (p2 : Program) (t2 : Position) → slice_get scene.programs k ≡ Some p2
      → ((k ≡ n) × (t2 ≡ (step_task scene n p m.state t).position))
      ⊎ ((n ≢ k) × (slice_get m.positions k ≡ Some t2))
      → HasMade scene (step_task scene n p m.state t).state k p2 t2
  at k p2 t2 hp (inl x) =
      let same : p ≡ p2 = same_Some p p2 (sym e ∙ ap (slice_get scene.programs) (sym x.0) ∙ hp) in
      subst (λ (j : ℕ). HasMade scene (step_task scene n p m.state t).state j p2 t2) (sym x.0)
      (subst (λ (y : Position). HasMade scene (step_task scene n p m.state t).state n p2 y)
      (sym x.1) (subst (λ (y : Program). HasMade scene (step_task scene n p m.state t).state n y
      (step_task scene n p m.state t).position) same
      (after_own scene n p m.state t f.even (f.tasks n p t e g))))
  at k p2 t2 hp (inr x) =
      after_other scene n k p p2 m.state t t2 f.even (λ y. x.0 (sym y)) (f.tasks k p2 t2 hp x.1)

turns_kept : (scene : Scene) (m : Moment) (turns : List ℕ) → HasHistories scene m
    → HasHistories scene (turns_of scene m turns)
turns_kept scene m [] f = f
turns_kept scene m (n ∷ ns) f =
    turns_kept scene (turn scene m n) ns (turned_kept scene m n (slice_get scene.programs n)
    (slice_get m.positions n) refl refl f)

-- ---- the start

born : ScriptFile → Event
born script_file = event nobody deed.Birth (told.Image script_file.birth)

newborn_none : (n : ℕ) (script_file : ScriptFile) → events_of n (newborn script_file) ≡ []
newborn_none n script_file =
    ap (λ (b : Bool). cond b ((0, event nobody deed.Birth (told.Image script_file.birth)) ∷ []) [])
    (ne_eqb (n + 1) 0 (λ e. absurd (omega arith)))

start_kept : (scene : Scene) → HasHistories scene (start_of scene)
start_kept scene = record {
  even = length-map scene.script_files newborn;
  positions = length-map scene.programs (λ (p : Program). start);
  rise = λ i journal h.
      let x = get_map newborn scene.script_files i journal h in
      subst (λ (l : List Event). ScriptFileRules (length scene.rules) l []) x.2
      (law_rise_at_first (length scene.rules)
      (event nobody deed.Birth (told.Image x.0.birth)) [] refl);
  signed = record {
    events = λ i journal h.
        let x = get_map newborn scene.script_files i journal h in
        subst (All (λ (e : Event). caller_of e ≤ length scene.programs)) x.2
        (All-cons (λ (e : Event). caller_of e ≤ length scene.programs)
        (event nobody deed.Birth (told.Image x.0.birth)) [] (omega arith)
        (All-nil (λ (e : Event). caller_of e ≤ length scene.programs)));
    rules = All-nil (λ (r : RuleEntry). r.who.task < length scene.programs);
  };
  tasks = λ n p t hp ht.
      let x = get_map (λ (p : Program). start) scene.programs n t ht in
      record {
        history = [];
        stands = x.2;
        fit = law_fits_at_first scene p (seen_in (start_of scene).state);
        owns = record {
          events = λ i journal h. let y =
              get_map newborn scene.script_files i journal h in sym (ap (events_of n) y.2)
              ∙ newborn_none n y.0;
          rules = refl;
        };
      };
}

-- ---- the run

served_at : (scene : Scene) (m : Moment) → HasHistories scene m → Served scene (run_at m)
served_at scene m f = record {
  journals = f.even;
  positions = f.positions;
  tasks = λ n p t e g.
      let c : HasMade scene m.state n p t = f.tasks n p t e g in
      record {
        history = c.history;
        stands = c.stands;
        suited = law_fits_are_suited scene p (seen_in m.state) (run_at m) c.history
            (run_sees m) c.fit;
        events = c.owns.events;
        rules = c.owns.rules;
      };
  no_other_events =
      λ k d l. f.signed.events k (get_or m.state.journals k d)
      (slice_get-get_or m.state.journals k d l);
  no_other_rules = f.signed.rules;
  rules_rise =
      λ k d l. (f.rise k (get_or m.state.journals k d)
      (slice_get-get_or m.state.journals k d l)).rise;
}

pub law_turns_are_served : TurnsAreServed
law_turns_are_served scene turns =
    served_at scene (turns_of scene (start_of scene) turns)
    (turns_kept scene (start_of scene) turns (start_kept scene))

rounds_kept : (scene : Scene) (n : ℕ) (m : Moment) → HasHistories scene m
    → HasHistories scene (rounds scene n m)
rounds_kept scene zero m f = f
rounds_kept scene (suc n) m f =
    turns_kept scene (rounds scene n m) (all_tasks scene) (rounds_kept scene n m f)

pub law_runs_are_served : RunsAreServed
law_runs_are_served scene (ending.Schedule turns) run d h =
    subst (Served scene) (sym h) (law_turns_are_served scene turns)
law_runs_are_served scene ending.Rounds run d h =
    let ends : RoundsTo scene (start_of scene) h.0 = h.1.0 in
    let end : run ≡ run_at h.0 = h.1.1 in
    subst (Served scene) (sym end) (served_at scene h.0
    (subst (HasHistories scene) (sym ends.ends)
    (rounds_kept scene ends.count (start_of scene) (start_kept scene))))
law_runs_are_served scene (ending.Threads n) run d h = absurd d

-- A task's checks are decided rightly according to what its passes have seen.
use Rattle.std.proofs.Common.{◌≡◌, ℕ, ◌+◌, ◌<◌, ◌≤◌, List, [], ◌∷◌, ◌++◌, length, map, Option, Some, None, sym, ◌∙◌, ap, subst, arith, length-append}
use Rattle.std.specs.Prelude.{take}
use Rattle.std.proofs.lemmas.List.{append_assoc, length-map, map-append, take-append-le, take_all}
use mathlib.Core.List.{IsPrefix}
use Rattle.grow_list.proofs.Prefixes.{prefix_length}
use Rattle.policy_rules.specs.RuleValue.{RuleValue}
use Rattle.policy_rules.specs.declared.rule.Func.{Func}
use Rattle.inode_events.specs.NewestFirst.{newest_first}
use Rattle.inode_events.specs.State.{metadata}
use Rattle.inode_events.specs.declared.told.Event.{Event}
use Rattle.run_model.specs.steps.CallState.{Step}
use Rattle.run_model.specs.steps.CallState.{Nothing, Does, Checks, Signals, Appends}
use Rattle.run_model.specs.History.{Answer, position, step_at}
use Rattle.run_model.specs.Scene.{Program, Scene, decided, mode_of, rules_with}
use Rattle.run_model.specs.Served.{AreSuited, Run, Suits, known_after, rules_known}
use Rattle.run_model.specs.rules.declared.cell.RuleEntry.{RuleEntry}
use Rattle.run_laws.specs.Checks.{ChecksFit, FitsAreSuited, FitsAtFirst, FitsByCheck, FitsByStep, FitsWithMore, IsCheckStep, IsDecidedIn, IsPlainStep, Longer, Seen, SeesMore, SuitIn, SuitsIn, seen_of}

abbrev rule_of : RuleEntry → RuleValue
rule_of r = r.rule

pub take_prefix : {A : Type 0} (k : ℕ) (xs ys : List A) → IsPrefix xs ys → k ≤ length xs
    → take k ys ≡ take k xs
take_prefix k xs ys a le = ap (take k) (sym a.1) ∙ take-append-le k xs a.0 le

-- appending rules extends the rules in force
pub rules_prefix : (scene : Scene) (xs ys : List RuleEntry) → IsPrefix xs ys
    → IsPrefix (rules_with scene xs) (rules_with scene ys)
rules_prefix scene xs ys a = (
  map rule_of a.0,
  append_assoc scene.rules (map rule_of xs) (map rule_of a.0)
      ∙ ap (λ (l : List RuleValue). scene.rules ++ l)
      (sym (map-append rule_of xs a.0) ∙ ap (map rule_of) a.1),
)

pub rules_count : (scene : Scene) (xs : List RuleEntry)
    → length (rules_with scene xs) ≡ length scene.rules + length xs
rules_count scene xs =
    length-append scene.rules (map rule_of xs)
    ∙ ap (λ (n : ℕ). length scene.rules + n) (length-map xs rule_of)

decided_more : (scene : Scene) (old new : Seen) (p : Program) (known : ℕ) (a : Answer) (i : ℕ)
    (func : Func) (mask : ℕ) → SeesMore old new
    → IsDecidedIn scene old p known a i func mask → IsDecidedIn scene new p known a i func mask
decided_more scene old new p known a i func mask m d =
    let long : Longer new.journals i d.journal = m.journals i d.journal d.journal_at in
    let rules = rules_prefix scene old.added new.added m.added in
    let more : length (rules_with scene old.added) ≤ length (rules_with scene new.added) =
    prefix_length (rules_with scene old.added) (rules_with scene new.added) rules in
    let grown : length d.journal ≤ length long.longer =
    prefix_length d.journal long.longer long.before in
    let within : a.place ≤ length d.journal = d.within in
    let final : a.rules ≤ length (rules_with scene old.added) = d.final in
    record {
      script_file = d.script_file;
      journal = long.longer;
      at = d.at;
      journal_at = long.there;
      within = omega arith;
      known_rules = d.known_rules;
      final = omega arith;
      action = d.action
          ∙ ap (λ (l : List RuleValue). decided l p.cred d.script_file.place
          (metadata (newest_first (take a.place d.journal))) func mask)
          (sym (take_prefix a.rules (rules_with scene old.added)
          (rules_with scene new.added) rules d.final))
          ∙ ap (λ (l : List Event). decided (take a.rules
          (rules_with scene new.added)) p.cred d.script_file.place (metadata (newest_first l))
          func mask) (sym (take_prefix a.place d.journal long.longer long.before d.within));
    }

suits_more : (scene : Scene) (old new : Seen) (p : Program) (known : ℕ) (o : Option Step)
    (a : Answer) → SeesMore old new
    → SuitsIn scene old p known o a → SuitsIn scene new p known o a
suits_more scene old new p known None a m s = s
suits_more scene old new p known (Some Nothing) a m s = s
suits_more scene old new p known (Some (Does i d)) a m s = s
suits_more scene old new p known (Some (Checks i file func mask)) a m s =
    decided_more scene old new p known a i func mask m s
suits_more scene old new p known (Some (Signals d)) a m s = s
suits_more scene old new p known (Some (Appends rule)) a m s =
    let more : length old.added ≤ length new.added = prefix_length old.added new.added m.added in
    let here : a.place < length old.added = s.1 in
    (s.0, omega arith)

suit_more : (scene : Scene) (old new : Seen) (p : Program) (h : List Answer) → SeesMore old new
    → SuitIn scene old p h → SuitIn scene new p h
suit_more scene old new p [] m s = tt
suit_more scene old new p (a ∷ h) m s = (
  suits_more scene old new p (rules_known scene p h)
      (step_at p (position (mode_of scene) p h).call_state) a m s.0,
  suit_more scene old new p h m s.1,
)

pub law_fits_at_first : FitsAtFirst
law_fits_at_first scene p s = record { suit = tt; known = omega (arith, rules_count scene s.added) }

pub law_fits_with_more : FitsWithMore
law_fits_with_more scene p old new h m f =
    let more : length (rules_with scene old.added) ≤ length (rules_with scene new.added) =
    prefix_length (rules_with scene old.added) (rules_with scene new.added)
    (rules_prefix scene old.added new.added m.added) in
    let known : rules_known scene p h ≤ length (rules_with scene old.added) = f.known in
    record { suit = suit_more scene old new p h m f.suit; known = omega arith }

-- ---- a step

plain_suits : (scene : Scene) (s : Seen) (p : Program) (known : ℕ) (o : Option Step) (a : Answer)
    → IsPlainStep scene s o a → SuitsIn scene s p known o a
plain_suits scene s p known None a h = h
plain_suits scene s p known (Some Nothing) a h = h
plain_suits scene s p known (Some (Does i d)) a h = h
plain_suits scene s p known (Some (Checks i file func mask)) a h = absurd h
plain_suits scene s p known (Some (Signals d)) a h = h
plain_suits scene s p known (Some (Appends rule)) a h = h

suits_known : (scene : Scene) (s : Seen) (p : Program) (known : ℕ) (o : Option Step) (a : Answer)
    → known ≤ length (rules_with scene s.added)
    → SuitsIn scene s p known o a → known_after (length scene.rules) o a known ≤ length
    (rules_with scene s.added)
suits_known scene s p known None a k h = absurd h
suits_known scene s p known (Some Nothing) a k h = k
suits_known scene s p known (Some (Does i d)) a k h = k
suits_known scene s p known (Some (Checks i file func mask)) a k h = h.final
suits_known scene s p known (Some (Signals d)) a k h = k
suits_known scene s p known (Some (Appends rule)) a k h = let here : a.place < length s.added =
    h.1 in omega (arith, rules_count scene s.added)

pub fits_step : (scene : Scene) (p : Program) (s : Seen) (h : List Answer) (a : Answer)
    → ChecksFit scene p s h
    → SuitsIn scene s p (rules_known scene p h)
    (step_at p (position (mode_of scene) p h).call_state) a → ChecksFit scene p s (a ∷ h)
fits_step scene p s h a f x = record {
  suit = (x, f.suit);
  known = suits_known scene s p (rules_known scene p h)
      (step_at p (position (mode_of scene) p h).call_state) a f.known x;
}

pub law_fits_by_step : FitsByStep
law_fits_by_step scene p old new h a m f x =
    fits_step scene p new h a (law_fits_with_more scene p old new h m f)
    (plain_suits scene new p (rules_known scene p h)
    (step_at p (position (mode_of scene) p h).call_state) a x)

check_decided : (scene : Scene) (s : Seen) (p : Program) (known : ℕ) (a : Answer) (i : ℕ)
    (func : Func) (mask : ℕ) → known ≤ length (rules_with scene s.added)
    → IsCheckStep scene s p a i func mask → IsDecidedIn scene s p known a i func mask
check_decided scene s p known a i func mask k x =
    let grown : length x.before ≤ length x.journal.longer =
    prefix_length x.before x.journal.longer x.journal.before in
    let place : a.place ≡ length x.before = x.place in
    let rules : a.rules ≡ length (rules_with scene s.added) = x.rules in
    let whole : take a.rules (rules_with scene s.added) ≡ rules_with scene s.added =
    take_all a.rules (rules_with scene s.added) (omega arith) in
    let start : take a.place x.journal.longer ≡ x.before =
    take_prefix a.place x.before x.journal.longer x.journal.before (omega arith)
    ∙ take_all a.place x.before (omega arith) in
    record {
      script_file = x.script_file;
      journal = x.journal.longer;
      at = x.at;
      journal_at = x.journal.there;
      within = omega arith;
      known_rules = omega arith;
      final = omega arith;
      action = x.action
          ∙ ap (λ (l : List RuleValue). decided l p.cred x.script_file.place
          (metadata (newest_first x.before)) func mask) (sym whole)
          ∙ ap (λ (l : List Event). decided (take a.rules
          (rules_with scene s.added)) p.cred x.script_file.place (metadata (newest_first l))
          func mask) (sym start);
    }

pub law_fits_by_check : FitsByCheck
law_fits_by_check scene p old new h a i file func mask m f at x =
    let g : ChecksFit scene p new h = law_fits_with_more scene p old new h m f in
    fits_step scene p new h a g
    (subst (λ (o : Option Step). SuitsIn scene new p (rules_known scene p h) o a) (sym at)
    (check_decided scene new p (rules_known scene p h) a i func mask g.known x))

-- ---- the end

suits_run : (scene : Scene) (run : Run) (p : Program) (known : ℕ) (o : Option Step) (a : Answer)
    → SuitsIn scene (seen_of run) p known o a → Suits scene run p known o a
suits_run scene run p known None a s = s
suits_run scene run p known (Some Nothing) a s = s
suits_run scene run p known (Some (Does i d)) a s = s
suits_run scene run p known (Some (Checks i file func mask)) a s =
    record {
      script_file = s.script_file;
      journal = s.journal;
      at = s.at;
      journal_at = s.journal_at;
      known_rules = s.known_rules;
      final = s.final;
      action = s.action;
    }
suits_run scene run p known (Some (Signals d)) a s = s
suits_run scene run p known (Some (Appends rule)) a s = s.0

suit_run : (scene : Scene) (run : Run) (p : Program) (h : List Answer)
    → SuitIn scene (seen_of run) p h → AreSuited scene run p h
suit_run scene run p [] s = tt
suit_run scene run p (a ∷ h) s = (
  suits_run scene run p (rules_known scene p h)
      (step_at p (position (mode_of scene) p h).call_state) a s.0,
  suit_run scene run p h s.1,
)

pub law_fits_are_suited : FitsAreSuited
law_fits_are_suited scene p s run h m f =
    suit_run scene run p h (suit_more scene s (seen_of run) p h m f.suit)

use Rattle.std.proofs.Common.{◌≡◌, ℕ, false, List, Option, Ok, Err, refl, sym}
use Rattle.std.proofs.lemmas.Result.{err_from_is_err_and}
use Rattle.policy_text.specs.rules.RuleValue.{RuleValue}
use Rattle.script_words.specs.declared.fault.LineCause.{LineCause}
use Rattle.script_words.specs.declared.fault.LineCause.TheVariants as cause
use Rattle.script_words.specs.declared.fault.LineErr.{LineErr}
use Rattle.script_words.specs.declared.fault.LineErr.TheVariants as err
use Rattle.script_words.specs.Forms.{rule_of}
use Rattle.script_words.specs.Gives.{LineFails}
use Rattle.script_text.specs.Draft.{Draft}
use Rattle.script_text.specs.Tasks.{has_room, with_rule}
use Rattle.script_text.proofs.Memory.{out_of_memory}
use Rattle.script_text.proofs.draft.Draft.with_rule.Goals as goal

module _ (text : Option (List ℕ)) (d : Draft) where
  -- a text that isn't a rule is refused
  rule_refused : (e : LineErr LineCause) → LineFails e (rule_of text)
      → LineFails e (with_rule text d)
  unfolding with_rule
  rule_refused (err.Refused c) h = rw h refl
  rule_refused err.OutOfMemory h = tt

  -- no rule is added to the most
  rule_too_many : (r : RuleValue) → rule_of text ≡ Ok r → has_room d ≡ false
      → with_rule text d ≡ Err cause.TooMany
  unfolding with_rule
  rule_too_many r is full = rw (is, full) refl

pub returns-in_err-rule : goal.returns-in_err-rule
returns-in_err-rule c =
    let p = err_from_is_err_and c.from_residual.result c.from_residual.ensures.1 in
    rw (p.1, p.2) (rule_refused _ c.args.self.now c.in_err-rule.field-0.0 c.in_err-rule.ensures)

pub returns-then-not-has_room : goal.returns-then-not-has_room
returns-then-not-has_room c =
    rule_too_many _ c.args.self.now c.in_ok-rule.rule c.in_ok-rule.ensures
    (sym c.if-not-has_room.ensures)

pub returns-in_err-push : goal.returns-in_err-push
returns-in_err-push c =
    out_of_memory c.from_residual-in_err-push.result _ _ c.from_residual-in_err-push.ensures.1

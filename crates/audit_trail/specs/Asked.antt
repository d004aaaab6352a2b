-- The line of the policy that asks for a record of a check: in each family of actions the first
-- line that matches the access decides, among the rules that the check names.
use Rattle.std.specs.Prelude.{ℕ, Bool, false, List, Option, Some, None, slice_get, if◌then◌else◌}
use Rattle.world_model.specs.model.Scene.{Program}
use Rattle.world_model.specs.model.events.meta.declared.identity.Cred.{Cred}
use Rattle.world_model.specs.model.events.meta.declared.identity.Meta.{Meta}
use Rattle.world_model.specs.model.events.meta.declared.step.Who.{Who}
use Rattle.world_model.specs.model.matching.Decision.{access_of, is_done, place_of_first}
use Rattle.world_model.specs.model.matching.declared.family.Family.{Family}
use Rattle.world_model.specs.model.policy.Accesses.{mask_of_purpose}
use Rattle.world_model.specs.model.policy.RuleValue.{RuleValue}
use Rattle.world_model.specs.model.policy.declared.access.Access.{Access}
use Rattle.world_model.specs.model.policy.declared.access.Super.{Super}
use Rattle.world_model.specs.model.policy.declared.rule.Func.{Func}
use Rattle.world_model.specs.model.steps.Steps.{course_of, purpose_of}
use Rattle.world_model.specs.model.steps.declared.call.Call.{Call}

-- ---- who asks

-- the access mask of a call that makes a check
abbrev pub mask_of : Call → ℕ
mask_of c = mask_of_purpose (purpose_of (course_of c))

abbrev pub asker_by : Program → Option Call → Option (Cred × ℕ)
asker_by p None = None
asker_by p (Some c) = Some (p.cred, mask_of c)

abbrev pub asker_in : Option Program → ℕ → Option (Cred × ℕ)
asker_in None call = None
asker_in (Some p) call = asker_by p (slice_get p.calls call)

-- the credentials of the step's task, and the access mask of the step's call
abbrev pub asker_of : List Program → Who → Option (Cred × ℕ)
asker_of programs who = asker_in (slice_get programs who.task) who.call

-- ---- the line

-- the rule asks for something: its action isn't one of the `dont_` actions
abbrev pub asks : Option RuleValue → Bool
asks None = false
asks (Some r) = is_done r.act

-- the line, if the rule there asks for something
abbrev pub if_asking : List RuleValue → Option ℕ → Option ℕ
if_asking rules None = None
if_asking rules (Some line) = if asks (slice_get rules line) then Some line else None

-- the first line of the family that matches the access, if it asks for something
abbrev pub asking_line : Family → List RuleValue → Access → Option ℕ
asking_line f rules a = if_asking rules (place_of_first f rules a)

-- the same line for the access that a check makes, to an inode with this metadata on this file
-- system
abbrev pub line_for : Family → List RuleValue → Super → Meta → Func → Option (Cred × ℕ) → Option ℕ
line_for f rules system meta func None = None
line_for f rules system meta func (Some asker) =
    asking_line f rules (access_of asker.0 system meta func asker.1)

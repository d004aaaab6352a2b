-- Accesses to a file whose owner and group have different numbers.
use Rattle.std.specs.Prelude.{◌≡◌, ℕ, true, false, [], ◌∷◌, Some}
use Rattle.inode_events.specs.meta.declared.identity.Cred.{Cred}
use Rattle.inode_events.specs.meta.declared.identity.Meta.{Meta}
use Rattle.inode_events.specs.policy.RuleValue.{RuleValue}
use Rattle.inode_events.specs.policy.declared.access.Access.{Access}
use Rattle.inode_events.specs.policy.declared.rule.Func.TheVariants.{FileCheck}
use Rattle.inode_events.specs.policy.declared.rule.IdTest.TheVariants.{Is}
use Rattle.run_laws.specs.model.Scene.{decided, no_super}
use Rattle.run_laws.specs.model.matching.Decision.{access_of}
use Rattle.worked_examples.specs.Served.{measure_at}
use Rattle.worked_examples.specs.Shared.{meta}

-- a task whose four numbers differ
abbrev pub cred : Cred
cred = record { uid = 1; euid = 2; gid = 3; egid = 4; admin = false }

-- a file of the user 5 and the group 6
abbrev pub owned : Meta
owned = record meta { uid = 5; gid = 6 }

-- the access of the task to the file, for reading
abbrev pub access : Access
access = access_of cred no_super owned FileCheck 4

-- `measure func=FILE_CHECK`, with a condition on the owner or the group
abbrev pub by_owner : ℕ → RuleValue
by_owner n = record (measure_at FileCheck) { fowner = Some (Is n) }

abbrev pub by_group : ℕ → RuleValue
by_group n = record (measure_at FileCheck) { fgroup = Some (Is n) }

-- whose number is whose, and which rule matches
pub record AccessExamples : Type 0 where
  -- what the access has of the file, the call and the task
  pub owner : access.owner ≡ 5
  pub group : access.group ≡ 6
  pub mask : access.mask ≡ 4
  pub task : access.cred.now ≡ cred
  -- a rule with the owner's number, and one with the group's
  pub owner_matches : (decided (by_owner 5 ∷ []) cred no_super owned FileCheck 4).measure ≡ true
  pub group_matches : (decided (by_group 6 ∷ []) cred no_super owned FileCheck 4).measure ≡ true
  -- each with the other's number
  pub not_the_group : (decided (by_owner 6 ∷ []) cred no_super owned FileCheck 4).measure ≡ false
  pub not_the_owner : (decided (by_group 5 ∷ []) cred no_super owned FileCheck 4).measure ≡ false

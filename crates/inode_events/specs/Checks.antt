-- The checks of a file: the hook of each, and the action that the rules gave it.
use Rattle.std.specs.Prelude.{ℕ, ◌==◌, Bool, true, false, ◌&&◌, ◌||◌, not, List, [], ◌∷◌, if◌then◌else◌}
use Rattle.inode_meta.specs.declared.appraisal.Mode.{Mode}
use Rattle.inode_meta.specs.declared.appraisal.Mode.TheVariants as mode
pub use Rattle.policy_rules.specs.Accesses.{slot_of}
pub use Rattle.policy_rules.specs.ActionValue.{no_action}
use Rattle.policy_rules.specs.declared.access.Action.{Action}
use Rattle.policy_rules.specs.declared.rule.Func.{Func}
use Rattle.policy_rules.specs.declared.rule.Func.TheVariants as func
use Rattle.inode_events.specs.Inode.{Inode}
use Rattle.inode_events.specs.declared.deed.Deed.{Deed}
use Rattle.inode_events.specs.declared.deed.Deed.TheVariants as deed
use Rattle.inode_events.specs.declared.told.Event.{Event}

pub record Check : Type 0 where
  pub func : Func
  pub action : Action

abbrev pub check_after : ℕ → Deed → Check → Check
check_after file (deed.Check other func action rules) old =
    if other == file then record { func = func; action = action } else old
check_after file _ old = old

-- the file's last check, or one without an action if there is none
abbrev pub last_check : ℕ → List Event → Check
last_check file [] = record { func = func.FileCheck; action = no_action }
last_check file (e ∷ before) = check_after file e.deed (last_check file before)

abbrev pub is_off : Mode → Bool
is_off mode.Off = true
is_off _ = false

abbrev pub is_fix : Mode → Bool
is_fix mode.Fix = true
is_fix _ = false

-- the action appraises the file, and appraisal isn't off
abbrev pub appraises : Inode → Action → Bool
appraises inode action = action.appraise && not (is_off inode.settings.mode)

-- the check requires a take: the file is measured or appraised
abbrev pub asks : Inode → Action → Bool
asks inode action = action.measure || appraises inode action

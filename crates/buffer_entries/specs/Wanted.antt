-- Whether a caller's buffers are measured, and into which register. The first line of the policy
-- that decides on them is the first of the family `measure` whose function is CRITICAL_DATA, which
-- has no condition that only a file can meet, and whose conditions on user and group IDs hold of
-- the caller (the kernel's `ima_measure_critical_data`).
use Rattle.std.specs.Prelude.{ℕ, Bool, true, false, not, ◌&&◌, ◌||◌, List, Option, Some, None, is_some, unwrap_or, find, if◌then◌else◌}
use Rattle.std.specs.Option.{option_and_then}
use Rattle.inode_meta.specs.Registers.{default_pcr}
use Rattle.inode_meta.specs.declared.identity.Cred.{Cred}
use Rattle.policy_text.specs.rules.RuleValue.{RuleValue, if_there, is_measure}
use Rattle.policy_text.specs.rules.Tests.{id_holds}
use Rattle.policy_text.specs.rules.declared.rule.Act.{Act}
use Rattle.policy_text.specs.rules.declared.rule.Act.TheVariants as act
use Rattle.policy_text.specs.rules.declared.rule.Func.{Func}
use Rattle.policy_text.specs.rules.declared.rule.Func.TheVariants as func

-- an action of the family `measure`
abbrev pub is_measuring : Act → Bool
is_measuring act.Measure = true
is_measuring act.DontMeasure = true
is_measuring _ = false

-- a line without a function isn't for critical data
abbrev pub is_critical : Option Func → Bool
is_critical (Some func.CriticalData) = true
is_critical _ = false

-- a condition on an access, a file system or an inode, which no buffer has
abbrev pub asks_of_a_file : RuleValue → Bool
asks_of_a_file r =
    is_some r.mask || is_some r.fsmagic || is_some r.fsuuid || is_some r.fsname
    || is_some r.fowner || is_some r.fgroup

abbrev pub ids_hold : Cred → RuleValue → Bool
ids_hold c r =
    if_there (λ t. id_holds t c.uid) r.uid && if_there (λ t. id_holds t c.euid) r.euid
    && if_there (λ t. id_holds t c.gid) r.gid && if_there (λ t. id_holds t c.egid) r.egid

-- whether the line decides on the caller's buffers, unless an earlier line does
abbrev pub decides : Cred → RuleValue → Bool
decides c r =
    is_measuring r.act && is_critical r.func && not (asks_of_a_file r) && ids_hold c r

-- the register that the line names, or else the default; none if it is `dont_measure`
abbrev pub register_of : RuleValue → Option ℕ
register_of r = if is_measure r.act then Some (unwrap_or r.pcr default_pcr) else None

-- the register that the caller's buffers extend; none if they aren't measured
abbrev pub wanted : List RuleValue → Cred → Option ℕ
wanted rules c = option_and_then register_of (find (decides c) rules)

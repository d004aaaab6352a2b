-- The value of a script that contracts see.
use Rattle.std.specs.Prelude.{ℕ, Bool, List, Option}
use Rattle.call_steps.specs.declared.ending.Ending.{Ending}
use Rattle.hash_algos.specs.DigestValue.{DigestValue}
use Rattle.hash_algos.specs.declared.algo.Algo.{Algo}
use Rattle.inode_meta.specs.declared.appraisal.Mode.{Mode}
use Rattle.inode_meta.specs.declared.measurement.Template.{Template}
use Rattle.policy_text.specs.rules.RuleValue.{RuleValue}
use Rattle.policy_text.specs.rules.declared.access.Super.{Super}
use Rattle.script_text.specs.declared.blocks.FileBlock.{FileBlock}
use Rattle.script_text.specs.declared.blocks.TaskBlock.{TaskBlock}

pub record ScriptValue : Type 0 where
  pub hash : Algo
  pub template : Template
  pub boot : DigestValue
  pub mode : Mode
  pub key : Option (List ℕ)
  pub added : List (List ℕ)
  pub locked : Bool
  pub format : ℕ
  pub supers : List Super
  pub files : List FileBlock
  pub rules : List RuleValue
  pub tasks : List TaskBlock
  pub ending : Ending

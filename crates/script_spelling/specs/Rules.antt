-- Tasks whose rules are read as the same rules.
use Rattle.std.specs.List.{AllByRecursion}
use Rattle.script_text.specs.declared.blocks.TaskBlock.{TaskBlock}
pub use Rattle.call_lines.specs.Rules.{HasReadRule, IsReadRule}

abbrev pub AreReadRules : TaskBlock → Type 0
AreReadRules t = AllByRecursion HasReadRule t.calls

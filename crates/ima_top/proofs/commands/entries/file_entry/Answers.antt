use Rattle.std.proofs.Common.{rules}
use Rattle.ima_top.proofs.Paths.{measured_path}
use Rattle.ima_top.proofs.commands.entries.file_entry.Goals as goal

pub build-requires-clause-path : goal.build-requires-clause-path
build-requires-clause-path c = measured_path c.as_slice.result.now (search rules)

use Rattle.std.proofs.Common.{◌≡◌, drop}
use Rattle.view_overview.specs.Overview.{highest_from}
use Rattle.view_overview.proofs.buckets.highest.Given as goal

abbrev pub invariant-loop-note : goal.invariant-loop-note
invariant-loop-note l = highest_from l.rank (drop l.note-index l.notes) ≡ highest_from 0 l.notes

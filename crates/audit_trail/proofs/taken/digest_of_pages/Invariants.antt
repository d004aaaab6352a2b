-- the pages so far were fed
use Rattle.std.proofs.Common.{◌≡◌, take}
use Rattle.std.specs.List.{concat}
use Rattle.world_model.specs.model.events.hashes.Running.{HasTaken, running_algo}
use Rattle.audit_trail.proofs.taken.digest_of_pages.Given as goal

abbrev pub invariant-loop-page : goal.invariant-loop-page
invariant-loop-page l = record {
  algo : running_algo l.running ≡ l.fn.algo;
  taken : HasTaken l.running (concat (take l.page-index l.pages));
}

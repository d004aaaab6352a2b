-- The pages passed so far were fed.
use Rattle.std.proofs.Common.{◌≡◌, take}
use Rattle.std.specs.List.{concat}
use Rattle.hash_algos.specs.Running.{HasTaken, running_algo}
use Rattle.inode_hashing.proofs.content.digest_of_content.Given as goal

abbrev pub invariant-loop-page : goal.invariant-loop-page
invariant-loop-page l = record {
  algo : running_algo l.running ≡ l.fn.a;
  taken : HasTaken l.running (concat (take l.page-index l.pages));
}

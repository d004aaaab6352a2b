-- A text of buffers as contracts see it.
use Rattle.std.specs.Prelude.{ℕ, List, [], ◌∷◌, ◌++◌}
use Rattle.script_text.specs.steps.hashes.declared.algo.Algo.{Algo}
use Rattle.script_text.specs.events.meta.declared.identity.Cred.{Cred}
use Rattle.script_text.specs.steps.policy.RuleValue.{RuleValue}

-- a buffer of critical data: its name and its bytes
abbrev pub Buffer : Type 0
Buffer = List ℕ × List ℕ

-- a caller, with the buffers that it measures, in order
pub record CallerValue : Type 0 where
  pub cred : Cred
  pub lines : List Buffer

pub record BufferValue : Type 0 where
  -- the algorithm of the buffers' digests
  pub hash : Algo
  pub rules : List RuleValue
  pub callers : List CallerValue
  -- the most threads that the callers run on
  pub threads : ℕ

-- the caller with one more buffer
abbrev pub caller_with : Buffer → CallerValue → CallerValue
caller_with line c = record c { lines = c.lines ++ line ∷ [] }

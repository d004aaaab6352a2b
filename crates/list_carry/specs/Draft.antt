-- A carry text while its lines are read.
use Rattle.std.specs.Prelude.{ℕ, [], None}
use Rattle.script_text.specs.ListGrammar.{ListDraft}
use Rattle.script_text.specs.steps.hashes.Digest.{zero_digest}
use Rattle.script_text.specs.steps.hashes.declared.algo.Algo.TheVariants.{Sha256}
use Rattle.list_carry.specs.Text.{CarryValue}

pub record Draft : Type 0 where
  pub text : CarryValue
  -- the rank of the last line
  pub at : ℕ
  -- the total length of all values
  pub sum : ℕ

-- a text without a carried list and files
abbrev pub nothing : CarryValue
nothing = record { carried = None; boot = (zero_digest Sha256).bytes; files = [] }

abbrev pub start : Draft
start = record { text = nothing; at = 0; sum = 0 }

-- the files and the sum of the draft, as a list text has them
abbrev pub as_list : Draft → ListDraft
as_list d = record { files = d.text.files; at = 1; sum = d.sum }

-- the draft with the files and the sum of a list text
abbrev pub with_list : Draft → ListDraft → Draft
with_list d l = record d { text = record d.text { files = l.files }; sum = l.sum }

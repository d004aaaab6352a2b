-- A script while its lines are read.
use Rattle.std.specs.Prelude.{ℕ, ◌-◌, Bool, false, List, [], ◌++◌, ◌∷◌, Option, Some, None, length, take, slice_get}
use Rattle.call_steps.specs.declared.ending.Ending.TheVariants.{Rounds}
use Rattle.hash_algos.specs.Digest.{zero_digest}
use Rattle.hash_algos.specs.declared.algo.Algo.TheVariants.{Sha256}
use Rattle.inode_meta.specs.declared.appraisal.Mode.TheVariants.{Off}
use Rattle.inode_meta.specs.declared.measurement.Template.TheVariants.{ImaNg}
use Rattle.script_text.specs.ScriptValue.{ScriptValue}

pub record Draft : Type 0 where
  pub script : ScriptValue
  -- the rank of the last line
  pub at : ℕ
  -- whether the last file is present and has no `seal` line yet
  pub unsealed : Bool
  -- how many of the last file's attribute lines count towards the limit
  pub counted : ℕ
  -- the number of calls of all tasks, and of the rules that they append
  pub calls : ℕ
  pub appended : ℕ
  -- the total length of the values that count towards the limit
  pub sum : ℕ
  -- the paths of the files, in order
  pub paths : List (List ℕ)

-- a script without any setting
abbrev pub plain_script : ScriptValue
plain_script = record {
  hash = Sha256;
  template = ImaNg;
  boot = zero_digest Sha256;
  mode = Off;
  key = None;
  added = [];
  locked = false;
  format = 1;
  supers = [];
  files = [];
  rules = [];
  tasks = [];
  ending = Rounds;
}

abbrev pub start : Draft
start = record {
  script = plain_script;
  at = 0;
  unsealed = false;
  counted = 0;
  calls = 0;
  appended =
      0;
  sum = 0;
  paths = [];
}

-- the last element of a list, if there is one
abbrev pub last_of : {A : Type 0} → List A → Option A
last_of xs = slice_get xs (length xs - 1)

abbrev pub changed : {A : Type 0} → (A → A) → List A → Option A → List A
changed f xs None = xs
changed f xs (Some x) = take (length xs - 1) xs ++ f x ∷ []

-- the list with its last element changed
unfoldable pub change_last : {A : Type 0} → (A → A) → List A → List A
change_last f xs = changed f xs (last_of xs)

-- The value of a carry text that contracts see, by its fields, and its invariant.
use Rattle.std.specs.Prelude.{◌≡◌}
use Rattle.script_text.specs.steps.hashes.declared.algo.Algo.TheVariants.{Sha256}
use Rattle.list_carry.specs.Text.{CarryValue, HavePaths}
use Rattle.list_carry.specs.declared.text.CarryText.TheInside.{Inside}

abbrev pub text_value : Inside → CarryValue
text_value t = record { carried = t.carried; boot = t.boot.bytes; files = t.files.items }

pub record IsCarryText (t : Inside) : Type 0 where
  pub boot : t.boot.algo ≡ Sha256
  pub paths : HavePaths t.files.items

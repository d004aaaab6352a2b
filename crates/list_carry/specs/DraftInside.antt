-- The value of a draft that contracts see, by its fields, and its invariant.
use Rattle.std.specs.Prelude.{◌≡◌}
use Rattle.script_text.specs.steps.hashes.declared.algo.Algo.TheVariants.{Sha256}
use Rattle.list_carry.specs.Draft.{Draft}
use Rattle.list_carry.specs.Text.{HavePaths}
use Rattle.list_carry.specs.declared.draft.Draft.TheInside.{Inside}

abbrev pub draft_value : Inside → Draft
draft_value d = record {
  text = record { carried = d.carried; boot = d.boot.bytes; files = d.files.items };
  at = d.at;
  sum = d.sum;
}

pub record IsDraft (d : Inside) : Type 0 where
  pub boot : d.boot.algo ≡ Sha256
  pub paths : HavePaths d.files.items

-- The fields passed so far were written.
use Rattle.std.proofs.Common.{take}
use Rattle.std.specs.List.{flat_map}
use Rattle.ima_templates.specs.Data.{field_data}
use Rattle.ima_templates.proofs.data.absorb_data.Given as goal

abbrev pub invariant-loop-field : goal.invariant-loop-field
invariant-loop-field g l = record {
  absorbed : g.S.Absorb.absorbs l.initial.to l.to
      (flat_map (λ f. field_data f l.digest l.name l.sig) (take l.field-index l.field-items));
  kept : g.S.Absorb.keeps l.initial.to l.to;
}

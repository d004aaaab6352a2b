-- The fields passed so far were appended.
use Rattle.std.proofs.Common.{◌≡◌, ◌∷◌, ◌++◌, take}
use Rattle.std.specs.List.{flat_map}
use Rattle.std.specs.Vec.{vec_len}
use Rattle.list_format.specs.Line.{field_text}
use Rattle.list_format.proofs.line.append_fields.Given as goal

abbrev pub invariant-loop-field : goal.invariant-loop-field
invariant-loop-field l = record {
  appended : l.out.items
      ≡ l.initial.out.items
      ++ flat_map (λ f. 32 ∷ field_text f l.e) (take l.field-index l.field-items);
  kept : take (vec_len l.initial.out) l.out.items ≡ l.initial.out.items;
}

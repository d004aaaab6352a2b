use Rattle.std.proofs.Common.{◌≡◌, ◌==◌, length, drop}
use Rattle.std.specs.List.{list_all, slice_split}
use Rattle.text_forms.specs.Words.{is_word}
use Rattle.text_forms.proofs.path.has_components.Given as goal

abbrev pub invariant-loop-part : goal.invariant-loop-part
invariant-loop-part l =
    list_all (is_word 255) (drop (length l.yielded) (slice_split (λ c. c == 47) l.parts))
    ≡ list_all (is_word 255) (slice_split (λ c. c == 47) l.parts)

use Rattle.std.proofs.Common.{◌≡◌, length}
use Rattle.std.specs.List.{list_all}
use Rattle.text_forms.specs.Numbers.{is_short_numeral}
use Rattle.text_forms.specs.Words.{words}
use Rattle.script_fields.proofs.endings.all_numerals.Given as goal

abbrev pub invariant-loop-word : goal.invariant-loop-word
invariant-loop-word l = list_all (is_short_numeral 10) (words l.rest)
    ≡ list_all (is_short_numeral 10) (words l.numbers)

abbrev pub decreases-loop-word : goal.decreases-loop-word
decreases-loop-word l = length l.rest

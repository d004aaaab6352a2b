use Rattle.std.proofs.Common.{◌≡◌, ℕ, true, List, Some, Ok, ok_or, map, Bor, refl, sym, ◌∙◌, subst, rules}
use Rattle.script_text.specs.events.forms.Words.{is_word}
use Rattle.script_text.specs.fields.FileFields.{two}
use Rattle.script_text.specs.script_lines.Gives.{LineMakes}
use Rattle.script_text.specs.script_lines.Value.{value_of}
use Rattle.script_text.specs.script_lines.declared.fault.LineCause.TheVariants as cause
use Rattle.script_text.specs.Limits.{most_value}
use Rattle.buffer_text.specs.Draft.{Draft}
use Rattle.buffer_text.specs.Grammar.{Made, with_critical, with_line}
use Rattle.buffer_text.proofs.draft.Draft.with_critical.Goals as goal

-- the words of a line give the buffer that is added
critical_lined : (words : List (List ℕ)) (d : Draft) (name value bytes : List ℕ)
    → two words ≡ Some (name, value) → is_word 255 name ≡ true
    → ok_or (value_of 0 most_value value) cause.BadField ≡ Ok bytes
    → with_critical words d ≡ with_line (name, bytes) d
unfolding with_critical
critical_lined words d name value bytes pair word given = rw (pair, word, given) refl

pub returns : goal.returns
returns c =
    let pair : two (map (λ (w : Bor (List ℕ)). w.now) c.args.fields.now)
    ≡ Some (c.in_ok-name.name.now, c.in_ok-name.value.now) = search rules in
    subst (λ (m : Made). LineMakes c.with_line.result m c.with_line.new.self)
    (sym (critical_lined _ c.args.self.now _ _ _ pair
    (sym c.is_word.ensures ∙ c.if-not-is_word.false) c.in_ok-bytes.ensures.value))
    (rw c.in_ok-line.ensures at c.with_line.ensures)

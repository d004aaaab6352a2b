use Rattle.std.proofs.Common.{◌≡◌, ℕ, List, length, map, None, Bor, refl, sym, ◌∙◌}
use Rattle.std.proofs.lemmas.Bool.{ne_eqb}
use Rattle.std.proofs.lemmas.List.{length-map}
use Rattle.script_text.specs.fields.TaskFields.{cred_in}
use Rattle.buffer_text.specs.Grammar.{caller_of}
use Rattle.buffer_text.proofs.lines.caller_of.Goals as goal

-- four words are read as a task's
four_read : (words : List (List ℕ)) → length words ≡ 4 → caller_of words ≡ cred_in words
four_read words e = rw e refl

-- no other number of words is
others_refused : (words : List (List ℕ)) → (length words ≡ 4 → ⊥) → caller_of words ≡ None
others_refused words n = rw (ne_eqb (length words) 4 n) refl

pub returns-then-fields-eq4 : goal.returns-then-fields-eq4
returns-then-fields-eq4 c =
    c.cred_in.ensures
    ∙ sym (four_read _ (length-map c.args.fields.now _ ∙ c.if-fields-eq4.true))

pub returns-else-fields-eq4 : goal.returns-else-fields-eq4
returns-else-fields-eq4 c =
    let words : List (List ℕ) = map (λ (w : Bor (List ℕ)). w.now) c.args.fields.now in
    let count : length words ≡ length c.args.fields.now = length-map c.args.fields.now _ in
    sym (others_refused words
    (λ (e : length words ≡ 4). c.if-fields-eq4.false (sym count ∙ e)))

-- The call of a line is that of its row.
use Rattle.std.proofs.Common.{◌≡◌, ℕ, Bool, true, false, List, Option, None, Result, Ok, refl, sym, ap, subst}
use Rattle.std.proofs.lemmas.Bool.{false≢true}
use Rattle.call_steps.specs.declared.call.Call.{Call}
use Rattle.text_forms.specs.Lines.{◌>>=◌}
use Rattle.script_words.specs.Gives.{LineGives}
use Rattle.script_words.specs.declared.fault.LineCause.{LineCause}
use Rattle.script_words.specs.declared.fault.LineErr.{LineErr}
use Rattle.call_lines.specs.Arguments.{Arguments, Rule, Said, Words, said_of}
use Rattle.call_lines.specs.Calls.{Called, added_rule, call_of, line_call, made}
use Rattle.call_lines.specs.Table.{row}
use Rattle.call_lines.specs.declared.table.CallWord.{CallWord}
use Rattle.call_lines.specs.declared.table.CallWord.TheVariants as word

-- whether the arguments are words, not a rule
abbrev pub has_words : Arguments → Bool
has_words Rule = false
has_words (Words fs) = true

-- the text matters only to a rule
text_unused : (paths : List (List ℕ)) (a : Arguments) (text : Option (List ℕ))
    (words : List (List ℕ)) → has_words a ≡ true
    → said_of paths a None words ≡ said_of paths a text words
text_unused paths Rule text words h = absurd (false≢true h)
text_unused paths (Words fs) text words h = refl

-- the call of a row of words doesn't depend on the text of the line
same_call : (w : CallWord) (text : Option (List ℕ)) (words paths : List (List ℕ))
    → has_words (row w).arguments ≡ true → line_call w paths words ≡ call_of w text words paths
unfolding call_of
same_call w text words paths h =
    ap (λ (r : Result (Said (row w).arguments) LineCause). r >>= λ s. Ok (made w s))
    (text_unused paths (row w).arguments text words h)

-- the result of a row's words is that of the line
pub at_words : (r : Result Call (LineErr LineCause)) (w v : CallWord) (text : Option (List ℕ))
    (words paths : List (List ℕ)) → w ≡ v → has_words (row v).arguments ≡ true
    → LineGives r (line_call v paths words) → LineGives r (call_of w text words paths)
at_words r w v text words paths is h gives =
    subst (λ (u : CallWord). LineGives r (call_of u text words paths)) (sym is)
    (subst (λ (s : Called). LineGives r s) (same_call v text words paths h) gives)

-- the result of the text of a rule is that of the line
pub at_rule : (r : Result Call (LineErr LineCause)) (w : CallWord) (text : Option (List ℕ))
    (words paths : List (List ℕ)) → w ≡ word.AddRule → LineGives r (added_rule text)
    → LineGives r (call_of w text words paths)
unfolding call_of
at_rule r w text words paths is gives =
    let P : CallWord → Type 0 = λ u. LineGives r (call_of u text words paths) in
    subst P (sym is) gives

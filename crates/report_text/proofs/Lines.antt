-- The words of an entry make its line in `ascii_runtime_measurements`, and the words of an appended
-- rule make its text.
use Rattle.std.proofs.Common.{◌≡◌, ℕ, true, ◌==◌, nat_lt, List, [], ◌∷◌, ◌++◌, codes, map, refl, sym, ap, ◌∙◌, append_assoc, inl, inr}
use Rattle.report_events.specs.Numerals.{numeral}
use Rattle.std.specs.List.{flat_map, join_with_byte, onto_first}
use Rattle.std.proofs.lemmas.Bool.{cases_Bool, false≢true}
use Rattle.std.proofs.lemmas.List.{append-nil}
use Rattle.std.proofs.lemmas.List.Splits.{join_with_byte-slice_split}
use Rattle.hex.specs.Hex.{encode_lower}
use Rattle.ima_templates.specs.Digests.{template_digest}
use Rattle.ima_templates.specs.declared.entry.Entry.{Entry}
use Rattle.inode_meta.specs.Fields.{template_fields}
use Rattle.inode_meta.specs.declared.measurement.Field.{Field}
use Rattle.inode_meta.specs.Words.{template_word}
use Rattle.inode_meta.specs.declared.measurement.Bank.TheVariants.{Sha1}
use Rattle.list_format.specs.Line.{ascii_line, field_text, fields_text, pcr_text}
use Rattle.policy_text.specs.Spelling.{rule_text}
use Rattle.text_forms.specs.Tokens.{is_filled}
use Rattle.text_forms.specs.Words.{words}
use Rattle.policy_cell.specs.declared.cell.RuleEntry.{RuleEntry}
use Rattle.report_events.specs.Words.{Line, who_word}
use Rattle.report_text.specs.Report.{entry_words, pcr_words, rule_line}

pcr_join : (pcr : ℕ) (h : List ℕ) (ws : Line) → join_with_byte 32 (pcr_words pcr ++ h ∷ ws)
    ≡ pcr_text pcr ++ 32 ∷ join_with_byte 32 (h ∷ ws)
pcr_join pcr h ws = elim (cases_Bool (nat_lt pcr 10)) [
  | inl e ↦ rw e refl
  | inr e ↦ rw e refl
]

-- a word, and others that each follow a space
join_after : {F : Type 0} (spell : F → List ℕ) (w : List ℕ) (fs : List F)
    → join_with_byte 32 (w ∷ map spell fs) ≡ w ++ flat_map (λ f. codes " " ++ spell f) fs
join_after spell w [] = sym (append-nil w)
join_after spell w (f ∷ fs) = ap (λ l. w ++ 32 ∷ l) (join_after spell (spell f) fs)

regroup : (p h w f : List ℕ) → (p ++ 32 ∷ (h ++ 32 ∷ (w ++ f))) ++ 10 ∷ []
    ≡ ((p ++ codes " " ++ h ++ codes " " ++ w) ++ f) ++ codes "\n"
regroup p h w f = simp append_assoc

pub entry_line : (e : Entry) → join_with_byte 32 (entry_words e) ++ 10 ∷ [] ≡ ascii_line e
unfolding ascii_line
entry_line e =
    let spell : Field → List ℕ = λ f. field_text f e in
    let sum = encode_lower (template_digest e Sha1).bytes in
    ap (λ l. l ++ 10 ∷ [])
    (pcr_join e.pcr sum (template_word e.template ∷ map spell (template_fields e.template))
    ∙ ap (λ l. pcr_text e.pcr ++ 32 ∷ (sum ++ 32 ∷ l))
    (join_after spell (template_word e.template) (template_fields e.template)))
    ∙ regroup (pcr_text e.pcr) sum (template_word e.template) (fields_text e)

join_more : (w : List ℕ) (ws : Line) → is_filled ws ≡ true → join_with_byte 32 (w ∷ ws) ≡ w ++ 32
    ∷ join_with_byte 32 ws
join_more w [] h = absurd (false≢true h)
join_more w (v ∷ ws) h = refl

onto_filled : (b : ℕ) (ws : Line) → is_filled (onto_first b ws) ≡ true
onto_filled b [] = refl
onto_filled b (w ∷ ws) = refl

has_word : (t : List ℕ) → is_filled (words t) ≡ true
has_word [] = refl
has_word (c ∷ cs) = elim (cases_Bool (c == 32)) [
  | inl e ↦ rw e refl
  | inr e ↦ rw e (onto_filled c (words cs))
]

-- the line of an appended rule has the form `rule PLACE TASK.CALL.STEP TEXT`
pub rule_words : (place : ℕ) (r : RuleEntry) → join_with_byte 32 (rule_line place r)
    ≡ codes "rule" ++ 32 ∷ (numeral place ++ 32 ∷ (who_word r.who ++ 32 ∷ rule_text r.rule))
rule_words place r =
    ap (λ l. codes "rule" ++ 32 ∷ (numeral place ++ 32 ∷ l))
    (join_more (who_word r.who) (words (rule_text r.rule)) (has_word (rule_text r.rule))
    ∙ ap (λ l. who_word r.who ++ 32 ∷ l) (join_with_byte-slice_split 32 (rule_text r.rule)))

-- Lines that are refused for a cause that other texts have too, and files that are added.
use Rattle.std.proofs.Common.{◌≡◌, ℕ, ◌+◌, Bool, true, false, not, cond, List, [], ◌∷◌, ◌++◌, length, None, Some, Result, Ok, Err, refl, sym, ap, ◌∙◌, ltb}
use Rattle.std.specs.Prelude.{ok_or}
use Rattle.script_text.specs.Limits.{most_bytes, most_files}
use Rattle.script_text.specs.ListGrammar.{Listed}
use Rattle.script_text.specs.events.forms.Lines.{◌>>=◌}
use Rattle.script_text.specs.script_lines.Gives.{LineMakes}
use Rattle.script_text.specs.script_lines.declared.fault.LineCause.{LineCause}
use Rattle.script_text.specs.script_lines.declared.fault.LineCause.TheVariants as cause
use Rattle.script_text.specs.script_lines.declared.fault.LineErr.{LineErr}
use Rattle.script_text.specs.script_lines.declared.fault.LineErr.TheVariants as err
use Rattle.list_carry.specs.Draft.{Draft, as_list, with_list}
use Rattle.list_carry.specs.DraftInside.{draft_value}
use Rattle.list_carry.specs.Grammar.{by_line, on_line, room_for, with_listed}
use Rattle.list_carry.specs.declared.draft.Draft.TheInside.{Inside}

-- what a line makes of the draft doesn't depend on the kind of its cause
pub makes_line : (made : Result (Unit {0}) (LineErr LineCause)) (said : Result Draft LineCause)
    (new : Draft) → LineMakes made said new → LineMakes (on_line made) (by_line said) new
makes_line (Ok u) said new is = ap (λ (r : Result Draft LineCause). by_line r) is
makes_line (Err (err.Refused c)) said new is = ap (λ (r : Result Draft LineCause). by_line r) is
makes_line (Err err.OutOfMemory) said new is = tt

-- ---- a file that is added

-- the draft with these files and this sum
abbrev with_files : Draft → List Listed → ℕ → Draft
with_files d files sum = with_list d (record { files = files; at = 1; sum = sum })

module _ (f : Listed) (d : Draft) where
  -- the file is added if there is room for it, by whether there are few files and a large sum
  filed_by : (few large : Bool) (sum : ℕ)
      → (cond (not few) (Err cause.TooMany) (cond large (Err cause.TooLarge)
      (Ok (record (as_list d) { files = d.text.files ++ f ∷ []; sum = sum })))
      >>= λ l. Ok (with_list d l))
      ≡ (cond (not few) (Err cause.TooMany) (ok_or (cond large None (Some sum)) cause.TooLarge)
      >>= λ n. Ok (with_files d (d.text.files ++ f ∷ []) n))
  filed_by false large sum = refl
  filed_by true true sum = refl
  filed_by true false sum = refl

  -- the file is added if there is room for it
  with_listed-room : with_listed f d
      ≡ (room_for f.1 d >>= λ n. Ok (with_files d (d.text.files ++ f ∷ []) n))
  with_listed-room =
      filed_by (ltb (length d.text.files) most_files) (ltb most_bytes (d.sum + length f.1))
      (d.sum + length f.1)

  -- without room the file is refused
  pub with_listed-refused : (c : LineCause) → Err c ≡ room_for f.1 d → with_listed f d ≡ Err c
  with_listed-refused c is =
      with_listed-room
      ∙ ap (λ (r : Result ℕ LineCause). r >>= λ n. Ok (with_files d (d.text.files ++ f ∷ []) n))
      (sym is)

  -- with room the file is the last
  pub with_listed-filed : (n : ℕ) (old : Inside) (files : List Listed) → Ok n ≡ room_for f.1 d
      → draft_value old ≡ d → files ≡ old.files.items ++ f ∷ []
      → with_listed f d
      ≡ Ok (record {
        text = record { carried = old.carried; boot = old.boot.bytes; files = files };
        at = old.at;
        sum = n;
      })
  with_listed-filed n old files is same pushed =
      with_listed-room
      ∙ ap (λ (r : Result ℕ LineCause). r >>= λ m. Ok (with_files d (d.text.files ++ f ∷ []) m))
      (sym is)
      ∙ (λ i. Ok (with_files (sym same i) ((sym same i).text.files ++ f ∷ []) n))
      ∙ ap (λ (l : List Listed). Ok (with_files (draft_value old) l n)) (sym pushed)

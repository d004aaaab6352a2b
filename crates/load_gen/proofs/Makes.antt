-- Texts of whole lines, and the drafts that reading them makes.
use Rattle.std.proofs.Common.{◌≡◌, ℕ, true, List, [], ◌∷◌, ◌++◌, take, Some, Ok, refl, ◌∙◌}
use Rattle.std.specs.List.{list_all}
use Rattle.std.proofs.lemmas.List.{append-nil}
use Rattle.script_text.specs.Draft.{Draft}
use Rattle.script_text.specs.Grammar.{with_head}
use Rattle.script_text.specs.Heads.{head_of, rank, stands}
use Rattle.script_text.specs.declared.head.Head.{Head}
use Rattle.script_spelling.specs.Lines.{Line, begins_line, is_plain, line_text, lines_text}
use Rattle.script_spelling.proofs.Lines.{text_after}
use Rattle.script_spelling.proofs.Pieces.{lines_more}
use Rattle.script_spelling.proofs.Steps.{Reads, followed, nothing, one_line}

-- reading the text's lines after the draft d makes a draft of which Q holds
pub record Makes (d : Draft) (text : List ℕ) (Q : Draft → Type 0) : Type 0 where
  pub lines : List Line
  pub spelled : lines_text lines ≡ text
  pub to : Draft
  pub reads : Reads d lines to
  pub is : Q to

-- the empty text leaves the draft as it is
pub no_text : (d : Draft) (Q : Draft → Type 0) → Q d → Makes d [] Q
no_text d Q h = record { lines = []; spelled = refl; to = d; reads = nothing d; is = h }

-- reading a text and then another one
pub and_then : (d : Draft) (t u : List ℕ) (P Q : Draft → Type 0) → Makes d t P
    → ((e : Draft) → P e → Makes e u Q) → Makes d (t ++ u) Q
and_then d t u P Q first more =
    let others = more first.to first.is in
    record {
      lines = first.lines ++ others.lines;
      spelled = rw (lines_more first.lines others.lines, first.spelled, others.spelled) refl;
      to = others.to;
      reads = followed first.lines others.lines d first.to others.to first.reads others.reads;
      is = others.is;
    }

-- equal texts make the same drafts
pub as_text : (d : Draft) (t u : List ℕ) (Q : Draft → Type 0) → t ≡ u → Makes d t Q → Makes d u Q
as_text d t u Q e m = record {
  lines = m.lines;
  spelled = m.spelled ∙ e;
  to = m.to;
  reads = m.reads;
  is = m.is;
}

-- what holds of a draft may be weakened
pub weaker : (d : Draft) (t : List ℕ) (P Q : Draft → Type 0) → ((e : Draft) → P e → Q e)
    → Makes d t P → Makes d t Q
weaker d t P Q f m = record {
  lines = m.lines;
  spelled = m.spelled;
  to = m.to;
  reads = m.reads;
  is = f m.to m.is;
}

-- reading a text of one line, by the line's first word
pub by_line : (w : List ℕ) (ws : Line) (h : Head) (d e : Draft) (Q : Draft → Type 0)
    → begins_line w ≡ true → is_plain w ≡ true → list_all is_plain ws ≡ true
    → head_of w ≡ Some h → stands h d ≡ true
    → with_head h (text_after ws) (take 9 ws) (record d { at = rank h }) ≡ Ok e → Q e
    → Makes d (line_text (w ∷ ws)) Q
by_line w ws h d e Q begins plain others is at makes holds = record {
  lines = (w ∷ ws) ∷ [];
  spelled = append-nil (line_text (w ∷ ws));
  to = e;
  reads = one_line w ws h d e begins plain others is at makes;
  is = holds;
}

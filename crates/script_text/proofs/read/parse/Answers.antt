use Rattle.std.proofs.Common.{◌≡◌, ℕ, List, Ok, ap, sym, ◌∙◌}
use Rattle.script_words.specs.Read.{text_of}
use Rattle.script_text.specs.Draft.{Draft, start}
use Rattle.script_text.specs.Forms.{IsScript}
use Rattle.script_text.specs.Grammar.{add}
use Rattle.script_text.specs.Heads.{is_over}
use Rattle.script_text.proofs.ScriptKept.{script_is}
use Rattle.script_text.proofs.read.parse.Goals as goal

-- the result is that of a text read from the start
read_from : (text : List ℕ) (from d : Draft) → from ≡ start → text_of add is_over from text ≡ Ok d
    → IsScript d.script
read_from text from d new is =
    script_is text d (ap (λ (s : Draft). text_of add is_over s text) (sym new) ∙ is)

pub finish-requires : goal.finish-requires
finish-requires c =
    read_from c.args.text.now c.new.result c.in_ok-draft.draft c.new.ensures c.in_ok-draft.ensures

pub returns-clause-kept : goal.returns-clause-kept
returns-clause-kept c =
    let is = read_from c.args.text.now c.new.result c.in_ok-draft.draft c.new.ensures
    c.in_ok-draft.ensures in
    rw c.finish.ensures is

-- One more entry is at the end of the last part.
use Rattle.std.proofs.Common.{◌≡◌, ◌+◌, List, [], ◌∷◌, ◌++◌, length, sym, ap, ◌∙◌, append_assoc, arith}
use Rattle.std.specs.List.{flat_map}
use Rattle.std.proofs.lemmas.List.{length_push}
use Rattle.script_text.specs.steps.templates.declared.entry.Entry.{Entry}
use Rattle.buffer_measure.specs.Parts.{entries_in}
use Rattle.buffer_measure.proofs.parts.put.Goals as goal

pub returns-clause-entries : goal.returns-clause-entries
returns-clause-entries c =
    ap (λ (l : List Entry). flat_map entries_in c.close_full.new.jobs.items ++ l)
    c.in_ok-push.ensures.items
    ∙ sym (append_assoc (flat_map entries_in c.close_full.new.jobs.items)
    c.close_full.new.job.items (c.args.entry ∷ []))
    ∙ ap (λ (l : List Entry). l ++ c.args.entry ∷ []) c.in_ok-close_full.ensures.entries

pub returns-clause-sum : goal.returns-clause-sum
returns-clause-sum c =
    let count : length c.push.new.self.items ≡ length c.close_full.new.job.items + 1 =
    ap (λ (l : List Entry). length l) c.in_ok-push.ensures.items
    ∙ length_push c.close_full.new.job.items c.args.entry in
    omega (arith, count, c.in_ok-close_full.ensures.sum)

-- A full part is at the end of the others, and the next one is empty.
use Rattle.std.proofs.Common.{◌≡◌, ℕ, ◌+◌, ◌*◌, List, [], ◌++◌, length, sym, ap, ◌∙◌, append-nil, arith, rules}
use Rattle.std.specs.Global.{Vec}
use Rattle.std.specs.List.{flat_map}
use Rattle.std.proofs.lemmas.List.{flat_map_more, length_push}
use Rattle.script_text.specs.steps.templates.declared.entry.Entry.{Entry}
use Rattle.buffer_measure.specs.Parts.{entries_in}
use Rattle.buffer_measure.proofs.parts.close_full.Goals as goal

-- one more full part counts as many entries as it has
one_full : (k m size j none : ℕ) → m ≡ k + 1 → none ≡ 0 → j ≡ size
    → m * size + none ≡ k * size + j
one_full k m size j none one empty full = rw (one, empty, full) (grind arith)

emptied : (c : goal.In_ok-push) → c.replace.new.dest.items ≡ []
emptied c =
    ap (λ (v : Vec Entry). v.items) c.replace.ensures.after ∙ c.in_ok-next.ensures.items

pub returns-in_ok-push-clause-entries : goal.returns-in_ok-push-clause-entries
returns-in_ok-push-clause-entries c =
    let before : List Entry = flat_map entries_in c.args.jobs.now.items in
    let more : flat_map entries_in c.push.new.self.items ≡ before ++ c.args.job.now.items =
    ap (λ (l : List (Vec Entry)). flat_map entries_in l) c.in_ok-push.ensures.items
    ∙ sym (flat_map_more entries_in [] c.args.jobs.now.items c.replace.result)
    ∙ ap (λ (v : Vec Entry). before ++ v.items) c.replace.ensures.value in
    (λ i. more i ++ emptied c i) ∙ append-nil (before ++ c.args.job.now.items)

pub returns-in_ok-push-clause-sum : goal.returns-in_ok-push-clause-sum
returns-in_ok-push-clause-sum c =
    let full : length c.args.job.now.items ≡ c.args.size = search rules in
    one_full (length c.args.jobs.now.items) (length c.push.new.self.items) c.args.size
    (length c.args.job.now.items) (length c.replace.new.dest.items)
    (ap (λ (l : List (Vec Entry)). length l) c.in_ok-push.ensures.items
    ∙ length_push c.args.jobs.now.items c.replace.result)
    (ap (λ (l : List Entry). length l) (emptied c)) full

-- The parts of a list, one after another, are the list.
use Rattle.std.proofs.Common.{◌≡◌, ℕ, suc, List, [], ◌∷◌, ◌++◌, length, map, Option, Some, None, refl, sym, ap, ◌∙◌, arith}
use Rattle.std.specs.Global.{Vec}
use Rattle.std.specs.List.{AllByRecursion, flat_map}
use Rattle.std.proofs.lemmas.Bool.{false≢true}
use Rattle.std.proofs.lemmas.List.{map-append}
use Rattle.report_text.specs.Report.{entry_words}
use Rattle.script_text.specs.events.forms.Words.{text_of}
use Rattle.script_text.specs.steps.templates.declared.entry.Entry.{Entry}
use Rattle.buffer_measure.proofs.Printing.{lines_append}
use Rattle.buffer_measure.specs.Parts.{ArePartsOf, IsMade, IsPart, entries_in, entries_text, part_bytes}

-- the lines of some entries, and then those of others
joined : (first others : List Entry)
    → entries_text first ++ entries_text others ≡ entries_text (first ++ others)
joined first others =
    sym (lines_append (map entry_words first) (map entry_words others))
    ∙ ap text_of (sym (map-append entry_words first others))

-- a part that was made has the lines of its entries
made_bytes : (part : Option (Vec ℕ)) (es : List Entry) → IsMade part → IsPart es part
    → part_bytes part ≡ entries_text es
made_bytes None es made is = absurd (false≢true made)
made_bytes (Some text) es made is = is

-- parts that have the lines of all jobs
pub all_parts : (jobs : List (Vec Entry)) (parts : List (Option (Vec ℕ)))
    → length parts ≡ length jobs → ArePartsOf jobs parts → AllByRecursion IsMade parts
    → flat_map part_bytes parts ≡ entries_text (flat_map entries_in jobs)
all_parts [] [] same each made = refl
all_parts [] (part ∷ parts) same each made = absurd (omega (arith, same))
all_parts (job ∷ jobs) [] same each made = absurd (omega (arith, same))
all_parts (job ∷ jobs) (part ∷ parts) same each made =
    let front : part_bytes part ≡ entries_text job.items =
    made_bytes part job.items made.0 (each 0 job part (omega arith)) in
    let later : flat_map part_bytes parts ≡ entries_text (flat_map entries_in jobs) =
    all_parts jobs parts (omega (arith, same)) (λ n d e below. each (suc n) d e (omega (arith, below)))
    made.1 in
    (λ i. front i ++ later i) ∙ joined job.items (flat_map entries_in jobs)

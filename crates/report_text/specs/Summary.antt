-- The summary of a generated run: its totals, and the default register.
use Rattle.std.specs.Prelude.{ℕ, Bool, true, not, List, [], ◌∷◌, ◌++◌, length, codes, count_by, sum_by}
use Rattle.report_events.specs.Numerals.{numeral}
use Rattle.std.specs.Str.{bytes_eq}
use Rattle.text_forms.specs.Words.{text_of}
use Rattle.inode_events.specs.EndedInode.{EndedInodeValue as EndedInode}
use Rattle.run_model.specs.EndedValue.{EndedTaskValue as EndedTask, EndedValue as Ended}
use Rattle.call_steps.specs.declared.reply.Reply.{Reply}
use Rattle.report_text.specs.Report.{pcr_lines_at, reply_words}
use Rattle.report_events.specs.Words.{Line}

abbrev pub first_word : Line → List ℕ
first_word [] = []
first_word (w ∷ ws) = w

-- a reply whose words begin with `ok`
abbrev pub is_ok_reply : Reply → Bool
is_ok_reply r = bytes_eq (first_word (reply_words r)) (codes "ok")

abbrev pub event_count : List EndedInode → ℕ
event_count inodes = sum_by (λ i. length i.journal) inodes

-- how many replies of all tasks pass the test
abbrev pub reply_count : (Reply → Bool) → List EndedTask → ℕ
reply_count p tasks = sum_by (λ t. count_by p t.replies) tasks

abbrev pub size_lines : ℕ → ℕ → Ended → List Line
size_lines number script e =
    (codes "gen" ∷ numeral number ∷ [])
    ∷ (codes "script" ∷ numeral script ∷ [])
    ∷ (codes "list" ∷ numeral (length e.list) ∷ codes "violations"
    ∷ numeral (count_by (λ x. x.violation) e.list) ∷ []) ∷ []

abbrev pub count_lines : Ended → List Line
count_lines e =
    (codes "events" ∷ numeral (event_count e.inodes) ∷ [])
    ∷ (codes "replies" ∷ codes "ok" ∷ numeral (reply_count is_ok_reply e.tasks)
    ∷ codes "refused" ∷ numeral (reply_count (λ r. not (is_ok_reply r)) e.tasks) ∷ []) ∷ []

-- the lines of the summary of the run of script `number`, whose text has `script` bytes
abbrev pub summary_lines : ℕ → ℕ → Ended → List Line
summary_lines number script e =
    size_lines number script e ++ (count_lines e ++ pcr_lines_at e.banks 10 true)

abbrev pub summary_of : ℕ → ℕ → Ended → List ℕ
summary_of number script e = text_of (summary_lines number script e)

-- The report of a run is read as that run.
use Rattle.std.proofs.Common.{◌≡◌, ℕ, Bool, true, false, List, [], ◌∷◌, ◌++◌, codes, length, map, Option, Some, None, Result, Ok, refl, sym, ap, ◌∙◌, subst, append_assoc, arith}
use Rattle.std.specs.Prelude.{count_by}
use Rattle.std.specs.List.{AllByRecursion, join_with_byte, list_all}
use Rattle.report_text.specs.Report.{all_inode_lines, all_task_lines, appended_lines, entry_words, head_lines, pcr_lines, report_lines, report_of}
use Rattle.report_text.specs.Words.{Line}
use Rattle.report_text.specs.model.EndedValue.{EndedValue as Ended}
use Rattle.report_text.specs.model.events.forms.Lines.{◌>>=◌}
use Rattle.report_text.specs.model.events.forms.Words.{text_of}
use Rattle.report_text.proofs.Whole.{report_kept}
use Rattle.report_draft.specs.declared.draft.Stage.{Stage}
use Rattle.report_draft.specs.declared.draft.Stage.TheVariants as stage
use Rattle.report_draft.specs.Draft as draft
use Rattle.report_draft.specs.Draft.{Draft, report_closed, start}
use Rattle.report_read.specs.Read.{reports_of}
use Rattle.report_read.specs.ReadBack.{IsReadOf, IsReadable, IsShownInode, ReportIsRead, text_at}
use Rattle.report_lines.specs.Report.{ReportValue}
use Rattle.report_read.proofs.Fold.{end_of, fold, fold-append, spans}
use Rattle.report_read.proofs.Chains.{length-values, values}
use Rattle.report_read.proofs.InodesBack.{IsBlock, block_of, held, inodes_back, stage_of}
use Rattle.report_read.proofs.ListBack.{entries_back, entry_block, entry_span, head_back, headed, last_to, registers_back}
use Rattle.report_read.proofs.RulesBack.{appended_back, read_rules, stage_after}
use Rattle.report_read.proofs.TasksBack.{LeadsTo, TasksRead, end_back, from_inodes, from_registers, task_values, tasks_back}
use Rattle.report_read.proofs.TextRead.{text_read}
use Rattle.report_read.proofs.TextsBack.{end_here, entries_here, inodes_events, inodes_execs, inodes_readers, inodes_writers, tasks_done, tasks_here, text_of-append, texts_of, words_of}

lead_block : (s : Stage) (d : Draft) → IsBlock s
    → LeadsTo (record d { stage = s }) (record d { stage = s })
lead_block (stage.Registers last) d b = from_registers d last
lead_block stage.Inodes d b = from_inodes d
lead_block stage.Version d b = absurd b
lead_block stage.Run d b = absurd b
lead_block stage.List d b = absurd b
lead_block (stage.Entries k) d b = absurd b
lead_block (stage.Second k) d b = absurd b
lead_block (stage.Rules k last) d b = absurd b
lead_block stage.Force d b = absurd b
lead_block stage.Attrs d b = absurd b
lead_block (stage.Names k) d b = absurd b
lead_block stage.Journal d b = absurd b
lead_block (stage.Events k) d b = absurd b
lead_block (stage.Replies k) d b = absurd b
lead_block stage.Over d b = absurd b

after_is_block : (base : ℕ) (g : Bool) (last : Option ℕ) → IsBlock (stage_after base g last)
after_is_block base true last = tt
after_is_block base false last = tt

-- text moves from one section to the front of the next
shift : (front : List ℕ) (xs ys : List Line)
    → front ++ text_of (xs ++ ys) ≡ (front ++ text_of xs) ++ text_of ys
shift front xs ys =
    ap (λ (t : List ℕ). front ++ t) (text_of-append xs ys)
    ∙ sym (append_assoc front (text_of xs) (text_of ys))

module _ (e : Ended) (r : IsReadable e) where
  abbrev done : Bool
  done = list_all (λ t. t.done) e.tasks

  abbrev violations : ℕ
  violations = count_by (λ x. x.violation) e.list

  -- ---- the sections, and what comes after each

  abbrev entry_part : List Line
  entry_part = map entry_words e.list

  abbrev pcr_part : List Line
  pcr_part = pcr_lines e.list e.banks

  abbrev rule_part : List Line
  rule_part = appended_lines e.grows e.base e.rules

  abbrev inode_part : List Line
  inode_part = all_inode_lines e.template e.grows 0 e.inodes

  abbrev task_part : List Line
  task_part = all_task_lines 0 e.tasks

  abbrev end_part : List Line
  end_part = (codes "end" ∷ []) ∷ []

  abbrev rest5 : List Line
  rest5 = task_part ++ end_part

  abbrev rest4 : List Line
  rest4 = inode_part ++ rest5

  abbrev rest3 : List Line
  rest3 = rule_part ++ rest4

  abbrev rest2 : List Line
  rest2 = pcr_part ++ rest3

  abbrev rest1 : List Line
  rest1 = entry_part ++ rest2

  -- where each section begins
  abbrev at1 : ℕ
  at1 = end_of 0 (head_lines e)

  abbrev at2 : ℕ
  at2 = end_of at1 entry_part

  abbrev at3 : ℕ
  at3 = end_of at2 pcr_part

  abbrev at4 : ℕ
  at4 = end_of at3 rule_part

  abbrev at5 : ℕ
  at5 = end_of at4 inode_part

  abbrev at6 : ℕ
  at6 = end_of at5 task_part

  -- ---- the draft after each section

  abbrev d1 : Draft
  d1 = headed e.stuck done (length e.list) violations

  abbrev d2 : Draft
  d2 = record d1 {
    stage = stage.Registers None;
    entries = values entry_block entry_span at1 0 e.list;
  }

  abbrev d3 : Draft
  d3 = record d2 {
    stage = stage.Registers (last_to e.list 24);
    registers = spans at2 pcr_part;
  }

  abbrev block : Stage
  block = stage_after e.base e.grows (last_to e.list 24)

  abbrev d4 : Draft
  d4 = record d3 { stage = block; rules = read_rules e.base e.grows at3 e.rules }

  abbrev d5 : Draft
  d5 = held e.template e.grows at4 block d4 e.inodes []

  block_is : IsBlock block
  block_is = after_is_block e.base e.grows (last_to e.list 24)

  same_size : length (values entry_block entry_span at1 0 e.list) ≡ length e.list
  same_size = length-values entry_block entry_span at1 0 e.list

  tasks : TasksRead at5 0 e.tasks d5 d5
  tasks =
      tasks_back e.tasks at5 0 d5 d5
      (lead_block (stage_of block e.inodes) d5 (block_of block e.inodes block_is))
      (omega (arith, r.few_tasks)) refl r.tasks

  abbrev last : Draft
  last = record d5 {
    stage = tasks.at;
    tasks = task_values at5 0 e.tasks;
    replies = [];
  }

  whole : fold 0 (start 0) (report_lines e) ≡ Some (report_closed last)
  whole =
      fold-append (head_lines e) rest1 0 (start 0) d1
      (head_back 0 e.stuck done (length e.list) violations r.few_entries r.few_violations)
      ∙ (fold-append entry_part rest2 at1 d1 d2 (entries_back e.list at1 d1 r.entries)
      ∙ (fold-append pcr_part rest3 at2 d2 d3
      (registers_back e.list e.banks 24 at2 d2 (omega arith) r.registers)
      ∙ (fold-append rule_part rest4 at3 d3 d4
      (appended_back e.base e.grows e.rules at3 d3 (last_to e.list 24) r.few_rules r.rules)
      ∙ (fold-append inode_part rest5 at4 d4 d5
      (inodes_back e.template e.grows at4 e.inodes block d4 block_is r.few_inodes
      (subst (λ (k : ℕ). AllByRecursion (IsShownInode k) e.inodes) (sym same_size) r.inodes))
      ∙ (fold-append task_part end_part at5 d5 tasks.reached tasks.read
      ∙ end_back at6 tasks.reached last tasks.leads)))))

  abbrev report : ReportValue
  report = draft.report_of last

  accepted : reports_of 0 (report_of e) ≡ Ok (report ∷ [])
  accepted =
      ap (λ (x : Result Draft ℕ). x >>= λ d. Ok d.done)
      (text_read (report_lines e) 0 1 (start 0) (report_closed last) (report_kept e r.fits) whole
      refl)

  -- ---- the text

  abbrev front1 : List ℕ
  front1 = text_of (head_lines e)

  abbrev front2 : List ℕ
  front2 = front1 ++ text_of entry_part

  abbrev front3 : List ℕ
  front3 = front2 ++ text_of pcr_part

  abbrev front4 : List ℕ
  front4 = front3 ++ text_of rule_part

  abbrev front5 : List ℕ
  front5 = front4 ++ text_of inode_part

  at1_is : at1 ≡ length front1
  at1_is = end_here (head_lines e) []

  at2_is : at2 ≡ length front2
  at2_is = ap (λ (n : ℕ). end_of n entry_part) at1_is ∙ end_here entry_part front1

  at3_is : at3 ≡ length front3
  at3_is = ap (λ (n : ℕ). end_of n pcr_part) at2_is ∙ end_here pcr_part front2

  at4_is : at4 ≡ length front4
  at4_is = ap (λ (n : ℕ). end_of n rule_part) at3_is ∙ end_here rule_part front3

  at5_is : at5 ≡ length front5
  at5_is = ap (λ (n : ℕ). end_of n inode_part) at4_is ∙ end_here inode_part front4

  text1 : report_of e ≡ front1 ++ text_of rest1
  text1 = text_of-append (head_lines e) rest1

  text5 : report_of e ≡ front5 ++ text_of rest5
  text5 =
      text1 ∙ (shift front1 entry_part rest2 ∙ (shift front2 pcr_part rest3
      ∙ (shift front3 rule_part rest4 ∙ shift front4 inode_part rest5)))

  entry_texts : map (text_at (report_of e)) report.entries
      ≡ map (λ x. join_with_byte 32 (entry_words x)) e.list
  entry_texts =
      ap
      (λ (t : List ℕ). map (text_at t) (values entry_block entry_span at1 0 e.list))
      (text1 ∙ ap (λ (t : List ℕ). front1 ++ t) (text_of-append entry_part rest2))
      ∙ (ap
      (λ (n : ℕ). map (text_at (front1 ++ (text_of entry_part ++ text_of rest2)))
      (values entry_block entry_span n 0 e.list)) at1_is
      ∙ entries_here e.list front1 (text_of rest2))

  reply_texts : map (texts_of (report_of e)) report.tasks ≡ map words_of e.tasks
  reply_texts =
      ap (λ (t : List ℕ). map (texts_of t) (task_values at5 0 e.tasks))
      (text5 ∙ ap (λ (t : List ℕ). front5 ++ t) (text_of-append task_part end_part))
      ∙ (ap
      (λ (n : ℕ). map (texts_of (front5 ++ (text_of task_part ++ text_of end_part)))
      (task_values n 0 e.tasks)) at5_is
      ∙ tasks_here e.tasks 0 front5 (text_of end_part))

  read_as : IsReadOf (report_of e) report e
  read_as = record {
    entries = entry_texts;
    events = inodes_events e.template e.grows at4 e.inodes at4 0;
    writers = inodes_writers e.template e.grows at4 e.inodes at4 0;
    readers = inodes_readers e.template e.grows at4 e.inodes at4 0;
    execs = inodes_execs e.template e.grows at4 e.inodes at4 0;
    done = tasks_done e.tasks at5 0;
    replies = reply_texts;
  }

pub report_is_read : ReportIsRead
report_is_read e r = (report e r, accepted e r, read_as e r)

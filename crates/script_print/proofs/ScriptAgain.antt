-- The canonical text of a script is read as the same script.
use Rattle.std.proofs.Common.{◌≡◌, ℕ, ◌+◌, ◌<◌, ◌≤◌, true, false, nat_le, nat_lt, List, [], ◌∷◌, ◌++◌, length, map, flat_map, Ok, refl, sym, ap, ◌∙◌, subst, arith}
use Rattle.std.specs.Prelude.{codes}
use Rattle.std.specs.Fmt.{decimal}
use Rattle.std.specs.List.{AllByRecursion, list_all, sum_by}
use Rattle.std.proofs.lemmas.Bool.Decides.{nat_tests}
use Rattle.std.proofs.lemmas.List.{append-nil}
use Rattle.call_steps.specs.declared.ending.Ending.{Ending}
use Rattle.call_steps.specs.declared.ending.Ending.TheVariants as ending
use Rattle.policy_text.specs.rules.declared.access.Super.{Super}
use Rattle.text_forms.specs.Numbers.{is_short_numeral}
use Rattle.text_forms.specs.Paths.{is_path}
use Rattle.script_text.specs.Draft.{Draft, start}
use Rattle.script_text.specs.Forms.{IsFile, IsScript, file_bytes, is_ending, path_of_block}
use Rattle.script_text.specs.Grammar.{script_of, with_head}
use Rattle.script_text.specs.Heads.{is_over}
use Rattle.script_text.specs.Limits.{most_bytes, most_tasks, most_threads, most_turns}
use Rattle.script_text.specs.ScriptValue.{ScriptValue}
use Rattle.script_text.specs.Tasks.{ended, with_rounds, with_schedule, with_threads}
use Rattle.script_text.specs.fields.TaskFields.{turns_from, turns_of}
use Rattle.script_text.specs.declared.blocks.FileBlock.{FileBlock}
use Rattle.script_text.specs.declared.blocks.TaskBlock.{TaskBlock}
use Rattle.script_text.specs.declared.head.Head.TheVariants as head
use Rattle.call_lines.proofs.Holding.{both_true, left_true, right_true}
use Rattle.call_lines.specs.Lines.{is_plain}
use Rattle.script_spelling.specs.Rules.{AreReadRules, IsReadRule}
use Rattle.script_spelling.specs.Spelling.{ending_line, evm_lines, file_lines, rule_line, script_lines, script_text, setting_lines, super_line, task_lines}
use Rattle.script_print.proofs.EvmAgain.{after_evm, evm_again}
use Rattle.script_print.proofs.FilesAgain.{Filed, filing, files_again}
use Rattle.script_spelling.proofs.Lines.{fields_words_text}
use Rattle.script_spelling.proofs.Many.{IsAt, Leads, above}
use Rattle.script_spelling.proofs.PathsAgain.{AreFound}
use Rattle.script_print.proofs.RulesAgain.{ruling, rules_again}
use Rattle.script_spelling.proofs.SettingsAgain.{after_mode, draft, settings_again}
use Rattle.script_spelling.proofs.Steps.{Reads, followed, one_line, text_read}
use Rattle.script_print.proofs.SupersAgain.{after_supers, supers_again}
use Rattle.script_print.proofs.TasksAgain.{Tasked, tasking, tasks_again}
use Rattle.script_spelling.proofs.Words.{any_number_back, decimal_plain, numeral, place_back}

-- ---- the ending

below : (i n : ℕ) → nat_lt i n ≡ true → i < n
below i n h = grind (arith, nat_tests)

le_of : (n most : ℕ) → nat_le n most ≡ true → n ≤ most
le_of n most h = grind (arith, nat_tests)

not_above : (n most : ℕ) → n ≤ most → nat_lt most n ≡ false
not_above n most h = grind (arith, nat_tests)

module _ (tasks : ℕ) (few : tasks ≤ most_tasks) where
  turns_plain : (ts : List ℕ) → list_all (λ t. nat_lt t tasks) ts ≡ true
      → list_all is_plain (map decimal ts) ≡ true
  turns_plain [] h = refl
  turns_plain (t ∷ ts) h =
      let lt = below t tasks
      (left_true (nat_lt t tasks) (list_all (λ u. nat_lt u tasks) ts) h) in
      both_true (is_plain (decimal t)) (list_all is_plain (map decimal ts))
      (decimal_plain t (omega (arith, lt, few)))
      (turns_plain ts (right_true (nat_lt t tasks) (list_all (λ u. nat_lt u tasks) ts) h))

  turns_numerals : (ts : List ℕ) → list_all (λ t. nat_lt t tasks) ts ≡ true
      → list_all (is_short_numeral 10) (map decimal ts) ≡ true
  turns_numerals [] h = refl
  turns_numerals (t ∷ ts) h =
      let lt = below t tasks
      (left_true (nat_lt t tasks) (list_all (λ u. nat_lt u tasks) ts) h) in
      both_true (is_short_numeral 10 (decimal t))
      (list_all (is_short_numeral 10) (map decimal ts)) (numeral t (omega (arith, lt, few)))
      (turns_numerals ts (right_true (nat_lt t tasks) (list_all (λ u. nat_lt u tasks) ts) h))

  turns_back : (ts : List ℕ) → list_all (λ t. nat_lt t tasks) ts ≡ true
      → turns_from tasks (map decimal ts) ≡ Ok ts
  turns_back [] h = refl
  turns_back (t ∷ ts) h =
      let lt = below t tasks
      (left_true (nat_lt t tasks) (list_all (λ u. nat_lt u tasks) ts) h) in
      rw (
        place_back tasks t lt (omega (arith, lt, few)),
        turns_back ts (right_true (nat_lt t tasks) (list_all (λ u. nat_lt u tasks) ts) h),
      ) refl

  schedule_back : (ts : List ℕ) → is_ending tasks (ending.Schedule ts) ≡ true
      → turns_of tasks (map decimal ts) ≡ Ok ts
  schedule_back ts h =
      let all = list_all (λ t. nat_lt t tasks) ts in
      let each : all ≡ true = left_true all (nat_le (length ts) most_turns) h in
      let le = le_of (length ts) most_turns (right_true all (nat_le (length ts) most_turns) h) in
      rw (turns_numerals ts each, turns_back ts each, not_above (length ts) most_turns le) refl

ending_again : (d : Draft) (e : Ending) → length d.script.tasks ≤ most_tasks
    → is_ending (length d.script.tasks) e ≡ true → IsAt d.at 12
    → Reads d (ending_line e ∷ []) (record (ended e d) { at = 13 })
unfolding with_head with_schedule with_rounds with_threads
ending_again d (ending.Schedule ts) few h at =
    let n = length d.script.tasks in
    let all = list_all (λ t. nat_lt t n) ts in
    let each : all ≡ true = left_true all (nat_le (length ts) most_turns) h in
    let plain = turns_plain n few ts each in
    one_line (codes "schedule") (map decimal ts) head.Schedule d
    (record (ended (ending.Schedule ts) d) { at = 13 }) refl refl plain refl
    (above 13 d.at 12 false at (omega arith))
    (rw (fields_words_text (map decimal ts) plain, schedule_back n few ts h) refl)
ending_again d ending.Rounds few h at =
    one_line (codes "rounds") [] head.Rounds d (record (ended ending.Rounds d) { at = 13 }) refl
    refl refl refl (above 13 d.at 12 false at (omega arith)) refl
ending_again d (ending.Threads n) few h at =
    let some = le_of 1 n (left_true (nat_le 1 n) (nat_le n most_threads) h) in
    let le = le_of n most_threads (right_true (nat_le 1 n) (nat_le n most_threads) h) in
    one_line (codes "threads") (decimal n ∷ []) head.Threads d
    (record (ended (ending.Threads n) d) { at = 13 }) refl refl
    (both_true (is_plain (decimal n)) true (decimal_plain n (omega (arith, le))) refl) refl
    (above 13 d.at 12 false at (omega arith))
    (rw (any_number_back most_threads n (omega (arith, le)) some le) refl)

-- ---- the whole

paths_are : (supers : List Super) (files : List FileBlock) → AllByRecursion (IsFile supers) files
    → list_all is_path (map path_of_block files) ≡ true
paths_are supers [] h = refl
paths_are supers (b ∷ bs) h =
    both_true (is_path b.path) (list_all is_path (map path_of_block bs)) h.0.path
    (paths_are supers bs h.1)

module _ (s : ScriptValue) (h : IsScript s) (rules : AllByRecursion IsReadRule s.rules)
    (tasks : AllByRecursion AreReadRules s.tasks) where
  files_small : sum_by file_bytes s.files ≤ most_bytes
  files_small = omega (arith, h.bytes_few)

  -- a script with some of its files, and the counts of its draft
  abbrev filed : Filed → Draft
  filed x = record (filing s h.supers.few files_small x) {
    script = record (after_supers s) { files = s.files };
  }

  files_for : (m : ℕ) → IsAt m 9
      → Leads Filed filed (draft (after_supers s) m) (flat_map file_lines s.files) (λ x.
      IsAt x.at 10 × (x.paths ≡ map path_of_block s.files)
      × (x.sum ≤ sum_by file_bytes s.files))
  files_for m at =
      let r = files_again s h.supers.few files_small h.files m at in
      let same : r.to.done ≡ s.files = sym (append-nil r.to.done) ∙ r.is.whole in
      let P : List FileBlock → Type 0 =
      λ l. Reads (draft (after_supers s) m) (flat_map file_lines s.files)
      (record (filing s h.supers.few files_small r.to) {
        script = record (after_supers s) { files = l };
      }) in
      record {
        to = r.to;
        reads = subst P same r.reads;
        is = (
          r.is.at,
          r.is.paths ∙ ap (λ (l : List FileBlock). map path_of_block l) same,
          omega (arith, r.is.bytes),
        );
      }

  -- the draft at the end
  pub record IsEnd (d : Draft) : Type 0 where
    pub script : d.script ≡ s
    pub over : is_over d ≡ true

  pub record Ends : Type 0 where
    pub to : Draft
    pub reads : Reads start (script_lines s) to
    pub is : IsEnd to

  whole : Ends
  whole =
      let d1 = draft (after_mode s) 5 in
      let d2 = draft (after_evm s) 8 in
      let r3 = supers_again s h.supers in
      let d3 = draft (after_supers s) r3.to in
      let r4 = files_for r3.to r3.is in
      let d4 = filed r4.to in
      let r5 = rules_again d4 s.rules (omega (arith, h.rules_few)) rules refl r4.is.0 in
      let few_rules : length s.rules + d4.appended ≤ 1024 = omega (arith, h.rules_few) in
      let d5 = ruling d4 s.rules few_rules (record { done = s.rules; at = r5.to }) in
      let found : AreFound d5.script.files d5.paths = record {
        are = r4.is.1;
        apart = h.files.apart;
        forms = paths_are s.supers s.files h.files.each;
      } in
      let x : Tasked = record {
        done = [];
        at = r5.to;
        calls = 0;
        appended = 0;
        sum = r4.to.sum;
      } in
      let r6 = tasks_again d5 found s.tasks x (record {
        at = record { some = r5.is.some; few = omega (arith, r5.is.few) };
        forms = h.tasks.forms;
        read = tasks;
        few = omega (arith, h.tasks.few);
        calls = omega (arith, h.calls_few);
        appended = omega (arith, h.rules_few);
        sum = omega (arith, h.bytes_few, r4.is.2);
        whole = refl;
      }) in
      let same : r6.to.done ≡ s.tasks = sym (append-nil r6.to.done) ∙ r6.is.whole in
      let d6 : Draft = record (tasking d5 found s.tasks r6.to) {
        script = record d5.script { tasks = s.tasks };
      } in
      let P : List TaskBlock → Type 0 =
      λ l. Reads d5 (flat_map (task_lines d5.paths) s.tasks)
      (record (tasking d5 found s.tasks r6.to) { script = record d5.script { tasks = l } }) in
      let blocks = flat_map (task_lines (map path_of_block s.files)) s.tasks in
      let Q : List (List ℕ) → Type 0 = λ ps. Reads d5 (flat_map (task_lines ps) s.tasks) d6 in
      let e6 : Reads d5 blocks d6 = subst Q r4.is.1 (subst P same r6.reads) in
      let d7 : Draft = record (ended s.ending d6) { at = 13 } in
      let e7 = ending_again d6 s.ending h.tasks.few h.ending r6.is.at in
      let last = ending_line s.ending ∷ [] in
      let l6 = blocks ++ last in
      let l5 = map rule_line s.rules ++ l6 in
      let l4 = flat_map file_lines s.files ++ l5 in
      let l3 = map super_line s.supers ++ l4 in
      let l2 = evm_lines s ++ l3 in
      record {
        to = d7;
        reads = followed (setting_lines s) l2 start d1 d7 (settings_again s h.template h.boot)
            (followed (evm_lines s) l3 d1 d2 d7 (evm_again s h.key h.added h.format)
            (followed (map super_line s.supers) l4 d2 d3 d7 r3.reads
            (followed (flat_map file_lines s.files) l5 d3 d4 d7 r4.reads
            (followed (map rule_line s.rules) l6 d4 d5 d7 r5.reads
            (followed blocks last d5 d6 d7 e6 e7)))));
        is = record { script = refl; over = refl };
      }

  -- the canonical text of a script is read as that script
  pub script_again : script_of (script_text s) ≡ Ok s
  unfolding script_text
  script_again =
      let e = whole in
      text_read (script_lines s) e.to e.reads e.is.over ∙ ap (λ (v : ScriptValue). Ok v) e.is.script

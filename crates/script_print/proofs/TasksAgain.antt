-- Reading the lines of tasks makes the tasks again.
use Rattle.std.proofs.Common.{◌≡◌, ℕ, ◌+◌, ◌<◌, ◌≤◌, Bool, true, false, ◌&&◌, not, nat_lt, List, [], ◌∷◌, ◌++◌, length, map, flat_map, take, Option, Some, Ok, refl, sym, ap, ◌∙◌, subst, arith, length-append, append_assoc}
use Rattle.std.specs.Prelude.{codes}
use Rattle.std.specs.Fmt.{decimal}
use Rattle.std.specs.List.{AllByRecursion, list_all, sum_by}
use Rattle.std.proofs.lemmas.Bool.Decides.{nat_tests}
use Rattle.std.proofs.lemmas.List.{append-nil, length-map}
use Rattle.std.proofs.lemmas.List.Sums.{sum_by-cons}
use Rattle.call_steps.specs.declared.call.Call.{Call}
use Rattle.inode_meta.specs.declared.identity.Cred.{Cred}
use Rattle.script_text.specs.Draft.{Draft}
use Rattle.script_text.specs.Forms.{appended_by, calls_of, is_cred, is_id, is_line_call, is_task, path_of_block, task_bytes}
use Rattle.script_text.specs.Grammar.{with_head}
use Rattle.script_text.specs.Limits.{most_bytes, most_calls, most_rules, most_tasks}
use Rattle.script_text.specs.Settings.{one_if}
use Rattle.script_text.specs.Tasks.{appends, call_bytes, task_with, with_call, with_call_line, with_cred, with_task}
use Rattle.script_text.specs.fields.TaskFields.{cred_in}
use Rattle.script_text.specs.declared.blocks.TaskBlock.{TaskBlock}
use Rattle.script_text.specs.declared.head.Head.TheVariants as head
use Rattle.call_lines.proofs.Holding.{left_true, right_true}
use Rattle.script_text.proofs.Lasts.{change_after}
use Rattle.call_lines.specs.Calls.{call_line, call_of, line_by, words_after}
use Rattle.call_lines.specs.Lines.{Line, is_plain}
use Rattle.call_lines.specs.Table.{row, spoken}
use Rattle.call_lines.specs.declared.table.CallWord.{CallWord}
use Rattle.call_lines.proofs.Again.{call_back}
use Rattle.call_lines.proofs.Rows.{first_word, told-spoken}
use Rattle.script_text.specs.Heads.{head_of, head_with, section_of}
use Rattle.script_spelling.specs.Rules.{AreReadRules, HasReadRule}
use Rattle.script_spelling.specs.Spelling.{admin_words, task_line, task_lines}
use Rattle.call_lines.proofs.Rules.{text_after}
use Rattle.script_spelling.proofs.Many.{IsAt, Leads, again_at, by_map, many}
use Rattle.script_spelling.proofs.PathsAgain.{AreFound, paths_known}
use Rattle.script_spelling.proofs.Steps.{Reads, followed, one_line}
use Rattle.script_spelling.proofs.Words.{id_back, id_plain}

room : (n m : ℕ) → n < m → nat_lt n m ≡ true
room n m h = grind (arith, nat_tests)

not_above : (n most : ℕ) → n ≤ most → nat_lt most n ≡ false
not_above n most h = grind (arith, nat_tests)

-- there is room for a rule if the call appends one
free_for : (b : Bool) (n : ℕ) → n + one_if b ≤ most_rules
    → (b && not (nat_lt n most_rules)) ≡ false
free_for false n h = refl
free_for true n h = rw (room n most_rules (omega (arith, h))) refl

-- ---- credentials

-- the four numbers of the credentials are within their limits
pub record IsCred (c : Cred) : Type 0 where
  pub uid : is_id c.uid ≡ true
  pub euid : is_id c.euid ≡ true
  pub gid : is_id c.gid ≡ true
  pub egid : is_id c.egid ≡ true

cred_parts : (c : Cred) → is_cred c ≡ true → IsCred c
cred_parts c h =
    let a = is_id c.uid in
    let b = is_id c.euid in
    let g = is_id c.gid in
    let f = is_id c.egid in
    let h3 : (a && b && g) ≡ true = left_true (a && b && g) f h in
    let h2 : (a && b) ≡ true = left_true (a && b) g h3 in
    record {
      uid = left_true a b h2;
      euid = right_true a b h2;
      gid = right_true (a && b) g h3;
      egid = right_true (a && b && g) f h;
    }

abbrev id_words : Cred → Line
id_words c =
    (codes "uid=" ++ decimal c.uid) ∷ (codes "euid=" ++ decimal c.euid)
    ∷ (codes "gid=" ++ decimal c.gid) ∷ (codes "egid=" ++ decimal c.egid) ∷ []

cred_plain : (c : Cred) → IsCred c → (admin : Bool)
    → list_all is_plain (id_words c ++ admin_words admin) ≡ true
cred_plain c h true =
    rw (id_plain c.uid h.uid, id_plain c.euid h.euid, id_plain c.gid h.gid, id_plain c.egid h.egid)
    refl
cred_plain c h false =
    rw (id_plain c.uid h.uid, id_plain c.euid h.euid, id_plain c.gid h.gid, id_plain c.egid h.egid)
    refl

cred_back : (c : Cred) → IsCred c → (admin : Bool)
    → cred_in (take 9 (id_words c ++ admin_words admin)) ≡ Some (record c { admin = admin })
cred_back c h true =
    rw (id_back c.uid h.uid, id_back c.euid h.euid, id_back c.gid h.gid, id_back c.egid h.egid) refl
cred_back c h false =
    rw (id_back c.uid h.uid, id_back c.euid h.euid, id_back c.gid h.gid, id_back c.egid h.egid) refl

module _ (d : Draft) (c : Cred) (h : is_cred c ≡ true) (at : IsAt d.at 12)
    (few : length d.script.tasks < most_tasks) where
  abbrev with_it : Draft
  with_it = record d {
    script = record d.script { tasks = d.script.tasks ++ record { cred = c; calls = [] } ∷ [] };
    at = 12;
  }

  put_back : with_cred c (record d { at = 12 }) ≡ Ok with_it
  unfolding with_cred
  put_back = rw (room (length d.script.tasks) most_tasks few) refl

  task_back : with_task (take 9 (id_words c ++ admin_words c.admin)) (record d { at = 12 })
      ≡ Ok with_it
  unfolding with_task
  task_back = rw (cred_back c (cred_parts c h) c.admin) put_back

  task_again : Reads d (task_line c ∷ []) with_it
  unfolding with_head
  task_again =
      one_line (codes "task") (id_words c ++ admin_words c.admin) head.Task d with_it refl refl
      (cred_plain c (cred_parts c h) c.admin) refl (again_at 12 d.at at) task_back

-- ---- calls, one line after another

-- the calls so far, with the counts of the draft
pub record Called : Type 0 where
  pub done : List Call
  pub calls : ℕ
  pub appended : ℕ
  pub sum : ℕ

-- the limits on the counts after all calls of a task
pub record Most : Type 0 where
  pub calls : ℕ
  pub appended : ℕ
  pub sum : ℕ

pub record AreFew (rules : ℕ) (most : Most) : Type 0 where
  pub calls : most.calls ≤ most_calls
  pub appended : rules + most.appended ≤ most_rules
  pub sum : most.sum ≤ most_bytes

abbrev appending : Call → ℕ
appending c = one_if (appends c)

module _ (base : Draft) (found : AreFound base.script.files base.paths) (tasks : List TaskBlock)
    (t : TaskBlock) (most : Most) (few : AreFew (length base.script.rules) most) where
  abbrev calling : Called → Draft
  calling x = record base {
    script = record base.script {
      tasks = tasks ++ record { cred = t.cred; calls = x.done } ∷ [];
    };
    at = 12;
    calls = x.calls;
    appended = x.appended;
    sum = x.sum;
  }

  -- the remaining calls have their forms, and there is room for them
  pub record AreLeft (x : Called) (cs : List Call) : Type 0 where
    pub forms : list_all (is_line_call (length base.paths)) cs ≡ true
    pub read : AllByRecursion HasReadRule cs
    pub calls : x.calls + length cs ≤ most.calls
    pub appended : x.appended + sum_by appending cs ≤ most.appended
    pub sum : x.sum + sum_by call_bytes cs ≤ most.sum
    pub whole : x.done ++ cs ≡ t.calls

  abbrev after : Call → Called → Called
  after c x = record {
    done = x.done ++ c ∷ [];
    calls = x.calls + 1;
    appended = x.appended + appending c;
    sum = x.sum + call_bytes c;
  }

  made_back : (c : Call) (x : Called) → x.calls < most_calls
      → length base.script.rules + x.appended + one_if (appends c) ≤ most_rules
      → x.sum + call_bytes c ≤ most_bytes → with_call c (calling x) ≡ Ok (calling (after c x))
  unfolding with_call
  made_back c x calls appended sum =
      let block : TaskBlock = record { cred = t.cred; calls = x.done } in
      rw (
        room x.calls most_calls calls,
        free_for (appends c) (length base.script.rules + x.appended) appended,
        not_above (x.sum + call_bytes c) most_bytes sum,
      )
      (ap (λ (ts : List TaskBlock). Ok (record (calling (after c x)) {
        script = record base.script { tasks = ts };
      })) (change_after (task_with c) tasks block))

  line_back : (w : CallWord) (c : Call) (x : Called) (text : Option (List ℕ)) (words : Line)
      → call_of w text words base.paths ≡ Ok c
      → with_call c (calling x) ≡ Ok (calling (after c x))
      → with_call_line w text words (calling x) ≡ Ok (calling (after c x))
  unfolding with_call_line
  line_back w c x text words is made = rw is made

  one_call : (c : Call) (cs : List Call) (x : Called) → AreLeft x (c ∷ cs)
      → Leads Called calling (calling x) (call_line base.paths c ∷ []) (λ y. AreLeft y cs)
  unfolding with_head
  one_call c cs x h =
      let form = is_line_call (length base.paths) c in
      let rest = list_all (is_line_call (length base.paths)) cs in
      let known = paths_known base.script.files base.paths found in
      let back = call_back base.paths known c (left_true form rest h.forms) h.read.0 in
      let w = (spoken c).word in
      let ws = words_after base.paths (spoken c) in
      let first = first_word w in
      let sums = sum_by-cons call_bytes c cs in
      let rules = sum_by-cons appending c cs in
      let y : Called = after c x in
      let made = made_back c x (omega (arith, h.calls, few.calls))
      (omega (arith, h.appended, rules, few.appended)) (omega (arith, h.sum, sums, few.sum)) in
      let kind : head_of (row w).word ≡ Some (head.Call w) =
      ap (λ (o : Option CallWord). head_with o (section_of (row w).word)) first.kind in
      let P : Line → Type 0 = λ l. Reads (calling x) (l ∷ []) (calling y) in
      let reads : P (line_by base.paths (spoken c)) =
      one_line (row w).word ws (head.Call w) (calling x) (calling y)
      first.begins first.plain back.plain kind refl
      (line_back w c x (text_after ws) (take 9 ws) back.back made) in
      record {
        to = y;
        reads = subst P (sym (told-spoken (line_by base.paths) c)) reads;
        is = record {
          forms = right_true form rest h.forms;
          read = h.read.1;
          calls = omega (arith, h.calls);
          appended = omega (arith, h.appended, rules);
          sum = omega (arith, h.sum, sums);
          whole = append_assoc x.done (c ∷ []) cs ∙ h.whole;
        };
      }

  calls_again : (x : Called) → AreLeft x t.calls
      → Leads Called calling (calling x) (map (call_line base.paths) t.calls) (λ y. AreLeft y [])
  calls_again x h =
      let r = many calling (λ c. call_line base.paths c ∷ []) AreLeft one_call t.calls x h in
      record {
        to = r.to;
        reads = by_map (call_line base.paths) t.calls (calling x) (calling r.to) r.reads;
        is = r.is;
      }

-- ---- one task after another

-- the tasks so far, with the counts of the draft
pub record Tasked : Type 0 where
  pub done : List TaskBlock
  pub at : ℕ
  pub calls : ℕ
  pub appended : ℕ
  pub sum : ℕ

module _ (base : Draft) (found : AreFound base.script.files base.paths) (tasks : List TaskBlock)
  where
    abbrev pub tasking : Tasked → Draft
    tasking x = record base {
      script = record base.script { tasks = x.done };
      at = x.at;
      calls = x.calls;
      appended = x.appended;
      sum = x.sum;
    }

    -- the remaining tasks have their forms, and there is room for them
    pub record TasksLeft (x : Tasked) (ts : List TaskBlock) : Type 0 where
      pub at : IsAt x.at 12
      pub forms : list_all (is_task (length base.script.files)) ts ≡ true
      pub read : AllByRecursion AreReadRules ts
      pub few : length x.done + length ts ≤ most_tasks
      pub calls : x.calls + sum_by calls_of ts ≤ most_calls
      pub appended : length base.script.rules + (x.appended + sum_by appended_by ts) ≤ most_rules
      pub sum : x.sum + sum_by task_bytes ts ≤ most_bytes
      pub whole : x.done ++ ts ≡ tasks

    one_task : (t : TaskBlock) (ts : List TaskBlock) (x : Tasked) → TasksLeft x (t ∷ ts)
        → Leads Tasked tasking (tasking x) (task_lines base.paths t) (λ y. TasksLeft y ts)
    one_task t ts x h =
        let files = base.script.files in
        let form = is_task (length files) t in
        let rest = list_all (is_task (length files)) ts in
        let is : form ≡ true = left_true form rest h.forms in
        let all = list_all (is_line_call (length files)) t.calls in
        let cred : is_cred t.cred ≡ true = left_true (is_cred t.cred) all is in
        let counts = sum_by-cons calls_of t ts in
        let rules = sum_by-cons appended_by t ts in
        let sums = sum_by-cons task_bytes t ts in
        let most : Most = record {
          calls = x.calls + length t.calls;
          appended = x.appended + appended_by t;
          sum = x.sum + task_bytes t;
        } in
        let few : AreFew (length base.script.rules) most = record {
          calls = omega (arith, h.calls, counts);
          appended = omega (arith, h.appended, rules);
          sum = omega (arith, h.sum, sums);
        } in
        let from : Called = record {
          done = [];
          calls = x.calls;
          appended = x.appended;
          sum = x.sum;
        } in
        let same_count : length base.paths ≡ length files =
        ap length found.are ∙ length-map files path_of_block in
        let r = calls_again base found x.done t most few from (record {
          forms = ap (λ (n : ℕ). list_all (is_line_call n) t.calls) same_count
              ∙ right_true (is_cred t.cred) all is;
          read = h.read.0;
          calls = omega arith;
          appended = omega arith;
          sum = omega arith;
          whole = refl;
        }) in
        let y : Tasked = record {
          done = x.done ++ t ∷ [];
          at = 12;
          calls = r.to.calls;
          appended = r.to.appended;
          sum = r.to.sum;
        } in
        let same : r.to.done ≡ t.calls = sym (append-nil r.to.done) ∙ r.is.whole in
        let first = with_it (tasking x) t.cred cred h.at (omega (arith, h.few)) in
        let P : List Call → Type 0 =
        λ l. Reads first (map (call_line base.paths) t.calls) (calling base found x.done t most few
        (record { done = l; calls = r.to.calls; appended = r.to.appended; sum = r.to.sum })) in
        let lines = map (call_line base.paths) t.calls in
        let calls : Reads first lines (tasking y) = subst P same r.reads in
        record {
          to = y;
          reads = followed (task_line t.cred ∷ []) lines (tasking x) first (tasking y)
              (task_again (tasking x) t.cred cred h.at (omega (arith, h.few))) calls;
          is = record {
            at = record { some = omega arith; few = omega arith };
            forms = right_true form rest h.forms;
            read = h.read.1;
            few = omega (arith, h.few, length-append x.done (t ∷ []));
            calls = omega (arith, h.calls, counts, r.is.calls);
            appended = omega (arith, h.appended, rules, r.is.appended);
            sum = omega (arith, h.sum, sums, r.is.sum);
            whole = append_assoc x.done (t ∷ []) ts ∙ h.whole;
          };
        }

    -- reading the lines of all tasks makes the tasks again
    pub tasks_again : (x : Tasked) → TasksLeft x tasks
        → Leads Tasked tasking (tasking x) (flat_map (task_lines base.paths) tasks)
        (λ y. TasksLeft y [])
    tasks_again x h = many tasking (task_lines base.paths) TasksLeft one_task tasks x h

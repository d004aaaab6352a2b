-- The lines of rules and tasks are read.
use Rattle.std.proofs.Common.{◌≡◌, ℕ, zero, suc, ◌+◌, ◌*◌, ◌<◌, ◌≤◌, ◌==◌, true, nat_lt, List, [], ◌∷◌, ◌++◌, length, Some, Result, Ok, Err, refl, ap, ◌∙◌, subst, arith, length-append}
use Rattle.std.specs.Prelude.{codes}
use Rattle.std.specs.List.{list_all}
use Rattle.std.specs.Result.{is_ok}
use Rattle.std.proofs.lemmas.Bool.{false≢true}
use Rattle.std.proofs.lemmas.Bool.Decides.{nat_tests}
use Rattle.std.proofs.lemmas.List.Folds.{list_all-append}
use Rattle.inode_meta.specs.declared.identity.Cred.{Cred}
use Rattle.script_words.specs.policy.Grammar.{rule_of}
use Rattle.call_steps.specs.policy.RuleValue.{RuleValue}
use Rattle.script_text.specs.Draft.{Draft}
use Rattle.script_text.specs.Grammar.{with_head}
use Rattle.script_text.specs.Limits.{most_rules, most_tasks}
use Rattle.script_text.specs.Places.{place_in}
use Rattle.script_text.specs.Tasks.{with_cred, with_rule, with_task}
use Rattle.script_text.specs.declared.blocks.TaskBlock.{TaskBlock}
use Rattle.script_text.specs.declared.head.Head.TheVariants as head
use Rattle.script_spelling.specs.Lines.{Line, line_text, words_text}
use Rattle.script_spelling.proofs.Many.{IsAt, again_at}
use Rattle.load_gen.specs.Accepted.{never_waits}
use Rattle.load_gen.specs.Script.{groups, rules_text, tasks}
use Rattle.load_gen.proofs.CallsRead.{Finds, InTask, groups_read}
use Rattle.load_gen.proofs.FilesRead.{HasFiles}
use Rattle.load_gen.proofs.Makes.{Makes, and_then, as_text, by_line, no_text, weaker}
use Rattle.load_gen.proofs.Numbered.{found_path, path_of}

room : (n m : ℕ) → n < m → nat_lt n m ≡ true
room n m h = grind (arith, nat_tests)

-- ---- rules

-- the draft after the files and n rules
pub record HasRules (n : ℕ) (d : Draft) : Type 0 where
  pub at : IsAt d.at 11
  pub files : length d.script.files ≡ 64
  pub finds : Finds d
  pub rules : length d.script.rules ≡ n
  pub tasks : d.script.tasks ≡ []
  pub appended : d.appended ≡ 0
  pub calls : d.calls ≡ 0
  pub sum : d.sum ≤ 1280000

-- the draft after all 64 files has no rule, and finds each file by its path
pub no_rules : (i : ℕ) → i ≡ 64 → (d : Draft) → HasFiles i d → HasRules 0 d
no_rules i all d h = record {
  at = record { some = h.at.some; few = omega (arith, h.at.few) };
  files = h.files ∙ all;
  finds = λ f lt. ap (λ (ps : List (List ℕ)). place_in ps (path_of f)) h.paths
      ∙ found_path i f (omega (arith, lt, all)) (omega (arith, all));
  rules = rw h.rules refl;
  tasks = h.tasks;
  appended = h.appended;
  calls = h.calls;
  sum = omega (arith, h.sum, all);
}

-- a result that is `Ok` has a value
ok_is : {A E : Type 0} (r : Result A E) → is_ok r ≡ true → (x : A) × (r ≡ Ok x)
ok_is (Ok x) h = (x, refl)
ok_is (Err e) h = absurd (false≢true h)

abbrev measure_words : Line
measure_words = codes "measure" ∷ codes "func=FILE_CHECK" ∷ codes "mask=MAY_READ" ∷ []

abbrev appraise_words : Line
appraise_words = codes "appraise" ∷ codes "func=FILE_CHECK" ∷ codes "fowner=0" ∷ []

measure_is : (r : RuleValue) × (rule_of (words_text measure_words) ≡ Ok r)
measure_is = ok_is (rule_of (words_text measure_words)) refl

appraise_is : (r : RuleValue) × (rule_of (words_text appraise_words) ≡ Ok r)
appraise_is = ok_is (rule_of (words_text appraise_words)) refl

abbrev with_it : RuleValue → Draft → Draft
with_it r d = record d { script = record d.script { rules = d.script.rules ++ r ∷ [] }; at = 11 }

module _ (n : ℕ) (few : n < 2) (d : Draft) (h : HasRules n d) where
  rule_made : (text : List ℕ) (r : RuleValue) → rule_of text ≡ Ok r
      → with_rule (Some text) (record d { at = 11 }) ≡ Ok (with_it r d)
  unfolding with_rule
  rule_made text r is =
      let free : nat_lt (length d.script.rules + d.appended) most_rules ≡ true =
      room (length d.script.rules + d.appended) most_rules
      (omega (arith, h.rules, h.appended, few)) in
      rw (is, free) refl

  ruled_is : (r : RuleValue) → HasRules (n + 1) (with_it r d)
  ruled_is r = record {
    at = record { some = omega arith; few = omega arith };
    files = h.files;
    finds = h.finds;
    rules = omega (arith, length-append d.script.rules (r ∷ []), h.rules);
    tasks = h.tasks;
    appended = h.appended;
    calls = h.calls;
    sum = h.sum;
  }

  measure_line : Makes d (line_text (codes "rule" ∷ measure_words)) (HasRules (n + 1))
  unfolding with_head
  measure_line =
      by_line (codes "rule") measure_words head.Rule d (with_it measure_is.0 d) (HasRules (n + 1))
      refl refl refl refl (again_at 11 d.at h.at)
      (rule_made (words_text measure_words) measure_is.0 measure_is.1) (ruled_is measure_is.0)

  appraise_line : Makes d (line_text (codes "rule" ∷ appraise_words)) (HasRules (n + 1))
  unfolding with_head
  appraise_line =
      by_line (codes "rule") appraise_words head.Rule d (with_it appraise_is.0 d)
      (HasRules (n + 1)) refl refl refl refl (again_at 11 d.at h.at)
      (rule_made (words_text appraise_words) appraise_is.0 appraise_is.1) (ruled_is appraise_is.0)

pub rules_read : (d : Draft) → HasRules 0 d → Makes d rules_text (HasRules 2)
rules_read d h =
    let t = line_text (codes "rule" ∷ measure_words) in
    let u = line_text (codes "rule" ∷ appraise_words) in
    as_text d (t ++ u) rules_text (HasRules 2) refl
    (and_then d t u (HasRules 1) (HasRules 2) (measure_line 0 (omega arith) d h)
    (λ e k. appraise_line 1 (omega arith) e k))

-- ---- tasks

-- the draft after t tasks, with at most n calls
pub record HasTasks (t n : ℕ) (d : Draft) : Type 0 where
  pub at : IsAt d.at 12
  pub files : length d.script.files ≡ 64
  pub finds : Finds d
  pub rules : length d.script.rules ≡ 2
  pub tasks : length d.script.tasks ≡ t
  pub calls : d.calls ≤ n
  pub sum : d.sum ≤ 1280000 + 100 * n
  pub free : list_all never_waits d.script.tasks ≡ true

pub no_tasks : (d : Draft) → HasRules 2 d → HasTasks 0 0 d
no_tasks d h = record {
  at = record { some = h.at.some; few = omega (arith, h.at.few) };
  files = h.files;
  finds = h.finds;
  rules = h.rules;
  tasks = rw h.tasks refl;
  calls = omega (arith, h.calls);
  sum = omega (arith, h.sum);
  free = rw h.tasks refl;
}

is_12 : (n : ℕ) → (n == 12) ≡ true → n ≡ 12
is_12 n h = grind (arith, nat_tests)

-- the draft leaves the block of its last task
left : (t n m : ℕ) → n ≡ m → (d : Draft) → InTask t n d → HasTasks t m d
left t n m same d h =
    let at = is_12 d.at h.at in
    record {
      at = record { some = omega (arith, at); few = omega (arith, at) };
      files = h.files;
      finds = h.finds;
      rules = h.rules;
      tasks = h.tasks;
      calls = omega (arith, h.calls, same);
      sum = omega (arith, h.sum, same);
      free = h.free;
    }

abbrev root : Cred
root = record { uid = 0; euid = 0; gid = 0; egid = 0; admin = true }

abbrev task_words : Line
task_words =
    codes "uid=0" ∷ codes "euid=0" ∷ codes "gid=0" ∷ codes "egid=0" ∷ codes "admin" ∷ []

abbrev task_text : List ℕ
task_text = line_text (codes "task" ∷ task_words)

-- the block of a task that has no calls yet
abbrev new_task : TaskBlock
new_task = record { cred = root; calls = [] }

abbrev begun : Draft → Draft
begun d = record d {
  script = record d.script { tasks = d.script.tasks ++ new_task ∷ [] };
  at = 12;
}

module _ (t n : ℕ) (few : t < 16) (d : Draft) (h : HasTasks t n d) where
  cred_made : with_cred root (record d { at = 12 }) ≡ Ok (begun d)
  unfolding with_cred
  cred_made =
      let free : nat_lt (length d.script.tasks) most_tasks ≡ true =
      room (length d.script.tasks) most_tasks (omega (arith, h.tasks, few)) in
      rw free refl

  begun_is : InTask (t + 1) n (begun d)
  begun_is = record {
    at = refl;
    files = h.files;
    finds = h.finds;
    rules = h.rules;
    tasks = omega (arith, length-append d.script.tasks (new_task ∷ []), h.tasks);
    calls = h.calls;
    sum = h.sum;
    free = rw (list_all-append never_waits d.script.tasks (new_task ∷ []), h.free) refl;
  }

  task_line : Makes d task_text (InTask (t + 1) n)
  unfolding with_head with_task
  task_line =
      by_line (codes "task") task_words head.Task d (begun d) (InTask (t + 1) n) refl refl refl refl
      (again_at 12 d.at h.at) cred_made begun_is

-- the tasks are read one after another
pub tasks_read : (n t x m : ℕ) (d : Draft) → HasTasks t m d → t + n ≤ 16 → m + 192 * n ≤ 3072
    → Makes d (tasks n t x) (HasTasks (t + n) (m + 192 * n))
unfolding tasks
tasks_read zero t x m d h few calls =
    let same : t ≡ t + 0 = omega arith in
    let none : m ≡ m + 192 * 0 = omega arith in
    let P : ℕ → Type 0 = λ k. HasTasks k m d in
    let R : ℕ → Type 0 = λ k. HasTasks (t + 0) k d in
    no_text d (HasTasks (t + 0) (m + 192 * 0)) (subst R none (subst P same h))
tasks_read (suc n) t x m d h few calls =
    let g = groups 64 t x in
    let rest = tasks n (t + 1) g.state in
    let Q = HasTasks (t + suc n) (m + 192 * suc n) in
    let same : t + 1 + n ≡ t + suc n = omega arith in
    let all : m + 192 + 192 * n ≡ m + 192 * suc n = omega arith in
    and_then d (task_text ++ g.text) rest (HasTasks (t + 1) (m + 192)) Q
    (and_then d task_text g.text (InTask (t + 1) m) (HasTasks (t + 1) (m + 192))
    (task_line t m (omega (arith, few)) d h)
    (λ e k. weaker e g.text (InTask (t + 1) (m + 3 * 64)) (HasTasks (t + 1) (m + 192))
    (left (t + 1) (m + 3 * 64) (m + 192) (omega arith))
    (groups_read 64 t x (t + 1) m e (omega (arith, few)) k (omega (arith, calls)))))
    (λ e k. (let P : ℕ → Type 0 = λ a. Makes e rest (HasTasks a (m + 192 * suc n)) in
    let R : ℕ → Type 0 = λ b. Makes e rest (HasTasks (t + 1 + n) b) in
    subst P same
    (subst R all
    (tasks_read n (t + 1) g.state (m + 192) e k (omega (arith, few)) (omega (arith, calls))))))

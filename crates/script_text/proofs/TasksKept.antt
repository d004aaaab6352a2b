-- Rules, tasks, calls and the end preserve the invariant of a script.
use Rattle.std.proofs.Common.{◌≡◌, ℕ, ◌+◌, ◌≤◌, Bool, true, false, not, ◌&&◌, nat_le, nat_lt, List, [], ◌∷◌, ◌++◌, length, Option, Some, None, Ok, Err, IfOk, IfSome, if◌then◌else◌, ◌-◌, ◌==◌, refl, inl, inr, sym, ap, ◌∙◌, arith, length-append}
use Rattle.std.specs.Prelude.{codes}
use Rattle.std.specs.List.{list_all}
use Rattle.std.proofs.lemmas.Bool.{cases_Bool}
use Rattle.std.proofs.lemmas.Bool.Decides.{nat_tests}
use Rattle.std.proofs.lemmas.List.Folds.{list_all-append}
use Rattle.std.proofs.lemmas.List.Sums.{sum_by_push}
use Rattle.call_steps.specs.declared.call.Call.{Call}
use Rattle.call_steps.specs.declared.ending.Ending.{Ending}
use Rattle.call_steps.specs.declared.ending.Ending.TheVariants as ending
use Rattle.inode_meta.specs.declared.identity.Cred.{Cred}
use Rattle.text_forms.specs.Lines.{◌>>=◌}
use Rattle.text_forms.specs.Numbers.{is_short_numeral, short_number_of}
use Rattle.text_forms.proofs.Visible.{all_weaker}
use Rattle.script_words.specs.declared.fault.LineCause.TheVariants as cause
use Rattle.script_words.specs.Forms.{after_key_by, id_of, place_among, rule_of}
use Rattle.call_lines.specs.Calls.{call_of}
use Rattle.script_text.specs.Draft.{Draft, change_last}
use Rattle.script_text.specs.Forms.{appended_by, calls_of, is_cred, is_ending, is_line_call, is_task, task_bytes}
use Rattle.script_fields.specs.Limits.{most_bytes, most_calls, most_rules, most_tasks, most_threads, most_turns}
use Rattle.script_text.specs.Settings.{Made, one_if}
use Rattle.script_text.specs.Tasks.{appends, call_bytes, called, ended, has_room, task_with, with_call, with_call_line, with_cred, with_rounds, with_rule, with_schedule, with_task, with_threads}
use Rattle.script_fields.specs.TaskFields.{admin_of, cred_in, cred_with, few_turns, threads_of, turn_of, turns_from, turns_of}
use Rattle.script_text.specs.declared.blocks.TaskBlock.{TaskBlock}
use Rattle.call_lines.specs.declared.table.CallWord.{CallWord}
use Rattle.call_lines.proofs.Fitting.{any_ok, call_formed, some_ok}
use Rattle.script_text.proofs.FileForms.{Ids, id_formed}
use Rattle.call_lines.proofs.Holding.{at_some, both_true, bound, given, left_true, not_false, right_true, tested}
use Rattle.script_text.proofs.Lasts.{all_changed, length_changed, sum_changed}
use Rattle.call_lines.proofs.ValueForms.{any_within, number_within}
use Rattle.script_text.proofs.SettingsKept.{IsDraft, Keeps}

-- there is room for one more rule
room_left : (d : Draft) → has_room d ≡ true → length d.script.rules + d.appended + 1 ≤ most_rules
room_left d h = grind (arith, nat_tests, h)

pub rule_kept : (text : Option (List ℕ)) (d : Draft) → IsDraft d → Keeps (with_rule text d)
unfolding with_rule
rule_kept text d h =
    bound (λ r. Unit {0}) IsDraft (rule_of text)
    (λ r. if has_room d then Ok (record d {
      script = record d.script { rules = d.script.rules ++ r ∷ [] };
    }) else Err cause.TooMany)
    (any_ok (rule_of text))
    (λ r _. tested IsDraft (has_room d)
    (Ok (record d { script = record d.script { rules = d.script.rules ++ r ∷ [] } }))
    (Err cause.TooMany)
    (λ room. (
      h.0,
      h.1,
      h.2,
      h.3,
      h.4,
      h.5,
      h.6,
      h.7,
      h.8,
      record {
        calls = h.9.calls;
        few = h.9.few;
        appended = h.9.appended;
        rules = omega (arith, room_left d room, length-append d.script.rules (r ∷ []));
      },
      h.10,
      h.11,
      h.12,
    ))
    (λ e. tt))

-- ---- tasks

more_lt : (i n m : ℕ) → n ≤ m → nat_lt i n ≡ true → nat_lt i m ≡ true
more_lt i n m le h = grind (arith, nat_tests)

ending_of_more : (n m : ℕ) → n ≤ m → (e : Ending) → is_ending n e ≡ true → is_ending m e ≡ true
ending_of_more n m le (ending.Schedule turns) k =
    both_true (list_all (λ t. nat_lt t m) turns) (nat_le (length turns) most_turns)
    (all_weaker (λ t. nat_lt t n) (λ t. nat_lt t m) (λ t lt. more_lt t n m le lt) turns
    (left_true (list_all (λ t. nat_lt t n) turns) (nat_le (length turns) most_turns) k))
    (right_true (list_all (λ t. nat_lt t n) turns) (nat_le (length turns) most_turns) k)
ending_of_more n m le ending.Rounds k = k
ending_of_more n m le (ending.Threads t) k = k

fits : (n most : ℕ) → nat_lt n most ≡ true → n + 1 ≤ most
fits n most h = grind (arith, nat_tests)

cred_kept : (c : Cred) (d : Draft) → IsDraft d → is_cred c ≡ true → Keeps (with_cred c d)
unfolding with_cred
cred_kept c d h form =
    let t : TaskBlock = record { cred = c; calls = [] } in
    let n = length d.script.files in
    tested IsDraft (nat_lt (length d.script.tasks) most_tasks)
    (Ok (record d { script = record d.script { tasks = d.script.tasks ++ t ∷ [] } }))
    (Err cause.TooMany)
    (λ room. let more = length-append d.script.tasks (t ∷ []) in (
      h.0,
      h.1,
      h.2,
      h.3,
      h.4,
      h.5,
      h.6,
      h.7,
      record {
        forms = rw (list_all-append (is_task n) d.script.tasks (t ∷ []), h.8.forms, form) refl;
        few = omega (arith, more, fits (length d.script.tasks) most_tasks room);
      },
      record {
        calls = omega (arith, sum_by_push calls_of d.script.tasks t, h.9.calls);
        few = h.9.few;
        appended = omega (arith, sum_by_push appended_by d.script.tasks t, h.9.appended);
        rules = h.9.rules;
      },
      ending_of_more (length d.script.tasks) (length (d.script.tasks ++ t ∷ []))
          (omega (arith, more)) d.script.ending h.10,
      h.11,
      record {
        counted = h.12.counted;
        all = omega (arith, sum_by_push task_bytes d.script.tasks t, h.12.all);
        few = h.12.few;
      },
    ))
    (λ e. tt)

cred_formed_of : (u e g f : Option ℕ) (a : Option Bool) → Ids u → Ids e → Ids g → Ids f
    → IfSome (cred_with u e g f a) (λ c. is_cred c ≡ true)
cred_formed_of (Some u) (Some e) (Some g) (Some f) (Some a) hu he hg hf = rw (hu, he, hg) hf
cred_formed_of (Some u) (Some e) (Some g) (Some f) None hu he hg hf = tt
cred_formed_of (Some u) (Some e) (Some g) None a hu he hg hf = tt
cred_formed_of (Some u) (Some e) None f a hu he hg hf = tt
cred_formed_of (Some u) None g f a hu he hg hf = tt
cred_formed_of None e g f a hu he hg hf = tt

cred_formed : (words : List (List ℕ)) → IfSome (cred_in words) (λ c. is_cred c ≡ true)
cred_formed (u ∷ e ∷ g ∷ f ∷ more) =
    cred_formed_of (after_key_by id_of (codes "uid=") u) (after_key_by id_of (codes "euid=") e)
    (after_key_by id_of (codes "gid=") g) (after_key_by id_of (codes "egid=") f) (admin_of more)
    (id_formed (codes "uid=") u) (id_formed (codes "euid=") e) (id_formed (codes "gid=") g)
    (id_formed (codes "egid=") f)
cred_formed (u ∷ e ∷ g ∷ []) = tt
cred_formed (u ∷ e ∷ []) = tt
cred_formed (u ∷ []) = tt
cred_formed [] = tt

pub task_kept : (words : List (List ℕ)) (d : Draft) → IsDraft d → Keeps (with_task words d)
unfolding with_task
task_kept words d h =
    given IsDraft (cred_in words) cause.BadField (λ c. with_cred c d)
    (λ c e. cred_kept c d h
    (at_some (λ k. is_cred k ≡ true) (cred_in words) c (cred_formed words) e))

-- ---- calls

-- there is room for the rule if the call appends one
room_for : (b r : Bool) (n : ℕ) → (b && not r) ≡ false → (r ≡ true → n + 1 ≤ most_rules)
    → n ≤ most_rules → n + one_if b ≤ most_rules
room_for true r n e room le = room (not_false r e)
room_for false r n e room le = omega (arith, le)

one_call_more : (files : ℕ) (c : Call) → is_line_call files c ≡ true → (t : TaskBlock)
    → is_task files t ≡ true → is_task files (task_with c t) ≡ true
one_call_more files c is t h =
    let cred = is_cred t.cred in
    let all = list_all (is_line_call files) t.calls in
    let calls : all ≡ true = right_true cred all h in
    both_true cred (list_all (is_line_call files) (t.calls ++ c ∷ [])) (left_true cred all h)
    (rw (list_all-append (is_line_call files) t.calls (c ∷ []), calls, is) refl)

within : (sum : ℕ) → nat_lt most_bytes sum ≡ false → sum ≤ most_bytes
within sum h = grind (arith, nat_tests)

called_kept : (c : Call) (d : Draft) → IsDraft d → is_line_call (length d.script.files) c ≡ true
    → d.calls + 1 ≤ most_calls
    → length d.script.rules + (d.appended + one_if (appends c)) ≤ most_rules
    → d.sum + call_bytes c ≤ most_bytes → IsDraft (called c d)
called_kept c d h is few rules small =
    let f = task_with c in
    let same = length_changed f d.script.tasks in
    let n = length d.script.files in (
      h.0,
      h.1,
      h.2,
      h.3,
      h.4,
      h.5,
      h.6,
      h.7,
      record {
        forms = all_changed f (is_task n) (one_call_more n c is) d.script.tasks h.8.forms;
        few = omega (arith, same, h.8.few);
      },
      record {
        calls = omega (
          arith,
          h.9.calls,
          sum_changed f calls_of 1 (λ t. omega (arith, length-append t.calls (c ∷ [])))
              d.script.tasks,
        );
        few = few;
        appended = omega (
          arith,
          h.9.appended,
          sum_changed f appended_by (one_if (appends c))
              (λ t. omega (arith, sum_by_push (λ x. one_if (appends x)) t.calls c)) d.script.tasks,
        );
        rules = rules;
      },
      ending_of_more (length d.script.tasks) (length (change_last f d.script.tasks))
          (omega (arith, same)) d.script.ending h.10,
      h.11,
      record {
        counted = h.12.counted;
        all = omega (
          arith,
          h.12.all,
          sum_changed f task_bytes (call_bytes c)
              (λ t. omega (arith, sum_by_push call_bytes t.calls c)) d.script.tasks,
        );
        few = small;
      },
    )

call_kept : (c : Call) (d : Draft) → IsDraft d → is_line_call (length d.script.files) c ≡ true
    → Keeps (with_call c d)
unfolding with_call
call_kept c d h is =
    let sum = d.sum + call_bytes c in
    let made : Made = Ok (called c d) in
    let last : Made = if nat_lt most_bytes sum then Err cause.TooLarge else made in
    let fewer : Made = if appends c && not (has_room d) then Err cause.TooMany else last in
    tested IsDraft (not (nat_lt d.calls most_calls)) (Err cause.TooMany) fewer (λ e. tt)
    (λ few. tested IsDraft (appends c && not (has_room d)) (Err cause.TooMany) last (λ e. tt)
    (λ room. tested IsDraft (nat_lt most_bytes sum) (Err cause.TooLarge) made (λ e. tt)
    (λ small. called_kept c d h is (fits d.calls most_calls (not_false _ few))
    (omega (
      arith,
      room_for (appends c) (has_room d) (length d.script.rules + d.appended) room
          (room_left d) h.9.rules,
    )) (within sum small))))

pub call_line_kept : (w : CallWord) (text : Option (List ℕ)) (words : List (List ℕ)) (d : Draft)
    → IsDraft d → Keeps (with_call_line w text words d)
unfolding with_call_line
call_line_kept w text words d h =
    bound (λ c. is_line_call (length d.paths) c ≡ true) IsDraft (call_of w text words d.paths)
    (λ c. with_call c d) (call_formed d.paths w text words)
    (λ c is. call_kept c d h
    (ap (λ (n : ℕ). is_line_call n c) (sym h.7.same) ∙ is))

-- ---- the end

place_below : (n : ℕ) (o : Option ℕ) → IfSome o (λ k. nat_le k (n - 1) ≡ true)
    → IfSome (if n == 0 then None else o) (λ k. nat_lt k n ≡ true)
place_below n None h = elim (cases_Bool (n == 0)) [
  | inl e ↦ rw e tt
  | inr e ↦ rw e tt
]
place_below n (Some k) h = elim (cases_Bool (n == 0)) [
  | inl e ↦ rw e tt
  | inr e ↦ let lt : nat_lt k n ≡ true = grind (arith, nat_tests) in rw e lt
]

turn_below : (n : ℕ) (w : List ℕ) → IfOk (turn_of n w) (λ t. nat_lt t n ≡ true)
turn_below n w =
    some_ok (λ t. nat_lt t n ≡ true) (place_among n w) cause.Unknown
    (place_below n (short_number_of 10 (n - 1) w) (number_within 10 (n - 1) w))

turns_below : (n : ℕ) (ws : List (List ℕ))
    → IfOk (turns_from n ws) (λ ts. list_all (λ t. nat_lt t n) ts ≡ true)
turns_below n [] = refl
turns_below n (w ∷ ws) =
    bound (λ t. nat_lt t n ≡ true) (λ ts. list_all (λ t. nat_lt t n) ts ≡ true) (turn_of n w)
    (λ t. turns_from n ws >>= λ ts. Ok (t ∷ ts)) (turn_below n w)
    (λ t at. bound (λ ts. list_all (λ u. nat_lt u n) ts ≡ true)
    (λ ts. list_all (λ u. nat_lt u n) ts ≡ true) (turns_from n ws) (λ ts. Ok (t ∷ ts))
    (turns_below n ws)
    (λ ts all. both_true (nat_lt t n) (list_all (λ u. nat_lt u n) ts) at all))

abbrev Turned : ℕ → List ℕ → Type 0
Turned n ts = is_ending n (ending.Schedule ts) ≡ true

few_are : (n : ℕ) (ts : List ℕ) → list_all (λ t. nat_lt t n) ts ≡ true
    → IfOk (few_turns ts) (Turned n)
few_are n ts all =
    tested (Turned n) (nat_lt most_turns (length ts)) (Err cause.TooMany) (Ok ts) (λ e. tt)
    (λ e. both_true (list_all (λ t. nat_lt t n) ts) (nat_le (length ts) most_turns) all
    (grind (arith, nat_tests)))

turns_kept : (n : ℕ) (ws : List (List ℕ)) → IfOk (turns_of n ws) (Turned n)
turns_kept n ws =
    tested (Turned n) (not (list_all (is_short_numeral 10) ws)) (Err cause.BadField)
    (turns_from n ws >>= few_turns) (λ e. tt)
    (λ e. bound (λ ts. list_all (λ t. nat_lt t n) ts ≡ true) (Turned n) (turns_from n ws) few_turns
    (turns_below n ws) (few_are n))

ended_kept : (e : Ending) (d : Draft) → IsDraft d → is_ending (length d.script.tasks) e ≡ true
    → IsDraft (ended e d)
ended_kept e d h is = (
  h.0,
  h.1,
  h.2,
  h.3,
  h.4,
  h.5,
  h.6,
  h.7,
  h.8,
  h.9,
  is,
  h.11,
  h.12,
)

pub schedule_kept : (words : List (List ℕ)) (d : Draft) → IsDraft d → Keeps (with_schedule words d)
unfolding with_schedule
schedule_kept words d h =
    bound (Turned (length d.script.tasks)) IsDraft (turns_of (length d.script.tasks) words)
    (λ turns. Ok (ended (ending.Schedule turns) d)) (turns_kept (length d.script.tasks) words)
    (λ turns is. ended_kept (ending.Schedule turns) d h is)

pub rounds_kept : (words : List (List ℕ)) (d : Draft) → IsDraft d → Keeps (with_rounds words d)
unfolding with_rounds
rounds_kept [] d h = ended_kept ending.Rounds d h refl
rounds_kept (w ∷ more) d h = tt

pub threads_kept : (words : List (List ℕ)) (d : Draft) → IsDraft d → Keeps (with_threads words d)
unfolding with_threads
threads_kept [] d h = tt
threads_kept (w ∷ []) d h =
    given IsDraft (threads_of w) cause.BadField (λ n. Ok (ended (ending.Threads n) d))
    (λ n e. ended_kept (ending.Threads n) d h
    (at_some (λ k. (nat_le 1 k && nat_le k most_threads) ≡ true) (threads_of w) n
    (any_within most_threads (short_number_of 10 most_threads w)
    (number_within 10 most_threads w)) e))
threads_kept (w ∷ v ∷ more) d h = tt

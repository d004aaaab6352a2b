-- Each line preserves the invariant of a text of buffers, and so does a whole text.
use Rattle.std.proofs.Common.{◌≡◌, ℕ, ◌+◌, ◌≤◌, Bool, true, false, not, ◌&&◌, nat_le, nat_lt, List, [], ◌∷◌, ◌++◌, length, Option, Some, None, Result, Ok, Err, IfOk, IfSome, if◌then◌else◌, ◌==◌, ok_or, refl, sym, ap, ◌∙◌, subst, inl, inr, lit≤, arith, length-append}
use Rattle.std.specs.Prelude.{codes}
use Rattle.std.specs.List.{list_all, sum_by}
use Rattle.std.specs.Str.{bytes_eq}
use Rattle.std.proofs.lemmas.Bool.{cases_Bool, eqb-true}
use Rattle.std.proofs.lemmas.Bool.Decides.{nat_tests}
use Rattle.std.proofs.lemmas.List.Folds.{list_all-append}
use Rattle.std.proofs.lemmas.List.Sums.{sum_by_push}
use Rattle.script_text.specs.events.forms.Lines.{◌>>=◌, at_line, lines}
use Rattle.script_text.specs.events.forms.Numbers.{short_number_of}
use Rattle.script_text.specs.events.forms.Words.{is_word}
use Rattle.script_text.specs.events.meta.declared.identity.Cred.{Cred}
use Rattle.script_text.specs.steps.hashes.Algo.{algo_by_name}
use Rattle.script_text.specs.script_lines.declared.fault.Fault.{Fault}
use Rattle.script_text.specs.script_lines.declared.fault.LineCause.{LineCause}
use Rattle.script_text.specs.script_lines.declared.fault.LineCause.TheVariants as cause
use Rattle.script_text.specs.script_lines.Forms.{after_key_by, id_of, rule_of}
use Rattle.script_text.specs.script_lines.Line.{cut_line, fields, is_skipped}
use Rattle.script_text.specs.script_lines.Read.{fault_at, from_ended, step_over, text_of}
use Rattle.script_text.specs.script_lines.Value.{value_of}
use Rattle.script_text.specs.fields.FileFields.{two}
use Rattle.script_text.specs.Forms.{are_bytes, is_cred}
use Rattle.script_text.specs.Limits.{most_bytes, most_rules, most_threads, most_value}
use Rattle.script_text.specs.fields.TaskFields.{cred_in, cred_with, threads_of}
use Rattle.script_text.proofs.about_calls.Fitting.{any_ok}
use Rattle.script_text.proofs.FileForms.{Ids, id_formed}
use Rattle.script_text.proofs.Holding.{at_some, both_true, bound, given, left_true, not_false, right_true, tested}
use Rattle.script_text.proofs.Lasts.{all_changed, length_changed, sum_changed}
use Rattle.script_text.proofs.ValueForms.{any_within, is_value, number_within, value_within}
use Rattle.buffer_text.specs.Draft.{Draft, start}
use Rattle.buffer_text.specs.Forms.{IsBufferText, bytes_in, bytes_of, is_buffer, is_caller, lines_of}
use Rattle.buffer_text.specs.Grammar.{Made, add, caller_of, lined, placed, with_caller, with_cred, with_critical, with_hash, with_head, with_line, with_rule, with_threads, with_version}
use Rattle.buffer_text.specs.Heads.{head_of, is_over, rank, stands}
use Rattle.buffer_text.specs.Limits.{most_callers, most_lines}
use Rattle.buffer_text.specs.Text.{Buffer, BufferValue, CallerValue, caller_with}
use Rattle.buffer_text.specs.declared.head.BufferHead.{BufferHead}
use Rattle.buffer_text.specs.declared.head.BufferHead.TheVariants as head

-- the parts of a text so far, with counts that cover its buffers and their bytes
pub record AreHeld (t : BufferValue) (lines sum : ℕ) : Type 0 where
  pub callers : list_all is_caller t.callers ≡ true
  pub callers_few : length t.callers ≤ most_callers
  pub rules_few : length t.rules ≤ most_rules
  pub lines_in : sum_by lines_of t.callers ≤ lines
  pub lines_few : lines ≤ most_lines
  pub all_in : sum_by bytes_of t.callers ≤ sum
  pub sum_few : sum ≤ most_bytes
  pub threads_some : 1 ≤ t.threads
  pub threads_few : t.threads ≤ most_threads

-- the invariant of a text while its lines are read
abbrev pub IsDraft : Draft → Type 0
IsDraft d = AreHeld d.text d.lines d.sum

abbrev pub Keeps : Made → Type 0
Keeps r = IfOk r IsDraft

text_from : (d : Draft) → IsDraft d → IsBufferText d.text
text_from d h = record {
  callers = h.callers;
  callers_few = h.callers_few;
  rules_few = h.rules_few;
  lines_few = omega (arith, h.lines_in, h.lines_few);
  bytes_few = omega (arith, h.all_in, h.sum_few);
  threads_some = h.threads_some;
  threads_few = h.threads_few;
}

-- ---- the version, the algorithm and the rules

version_kept : (words : List (List ℕ)) (d : Draft) → IsDraft d → Keeps (with_version words d)
unfolding with_version
version_kept [] d h = tt
version_kept (w ∷ []) d h =
    tested IsDraft (bytes_eq w (codes "1")) (Ok d) (Err cause.BadField) (λ e. h) (λ e. tt)
version_kept (w ∷ v ∷ more) d h = tt

hash_kept : (words : List (List ℕ)) (d : Draft) → IsDraft d → Keeps (with_hash words d)
unfolding with_hash
hash_kept [] d h = tt
hash_kept (w ∷ []) d h =
    given IsDraft (algo_by_name w) cause.BadField
    (λ a. Ok (record d { text = record d.text { hash = a } }))
    (λ a e. record {
      callers = h.callers;
      callers_few = h.callers_few;
      rules_few = h.rules_few;
      lines_in = h.lines_in;
      lines_few = h.lines_few;
      all_in = h.all_in;
      sum_few = h.sum_few;
      threads_some = h.threads_some;
      threads_few = h.threads_few;
    })
hash_kept (w ∷ v ∷ more) d h = tt

-- there is room for one more
room : (n most : ℕ) → nat_lt n most ≡ true → n + 1 ≤ most
room n most h = grind (arith, nat_tests)

rule_kept : (text : Option (List ℕ)) (d : Draft) → IsDraft d → Keeps (with_rule text d)
unfolding with_rule
rule_kept text d h =
    bound (λ r. Unit {0}) IsDraft (rule_of text)
    (λ r. if nat_lt (length d.text.rules) most_rules
    then Ok (record d { text = record d.text { rules = d.text.rules ++ r ∷ [] } })
    else Err cause.TooMany)
    (any_ok (rule_of text))
    (λ r _. tested IsDraft (nat_lt (length d.text.rules) most_rules)
    (Ok (record d { text = record d.text { rules = d.text.rules ++ r ∷ [] } }))
    (Err cause.TooMany)
    (λ few. record {
      callers = h.callers;
      callers_few = h.callers_few;
      rules_few = omega (
        arith,
        room (length d.text.rules) most_rules few,
        length-append d.text.rules (r ∷ []),
      );
      lines_in = h.lines_in;
      lines_few = h.lines_few;
      all_in = h.all_in;
      sum_few = h.sum_few;
      threads_some = h.threads_some;
      threads_few = h.threads_few;
    })
    (λ e. tt))

-- ---- callers

-- the credentials of a caller: IDs, and no right of an administrator
abbrev is_plain : Cred → Bool
is_plain c = is_cred c && not c.admin

plain_of : (u e g f : Option ℕ) → Ids u → Ids e → Ids g → Ids f
    → IfSome (cred_with u e g f (Some false)) (λ c. is_plain c ≡ true)
plain_of (Some u) (Some e) (Some g) (Some f) hu he hg hf = rw (hu, he, hg, hf) refl
plain_of (Some u) (Some e) (Some g) None hu he hg hf = tt
plain_of (Some u) (Some e) None f hu he hg hf = tt
plain_of (Some u) None g f hu he hg hf = tt
plain_of None e g f hu he hg hf = tt

four_words : (words : List (List ℕ)) → length words ≡ 4
    → IfSome (cred_in words) (λ c. is_plain c ≡ true)
four_words [] is = absurd (omega (arith, is))
four_words (u ∷ []) is = absurd (omega (arith, is))
four_words (u ∷ e ∷ []) is = absurd (omega (arith, is))
four_words (u ∷ e ∷ g ∷ []) is = absurd (omega (arith, is))
four_words (u ∷ e ∷ g ∷ f ∷ []) is =
    plain_of (after_key_by id_of (codes "uid=") u) (after_key_by id_of (codes "euid=") e)
    (after_key_by id_of (codes "gid=") g) (after_key_by id_of (codes "egid=") f)
    (id_formed (codes "uid=") u) (id_formed (codes "euid=") e) (id_formed (codes "gid=") g)
    (id_formed (codes "egid=") f)
four_words (u ∷ e ∷ g ∷ f ∷ x ∷ more) is = absurd (omega (arith, is))

caller_formed : (words : List (List ℕ)) → IfSome (caller_of words) (λ c. is_plain c ≡ true)
caller_formed words = elim (cases_Bool (length words == 4)) [
  | inl is ↦ rw is (four_words words (eqb-true (length words) 4 is))
  | inr other ↦ rw other tt
]

cred_kept : (c : Cred) (d : Draft) → IsDraft d → is_plain c ≡ true → Keeps (with_cred c d)
unfolding with_cred
cred_kept c d h plain =
    let new : CallerValue = record { cred = c; lines = [] } in
    let form : is_caller new ≡ true = both_true (is_plain c) true plain refl in
    tested IsDraft (nat_lt (length d.text.callers) most_callers)
    (Ok (record d { text = record d.text { callers = d.text.callers ++ new ∷ [] } }))
    (Err cause.TooMany)
    (λ few. record {
      callers = rw (list_all-append is_caller d.text.callers (new ∷ []), h.callers, form) refl;
      callers_few = omega (
        arith,
        room (length d.text.callers) most_callers few,
        length-append d.text.callers (new ∷ []),
      );
      rules_few = h.rules_few;
      lines_in = omega (arith, sum_by_push lines_of d.text.callers new, h.lines_in);
      lines_few = h.lines_few;
      all_in = omega (arith, sum_by_push bytes_of d.text.callers new, h.all_in);
      sum_few = h.sum_few;
      threads_some = h.threads_some;
      threads_few = h.threads_few;
    })
    (λ e. tt)

caller_kept : (words : List (List ℕ)) (d : Draft) → IsDraft d → Keeps (with_caller words d)
unfolding with_caller
caller_kept words d h =
    given IsDraft (caller_of words) cause.BadField (λ c. with_cred c d)
    (λ c e. cred_kept c d h
    (at_some (λ k. is_plain k ≡ true) (caller_of words) c (caller_formed words) e))

-- ---- buffers

one_more : (line : Buffer) → is_buffer line ≡ true → (c : CallerValue) → is_caller c ≡ true
    → is_caller (caller_with line c) ≡ true
one_more line is c h =
    let plain = is_plain c.cred in
    let all = list_all is_buffer c.lines in
    let lines : all ≡ true = right_true plain all h in
    both_true plain (list_all is_buffer (c.lines ++ line ∷ [])) (left_true plain all h)
    (rw (list_all-append is_buffer c.lines (line ∷ []), lines, is) refl)

within : (sum : ℕ) → nat_lt most_bytes sum ≡ false → sum ≤ most_bytes
within sum h = grind (arith, nat_tests)

lined_kept : (line : Buffer) (d : Draft) → IsDraft d → is_buffer line ≡ true
    → d.lines + 1 ≤ most_lines → d.sum + length line.1 ≤ most_bytes → IsDraft (lined line d)
lined_kept line d h is few small =
    let f = caller_with line in
    record {
      callers = all_changed f is_caller (one_more line is) d.text.callers h.callers;
      callers_few = omega (arith, length_changed f d.text.callers, h.callers_few);
      rules_few = h.rules_few;
      lines_in = omega (
        arith,
        h.lines_in,
        sum_changed f lines_of 1 (λ c. omega (arith, length-append c.lines (line ∷ [])))
            d.text.callers,
      );
      lines_few = few;
      all_in = omega (
        arith,
        h.all_in,
        sum_changed f bytes_of (length line.1)
            (λ c. omega (arith, sum_by_push bytes_in c.lines line)) d.text.callers,
      );
      sum_few = small;
      threads_some = h.threads_some;
      threads_few = h.threads_few;
    }

line_kept : (line : Buffer) (d : Draft) → IsDraft d → is_buffer line ≡ true
    → Keeps (with_line line d)
unfolding with_line
line_kept line d h is =
    let made : Made = Ok (lined line d) in
    let large : Made = if nat_lt most_bytes (d.sum + length line.1) then Err cause.TooLarge
    else made in
    tested IsDraft (not (nat_lt d.lines most_lines)) (Err cause.TooMany) large (λ e. tt)
    (λ few. tested IsDraft (nat_lt most_bytes (d.sum + length line.1)) (Err cause.TooLarge) made
    (λ e. tt)
    (λ small. lined_kept line d h is
    (room d.lines most_lines (not_false (nat_lt d.lines most_lines) few))
    (within (d.sum + length line.1) small)))

-- a name and a value have the form of a buffer
buffer_formed : (name value : List ℕ) → is_word 255 name ≡ true
    → is_value 0 most_value value ≡ true → is_buffer (name, value) ≡ true
buffer_formed name value word h =
    let low = nat_le 0 (length value) in
    let high = nat_le (length value) most_value in
    let bytes = are_bytes value in
    both_true (is_word 255 name) (high && bytes) word
    (both_true high bytes (right_true low high (left_true (low && high) bytes h))
    (right_true (low && high) bytes h))

critical_kept : (words : List (List ℕ)) (d : Draft) → IsDraft d → Keeps (with_critical words d)
unfolding with_critical
critical_kept words d h =
    let value_in : List ℕ × List ℕ → Made =
    λ w. ok_or (value_of 0 most_value w.1) cause.BadField >>= λ value. with_line (w.0, value) d in
    given IsDraft (two words) cause.BadField
    (λ w. if not (is_word 255 w.0) then Err cause.BadField else value_in w)
    (λ w _. tested IsDraft (not (is_word 255 w.0)) (Err cause.BadField) (value_in w) (λ e. tt)
    (λ word. given IsDraft (value_of 0 most_value w.1) cause.BadField
    (λ value. with_line (w.0, value) d)
    (λ value e. line_kept (w.0, value) d h
    (buffer_formed w.0 value (not_false (is_word 255 w.0) word)
    (at_some (λ v. is_value 0 most_value v ≡ true) (value_of 0 most_value w.1) value
    (value_within 0 most_value w.1) e)))))

-- ---- threads, and a whole text

one_to : (n most : ℕ) → (nat_le 1 n && nat_le n most) ≡ true → (1 ≤ n) × (n ≤ most)
one_to n most h =
    let some : nat_le 1 n ≡ true = left_true (nat_le 1 n) (nat_le n most) h in
    let few : nat_le n most ≡ true = right_true (nat_le 1 n) (nat_le n most) h in
    (grind (arith, nat_tests), grind (arith, nat_tests))

threads_kept : (words : List (List ℕ)) (d : Draft) → IsDraft d → Keeps (with_threads words d)
unfolding with_threads
threads_kept [] d h = tt
threads_kept (w ∷ []) d h =
    given IsDraft (threads_of w) cause.BadField
    (λ n. Ok (record d { text = record d.text { threads = n } }))
    (λ n e.
    let is = one_to n most_threads
    (at_some (λ m. (nat_le 1 m && nat_le m most_threads) ≡ true) (threads_of w) n
    (any_within most_threads (short_number_of 10 most_threads w) (number_within 10 most_threads w))
    e) in
    record {
      callers = h.callers;
      callers_few = h.callers_few;
      rules_few = h.rules_few;
      lines_in = h.lines_in;
      lines_few = h.lines_few;
      all_in = h.all_in;
      sum_few = h.sum_few;
      threads_some = is.0;
      threads_few = is.1;
    })
threads_kept (w ∷ v ∷ more) d h = tt

head_kept : (k : BufferHead) (text : Option (List ℕ)) (words : List (List ℕ)) (d : Draft)
    → IsDraft d → Keeps (with_head k text words (record d { at = rank k }))
unfolding with_head
head_kept head.Imabuffers text words d h =
    version_kept words (record d { at = rank head.Imabuffers }) h
head_kept head.Hash text words d h = hash_kept words (record d { at = rank head.Hash }) h
head_kept head.Rule text words d h = rule_kept text (record d { at = rank head.Rule }) h
head_kept head.Caller text words d h = caller_kept words (record d { at = rank head.Caller }) h
head_kept head.Critical text words d h =
    critical_kept words (record d { at = rank head.Critical }) h
head_kept head.Threads text words d h = threads_kept words (record d { at = rank head.Threads }) h

placed_kept : (k : BufferHead) (text : Option (List ℕ)) (d : Draft) → IsDraft d
    → Keeps (placed k text d)
unfolding placed
placed_kept k text d h =
    tested IsDraft (stands k d) (with_head k text (fields text) (record d { at = rank k }))
    (Err cause.OutOfPlace) (λ e. head_kept k text (fields text) d h) (λ e. tt)

next_kept : (d : Draft) (line : List ℕ) → IsDraft d → Keeps (add d line)
unfolding add
next_kept d line h =
    given IsDraft (head_of (cut_line line).0) cause.BadWord (λ k. placed k (cut_line line).1 d)
    (λ k _. placed_kept k (cut_line line).1 d h)

abbrev Reads : Result Draft (Fault LineCause) → Type 0
Reads r = IfOk r IsDraft

then_kept : (n : ℕ) (r : Result Draft LineCause) (f : Draft → Result Draft (Fault LineCause))
    → Keeps r
    → ((d : Draft) → IsDraft d → Reads (f d)) → Reads (at_line fault_at n r >>= f)
then_kept n (Err c) f h k = tt
then_kept n (Ok d) f h k = k d h

over_kept : (b : Bool) (d : Draft) (line : List ℕ) → IsDraft d
    → Keeps (if b then Ok d else add d line)
over_kept true d line h = h
over_kept false d line h = next_kept d line h

if_ends : (b : Bool) (d : Draft) (f : Fault LineCause) → IsDraft d
    → Reads (if b then Ok d else Err f)
if_ends true d f h = h
if_ends false d f h = tt

lines_kept : (ls : List (List ℕ)) (n : ℕ) (d : Draft) → IsDraft d
    → Reads (from_ended add is_over n d ls)
lines_kept [] n d h = h
lines_kept (rest ∷ []) n d h = if_ends _ d (fault_at n cause.NoEnd) h
lines_kept (line ∷ next ∷ ls) n d h =
    then_kept n (step_over add d line) (λ t. from_ended add is_over (n + 1) t (next ∷ ls))
    (over_kept (is_skipped line) d line h) (λ t k. lines_kept (next ∷ ls) (n + 1) t k)

start_is : IsDraft start
start_is = record {
  callers = refl;
  callers_few = lit≤ tt;
  rules_few = lit≤ tt;
  lines_in = lit≤ tt;
  lines_few = lit≤ tt;
  all_in = lit≤ tt;
  sum_few = lit≤ tt;
  threads_some = lit≤ tt;
  threads_few = lit≤ tt;
}

whole : (r : Result Draft (Fault LineCause)) (d : Draft) → Reads r → r ≡ Ok d → IsDraft d
whole (Err f) d h e = absurd (cc e)
whole (Ok x) d h e = let same : x ≡ d = cc e in subst IsDraft same h

-- a text that is read from the start has the forms and the limits
pub text_is : (text : List ℕ) (from d : Draft) → from ≡ start
    → text_of add is_over from text ≡ Ok d → IsBufferText d.text
text_is text from d new is =
    text_from d
    (whole (text_of add is_over start text) d (lines_kept (lines text) 1 start start_is)
    (ap (λ (s : Draft). text_of add is_over s text) (sym new) ∙ is))

-- The head of a report, its list and its registers are read.
use Rattle.std.proofs.Common.{◌≡◌, ℕ, zero, suc, ◌+◌, ◌-◌, ◌<◌, ◌≤◌, ◌^◌, ◌==◌, Bool, true, false, List, [], ◌∷◌, ◌++◌, codes, cond, length, map, take, Option, Some, None, if◌then◌else◌, refl, sym, ap, ◌∙◌, subst, append_assoc, arith}
use Rattle.std.specs.List.{AllByRecursion, list_any}
use Rattle.std.proofs.lemmas.Bool.{eq-eqb, lt-ltb, ne_eqb}
use Rattle.std.proofs.lemmas.List.{append-nil}
use Rattle.hex.specs.Hex.{IsBytes, encode_lower}
use Rattle.report_text.specs.Numerals.{numeral}
use Rattle.report_text.specs.Report.{entry_words, pcr_lines_at, pcr_lines_to}
use Rattle.report_text.specs.Words.{Line}
use Rattle.report_text.specs.model.events.meta.declared.measurement.Bank.TheVariants as bank
use Rattle.report_text.specs.model.registers.Banks.{register}
use Rattle.report_text.specs.model.registers.declared.banks.Banks.{Banks}
use Rattle.report_text.specs.model.events.templates.declared.entry.Entry.{Entry}
use Rattle.report_draft.specs.declared.draft.Stage.{Stage}
use Rattle.report_draft.specs.declared.draft.Stage.TheVariants as stage
use Rattle.report_words.specs.declared.event.Span.{Span}
use Rattle.report_lines.specs.declared.report.RunEnd.{RunEnd}
use Rattle.report_lines.specs.declared.report.RunEnd.TheVariants as run
use Rattle.report_draft.specs.Draft.{Draft, entries_left, rises, start, with_words}
use Rattle.report_lines.specs.Lines.{is_entry}
use Rattle.report_read.specs.ReadBack.{AreRegisters, IsShownEntry}
use Rattle.report_read.proofs.Chains.{AllGood, blocks, chain_whole, fold_one, values, values_push}
use Rattle.report_read.proofs.EntriesBack.{digest_back, entry_back}
use Rattle.report_read.proofs.Fold.{end_of, fold, fold-append, fold_step, line_span, next, spans, spans-append, step}
use Rattle.report_read.proofs.WordsBack.{number_back}

-- ---- the head

abbrev pub ending : Bool → Bool → RunEnd
ending true done = run.Stuck
ending false true = run.Done
ending false false = run.Unfinished

abbrev ending_of : Bool → Bool → List ℕ
ending_of stuck done =
    if stuck then codes "stuck" else if done then codes "done" else codes "unfinished"

abbrev head_of : Bool → Bool → ℕ → ℕ → List Line
head_of stuck done n v =
    (codes "imakern" ∷ codes "report" ∷ codes "1" ∷ [])
    ∷ (codes "run" ∷ ending_of stuck done ∷ [])
    ∷ (codes "list" ∷ numeral n ∷ codes "violations" ∷ numeral v ∷ []) ∷ []

run_step : (begin : ℕ) (d : Draft) (stuck done : Bool)
    → step begin (record d { stage = stage.Run }) (codes "run" ∷ ending_of stuck done ∷ [])
    ≡ Some (record d { stage = stage.List; run = ending stuck done })
unfolding with_words
run_step begin d true done = refl
run_step begin d false true = refl
run_step begin d false false = refl

version_step : (begin : ℕ) (d : Draft)
    → step begin (record d { stage = stage.Version })
    (codes "imakern" ∷ codes "report" ∷ codes "1" ∷ [])
    ≡ Some (record d { stage = stage.Run })
unfolding with_words
version_step begin d = refl

list_step : (begin : ℕ) (d : Draft) (n v : ℕ) → n < 2 ^ 32 → v < 2 ^ 32
    → step begin (record d { stage = stage.List })
    (codes "list" ∷ numeral n ∷ codes "violations" ∷ numeral v ∷ [])
    ≡ Some (record d { stage = entries_left n; violations = v })
unfolding with_words
list_step begin d n v small few = rw (number_back n small, number_back v few) refl

abbrev pub headed : Bool → Bool → ℕ → ℕ → Draft
headed stuck done n v = record (start 0) {
  stage = entries_left n;
  run = ending stuck done;
  violations = v;
}

-- the first three lines are read
pub head_back : (begin : ℕ) (stuck done : Bool) (n v : ℕ) → n < 2 ^ 32 → v < 2 ^ 32
    → fold begin (start 0) (head_of stuck done n v) ≡ Some (headed stuck done n v)
head_back begin stuck done n v small few =
    let first : ℕ = next begin (codes "imakern" ∷ codes "report" ∷ codes "1" ∷ []) in
    let second : ℕ = next first (codes "run" ∷ ending_of stuck done ∷ []) in
    fold_step begin (start 0) (record (start 0) { stage = stage.Run })
    (codes "imakern" ∷ codes "report" ∷ codes "1" ∷ [])
    ((codes "run" ∷ ending_of stuck done ∷ [])
    ∷ (codes "list" ∷ numeral n ∷ codes "violations" ∷ numeral v ∷ []) ∷ [])
    (version_step begin (start 0))
    ∙ (fold_step first (record (start 0) { stage = stage.Run })
    (record (start 0) { stage = stage.List; run = ending stuck done })
    (codes "run" ∷ ending_of stuck done ∷ [])
    ((codes "list" ∷ numeral n ∷ codes "violations" ∷ numeral v ∷ []) ∷ [])
    (run_step first (start 0) stuck done)
    ∙ fold_one second (record (start 0) { stage = stage.List; run = ending stuck done })
    (headed stuck done n v)
    (codes "list" ∷ numeral n ∷ codes "violations" ∷ numeral v ∷ [])
    (list_step second (record (start 0) { run = ending stuck done }) n v small few))

-- ---- counts that run down

pub one_less : (n : ℕ) → suc n - 1 ≡ n
one_less n = omega arith

pub not_none : (n : ℕ) → (suc n == 0) ≡ false
not_none n = ne_eqb (suc n) 0 (λ (e : suc n ≡ 0). omega (arith, e))

entries_more : (n : ℕ) → entries_left (suc n) ≡ stage.Entries (suc n)
entries_more n =
    ap (λ (b : Bool). cond b (stage.Registers None) (stage.Entries (suc n))) (not_none n)

-- ---- the list

entry_step : (n begin : ℕ) (d : Draft) (ws : Line) → is_entry (take 24 ws) ≡ true
    → step begin (record d { stage = stage.Entries (suc n) }) ws
    ≡ Some (record d { stage = entries_left n; entries = d.entries ++ line_span begin ws ∷ [] })
unfolding with_words
entry_step n begin d ws h =
    rw h
    (ap
    (λ (k : ℕ). Some
    (record d { stage = entries_left k; entries = d.entries ++ line_span begin ws ∷ [] }))
    (one_less n))

abbrev pub entry_block : ℕ → Entry → List Line
entry_block n e = entry_words e ∷ []

abbrev pub entry_span : ℕ → Entry → ℕ → Span
entry_span n e begin = line_span begin (entry_words e)

abbrev listed : Draft → ℕ → List Entry → List Entry → Draft
listed d begin done left = record d {
  stage = entries_left (length left);
  entries = values entry_block entry_span begin 0 done;
}

entry_each : (d : Draft) (begin : ℕ) (done : List Entry) (x : Entry) (left : List Entry)
    → is_entry (take 24 (entry_words x)) ≡ true
    → fold (end_of begin (blocks entry_block 0 done)) (listed d begin done (x ∷ left))
    (entry_block (length done) x)
    ≡ Some (listed d begin (done ++ x ∷ []) left)
entry_each d begin done x left good =
    let here : ℕ = end_of begin (blocks entry_block 0 done) in
    let so_far : List Span = values entry_block entry_span begin 0 done in
    fold_one here (listed d begin done (x ∷ left))
    (record d {
      stage = entries_left (length left);
      entries = so_far ++ line_span here (entry_words x) ∷ [];
    })
    (entry_words x)
    (subst
    (λ (s : Stage). step here (record d { stage = s; entries = so_far }) (entry_words x)
    ≡ Some (record d {
      stage = entries_left (length left);
      entries = so_far ++ line_span here (entry_words x) ∷ [];
    }))
    (sym (entries_more (length left)))
    (entry_step (length left) here (record d { entries = so_far }) (entry_words x) good))
    ∙ ap
    (λ (es : List Span). Some
    (record d { stage = entries_left (length left); entries = es }))
    (sym (values_push entry_block entry_span begin done x))

entries_good : (es done : List Entry) → AllByRecursion IsShownEntry es
    → AllGood entry_block (λ before x. is_entry (take 24 (entry_words x)) ≡ true) done es
entries_good [] done h = tt
entries_good (e ∷ es) done h = (entry_back e h.0, entries_good es (done ++ e ∷ []) h.1)

entry_lines : (es : List Entry) (n : ℕ) → blocks entry_block n es ≡ map entry_words es
entry_lines [] n = refl
entry_lines (e ∷ es) n = ap (λ (ls : List Line). entry_words e ∷ ls) (entry_lines es (n + 1))

-- the list is read
pub entries_back : (es : List Entry) (begin : ℕ) (d : Draft) → AllByRecursion IsShownEntry es
    → fold begin (record d { stage = entries_left (length es); entries = [] }) (map entry_words es)
    ≡ Some (record d {
      stage = stage.Registers None;
      entries = values entry_block entry_span begin 0 es;
    })
entries_back es begin d h =
    ap
    (fold begin (record d { stage = entries_left (length es); entries = [] }))
    (sym (entry_lines es 0))
    ∙ chain_whole entry_block (λ before x. is_entry (take 24 (entry_words x)) ≡ true) begin
    (listed d begin) (entry_each d begin) es (entries_good es [] h)

-- ---- the registers

abbrev IsBelow : Option ℕ → ℕ → Type 0
IsBelow None n = Unit {0}
IsBelow (Some p) n = p < n

rises_to : (last : Option ℕ) (n : ℕ) → IsBelow last n → n < 24 → rises last n ≡ true
rises_to None n b h = lt-ltb n 24 h
rises_to (Some p) n b h = rw (lt-ltb p n b, lt-ltb n 24 h) refl

abbrev sum_line : List ℕ → ℕ → List ℕ → Line
sum_line name n bytes = codes "pcr" ∷ name ∷ numeral n ∷ encode_lower bytes ∷ []

sha1_step : (begin : ℕ) (d : Draft) (last : Option ℕ) (n : ℕ) (bytes : List ℕ) → n < 24
    → IsBelow last n → length bytes ≡ 20 → IsBytes bytes
    → step begin (record d { stage = stage.Registers last }) (sum_line (codes "sha1") n bytes)
    ≡ Some (record d {
      stage = stage.Second n;
      registers = d.registers ++ line_span begin (sum_line (codes "sha1") n bytes) ∷ [];
    })
unfolding with_words
sha1_step begin d last n bytes h b size is =
    rw (
      number_back n (omega (arith, h)),
      digest_back 20 bytes size is,
      rises_to last n b h,
    ) refl

sha256_step : (begin : ℕ) (d : Draft) (n : ℕ) (bytes : List ℕ) → n < 24
    → length bytes ≡ 32 → IsBytes bytes
    → step begin (record d { stage = stage.Second n }) (sum_line (codes "sha256") n bytes)
    ≡ Some (record d {
      stage = stage.Registers (Some n);
      registers = d.registers ++ line_span begin (sum_line (codes "sha256") n bytes) ∷ [];
    })
unfolding with_words
sha256_step begin d n bytes h size is =
    rw (
      number_back n (omega (arith, h)),
      digest_back 32 bytes size is,
      eq-eqb n n refl,
    ) refl

abbrev pub last_at : Option ℕ → ℕ → Bool → Option ℕ
last_at last n true = Some n
last_at last n false = last

pair_back : (banks : Banks) (n : ℕ) (b : Bool) (begin : ℕ) (d : Draft) (last : Option ℕ)
    → n < 24 → IsBelow last n → AreRegisters banks
    → fold begin (record d { stage = stage.Registers last }) (pcr_lines_at banks n b)
    ≡ Some (record d {
      stage = stage.Registers (last_at last n b);
      registers = d.registers ++ spans begin (pcr_lines_at banks n b);
    })
pair_back banks n false begin d last h below are =
    ap
    (λ (rs : List Span). Some
    (record d { stage = stage.Registers last; registers = rs }))
    (sym (append-nil d.registers))
pair_back banks n true begin d last h below are =
    let one : Line = sum_line (codes "sha1") n (register banks bank.Sha1 n) in
    let two : Line = sum_line (codes "sha256") n (register banks bank.Sha256 n) in
    let half : Draft = record d {
      stage = stage.Second n;
      registers = d.registers ++ line_span begin one ∷ [];
    } in
    fold_step begin (record d { stage = stage.Registers last }) half one (two ∷ [])
    (sha1_step begin d last n (register banks bank.Sha1 n) h below (are n h).0 (are n h).1)
    ∙ (fold_one (next begin one) half
    (record d {
      stage = stage.Registers (Some n);
      registers = (d.registers ++ line_span begin one ∷ []) ++ line_span (next begin one) two ∷ [];
    }) two
    (sha256_step (next begin one)
    (record d { registers = d.registers ++ line_span begin one ∷ [] }) n
    (register banks bank.Sha256 n) h (are n h).2 (are n h).3)
    ∙ ap
    (λ (rs : List Span). Some
    (record d { stage = stage.Registers (Some n); registers = rs }))
    (append_assoc d.registers (line_span begin one ∷ []) (line_span (next begin one) two ∷ [])))

abbrev has_pcr : List Entry → ℕ → Bool
has_pcr list n = list_any (λ e. e.pcr == n) list

abbrev pub last_to : List Entry → ℕ → Option ℕ
last_to list zero = None
last_to list (suc n) = last_at (last_to list n) n (has_pcr list n)

below_by : (last : Option ℕ) (n : ℕ) (b : Bool) → IsBelow last n
    → IsBelow (last_at last n b) (suc n)
below_by last n true h = omega arith
below_by None n false h = tt
below_by (Some p) n false h = omega (arith, h)

last_below : (list : List Entry) (n : ℕ) → IsBelow (last_to list n) n
last_below list zero = tt
last_below list (suc n) =
    below_by (last_to list n) n (has_pcr list n) (last_below list n)

-- the registers below n are read
pub registers_back : (list : List Entry) (banks : Banks) (n : ℕ) (begin : ℕ) (d : Draft)
    → n ≤ 24 → AreRegisters banks
    → fold begin (record d { stage = stage.Registers None; registers = [] })
    (pcr_lines_to list banks n)
    ≡ Some (record d {
      stage = stage.Registers (last_to list n);
      registers = spans begin (pcr_lines_to list banks n);
    })
registers_back list banks zero begin d h are = refl
registers_back list banks (suc n) begin d h are =
    let before : List Line = pcr_lines_to list banks n in
    let now : List Line = pcr_lines_at banks n (has_pcr list n) in
    fold-append before now begin (record d { stage = stage.Registers None; registers = [] })
    (record d { stage = stage.Registers (last_to list n); registers = spans begin before })
    (registers_back list banks n begin d (omega (arith, h)) are)
    ∙ (pair_back banks n (has_pcr list n) (end_of begin before)
    (record d { registers = spans begin before }) (last_to list n) (omega (arith, h))
    (last_below list n) are
    ∙ ap
    (λ (rs : List Span). Some
    (record d { stage = stage.Registers (last_to list (suc n)); registers = rs }))
    (sym (spans-append before now begin)))

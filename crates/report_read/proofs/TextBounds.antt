-- A text has as many reports as are wanted, and no journal of theirs is longer than the text has
-- lines.
use Rattle.std.proofs.Common.{◌≡◌, ℕ, ◌+◌, ◌-◌, ◌^◌, ◌<◌, ◌≤◌, ◌==◌, Bool, true, false, cond, List, [], ◌∷◌, length, Option, Some, None, Result, Ok, Err, refl, sym, subst, arith}
use Rattle.std.specs.Prelude.{not, ◌&&◌, All, IfOk, IfSome, ok_or, slice_index_or}
use Rattle.std.proofs.lemmas.List.Elements.{All-nil}
use Rattle.std.proofs.lemmas.List.Splits.{length-slice_split}
use Rattle.std.proofs.lemmas.List.Sums.{count_by-le-length}
use Rattle.report_text.specs.model.events.forms.Lines.{◌>>=◌, lines}
use Rattle.report_text.specs.model.events.forms.Tokens.{is_filled}
use Rattle.report_draft.specs.declared.draft.Stage.{Stage}
use Rattle.report_draft.specs.declared.draft.Stage.TheVariants as stage
use Rattle.report_draft.specs.Draft.{Draft, is_last, is_over, start}
use Rattle.report_words.specs.Forms.{first_words}
use Rattle.report_read.specs.Read.{read_from, span_at, with_line}
use Rattle.report_lines.specs.Report.{HasShortJournals, InodeValue, ReportValue}
use Rattle.report_draft.proofs.DraftBounds.{Bounded, HasShort, left_of, one_more}

-- a draft that may be the last one of a text
abbrev Ends : ℕ → ℕ → Draft → Type 0
Ends m total d = (is_over d ≡ true) × Bounded m total d

ok_bind : (o : Option Draft) (n : ℕ) (f : Draft → Result Draft ℕ) (P Q : Draft → Type 0)
    → IfSome o P → ((t : Draft) → P t → IfOk (f t) Q) → IfOk (ok_or o n >>= f) Q
ok_bind None n f P Q h g = tt
ok_bind (Some t) n f P Q h g = g t h

-- what is left after the last newline
at_end : (m total n : ℕ) (d : Draft) (over empty : Bool) → is_over d ≡ over → Bounded m total d
    → IfOk (cond (over && empty) (Ok d) (Err n)) (Ends m total)
at_end m total n d true true is b = (is, b)
at_end m total n d true false is b = tt
at_end m total n d false empty is b = tt

fewer : (m n total : ℕ) (d : Draft) → m ≤ n → Bounded m total d → Bounded n total d
fewer m n total d le b = record {
  reports = λ i r small j inode here.
      let short : length (slice_index_or (slice_index_or d.done i r).inodes j inode).events ≤ m =
      b.reports i r small j inode here in
      omega (arith, short, le);
  journals = λ j inode here.
      let short : length (slice_index_or d.inodes j inode).events ≤ m = b.journals j inode here in
      omega (arith, short, le);
  journal = omega (arith, le, b.journal);
  count = b.count;
}

-- each line adds at most one event
lines_bounded : (ls : List (List ℕ)) (begin n m most total : ℕ) (d : Draft)
    → m + length ls ≤ most → Bounded m total d
    → IfOk (read_from begin n d ls) (Ends most total)
lines_bounded [] begin n m most total d le b = tt
lines_bounded (rest ∷ []) begin n m most total d le b =
    at_end most total n d (is_over d) (not (is_filled rest)) refl
    (fewer m most total d (omega (arith, le)) b)
lines_bounded (line ∷ next ∷ ls) begin n m most total d le b =
    ok_bind (with_line begin d line) n
    (λ t. read_from (begin + (length line + 1)) (n + 1) t (next ∷ ls)) (Bounded (m + 1) total)
    (Ends most total)
    (one_more m total d.stage (span_at begin line) (first_words line) d refl b)
    (λ t here. lines_bounded (next ∷ ls) (begin + (length line + 1)) (n + 1) (m + 1) most total t
    (omega (arith, le)) here)

-- ---- a text

none_left : (s : Stage) (more : ℕ) → is_last s ≡ true → left_of s more ≡ 0
none_left stage.Over more h = refl
none_left s more h = absurd (cc h)

start_bounded : (more : ℕ) → Bounded 0 (more + 1) (start more)
start_bounded more = record {
  reports = All-nil (HasShort 0);
  journals = All-nil (λ (i : InodeValue). length i.events ≤ 0);
  journal = omega arith;
  count = omega arith;
}

-- as many reports as are wanted, with short journals
abbrev pub AreAsWanted : ℕ → List ReportValue → Type 0
AreAsWanted more rs = (length rs ≡ more + 1) × All HasShortJournals rs

wanted : (more most : ℕ) (d : Draft) → most < 2 ^ 32 → Ends most (more + 1) d
    → AreAsWanted more d.done
wanted more most d small e = (
  omega (arith, none_left d.stage d.more e.0, e.1.count),
  λ i r here j inode there.
      let short : length (slice_index_or (slice_index_or d.done i r).inodes j inode).events ≤ most =
      e.1.reports i r here j inode there in
      omega (arith, short, small),
)

few_lines : (text : List ℕ) → length (lines text) ≤ length text + 1
few_lines text =
    omega (
      arith,
      length-slice_split (λ (b : ℕ). b == 10) text,
      count_by-le-length (λ (b : ℕ). b == 10) text,
    )

at_ok : (r : Result Draft ℕ) (d : Draft) (P : Draft → Type 0) → r ≡ Ok d → IfOk r P → P d
at_ok r d P is h = subst (λ (x : Result Draft ℕ). IfOk x P) is h

-- the reports of the draft that a text makes
read_as_wanted : (more : ℕ) (text : List ℕ) (d : Draft) → length text < 2 ^ 32 - 1
    → read_from 0 1 (start more) (lines text) ≡ Ok d → AreAsWanted more d.done
read_as_wanted more text d small is =
    wanted more (length text + 1) d (omega (arith, small))
    (at_ok (read_from 0 1 (start more) (lines text)) d (Ends (length text + 1) (more + 1)) is
    (lines_bounded (lines text) 0 1 0 (length text + 1) (more + 1) (start more)
    (omega (arith, few_lines text)) (start_bounded more)))

-- the reports of a text are as many as are wanted, and their journals are short
pub as_wanted : (more : ℕ) (text : List ℕ) (s d : Draft) (rs : List ReportValue)
    → length text < 2 ^ 32 - 1 → s ≡ start more → read_from 0 1 s (lines text) ≡ Ok d
    → rs ≡ d.done → AreAsWanted more rs
as_wanted more text s d rs small begins is are =
    let made : read_from 0 1 (start more) (lines text) ≡ Ok d =
    rw begins at is in
    subst (AreAsWanted more) (sym are) (read_as_wanted more text d small made)

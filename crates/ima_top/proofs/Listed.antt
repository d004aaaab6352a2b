-- Each path of a list text is one that an entry may have.
use Rattle.std.proofs.Common.{◌≡◌, ℕ, zero, suc, ◌+◌, Bool, true, false, cond, ◌&&◌, not, List, [], ◌∷◌, ◌++◌, Result, Ok, Err, length, refl, sym, ap, ◌∙◌, arith}
use Rattle.std.specs.Prelude.{IsTrue, codes, nat_lt, ok_or}
use Rattle.std.specs.Str.{bytes_eq}
use Rattle.std.specs.List.{All, list_all}
use Rattle.std.proofs.lemmas.List.Folds.{list_all-append}
use Rattle.text_forms.specs.Lines.{◌>>=◌, at_line, lines}
use Rattle.text_forms.specs.Paths.{is_path}
use Rattle.text_forms.specs.Tokens.{is_filled}
use Rattle.script_words.specs.declared.fault.LineCause.{LineCause}
use Rattle.script_words.specs.declared.fault.LineCause.TheVariants as cause
use Rattle.script_words.specs.Forms.{field}
use Rattle.script_words.specs.Line.{cut_line, fields, is_skipped}
use Rattle.script_words.specs.Read.{fault_at, from_ended, step_over, text_of}
use Rattle.script_text.specs.fields.FileFields.{content_of, two}
use Rattle.script_text.specs.Limits.{most_bytes, most_files}
use Rattle.script_text.specs.ListGrammar.{ListDraft, Listed, add, head_of, is_over, list_of, listed, placed, stands, start, with_end, with_file, with_head, with_version}
use Rattle.script_text.specs.declared.list_head.ListHead.{ListHead}
use Rattle.script_text.specs.declared.list_head.ListHead.TheVariants as head
use Rattle.script_run.proofs.about_scenes.Paths.{and_left, and_right}

-- all files of the list have valid paths
abbrev AllPaths : List Listed → Type 0
AllPaths files = list_all (λ f. is_path f.0) files ≡ true

-- a result of two steps: the first returned `found`, and the second made the whole of it
pub record Bound (A B E : Type 0) (first : Result A E) (then : A → Result B E) (whole : B)
    : Type 0 where
  pub found : A
  pub is_first : first ≡ Ok found
  pub is_then : then found ≡ Ok whole

-- if two steps in a row return a value, each of them did
bound : {A B E : Type 0} (first : Result A E) (then : A → Result B E) (whole : B)
    → (first >>= then) ≡ Ok whole → Bound A B E first then whole
bound (Ok x) then whole h = record { found = x; is_first = refl; is_then = h }
bound (Err e) then whole h = absurd (cc)

-- if a test whose failure is an error gives a value, the test held
passed : {A E : Type 0} (b : Bool) (e : E) (r : Result A E) (x : A) → cond b r (Err e) ≡ Ok x
    → (b ≡ true) × (r ≡ Ok x)
passed true e r x h = (refl, h)
passed false e r x h = absurd (cc)

-- if a test whose success is an error gives a value, the test failed
not_stopped : {A E : Type 0} (b : Bool) (e : E) (r : Result A E) (x : A) → cond b (Err e) r ≡ Ok x
    → (b ≡ false) × (r ≡ Ok x)
not_stopped true e r x h = absurd (cc)
not_stopped false e r x h = (refl, h)

-- a test whose negation fails holds
denied : (b : Bool) → not b ≡ false → b ≡ true
denied true h = refl
denied false h = absurd (cc)

-- equal results have equal values
ok_is : {A E : Type 0} (x y : A) → ◌≡◌ {A = Result A E} (Ok x) (Ok y) → x ≡ y
ok_is x y h = cc

-- equal drafts have equal paths
paths_of : (d e : ListDraft) → d ≡ e → AllPaths d.files → AllPaths e.files
paths_of d e same all =
    sym (ap (λ (x : ListDraft). list_all (λ (f : Listed). is_path f.0) x.files) same) ∙ all

-- appending a file with a valid path keeps the paths valid
listed_paths : (f : Listed) (d e : ListDraft) → is_path f.0 ≡ true → AllPaths d.files
    → listed f d ≡ Ok e → AllPaths e.files
listed_paths f d e fits before h =
    let after : ListDraft = record d { files = d.files ++ f ∷ []; sum = d.sum + length f.1 } in
    let first = not_stopped (not (nat_lt (length d.files) most_files)) cause.TooMany
    (cond (nat_lt most_bytes (d.sum + length f.1)) (Err cause.TooLarge) (Ok after)) e h in
    let second = not_stopped (nat_lt most_bytes (d.sum + length f.1)) cause.TooLarge (Ok after) e
    first.1 in
    let all : list_all (λ (g : Listed). is_path g.0) (d.files ++ f ∷ []) ≡ true =
    rw (list_all-append (λ (g : Listed). is_path g.0) d.files (f ∷ []), before, fits) refl in
    paths_of after e (ok_is after e second.1) all

-- a line `file` keeps the paths valid
file_paths : (words : List (List ℕ)) (d e : ListDraft) → AllPaths d.files
    → with_file words d ≡ Ok e → AllPaths e.files
file_paths words d e before h =
    let read = bound (ok_or (two words) cause.BadField)
    (λ w. cond (not (is_path w.0)) (Err cause.BadField)
    (field (content_of w.1) (λ content. listed (w.0, content) d))) e h in
    let fits = not_stopped (not (is_path read.found.0)) cause.BadField
    (field (content_of read.found.1) (λ content. listed (read.found.0, content) d)) e
    read.is_then in
    let content = bound (ok_or (content_of read.found.1) cause.BadField)
    (λ content. listed (read.found.0, content) d) e fits.1 in
    listed_paths (read.found.0, content.found) d e (denied (is_path read.found.0) fits.0) before
    content.is_then

-- the first line keeps the paths valid
version_paths : (words : List (List ℕ)) (d e : ListDraft) → AllPaths d.files
    → with_version words d ≡ Ok e → AllPaths e.files
version_paths [] d e before h = absurd (cc)
version_paths (w ∷ []) d e before h =
    let after : ListDraft = record d { at = 1 } in
    let made = passed (bytes_eq w (codes "1")) cause.BadField (Ok after) e h in
    paths_of after e (ok_is after e made.1) before
version_paths (w ∷ v ∷ more) d e before h = absurd (cc)

-- the line `end` keeps the paths valid
end_paths : (words : List (List ℕ)) (d e : ListDraft) → AllPaths d.files
    → with_end words d ≡ Ok e → AllPaths e.files
end_paths [] d e before h = cc
end_paths (w ∷ more) d e before h = absurd (cc)

-- a line of each kind keeps the paths valid
head_paths : (k : ListHead) (words : List (List ℕ)) (d e : ListDraft) → AllPaths d.files
    → with_head k words d ≡ Ok e → AllPaths e.files
head_paths head.Imalist words d e before h = version_paths words d e before h
head_paths head.File words d e before h = file_paths words d e before h
head_paths head.End words d e before h = end_paths words d e before h

-- each line that is read keeps the paths valid
line_paths : (d e : ListDraft) (line : List ℕ) → AllPaths d.files → add d line ≡ Ok e
    → AllPaths e.files
line_paths d e line before h =
    let words = fields (cut_line line).1 in
    let named = bound (ok_or (head_of (cut_line line).0) cause.BadWord) (λ k. placed k words d) e h
    in
    let stood = passed (stands named.found d) cause.OutOfPlace (with_head named.found words d) e
    named.is_then in
    head_paths named.found words d e before stood.1

-- each line, whether it is read or skipped, keeps the paths valid
over_paths : (d e : ListDraft) (line : List ℕ) (skipped : Bool) → AllPaths d.files
    → cond skipped (Ok d) (add d line) ≡ Ok e → AllPaths e.files
over_paths d e line true before h = cc
over_paths d e line false before h = line_paths d e line before h

-- a line that was accepted at its number was accepted
at_its_line : (n : ℕ) (r : Result ListDraft LineCause) (e : ListDraft)
    → at_line fault_at n r ≡ Ok e → r ≡ Ok e
at_its_line n (Ok x) e h = cc
at_its_line n (Err c) e h = absurd (cc)

-- all lines of a text keep the paths valid
lines_paths : (n : ℕ) (d e : ListDraft) (ls : List (List ℕ)) → AllPaths d.files
    → from_ended add is_over n d ls ≡ Ok e → AllPaths e.files
lines_paths n d e [] before h = cc
lines_paths n d e (rest ∷ []) before h =
    let made = passed (is_over d && not (is_filled rest)) (fault_at n cause.NoEnd) (Ok d) e h in
    paths_of d e (ok_is d e made.1) before
lines_paths n d e (line ∷ next ∷ ls) before h =
    let one = bound (at_line fault_at n (step_over add d line))
    (λ t. from_ended add is_over (n + 1) t (next ∷ ls)) e h in
    let after = over_paths d one.found line (is_skipped line) before
    (at_its_line n (step_over add d line) one.found one.is_first) in
    lines_paths (n + 1) one.found e (next ∷ ls) after one.is_then

-- a test that all files pass holds at each place
all_of : (files : List Listed) → AllPaths files → All (λ f. IsTrue (is_path f.0)) files
all_of [] h k d lt = absurd (omega (arith, lt))
all_of (f ∷ files) h zero d lt = and_left (is_path f.0) (list_all (λ g. is_path g.0) files) h
all_of (f ∷ files) h (suc k) d lt =
    all_of files (and_right (is_path f.0) (list_all (λ g. is_path g.0) files) h) k d
    (omega (arith, lt))

-- each path of a list text is valid
pub listed_path : (text : List ℕ) (files : List Listed) → list_of text ≡ Ok files
    → All (λ f. IsTrue (is_path f.0)) files
listed_path text files h =
    let read = bound (text_of add is_over start text) (λ d. Ok d.files) files h in
    let there = lines_paths 1 start read.found (lines text) refl read.is_first in
    all_of files (ap (λ (fs : List Listed). list_all (λ (f : Listed). is_path f.0) fs)
    (sym (ok_is read.found.files files read.is_then)) ∙ there)

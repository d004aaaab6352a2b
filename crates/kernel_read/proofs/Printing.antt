-- The pieces of the table, as the code appends them, make its lines.
use Rattle.std.proofs.Common.{◌≡◌, ℕ, suc, zero, ◌+◌, ◌<◌, ◌≤◌, Bool, true, false, List, [], ◌∷◌, ◌++◌, length, map, drop, get_or, min, codes, Option, Some, None, refl, sym, ◌∙◌, ap, arith, append_assoc, drop-cons, length-append}
use Rattle.std.specs.Prelude.{nat_lt, option_map, slice_get}
use Rattle.std.specs.Option.{option_and_then}
use Rattle.std.proofs.lemmas.Bool.{ltb-false, ltb-true}
use Rattle.std.proofs.lemmas.Option.{same_Some, slice_get-get_or, slice_get_within, some_pair_parts}
use Rattle.std.specs.List.{join_with_byte}
use Rattle.std.proofs.lemmas.List.{append-nil, drop_all}
use Rattle.std.proofs.lemmas.Grind.{flat_map-append}
use Rattle.script_text.specs.declared.blocks.TaskBlock.{TaskBlock}
use Rattle.script_text.specs.events.EndedInode.{EndedInodeValue}
use Rattle.script_text.specs.events.forms.Tokens.{is_filled}
use Rattle.script_text.specs.events.forms.Words.{text_of}
use Rattle.script_text.specs.steps.declared.call.Call.{Call}
use Rattle.script_text.specs.steps.declared.reply.Reply.{Reply}
use Rattle.script_text.specs.steps.policy.ValueTexts.{func_word}
use Rattle.script_text.specs.steps.policy.declared.rule.Func.{Func}
use Rattle.script_text.specs.steps.templates.declared.entry.Placed.{Placed}
use Rattle.script_text.specs.steps.templates.declared.entry.Placed.TheVariants.{Added, Already}
use Rattle.report_text.specs.Report.{reply_words}
use Rattle.report_text.specs.Texts.{line_text}
use Rattle.report_text.specs.Words.{Line, or_dash, placed_words}
use Rattle.report_text.proofs.Joins.{join_append}
use Rattle.report_text.proofs.Pushed.{reply_filled}
use Rattle.run_laws.specs.kernel_reads.Reads.{read_by}
use Rattle.kernel_read.specs.Lines.{hook_text, table_text}
use Rattle.kernel_read.specs.Places.{HasPlaces, HasShape, calls_in, cell, flat, placed_at, placed_in, read_at}
use Rattle.kernel_read.specs.Table.{call_line, call_lines, func_raised, inode_line, load_line, table_lines, task_lines}
use Rattle.report_text.specs.Numerals.{numeral}

-- ---- one line

-- the words of a place are some words
dash_filled : (p : Option Placed) → is_filled (or_dash (placed_words p)) ≡ true
dash_filled None = refl
dash_filled (Some (Added n)) = refl
dash_filled (Some (Already n)) = refl

-- a line is its front, the place and the reply
line_parts : (n k : ℕ) (func : Func) (path : List ℕ) (p : Option Placed) (r : Reply)
    → join_with_byte 32 (load_line n k func path p r)
    ≡ ((codes "load" ++ 32 ∷ ((numeral n ++ 46 ∷ numeral k) ++ 32 ∷ (func_word func ++ 32 ∷ path)))
    ++ 32 ∷ join_with_byte 32 (or_dash (placed_words p)))
    ++ 32 ∷ join_with_byte 32 (reply_words r)
line_parts n k func path p r =
    let front : Line = codes "load" ∷ (numeral n ++ 46 ∷ numeral k) ∷ func_word func ∷ path ∷ [] in
    join_append (codes "load" ∷ (numeral n ++ 46 ∷ numeral k) ∷ func_word func ∷ path
    ∷ or_dash (placed_words p)) (reply_words r) refl (reply_filled r)
    ∙ ap (λ (l : List ℕ). l ++ 32 ∷ join_with_byte 32 (reply_words r))
    (join_append (codes "load" ∷ (numeral n ++ 46 ∷ numeral k) ∷ func_word func ∷ path ∷ [])
    (or_dash (placed_words p)) refl (dash_filled p))

hook_gather : (o a n b k c f d : List ℕ)
    → ((((((o ++ a) ++ n) ++ b) ++ k) ++ c) ++ f) ++ d
    ≡ o ++ (a ++ n ++ b ++ k ++ c ++ f ++ d)
hook_gather o a n b k c f d = simp append_assoc

-- the pieces of the front of a line, as the code appends them, are the front
pub hook_pushed : (o : List ℕ) (n k : ℕ) (func : Func)
    → ((((((o ++ codes "load ") ++ numeral n) ++ codes ".") ++ numeral k) ++ codes " ")
    ++ func_word func) ++ codes " "
    ≡ o ++ hook_text n k func
hook_pushed o n k func =
    hook_gather o (codes "load ") (numeral n) (codes ".") (numeral k) (codes " ") (func_word func)
    (codes " ")

-- the pieces in the order of the code, and in that of the line, are the same pieces
gather : (o a n b k c f d path e p g r h : List ℕ)
    → ((((((o ++ (a ++ n ++ b ++ k ++ c ++ f ++ d)) ++ path) ++ e) ++ p) ++ g) ++ r) ++ h
    ≡ o ++ (a ++ (n ++ (b ++ (k ++ (c ++ (f ++ (d ++ (path ++ (e ++ (p ++ (g ++ (r ++ h))))))))))))
gather o a n b k c f d path e p g r h = simp append_assoc

-- the pieces of the line are the same ones in a row
spread : (o a s n b k f path p r h : List ℕ)
    → o ++ ((((a ++ (s ++ ((n ++ (b ++ k)) ++ (s ++ (f ++ (s ++ path)))))) ++ (s ++ p)) ++ (s ++ r))
    ++ h)
    ≡ o ++ (a ++ (s ++ (n ++ (b ++ (k ++ (s ++ (f ++ (s ++ (path ++ (s ++ (p
    ++ (s ++ (r ++ h)))))))))))))
spread o a s n b k f path p r h = simp append_assoc

-- the pieces of a line, as the code appends them, are the line
pub load_pushed : (o : List ℕ) (n k : ℕ) (func : Func) (path : List ℕ) (p : Option Placed)
    (r : Reply)
    → ((((((o ++ hook_text n k func) ++ path) ++ codes " ")
    ++ join_with_byte 32 (or_dash (placed_words p))) ++ codes " ")
    ++ join_with_byte 32 (reply_words r)) ++ codes "\n"
    ≡ o ++ line_text (load_line n k func path p r)
load_pushed o n k func path p r =
    gather o (codes "load ") (numeral n) (codes ".") (numeral k) (codes " ") (func_word func)
    (codes " ") path (codes " ") (join_with_byte 32 (or_dash (placed_words p))) (codes " ")
    (join_with_byte 32 (reply_words r)) (codes "\n")
    ∙ sym (spread o (codes "load") (32 ∷ []) (numeral n) (46 ∷ []) (numeral k) (func_word func) path
    (join_with_byte 32 (or_dash (placed_words p))) (join_with_byte 32 (reply_words r)) (10 ∷ []))
    ∙ ap (λ (l : List ℕ). o ++ (l ++ 10 ∷ [])) (sym (line_parts n k func path p r))

-- a text with a line more is longer
pub line_grows : (old new : List ℕ) (l : Line) → new ≡ old ++ line_text l
    → length old + 1 ≤ length new
line_grows old new l h =
    let all : length new ≡ length old + length (line_text l) =
    ap (λ (t : List ℕ). length t) h ∙ length-append old (line_text l) in
    let line : length (line_text l) ≡ length (join_with_byte 32 l) + 1 =
    length-append (join_with_byte 32 l) (10 ∷ []) in
    omega arith

-- the line of a call by which the kernel reads an inode
pub call_pushed : (inodes : List EndedInodeValue) (n k : ℕ) (c : Call) (r : Reply) (func : Func)
    (number : ℕ) (inode : EndedInodeValue) (row : List (Option Placed)) (placed : Option Placed)
    → ◌≡◌ {A = Option (Func × ℕ)} (Some (func, number))
    (option_map (λ (i : ℕ). (func_raised c, i)) (read_by c))
    → slice_get inodes number ≡ Some inode
    → slice_get row k ≡ Some (placed_in inodes n k (read_by c)) → slice_get row k ≡ Some placed
    → call_line inodes n k c r (read_by c) ≡ load_line n k func inode.path placed r ∷ []
call_pushed inodes n k c r func number inode row placed reading there has is =
    at (read_by c) reading
    (same_Some placed (placed_in inodes n k (read_by c)) (sym is ∙ has)) where
      at : (o : Option ℕ) → ◌≡◌ {A = Option (Func × ℕ)} (Some (func, number))
          (option_map (λ (i : ℕ). (func_raised c, i)) o)
          → placed ≡ placed_in inodes n k o
          → call_line inodes n k c r o ≡ load_line n k func inode.path placed r ∷ []
      at None e p = absurd (cc)
      at (Some i) e p =
          let parts = some_pair_parts func (func_raised c) number i e in
          let at_i : slice_get inodes i ≡ Some inode =
          ap (slice_get inodes) (sym parts.1) ∙ there in
          ap (inode_line n k c r) at_i
          ∙ (λ m. load_line n k (sym parts.0 m) inode.path
          (sym (p ∙ ap (placed_at n k) at_i) m) r ∷ [])

-- ---- the lines of two lists, element by element

-- the lines of the next two elements, and of the rest
pub pairs_more : {A B : Type 0} (F : ℕ → List A → List B → List Line) (f : ℕ → A → B → List Line)
    → ((k : ℕ) (a : A) (rest : List A) (b : B) (bs : List B)
    → F k (a ∷ rest) (b ∷ bs) ≡ f k a b ++ F (k + 1) rest bs)
    → (xs : List A) (ys : List B) (k : ℕ) (a : A) (b : B) → k < length xs → k < length ys
    → a ≡ get_or xs k a → b ≡ get_or ys k b
    → F k (drop k xs) (drop k ys) ≡ f k a b ++ F (k + 1) (drop (k + 1) xs) (drop (k + 1) ys)
pairs_more F f step xs ys k a b l m x y =
    let one : suc k ≡ k + 1 = omega arith in
    (λ i. F k ((drop-cons xs k a l ∙ ap (λ z. z ∷ drop (suc k) xs) (sym x)
    ∙ ap (λ n. a ∷ drop n xs) one) i) ((drop-cons ys k b m ∙ ap (λ z. z ∷ drop (suc k) ys) (sym y)
    ∙ ap (λ n. b ∷ drop n ys) one) i))
    ∙ step k a (drop (k + 1) xs) b (drop (k + 1) ys)

-- after the last element of one, no lines are left
pub pairs_end : {A B : Type 0} (F : ℕ → List A → List B → List Line)
    → ((k : ℕ) (bs : List B) → F k [] bs ≡ []) → ((k : ℕ) (rest : List A) → F k rest [] ≡ [])
    → (xs : List A) (ys : List B) (k : ℕ) → min (length xs) (length ys) ≤ k
    → F k (drop k xs) (drop k ys) ≡ []
pairs_end F left right xs ys k l = at (nat_lt k (length xs)) refl where
  at : (b : Bool) → nat_lt k (length xs) ≡ b → F k (drop k xs) (drop k ys) ≡ []
  at true e =
      let within : k < length xs = ltb-true k (length xs) e in
      let over : length ys ≤ k = omega arith in
      ap (F k (drop k xs)) (drop_all k ys over) ∙ right k (drop k xs)
  at false e = ap (λ z. F k z (drop k ys)) (drop_all k xs (ltb-false k (length xs) e))
      ∙ left k (drop k ys)

-- the text of the next lines is appended, while that of the rest is still to come
pub text_on : (o out new : List ℕ) (rest now later : List Line) → out ++ text_of rest ≡ o
    → rest ≡ now ++ later → new ≡ out ++ text_of now → new ++ text_of later ≡ o
text_on o out new rest now later h s k =
    ap (λ (l : List ℕ). l ++ text_of later) k
    ∙ append_assoc out (text_of now) (text_of later)
    ∙ ap (λ (l : List ℕ). out ++ l) (sym (ap text_of s ∙ flat_map-append line_text now later)) ∙ h

-- and their number is added
pub count_on : (lines more total : ℕ) (rest now later : List Line) → lines + length rest ≡ total
    → rest ≡ now ++ later → more ≡ length now → (lines + more) + length later ≡ total
count_on lines more total rest now later h s k =
    let both : length rest ≡ length now + length later =
    ap (λ (l : List Line). length l) s ∙ length-append now later in omega arith

-- after the last lines, all are there
pub text_end : (o out : List ℕ) (rest : List Line) → rest ≡ [] → out ++ text_of rest ≡ o → out ≡ o
text_end o out rest none h =
    sym (append-nil out) ∙ ap (λ (l : List Line). out ++ text_of l) (sym none) ∙ h

-- and all are counted
pub count_end : (lines total : ℕ) (rest : List Line) → rest ≡ [] → lines + length rest ≡ total
    → lines ≡ total
count_end lines total rest none h =
    let zero_left : length rest ≡ 0 = ap (λ (l : List Line). length l) none in omega arith

-- the lines of calls, and of tasks
pub no_replies : (inodes : List EndedInodeValue) (n k : ℕ) (cs : List Call)
    → call_lines inodes n k cs [] ≡ []
no_replies inodes n k [] = refl
no_replies inodes n k (c ∷ cs) = refl

-- without tasks that ended there are no lines
pub no_tasks : (inodes : List EndedInodeValue) (n : ℕ) (tasks : List TaskBlock)
    → task_lines inodes n (calls_in tasks) [] ≡ []
no_tasks inodes n [] = refl
no_tasks inodes n (t ∷ tasks) = refl

-- ---- the row of a task

-- the map of a list has the image of an element at the same place
map_get : {A B : Type 0} (f : A → B) (xs : List A) (k : ℕ) (x : A) → slice_get xs k ≡ Some x
    → slice_get (map f xs) k ≡ Some (f x)
map_get f [] k x h = absurd (cc)
map_get f (y ∷ xs) zero x h = ap (λ z. Some (f z)) (same_Some y x h)
map_get f (y ∷ xs) (suc k) x h = map_get f xs k x h

-- a row has a cell for each call of its task
shape_at : (tasks : List TaskBlock) (rows : List (List (Option Placed))) (n : ℕ) (t : TaskBlock)
    (row : List (Option Placed)) → HasShape (calls_in tasks) rows → n < length tasks
    → t ≡ get_or tasks n t → row ≡ get_or rows n row → length row ≡ length t.calls
shape_at [] rows n t row h l is at = absurd (omega arith)
shape_at (x ∷ tasks) [] n t row h l is at = absurd (cc)
shape_at (x ∷ tasks) (y ∷ rows) zero t row h l is at =
    let same : length y ≡ length x.calls = cc in
    ap (λ (z : List (Option Placed)). length z) at ∙ same
    ∙ sym (ap (λ (z : TaskBlock). length z.calls) is)
shape_at (x ∷ tasks) (y ∷ rows) (suc n) t row h l is at =
    let rest : HasShape (calls_in tasks) rows = cc in
    shape_at tasks rows n t row rest (omega arith) is at

-- there is a row for each task
pub row_within : (tasks : List TaskBlock) (rows : List (List (Option Placed))) (n : ℕ)
    → HasShape (calls_in tasks) rows → n < length tasks → n < length rows
row_within [] rows n h l = absurd (omega arith)
row_within (x ∷ tasks) [] n h l = absurd (cc)
row_within (x ∷ tasks) (y ∷ rows) zero h l = omega arith
row_within (x ∷ tasks) (y ∷ rows) (suc n) h l =
    let rest : HasShape (calls_in tasks) rows = cc in
    let w : n < length rows = row_within tasks rows n rest (omega arith) in omega arith

-- each cell of a task's row has the place of its call
pub row_has : (tasks : List TaskBlock) (inodes : List EndedInodeValue)
    (rows : List (List (Option Placed))) (n : ℕ) (t : TaskBlock) (row : List (Option Placed))
    → HasPlaces (calls_in tasks) inodes rows → n < length tasks → t ≡ get_or tasks n t
    → row ≡ get_or rows n row → (k : ℕ) (c : Call) → slice_get t.calls k ≡ Some c
    → slice_get row k ≡ Some (placed_in inodes n k (read_by c))
row_has tasks inodes rows n t row has l is at k c e =
    let even : length row ≡ length t.calls = shape_at tasks rows n t row has.shape l is at in
    let below : k < length t.calls = slice_get_within t.calls k c e in
    let here : slice_get row k ≡ Some (get_or row k None) =
    slice_get-get_or row k None (omega arith) in
    let there : slice_get rows n ≡ Some row =
    slice_get-get_or rows n row (row_within tasks rows n has.shape l)
    ∙ ap (λ (z : List (Option Placed)). Some z) (sym at) in
    let calls : slice_get (calls_in tasks) n ≡ Some t.calls =
    map_get (λ (z : TaskBlock). z.calls) tasks n t (slice_get-get_or tasks n t l
    ∙ ap (λ (z : TaskBlock). Some z) (sym is)) in
    let reading : read_at (calls_in tasks) n k ≡ read_by c =
    ap (λ (o : Option (List Call)).
    option_and_then read_by (option_and_then (λ (cs : List Call). slice_get cs k) o)) calls
    ∙ ap (λ (o : Option Call). option_and_then read_by o) e in
    let value : cell rows n k ≡ get_or row k None =
    ap (λ (o : Option (List (Option Placed))).
    flat (option_and_then (λ (z : List (Option Placed)). slice_get z k) o)) there
    ∙ ap flat here in
    here ∙ ap (λ (o : Option Placed). Some o) (sym value ∙ has.cells n k
    ∙ ap (placed_in inodes n k) reading)

-- ---- the whole table

table_gather : (o h e b f : List ℕ) → (((o ++ h) ++ e) ++ b) ++ f ≡ o ++ (h ++ e ++ b ++ f)
table_gather o h e b f = simp append_assoc

-- the pieces of the table, as the code appends them, are the table
pub table_pushed : (o : List ℕ) (count : ℕ) (body : List ℕ)
    → (((o ++ join_with_byte 32 (codes "loads" ∷ numeral count ∷ [])) ++ codes "\n") ++ body)
    ++ codes "end\n" ≡ o ++ table_text count body
table_pushed o count body =
    table_gather o (join_with_byte 32 (codes "loads" ∷ numeral count ∷ [])) (codes "\n") body
    (codes "end\n")

-- the table, by the text of its lines
pub table_is : (count : ℕ) (body : List ℕ) (ls : List Line) → count ≡ length ls
    → body ≡ text_of ls → table_text count body ≡ text_of (table_lines ls)
table_is count body ls c b =
    (λ i. table_text (c i) (b i))
    ∙ append_assoc (line_text (codes "loads" ∷ numeral (length ls) ∷ [])) (text_of ls)
    (codes "end\n")
    ∙ ap (λ (l : List ℕ). line_text (codes "loads" ∷ numeral (length ls) ∷ []) ++ l)
    (sym (flat_map-append line_text ls ((codes "end" ∷ []) ∷ [])))

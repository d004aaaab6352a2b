-- The lines of calls are read. They come in groups of three, which open a file, read or write it,
-- and close it.
use Rattle.std.proofs.Common.{◌≡◌, ℕ, zero, suc, ◌+◌, ◌*◌, ◌<◌, ◌≤◌, ◌==◌, true, false, not, nat_lt, List, [], ◌∷◌, ◌++◌, length, take, Option, Some, Ok, refl, ◌∙◌, inl, inr, arith}
use Rattle.std.specs.Prelude.{codes, replicate}
use Rattle.std.specs.Fmt.{decimal}
use Rattle.std.specs.List.{list_all}
use Rattle.std.proofs.lemmas.Bool.{cases_Bool}
use Rattle.std.proofs.lemmas.Bool.Decides.{nat_tests}
use Rattle.std.proofs.lemmas.List.{length-replicate}
use Rattle.std.proofs.lemmas.List.Folds.{list_all-append}
use Rattle.call_steps.specs.declared.call.Call.{Call}
use Rattle.call_steps.specs.declared.call.Call.TheVariants as call
use Rattle.hex.specs.Hex.{encode_lower}
use Rattle.call_steps.specs.events.declared.deed.How.{How}
use Rattle.call_steps.specs.events.declared.deed.How.TheVariants as how
use Rattle.script_text.specs.call_table.Calls.{call_of}
use Rattle.script_text.specs.Draft.{Draft}
use Rattle.script_text.specs.Forms.{is_id}
use Rattle.script_text.specs.Grammar.{with_head}
use Rattle.script_text.specs.Heads.{head_of}
use Rattle.script_text.specs.Limits.{most_bytes, most_calls, most_content}
use Rattle.script_text.specs.Places.{place_in}
use Rattle.script_text.specs.Tasks.{appends, call_bytes, called, task_with, with_call, with_call_line}
use Rattle.script_text.specs.call_table.declared.table.CallWord.{CallWord}
use Rattle.script_text.specs.call_table.declared.table.CallWord.TheVariants as word
use Rattle.script_text.specs.declared.head.Head.TheVariants as head
use Rattle.script_text.specs.declared.blocks.TaskBlock.{TaskBlock}
use Rattle.script_text.proofs.Lasts.{all_changed, length_changed}
use Rattle.script_spelling.specs.Lines.{Line, begins_line, is_plain, line_text}
use Rattle.script_spelling.proofs.Lines.{text_after}
use Rattle.script_spelling.proofs.Words.{id_back, id_plain, path_plain}
use Rattle.load_gen.specs.Accepted.{never_waits, waits}
use Rattle.load_gen.specs.Draws.{drawn, next}
use Rattle.load_gen.specs.Script.{group, group_by, groups, read_text, write_text}
use Rattle.load_gen.proofs.Fills.{digits_plain, fill_text, fill_value_back}
use Rattle.load_gen.proofs.Makes.{Makes, and_then, as_text, by_line, no_text, weaker}
use Rattle.load_gen.proofs.Spelled.{read_pieces, write_pieces}
use Rattle.load_gen.proofs.Numbered.{path_is, path_of}

room : (n m : ℕ) → n < m → nat_lt n m ≡ true
room n m h = grind (arith, nat_tests)

not_above : (n most : ℕ) → n ≤ most → nat_lt most n ≡ false
not_above n most h = grind (arith, nat_tests)

-- the path of each file is found in the draft
abbrev pub Finds : Draft → Type 0
Finds d = (f : ℕ) → f < 64 → place_in d.paths (path_of f) ≡ Some f

-- the draft is in the block of the last of t tasks, and has at most n calls so far
pub record InTask (t n : ℕ) (d : Draft) : Type 0 where
  pub at : (d.at == 12) ≡ true
  pub files : length d.script.files ≡ 64
  pub finds : Finds d
  pub rules : length d.script.rules ≡ 2
  pub tasks : length d.script.tasks ≡ t
  pub calls : d.calls ≤ n
  pub sum : d.sum ≤ 1280000 + 100 * n
  pub free : list_all never_waits d.script.tasks ≡ true

more_calls : (tasks n m : ℕ) → n ≤ m → (d : Draft) → InTask tasks n d → InTask tasks m d
more_calls tasks n m le d h = record {
  at = h.at;
  files = h.files;
  finds = h.finds;
  rules = h.rules;
  tasks = h.tasks;
  calls = omega (arith, h.calls, le);
  sum = omega (arith, h.sum, le);
  free = h.free;
}

-- ---- one call

-- a call that appends no rule, has at most 100 bytes and never waits
pub record IsLight (c : Call) : Type 0 where
  pub appends : appends c ≡ false
  pub bytes : call_bytes c ≤ 100
  pub free : waits c ≡ false

-- a task that gets a light call still never waits
free_with : (c : Call) → IsLight c → (t : TaskBlock) → never_waits t ≡ true
    → never_waits (task_with c t) ≡ true
free_with c light t h =
    rw (list_all-append (λ x. not (waits x)) t.calls (c ∷ []), h, light.free) refl

module _ (tasks n : ℕ) (d : Draft) (h : InTask tasks n d) (few : n < 3072) where
  abbrev after : Call → Draft
  after c = called c (record d { at = 12 })

  call_made : (c : Call) → IsLight c → with_call c (record d { at = 12 }) ≡ Ok (after c)
  unfolding with_call
  call_made c light =
      let free : nat_lt d.calls most_calls ≡ true =
      room d.calls most_calls (omega (arith, h.calls, few)) in
      let small : nat_lt most_bytes (d.sum + call_bytes c) ≡ false =
      not_above (d.sum + call_bytes c) most_bytes (omega (arith, h.sum, few, light.bytes)) in
      rw (free, light.appends, small) refl

  line_made : (k : CallWord) (c : Call) (text : Option (List ℕ)) (words : Line) → IsLight c
      → call_of k text words d.paths ≡ Ok c
      → with_call_line k text words (record d { at = 12 }) ≡ Ok (after c)
  unfolding with_call_line
  line_made k c text words light is = rw is (call_made c light)

  after_is : (c : Call) → IsLight c → InTask tasks (n + 1) (after c)
  after_is c light = record {
    at = refl;
    files = h.files;
    finds = h.finds;
    rules = h.rules;
    tasks = length_changed (task_with c) d.script.tasks ∙ h.tasks;
    calls = omega (arith, h.calls);
    sum = omega (arith, h.sum, light.bytes);
    free = all_changed (task_with c) never_waits (free_with c light) d.script.tasks h.free;
  }

  one_call : (w : List ℕ) (ws : Line) (k : CallWord) (c : Call) → IsLight c
      → begins_line w ≡ true → is_plain w ≡ true → list_all is_plain ws ≡ true
      → head_of w ≡ Some (head.Call k) → call_of k (text_after ws) (take 9 ws) d.paths ≡ Ok c
      → Makes d (line_text (w ∷ ws)) (InTask tasks (n + 1))
  unfolding with_head
  one_call w ws k c light begins plain others is read =
      by_line w ws (head.Call k) d (after c) (InTask tasks (n + 1)) begins plain others is h.at
      (line_made k c (text_after ws) (take 9 ws) light read) (after_is c light)

  -- the line that opens a file is read
  open_line : (f : ℕ) (way : List ℕ) (how : How) → f < 64 → is_plain way ≡ true
      → call_of word.Open (text_after (codes "0" ∷ path_of f ∷ way ∷ []))
      (codes "0" ∷ path_of f ∷ way ∷ []) d.paths ≡ Ok (call.Open 0 f how false)
      → Makes d (line_text (codes "open" ∷ codes "0" ∷ path_of f ∷ way ∷ []))
      (InTask tasks (n + 1))
  open_line f way how lt plain is =
      one_call (codes "open") (codes "0" ∷ path_of f ∷ way ∷ []) word.Open (call.Open 0 f how false)
      (record { appends = refl; bytes = omega arith; free = refl }) refl refl
      (rw (path_plain (path_of f) (path_is f lt), plain) refl) refl is

  open_read : (f : ℕ) → f < 64
      → Makes d (line_text (codes "open" ∷ codes "0" ∷ path_of f ∷ codes "r" ∷ []))
      (InTask tasks (n + 1))
  unfolding call_of
  open_read f lt =
      open_line f (codes "r") (how.Read false) lt refl (rw (path_is f lt, h.finds f lt) refl)

  open_write : (f : ℕ) → f < 64
      → Makes d (line_text (codes "open" ∷ codes "0" ∷ path_of f ∷ codes "w" ∷ []))
      (InTask tasks (n + 1))
  unfolding call_of
  open_write f lt =
      open_line f (codes "w") (how.Write false false) lt refl
      (rw (path_is f lt, h.finds f lt) refl)

  read_line : Makes d (line_text (codes "read" ∷ codes "0" ∷ codes "0" ∷ codes "4096" ∷ []))
      (InTask tasks (n + 1))
  unfolding call_of
  read_line =
      one_call (codes "read") (codes "0" ∷ codes "0" ∷ codes "4096" ∷ []) word.Read
      (call.Read 0 0 4096) (record { appends = refl; bytes = omega arith; free = refl }) refl refl
      refl refl refl

  close_line : Makes d (line_text (codes "close" ∷ codes "0" ∷ [])) (InTask tasks (n + 1))
  unfolding call_of
  close_line =
      one_call (codes "close") (codes "0" ∷ []) word.Close (call.Close 0)
      (record { appends = refl; bytes = omega arith; free = refl }) refl refl refl refl refl

  -- the line that writes bytes is read
  write_line : (from len b : ℕ) → from < 1000 → 1 ≤ len → len ≤ 100 → b < 64
      → Makes d (line_text (codes "write" ∷ codes "0" ∷ decimal from ∷ fill_text len b ∷ []))
      (InTask tasks (n + 1))
  unfolding call_of
  write_line from len b place some small lt =
      let id : is_id from ≡ true = grind (arith, nat_tests) in
      one_call (codes "write") (codes "0" ∷ decimal from ∷ fill_text len b ∷ []) word.Write
      (call.Write 0 from (replicate len b))
      (record { appends = refl; bytes = omega (arith, length-replicate len b); free = refl }) refl
      refl
      (rw (id_plain from id, digits_plain len b (omega arith) lt) refl) refl
      (rw (
        id_back from id,
        fill_value_back 1 most_content len b some (omega arith) (omega arith) lt,
      ) refl)

-- ---- groups

abbrev open_text : ℕ → List ℕ → List ℕ
open_text f way = line_text (codes "open" ∷ codes "0" ∷ path_of f ∷ way ∷ [])

abbrev reading : List ℕ
reading = line_text (codes "read" ∷ codes "0" ∷ codes "0" ∷ codes "4096" ∷ [])

abbrev writing : ℕ → ℕ → ℕ → List ℕ
writing from len b = line_text (codes "write" ∷ codes "0" ∷ decimal from ∷ fill_text len b ∷ [])

abbrev closing : List ℕ
closing = line_text (codes "close" ∷ codes "0" ∷ [])

read_spelled : (f : ℕ) → open_text f (codes "r") ++ (reading ++ closing) ≡ read_text f
read_spelled f =
    read_pieces (codes "open 0 /f") (decimal f) (codes " r") (10 ∷ []) (reading ++ closing)

write_spelled : (t f from len : ℕ)
    → open_text f (codes "w") ++ (writing from len t ++ closing) ≡ write_text t f from len
write_spelled t f from len =
    write_pieces (codes "open 0 /f") (decimal f) (codes " w") (10 ∷ []) (codes "write 0 ")
    (decimal from) (codes " fill:") (decimal len) (codes ":") (encode_lower (t ∷ [])) closing

module _ (tasks n : ℕ) (few : n + 3 ≤ 3072) (d : Draft) (h : InTask tasks n d) where
  abbrev Q : Draft → Type 0
  Q = InTask tasks (n + 3)

  -- the last of the three lines of a group
  last_line : (e : Draft) → InTask tasks (n + 1 + 1) e → Makes e closing Q
  last_line e k =
      weaker e closing (InTask tasks (n + 1 + 1 + 1)) Q
      (more_calls tasks (n + 1 + 1 + 1) (n + 3) (omega arith))
      (close_line tasks (n + 1 + 1) e k (omega arith))

  three_lines : (t u : List ℕ) → Makes d t (InTask tasks (n + 1))
      → ((e : Draft) → InTask tasks (n + 1) e → Makes e u (InTask tasks (n + 1 + 1)))
      → Makes d (t ++ (u ++ closing)) Q
  three_lines t u first second =
      and_then d t (u ++ closing) (InTask tasks (n + 1)) Q first
      (λ e k. and_then e u closing (InTask tasks (n + 1 + 1)) Q (second e k) last_line)

  read_group : (f : ℕ) → f < 64 → Makes d (read_text f) Q
  read_group f lt =
      as_text d (open_text f (codes "r") ++ (reading ++ closing)) (read_text f) Q (read_spelled f)
      (three_lines (open_text f (codes "r")) reading (open_read tasks n d h (omega arith) f lt)
      (λ e k. read_line tasks (n + 1) e k (omega arith)))

  write_group : (t f from len : ℕ) → t < 64 → f < 64 → from < 1000 → 1 ≤ len → len ≤ 100
      → Makes d (write_text t f from len) Q
  write_group t f from len byte lt place some small =
      as_text d (open_text f (codes "w") ++ (writing from len t ++ closing))
      (write_text t f from len) Q (write_spelled t f from len)
      (three_lines (open_text f (codes "w")) (writing from len t)
      (open_write tasks n d h (omega arith) f lt)
      (λ e k. write_line tasks (n + 1) e k (omega arith) from len t place some small byte))

  by_draws : (t f g x : ℕ) → t < 64 → f < 64 → Makes d (group_by t f g x).text Q
  by_draws t f g x byte lt = elim (cases_Bool (nat_lt g 3)) [
    | inl e ↦ rw e (read_group f lt)
    | inr e ↦ rw e
        (write_group t f (drawn 1000 (next x)) (1 + drawn 100 (next (next x))) byte lt
        (omega arith) (omega arith) (omega arith))
  ]

  one_group : (t x : ℕ) → t < 64 → Makes d (group t x).text Q
  one_group t x byte =
      by_draws t (drawn 64 (next x)) (drawn 4 (next (next x))) (next (next x)) byte (omega arith)

-- the groups of a task are read one after another
pub groups_read : (n t x tasks m : ℕ) (d : Draft) → t < 64 → InTask tasks m d → m + 3 * n ≤ 3072
    → Makes d (groups n t x).text (InTask tasks (m + 3 * n))
unfolding groups
groups_read zero t x tasks m d byte h few =
    no_text d (InTask tasks (m + 3 * 0)) (more_calls tasks m (m + 3 * 0) (omega arith) d h)
groups_read (suc n) t x tasks m d byte h few =
    let rest = (groups n t (group t x).state).text in
    let Q = InTask tasks (m + 3 * suc n) in
    and_then d (group t x).text rest (InTask tasks (m + 3)) Q
    (one_group tasks m (omega (arith, few)) d h t x byte)
    (λ e k. weaker e rest (InTask tasks (m + 3 + 3 * n)) Q
    (more_calls tasks (m + 3 + 3 * n) (m + 3 * suc n) (omega arith))
    (groups_read n t (group t x).state tasks (m + 3) e byte k (omega (arith, few))))

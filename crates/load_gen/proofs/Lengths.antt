-- An upper bound on the length of a generated script.
use Rattle.std.proofs.Common.{◌≡◌, ℕ, zero, suc, ◌+◌, ◌*◌, ◌<◌, ◌≤◌, nat_lt, List, [], ◌∷◌, ◌++◌, length, inl, inr, arith, length-append}
use Rattle.std.specs.Prelude.{codes}
use Rattle.std.specs.Fmt.{decimal}
use Rattle.std.proofs.lemmas.Bool.{cases_Bool}
use Rattle.std.proofs.lemmas.Fmt.{length-decimal-le}
use Rattle.hex.specs.Hex.{encode_lower, lower_digits}
use Rattle.hex.proofs.HexLemmas.{length-encode_with}
use Rattle.load_gen.specs.Draws.{drawn, next}
use Rattle.load_gen.specs.Script.{file_text, files, group, group_by, groups, read_text, rules_text, script_text, settings_text, tasks, write_text}

-- the hexadecimal form of a byte has two digits
two_digits : (b : ℕ) → length (encode_lower (b ∷ [])) ≡ 2
two_digits b = omega (arith, length-encode_with lower_digits (b ∷ []))

-- the length of three texts in a row
three : (a b c : List ℕ) → length (a ++ b ++ c) ≡ length a + length b + length c
three a b c = omega (arith, length-append (a ++ b) c, length-append a b)

nine : (a b c d e f g h i : List ℕ)
    → length (a ++ b ++ c ++ d ++ e ++ f ++ g ++ h ++ i)
    ≡ length a + length b + length c + length d + length e + length f + length g + length h
    + length i
nine a b c d e f g h i =
    omega (
      arith,
      three (a ++ b ++ c ++ d ++ e ++ f ++ g) h i,
      three (a ++ b ++ c ++ d ++ e) f g,
      three (a ++ b ++ c) d e,
      three a b c,
    )

-- ---- files

short_file : (i n : ℕ) → i < 64 → n < 20000 → length (file_text i n) ≤ 100
short_file i n lt few =
    let all : length (file_text i n) ≡ 7 + length (decimal i) + 10 + length (decimal (100 + i))
    + 44 + length (decimal n) + 1 + length (encode_lower (i ∷ [])) + 6 =
    nine (codes "file /f") (decimal i) (codes " fs=0 ino=") (decimal (100 + i))
    (codes " gen=1 uid=0 gid=0 mode=100644 content=fill:") (decimal n) (codes ":")
    (encode_lower (i ∷ [])) (codes "\nseal\n") in
    omega (
      arith,
      all,
      length-decimal-le 2 i (omega arith) (omega arith) (omega arith),
      length-decimal-le 3 (100 + i) (omega arith) (omega arith) (omega arith),
      length-decimal-le 5 n (omega arith) (omega arith) (omega arith),
      two_digits i,
    )

short_files : (n i x : ℕ) → i + n ≤ 64 → length (files n i x).text ≤ 100 * n
unfolding files
short_files zero i x few = omega arith
short_files (suc n) i x few =
    let first = file_text i (drawn 20000 (next x)) in
    omega (
      arith,
      length-append first (files n (i + 1) (next x)).text,
      short_file i (drawn 20000 (next x)) (omega (arith, few)) (omega arith),
      short_files n (i + 1) (next x) (omega (arith, few)),
    )

-- ---- calls

short_read : (f : ℕ) → f < 64 → length (read_text f) ≤ 60
short_read f lt =
    let all : length (read_text f) ≡ 9 + length (decimal f) + 25 =
    three (codes "open 0 /f") (decimal f) (codes " r\nread 0 0 4096\nclose 0\n") in
    omega (arith, all, length-decimal-le 2 f (omega arith) (omega arith) (omega arith))

short_write : (t f from len : ℕ) → f < 64 → from < 1000 → len ≤ 100
    → length (write_text t f from len) ≤ 60
short_write t f from len lt place small =
    let all : length (write_text t f from len) ≡ 9 + length (decimal f) + 11 + length (decimal from)
    + 6 + length (decimal len) + 1 + length (encode_lower (t ∷ [])) + 9 =
    nine (codes "open 0 /f") (decimal f) (codes " w\nwrite 0 ") (decimal from) (codes " fill:")
    (decimal len) (codes ":") (encode_lower (t ∷ [])) (codes "\nclose 0\n") in
    omega (
      arith,
      all,
      length-decimal-le 2 f (omega arith) (omega arith) (omega arith),
      length-decimal-le 3 from (omega arith) (omega arith) (omega arith),
      length-decimal-le 3 len (omega arith) (omega arith) (omega arith),
      two_digits t,
    )

by_draws : (t f g x : ℕ) → f < 64 → length (group_by t f g x).text ≤ 60
by_draws t f g x lt = elim (cases_Bool (nat_lt g 3)) [
  | inl e ↦ rw e (short_read f lt)
  | inr e ↦ rw e
      (short_write t f (drawn 1000 (next x)) (1 + drawn 100 (next (next x))) lt (omega arith)
      (omega arith))
]

short_groups : (n t x : ℕ) → length (groups n t x).text ≤ 60 * n
unfolding groups
short_groups zero t x = omega arith
short_groups (suc n) t x =
    let rest = (groups n t (group t x).state).text in
    omega (
      arith,
      length-append (group t x).text rest,
      by_draws t (drawn 64 (next x)) (drawn 4 (next (next x))) (next (next x)) (omega arith),
      short_groups n t (group t x).state,
    )

short_tasks : (n t x : ℕ) → length (tasks n t x) ≤ 4000 * n
unfolding tasks
short_tasks zero t x = omega arith
short_tasks (suc n) t x =
    let own = (groups 64 t x).text in
    let rest = tasks n (t + 1) (groups 64 t x).state in
    let all : length (tasks (suc n) t x) ≡ 37 + length own + length rest =
    three (codes "task uid=0 euid=0 gid=0 egid=0 admin\n") own rest in
    omega (arith, all, short_groups 64 t x, short_tasks n (t + 1) (groups 64 t x).state)

-- ---- the whole text

pub short : (number : ℕ) → length (script_text number) ≤ 80000
short number =
    let of_files = (files 64 0 number).text in
    let of_tasks = tasks 16 0 (files 64 0 number).state in
    let all : length (script_text number) ≡ length (settings_text ++ of_files ++ rules_text)
    + length of_tasks + 7 =
    three (settings_text ++ of_files ++ rules_text) of_tasks (codes "rounds\n") in
    let front : length (settings_text ++ of_files ++ rules_text) ≡ 147 + length of_files + 82 =
    three settings_text of_files rules_text in
    omega (
      arith,
      all,
      front,
      short_files 64 0 number (omega arith),
      short_tasks 16 0 (files 64 0 number).state,
    )

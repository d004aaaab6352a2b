-- The lines of files are read, each file with its seal.
use Rattle.std.proofs.Common.{◌≡◌, ℕ, zero, suc, ◌+◌, ◌*◌, ◌<◌, ◌≤◌, true, false, nat_lt, List, [], ◌∷◌, ◌++◌, length, Ok, refl, sym, ap, ◌∙◌, subst, arith, length-append}
use Rattle.std.specs.Prelude.{codes, replicate}
use Rattle.std.specs.Fmt.{decimal}
use Rattle.std.specs.List.{list_all}
use Rattle.std.proofs.lemmas.Bool.Decides.{nat_tests}
use Rattle.std.proofs.lemmas.List.{length-replicate}
use Rattle.hex.specs.Hex.{encode_lower}
use Rattle.script_text.specs.Draft.{Draft, change_last}
use Rattle.script_text.specs.Files.{block_of, filed, sealed, setup_of, with_file, with_front, with_seal}
use Rattle.script_text.specs.fields.FileFields.{Front}
use Rattle.script_text.specs.Forms.{is_ino}
use Rattle.script_text.specs.Grammar.{with_head}
use Rattle.script_text.specs.Limits.{most_bytes, most_content, most_files}
use Rattle.script_text.specs.declared.blocks.FileBlock.{FileBlock}
use Rattle.script_text.specs.declared.head.Head.TheVariants as head
use Rattle.script_text.proofs.Lasts.{length_changed}
use Rattle.script_spelling.specs.Lines.{Line, is_plain, line_text}
use Rattle.script_spelling.proofs.Many.{IsAt, again_at}
use Rattle.script_spelling.proofs.Words.{decimal_plain, ino_back, path_plain}
use Rattle.load_gen.specs.Draws.{drawn, next}
use Rattle.load_gen.specs.Script.{file_text, files}
use Rattle.load_gen.proofs.Fills.{digits_plain, fill_text, fill_value_back}
use Rattle.load_gen.proofs.Makes.{Makes, and_then, as_text, by_line, no_text}
use Rattle.load_gen.proofs.Numbered.{length_paths, new_path, path_is, path_of, paths_more, paths_to}
use Rattle.load_gen.proofs.Spelled.{file_pieces}
use Rattle.load_gen.proofs.SettingsRead.{IsSet, ext4}

room : (n m : ℕ) → n < m → nat_lt n m ≡ true
room n m h = grind (arith, nat_tests)

not_above : (n most : ℕ) → n ≤ most → nat_lt most n ≡ false
not_above n most h = grind (arith, nat_tests)

-- the draft after i files
pub record HasFiles (i : ℕ) (d : Draft) : Type 0 where
  pub at : IsAt d.at 10
  pub supers : d.script.supers ≡ ext4 ∷ []
  pub paths : d.paths ≡ paths_to i
  pub files : length d.script.files ≡ i
  pub rules : d.script.rules ≡ []
  pub tasks : d.script.tasks ≡ []
  pub sum : d.sum ≤ 20000 * i
  pub calls : d.calls ≡ 0
  pub appended : d.appended ≡ 0

-- the draft after the settings has no file
pub no_files : (d : Draft) → IsSet d → HasFiles 0 d
no_files d h = record {
  at = record { some = omega (arith, h.at); few = omega (arith, h.at) };
  supers = h.supers;
  paths = h.paths;
  files = rw h.files refl;
  rules = h.rules;
  tasks = h.tasks;
  sum = omega (arith, h.counts.0);
  calls = h.counts.1;
  appended = h.counts.2;
}

-- ---- one file

abbrev shared_words : ℕ → Line
shared_words i =
    path_of i ∷ codes "fs=0" ∷ (codes "ino=" ++ decimal (100 + i)) ∷ codes "gen=1"
    ∷ codes "uid=0" ∷ codes "gid=0" ∷ codes "mode=100644" ∷ []

abbrev file_words : ℕ → ℕ → Line
file_words i n = shared_words i ++ (codes "content=" ++ fill_text n i) ∷ []

abbrev front : ℕ → Front
front i = record {
  path = path_of i;
  fs = codes "0";
  ino = 100 + i;
  generation = 1;
  uid = 0;
  gid = 0;
  mode = 0o100644;
}

abbrev block : ℕ → ℕ → FileBlock
block i n = block_of (front i) 0 ext4 true (replicate n i)

abbrev with_it : ℕ → ℕ → Draft → Draft
with_it i n d = filed (block i n) (record d { at = 10 })

-- the draft with its last file sealed
abbrev seal_it : Draft → Draft
seal_it e = record e {
  script = record e.script {
    files = change_last (sealed (setup_of e.script) e.script.hash) e.script.files;
  };
  at = 10;
  unsealed = false;
}

small_ino : (i : ℕ) → i < 64 → is_ino (100 + i) ≡ true
small_ino i lt = grind (arith, nat_tests)

module _ (i n : ℕ) (lt : i < 64) (few : n < 20000) where
  file_plain : list_all is_plain (file_words i n) ≡ true
  file_plain =
      rw (
        path_plain (path_of i) (path_is i lt),
        decimal_plain (100 + i) (omega arith),
        digits_plain n i (omega arith) lt,
      ) refl

  block_back : (d : Draft) → HasFiles i d
      → with_front (front i) true (replicate n i) (record d { at = 10 }) ≡ Ok (with_it i n d)
  block_back d h =
      let len : length (replicate n i) ≡ n = length-replicate n i in
      let fits : nat_lt most_bytes (d.sum + length (replicate n i)) ≡ false =
      not_above (d.sum + length (replicate n i)) most_bytes (omega (arith, len, h.sum)) in
      let free : nat_lt (length (paths_to i)) most_files ≡ true =
      room (length (paths_to i)) most_files (omega (arith, length_paths i)) in
      rw (h.supers, h.paths, new_path i i (omega arith) lt, free, fits) refl

  file_back : (d : Draft) → HasFiles i d
      → with_file (file_words i n) (record d { at = 10 }) ≡ Ok (with_it i n d)
  unfolding with_file
  file_back d h =
      rw (
        path_is i lt,
        ino_back (100 + i) (small_ino i lt),
        fill_value_back 0 most_content n i (omega arith) (omega arith) (omega arith) lt,
      ) (block_back d h)

  -- after the two lines of a file the draft has one more file
  sealed_is : (d : Draft) → HasFiles i d → HasFiles (i + 1) (seal_it (with_it i n d))
  sealed_is d h =
      let evm = setup_of d.script in
      record {
        at = record { some = omega arith; few = omega arith };
        supers = h.supers;
        paths = ap (λ (ps : List (List ℕ)). ps ++ path_of i ∷ []) h.paths ∙ paths_more i;
        files = omega (
          arith,
          length_changed (sealed evm d.script.hash) (d.script.files ++ block i n ∷ []),
          length-append d.script.files (block i n ∷ []),
          h.files,
        );
        rules = h.rules;
        tasks = h.tasks;
        sum = omega (arith, h.sum, length-replicate n i);
        calls = h.calls;
        appended = h.appended;
      }

  -- the two lines of a file spell its text
  file_spelled : line_text (codes "file" ∷ file_words i n) ++ line_text (codes "seal" ∷ [])
      ≡ file_text i n
  file_spelled =
      file_pieces (codes "file /f") (decimal i) (codes " fs=0 ino=") (decimal (100 + i))
      (codes " gen=1 uid=0 gid=0 mode=100644 content=fill:") (decimal n) (codes ":")
      (encode_lower (i ∷ [])) (10 ∷ []) (line_text (codes "seal" ∷ []))

  one_file : (d : Draft) → HasFiles i d → Makes d (file_text i n) (HasFiles (i + 1))
  unfolding with_head with_seal
  one_file d h =
      let e = with_it i n d in
      let P : Draft → Type 0 = λ x. x ≡ e in
      let Q : Draft → Type 0 = λ x. HasFiles (i + 1) x in
      let seal : Makes e (line_text (codes "seal" ∷ [])) Q =
      by_line (codes "seal") [] head.Seal e (seal_it e) Q refl refl refl refl refl refl
      (sealed_is d h) in
      as_text d (line_text (codes "file" ∷ file_words i n) ++ line_text (codes "seal" ∷ []))
      (file_text i n) Q file_spelled
      (and_then d (line_text (codes "file" ∷ file_words i n)) (line_text (codes "seal" ∷ [])) P Q
      (by_line (codes "file") (file_words i n) head.File d e P refl refl file_plain refl
      (again_at 10 d.at h.at) (file_back d h) refl)
      (λ x k. (let R : Draft → Type 0 = λ y. Makes y (line_text (codes "seal" ∷ [])) Q in
      subst R (sym k) seal)))

-- ---- all files

pub files_read : (n i x : ℕ) (d : Draft) → HasFiles i d → i + n ≤ 64
    → Makes d (files n i x).text (HasFiles (i + n))
unfolding files
files_read zero i x d h few =
    let same : i ≡ i + 0 = omega arith in
    no_text d (HasFiles (i + 0)) (let P : ℕ → Type 0 = λ k. HasFiles k d in subst P same h)
files_read (suc n) i x d h few =
    let len = drawn 20000 (next x) in
    let same : i + 1 + n ≡ i + suc n = omega arith in
    let rest = (files n (i + 1) (next x)).text in
    and_then d (file_text i len) rest (HasFiles (i + 1)) (HasFiles (i + suc n))
    (one_file i len (omega (arith, few)) (omega arith) d h)
    (λ e k. (let P : ℕ → Type 0 = λ m. Makes e rest (HasFiles m) in
    subst P same (files_read n (i + 1) (next x) e k (omega (arith, few)))))

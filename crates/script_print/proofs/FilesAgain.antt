-- Reading the lines of files makes the files again.
use Rattle.std.proofs.Common.{◌≡◌, ℕ, zero, suc, ◌+◌, ◌^◌, ◌<◌, ◌≤◌, Bool, true, false, ◌&&◌, ◌||◌, not, nat_le, nat_lt, List, [], ◌∷◌, ◌++◌, length, map, flat_map, slice_get, Option, Some, None, Ok, ok_or, if◌then◌else◌, refl, sym, ap, ◌∙◌, subst, inl, inr, arith, length-append, append_assoc}
use Rattle.std.specs.Prelude.{codes}
use Rattle.std.specs.List.{AllByRecursion, sum_by}
use Rattle.std.proofs.lemmas.Bool.{cases_Bool, false≢true}
use Rattle.std.proofs.lemmas.Bool.Decides.{nat_tests}
use Rattle.std.proofs.lemmas.List.{append-nil, map-append}
use Rattle.std.proofs.lemmas.List.Folds.{list_all-append}
use Rattle.std.proofs.lemmas.List.Sums.{sum_by-cons}
use Rattle.inode_events.specs.declared.image.Image.{Image}
use Rattle.policy_text.specs.rules.declared.access.Super.{Super}
use Rattle.text_forms.specs.Lines.{◌>>=◌}
use Rattle.text_forms.specs.Tokens.{is_filled}
use Rattle.xattr_store.specs.Attrs.{Pair}
use Rattle.script_words.specs.declared.fault.LineCause.TheVariants as cause
use Rattle.script_text.specs.Draft.{Draft, start}
use Rattle.script_text.specs.Files.{block_of, filed, on_super, with_absent, with_block, with_file, with_front}
use Rattle.script_text.specs.Forms.{AreFiles, IsFile, IsOnSome, are_apart, are_bytes, attr_bytes, file_bytes, has_place, is_bare, path_of_block}
use Rattle.script_text.specs.Grammar.{with_head}
use Rattle.script_text.specs.Limits.{most_bytes, most_content, most_files, most_supers}
use Rattle.script_text.specs.ScriptValue.{ScriptValue}
use Rattle.script_text.specs.declared.blocks.FileBlock.{FileBlock}
use Rattle.script_text.specs.declared.head.Head.TheVariants as head
use Rattle.call_lines.proofs.Holding.{left_true, right_true}
use Rattle.call_lines.proofs.ValueForms.{is_value}
use Rattle.call_lines.specs.Lines.{Line, is_plain}
use Rattle.call_lines.specs.Form.{hex_text}
use Rattle.script_spelling.specs.Spelling.{attr_line, file_line, file_lines, kind_word}
use Rattle.script_print.proofs.AttrsAgain.{attrs_again, putting}
use Rattle.script_print.proofs.FileWords.{IsMeta, bare_block, front_back, front_for, meta_parts, shared_plain, shared_words}
use Rattle.script_spelling.proofs.Many.{IsAt, Leads, again_at, many}
use Rattle.script_spelling.proofs.Steps.{Reads, followed, one_line}
use Rattle.script_print.proofs.SupersAgain.{after_supers}
use Rattle.script_spelling.proofs.Words.{hex_plain, place_back, value_back}

at_most : (n most : ℕ) → n ≤ most → nat_le n most ≡ true
at_most n most h = grind (arith, nat_tests)

room : (n m : ℕ) → n < m → nat_lt n m ≡ true
room n m h = grind (arith, nat_tests)

not_above : (n most : ℕ) → n ≤ most → nat_lt most n ≡ false
not_above n most h = grind (arith, nat_tests)

flip : (b : Bool) → not b ≡ true → b ≡ false
flip true h = absurd (false≢true h)
flip false h = refl

-- the number of an existing file system is below the count
there_below : (supers : List Super) (k : ℕ) (i : Image) → IsOnSome (slice_get supers k) i
    → k < length supers
there_below [] k i h = absurd h
there_below (x ∷ xs) zero i h = omega arith
there_below (x ∷ xs) (suc k) i h = let lt = there_below xs k i h in omega arith

-- ---- a block

-- the properties that a block needs of a draft
pub record Fits (b : FileBlock) (d : Draft) : Type 0 where
  pub file : IsFile d.script.supers b
  pub fs : length d.script.supers ≤ most_supers
  pub new : has_place d.paths b.path ≡ false
  pub few : length d.paths < most_files
  pub bytes : d.sum + length b.image.content ≤ most_bytes

module _ (b : FileBlock) (d : Draft) (h : Fits b d) where
  below : b.fs < length d.script.supers
  below = there_below d.script.supers b.fs b.image h.file.on

  fs_fits : b.fs < 2 ^ 64
  fs_fits = omega (arith, below, h.fs)

  on_some : (o : Option Super) → IsOnSome o b.image
      → (ok_or o cause.Unknown >>= λ s. with_block
      (block_of (front_for b) b.fs s b.image.present b.image.content) d)
      ≡ with_block (bare_block b) d
  on_some None on = absurd on
  on_some (Some s) on =
      rw (← on.place, ← on.versions) refl

  block_back : with_block (bare_block b) d ≡ Ok (filed (bare_block b) d)
  block_back =
      rw (
        h.new,
        room (length d.paths) most_files h.few,
        not_above (d.sum + length b.image.content) most_bytes h.bytes,
      ) refl

  placed_back : with_front (front_for b) b.image.present b.image.content d
      ≡ Ok (filed (bare_block b) d)
  placed_back =
      ap (on_super (front_for b) b.image.present b.image.content d)
      (place_back (length d.script.supers) b.fs below fs_fits)
      ∙ on_some (slice_get d.script.supers b.fs) h.file.on ∙ block_back

-- an absent file has neither content nor attributes
pub record IsEmpty (i : Image) : Type 0 where
  pub content : i.content ≡ []
  pub attrs : i.attrs ≡ []

none_of : {A : Type 0} (xs : List A) → not (is_filled xs) ≡ true → xs ≡ []
none_of [] h = refl
none_of (x ∷ xs) h = absurd (false≢true h)

emptied : (i : Image) → is_bare i ≡ true → i.present ≡ false → IsEmpty i
emptied i h e =
    let content = not (is_filled i.content) in
    let attrs = not (is_filled i.attrs) in
    let both : (content && attrs) ≡ true =
    ap (λ (p : Bool). p || (content && attrs)) (sym e) ∙ h in
    record {
      content = none_of i.content (left_true content attrs both);
      attrs = none_of i.attrs (right_true content attrs both);
    }

content_value : (c : List ℕ) → length c ≤ most_content → are_bytes c ≡ true
    → is_value 0 most_content c ≡ true
content_value c few bytes =
    rw (at_most 0 (length c) (omega arith), at_most (length c) most_content few) bytes

-- the line of a file, present or absent
abbrev line_by : FileBlock → Bool → Line
line_by b p =
    kind_word p ∷ shared_words b
    ++ (if p then (codes "content=" ++ hex_text b.image.content) ∷ [] else [])

module _ (b : FileBlock) (d : Draft) (h : Fits b d) (at : IsAt d.at 10) where
  abbrev made : Draft
  made = filed (bare_block b) (record d { at = 10 })

  meta : IsMeta b.image.meta
  meta = meta_parts b.image.meta h.file.meta

  fits : b.fs < 2 ^ 64
  fits = fs_fits b d h

  placed : with_front (front_for b) b.image.present b.image.content (record d { at = 10 }) ≡ Ok made
  placed = placed_back b (record d { at = 10 }) (record {
    file = h.file;
    fs = h.fs;
    new = h.new;
    few = h.few;
    bytes = h.bytes;
  })

  content_word : List ℕ
  content_word = codes "content=" ++ hex_text b.image.content

  file_back : b.image.present ≡ true
      → with_file (shared_words b ++ (codes "content=" ++ hex_text b.image.content) ∷ [])
      (record d { at = 10 }) ≡ Ok made
  unfolding with_file
  file_back e =
      rw (
        front_back b h.file.path meta fits,
        value_back 0 most_content b.image.content
            (content_value b.image.content h.file.content h.file.bytes),
      )
      (ap (λ (p : Bool). with_front (front_for b) p b.image.content (record d { at = 10 })) (sym e)
      ∙ placed)

  absent_back : b.image.present ≡ false
      → with_absent (shared_words b) (record d { at = 10 }) ≡ Ok made
  unfolding with_absent
  absent_back e =
      let none = emptied b.image h.file.bare e in
      rw (front_back b h.file.path meta fits)
      (ap (λ (p : Bool). with_front (front_for b) p [] (record d { at = 10 })) (sym e)
      ∙ ap (λ (c : List ℕ). with_front (front_for b) b.image.present c (record d { at = 10 }))
      (sym none.content)
      ∙ placed)

  read_by : (p : Bool) → b.image.present ≡ p → Reads d (line_by b p ∷ []) made
  unfolding with_head
  read_by true e =
      one_line (codes "file") (shared_words b ++ (codes "content=" ++ hex_text b.image.content)
      ∷ [])
      head.File d made refl refl
      (rw (
        list_all-append is_plain (shared_words b)
            ((codes "content=" ++ hex_text b.image.content) ∷ []),
        shared_plain b h.file.path meta fits,
        hex_plain b.image.content h.file.bytes,
      ) refl)
      refl (again_at 10 d.at at) (file_back e)
  read_by false e =
      one_line (codes "absent") (shared_words b) head.Absent d made refl refl
      (shared_plain b h.file.path meta fits) refl (again_at 10 d.at at) (absent_back e)

  -- reading the line of a file makes the file without its attributes
  pub file_again : Reads d (file_line b ∷ []) made
  file_again = read_by b.image.present refl

-- ---- one file after another

-- the files so far, with the counts of the draft
pub record Filed : Type 0 where
  pub done : List FileBlock
  pub at : ℕ
  pub unsealed : Bool
  pub counted : ℕ
  pub sum : ℕ
  pub paths : List (List ℕ)

module _ (s : ScriptValue) (supers : length s.supers ≤ most_supers)
    (small : sum_by file_bytes s.files ≤ most_bytes) where
  abbrev pub filing : Filed → Draft
  filing x = record start {
    script = record (after_supers s) { files = x.done };
    at = x.at;
    unsealed = x.unsealed;
    counted = x.counted;
    sum = x.sum;
    paths = x.paths;
  }

  -- the remaining files are new, and there is room for them
  pub record AreLeft (x : Filed) (bs : List FileBlock) : Type 0 where
    pub at : IsAt x.at 10
    pub each : AllByRecursion (IsFile s.supers) bs
    pub apart : are_apart has_place x.paths (map path_of_block bs) ≡ true
    pub same : length x.paths ≡ length x.done
    pub few : length x.done + length bs ≤ most_files
    pub bytes : x.sum + sum_by file_bytes bs ≤ sum_by file_bytes s.files
    pub paths : x.paths ≡ map path_of_block x.done
    pub whole : x.done ++ bs ≡ s.files

  -- a file with attributes is present
  there_if : (i : Image) → is_bare i ≡ true → is_filled i.attrs ≡ true → i.present ≡ true
  there_if i bare some = elim (cases_Bool i.present) [
    | inl e ↦ e
    | inr e ↦
        let none = emptied i bare e in
        let no : false ≡ true = ap (λ (a : List Pair). is_filled a) (sym none.attrs) ∙ some in
        absurd (false≢true no)
  ]

  one_file : (b : FileBlock) (bs : List FileBlock) (x : Filed) → AreLeft x (b ∷ bs)
      → Leads Filed filing (filing x) (file_lines b) (λ y. AreLeft y bs)
  one_file b bs x h =
      let file : IsFile s.supers b = h.each.0 in
      let count = sum_by-cons file_bytes b bs in
      let fresh = has_place x.paths b.path in
      let rest = are_apart has_place (x.paths ++ b.path ∷ []) (map path_of_block bs) in
      let fits : Fits b (filing x) = record {
        file = file;
        fs = supers;
        new = flip fresh (left_true (not fresh) rest h.apart);
        few = omega (arith, h.few, h.same);
        bytes = omega (arith, h.bytes, count, small);
      } in
      let base : Draft = record start {
        script = after_supers s;
        paths = x.paths ++ b.path ∷ [];
      } in
      let n = x.sum + length b.image.content in
      let limit = n + sum_by attr_bytes b.image.attrs in
      let few_bytes : limit ≤ most_bytes = omega (arith, h.bytes, count, small) in
      let r = attrs_again base x.done b limit few_bytes n file.attrs (omega arith)
      (there_if b.image file.bare) in
      let y : Filed = record {
        done = x.done ++ b ∷ [];
        at = 10;
        unsealed = b.image.present;
        counted = r.to.counted;
        sum = r.to.sum;
        paths = x.paths ++ b.path ∷ [];
      } in
      let all : r.to.done ≡ b.image.attrs = sym (append-nil r.to.done) ∙ r.is.whole in
      let from : Draft = filed (bare_block b) (record (filing x) { at = 10 }) in
      let P : List Pair → Type 0 =
      λ l. Reads from (map attr_line b.image.attrs) (putting base x.done b
      (record { done = l; counted = r.to.counted; sum = r.to.sum })) in
      let attrs : Reads from (map attr_line b.image.attrs) (filing y) = subst P all r.reads in
      record {
        to = y;
        reads = followed (file_line b ∷ []) (map attr_line b.image.attrs) (filing x) from (filing y)
            (file_again b (filing x) fits h.at) attrs;
        is = record {
          at = record { some = omega arith; few = omega arith };
          each = h.each.1;
          apart = right_true (not fresh) rest h.apart;
          same = omega (
            arith,
            h.same,
            length-append x.paths (b.path ∷ []),
            length-append x.done (b ∷ []),
          );
          few = omega (arith, h.few, length-append x.done (b ∷ []));
          bytes = omega (arith, h.bytes, count, r.is.bytes);
          paths = ap (λ (ps : List (List ℕ)). ps ++ b.path ∷ []) h.paths
              ∙ sym (map-append path_of_block x.done (b ∷ []));
          whole = append_assoc x.done (b ∷ []) bs ∙ h.whole;
        };
      }

  -- reading the lines of all files makes the files again
  pub files_again : AreFiles s.supers s.files → (m : ℕ) → IsAt m 9
      → Leads Filed filing (filing (record {
        done = [];
        at = m;
        unsealed = false;
        counted = 0;
        sum = 0;
        paths = [];
      })) (flat_map file_lines s.files) (λ y. AreLeft y [])
  files_again h m at =
      many filing file_lines AreLeft one_file s.files (record {
        done = [];
        at = m;
        unsealed = false;
        counted = 0;
        sum = 0;
        paths = [];
      }) (record {
        at = record { some = at.some; few = omega (arith, at.few) };
        each = h.each;
        apart = h.apart;
        same = refl;
        few = omega (arith, h.few);
        bytes = omega arith;
        paths = refl;
        whole = refl;
      })

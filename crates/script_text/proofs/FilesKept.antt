-- Each line of files preserves the invariant of a script.
use Rattle.std.proofs.Common.{◌≡◌, ℕ, ◌+◌, ◌≤◌, Bool, true, false, not, ◌&&◌, ◌||◌, nat_le, nat_lt, List, [], ◌∷◌, ◌++◌, length, map, Option, Some, None, Ok, Err, IfSome, is_some, slice_get, if◌then◌else◌, refl, inl, inr, sym, ap, ◌∙◌, subst, lit≤, arith, length-append}
use Rattle.std.specs.Prelude.{codes}
use Rattle.std.specs.List.{sum_by}
use Rattle.std.proofs.lemmas.Bool.{cases_Bool, false≢true}
use Rattle.std.proofs.lemmas.Bool.Decides.{nat_tests}
use Rattle.std.proofs.lemmas.List.{map-append}
use Rattle.std.proofs.lemmas.List.Sums.{sum_by_push}
use Rattle.hash_algos.specs.Digest.{digest_of}
use Rattle.call_steps.specs.events.declared.image.Image.{Image}
use Rattle.label_values.specs.Labels.{label_of}
use Rattle.policy_text.specs.rules.declared.access.Super.{Super}
use Rattle.text_forms.specs.Tokens.{is_filled}
use Rattle.text_forms.specs.Words.{is_word}
use Rattle.xattr_store.specs.Attrs.{Pair, put}
use Rattle.script_words.specs.declared.fault.LineCause.TheVariants as cause
use Rattle.script_words.specs.Forms.{after_key_by, field, place_among}
use Rattle.script_words.specs.Value.{value_of}
use Rattle.script_text.specs.Draft.{Draft, change_last}
use Rattle.script_text.specs.Files.{attr_put, attrs_put, block_of, counted_length, filed, has_attr, on_super, sealed, setup_of, with_absent, with_attr, with_block, with_file, with_front, with_pair, with_seal}
use Rattle.script_fields.specs.FileFields.{Front, content_of, file_in, front_in, two}
use Rattle.script_text.specs.Forms.{AreFiles, AreTasks, IsFile, IsOnSome, are_bytes, attr_bytes, attr_count, file_bytes, has_place, is_attr, path_of_block}
use Rattle.script_fields.specs.Limits.{is_counted, most_attrs, most_bytes, most_content, most_files, most_value}
use Rattle.call_lines.specs.Places.{place_in}
use Rattle.script_text.specs.Settings.{Made, one_if}
use Rattle.script_fields.specs.SuperFields.{name_of}
use Rattle.script_text.specs.declared.blocks.FileBlock.{FileBlock}
use Rattle.script_text.proofs.AttrForms.{attrs_more, attrs_sealed, sum_put, sum_sealed}
use Rattle.script_text.proofs.FileForms.{IsFront, content_formed, file_in_formed, front_in_formed, is_content}
use Rattle.call_lines.proofs.Holding.{at_some, both_true, given, left_true, not_false, right_true, tested}
use Rattle.script_text.proofs.Lasts.{apart_after, each_after, each_changed, last_after, last_changed, length_changed, map_changed, sum_changed}
use Rattle.call_lines.proofs.ValueForms.{is_value, value_within}
use Rattle.script_text.proofs.SettingsKept.{AreListed, IsDraft, IsOpen, Keeps, below}
use Rattle.script_text.proofs.MoreFiles.{tasks_of_more}

files_after : (b : FileBlock) (d : Draft) → IsDraft d → IsFile d.script.supers b
    → has_place d.paths b.path ≡ false → length d.paths + 1 ≤ most_files
    → AreFiles d.script.supers (d.script.files ++ b ∷ [])
files_after b d h file new room = record {
  each = each_after (IsFile d.script.supers) d.script.files b h.6.each file;
  apart = rw (map-append path_of_block d.script.files (b ∷ []))
      (apart_after has_place [] (map path_of_block d.script.files) b.path h.6.apart
      (ap (λ (ps : List (List ℕ)). has_place ps b.path) (sym h.7.are) ∙ new));
  few = omega (arith, length-append d.script.files (b ∷ []), room, h.7.same);
}

listed_after : (b : FileBlock) (d : Draft) → IsDraft d
    → AreListed (d.paths ++ b.path ∷ []) (d.script.files ++ b ∷ [])
listed_after b d h = record {
  are = ap (λ (ps : List (List ℕ)). ps ++ b.path ∷ []) h.7.are
      ∙ sym (map-append path_of_block d.script.files (b ∷ []));
  same = omega (
    arith,
    length-append d.script.files (b ∷ []),
    length-append d.paths (b.path ∷ []),
    h.7.same,
  );
}

filed_kept : (b : FileBlock) (d : Draft) → IsDraft d → IsFile d.script.supers b
    → b.image.attrs ≡ [] → has_place d.paths b.path ≡ false → length d.paths + 1 ≤ most_files
    → d.sum + length b.image.content ≤ most_bytes → IsDraft (filed b d)
filed_kept b d h file none new room few =
    let more = length-append d.script.files (b ∷ []) in
    let none_counted : sum_by attr_count b.image.attrs ≤ 0 = rw none (omega arith) in
    let no_bytes : sum_by attr_bytes b.image.attrs ≤ 0 = rw none (omega arith) in
    let last : IsOpen 0 b.image.present b = record { few = none_counted; present = λ e. e } in (
      h.0,
      h.1,
      h.2,
      h.3,
      h.4,
      h.5,
      files_after b d h file new room,
      listed_after b d h,
      tasks_of_more (length d.script.files) (length (d.script.files ++ b ∷ []))
          (omega (arith, more))
          d.script.tasks h.8,
      h.9,
      h.10,
      rw (last_after d.script.files b) last,
      record {
        counted = omega arith;
        all = omega (arith, sum_by_push file_bytes d.script.files b, no_bytes, h.12.all);
        few = few;
      },
    )

within : (sum : ℕ) → nat_lt most_bytes sum ≡ false → sum ≤ most_bytes
within sum h = grind (arith, nat_tests)

block_kept : (b : FileBlock) (d : Draft) → IsDraft d → IsFile d.script.supers b
    → b.image.attrs ≡ [] → Keeps (with_block b d)
block_kept b d h file none =
    let sum = d.sum + length b.image.content in
    let made : Made = Ok (filed b d) in
    let last : Made = if nat_lt most_bytes sum then Err cause.TooLarge else made in
    let fewer : Made =
    if not (nat_lt (length d.paths) most_files) then Err cause.TooMany else last in
    tested IsDraft (is_some (place_in d.paths b.path)) (Err cause.Twice) fewer (λ e. tt)
    (λ new. tested IsDraft (not (nat_lt (length d.paths) most_files)) (Err cause.TooMany) last
    (λ e. tt)
    (λ few. tested IsDraft (nat_lt most_bytes sum) (Err cause.TooLarge)
    made (λ e. tt)
    (λ small. filed_kept b d h file none new (below (length d.paths) most_files (not_false _ few))
    (within sum small))))

le_of : (n most : ℕ) → nat_le n most ≡ true → n ≤ most
le_of n most h = grind (arith, nat_tests)

bare_image : (present filled : Bool) → (present || not filled) ≡ true
    → (present || (not filled && true)) ≡ true
bare_image true filled h = refl
bare_image false true h = h
bare_image false false h = refl

module _ (f : Front) (present : Bool) (content : List ℕ) (d : Draft) (h : IsDraft d)
    (front : IsFront f) (bytes : is_content content ≡ true)
    (bare : (present || not (is_filled content)) ≡ true) where
  abbrev few : Bool
  few = nat_le (length content) most_content

  abbrev some : Bool
  some = nat_le 0 (length content)

  block_is : (n : ℕ) (s : Super) → slice_get d.script.supers n ≡ Some s
      → IsFile d.script.supers (block_of f n s present content)
  block_is n s e = record {
    path = front.path;
    on = rw e (record { place = refl; versions = refl });
    content = le_of (length content) most_content
        (right_true some few (left_true (some && few) (are_bytes content) bytes));
    bytes = right_true (some && few) (are_bytes content) bytes;
    meta = rw (front.ino, front.generation, front.uid, front.gid) front.mode;
    attrs = record { ordered = tt; forms = refl; few = lit≤ tt };
    bare = bare_image present (is_filled content) bare;
  }

  by_place : (o : Option ℕ) → Keeps (on_super f present content d o)
  by_place None = tt
  by_place (Some n) =
      given IsDraft (slice_get d.script.supers n) cause.Unknown
      (λ s. with_block (block_of f n s present content) d)
      (λ s e. block_kept (block_of f n s present content) d h (block_is n s e) refl)

  front_kept : Keeps (with_front f present content d)
  front_kept = by_place (place_among (length d.script.supers) f.fs)

pub file_kept : (words : List (List ℕ)) (d : Draft) → IsDraft d → Keeps (with_file words d)
unfolding with_file
file_kept words d h =
    given IsDraft (file_in words) cause.BadField
    (λ f. field (after_key_by content_of (codes "content=") f.1) λ content.
    with_front f.0 true content d)
    (λ f e. given IsDraft (after_key_by content_of (codes "content=") f.1) cause.BadField
    (λ content. with_front f.0 true content d)
    (λ content k. front_kept f.0 true content d h
    (at_some (λ g. IsFront g.0) (file_in words) f (file_in_formed words) e)
    (at_some (λ c. is_content c ≡ true)
    (after_key_by content_of (codes "content=") f.1) content (content_formed f.1) k) refl))

pub absent_kept : (words : List (List ℕ)) (d : Draft) → IsDraft d → Keeps (with_absent words d)
unfolding with_absent
absent_kept words d h =
    given IsDraft (front_in words) cause.BadField (λ front. with_front front false [] d)
    (λ f e. front_kept f false [] d h
    (at_some IsFront (front_in words) f (front_in_formed words) e) refl refl)

-- the last file is changed, but keeps its path and its content, and has the form of a file
module _ (g : FileBlock → FileBlock) (counted : ℕ) (unsealed : Bool) (sum : ℕ) (d : Draft)
    (h : IsDraft d) (added : ℕ)
    (keeps : (b : FileBlock) → IsFile d.script.supers b → IsOpen d.counted d.unsealed b
    → IsFile d.script.supers (g b))
    (path : (b : FileBlock) → (g b).path ≡ b.path)
    (grows : (b : FileBlock) → file_bytes (g b) ≤ file_bytes b + added)
    (opens : (b : FileBlock) → IsOpen d.counted d.unsealed b → IsOpen counted unsealed (g b)) where
  same_length : length (change_last g d.script.files) ≡ length d.script.files
  same_length = length_changed g d.script.files

  same_paths : map path_of_block (change_last g d.script.files) ≡ map path_of_block d.script.files
  same_paths = map_changed g path_of_block path d.script.files

  -- the invariant holds of a draft that differs only in its last file
  pub last_kept : counted ≤ most_attrs → d.sum + added ≤ sum → sum ≤ most_bytes
      → IsDraft (record d {
        script = record d.script { files = change_last g d.script.files };
        counted = counted;
        unsealed = unsealed;
        sum = sum;
      })
  last_kept room grown few = (
    h.0,
    h.1,
    h.2,
    h.3,
    h.4,
    h.5,
    record {
      each = each_changed g (IsFile d.script.supers) (IsOpen d.counted d.unsealed) keeps
          d.script.files h.6.each h.11;
      apart = rw same_paths h.6.apart;
      few = omega (arith, same_length, h.6.few);
    },
    record { are = h.7.are ∙ sym same_paths; same = h.7.same ∙ sym same_length },
    (let P : ℕ → Type 0 = λ n. AreTasks n d.script.tasks in subst P (sym same_length) h.8),
    h.9,
    h.10,
    last_changed g (IsOpen d.counted d.unsealed) (IsOpen counted unsealed) opens d.script.files
        h.11,
    record {
      counted = room;
      all = omega (arith, sum_changed g file_bytes added grows d.script.files, h.12.all, grown);
      few = few;
    },
  )

-- ---- attributes

-- an image with other attributes is on the same file system
on_with : (o : Option Super) (i : Image) (attrs : List Pair) → IsOnSome o i
    → IsOnSome o (record i { attrs = attrs })
on_with None i attrs h = h
on_with (Some s) i attrs h = record { place = h.place; versions = h.versions }

-- the properties of the pair in an attribute's line
pub record IsPair (name bytes : List ℕ) : Type 0 where
  pub form : is_attr (name, bytes) ≡ true
  pub few : length bytes ≤ 4096

put_keeps : (name bytes : List ℕ) (d : Draft) → IsPair name bytes → d.unsealed ≡ true
    → d.counted + one_if (is_counted name) ≤ most_attrs → (b : FileBlock)
    → IsFile d.script.supers b → IsOpen d.counted d.unsealed b
    → IsFile d.script.supers (attrs_put name bytes b)
put_keeps name bytes d pair unsealed room b k last = record {
  path = k.path;
  on = on_with (slice_get d.script.supers b.fs) b.image (put name bytes b.image.attrs) k.on;
  content = k.content;
  bytes = k.bytes;
  meta = k.meta;
  attrs = attrs_more name bytes b.image.attrs pair.form pair.few (omega (arith, last.few, room))
      k.attrs;
  bare = rw (last.present unsealed) refl;
}

put_opens : (name bytes : List ℕ) (d : Draft) (b : FileBlock) → IsOpen d.counted d.unsealed b
    → IsOpen (d.counted + one_if (is_counted name)) d.unsealed (attrs_put name bytes b)
put_opens name bytes d b last = record {
  few = omega (arith, last.few, sum_put attr_count name bytes b.image.attrs);
  present = last.present;
}

put_grows : (name bytes : List ℕ) (b : FileBlock)
    → file_bytes (attrs_put name bytes b) ≤ file_bytes b + counted_length name bytes
put_grows name bytes b = omega (arith, sum_put attr_bytes name bytes b.image.attrs)

-- there is room for the attribute if it counts
room_for_attr : (b : Bool) (n : ℕ) → (b && not (nat_lt n most_attrs)) ≡ false → n ≤ most_attrs
    → n + one_if b ≤ most_attrs
room_for_attr true n e le = below n most_attrs (not_false (nat_lt n most_attrs) e)
room_for_attr false n e le = omega (arith, le)

pair_kept : (name bytes : List ℕ) (d : Draft) → IsDraft d → d.unsealed ≡ true → IsPair name bytes
    → Keeps (with_pair name bytes d)
pair_kept name bytes d h unsealed pair =
    let sum = d.sum + counted_length name bytes in
    let made : Made = Ok (attr_put name bytes d) in
    let last : Made = if nat_lt most_bytes sum then Err cause.TooLarge else made in
    let full = is_counted name && not (nat_lt d.counted most_attrs) in
    let fewer : Made = if full then Err cause.TooMany else last in
    tested IsDraft (has_attr name d) (Err cause.Twice) fewer (λ e. tt)
    (λ e. tested IsDraft full (Err cause.TooMany) last (λ e. tt)
    (λ free. tested IsDraft (nat_lt most_bytes sum) (Err cause.TooLarge) made (λ e. tt)
    (λ small.
    let room = room_for_attr (is_counted name) d.counted free h.12.counted in
    last_kept (attrs_put name bytes) (d.counted + one_if (is_counted name)) d.unsealed
    sum d h (counted_length name bytes) (put_keeps name bytes d pair unsealed room)
    (λ b. refl) (put_grows name bytes) (put_opens name bytes d) room (omega arith)
    (within sum small))))

pair_is : (name bytes : List ℕ) → is_word 255 name ≡ true → is_value 0 most_value bytes ≡ true
    → IsPair name bytes
pair_is name bytes word value =
    let some = nat_le 0 (length bytes) in
    let few = nat_le (length bytes) most_value in
    record {
      form = both_true (is_word 255 name) (are_bytes bytes) word
          (right_true (some && few) (are_bytes bytes) value);
      few = le_of (length bytes) 4096
          (right_true some few (left_true (some && few) (are_bytes bytes) value));
    }

name_is : (w : List ℕ) → IfSome (name_of w) (λ n. is_word 255 n ≡ true)
name_is w = elim (cases_Bool (is_word 255 w)) [
  | inl e ↦ rw e e
  | inr e ↦ rw e tt
]

pub attr_kept : (words : List (List ℕ)) (d : Draft) → IsDraft d → d.unsealed ≡ true
    → Keeps (with_attr words d)
unfolding with_attr
attr_kept words d h unsealed =
    given IsDraft (two words) cause.BadField
    (λ w. field (name_of w.0) λ name. field (value_of 0 most_value w.1) λ bytes.
    with_pair name bytes d)
    (λ w _. given IsDraft (name_of w.0) cause.BadField
    (λ name. field (value_of 0 most_value w.1) λ bytes. with_pair name bytes d)
    (λ name en. given IsDraft (value_of 0 most_value w.1) cause.BadField
    (λ bytes. with_pair name bytes d)
    (λ bytes ev. pair_kept name bytes d h unsealed
    (pair_is name bytes
    (at_some (λ n. is_word 255 n ≡ true) (name_of w.0) name (name_is w.0) en)
    (at_some (λ v. is_value 0 most_value v ≡ true) (value_of 0 most_value w.1) bytes
    (value_within 0 most_value w.1) ev)))))

-- ---- the seal

seal_keeps : (d : Draft) → d.unsealed ≡ true → (b : FileBlock) → IsFile d.script.supers b
    → IsOpen d.counted d.unsealed b
    → IsFile d.script.supers (sealed (setup_of d.script) d.script.hash b)
seal_keeps d unsealed b k last = record {
  path = k.path;
  on = on_with (slice_get d.script.supers b.fs) b.image
      (sealed (setup_of d.script) d.script.hash b).image.attrs k.on;
  content = k.content;
  bytes = k.bytes;
  meta = k.meta;
  attrs = attrs_sealed (setup_of d.script) d.script.hash b.image.content b.image.attrs b.image.meta
      k.attrs;
  bare = rw (last.present unsealed) refl;
}

seal_grows : (d : Draft) (b : FileBlock)
    → file_bytes (sealed (setup_of d.script) d.script.hash b) ≤ file_bytes b + 0
seal_grows d b =
    omega (
      arith,
      sum_sealed attr_bytes (λ v. refl) (λ v. refl) (setup_of d.script)
          (label_of (digest_of d.script.hash b.image.content)) b.image.attrs b.image.meta,
    )

seal_opens : (d : Draft) (b : FileBlock) → IsOpen d.counted d.unsealed b
    → IsOpen d.counted false (sealed (setup_of d.script) d.script.hash b)
seal_opens d b last = record {
  few = omega (
    arith,
    last.few,
    sum_sealed attr_count (λ v. refl) (λ v. refl) (setup_of d.script)
        (label_of (digest_of d.script.hash b.image.content)) b.image.attrs b.image.meta,
  );
  present = λ e. absurd (false≢true e);
}

pub seal_kept : (words : List (List ℕ)) (d : Draft) → IsDraft d → d.unsealed ≡ true
    → Keeps (with_seal words d)
unfolding with_seal
seal_kept [] d h unsealed =
    last_kept (sealed (setup_of d.script) d.script.hash) d.counted false d.sum d h 0
    (seal_keeps d unsealed) (λ b. refl) (seal_grows d) (seal_opens d) h.12.counted (omega arith)
    h.12.few
seal_kept (w ∷ more) d h unsealed = tt

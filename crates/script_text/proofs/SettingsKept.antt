-- Each line of settings and file systems preserves the invariant of a script.
use Rattle.std.proofs.Common.{◌≡◌, ℕ, ◌+◌, ◌≤◌, Bool, true, false, not, nat_lt, List, [], ◌∷◌, ◌++◌, length, map, Some, Ok, Err, IfOk, IfSome, if◌then◌else◌, refl, arith, length-append}
use Rattle.std.specs.Prelude.{codes}
use Rattle.std.specs.List.{list_any, sum_by}
use Rattle.std.specs.Str.{bytes_eq}
use Rattle.std.proofs.lemmas.Bool.Decides.{nat_tests}
use Rattle.std.proofs.lemmas.List.Folds.{list_all-append}
use Rattle.evm_verify.specs.Input.{five_names}
use Rattle.hash_algos.specs.Algo.{algo_by_name}
use Rattle.policy_text.specs.rules.RuleValue.{RuleValue, if_there, is_named_template}
use Rattle.policy_text.specs.rules.Values.{template_of}
use Rattle.text_forms.specs.Lines.{◌>>=◌}
use Rattle.script_words.specs.declared.fault.LineCause.TheVariants as cause
use Rattle.script_words.specs.Value.{value_of}
use Rattle.script_text.specs.Draft.{Draft, last_of}
use Rattle.script_text.specs.Forms.{AreFiles, AreNames, AreSupers, AreTasks, IsDigestOf, IsFile, IsScript, appended_by, attr_count, bytes_in, calls_of, is_among, is_ending, is_format, is_key, is_super, path_of_block}
use Rattle.script_fields.specs.Limits.{most_added, most_attrs, most_bytes, most_calls, most_key, most_rules, most_supers}
use Rattle.script_text.specs.Settings.{Made, boot_algo, hashed_by, is_protected, locked, shown_by, with_added, with_boot, with_format, with_hash, with_key, with_mode, with_name, with_super, with_template, with_version, with_word}
use Rattle.script_fields.specs.SettingFields.{digest_in, format_of, is_added_name, mode_named, one}
use Rattle.script_fields.specs.SuperFields.{super_in}
use Rattle.script_text.specs.declared.blocks.FileBlock.{FileBlock}
use Rattle.script_text.specs.declared.blocks.TaskBlock.{TaskBlock}
use Rattle.script_text.proofs.FileForms.{digest_formed, format_formed, key_formed, on_more, super_formed, template_named, zeros_are}
use Rattle.call_lines.proofs.Holding.{at_some, bound, given, not_false, tested}
use Rattle.script_text.proofs.Lasts.{apart_after, each_weaker}

-- the paths are those of the files
pub record AreListed (paths : List (List ℕ)) (files : List FileBlock) : Type 0 where
  pub are : paths ≡ map path_of_block files
  pub same : length paths ≡ length files

-- at most `counted` attributes of the last file count, and the file is present if `unsealed`
pub record IsOpen (counted : ℕ) (unsealed : Bool) (b : FileBlock) : Type 0 where
  pub few : sum_by attr_count b.image.attrs ≤ counted
  pub present : unsealed ≡ true → b.image.present ≡ true

abbrev pub IsLast : ℕ → Bool → List FileBlock → Type 0
IsLast counted unsealed files = IfSome (last_of files) (IsOpen counted unsealed)

-- the counts are within their limits, and `sum` covers the bytes of all values
pub record AreWithin (files : List FileBlock) (tasks : List TaskBlock) (count sum : ℕ) : Type 0
  where
    pub counted : count ≤ most_attrs
    pub all : bytes_in files tasks ≤ sum
    pub few : sum ≤ most_bytes

-- the counts of calls and of appended rules are at least the actual ones
pub record AreCounts (rs : List RuleValue) (tasks : List TaskBlock) (n more : ℕ) : Type 0 where
  pub calls : sum_by calls_of tasks ≤ n
  pub few : n ≤ most_calls
  pub appended : sum_by appended_by tasks ≤ more
  pub rules : length rs + more ≤ most_rules

-- the invariant of a script while its lines are read
abbrev pub IsDraft : Draft → Type 0
IsDraft d =
    (is_named_template d.script.template ≡ true)
    × IsDigestOf (boot_algo d.script.template d.script.hash) d.script.boot
    × (if_there is_key d.script.key ≡ true)
    × AreNames d.script.added
    × (is_format d.script.format ≡ true)
    × AreSupers d.script.supers
    × AreFiles d.script.supers d.script.files
    × AreListed d.paths d.script.files
    × AreTasks (length d.script.files) d.script.tasks
    × AreCounts d.script.rules d.script.tasks d.calls d.appended
    × (is_ending (length d.script.tasks) d.script.ending ≡ true)
    × IsLast d.counted d.unsealed d.script.files
    × AreWithin d.script.files d.script.tasks d.counted d.sum

abbrev pub Keeps : Made → Type 0
Keeps r = IfOk r IsDraft

pub script_from : (d : Draft) → IsDraft d → IsScript d.script
script_from d h = record {
  template = h.0;
  boot = h.1;
  key = h.2;
  added = h.3;
  format = h.4;
  supers = h.5;
  files = h.6;
  tasks = h.8;
  rules_few = omega (arith, h.9.appended, h.9.rules);
  calls_few = omega (arith, h.9.calls, h.9.few);
  bytes_few = omega (arith, h.12.all, h.12.few);
  ending = h.10;
}

-- ---- settings

pub version_kept : (words : List (List ℕ)) (d : Draft) → IsDraft d → Keeps (with_version words d)
unfolding with_version
version_kept [] d h = tt
version_kept (w ∷ []) d h =
    tested IsDraft (bytes_eq w (codes "1")) (Ok d) (Err cause.BadField) (λ e. h) (λ e. tt)
version_kept (w ∷ v ∷ more) d h = tt

pub hash_kept : (words : List (List ℕ)) (d : Draft) → IsDraft d → Keeps (with_hash words d)
unfolding with_hash
hash_kept [] d h = tt
hash_kept (w ∷ []) d h =
    given IsDraft (algo_by_name w) cause.BadField (λ a. Ok (hashed_by a d))
    (λ a e. (
      h.0,
      zeros_are (boot_algo d.script.template a),
      h.2,
      h.3,
      h.4,
      h.5,
      h.6,
      h.7,
      h.8,
      h.9,
      h.10,
      h.11,
      h.12,
    ))
hash_kept (w ∷ v ∷ more) d h = tt

pub template_kept : (words : List (List ℕ)) (d : Draft) → IsDraft d → Keeps (with_template words d)
unfolding with_template
template_kept [] d h = tt
template_kept (w ∷ []) d h =
    given IsDraft (template_of w) cause.BadField (λ t. Ok (shown_by t d))
    (λ t e. (
      at_some (λ s. is_named_template s ≡ true) (template_of w) t (template_named w) e,
      zeros_are (boot_algo t d.script.hash),
      h.2,
      h.3,
      h.4,
      h.5,
      h.6,
      h.7,
      h.8,
      h.9,
      h.10,
      h.11,
      h.12,
    ))
template_kept (w ∷ v ∷ more) d h = tt

pub boot_kept : (words : List (List ℕ)) (d : Draft) → IsDraft d → Keeps (with_boot words d)
unfolding with_boot
boot_kept words d h =
    let a = boot_algo d.script.template d.script.hash in
    given IsDraft (one words) cause.BadField
    (λ w. digest_in a w >>= λ g. Ok (record d { script = record d.script { boot = g } }))
    (λ w _. bound (IsDigestOf a) IsDraft (digest_in a w)
    (λ g. Ok (record d { script = record d.script { boot = g } })) (digest_formed a w)
    (λ g k. (h.0, k, h.2, h.3, h.4, h.5, h.6, h.7, h.8, h.9, h.10, h.11, h.12)))

pub mode_kept : (words : List (List ℕ)) (d : Draft) → IsDraft d → Keeps (with_mode words d)
unfolding with_mode
mode_kept [] d h = tt
mode_kept (w ∷ []) d h =
    given IsDraft (mode_named w) cause.BadField
    (λ m. Ok (record d { script = record d.script { mode = m } })) (λ m e. h)
mode_kept (w ∷ v ∷ more) d h = tt

pub key_kept : (words : List (List ℕ)) (d : Draft) → IsDraft d → Keeps (with_key words d)
unfolding with_key
key_kept [] d h = tt
key_kept (w ∷ []) d h =
    given IsDraft (value_of 1 most_key w) cause.BadField
    (λ k. Ok (record d { script = record d.script { key = Some k } }))
    (λ k e. (
      h.0,
      h.1,
      at_some (λ j. is_key j ≡ true) (value_of 1 most_key w) k (key_formed w) e,
      h.3,
      h.4,
      h.5,
      h.6,
      h.7,
      h.8,
      h.9,
      h.10,
      h.11,
      h.12,
    ))
key_kept (w ∷ v ∷ more) d h = tt

pub below : (n most : ℕ) → nat_lt n most ≡ true → n + 1 ≤ most
below n most h = grind (arith, nat_tests)

names_after : (names : List (List ℕ)) (w : List ℕ) → AreNames names → is_added_name w ≡ true
    → list_any (bytes_eq w) (five_names ++ names) ≡ false → length names + 1 ≤ most_added
    → AreNames (names ++ w ∷ [])
names_after names w h form new few = record {
  forms = rw (list_all-append is_added_name names (w ∷ []), h.forms, form) refl;
  new = apart_after is_among five_names names w h.new new;
  few = omega (arith, few, length-append names (w ∷ []));
}

locked_kept : (d : Draft) → IsDraft d → Keeps (locked d)
unfolding locked
locked_kept d h =
    tested IsDraft d.script.locked (Err cause.Locked)
    (Ok (record d { script = record d.script { locked = true } })) (λ e. tt) (λ e. h)

added_kept : (w : List ℕ) (d : Draft) → IsDraft d → Keeps (with_added w d)
unfolding with_added
added_kept w d h =
    let made : Made =
    Ok (record d { script = record d.script { added = d.script.added ++ w ∷ [] } }) in
    let last : Made = if d.script.locked then Err cause.Locked else made in
    let fewer : Made =
    if not (nat_lt (length d.script.added) most_added) then Err cause.TooMany else last in
    let others : Made = if is_protected w d then Err cause.Twice else fewer in
    tested IsDraft (not (is_added_name w)) (Err cause.BadField) others (λ e. tt)
    (λ form. tested IsDraft (is_protected w d) (Err cause.Twice) fewer (λ e. tt)
    (λ new. tested IsDraft (not (nat_lt (length d.script.added) most_added)) (Err cause.TooMany)
    last (λ e. tt)
    (λ few. tested IsDraft d.script.locked (Err cause.Locked) made (λ e. tt)
    (λ e. (
      h.0,
      h.1,
      h.2,
      names_after d.script.added w h.3 (not_false (is_added_name w) form) new
          (below (length d.script.added) most_added (not_false _ few)),
      h.4,
      h.5,
      h.6,
      h.7,
      h.8,
      h.9,
      h.10,
      h.11,
      h.12,
    )))))

pub name_kept : (words : List (List ℕ)) (d : Draft) → IsDraft d → Keeps (with_name words d)
unfolding with_name
name_kept words d h =
    given IsDraft (one words) cause.BadField (λ w. with_word w d)
    (λ w _. tested IsDraft (bytes_eq w (codes ".")) (locked d) (with_added w d)
    (λ e. locked_kept d h) (λ e. added_kept w d h))

pub format_kept : (words : List (List ℕ)) (d : Draft) → IsDraft d → Keeps (with_format words d)
unfolding with_format
format_kept [] d h = tt
format_kept (w ∷ []) d h =
    given IsDraft (format_of w) cause.BadField
    (λ f. Ok (record d { script = record d.script { format = f } }))
    (λ f e. (
      h.0,
      h.1,
      h.2,
      h.3,
      at_some (λ g. is_format g ≡ true) (format_of w) f (format_formed w) e,
      h.5,
      h.6,
      h.7,
      h.8,
      h.9,
      h.10,
      h.11,
      h.12,
    ))
format_kept (w ∷ v ∷ more) d h = tt

-- ---- file systems and files

pub super_kept : (words : List (List ℕ)) (d : Draft) → IsDraft d → Keeps (with_super words d)
unfolding with_super
super_kept words d h =
    let few = nat_lt (length d.script.supers) most_supers in
    given IsDraft (super_in words) cause.BadField
    (λ s. if few then Ok (record d {
      script = record d.script { supers = d.script.supers ++ s ∷ [] };
    }) else Err cause.TooMany)
    (λ s e. tested IsDraft few
    (Ok (record d { script = record d.script { supers = d.script.supers ++ s ∷ [] } }))
    (Err cause.TooMany)
    (λ room. (
      h.0,
      h.1,
      h.2,
      h.3,
      h.4,
      record {
        forms = rw (
          list_all-append is_super d.script.supers (s ∷ []),
          h.5.forms,
          at_some (λ t. is_super t ≡ true) (super_in words) s (super_formed words) e,
        ) refl;
        few = omega (
          arith,
          below (length d.script.supers) most_supers room,
          length-append d.script.supers (s ∷ []),
        );
      },
      record {
        each = each_weaker (IsFile d.script.supers) (IsFile (d.script.supers ++ s ∷ []))
            (λ b k. record {
              path = k.path;
              on = on_more d.script.supers s b.fs b.image k.on;
              content = k.content;
              bytes = k.bytes;
              meta = k.meta;
              attrs = k.attrs;
              bare = k.bare;
            }) d.script.files h.6.each;
        apart = h.6.apart;
        few = h.6.few;
      },
      h.7,
      h.8,
      h.9,
      h.10,
      h.11,
      h.12,
    ))
    (λ e. tt))

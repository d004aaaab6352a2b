-- Reading the lines of EVM's settings and of file systems makes them again.
use Rattle.std.proofs.Common.{◌≡◌, ℕ, ◌+◌, ◌<◌, ◌≤◌, ◌==◌, Bool, true, false, ◌&&◌, ◌⊎◌, not, nat_le, nat_lt, List, [], ◌∷◌, ◌++◌, length, map, Option, Some, None, refl, sym, ◌∙◌, subst, inl, inr, arith, length-append, append_assoc}
use Rattle.std.specs.Prelude.{codes}
use Rattle.std.specs.Cmp.Lexicographic.{bytes_decides}
use Rattle.std.specs.List.{list_all}
use Rattle.std.specs.Str.{bytes_eq}
use Rattle.std.proofs.lemmas.Bool.{cases_Bool, false≢true}
use Rattle.std.proofs.lemmas.Bool.Decides.{nat_tests}
use Rattle.std.proofs.lemmas.List.{append-nil}
use Rattle.inode_events.specs.evm.Input.{five_names}
use Rattle.policy_text.specs.rules.Key.{starts}
use Rattle.policy_text.specs.rules.RuleValue.{if_there}
use Rattle.text_forms.specs.Words.{is_word}
use Rattle.script_text.specs.Draft.{Draft}
use Rattle.script_text.specs.Forms.{AreNames, are_apart, are_bytes, is_among, is_format, is_key}
use Rattle.script_text.specs.Grammar.{with_head}
use Rattle.script_text.specs.Limits.{most_added, most_key}
use Rattle.script_text.specs.ScriptValue.{ScriptValue}
use Rattle.script_text.specs.Settings.{locked, with_added, with_format, with_key, with_name}
use Rattle.script_text.specs.fields.SettingFields.{is_added_name}
use Rattle.script_text.specs.declared.head.Head.TheVariants as head
use Rattle.call_lines.proofs.Holding.{both_true, left_true, right_true}
use Rattle.call_lines.specs.Lines.{is_plain}
use Rattle.call_lines.specs.Form.{hex_text}
use Rattle.script_spelling.specs.Spelling.{evm_lines, format_word, key_lines, lock_lines, name_line}
use Rattle.script_spelling.proofs.Many.{IsAt, Leads, above, again_at, by_map, many}
use Rattle.script_spelling.proofs.SettingsAgain.{after_mode, draft}
use Rattle.script_spelling.proofs.Steps.{Reads, followed, nothing, one_line}
use Rattle.script_spelling.proofs.Words.{hex_plain, value_back, word_plain}

-- ---- the key

abbrev pub after_key : ScriptValue → ScriptValue
after_key s = record (after_mode s) { key = s.key }

key_for : (s : ScriptValue) (key : Option (List ℕ)) → if_there is_key key ≡ true
    → Leads ℕ (λ n. draft (record (after_mode s) { key = key }) n) (draft (after_mode s) 5)
    (key_lines key) (λ n. IsAt n 6)
unfolding with_head with_key
key_for s None is = record {
  to = 5;
  reads = nothing (draft (after_mode s) 5);
  is = record { some = omega arith; few = omega arith };
}
key_for s (Some key) is = record {
  to = 6;
  reads = one_line (codes "evm") (hex_text key ∷ []) head.Evm (draft (after_mode s) 5)
      (draft (record (after_mode s) { key = Some key }) 6) refl refl
      (both_true (is_plain (hex_text key)) true
      (hex_plain key (right_true (nat_le 1 (length key) && nat_le (length key) most_key)
      (are_bytes key) is)) refl) refl refl
      (rw (value_back 1 most_key key is) refl);
  is = record { some = omega arith; few = omega arith };
}

-- ---- the names

-- an added name isn't `.`, the lock
not_lock : (w : List ℕ) → is_added_name w ≡ true → bytes_eq w (codes ".") ≡ false
not_lock w h = elim (cases_Bool (bytes_eq w (codes "."))) [
  | inl e ↦
      let same : w ≡ codes "." = (bytes_decides w (codes ".")).0 e in
      let P : List ℕ → Type 0 = λ v. is_added_name v ≡ true in
      let no : false ≡ true = subst P same h in absurd (false≢true no)
  | inr e ↦ e
]

name_plain : (w : List ℕ) → is_added_name w ≡ true → is_plain w ≡ true
name_plain w h =
    word_plain w
    (left_true (is_word 255 w) (nat_le 10 (length w))
    (left_true (is_word 255 w && nat_le 10 (length w)) (starts w (codes "security."))
    (left_true (is_word 255 w && nat_le 10 (length w) && starts w (codes "security."))
    (not (bytes_eq w (codes "security.evm"))) h)))

-- the names so far, and the rank
pub record Named : Type 0 where
  pub done : List (List ℕ)
  pub at : ℕ

module _ (s : ScriptValue) where
  abbrev named : Named → Draft
  named x = draft (record (after_key s) { added = x.done }) x.at

  -- the remaining names are new, and there is room for them
  pub record AreLeft (x : Named) (ws : List (List ℕ)) : Type 0 where
    pub at : IsAt x.at 7
    pub forms : list_all is_added_name ws ≡ true
    pub new : are_apart is_among (five_names ++ x.done) ws ≡ true
    pub few : length x.done + length ws ≤ most_added
    pub whole : x.done ++ ws ≡ s.added

  room : (n m : ℕ) → n < m → nat_lt n m ≡ true
  room n m h = grind (arith, nat_tests)

  flip : (b : Bool) → not b ≡ true → b ≡ false
  flip true h = absurd (false≢true h)
  flip false h = refl

  one_name : (w : List ℕ) (ws : List (List ℕ)) (x : Named) → AreLeft x (w ∷ ws)
      → Leads Named named (named x) (name_line w ∷ []) (λ y. AreLeft y ws)
  unfolding with_head with_name with_added
  one_name w ws x h =
      let form : is_added_name w ≡ true =
      left_true (is_added_name w) (list_all is_added_name ws) h.forms in
      let fresh = is_among (five_names ++ x.done) w in
      let rest = are_apart is_among ((five_names ++ x.done) ++ w ∷ []) ws in
      let new : fresh ≡ false = flip fresh (left_true (not fresh) rest h.new) in
      let free : nat_lt (length x.done) most_added ≡ true =
      room (length x.done) most_added (omega (arith, h.few)) in
      let y : Named = record { done = x.done ++ w ∷ []; at = 7 } in
      record {
        to = y;
        reads = one_line (codes "evm_xattrs") (w ∷ []) head.EvmXattrs (named x) (named y) refl refl
            (both_true (is_plain w) true (name_plain w form) refl) refl (again_at 7 x.at h.at)
            (rw (not_lock w form, form, new, free) refl);
        is = record {
          at = record { some = omega arith; few = omega arith };
          forms = right_true (is_added_name w) (list_all is_added_name ws) h.forms;
          new = (let P : List (List ℕ) → Type 0 = λ v. are_apart is_among v ws ≡ true in
              subst P (append_assoc five_names x.done (w ∷ []))
              (right_true (not fresh) rest h.new));
          few = omega (arith, h.few, length-append x.done (w ∷ []));
          whole = append_assoc x.done (w ∷ []) ws ∙ h.whole;
        };
      }

  names_for : AreNames s.added → (n : ℕ) → IsAt n 6
      → Leads ℕ (λ m. draft (record (after_key s) { added = s.added }) m)
      (draft (after_key s) n) (map name_line s.added) (λ m. IsAt m 7)
  names_for h n at =
      let r = many named (λ w. name_line w ∷ []) AreLeft one_name s.added
      (record { done = []; at = n })
      (record {
        at = record { some = at.some; few = omega (arith, at.few) };
        forms = h.forms;
        new = (let P : List (List ℕ) → Type 0 = λ v. are_apart is_among v s.added ≡ true in
            subst P (sym (append-nil five_names)) h.new);
        few = omega (arith, h.few);
        whole = refl;
      }) in
      let same : r.to.done ≡ s.added = sym (append-nil r.to.done) ∙ r.is.whole in
      let P : List (List ℕ) → Type 0 =
      λ v. Reads (draft (after_key s) n) (map name_line s.added)
      (draft (record (after_key s) { added = v }) r.to.at) in
      record {
        to = r.to.at;
        reads = subst P same
            (by_map name_line s.added (draft (after_key s) n) (named r.to) r.reads);
        is = r.is.at;
      }

  -- ---- the lock and the format

  abbrev after_names : ScriptValue
  after_names = record (after_key s) { added = s.added }

  lock_for : (b : Bool) (n : ℕ) → IsAt n 7
      → Leads ℕ (λ m. draft (record after_names { locked = b }) m) (draft after_names n)
      (lock_lines b) (λ m. IsAt m 7)
  unfolding with_head with_name locked
  lock_for false n at = record { to = n; reads = nothing (draft after_names n); is = at }
  lock_for true n at = record {
    to = 7;
    reads = one_line (codes "evm_xattrs") (codes "." ∷ []) head.EvmXattrs (draft after_names n)
        (draft (record after_names { locked = true }) 7) refl refl refl refl (again_at 7 n at) refl;
    is = record { some = omega arith; few = omega arith };
  }

  abbrev pub after_evm : ScriptValue
  after_evm = record after_names { locked = s.locked; format = s.format }

  format_is : (f : ℕ) → is_format f ≡ true → (f ≡ 1) ⊎ (f ≡ 2)
  format_is f h = elim (cases_Bool (f == 1)) [
    | inl e ↦ inl (grind (arith, nat_tests))
    | inr e ↦ inr (grind (arith, nat_tests))
  ]

  format_for : (f : ℕ) → is_format f ≡ true → (n : ℕ) → IsAt n 7
      → Reads (draft (record after_names { locked = s.locked }) n)
      ((codes "evm_format" ∷ format_word f ∷ []) ∷ [])
      (draft (record after_names { locked = s.locked; format = f }) 8)
  unfolding with_head with_format
  format_for f is n at = elim (format_is f is) [
    | inl e ↦ rw e
        (one_line (codes "evm_format") (codes "1" ∷ []) head.EvmFormat
        (draft (record after_names { locked = s.locked }) n)
        (draft (record after_names { locked = s.locked; format = 1 }) 8) refl refl refl refl
        (above 8 n 7 false at (omega arith)) refl)
    | inr e ↦ rw e
        (one_line (codes "evm_format") (codes "2" ∷ []) head.EvmFormat
        (draft (record after_names { locked = s.locked }) n)
        (draft (record after_names { locked = s.locked; format = 2 }) 8) refl refl refl refl
        (above 8 n 7 false at (omega arith)) refl)
  ]

  -- the lines of EVM's settings are read as these settings
  pub evm_again : if_there is_key s.key ≡ true → AreNames s.added → is_format s.format ≡ true
      → Reads (draft (after_mode s) 5) (evm_lines s) (draft after_evm 8)
  evm_again key names format =
      let k = key_for s s.key key in
      let w = names_for names k.to k.is in
      let l = lock_for s.locked w.to w.is in
      let last = (codes "evm_format" ∷ format_word s.format ∷ []) ∷ [] in
      let d0 = draft (after_mode s) 5 in
      let d1 = draft (after_key s) k.to in
      let d2 = draft after_names w.to in
      let d3 = draft (record after_names { locked = s.locked }) l.to in
      followed (key_lines s.key) (map name_line s.added ++ (lock_lines s.locked ++ last)) d0 d1
      (draft after_evm 8) k.reads
      (followed (map name_line s.added) (lock_lines s.locked ++ last) d1 d2 (draft after_evm 8)
      w.reads
      (followed (lock_lines s.locked) last d2 d3 (draft after_evm 8) l.reads
      (format_for s.format format l.to l.is)))

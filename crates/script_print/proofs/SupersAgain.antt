-- Reading the lines of file systems makes the file systems again.
use Rattle.std.proofs.Common.{◌≡◌, ℕ, ◌+◌, ◌^◌, ◌<◌, ◌≤◌, Bool, true, false, ◌&&◌, nat_lt, List, [], ◌∷◌, ◌++◌, length, map, Some, refl, sym, ◌∙◌, subst, arith, length-append, append_assoc}
use Rattle.std.specs.Prelude.{codes}
use Rattle.std.specs.List.{list_all}
use Rattle.std.proofs.lemmas.Bool.Decides.{nat_tests}
use Rattle.std.proofs.lemmas.List.{append-nil}
use Rattle.policy_text.specs.rules.declared.access.Super.{Super}
use Rattle.text_forms.specs.FileSystems.{magic_of, magic_text, uuid_of, uuid_text}
use Rattle.text_forms.specs.Words.{is_visible, is_word}
use Rattle.text_forms.proofs.FileSystems.{magic_again, uuid_again}
use Rattle.script_text.specs.Draft.{Draft}
use Rattle.script_text.specs.Forms.{AreSupers, is_ino, is_super, is_uuid}
use Rattle.script_text.specs.Grammar.{with_head}
use Rattle.script_text.specs.Limits.{most_supers}
use Rattle.script_text.specs.ScriptValue.{ScriptValue}
use Rattle.script_text.specs.Settings.{with_super}
use Rattle.script_text.specs.fields.SuperFields.{super_in, versions_of}
use Rattle.script_text.specs.declared.head.Head.TheVariants as head
use Rattle.call_lines.proofs.Holding.{left_true, right_true}
use Rattle.call_lines.specs.Lines.{is_plain}
use Rattle.script_spelling.specs.Spelling.{super_line, versions_word}
use Rattle.script_print.proofs.EvmAgain.{after_evm}
use Rattle.script_spelling.proofs.Many.{IsAt, Leads, again_at, by_map, many}
use Rattle.script_spelling.proofs.SettingsAgain.{draft}
use Rattle.script_spelling.proofs.Steps.{Reads, one_line}
use Rattle.script_spelling.proofs.Words.{word_plain}

versions_plain : (b : Bool) → is_plain (versions_word b) ≡ true
versions_plain true = refl
versions_plain false = refl

versions_back : (b : Bool) → versions_of (versions_word b) ≡ Some b
versions_back true = refl
versions_back false = refl

ino_small : (n : ℕ) → is_ino n ≡ true → n ≤ 0xffff_ffff_ffff_ffff
ino_small n h = grind (arith, nat_tests)

uuid_small : (n : ℕ) → is_uuid n ≡ true → n < 2 ^ 128
uuid_small n h = grind (arith, nat_tests)

room : (n m : ℕ) → n < m → nat_lt n m ≡ true
room n m h = grind (arith, nat_tests)

module _ (f : Super) (h : is_super f ≡ true) where
  word : is_word 255 f.name ≡ true
  word =
      left_true (is_word 255 f.name) (is_ino f.magic)
      (left_true (is_word 255 f.name && is_ino f.magic) (is_uuid f.uuid) h)

  magic : (list_all is_visible (magic_text f.magic) ≡ true)
      × (magic_of (magic_text f.magic) ≡ Some f.magic)
  magic = magic_again f.magic
      (ino_small f.magic (right_true (is_word 255 f.name) (is_ino f.magic)
      (left_true (is_word 255 f.name && is_ino f.magic) (is_uuid f.uuid) h)))

  uuid : (list_all is_visible (uuid_text f.uuid) ≡ true)
      × (uuid_of (uuid_text f.uuid) ≡ Some f.uuid)
  uuid = uuid_again f.uuid
      (uuid_small f.uuid (right_true (is_word 255 f.name && is_ino f.magic) (is_uuid f.uuid) h))

  super_plain : list_all is_plain ((codes "magic=" ++ magic_text f.magic)
      ∷ (codes "uuid=" ++ uuid_text f.uuid) ∷ (codes "name=" ++ f.name)
      ∷ versions_word f.versions ∷ []) ≡ true
  super_plain = rw (magic.0, uuid.0, word_plain f.name word, versions_plain f.versions) refl

  super_back : super_in ((codes "magic=" ++ magic_text f.magic)
      ∷ (codes "uuid=" ++ uuid_text f.uuid) ∷ (codes "name=" ++ f.name)
      ∷ versions_word f.versions ∷ []) ≡ Some f
  super_back = rw (magic.1, uuid.1, word, versions_back f.versions) refl

-- the file systems so far, and the rank
pub record Mounted : Type 0 where
  pub done : List Super
  pub at : ℕ

module _ (s : ScriptValue) where
  abbrev mounted : Mounted → Draft
  mounted x = draft (record (after_evm s) { supers = x.done }) x.at

  pub record AreLeft (x : Mounted) (fs : List Super) : Type 0 where
    pub at : IsAt x.at 9
    pub forms : list_all is_super fs ≡ true
    pub few : length x.done + length fs ≤ most_supers
    pub whole : x.done ++ fs ≡ s.supers

  one_super : (f : Super) (fs : List Super) (x : Mounted) → AreLeft x (f ∷ fs)
      → Leads Mounted mounted (mounted x) (super_line f ∷ []) (λ y. AreLeft y fs)
  unfolding with_head with_super
  one_super f fs x h =
      let form : is_super f ≡ true = left_true (is_super f) (list_all is_super fs) h.forms in
      let free : nat_lt (length x.done) most_supers ≡ true =
      room (length x.done) most_supers (omega (arith, h.few)) in
      let y : Mounted = record { done = x.done ++ f ∷ []; at = 9 } in
      record {
        to = y;
        reads = one_line (codes "fs") ((codes "magic=" ++ magic_text f.magic)
            ∷ (codes "uuid=" ++ uuid_text f.uuid) ∷ (codes "name=" ++ f.name)
            ∷ versions_word f.versions ∷ []) head.Fs (mounted x) (mounted y) refl refl
            (super_plain f form) refl (again_at 9 x.at h.at) (rw (super_back f form, free) refl);
        is = record {
          at = record { some = omega arith; few = omega arith };
          forms = right_true (is_super f) (list_all is_super fs) h.forms;
          few = omega (arith, h.few, length-append x.done (f ∷ []));
          whole = append_assoc x.done (f ∷ []) fs ∙ h.whole;
        };
      }

  abbrev pub after_supers : ScriptValue
  after_supers = record (after_evm s) { supers = s.supers }

  pub supers_again : AreSupers s.supers
      → Leads ℕ (λ m. draft after_supers m) (draft (after_evm s) 8) (map super_line s.supers)
      (λ m. IsAt m 9)
  supers_again h =
      let r = many mounted (λ f. super_line f ∷ []) AreLeft one_super s.supers
      (record { done = []; at = 8 })
      (record {
        at = record { some = omega arith; few = omega arith };
        forms = h.forms;
        few = omega (arith, h.few);
        whole = refl;
      }) in
      let same : r.to.done ≡ s.supers = sym (append-nil r.to.done) ∙ r.is.whole in
      let P : List Super → Type 0 =
      λ v. Reads (draft (after_evm s) 8) (map super_line s.supers)
      (draft (record (after_evm s) { supers = v }) r.to.at) in
      record {
        to = r.to.at;
        reads = subst P same
            (by_map super_line s.supers (draft (after_evm s) 8) (mounted r.to) r.reads);
        is = r.is.at;
      }

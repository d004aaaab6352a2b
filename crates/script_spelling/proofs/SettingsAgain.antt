-- Reading the lines of the first settings makes the settings again.
use Rattle.std.proofs.Common.{◌≡◌, ℕ, ◌≤◌, ◌==◌, true, ◌&&◌, nat_le, List, [], ◌∷◌, length, Option, Some, Ok, refl, sym, ap, ◌∙◌, arith}
use Rattle.std.specs.Prelude.{codes}
use Rattle.std.proofs.lemmas.Bool.{false≢true}
use Rattle.std.proofs.lemmas.Bool.Decides.{nat_tests}
use Rattle.hash_algos.specs.Algo.{algo_name, algo_size}
use Rattle.hash_algos.specs.DigestValue.{DigestValue}
use Rattle.hash_algos.specs.declared.algo.Algo.{Algo}
use Rattle.hash_algos.specs.declared.algo.Algo.TheVariants as algo
use Rattle.hash_algos.proofs.TableLemmas.{algo_by_name-name}
use Rattle.inode_meta.specs.Words.{mode_word, template_word}
use Rattle.inode_meta.specs.declared.appraisal.Mode.{Mode}
use Rattle.inode_meta.specs.declared.appraisal.Mode.TheVariants as mode
use Rattle.inode_meta.specs.declared.measurement.Template.{Template}
use Rattle.inode_meta.specs.declared.measurement.Template.TheVariants as template
use Rattle.policy_text.specs.rules.RuleValue.{is_named_template}
use Rattle.policy_text.specs.rules.Values.{template_of}
use Rattle.script_words.specs.Forms.{field}
use Rattle.script_text.specs.Draft.{Draft, plain_script, start}
use Rattle.script_text.specs.Forms.{IsDigestOf, are_bytes}
use Rattle.script_text.specs.Grammar.{with_head}
use Rattle.script_text.specs.Heads.{stands}
use Rattle.script_text.specs.ScriptValue.{ScriptValue}
use Rattle.script_text.specs.Settings.{boot_algo, hashed_by, shown_by, with_boot, with_hash, with_mode, with_template, with_version}
use Rattle.script_text.specs.fields.SettingFields.{digest_in, digest_sized, mode_named}
use Rattle.script_text.specs.declared.head.Head.TheVariants as head
use Rattle.call_lines.proofs.Holding.{both_true}
use Rattle.call_lines.specs.Lines.{is_plain}
use Rattle.call_lines.specs.Form.{hex_text}
use Rattle.script_spelling.specs.Spelling.{setting_lines}
use Rattle.script_spelling.proofs.Steps.{Reads, followed, one_line}
use Rattle.script_spelling.proofs.Words.{hex_plain, value_back}

-- the draft after a line of this rank
abbrev pub at_rank : Draft → ℕ → Draft
at_rank d n = record d { at = n }

-- ---- settings

algo_plain : (a : Algo) → is_plain (algo_name a) ≡ true
algo_plain algo.Md5 = refl
algo_plain algo.Sha1 = refl
algo_plain algo.Sha256 = refl
algo_plain algo.Sha384 = refl
algo_plain algo.Sha512 = refl
algo_plain algo.Sha224 = refl

template_plain : (t : Template) → is_plain (template_word t) ≡ true
template_plain template.Ima = refl
template_plain template.ImaNg = refl
template_plain template.ImaSig = refl
template_plain template.ImaBuf = refl

template_back : (t : Template) → is_named_template t ≡ true → template_of (template_word t) ≡ Some t
template_back template.Ima h = refl
template_back template.ImaNg h = refl
template_back template.ImaSig h = refl
template_back template.ImaBuf h = absurd (false≢true h)

mode_plain : (m : Mode) → is_plain (mode_word m) ≡ true
mode_plain mode.Enforce = refl
mode_plain mode.Log = refl
mode_plain mode.Fix = refl
mode_plain mode.Off = refl

mode_again : (m : Mode) → mode_named (mode_word m) ≡ Some m
mode_again mode.Enforce = refl
mode_again mode.Log = refl
mode_again mode.Fix = refl
mode_again mode.Off = refl

pub version_line : (d : Draft) → stands head.Imakern d ≡ true
    → Reads d ((codes "imakern" ∷ codes "1" ∷ []) ∷ []) (at_rank d 1)
unfolding with_head with_version
version_line d h =
    one_line (codes "imakern") (codes "1" ∷ []) head.Imakern d (at_rank d 1) refl refl refl refl h
    refl

pub hash_line : (d : Draft) (a : Algo) → stands head.Hash d ≡ true
    → Reads d ((codes "hash" ∷ algo_name a ∷ []) ∷ []) (hashed_by a (at_rank d 2))
unfolding with_head with_hash
hash_line d a h =
    one_line (codes "hash") (algo_name a ∷ []) head.Hash d (hashed_by a (at_rank d 2)) refl refl
    (both_true (is_plain (algo_name a)) true (algo_plain a) refl) refl h
    (rw (algo_by_name-name a) refl)

pub template_line : (d : Draft) (t : Template) → is_named_template t ≡ true
    → stands head.Template d ≡ true
    → Reads d ((codes "template" ∷ template_word t ∷ []) ∷ []) (shown_by t (at_rank d 3))
unfolding with_head with_template
template_line d t named h =
    one_line (codes "template") (template_word t ∷ []) head.Template d (shown_by t (at_rank d 3))
    refl refl (both_true (is_plain (template_word t)) true (template_plain t) refl) refl h
    (rw (template_back t named) refl)

size_small : (a : Algo) → algo_size a ≤ 64
size_small algo.Md5 = omega arith
size_small algo.Sha1 = omega arith
size_small algo.Sha256 = omega arith
size_small algo.Sha384 = omega arith
size_small algo.Sha512 = omega arith
size_small algo.Sha224 = omega arith

at_most : (n most : ℕ) → n ≤ most → nat_le n most ≡ true
at_most n most h = grind (arith, nat_tests)

same_number : (n m : ℕ) → n ≡ m → (n == m) ≡ true
same_number n m h = grind (arith, nat_tests)

-- a digest of the algorithm is read again
digest_again : (a : Algo) (g : DigestValue) → IsDigestOf a g → digest_in a (hex_text g.bytes) ≡ Ok g
digest_again a g h =
    let few : length g.bytes ≤ 64 = omega (arith, h.size, size_small a) in
    let value : (nat_le 0 (length g.bytes) && nat_le (length g.bytes) 64 && are_bytes g.bytes)
    ≡ true = rw (at_most 0 (length g.bytes) (omega arith), at_most (length g.bytes) 64 few) h.bytes
    in
    let sized : (length g.bytes == algo_size a) ≡ true =
    same_number (length g.bytes) (algo_size a) h.size in
    ap (λ (o : Option (List ℕ)). field o (λ bytes. digest_sized a bytes))
    (value_back 0 64 g.bytes value)
    ∙ rw sized (ap (λ (b : Algo). Ok (record { algo = b; bytes = g.bytes })) (sym h.is))

pub boot_line : (d : Draft) (g : DigestValue)
    → IsDigestOf (boot_algo d.script.template d.script.hash) g → stands head.Boot d ≡ true
    → Reads d ((codes "boot" ∷ hex_text g.bytes ∷ []) ∷ [])
    (record d { script = record d.script { boot = g }; at = 4 })
unfolding with_head with_boot
boot_line d g is h =
    one_line (codes "boot") (hex_text g.bytes ∷ []) head.Boot d
    (record d { script = record d.script { boot = g }; at = 4 }) refl refl
    (both_true (is_plain (hex_text g.bytes)) true (hex_plain g.bytes is.bytes) refl) refl h
    (rw (digest_again (boot_algo d.script.template d.script.hash) g is) refl)

pub mode_line : (d : Draft) (m : Mode) → stands head.Appraise d ≡ true
    → Reads d ((codes "appraise" ∷ mode_word m ∷ []) ∷ [])
    (record d { script = record d.script { mode = m }; at = 5 })
unfolding with_head with_mode
mode_line d m h =
    one_line (codes "appraise") (mode_word m ∷ []) head.Appraise d
    (record d { script = record d.script { mode = m }; at = 5 }) refl refl
    (both_true (is_plain (mode_word m)) true (mode_plain m) refl) refl h
    (rw (mode_again m) refl)

-- the script after its first five lines
abbrev pub after_mode : ScriptValue → ScriptValue
after_mode s = record plain_script {
  hash = s.hash;
  template = s.template;
  boot = s.boot;
  mode = s.mode;
}

-- a draft, by its script and rank
abbrev pub draft : ScriptValue → ℕ → Draft
draft s at = record start { script = s; at = at }

pub settings_again : (s : ScriptValue) → is_named_template s.template ≡ true
    → IsDigestOf (boot_algo s.template s.hash) s.boot
    → Reads start (setting_lines s) (draft (after_mode s) 5)
settings_again s named boot =
    let d1 = at_rank start 1 in
    let d2 = hashed_by s.hash (at_rank d1 2) in
    let d3 = shown_by s.template (at_rank d2 3) in
    let d4 = record d3 { script = record d3.script { boot = s.boot }; at = 4 } in
    let d5 = record d4 { script = record d4.script { mode = s.mode }; at = 5 } in
    let l1 = codes "imakern" ∷ codes "1" ∷ [] in
    let l2 = codes "hash" ∷ algo_name s.hash ∷ [] in
    let l3 = codes "template" ∷ template_word s.template ∷ [] in
    let l4 = codes "boot" ∷ hex_text s.boot.bytes ∷ [] in
    let l5 = codes "appraise" ∷ mode_word s.mode ∷ [] in
    followed (l1 ∷ []) (l2 ∷ l3 ∷ l4 ∷ l5 ∷ []) start d1 d5 (version_line start refl)
    (followed (l2 ∷ []) (l3 ∷ l4 ∷ l5 ∷ []) d1 d2 d5 (hash_line d1 s.hash refl)
    (followed (l3 ∷ []) (l4 ∷ l5 ∷ []) d2 d3 d5 (template_line d2 s.template named refl)
    (followed (l4 ∷ []) (l5 ∷ []) d3 d4 d5 (boot_line d3 s.boot boot refl)
    (mode_line d4 s.mode refl))))

-- The first lines of the text are settings and a file system.
use Rattle.std.proofs.Common.{◌≡◌, ℕ, true, List, [], ◌∷◌, Some, refl}
use Rattle.std.specs.Prelude.{codes, replicate}
use Rattle.call_steps.specs.hashes.declared.algo.Algo.TheVariants.{Sha256}
use Rattle.hex.specs.Hex.{decode_pairs}
use Rattle.inode_meta.specs.declared.appraisal.Mode.TheVariants.{Enforce}
use Rattle.inode_meta.specs.declared.measurement.Template.TheVariants.{ImaNg}
use Rattle.call_steps.specs.policy.declared.access.Super.{Super}
use Rattle.uuid.specs.Text.{by_index}
use Rattle.script_text.specs.Draft.{Draft, start}
use Rattle.script_text.specs.Grammar.{with_head}
use Rattle.script_text.specs.Settings.{hashed_by, shown_by, with_key, with_super}
use Rattle.script_text.specs.declared.head.Head.TheVariants as head
use Rattle.script_spelling.specs.Lines.{Line}
use Rattle.script_spelling.proofs.SettingsAgain.{at_rank, hash_line, mode_line, template_line, version_line}
use Rattle.script_spelling.proofs.Steps.{Reads, followed, one_line}
use Rattle.load_gen.specs.Script.{settings_text}
use Rattle.load_gen.proofs.Makes.{Makes}

-- the file system of a generated script
abbrev pub ext4 : Super
ext4 = record { magic = 0xef53; uuid = 1; name = codes "ext4"; versions = true }

abbrev key_word : List ℕ
key_word = codes "fill:32:5a"

key_line : (d : Draft) → d.at ≡ 5
    → Reads d ((codes "evm" ∷ key_word ∷ []) ∷ [])
    (record d { script = record d.script { key = Some (replicate 32 90) }; at = 6 })
unfolding with_head with_key
key_line d h =
    one_line (codes "evm") (key_word ∷ []) head.Evm d
    (record d { script = record d.script { key = Some (replicate 32 90) }; at = 6 }) refl refl refl
    refl (rw h refl) refl

abbrev super_words : Line
super_words =
    codes "magic=0xef53" ∷ codes "uuid=00000000-0000-0000-0000-000000000001" ∷ codes "name=ext4"
    ∷ codes "versions" ∷ []

super_line : (d : Draft) → d.at ≡ 6 → d.script.supers ≡ []
    → Reads d ((codes "fs" ∷ super_words) ∷ [])
    (record d { script = record d.script { supers = ext4 ∷ [] }; at = 9 })
unfolding with_head with_super decode_pairs by_index
super_line d h none =
    one_line (codes "fs") super_words head.Fs d
    (record d { script = record d.script { supers = ext4 ∷ [] }; at = 9 }) refl refl refl refl
    (rw h refl) (rw none refl)

-- the draft after the settings
pub record IsSet (d : Draft) : Type 0 where
  pub at : d.at ≡ 9
  pub supers : d.script.supers ≡ ext4 ∷ []
  pub files : d.script.files ≡ []
  pub rules : d.script.rules ≡ []
  pub tasks : d.script.tasks ≡ []
  pub paths : d.paths ≡ []
  pub counts : (d.sum ≡ 0) × (d.calls ≡ 0) × (d.appended ≡ 0)

pub settings_read : Makes start settings_text IsSet
settings_read =
    let d1 = at_rank start 1 in
    let d2 = hashed_by Sha256 (at_rank d1 2) in
    let d3 = shown_by ImaNg (at_rank d2 3) in
    let d5 = record d3 { script = record d3.script { mode = Enforce }; at = 5 } in
    let d6 = record d5 { script = record d5.script { key = Some (replicate 32 90) }; at = 6 } in
    let d9 = record d6 { script = record d6.script { supers = ext4 ∷ [] }; at = 9 } in
    let l1 = codes "imakern" ∷ codes "1" ∷ [] in
    let l2 = codes "hash" ∷ codes "sha256" ∷ [] in
    let l3 = codes "template" ∷ codes "ima-ng" ∷ [] in
    let l5 = codes "appraise" ∷ codes "enforce" ∷ [] in
    let l6 = codes "evm" ∷ key_word ∷ [] in
    let l9 = codes "fs" ∷ super_words in
    record {
      lines = l1 ∷ l2 ∷ l3 ∷ l5 ∷ l6 ∷ l9 ∷ [];
      spelled = refl;
      to = d9;
      reads = followed (l1 ∷ []) (l2 ∷ l3 ∷ l5 ∷ l6 ∷ l9 ∷ []) start d1 d9 (version_line start refl)
          (followed (l2 ∷ []) (l3 ∷ l5 ∷ l6 ∷ l9 ∷ []) d1 d2 d9 (hash_line d1 Sha256 refl)
          (followed (l3 ∷ []) (l5 ∷ l6 ∷ l9 ∷ []) d2 d3 d9 (template_line d2 ImaNg refl refl)
          (followed (l5 ∷ []) (l6 ∷ l9 ∷ []) d3 d5 d9 (mode_line d3 Enforce refl)
          (followed (l6 ∷ []) (l9 ∷ []) d5 d6 d9 (key_line d5 refl)
          (super_line d6 refl refl)))));
      is = record {
        at = refl;
        supers = refl;
        files = refl;
        rules = refl;
        tasks = refl;
        paths = refl;
        counts = (refl, refl, refl);
      };
    }

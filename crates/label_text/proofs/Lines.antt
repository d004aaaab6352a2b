-- The lines of a file are what `push_file` appends.
use Rattle.std.proofs.Common.{◌≡◌, ℕ, Bool, true, cond, List, [], ◌++◌, Option, sym, ap, ◌∙◌, append_assoc}
use Rattle.script_text.specs.evm.Setup.{Setup}
use Rattle.xattr_store.specs.Attrs.{Pair, value}
use Rattle.xattr_store.specs.Names.{evm_name, ima_name}
use Rattle.script_text.specs.Files.{sealed, setup_of}
use Rattle.script_text.specs.ScriptValue.{ScriptValue}
use Rattle.script_text.specs.declared.blocks.FileBlock.{FileBlock}
use Rattle.label_text.specs.Labels.{file_lines, hmac_line, line_under, lines_of}

-- for a present file, the label's line and then the HMAC's are the file's lines
pub lines_are : (s : ScriptValue) (b : FileBlock) (evm : Setup) (attrs : List Pair)
    (path : List ℕ) (label hmac : Option (List ℕ)) (old mid new : List ℕ) → evm ≡ setup_of s
    → b.image.present ≡ true → attrs ≡ (sealed evm s.hash b).image.attrs → path ≡ b.path
    → label ≡ value ima_name attrs → hmac ≡ value evm_name attrs
    → mid ≡ old ++ line_under path ima_name label → new ≡ mid ++ hmac_line s.key path hmac
    → new ≡ old ++ file_lines s b
lines_are s b evm attrs path label hmac old mid new set present are on is_label is_hmac first last =
    last ∙ ap (λ (t : List ℕ). t ++ hmac_line s.key path hmac) first
    ∙ append_assoc old (line_under path ima_name label) (hmac_line s.key path hmac)
    ∙ ap (λ (t : List ℕ). old ++ t)
    (ap (λ (o : Option (List ℕ)). line_under path ima_name o ++ hmac_line s.key path hmac) is_label
    ∙ ap (λ (o : Option (List ℕ)). line_under path ima_name (value ima_name attrs)
    ++ hmac_line s.key path o) is_hmac
    ∙ ap (λ (at : List ℕ). lines_of s.key at attrs) on
    ∙ ap (λ (pairs : List Pair). lines_of s.key b.path pairs) are
    ∙ ap (λ (e : Setup). lines_of s.key b.path (sealed e s.hash b).image.attrs) set
    ∙ ap (λ (p : Bool). cond p (lines_of s.key b.path
    (sealed (setup_of s) s.hash b).image.attrs) []) (sym present))

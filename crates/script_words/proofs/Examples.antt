-- Examples of words and texts, each with its value.
use Rattle.std.proofs.Common.{◌≡◌, ℕ, ◌+◌, Bool, true, false, ◌==◌, List, [], ◌∷◌, codes, Result, Ok, Err, Some, None, refl, if◌then◌else◌}
use Rattle.std.specs.Prelude.{replicate}
use Rattle.std.specs.Str.{bytes_eq}
use Rattle.hex.proofs.OnLiterals.{hex_on_literals}
use Rattle.script_words.specs.declared.fault.LineCause.{LineCause}
use Rattle.script_words.specs.declared.fault.LineCause.TheVariants as cause
use Rattle.script_words.specs.Forms.{descriptor_of, id_of, mode_of, place_among, portion_of, small_of}
use Rattle.script_words.specs.Line.{cut_line, fields, is_skipped}
use Rattle.script_words.specs.Read.{fault_at, text_by, text_of}
use Rattle.script_words.specs.Value.{value_of}

numbers : (descriptor_of (codes "255") ≡ Some 255) × (descriptor_of (codes "256") ≡ None)
    × (small_of (codes "63") ≡ Some 63) × (small_of (codes "64") ≡ None)
    × (id_of (codes "4294967295") ≡ Some 0xffff_ffff) × (id_of (codes "4294967296") ≡ None)
    × (portion_of (codes "0") ≡ None) × (portion_of (codes "1") ≡ Some 1)
    × (portion_of (codes "262144") ≡ Some 262144) × (portion_of (codes "262145") ≡ None)
    × (small_of (codes "01") ≡ None)
numbers = (refl, refl, refl, refl, refl, refl, refl, refl, refl, refl, refl)

modes : (mode_of (codes "100644") ≡ Some 0o100644) × (mode_of (codes "177777") ≡ Some 0xffff)
    × (mode_of (codes "200000") ≡ None) × (mode_of (codes "0644") ≡ None)
    × (mode_of (codes "648") ≡ None) × (mode_of (codes "0") ≡ Some 0)
modes = (refl, refl, refl, refl, refl, refl)

-- a number of any length is either a place or none
places : (place_among 2 (codes "1") ≡ Some 1) × (place_among 2 (codes "2") ≡ None)
    × (place_among 0 (codes "0") ≡ None) × (place_among 2 (replicate 40 57) ≡ None)
places = (refl, refl, refl, refl)

values : (value_of 0 9 (codes "txt:a~") ≡ Some (97 ∷ 126 ∷ []))
    × (value_of 0 9 (codes "txt:") ≡ Some [])
    × (value_of 1 9 (codes "txt:") ≡ None) × (value_of 0 1 (codes "txt:ab") ≡ None)
    × (value_of 0 9 (codes "txt:a\u{7f}") ≡ None)
    × (value_of 0 3 (codes "fill:3:5A") ≡ Some (90 ∷ 90 ∷ 90 ∷ []))
    × (value_of 0 3 (codes "fill:4:5a") ≡ None) × (value_of 0 3 (codes "fill:0:00") ≡ Some [])
    × (value_of 0 9 (codes "fill:01:00") ≡ None) × (value_of 0 9 (codes "fill:1:0") ≡ None)
    × (value_of 0 9 (codes "abc") ≡ None)
values = (refl, refl, refl, refl, refl, refl, refl, refl, refl, refl, refl)

hex_values : (value_of 0 9 (codes "hex:aB0c") ≡ Some (0xab ∷ 0x0c ∷ []))
    × (value_of 0 9 (codes "hex:abc") ≡ None) × (value_of 0 9 (codes "hex:0g") ≡ None)
unfolding hex_on_literals
hex_values = (refl, refl, refl)

lines_cut : (cut_line (codes "close 0 x") ≡ (codes "close", Some (codes "0 x")))
    × (cut_line (codes "rounds") ≡ (codes "rounds", None))
    × (fields (Some (codes "0  x")) ≡ codes "0" ∷ [] ∷ codes "x" ∷ []) × (fields None ≡ [])
    × (is_skipped [] ≡ true) × (is_skipped (codes "# c") ≡ true) × (is_skipped (codes " #") ≡ false)
lines_cut = (refl, refl, refl, refl, refl, refl, refl)

-- ---- a grammar whose lines are `a`, and whose texts have at least two of them

abbrev counts : ℕ → List ℕ → Result ℕ LineCause
counts n line = if bytes_eq line (codes "a") then Ok (n + 1) else Err cause.BadWord

abbrev two : ℕ → Bool
two n = n == 2

texts : (text_of counts two 0 (codes "a\n# c\n\na\n") ≡ Ok 2)
    × (text_of counts two 0 (codes "a\n\nb\nc\n") ≡ Err (fault_at 3 cause.BadWord))
    × (text_of counts two 0 (codes "a\n") ≡ Err (fault_at 2 cause.NoEnd))
    × (text_of counts two 0 (codes "a\na") ≡ Err (fault_at 2 cause.NoEnd))
    × (text_of counts two 0 (codes "a\na\n#") ≡ Err (fault_at 3 cause.NoEnd))
    × (text_of counts two 0 [] ≡ Err (fault_at 1 cause.NoEnd))
texts = (refl, refl, refl, refl, refl, refl)

-- the same grammar with numbers as causes: 5 for a line, and 7 for the end
abbrev numbered : ℕ → List ℕ → Result ℕ ℕ
numbered n line = if bytes_eq line (codes "a") then Ok (n + 1) else Err 5

own_causes : (text_by 7 numbered two 0 (codes "a\na\n") ≡ Ok 2)
    × (text_by 7 numbered two 0 (codes "a\nb\na") ≡ Err (fault_at 2 5))
    × (text_by 7 numbered two 0 (codes "a\na") ≡ Err (fault_at 2 7))
own_causes = (refl, refl, refl)

-- The forms of words, and what comes after a word of some form.
use Rattle.std.specs.Prelude.{ℕ, ◌/◌, ◌%◌, ◌==◌, Bool, true, false, ◌&&◌, ◌||◌, not, nat_le, List, [], ◌∷◌, length, take, Option, Some, None, if◌then◌else◌}
use Rattle.std.specs.List.{list_all}
use Rattle.std.specs.Str.{bytes_eq}
use Rattle.text_forms.specs.Options.{◌>>=◌}
use Rattle.text_forms.specs.Tokens.{is_filled}
use Rattle.text_forms.specs.Words.{words}
use Rattle.hash_algos.specs.Algo.{algo_by_name, algo_size}
use Rattle.hash_algos.specs.declared.algo.Algo.{Algo}
use Rattle.inode_meta.specs.declared.step.Who.{Who}
use Rattle.script_words.specs.Forms.{id_of}
use Rattle.script_words.specs.Line.{cut}

-- the words of a line, or the last of them
abbrev pub Words : Type 0
Words = List (List ℕ)

-- the words of a line, at most 24 of them: no line has more, except that of an appended rule, whose
-- text isn't looked at
abbrev pub first_words : List ℕ → Words
first_words line = take 24 (words line)

-- ---- words

-- a number: decimal digits without leading zeros, below 2^32
abbrev pub number : List ℕ → Option ℕ
number word = id_of word

abbrev pub is_low_hex : ℕ → Bool
is_low_hex b = (nat_le 48 b && nat_le b 57) || (nat_le 97 b && nat_le b 102)

-- bytes in lower-case hexadecimal digits
abbrev pub is_hex : List ℕ → Bool
is_hex word = ((length word % 2) == 0) && list_all is_low_hex word

-- as many bytes in lower-case hexadecimal digits
abbrev pub is_digest : ℕ → List ℕ → Bool
is_digest size word = ((length word / 2) == size) && is_hex word

abbrev pub sized_by : Option Algo → List ℕ → Bool
sized_by None digits = false
sized_by (Some algo) digits = is_digest (algo_size algo) digits

abbrev pub named_by : Option (List ℕ × List ℕ) → Bool
named_by None = false
named_by (Some p) = sized_by (algo_by_name p.0) p.1

-- an algorithm's name, a colon, and a digest of that algorithm
abbrev pub is_named_digest : List ℕ → Bool
is_named_digest word = named_by (cut 58 word)

abbrev pub step_at : ℕ → ℕ → ℕ → Who
step_at task call step = record { task = task; call = call; step = step }

-- the step that the numbers of a task, a call and a step name, with dots between them
abbrev pub who_of : List ℕ → Option Who
who_of word =
    cut 46 word >>= λ p. cut 46 p.1 >>= λ q.
    number p.0 >>= λ task. number q.0 >>= λ call. number q.1 >>= λ step.
    Some (step_at task call step)

abbrev pub is_register : Option ℕ → Bool
is_register None = false
is_register (Some pcr) = nat_le pcr 23

-- the number of a register
abbrev pub is_pcr : List ℕ → Bool
is_pcr word = is_register (number word)

-- the number of a register, of so many digits
abbrev pub is_wide_pcr : ℕ → List ℕ → Bool
is_wide_pcr width word = (length word == width) && is_pcr word

-- the word is one of these
abbrev pub is_among : Words → List ℕ → Bool
is_among [] word = false
is_among (w ∷ ws) word = bytes_eq word w || is_among ws word

-- ---- the words after a word of some form

-- the words after the first, if that one passes the test
abbrev pub after_by : (List ℕ → Bool) → Words → Option Words
after_by test [] = None
after_by test (w ∷ ws) = if test w then Some ws else None

abbrev pub after : List ℕ → Words → Option Words
after word ws = after_by (λ w. bytes_eq w word) ws

abbrev pub is_any : List ℕ → Bool
is_any word = true

-- the words without the first, if it is this one
abbrev pub without : List ℕ → Words → Words
without word [] = []
without word (w ∷ ws) = if bytes_eq w word then ws else w ∷ ws

abbrev pub number_in : Words → Option (ℕ × Words)
number_in [] = None
number_in (w ∷ ws) = number w >>= λ n. Some (n, ws)

abbrev pub who_in : Words → Option (Who × Words)
who_in [] = None
who_in (w ∷ ws) = who_of w >>= λ who. Some (who, ws)

-- the words are one number
abbrev pub last_number : Words → Option ℕ
last_number (w ∷ []) = number w
last_number _ = None

-- a word and the number after it, and no more
abbrev pub counted : List ℕ → Words → Option ℕ
counted word ws = after word ws >>= λ rest. last_number rest

-- the words are one, which passes the test
abbrev pub only_by : (List ℕ → Bool) → Words → Bool
only_by test (w ∷ []) = test w
only_by test _ = false

-- a line has been read to its end
abbrev pub is_whole : Option Words → Bool
is_whole None = false
is_whole (Some rest) = not (is_filled rest)

-- Examples of lines of calls, each with its call or its cause, and of canonical lines.
use Rattle.std.proofs.Common.{◌≡◌, ℕ, true, false, List, [], ◌∷◌, codes, decimal, Ok, Err, Some, None, refl}
use Rattle.call_steps.specs.declared.call.Call.TheVariants as call
use Rattle.call_steps.specs.events.declared.deed.Change.TheVariants as change
use Rattle.call_steps.specs.events.declared.deed.How.TheVariants as how
use Rattle.script_words.specs.declared.fault.LineCause.TheVariants as cause
use Rattle.call_lines.specs.Calls.{Called, call_line, call_of, is_line_call}
use Rattle.call_lines.specs.Form.{hex_text, octal}
use Rattle.call_lines.specs.Lines.{Line}
use Rattle.call_lines.specs.Places.{place_in}
use Rattle.call_lines.specs.Table.{call_word_of}
use Rattle.call_lines.specs.declared.table.CallWord.{CallWord}
use Rattle.call_lines.specs.declared.table.CallWord.TheVariants as word

-- the files of the examples; the first and the third have the same path
abbrev paths : List (List ℕ)
paths = codes "/a" ∷ codes "/b" ∷ codes "/a" ∷ []

-- a path names the first file that has it; a path that no file has names none
first_path : (place_in paths (codes "/a") ≡ Some 0) × (place_in paths (codes "/b") ≡ Some 1)
    × (place_in paths (codes "/c") ≡ None)
first_path = (refl, refl, refl)

-- a kind of line is found by the whole first word, not by the beginning of one
kinds : (call_word_of (codes "removexattr") ≡ Some word.RemoveAttr)
    × (call_word_of (codes "rea") ≡ None)
kinds = (refl, refl)

-- the call, or the cause, of a line with these words after its first
abbrev said : CallWord → Line → Called
said w ws = call_of w None ws paths

-- a word of the wrong form is refused before it is asked whether the path exists
opens : (said word.Open (codes "7" ∷ codes "/b" ∷ codes "rw" ∷ codes "create" ∷ [])
    ≡ Ok (call.Open 7 1 (how.Write true true) false))
    × (said word.Open (codes "7" ∷ codes "/b" ∷ codes "w" ∷ codes "create" ∷ codes "trunc" ∷ [])
    ≡ Ok (call.Open 7 1 (how.Write false true) true))
    × (said word.Open (codes "7" ∷ codes "/b" ∷ codes "r" ∷ codes "trunc" ∷ [])
    ≡ Err cause.BadField)
    × (said word.Open (codes "7" ∷ codes "/b" ∷ codes "w" ∷ codes "trunc" ∷ codes "create" ∷ [])
    ≡ Err cause.BadField)
    × (said word.Open (codes "7" ∷ codes "/c" ∷ codes "w" ∷ codes "trunc" ∷ [])
    ≡ Err cause.Unknown)
    × (said word.Open (codes "7" ∷ codes "/c" ∷ codes "x" ∷ []) ≡ Err cause.BadField)
    × (said word.Open (codes "256" ∷ codes "/a" ∷ codes "r" ∷ []) ≡ Err cause.BadField)
    × (said word.Open (codes "7" ∷ codes "c" ∷ codes "w" ∷ []) ≡ Err cause.BadField)
unfolding call_of
opens = (refl, refl, refl, refl, refl, refl, refl, refl)

-- a read is of 1 to 262,144 bytes, and has three words; the number of a map is below 64
reads : (said word.Read (codes "7" ∷ codes "4" ∷ codes "262144" ∷ []) ≡ Ok (call.Read 7 4 262144))
    × (said word.Read (codes "7" ∷ codes "4" ∷ codes "0" ∷ []) ≡ Err cause.BadField)
    × (said word.Read (codes "7" ∷ codes "4" ∷ codes "1" ∷ codes "1" ∷ []) ≡ Err cause.BadField)
    × (said word.Mread (codes "63" ∷ codes "0" ∷ codes "1" ∷ []) ≡ Ok (call.Mread 63 0 1))
    × (said word.Mread (codes "64" ∷ codes "0" ∷ codes "1" ∷ []) ≡ Err cause.BadField)
unfolding call_of
reads = (refl, refl, refl, refl, refl)

-- a write is of at least one byte, and a length is below 4,294,967,296
writes : (said word.Write (codes "0" ∷ codes "4" ∷ codes "txt:ab" ∷ [])
    ≡ Ok (call.Write 0 4 (codes "ab")))
    × (said word.Write (codes "0" ∷ codes "4" ∷ codes "txt:" ∷ []) ≡ Err cause.BadField)
    × (said word.Ftruncate (codes "0" ∷ codes "4294967295" ∷ []) ≡ Ok (call.Ftruncate 0 4294967295))
    × (said word.Ftruncate (codes "0" ∷ codes "4294967296" ∷ []) ≡ Err cause.BadField)
    × (said word.Close (codes "0" ∷ []) ≡ Ok (call.Close 0))
    × (said word.Close [] ≡ Err cause.BadField)
unfolding call_of
writes = (refl, refl, refl, refl, refl, refl)

-- maps, executions, semaphores and what the kernel reads itself; a rule can't be left out
runs : (said word.Mmap (codes "1" ∷ codes "2" ∷ codes "exec" ∷ []) ≡ Ok (call.Mmap 1 2 true))
    × (said word.Mmap (codes "1" ∷ codes "2" ∷ codes "write" ∷ []) ≡ Err cause.BadField)
    × (said word.Munmap (codes "1" ∷ []) ≡ Ok (call.Munmap 1))
    × (said word.Exec (codes "3" ∷ codes "/a" ∷ []) ≡ Ok (call.Exec 3 0))
    × (said word.Exec (codes "x" ∷ codes "/c" ∷ []) ≡ Err cause.BadField)
    × (said word.Endexec (codes "3" ∷ []) ≡ Ok (call.Endexec 3))
    × (said word.Post (codes "4" ∷ []) ≡ Ok (call.Post 4))
    × (said word.Wait (codes "4" ∷ []) ≡ Ok (call.Wait 4))
    × (said word.Module (codes "/b" ∷ []) ≡ Ok (call.Module 1))
    × (said word.Firmware (codes "/b" ∷ []) ≡ Ok (call.Firmware 1))
    × (said word.Firmware (codes "/c" ∷ []) ≡ Err cause.Unknown)
    × (said word.AddRule [] ≡ Err cause.BadField)
unfolding call_of
runs = (refl, refl, refl, refl, refl, refl, refl, refl, refl, refl, refl, refl)

-- changes of attributes, modes in octal, and owners; an attribute's value may be empty
changes : (said word.SetAttr (codes "/b" ∷ codes "user.x" ∷ codes "txt:" ∷ [])
    ≡ Ok (call.SetAttr 1 (codes "user.x") (Some [])))
    × (said word.SetAttr (codes "/c" ∷ codes "user.x" ∷ codes "x" ∷ []) ≡ Err cause.BadField)
    × (said word.RemoveAttr (codes "/b" ∷ codes "user.x" ∷ [])
    ≡ Ok (call.SetAttr 1 (codes "user.x") None))
    × (said word.Chmod (codes "/a" ∷ codes "644" ∷ []) ≡ Ok (call.SetMeta 0 (change.Mode 420)))
    × (said word.Chown (codes "/a" ∷ codes "1" ∷ codes "2" ∷ [])
    ≡ Ok (call.SetMeta 0 (change.Owner 1 2)))
unfolding call_of
changes = (refl, refl, refl, refl, refl)

-- canonical lines, which name a file by its path
lines : (n m : ℕ) → (call_line paths (call.Open n 1 (how.Write true true) true)
    ≡ codes "open" ∷ decimal n ∷ codes "/b" ∷ codes "rw" ∷ codes "create" ∷ codes "trunc" ∷ [])
    × (call_line paths (call.Read n m 1) ≡ codes "read" ∷ decimal n ∷ decimal m ∷ decimal 1 ∷ [])
    × (call_line paths (call.Write n m (codes "ab"))
    ≡ codes "write" ∷ decimal n ∷ decimal m ∷ hex_text (codes "ab") ∷ [])
    × (call_line paths (call.SetAttr 1 (codes "user.x") None)
    ≡ codes "removexattr" ∷ codes "/b" ∷ codes "user.x" ∷ [])
    × (call_line paths (call.SetMeta 0 (change.Mode m))
    ≡ codes "chmod" ∷ codes "/a" ∷ octal m ∷ [])
    × (call_line paths (call.Mmap n m false)
    ≡ codes "mmap" ∷ decimal n ∷ decimal m ∷ codes "read" ∷ [])
lines n m = (refl, refl, refl, refl, refl, refl)

-- calls that a line can and can't say: by the file, the numbers and the way of opening
limits : (is_line_call 2 (call.Exec 3 1) ≡ true) × (is_line_call 2 (call.Exec 3 2) ≡ false)
    × (is_line_call 2 (call.Exec 64 1) ≡ false)
    × (is_line_call 2 (call.Open 0 0 (how.Read false) true) ≡ false)
    × (is_line_call 2 (call.Open 0 0 how.Exec false) ≡ false)
    × (is_line_call 0 (call.Close 256) ≡ false)
limits = (refl, refl, refl, refl, refl, refl)

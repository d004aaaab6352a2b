-- Why no page was written: the exit status and the line on the note.
use Rattle.std.specs.Prelude.{ℕ, ◌==◌, List, [], ◌∷◌, ◌++◌, codes, Result, Ok, Err, if◌then◌else◌}
use Rattle.ima_io.specs.declared.whole.ReadErr.{ReadErr}
use Rattle.ima_io.specs.declared.whole.ReadErr.TheVariants as read
use Rattle.view_top.specs.declared.not_done.NotDone.{NotDone}
use Rattle.view_top.specs.declared.not_done.NotDone.TheVariants as not_done
use Rattle.view_top.specs.Statuses as exit

abbrev pub not_done_status : NotDone → ℕ
not_done_status not_done.Usage = exit.usage
not_done_status (not_done.Refused line) = exit.refused
not_done_status not_done.NoPlace = exit.no_place
not_done_status not_done.ReadFault = exit.read_fault
not_done_status not_done.WriteFault = exit.write_fault
not_done_status not_done.TooLong = exit.too_long
not_done_status not_done.OutOfMemory = exit.out_of_memory

abbrev pub status_of : Result (Unit {0}) NotDone → ℕ
status_of (Ok _) = exit.done
status_of (Err why) = not_done_status why

abbrev pub not_done_of_read : ReadErr → NotDone
not_done_of_read read.Fault = not_done.ReadFault
not_done_of_read read.TooLong = not_done.TooLong
not_done_of_read read.OutOfMemory = not_done.OutOfMemory

abbrev pub with_newline : List ℕ → List ℕ
with_newline text = text ++ 10 ∷ []

abbrev pub usage_line : List ℕ
usage_line = with_newline (codes "usage: imakern_view page | pair | inode I [A B] | svg I [A B]")

-- the line for a status, except for a refused input, whose line has a number
abbrev pub told_of : ℕ → List ℕ
told_of status =
    if status == exit.usage then usage_line
    else if status == exit.no_place then with_newline (codes "no such place")
    else if status == exit.read_fault then with_newline (codes "read fault")
    else if status == exit.write_fault then with_newline (codes "write fault")
    else if status == exit.too_long then with_newline (codes "input too long")
    else if status == exit.out_of_memory then with_newline (codes "out of memory")
    else []

abbrev pub not_done_line : NotDone → List ℕ
not_done_line (not_done.Refused line) = line.items
not_done_line not_done.Usage = told_of exit.usage
not_done_line not_done.NoPlace = told_of exit.no_place
not_done_line not_done.ReadFault = told_of exit.read_fault
not_done_line not_done.WriteFault = told_of exit.write_fault
not_done_line not_done.TooLong = told_of exit.too_long
not_done_line not_done.OutOfMemory = told_of exit.out_of_memory

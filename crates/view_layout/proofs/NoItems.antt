-- What stands for the item of a list where there is none.
use Rattle.report_read.specs.Draft.{no_span}
use Rattle.report_read.specs.Lines.{birth_event}
use Rattle.view_journal.specs.declared.kinds.Note.TheVariants as note
use Rattle.view_layout.specs.declared.flags.Flag.{Flag}
use Rattle.view_layout.specs.declared.flags.Noted.{Noted}

abbrev pub no_noted : Noted
no_noted = record { x = 0; event = birth_event no_span; note = note.ToMToU 0 }

abbrev pub no_flag : Flag
no_flag = record { x = 0; event = birth_event no_span; note = note.ToMToU 0; up = 0 }

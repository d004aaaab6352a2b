-- A report as it is read, with ranges of the text for its lines.
use Rattle.std.specs.Prelude.{ℕ, ◌^◌, ◌<◌, Bool, List, length, All}
use Rattle.report_words.specs.declared.event.Event.{Event}
use Rattle.report_words.specs.declared.event.Span.{Span}
use Rattle.report_lines.specs.declared.report.InodeHead.{InodeHead}
use Rattle.report_lines.specs.declared.report.Reply.{Reply}
use Rattle.report_lines.specs.declared.report.RunEnd.{RunEnd}

pub record InodeValue : Type 0 where
  pub head : InodeHead
  -- the lines of the attributes
  pub attrs : List Span
  pub events : List Event

pub record TaskValue : Type 0 where
  pub done : Bool
  pub replies : List Reply

pub record ReportValue : Type 0 where
  pub run : RunEnd
  pub violations : ℕ
  -- the lines of the list, of the registers and of the appended rules
  pub entries : List Span
  pub registers : List Span
  pub rules : List Span
  pub inodes : List InodeValue
  pub tasks : List TaskValue

-- each event has a place of 32 bits
abbrev pub HasShortJournals : ReportValue → Type 0
HasShortJournals r = All (λ (i : InodeValue). length i.events < 2 ^ 32) r.inodes

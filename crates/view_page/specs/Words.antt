-- Words and parts of the lines of a report, as ranges of its text.
use Rattle.std.specs.Prelude.{ℕ, ◌+◌, ◌-◌, min, List}
use Rattle.view_page.specs.Pieces.{text_at, word_len}
use Rattle.view_journal.specs.reading.words.declared.event.Span.{Span}
use Rattle.view_journal.specs.reading.lines.declared.report.InodeHead.{InodeHead}

abbrev pub first_word : List ℕ → Span → Span
first_word text span = record { at = span.at; len = word_len (text_at text span) }

-- the line without so many of its bytes, and at most as many as a range can say
abbrev pub past : ℕ → Span → Span
past n span = record { at = min (span.at + n) 4294967295; len = span.len - n }

-- what follows the first word and its space
abbrev pub after_word : List ℕ → Span → Span
after_word text span = past (word_len (text_at text span) + 1) span

-- at most so many of the first bytes
abbrev pub cut : ℕ → Span → Span
cut most span = record { at = span.at; len = min span.len most }

-- the path, the third word of an inode's line
abbrev pub path : List ℕ → InodeHead → Span
path text head = first_word text (after_word text (after_word text head.line))

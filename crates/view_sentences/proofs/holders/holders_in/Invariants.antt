use Rattle.std.proofs.Common.{◌≡◌, take}
use Rattle.std.specs.Prelude.{reverse}
use Rattle.view_page.specs.journals.Sentences.{held_by}
use Rattle.view_sentences.specs.Holders.{held_files, holds}
use Rattle.view_sentences.proofs.holders.holders_in.Given as goal

-- the holders so far
abbrev pub invariant-loop-place : goal.invariant-loop-place
invariant-loop-place l =
    l.holders.items
    ≡ reverse (held_by (holds l.holding) l.file (held_files (take l.place l.held)))

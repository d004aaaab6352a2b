-- Whole texts, each with what is read of it.
use Rattle.std.proofs.Common.{◌≡◌, codes, Err, refl}
use Rattle.report_draft.specs.Draft.{with_words}
use Rattle.report_read.specs.Read.{reports_of}

-- a run without entries, inodes and tasks; an empty line is no line of a report
shortest : (reports_of 0 (codes "imakern report 1\nrun done\nlist 0 violations 0\n\n") ≡ Err 4)
    × (reports_of 0 (codes "imakern report 1\nrun done\nlist 0 violations 0\nend") ≡ Err 4)
    × (reports_of 0 (codes "") ≡ Err 1)
unfolding with_words
shortest = (refl, refl, refl)

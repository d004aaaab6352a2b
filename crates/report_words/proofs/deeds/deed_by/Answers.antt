use Rattle.std.proofs.Common.{◌≡◌, ◌≢◌, refl, map, ◌∙◌}
use Rattle.report_words.specs.Deeds.{deed_by, file_deed_in}
use Rattle.report_words.specs.Forms.{Words}
use Rattle.report_words.specs.declared.deeds.DeedWord.{DeedWord}
use Rattle.report_words.specs.declared.deeds.DeedWord.TheVariants as word
use Rattle.report_words.proofs.deeds.deed_by.Goals as goal

-- after each other word stands its file alone
by_file : (w : DeedWord) (ws : Words) → w ≢ word.Count → w ≢ word.Check
    → w ≢ word.Read → w ≢ word.Write → w ≢ word.Trunc → w ≢ word.SetAttr
    → w ≢ word.SetMeta → file_deed_in w ws ≡ deed_by w ws
unfolding deed_by
by_file word.Count ws count check read write trunc set meta = absurd (count refl)
by_file word.Check ws count check read write trunc set meta = absurd (check refl)
by_file word.Read ws count check read write trunc set meta = absurd (read refl)
by_file word.Write ws count check read write trunc set meta = absurd (write refl)
by_file word.Trunc ws count check read write trunc set meta = absurd (trunc refl)
by_file word.SetAttr ws count check read write trunc set meta = absurd (set refl)
by_file word.SetMeta ws count check read write trunc set meta = absurd (meta refl)
by_file _ ws count check read write trunc set meta = refl

pub returns-in_default : goal.returns-in_default
returns-in_default c =
    c.file_deed_in.ensures
    ∙ by_file c.args.word (map (λ w. w.now) c.args.words.now) c.in_default.not-Count
    c.in_default.not-Check c.in_default.not-Read c.in_default.not-Write c.in_default.not-Trunc
    c.in_default.not-SetAttr c.in_default.not-SetMeta

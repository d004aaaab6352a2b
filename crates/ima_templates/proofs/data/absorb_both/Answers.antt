-- Both pieces are written, and what was taken before is kept.
use Rattle.std.proofs.lemmas.Result.{on_ok_weaker}
use Rattle.ima_templates.proofs.data.absorb_both.Goals as goal

pub returns-clause-ok : goal.returns-clause-ok
returns-clause-ok g c =
    on_ok_weaker c.absorb-2.result (g.met.S.Absorb.more _ _ _ _ _ c.in_ok-absorb.ensures.ok)
    c.absorb-2.ensures.ok

pub returns-clause-kept : goal.returns-clause-kept
returns-clause-kept g c =
    g.met.S.Absorb.keeps_further _ _ _ c.in_ok-absorb.ensures.kept c.absorb-2.ensures.kept

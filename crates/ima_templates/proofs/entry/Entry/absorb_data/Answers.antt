-- The fields of the entry make its template data.
use Rattle.std.proofs.Common.{ℕ, ◌<◌, ◌^◌, List, length, subst}
use Rattle.std.specs.Prelude.{OnOk}
use Rattle.ima_templates.specs.Data.{data_by, template_data}
use Rattle.ima_templates.specs.IsEntry.{fields_of}
use Rattle.ima_templates.proofs.DataLemmas.{length-template_data-fits}
use Rattle.ima_templates.specs.declared.entry.Entry.{Entry}
use Rattle.ima_templates.proofs.entry.Entry.absorb_data.Goals as goal

pub returns-clause-ok : goal.returns-clause-ok
unfolding template_data
returns-clause-ok g c =
    let Absorbed : List ℕ
    → Type 0 =
    λ m. OnOk c.absorb_data.result (g.S.Absorb.absorbs c.args.to.now c.absorb_data.new.to m) in
    subst (λ (e : Entry). Absorbed (template_data e)) c.self.view_is
    (subst (λ (m : List ℕ). Absorbed (data_by c.self.inside.template c.self.inside.digest m
    c.self.inside.sig)) c.as_slice.ensures.bytes
    (subst (λ (m : List ℕ). Absorbed (data_by c.self.inside.template c.self.inside.digest
    c.as_slice.result.now m)) c.as_slice-2.ensures.bytes
    c.absorb_data.ensures.ok))

pub returns-clause-fits : goal.returns-clause-fits
returns-clause-fits g c =
    subst (λ (e : Entry). length (template_data e) < 2 ^ 32) c.self.view_is
    (length-template_data-fits (fields_of c.self.inside) c.self.invariant.entry)

-- Under the same template, comparing the fields decides.
use Rattle.std.proofs.Common.{rules, ◌≡◌, ap, subst, sym, ◌∙◌}
use denote.Enum.Bare.{same_true}
use Rattle.inode_meta.specs.contracts.measurement.Template.{the_type}
use Rattle.ima_templates.specs.declared.entry.Entry.{Entry}
use Rattle.ima_templates.specs.IsEntry.{IsEntry}
use Rattle.ima_templates.proofs.SameLemmas.{same_data-fields}
use Rattle.ima_templates.proofs.entry.Entry.has_same_data.Goals as goal

pub returns-then-eq : goal.returns-then-eq
returns-then-eq c =
    let templates : c.self.inside.template ≡ c.other.inside.template =
    same_true the_type (search rules) _ _ (sym c.if-eq.ensures) in
    same_data-fields c.args.self.now c.args.other.now c.has_same_fields.result
    (subst (λ (e : Entry). IsEntry e) c.self.view_is c.self.invariant.entry)
    (subst (λ (e : Entry). IsEntry e) c.other.view_is c.other.invariant.entry)
    (ap (λ (e : Entry). e.template) (sym c.self.view_is) ∙ templates
    ∙ ap (λ (e : Entry). e.template) c.other.view_is)
    c.has_same_fields.ensures

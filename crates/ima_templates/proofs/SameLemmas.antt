-- Comparing the template data gives the same result as comparing the fields.
use Rattle.std.proofs.Common.{◌≡◌, Bool, true, false, not, ◌↔◌, refl, ap, sym, ◌∙◌, eq-eqb, eqb-true}
use Rattle.std.proofs.lemmas.Bool.{and_from, and_parts, not-true}
use Rattle.std.specs.Prelude.{IsTrue}
use Rattle.std.specs.Str.{bytes_eq}
use lib.Pointwise.{bytes_decides}
use Rattle.inode_meta.specs.declared.measurement.Template.{Template}
use Rattle.inode_meta.specs.declared.measurement.Template.TheVariants.{Ima, ImaNg, ImaSig, ImaBuf}
use Rattle.ima_templates.specs.declared.entry.Entry.{Entry}
use Rattle.ima_templates.specs.Data.{template_data}
use Rattle.ima_templates.specs.IsEntry.{IsEntry}
use Rattle.ima_templates.specs.Same.{same, same_data, same_template, SameFields}
use Rattle.ima_templates.proofs.DataLemmas.{template_data-apart, template_data-same}

-- each template is the same as itself
same_template-refl : (t : Template) → same_template t t ≡ true
same_template-refl Ima = refl
same_template-refl ImaNg = refl
same_template-refl ImaSig = refl
same_template-refl ImaBuf = refl

-- equal templates pass `same_template`
same_template-at : (t u : Template) → t ≡ u → same_template t u ≡ true
same_template-at t u is = ap (λ v. same_template t v) (sym is) ∙ same_template-refl t

-- templates that pass `same_template` are equal
same_template-true : (t u : Template) → same_template t u ≡ true → t ≡ u
same_template-true Ima Ima is = refl
same_template-true ImaNg ImaNg is = refl
same_template-true ImaSig ImaSig is = refl
same_template-true ImaBuf ImaBuf is = refl
same_template-true Ima ImaNg is = absurd (cc)
same_template-true Ima ImaSig is = absurd (cc)
same_template-true Ima ImaBuf is = absurd (cc)
same_template-true ImaNg Ima is = absurd (cc)
same_template-true ImaNg ImaSig is = absurd (cc)
same_template-true ImaNg ImaBuf is = absurd (cc)
same_template-true ImaSig Ima is = absurd (cc)
same_template-true ImaSig ImaNg is = absurd (cc)
same_template-true ImaSig ImaBuf is = absurd (cc)
same_template-true ImaBuf Ima is = absurd (cc)
same_template-true ImaBuf ImaNg is = absurd (cc)
same_template-true ImaBuf ImaSig is = absurd (cc)

-- the parts that two entries have in common if they are the same
pub record Shares (a b : Entry) : Type 0 where
  pub no_violation : a.violation ≡ false
  pub no_violation_either : b.violation ≡ false
  pub pcr : a.pcr ≡ b.pcr
  pub template : a.template ≡ b.template
  pub one_data : template_data a ≡ template_data b

-- entries that are the same share these parts
pub Shares-same : (a b : Entry) → same a b ≡ true → Shares a b
unfolding same
Shares-same a b is =
    let all = and_parts _ _ is in
    let front = and_parts _ _ all.0 in
    let both = and_parts _ _ front.0 in
    let parts = and_parts _ _ all.1 in
    record {
      no_violation = not-true a.violation both.0;
      no_violation_either = not-true b.violation both.1;
      pcr = eqb-true a.pcr b.pcr front.1;
      template = same_template-true a.template b.template parts.0;
      one_data = (bytes_decides (template_data a) (template_data b)).0 parts.1;
    }

-- entries that share these parts are the same
pub same-Shares : (a b : Entry) → Shares a b → same a b ≡ true
unfolding same
same-Shares a b shares =
    and_from _ _ (and_from _ _ (and_from _ _ (ap not shares.no_violation)
    (ap not shares.no_violation_either)) (eq-eqb a.pcr b.pcr shares.pcr))
    (and_from _ _ (same_template-at a.template b.template shares.template)
    ((bytes_decides (template_data a) (template_data b)).1 shares.one_data))

-- two entries that are the same as a third one are the same
pub same-third : (a b e : Entry) → same a e ≡ true → same b e ≡ true → same a b ≡ true
same-third a b e is_a is_b =
    let one = Shares-same a e is_a in
    let other = Shares-same b e is_b in
    same-Shares a b (record {
      no_violation = one.no_violation;
      no_violation_either = other.no_violation;
      pcr = one.pcr ∙ sym other.pcr;
      template = one.template ∙ sym other.template;
      one_data = one.one_data ∙ sym other.one_data;
    })

-- if the templates are equal, comparing the fields decides `same_data`
pub same_data-fields : (a b : Entry) (r : Bool) → IsEntry a → IsEntry b → a.template ≡ b.template
    → (IsTrue r ↔ SameFields a b) → r ≡ same_data a b
same_data-fields a b r kept_a kept_b templates decides =
    rw (same_template-at a.template b.template templates)
    (by_cases r (bytes_eq (template_data a) (template_data b)) refl refl)
  where
    by_cases : (s t : Bool) → r ≡ s → bytes_eq (template_data a) (template_data b) ≡ t
        → r ≡ bytes_eq (template_data a) (template_data b)
    by_cases true t is_r is_t =
        is_r ∙ sym ((bytes_decides (template_data a) (template_data b)).1
        (template_data-same a b templates (decides.0 is_r)))
    by_cases false true is_r is_t =
        decides.1 (template_data-apart a b kept_a kept_b templates
        ((bytes_decides (template_data a) (template_data b)).0 is_t)) ∙ sym is_t
    by_cases false false is_r is_t = is_r ∙ sym is_t

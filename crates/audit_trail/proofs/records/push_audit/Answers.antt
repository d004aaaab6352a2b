use Rattle.std.proofs.Common.{ℕ, ◌+◌, ◌≤◌, List, ◌∷◌, ◌++◌, length, codes, Option, sym, ◌∙◌, ap, arith}
use Rattle.std.proofs.lemmas.List.{append-nil}
use Rattle.world_model.specs.model.events.forms.Words.{text_of}
use Rattle.audit_trail.proofs.Printing.{grown, named_joined, record_pushed, text_of_one}
use Rattle.audit_trail.specs.Texts.{front_text}
use Rattle.audit_trail.specs.Trail.{audit_line, digest_word, if_line}
use Rattle.audit_trail.proofs.records.push_audit.Goals as goal

pub returns-clause-text : goal.returns-clause-text
returns-clause-text c =
    c.in_ok-extend_from_slice.ensures.items
    ∙ ap (λ (l : List ℕ). l ++ codes "\n") (c.in_ok-append_named_digest.ensures.ok
    ∙ named_joined _ c.args.digest.now
    ∙ ap (λ (l : List ℕ). l ++ 32 ∷ digest_word c.args.digest.now) c.in_ok-push_front.ensures)
    ∙ record_pushed c.args.out.now.items (codes "audit") c.args.site.now.number c.args.place
    c.args.who c.in-Some.line c.args.site.now.file.now.path (digest_word c.args.digest.now)
    ∙ ap (λ (l : List ℕ). c.args.out.now.items ++ l)
    (sym (text_of_one (audit_line c.args.site.now.number c.args.place c.args.who
    c.args.site.now.file.now.path c.args.digest.now c.in-Some.line)))
    ∙ ap (λ (o : Option ℕ). c.args.out.now.items ++ text_of (if_line
    (audit_line c.args.site.now.number c.args.place c.args.who c.args.site.now.file.now.path
    c.args.digest.now) o)) (sym c.in-Some.is)

pub returns-clause-count : goal.returns-clause-count
returns-clause-count c =
    sym (ap (λ (o : Option ℕ). length (if_line (audit_line c.args.site.now.number c.args.place
    c.args.who c.args.site.now.file.now.path c.args.digest.now) o)) c.in-Some.is)

pub returns-clause-grows : goal.returns-clause-grows
returns-clause-grows c =
    let more : length c.args.out.now.items + 1 ≤ length c.extend_from_slice.new.self.items =
    grown c.args.out.now.items c.push_front.new.out.items c.append_named_digest.new.out.items
    c.extend_from_slice.new.self.items
    (front_text (codes "audit") c.args.site.now.number c.args.place c.args.who c.in-Some.line
    c.args.site.now.file.now.path) (32 ∷ digest_word c.args.digest.now) c.in_ok-push_front.ensures
    (c.in_ok-append_named_digest.ensures.ok
    ∙ named_joined _ c.args.digest.now) c.in_ok-extend_from_slice.ensures.items in
    omega (arith, c.args.out.now.ok.0, c.extend_from_slice.new.self.ok.0)

-- without a line there is no record
pub returns-in_default-clause-text : goal.returns-in_default-clause-text
returns-in_default-clause-text c =
    sym (ap (λ (o : Option ℕ). c.args.out.now.items ++ text_of (if_line
    (audit_line c.args.site.now.number c.args.place c.args.who c.args.site.now.file.now.path
    c.args.digest.now) o)) c.in_default.is
    ∙ append-nil c.args.out.now.items)

pub returns-in_default-clause-count : goal.returns-in_default-clause-count
returns-in_default-clause-count c =
    sym (ap (λ (o : Option ℕ). length (if_line (audit_line c.args.site.now.number c.args.place
    c.args.who c.args.site.now.file.now.path c.args.digest.now) o)) c.in_default.is)

use Rattle.std.proofs.Common.{◌≡◌, ◌++◌, List, [], length, None, Result, Ok, Err, sym, ◌∙◌, ap, subst}
use Rattle.std.specs.Result.{IfOk, OnOk}
use Rattle.std.proofs.lemmas.List.{append-nil}
use Rattle.report_text.specs.Words.{Line}
use Rattle.world_model.specs.model.events.forms.Words.{text_of}
use Rattle.world_model.specs.model.events.hashes.declared.digest.Digest.{Digest}
use Rattle.audit_trail.proofs.Passing.{no_check, of_check}
use Rattle.audit_trail.specs.Sites.{event_lines}
use Rattle.audit_trail.specs.Trail.{lines_of}
use Rattle.audit_trail.proofs.journals.push_event.Goals as goal

-- another deed has no records
pub returns-in_default-clause-text : goal.returns-in_default-clause-text
returns-in_default-clause-text c =
    sym (append-nil c.args.out.now.items)
    ∙ ap (λ (l : List Line). c.args.out.now.items ++ text_of l)
    (no_check c.args.context.now c.args.site.now c.args.place c.args.walk.now c.args.event.now.who
    c.args.event.now.deed c.args.event.now.told c.in_default.not-Check)

pub returns-in_default-clause-count : goal.returns-in_default-clause-count
returns-in_default-clause-count c =
    ap (λ (l : List Line). length l)
    (no_check c.args.context.now c.args.site.now c.args.place c.args.walk.now c.args.event.now.who
    c.args.event.now.deed c.args.event.now.told c.in_default.not-Check)

-- nor has a check for which no line asks
unasked : (c : goal.In-None-None) → [] ≡ event_lines c.args.context.now c.args.site.now
    c.args.place c.args.walk.now c.args.event.now
unasked c =
    of_check c.args.context.now c.args.site.now c.args.place c.args.walk.now c.args.event.now.who
    c.args.event.now.deed c.args.event.now.told c.in-Check.file c.in-Check.func c.in-Check.action
    c.in-Check.rules None None c.in-Check.is
    (sym c.in-None-None.is-0 ∙ c.lines_for-lines.ensures.audit)
    (sym c.in-None-None.is-1 ∙ c.lines_for-lines.ensures.hash)

pub returns-in-None-None-clause-text : goal.returns-in-None-None-clause-text
returns-in-None-None-clause-text c =
    sym (append-nil c.args.out.now.items)
    ∙ ap (λ (l : List Line). c.args.out.now.items ++ text_of l) (unasked c)

pub returns-in-None-None-clause-count : goal.returns-in-None-None-clause-count
returns-in-None-None-clause-count c = ap (λ (l : List Line). length l) (unasked c)

-- the records of the lines that ask
asked : (c : goal.After-push_records) → lines_of c.args.site.now.number c.args.place
    c.args.event.now.who c.args.site.now.file.now.path c.digest_now-digest.result
    c.lines_for-lines.result.0 c.lines_for-lines.result.1
    ≡ event_lines c.args.context.now c.args.site.now c.args.place c.args.walk.now c.args.event.now
asked c =
    ap (λ (d : Digest). lines_of c.args.site.now.number c.args.place c.args.event.now.who
    c.args.site.now.file.now.path d c.lines_for-lines.result.0 c.lines_for-lines.result.1)
    c.digest_now-digest.ensures.digest
    ∙ of_check c.args.context.now c.args.site.now c.args.place c.args.walk.now c.args.event.now.who
    c.args.event.now.deed c.args.event.now.told c.in-Check.file c.in-Check.func c.in-Check.action
    c.in-Check.rules c.lines_for-lines.result.0 c.lines_for-lines.result.1 c.in-Check.is
    c.lines_for-lines.ensures.audit c.lines_for-lines.ensures.hash

pub returns-clause-text : goal.returns-clause-text
returns-clause-text c =
    subst (λ (l : List Line). IfOk c.push_records.result
    (λ n. c.push_records.new.out.items ≡ c.args.out.now.items ++ text_of l)) (asked c)
    c.push_records.ensures.text

pub returns-clause-count : goal.returns-clause-count
returns-clause-count c =
    subst (λ (l : List Line). IfOk c.push_records.result (λ n. n ≡ length l)) (asked c)
    c.push_records.ensures.count

pub returns-clause-grows : goal.returns-clause-grows
returns-clause-grows c = c.push_records.ensures.grows

-- what holds of the walk holds with an answer too
with_answer : {T E P : Type 0} (r : Result T E) → P → OnOk r P
with_answer (Ok v) p = p
with_answer (Err x) p = tt

pub returns-clause-walk : goal.returns-clause-walk
returns-clause-walk c = with_answer c.push_records.result c.digest_now-digest.ensures.kept

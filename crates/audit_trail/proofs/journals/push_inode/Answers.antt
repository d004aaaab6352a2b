use Rattle.std.proofs.Common.{◌≡◌, ◌++◌, List, length, sym, ◌∙◌, ap, arith, subst}
use Rattle.std.specs.Prelude.{IfOk}
use Rattle.std.proofs.lemmas.List.{append-nil}
use Rattle.report_text.specs.Words.{Line}
use Rattle.world_model.specs.model.events.EndedInode.{EndedInodeValue}
use Rattle.world_model.specs.model.events.Legal.{Legal}
use Rattle.world_model.specs.model.events.NewestFirst.{newest_first}
use Rattle.world_model.specs.model.events.declared.told.Event.{Event}
use Rattle.world_model.specs.model.events.forms.Words.{text_of}
use Rattle.audit_trail.proofs.Passing.{none_numbered, numbered}
use Rattle.audit_trail.specs.Sites.{inode_at, script_file_at}
use Rattle.audit_trail.proofs.journals.push_inode.Goals as goal

-- without a file there is nothing to print
pub returns-in_default-clause-text : goal.returns-in_default-clause-text
returns-in_default-clause-text c =
    sym (ap (λ (l : List Line). c.args.out.now.items ++ text_of l)
    (none_numbered c.args.context.now c.args.number c.args.inode.now
    (sym c.in_default.ensures.file))
    ∙ append-nil c.args.out.now.items)

pub returns-in_default-clause-count : goal.returns-in_default-clause-count
returns-in_default-clause-count c =
    sym (ap (λ (l : List Line). length l)
    (none_numbered c.args.context.now c.args.number c.args.inode.now
    (sym c.in_default.ensures.file)))

pub returns-in_default-clause-grows : goal.returns-in_default-clause-grows
returns-in_default-clause-grows c = omega arith

pub site_of-requires : goal.site_of-requires
site_of-requires c = c.requires.placed

pub push_events-requires-clause-walk : goal.push_events-requires-clause-walk
push_events-requires-clause-walk c =
    c.new-walk.ensures (inode_at c.args.context.now c.in-Some.site)

pub push_events-requires-clause-legal : goal.push_events-requires-clause-legal
push_events-requires-clause-legal c =
    subst (λ (j : List Event). Legal (inode_at c.args.context.now c.in-Some.site) (newest_first j))
    (sym (c.as_slice-journal.ensures.value
    ∙ ap (λ (e : EndedInodeValue). e.journal) c.inode.view_is))
    (c.requires.legal (script_file_at c.in-Some.site) (sym c.in-Some.ensures.file))

pub returns-clause-text : goal.returns-clause-text
returns-clause-text c =
    subst (λ (l : List Line). IfOk c.push_events.result
    (λ n. c.push_events.new.out.items ≡ c.args.out.now.items ++ text_of l))
    (numbered c.args.context.now c.in-Some.site c.args.number c.args.inode.now
    c.as_slice-journal.result.now c.in-Some.ensures.number (sym c.in-Some.ensures.file)
    (c.as_slice-journal.ensures.value
    ∙ ap (λ (e : EndedInodeValue). e.journal) c.inode.view_is)) c.push_events.ensures.text

pub returns-clause-count : goal.returns-clause-count
returns-clause-count c =
    subst (λ (l : List Line). IfOk c.push_events.result (λ n. n ≡ length l))
    (numbered c.args.context.now c.in-Some.site c.args.number c.args.inode.now
    c.as_slice-journal.result.now c.in-Some.ensures.number (sym c.in-Some.ensures.file)
    (c.as_slice-journal.ensures.value
    ∙ ap (λ (e : EndedInodeValue). e.journal) c.inode.view_is)) c.push_events.ensures.count

pub returns-clause-grows : goal.returns-clause-grows
returns-clause-grows c = c.push_events.ensures.grows

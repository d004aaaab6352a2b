use Rattle.std.proofs.Common.{◌≡◌, Some, None, false, subst, ◌∙◌}
use Rattle.inode_events.specs.Files.{held}
use Rattle.inode_events.specs.NewestFirst.{newest_first}
use Rattle.inode_events.specs.Stage.{is_gone, stage}
use Rattle.inode_state.proofs.Keeping.{held_at}
use Rattle.inode_state.specs.Fields.{inode_in}
use Rattle.inode_state.specs.Value.{JournalValue}
use Rattle.inode_state.proofs.journal.InodeJournal.how_at.Goals as goal

pub returns-in-Some : goal.returns-in-Some
returns-in-Some c =
    let list = c.self.inside.journal.list in
    subst (λ (v : JournalValue). is_gone (stage v.inode c.args.file (newest_first v.list)) ≡ false
    → c.counted.result ≡ held c.args.file (newest_first v.list)) c.self.view_is
    (λ a. c.counted.ensures ∙ held_at (inode_in c.self.inside) list c.args.file (Some
    c.in-Some.e.now) c.self.invariant.legal c.in-Some.ensures.entry a)

pub returns-in-None : goal.returns-in-None
returns-in-None c =
    let list = c.self.inside.journal.list in
    subst (λ (v : JournalValue). is_gone (stage v.inode c.args.file (newest_first v.list)) ≡ false
    → None ≡ held c.args.file (newest_first v.list)) c.self.view_is
    (λ a. held_at (inode_in c.self.inside) list c.args.file None c.self.invariant.legal
    c.in-None.ensures.entry a)

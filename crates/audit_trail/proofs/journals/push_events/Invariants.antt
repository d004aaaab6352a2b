-- the walk has passed the events so far, and their records are printed
use Rattle.std.proofs.Common.{◌≡◌, ◌+◌, ◌≤◌, ◌++◌, length, take, vec_len}
use Rattle.world_model.specs.model.events.NewestFirst.{newest_first}
use Rattle.world_model.specs.model.events.forms.Words.{text_of}
use Rattle.audit_trail.specs.Sites.{inode_at, site_lines}
use Rattle.audit_trail.specs.Walk.{IsWalk}
use Rattle.audit_trail.proofs.journals.push_events.Given as goal

abbrev pub invariant-loop-place : goal.invariant-loop-place
invariant-loop-place l = record {
  walk : IsWalk (inode_at l.context l.site) (newest_first (take l.place l.journal)) l.walk;
  text : l.out.items ≡ l.initial.out.items
      ++ text_of (site_lines l.context l.site (newest_first (take l.place l.journal)));
  count : l.count ≡ length (site_lines l.context l.site (newest_first (take l.place l.journal)));
  grows : vec_len l.initial.out + l.count ≤ vec_len l.out;
}

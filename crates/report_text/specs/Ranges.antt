-- What the words of a report can show of a run: names without separators, rules that a line can
-- express, and digests of bytes.
use Rattle.std.specs.Prelude.{List, ℕ, ◌<◌, ◌^◌, IsTrue}
use Rattle.std.specs.List.{AllByRecursion}
use Rattle.hash_algos.specs.Digest.{HasDigestSize}
use Rattle.text_forms.specs.Words.{is_clean}
use Rattle.hex.specs.Hex.{IsBytes}
use Rattle.ima_templates.specs.IsEntry.{IsEntry}
use Rattle.ima_templates.specs.declared.entry.Entry.{Entry}
use Rattle.policy_text.specs.rules.RuleValue.{IsRule}
use Rattle.xattr_store.specs.Attrs.{Pair}
use Rattle.call_steps.specs.declared.reply.Reply.{Reply}
use Rattle.call_steps.specs.declared.reply.Reply.TheVariants as reply
use Rattle.policy_cell.specs.declared.cell.RuleEntry.{RuleEntry}
use Rattle.inode_events.specs.EndedInode.{EndedInodeValue as EndedInode}
use Rattle.run_model.specs.EndedValue.{EndedValue as Ended, EndedTaskValue as EndedTask}
use Rattle.inode_events.specs.declared.deed.Change.{Change}
use Rattle.inode_events.specs.declared.deed.Change.TheVariants as change
use Rattle.inode_events.specs.declared.deed.Deed.{Deed}
use Rattle.inode_events.specs.declared.deed.Deed.TheVariants as deed
use Rattle.inode_events.specs.declared.told.Event.{Event}

-- the word has neither a space nor a newline
abbrev pub IsClean : List ℕ → Type 0
IsClean w = IsTrue (is_clean w)

-- a mode is printed in at most 64 octal digits
abbrev pub IsChange : Change → Type 0
IsChange (change.Mode mode) = mode < 2 ^ 64
IsChange (change.Owner uid gid) = Unit {0}

abbrev pub IsDeed : Deed → Type 0
IsDeed (deed.SetAttr name bytes admin) = IsClean name
IsDeed (deed.SetMeta change) = IsChange change
IsDeed _ = Unit {0}

-- an entry within the ranges of its type
pub record IsListEntry (e : Entry) : Type 0 where
  pub entry : IsEntry e
  pub digest : IsBytes e.digest.bytes
  pub sig : IsBytes e.sig

pub record FitsInode (i : EndedInode) : Type 0 where
  pub path : IsClean i.path
  pub deeds : AllByRecursion (λ (e : Event). IsDeed e.deed) i.journal
  pub attrs : AllByRecursion (λ (p : Pair). IsClean p.0) i.attrs

-- the digest of a reply is as long as its algorithm asks, so its length determines the algorithm
abbrev pub IsReply : Reply → Type 0
IsReply (reply.Bytes n digest) = HasDigestSize digest × IsBytes digest.bytes
IsReply _ = Unit {0}

pub record Fits (e : Ended) : Type 0 where
  pub names : AllByRecursion (λ (x : Entry). IsClean x.name) e.list
  pub rules : AllByRecursion (λ (r : RuleEntry). IsRule r.rule) e.rules
  pub inodes : AllByRecursion FitsInode e.inodes
  pub replies : AllByRecursion (λ (t : EndedTask). AllByRecursion IsReply t.replies) e.tasks

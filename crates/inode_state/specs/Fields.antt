-- The invariant of a journal's fields.
use Rattle.std.specs.Prelude.{◌≡◌, ℕ, ◌-◌, ◌<◌, min, map, All, [], ◌∷◌, vec_len, vec_capacity}
use Rattle.grow_list.specs.Shown.{Grown, Passed}
use Rattle.inode_events.specs.Callers.{caller_of}
use Rattle.inode_events.specs.Inode.{Inode}
use Rattle.inode_events.specs.Legal.{Legal}
use Rattle.inode_events.specs.NewestFirst.{newest_first}
use Rattle.inode_events.specs.declared.told.Event.{Event}
use Rattle.inode_state.specs.State.{IsState}
use Rattle.inode_state.specs.declared.state.State.{State}
use Rattle.journal_laws.specs.Own.{IsOwned}
use Rattle.inode_state.specs.Value.{JournalValue, birth_in}
use Rattle.inode_state.specs.declared.journal.InodeJournal.TheInside.{Inside}

abbrev pub inode_in : Inside → Inode
inode_in c = record { path = c.path; settings = c.settings; birth = birth_in c.journal.list }

-- the number of further events for which both the list and the verdicts have room
abbrev pub spare_in : Inside → ℕ
spare_in c = min c.journal.spare (vec_capacity c.state.verdicts.kept - vec_len
    c.state.verdicts.kept)

abbrev pub value_of : Inside → JournalValue
value_of c = record {
  inode = inode_in c;
  name = c.journal.name;
  callers = c.journal.callers;
  spare = spare_in c;
  list = c.journal.list;
}

pub record Keeps (inode : Inode) (g : Grown Event) (own : Passed Event) (s : State) : Type 0 where
  -- the journal is legal
  pub legal : Legal inode (newest_first g.list)
  -- each event was added by the pass of its caller
  pub numbers : g.numbers ≡ map caller_of g.list
  -- each event on a file is by the caller who counted that file
  pub owned : IsOwned (newest_first g.list)
  -- the journal's own pass has the number 0
  pub own_name : own.name ≡ g.name
  pub own_number : own.number ≡ 0
  -- the own pass has added only the birth
  pub birth : Event
  pub own_mine : own.mine ≡ (0, birth) ∷ []
  -- each event is by one of the callers
  pub within : All (λ e. caller_of e < g.callers) g.list
  -- the state is the one that the journal defines
  pub state : IsState inode (newest_first g.list) s

abbrev pub FieldsAgree : Inside → Type 0
FieldsAgree c = Keeps (inode_in c) c.journal c.own c.state

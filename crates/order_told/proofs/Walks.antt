-- Journals that are walked event by event.
use Rattle.std.proofs.Common.{◌≡◌, ℕ, ◌≤◌, List, length, take, ap}
use Rattle.std.proofs.lemmas.List.{length-reverse, take_all}
use Rattle.inode_events.specs.NewestFirst.{newest_first}
use Rattle.inode_events.specs.declared.told.Event.{Event}

-- the whole journal
pub past_all : (journal : List Event) (k : ℕ) → length journal ≤ k
    → newest_first (take k journal) ≡ newest_first journal
past_all journal k le = ap newest_first (take_all k journal le)

pub length_past : (journal : List Event) → length (newest_first journal) ≡ length journal
unfolding newest_first
length_past journal = length-reverse journal

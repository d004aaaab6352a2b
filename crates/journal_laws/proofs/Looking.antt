-- What the entries of a pass imply once the pass has looked.
use Rattle.std.proofs.Common.{◌≡◌, ◌<◌, ℕ, length, sym, ◌∙◌, ap, subst}
use Rattle.std.specs.Prelude.{All, reverse}
use Rattle.inode_events.specs.NewestFirst.{newest_first}
use Rattle.inode_events.specs.Stage.{is_collecting, is_gone, stage_in}
use Rattle.inode_events.specs.declared.told.Event.{Event}
use Rattle.journal_laws.specs.Own.{MayByOwn, check_in, own_past}
use Rattle.journal_laws.specs.OwnLaws.{LookTells}
use Rattle.journal_laws.proofs.Bridge.{own_bridge}
use Rattle.journal_laws.proofs.Doing.{may_own}
use Rattle.journal_laws.proofs.Owning.{check_own, file_own}
use Rattle.journal_laws.proofs.Seeing.{collection_seen}

-- the law, in the order of the journal
pub tells : LookTells
tells i n seen list mine legal owned before own =
    let same : own_past n (newest_first list) ≡ reverse mine = own_bridge n list
    ∙ ap reverse own in record {
      may = λ d m. may_own i n (newest_first list) d legal owned
          (subst (λ xs. MayByOwn i xs d) (sym same) m);
      check = λ file a.
          check_own n file (newest_first list) owned
          (file_own i n file (newest_first list) owned
          (ap (λ xs. is_gone (stage_in i file xs)) same ∙ a)) ∙ ap (check_in file) same;
      collection = λ file below busy.
          collection_seen i n file seen list legal owned before
          (subst (All (λ (x : ℕ × Event). x.0 < length seen)) (sym own) below)
          (ap (λ xs. is_collecting (stage_in i file xs)) same ∙ busy);
    }

-- A file that isn't gone is held in the way that its count says.
use Rattle.std.proofs.Common.{◌≡◌, ◌≢◌, ℕ, ◌<◌, suc, Bool, true, false, List, [], ◌∷◌, length, Some, refl, ◌∙◌, arith}
use Rattle.std.specs.Prelude.{◌==◌}
use Rattle.std.proofs.lemmas.Bool.{cond-false, cond-true, eq-eqb, eqb-true}
use Rattle.inode_meta.specs.declared.step.Who.{Who}
use Rattle.inode_events.specs.Files.{counted, held}
use Rattle.inode_events.specs.Inode.{Inode}
use Rattle.inode_events.specs.Legal.{EachFollows, Follows}
use Rattle.inode_events.specs.Stage.{stage, next_stage, is_gone}
use Rattle.inode_events.specs.declared.deed.Deed.{Deed}
use Rattle.inode_events.specs.declared.deed.Deed.TheVariants as deed
use Rattle.inode_events.specs.declared.deed.How.{How}
use Rattle.inode_events.specs.declared.told.Event.{Event}
use Rattle.inode_events.specs.declared.told.Told.{Told}
use Rattle.inode_events.specs.declared.told.Told.TheVariants as told
use Rattle.journal_laws.specs.Standing.{IsHeldAsCounted, event_at}
use Rattle.journal_laws.proofs.Guards.{held_same}
use Rattle.journal_laws.proofs.Lives.{Lives, alive_before, alive_kept, lives}
use Rattle.journal_laws.proofs.Small.{event}

-- a file named by the newest event's place was counted by that event, if it isn't gone
newest : (i : Inode) (p : List Event) (who : Who) (d : Deed) (t : Told) (f : ℕ)
    → Follows i p who d t → Lives i p → length p ≡ f
    → is_gone (next_stage i f (length p) d t (stage i f p)) ≡ false → (how : How)
    × ((counted d t ≡ Some how) × (held f (event who d t ∷ p) ≡ Some how))
newest i p who (deed.Count how) told.Held f h v e a =
    (how, (refl, cond-true (length p == f) (Some how) (held f p) (eq-eqb (length p) f e)))
newest i p who d t f h v e a =
    let b : f < length p = (v f (alive_kept i p who d t h refl f a)).0 in absurd (omega arith)

-- a test isn't both true and false
not_both : (b : Bool) → b ≡ true → b ≡ false → ⊥
not_both b y n = cc

-- a file at another place than the newest event's is in the journal before
older : (f place : ℕ) → f < suc place → (place == f) ≡ false → f < place
older f place l ne =
    let apart : place ≢ f = λ e. not_both (place == f) (eq-eqb place f e) ne in omega arith

-- the law, by induction on the newest event
pub held_counted : (i : Inode) (f : ℕ) (p : List Event) → EachFollows i p
    → is_gone (stage i f p) ≡ false → IsHeldAsCounted f p
held_counted i f [] h a = absurd (cc)
held_counted i f (x ∷ p) h a = at (held_counted i f p h.1) (length p == f) refl where
  now : (length p == f) ≡ true → (how : How)
      × ((counted x.deed x.told ≡ Some how) × (held f (x ∷ p) ≡ Some how))
      → IsHeldAsCounted f (x ∷ p)
  now q r =
      record {
        count = x;
        how = r.0;
        stands = cond-true (length p == f) (Some x)
            (event_at f p) q;
        said = r.1.0;
        holds = r.1.1;
      }

  before : (length p == f) ≡ false → held f (x ∷ p) ≡ held f p → IsHeldAsCounted f p
      → IsHeldAsCounted f (x ∷ p)
  before q same r =
      record {
        count = r.count;
        how = r.how;
        stands = cond-false (length p == f) (Some x)
            (event_at f p) q ∙ r.stands;
        said = r.said;
        holds = same ∙ r.holds;
      }

  at : (is_gone (stage i f p) ≡ false → IsHeldAsCounted f p) → (b : Bool) → (length p == f) ≡ b
      → IsHeldAsCounted f (x ∷ p)
  at ih true q =
      now q (newest i p x.who x.deed x.told f h.0 (lives i p h.1) (eqb-true (length p) f q) a)
  at ih false q =
      let b : f < length p = older f (length p) (lives i (x ∷ p) h f a).0 q in
      before q (held_same i p x.who x.deed x.told f b a)
      (ih (alive_before i p x.who x.deed x.told h.0 f b a))

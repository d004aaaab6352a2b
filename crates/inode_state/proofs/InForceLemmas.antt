-- The digest in force after one more event.
use Rattle.std.proofs.Common.{◌≡◌, Bool, true, false, ◌&&◌, ◌||◌, cond, List, ◌∷◌, Option, Some, None, refl, sym, ◌∙◌, ap}
use Rattle.std.specs.Prelude.{not, option_map}
use Rattle.std.proofs.lemmas.Option.{same_Some}
use Rattle.inode_meta.specs.declared.step.Who.{Who}
use Rattle.inode_events.specs.Inode.{Inode}
use Rattle.inode_events.specs.Integrity as journal
use Rattle.inode_events.specs.Integrity.{Collection, collecting, digests_of, in_force, is_stale, voids_digest}
use Rattle.inode_events.specs.State.{is_last_drop, new, versions}
use Rattle.inode_events.specs.declared.deed.Deed.{Deed}
use Rattle.inode_events.specs.declared.deed.Deed.TheVariants as deed
use Rattle.inode_events.specs.declared.told.Event.{Event}
use Rattle.inode_events.specs.declared.told.Told.{Told}
use Rattle.inode_events.specs.declared.told.Told.TheVariants as told
use Rattle.journal_laws.proofs.Small.{event}
use Rattle.inode_state.specs.Collecting.{Short, short_of, short_seen, shortened, shorts_seen}
use Rattle.inode_state.specs.InForce.{AreSums, in_force_after_lem, in_force_next, digests_seen, given_now, in_force_seen, stale_now, sums_of, voids_now}
use Rattle.inode_state.specs.Marks.{AreMarks}
use Rattle.inode_state.specs.State.{changed_now}
use Rattle.inode_state.specs.Writes.{AreWrites}
use Rattle.inode_state.specs.declared.collecting.Collecting.{Collecting}
use Rattle.inode_state.specs.declared.in_force.InForce.{InForce}
use Rattle.inode_state.specs.declared.in_force.Sums.{Sums}
use Rattle.inode_state.specs.declared.marks.Marks.{Marks}
use Rattle.inode_state.specs.declared.writes.Writes.{Writes}

stale_same : (p : List Event) (w : Writes) → AreWrites p w → (f : Option InForce)
    → stale_now f w.last ≡ is_stale (in_force_seen f) p
stale_same p w h None = refl
stale_same p w h (Some f) = sym (h.since f.begin)

-- the state and the journal agree on whether the content counts as changed
pub changed_same : (i : Inode) (p : List Event) (m : Marks) (w : Writes) (f : Option InForce)
    → AreMarks p m → AreWrites p w → in_force_seen f ≡ in_force i p
    → changed_now m w f ≡ (new p || not (versions p) || is_stale (in_force i p) p)
changed_same i p m w f a b c =
    ap (λ (x : Bool). x || not m.versions || stale_now f w.last) a.new
    ∙ ap (λ (x : Bool). new p || not x || stale_now f w.last) a.versions
    ∙ ap (λ (x : Bool). new p || not (versions p) || x) (stale_same p w b f
    ∙ ap (λ (x : Option journal.Digests). is_stale x p) c)

-- the state and the journal agree on which events void the digest
pub voids_same : (d : Deed) (t : Told) (p : List Event) (f : Option journal.Digests) (drop changed
    : Bool) → drop ≡ is_last_drop d t p
    → changed ≡ (new p || not (versions p) || is_stale f p)
    → voids_now d t drop changed ≡ voids_digest d t p f
voids_same (deed.SetAttr name bytes admin) told.Done p f drop changed a b = refl
voids_same (deed.Take file) (told.Grant grant) p f drop changed a b = refl
voids_same (deed.Finish file) (told.Grant grant) p f drop changed a b = refl
voids_same (deed.CloseFinish file) told.LabelledDropped p f drop changed a b = refl
voids_same d t p f drop changed a b = ap (λ (x : Bool). x && changed) a
    ∙ ap (λ (x : Bool). is_last_drop d t p && x) b

-- the digests given are those of the collection that ends
given_same : (c : Option Collecting) (k : Option Collection) (sums : Option Sums)
    → shorts_seen c ≡ shortened k → option_map sums_of k ≡ sums
    → in_force_seen (given_now c sums) ≡ option_map digests_of k
given_same None None sums e s = refl
given_same None (Some k) sums e s = cc
given_same (Some c) None sums e s = cc
given_same (Some c) (Some k) None e s = cc
given_same (Some c) (Some k) (Some sums) e s =
    ap (λ (x : Sums). Some (digests_seen (record { sums = x; begin = c.begin }))) (sym (same_Some
    (sums_of k) sums s))
    ∙ ap (λ (x : Short). Some (digests_seen (record { sums = sums_of k; begin = x.begin })))
    (same_Some (short_seen c) (short_of k) e)

next_same : (i : Inode) (p : List Event) (d : Deed) (t : Told) (c : Option Collecting) (sums :
    Option Sums) (old : Option InForce)
    → shorts_seen c ≡ shortened (collecting i p) → AreSums i d p sums
    → in_force_seen old ≡ in_force i p
    → in_force_seen (in_force_next d t c sums old) ≡ journal.digests_given d t (journal.integrity i
    p)
next_same i p (deed.Finish file) (told.Grant grant) c sums old e s h = given_same c (collecting i
    p) sums e s
next_same i p d t c sums old e s h = h

pub in_force_on : (i : Inode) (p : List Event) (who : Who) (d : Deed) (t : Told) (voids : Bool) (c
    : Option Collecting) (sums : Option Sums) (old : Option InForce)
    → voids ≡ voids_digest d t p (in_force i p) → shorts_seen c ≡ shortened (collecting i p)
    → AreSums i d p sums → in_force_seen old ≡ in_force i p
    → in_force_seen (in_force_after_lem d t voids c sums old) ≡ in_force i (event who d t ∷ p)
in_force_on i p who d t voids c sums old v e s h = at voids
    ∙ ap (λ (x : Bool). cond x None (journal.digests_given d t (journal.integrity i p))) v where
      at : (b : Bool) → in_force_seen (in_force_after_lem d t b c sums old) ≡ cond b None
          (journal.digests_given d t (journal.integrity i p))
      at true = refl
      at false = next_same i p d t c sums old e s h

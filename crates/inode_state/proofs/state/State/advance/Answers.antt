use Rattle.std.proofs.Common.{◌≡◌, ℕ, List, ◌∷◌, length, Option, sym, ◌∙◌, ap, subst}
use Rattle.inode_events.specs.Integrity.{in_force}
use Rattle.inode_events.specs.State.{metadata_after}
use Rattle.inode_events.specs.declared.told.Event.{Event}
use Rattle.inode_meta.specs.declared.identity.Meta.{Meta}
use Rattle.inode_state.specs.Collecting.{HasAsked, collecting_next, shorts_seen}
use Rattle.inode_state.specs.InForce.{in_force_after_lem, in_force_seen}
use Rattle.inode_state.specs.Verdicts.{AreVerdicts}
use Rattle.inode_state.specs.declared.collecting.Collecting.{Collecting}
use Rattle.inode_state.specs.declared.in_force.InForce.{InForce}
use Rattle.inode_state.specs.declared.verdicts.KeyedVerdict.{KeyedVerdict}
use Rattle.inode_state.proofs.CollectingLemmas.{asked_on, collecting_on}
use Rattle.inode_state.proofs.InForceLemmas.{changed_same, in_force_on, voids_same}
use Rattle.inode_state.proofs.VerdictsLemmas.{verdicts_on}
use Rattle.inode_state.proofs.state.State.advance.Goals as goal

pub returns : goal.returns
returns c = λ i p place follows facts s.
    let e : Event = c.args.e.now in
    let k = c.args.facts.now in
    let old = c.args.self.now in
    let last = c.is_last_drop-last.ensures p s.counts.writers in
    let changed = c.is_changed.ensures ∙ changed_same i p old.marks old.writes old.in_force s.marks
    s.writes s.in_force in
    let voids = c.voids_digest-voids.ensures
    ∙ voids_same e.deed e.told p (in_force i p) c.is_last_drop-last.result c.is_changed.result
    last changed in
    let place_is : c.collecting_after-self.result ≡ collecting_next e.deed e.told (length p) k.algo
    k.asked old.collecting =
    c.collecting_after-self.ensures
    ∙ ap (λ (o : Option Collecting). collecting_next e.deed e.told c.args.place k.algo k.asked o)
    c.take-collecting.ensures.value
    ∙ ap (λ (n : ℕ). collecting_next e.deed e.told n k.algo k.asked old.collecting) place in
    let in_force_is : c.in_force_after-self.result ≡ in_force_after_lem e.deed e.told
    c.voids_digest-voids.result old.collecting k.sums old.in_force =
    c.in_force_after-self.ensures ∙ ap (λ (o : Option InForce). in_force_after_lem e.deed e.told
    c.voids_digest-voids.result old.collecting k.sums o) c.take-old.ensures.value in
    record {
      counts = c.after-self-3.ensures p s.counts facts.gone;
      marks = c.after-self-2.ensures p s.marks last facts.writing;
      writes = c.after-self.ensures p s.writes place s.counts.writers;
      meta = c.metadata_after-self.ensures ∙ ap (λ (m : Meta). metadata_after e.deed e.told m)
          s.meta;
      collecting = ap shorts_seen place_is ∙ collecting_on i p e.who e.deed e.told k.algo k.asked
          old.collecting facts.algo facts.asked s.collecting;
      asked = subst (λ (o : Option Collecting). HasAsked (e ∷ p) o) (sym place_is) (asked_on i p
          e.who e.deed e.told k.algo k.asked old.collecting follows.0 follows.1 facts.asked
          s.collecting s.asked);
      in_force = ap in_force_seen in_force_is
          ∙ in_force_on i p e.who e.deed e.told c.voids_digest-voids.result old.collecting k.sums
          old.in_force voids s.collecting facts.sums s.in_force;
      verdicts = subst (λ (vs : List KeyedVerdict). AreVerdicts i (e ∷ p) vs)
          (sym c.advance.ensures)
          (verdicts_on i p e.who e.deed e.told c.voids_digest-voids.result k.asked
          old.verdicts.kept.items follows.0 voids facts.asked s.verdicts);
    }

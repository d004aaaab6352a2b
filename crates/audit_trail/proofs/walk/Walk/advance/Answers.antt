use Rattle.std.proofs.Common.{◌≡◌, ℕ, Bool, cond, List, Option, None, ◌∙◌, ap, subst, sym}
use Rattle.std.specs.Prelude.{option_map}
use Rattle.world_model.specs.model.events.State.{content_after}
use Rattle.world_model.specs.model.events.declared.deed.Deed.{Deed}
use Rattle.world_model.specs.model.events.declared.told.Told.{Told}
use Rattle.world_model.specs.model.events.hashes.declared.digest.Digest.{Digest}
use Rattle.audit_trail.proofs.Stepping.{kept_on}
use Rattle.audit_trail.specs.Steps.{IsKeptOf, attrs_after, finished_after, left_after, sets_content, taken_digest}
use Rattle.audit_trail.specs.TakenValue.{TakenValue}
use Rattle.audit_trail.specs.Walk.{finished_by, gathered_by}
use Rattle.audit_trail.proofs.walk.Walk.advance.Goals as goal

pub returns : goal.returns
returns c =
    let d : Deed = c.args.event.now.deed in
    let t : Told = c.args.event.now.told in
    let gathered : c.gather.new.collecting
    ≡ gathered_by c.args.settings.now c.args.event.now c.args.self.now = c.in_ok-gather.ensures in
    let finished : c.finish.new.finished
    ≡ finished_by c.args.settings.now c.args.event.now c.args.self.now =
    c.finish.ensures.finished
    ∙ ap (λ (o : Option TakenValue). finished_after d t o c.args.self.now.finished) gathered in
    let digest : c.unless-self.result
    ≡ cond (sets_content c.args.event.now.deed c.args.event.now.told) None c.rewrite.new.kept =
    c.unless-self.ensures
    ∙ ap (λ (b : Bool). cond b None c.rewrite.new.kept) c.in_ok-changed.ensures.changed in
    let kept : IsKeptOf (content_after c.args.event.now.deed c.args.event.now.told
    c.args.self.now.content)
    (cond (sets_content c.args.event.now.deed c.args.event.now.told) None c.rewrite.new.kept) =
    kept_on c.args.self.now.content c.rewrite.new.kept c.in_ok-rewrite.ensures.kept d t in
    record {
      content = c.in_ok-changed.ensures.content;
      attrs = c.in_ok-rewrite.ensures.attrs
          ∙ ap (λ (o : Option TakenValue). attrs_after c.args.settings.now.evm
          c.args.self.now.meta (option_map taken_digest o) d t c.args.self.now.attrs) finished;
      meta = c.metadata_after-self.ensures;
      collecting = c.finish.ensures.collecting ∙ ap (left_after d t) gathered;
      finished = finished;
      cached = subst (λ (o : Option Digest). IsKeptOf c.write.new.content o) (sym digest)
          (subst (λ (b : List ℕ). IsKeptOf b
          (cond (sets_content c.args.event.now.deed c.args.event.now.told) None
          c.rewrite.new.kept)) (sym c.in_ok-changed.ensures.content) kept);
    }

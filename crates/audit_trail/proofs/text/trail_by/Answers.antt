use Rattle.std.proofs.Common.{List, ℕ, ◌≡◌, ◌++◌, ◌∙◌, ap}
use Rattle.world_model.specs.model.events.forms.Words.{text_of}
use Rattle.audit_trail.specs.Sites.{lines_from}
use Rattle.audit_trail.proofs.text.trail_by.Goals as goal

pub returns : goal.returns
returns c =
    let body : c.as_slice.result.now ≡ text_of (lines_from c.args.context.now 0 c.args.inodes.now) =
    c.as_slice.ensures.value ∙ c.in_ok-count.ensures.text
    ∙ ap (λ (l : List ℕ). l ++ text_of (lines_from c.args.context.now 0 c.args.inodes.now))
    c.new-lines.ensures.items in
    c.trail_with.ensures (lines_from c.args.context.now 0 c.args.inodes.now)
    c.in_ok-count.ensures.count body

-- The drawing is that of the inode that was found.
use Rattle.std.proofs.Common.{◌≡◌, ℕ, List, Option, ap, sym, subst, ◌∙◌}
use Rattle.view_pages.specs.drawn.Drawing.{svg_of}
use Rattle.view_pages.specs.drawn.page.Pieces.{page_of}
use Rattle.view_pages.specs.journals.reading.Report.{InodeValue}
use Rattle.view_pages.specs.journals.reading.words.declared.event.Event.{Event}
use Rattle.view_top.specs.Answer.{Page, drawn_by}
use Rattle.view_top.proofs.answer.drawing.Goals as goal

pub returns-in_ok-svg-in-Some : goal.returns-in_ok-svg-in-Some
returns-in_ok-svg-in-Some c =
    let text = c.args.text.now in
    let range = c.args.asked.range in
    let found = c.in-Some.inode.now in
    let items = c.in_ok-svg-in-Some.field-0.items in
    let by : ℕ → List Event → List ℕ =
    λ (n : ℕ) (events : List Event). page_of text (svg_of n events range) in
    let events_are : c.deref.result.now ≡ found.events =
    c.deref.ensures.value ∙ ap (λ (v : InodeValue). v.events) c.inode.view_is in
    let is : items ≡ by c.args.asked.inode found.events =
    c.in_ok-svg-in-Some.ensures
    ∙ ap (λ (n : ℕ). by n c.deref.result.now) c.from-number.ensures
    ∙ ap (λ (events : List Event). by c.args.asked.inode events) events_are in
    subst (λ (o : Option InodeValue).
    drawn_by (λ (i : InodeValue). by c.args.asked.inode i.events) o ≡ Page items)
    c.in-Some.ensures.inode (ap (λ (l : List ℕ). Page l) (sym is))

use Rattle.std.proofs.Common.{◌≡◌, List, take, ap, ◌∙◌, arith}
use Rattle.std.proofs.lemmas.List.{take_all}
use Rattle.std.specs.List.{flat_map}
use Rattle.view_page.specs.journals.reading.words.declared.event.Span.{Span}
use Rattle.view_tables.specs.Tables.{register}
use Rattle.view_page.proofs.about_journals.Firsts.{first_so_many}
use Rattle.view_page.proofs.Joined.{as_parts, no_parts, one_more}
use Rattle.view_tables.proofs.tables.push_register_rows.Goals as goal

pub loop-line-init : goal.loop-line-init
loop-line-init c = no_parts c.args.text.now c.args.out.now.items

pub loop-line-preserved : goal.loop-line-preserved
loop-line-preserved c =
    one_more (register c.args.text.now) (take c.min.result c.args.lines.now) c.loop-line.line-index
    (record { at = 0; len = 0 }) c.loop-line-test.true c.loop-line.invariant
    c.in_ok-push_register.ensures

pub returns : goal.returns
returns c =
    let first : List Span = take c.min.result c.args.lines.now in
    let all : take c.loop-line.line-index first ≡ first
    = take_all c.loop-line.line-index first c.loop-line-test.false in
    as_parts c.loop-line.invariant
    (ap (λ (lines : List Span). flat_map (register c.args.text.now) lines)
    (all ∙ first_so_many c.args.lines.now 48 c.min.result (omega (arith, c.min.ensures))))

-- The parts of a report are those of its fields.
use Rattle.std.proofs.Common.{◌≡◌, List, ap, ◌∙◌, subst}
use Rattle.std.specs.Prelude.{OnOk}
use Rattle.view_page.specs.journals.reading.Report.{InodeValue, ReportValue, TaskValue}
use Rattle.view_page.specs.journals.reading.words.declared.event.Span.{Span}
use Rattle.view_pages.specs.Page.{tables_by}
use Rattle.view_page.specs.Parts.{Pushed}
use Rattle.view_pages.proofs.page.push_tables.Goals as goal

pub returns : goal.returns
returns c =
    let r = c.args.report.now in
    let inodes_are : c.deref.result.now ≡ r.inodes =
    c.deref.ensures.value ∙ ap (λ (v : ReportValue). v.inodes) c.report.view_is in
    let entries_are : c.deref-2.result.now ≡ r.entries =
    c.deref-2.ensures.value ∙ ap (λ (v : ReportValue). v.entries) c.report.view_is in
    let registers_are : c.deref-3.result.now ≡ r.registers =
    c.deref-3.ensures.value ∙ ap (λ (v : ReportValue). v.registers) c.report.view_is in
    let rules_are : c.deref-4.result.now ≡ r.rules =
    c.deref-4.ensures.value ∙ ap (λ (v : ReportValue). v.rules) c.report.view_is in
    let tasks_are : c.deref-5.result.now ≡ r.tasks =
    c.deref-5.ensures.value ∙ ap (λ (v : ReportValue). v.tasks) c.report.view_is in
    subst
    (λ (x : List InodeValue × (List Span × (List Span × (List Span × List TaskValue)))).
    OnOk c.push_tables_by.result (Pushed c.args.text.now c.args.out.now.items
    c.push_tables_by.new.out.items (tables_by c.args.text.now c.args.side c.args.shown.now
    x.0 x.1.0 x.1.1.0 x.1.1.1.0 x.1.1.1.1)))
    (λ k. (inodes_are k, (entries_are k, (registers_are k, (rules_are k, tasks_are k)))))
    c.push_tables_by.ensures

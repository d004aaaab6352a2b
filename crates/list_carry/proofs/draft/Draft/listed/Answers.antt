-- The file is added if there is room for it.
use Rattle.std.proofs.lemmas.Result.{err_from_is_err_and}
use Rattle.list_carry.proofs.LineLemmas.{with_listed-filed, with_listed-refused}
use Rattle.list_carry.proofs.draft.Draft.listed.Goals as goal

pub returns-in_err-self-inside : goal.returns-in_err-self-inside
returns-in_err-self-inside c =
    let p = err_from_is_err_and c.from_residual.result c.from_residual.ensures.1 in
    rw (p.1, p.2) (with_listed-refused c.args.file c.args.self.now c.in_err-self-inside.field-0.0
    (rw c.as_slice.ensures.bytes at c.in_err-self-inside.ensures))

pub returns : goal.returns
returns c =
    with_listed-filed c.args.file c.args.self.now c.in_ok-self-inside.field-0 c.self.inside
    c.push.new.self.items (rw c.as_slice.ensures.bytes at c.in_ok-self-inside.ensures)
    c.self.view_is c.in_ok-push.ensures.items

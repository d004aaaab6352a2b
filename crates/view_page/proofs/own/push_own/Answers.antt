use Rattle.view_page.proofs.own.push_own.Goals as goal

pub returns-in-Some : goal.returns-in-Some
returns-in-Some c = rw c.in-Some.ensures at c.push_all.ensures

pub returns-in-None : goal.returns-in-None
returns-in-None c = rw c.in-None.ensures c.push_rules.ensures

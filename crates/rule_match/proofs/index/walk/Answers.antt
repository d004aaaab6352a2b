use Rattle.std.proofs.Common.{◌+◌, sym, rules}
use Rattle.rule_match.proofs.Steps.{found_all, goes_on, next_found, next_within, walked}
use Rattle.rule_match.proofs.index.walk.Goals as goal

pub bounds-rules-line : goal.bounds-rules-line
bounds-rules-line c = next_within c.args.rules.now c.args.a.now c.loop-line.candidates
    c.loop-line.found c.loop-line.invariant c.in-Some.line c.in-Some.ensures

pub returns-then-is_complete : goal.returns-then-is_complete
returns-then-is_complete c =
    found_all c.args.rules.now c.args.a.now (c.in-Some.line + 1) c.with-found.result
    (sym c.if-is_complete.ensures)
    (next_found c.args.rules.now c.args.a.now c.loop-line.candidates c.loop-line.found
    c.loop-line.invariant c.in-Some.line c.index-rules-line.result c.with-found.result
    c.in-Some.ensures c.index-rules-line.is c.with-found.ensures)

pub loop-line-smaller : goal.loop-line-smaller
loop-line-smaller c =
    (goes_on c.args.rules.now c.args.a.now c.loop-line.candidates c.loop-line.found
    c.loop-line.invariant c.in-Some.line c.index-rules-line.result c.after-candidates.result
    c.with-found.result
    c.in-Some.ensures c.index-rules-line.is c.with-found.ensures c.after-candidates.ensures.both
    c.after-candidates.ensures.func c.after-candidates.ensures.magic
    c.after-candidates.ensures.neither).0

pub loop-line-preserved : goal.loop-line-preserved
loop-line-preserved c =
    (goes_on c.args.rules.now c.args.a.now c.loop-line.candidates c.loop-line.found
    c.loop-line.invariant c.in-Some.line c.index-rules-line.result c.after-candidates.result
    c.with-found.result
    c.in-Some.ensures c.index-rules-line.is c.with-found.ensures c.after-candidates.ensures.both
    c.after-candidates.ensures.func c.after-candidates.ensures.magic
    c.after-candidates.ensures.neither).1

pub returns : goal.returns
returns c = walked c.args.rules.now c.args.a.now c.loop-line.candidates c.loop-line.found
    c.loop-line.invariant (search rules)

pub offset_bounds-rules-line : goal.offset_bounds-rules-line
offset_bounds-rules-line c =
    let within = next_within c.args.rules.now c.args.a.now c.loop-line.candidates c.loop-line.found
    c.loop-line.invariant c.in-Some.line c.in-Some.ensures in search (rules, within)

use Rattle.std.proofs.Common.{◌≡◌, ◌+◌, ◌-◌, ◌/◌, ap, length, min, arith}
use Rattle.std.specs.Int.{div_ceil}
use Rattle.inode_pages.proofs.Changes.{after_write}
use Rattle.inode_pages.proofs.content.Content.overwrite.Goals as goal

pub invariant_of-self-2 : goal.invariant_of-self-2
invariant_of-self-2 c =
    let start : c.min-first.result ≡ min c.args.from (length c.args.self.now) = omega arith in
    let count : length c.in_ok-pages.pages.items
    ≡ div_ceil (c.args.from + length c.args.b.now) 4096 - c.min-first.result / 4096 =
    omega (arith, c.in_ok-pages.ensures.count) in
    (after_write c.args.self.now c.args.b.now c.self.inside.pages.items c.reserve.new.self.items
    c.in_ok-pages.pages.items c.put_all.new.pages.items
    c.args.from (c.min-first.result / 4096) c.self.view_is c.self.invariant c.reserve.ensures.items
    (ap (λ n. n / 4096) start) count
    (λ j below. c.in_ok-pages.ensures.each j (omega (arith, c.in_ok-pages.ensures.count)))
    c.requires.small c.put_all.ensures).0

pub returns-clause-ok : goal.returns-clause-ok
returns-clause-ok c =
    let start : c.min-first.result ≡ min c.args.from (length c.args.self.now) = omega arith in
    let count : length c.in_ok-pages.pages.items
    ≡ div_ceil (c.args.from + length c.args.b.now) 4096 - c.min-first.result / 4096 =
    omega (arith, c.in_ok-pages.ensures.count) in
    (after_write c.args.self.now c.args.b.now c.self.inside.pages.items c.reserve.new.self.items
    c.in_ok-pages.pages.items c.put_all.new.pages.items
    c.args.from (c.min-first.result / 4096) c.self.view_is c.self.invariant c.reserve.ensures.items
    (ap (λ n. n / 4096) start) count
    (λ j below. c.in_ok-pages.ensures.each j (omega (arith, c.in_ok-pages.ensures.count)))
    c.requires.small c.put_all.ensures).1

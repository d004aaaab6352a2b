use Rattle.std.proofs.Common.{◌≡◌, ◌+◌, ◌++◌, length, take, drop}
use Rattle.std.specs.Vec.{vec_capacity}
use Rattle.inode_pages.proofs.content.put_all.Given as goal

abbrev pub invariant-loop-page : goal.invariant-loop-page
invariant-loop-page l = record {
  split : l.fn.new.items ≡ l.yielded ++ l.page-iterator.rest.items;
  place : l.k ≡ l.fn.first + length l.yielded;
  items : l.pages.items ≡ take l.fn.first l.initial.pages.items ++ l.yielded
      ++ drop l.k l.initial.pages.items;
  room : vec_capacity l.pages ≡ vec_capacity l.initial.pages;
}

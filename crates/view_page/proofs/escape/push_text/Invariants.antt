use Rattle.std.proofs.Common.{◌≡◌, ◌++◌, take}
use Rattle.view_page.specs.Escape.{escaped}
use Rattle.view_page.proofs.escape.push_text.Given as goal

-- the bytes so far have been appended
abbrev pub invariant-loop-byte : goal.invariant-loop-byte
invariant-loop-byte l = l.out.items ≡ l.fn.out.items ++ escaped (take l.byte-index l.text)

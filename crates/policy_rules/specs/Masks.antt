-- The bits of an access mask, as the kernel numbers them.
use Rattle.std.specs.Prelude.{ℕ}

abbrev pub may_exec : ℕ
may_exec = 1

abbrev pub may_write : ℕ
may_write = 2

abbrev pub may_read : ℕ
may_read = 4

abbrev pub may_append : ℕ
may_append = 8

-- The exit statuses of the program.
use Rattle.std.specs.Prelude.{ℕ}

-- the page was written whole
abbrev pub done : ℕ
done = 0

-- the words ask for nothing that the program has
abbrev pub usage : ℕ
usage = 1

-- the input isn't as many reports as the words ask for
abbrev pub refused : ℕ
refused = 2

-- the report has no such inode, or its journal has no such places
abbrev pub no_place : ℕ
no_place = 3

-- the source of the input failed
abbrev pub read_fault : ℕ
read_fault = 4

-- the sink of the page failed
abbrev pub write_fault : ℕ
write_fault = 5

-- the source gave more bytes than an input may have
abbrev pub too_long : ℕ
too_long = 6

-- memory ran out
abbrev pub out_of_memory : ℕ
out_of_memory = 7

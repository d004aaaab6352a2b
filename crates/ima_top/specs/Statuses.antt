-- The exit statuses of the program.
use Rattle.std.specs.Prelude.{ℕ}

-- the command's input was read to its end and the output was written whole
abbrev pub done : ℕ
done = 0

-- the words don't name a command
abbrev pub usage : ℕ
usage = 1

-- the input isn't in the command's grammar
abbrev pub refused : ℕ
refused = 2

-- the output was written whole, but the run that it reports is stuck
abbrev pub stuck : ℕ
stuck = 3

-- the source of the input failed
abbrev pub read_fault : ℕ
read_fault = 4

-- the sink of the output failed
abbrev pub write_fault : ℕ
write_fault = 5

-- the source gave more bytes than an input may have
abbrev pub too_long : ℕ
too_long = 6

-- memory ran out
abbrev pub out_of_memory : ℕ
out_of_memory = 7

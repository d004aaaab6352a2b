-- The exit statuses of the program.
use Rattle.std.specs.Prelude.{ℕ}

-- the input was read to its end and the rows were written whole
abbrev pub done : ℕ
done = 0

-- the words are neither none, nor a number, nor a number and first turns
abbrev pub usage : ℕ
usage = 1

-- the input isn't a script
abbrev pub refused : ℕ
refused = 2

-- too many ways to begin an order, too long ones, or too many orders
abbrev pub too_many : ℕ
too_many = 3

-- the source of the input failed
abbrev pub read_fault : ℕ
read_fault = 4

-- the sink of the output failed
abbrev pub write_fault : ℕ
write_fault = 5

-- the source gave more bytes than an input may have
abbrev pub too_long : ℕ
too_long = 6

-- memory ran out
abbrev pub out_of_memory : ℕ
out_of_memory = 7

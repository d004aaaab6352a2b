use Rattle.std.proofs.Common.{arith}
use Rattle.order_told.proofs.same.DueSame.is_same.Goals as goal

pub returns-then-eq : goal.returns-then-eq
returns-then-eq c = grind arith

use Rattle.std.proofs.Common.{◌≡◌, drop}
use Rattle.view_tables.specs.Frame.{refused_in}
use Rattle.view_tables.proofs.frame.refused_in.Given as goal

abbrev pub invariant-loop-reply : goal.invariant-loop-reply
invariant-loop-reply l =
    refused_in l.n (drop l.reply-index l.replies) ≡ refused_in l.so_far l.replies

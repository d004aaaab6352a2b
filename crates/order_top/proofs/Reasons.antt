-- The status and the line of each reason.
use Rattle.std.proofs.Common.{◌≡◌, ◌≢◌, inl, inr, refl}
use Rattle.order_top.specs.NotDone.{not_done_line, not_done_status, told_of}
use Rattle.order_top.specs.Served.{IsStatus}
use Rattle.order_top.specs.declared.not_done.NotDone.{NotDone}
use Rattle.order_top.specs.declared.not_done.NotDone.TheVariants as why
use Rattle.order_top.specs.Statuses as exit

pub is_status : (w : NotDone) → IsStatus (not_done_status w)
is_status why.Usage = inr (inl refl)
is_status (why.Refused line) = inr (inr (inl refl))
is_status (why.TooMany line) = inr (inr (inr (inl refl)))
is_status why.ReadFault = inr (inr (inr (inr (inl refl))))
is_status why.WriteFault = inr (inr (inr (inr (inr (inl refl)))))
is_status why.TooLong = inr (inr (inr (inr (inr (inr (inl refl))))))
is_status why.OutOfMemory = inr (inr (inr (inr (inr (inr (inr refl))))))

-- the line is that of the status, except for those whose line depends on the input or on the words
pub line_is : (w : NotDone) → not_done_status w ≢ exit.refused
    → not_done_status w ≢ exit.too_many → not_done_line w ≡ told_of (not_done_status w)
line_is why.Usage refused many = refl
line_is (why.Refused line) refused many = absurd (refused refl)
line_is (why.TooMany line) refused many = absurd (many refl)
line_is why.ReadFault refused many = refl
line_is why.WriteFault refused many = refl
line_is why.TooLong refused many = refl
line_is why.OutOfMemory refused many = refl

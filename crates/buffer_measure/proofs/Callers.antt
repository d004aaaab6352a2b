-- The buffers of one caller of a text: their forms and their number.
use Rattle.std.proofs.Common.{◌≡◌, ℕ, ◌<◌, ◌≤◌, ◌^◌, true, ◌&&◌, not, length, Some, subst, arith}
use Rattle.std.specs.Prelude.{All, slice_get}
use Rattle.std.specs.List.{list_all, sum_by}
use Rattle.std.proofs.lemmas.List.Sums.{AllPass-from_list_all, get_or-le-sum_by}
use Rattle.std.proofs.lemmas.Option.{get_or_from_slice_get, slice_get_within}
use Rattle.script_text.specs.Forms.{is_cred}
use Rattle.script_text.proofs.Holding.{right_true}
use Rattle.buffer_text.specs.Forms.{IsBufferText, is_buffer, is_caller, lines_of}
use Rattle.buffer_text.specs.Text.{BufferValue, CallerValue}
use Rattle.buffer_measure.proofs.Lists.{all_at}

-- each buffer of a caller has its form
pub lines_formed : (t : BufferValue) (i : ℕ) (c : CallerValue) → IsBufferText t
    → slice_get t.callers i ≡ Some c → All (λ line. is_buffer line ≡ true) c.lines
lines_formed t i c forms at =
    AllPass-from_list_all is_buffer c.lines
    (right_true (is_cred c.cred && not c.cred.admin) (list_all is_buffer c.lines)
    (all_at (λ (d : CallerValue). is_caller d ≡ true) t.callers i c
    (AllPass-from_list_all is_caller t.callers forms.callers) at))

-- a caller has no more buffers than all callers together
pub lines_few : (t : BufferValue) (i : ℕ) (c : CallerValue) → IsBufferText t
    → slice_get t.callers i ≡ Some c → length c.lines < 2 ^ 32
lines_few t i c forms at =
    let below : i < length t.callers = slice_get_within t.callers i c at in
    let one : lines_of c ≤ sum_by lines_of t.callers =
    subst (λ (d : CallerValue). lines_of d ≤ sum_by lines_of t.callers)
    (get_or_from_slice_get t.callers i c c at)
    (get_or-le-sum_by lines_of t.callers i c below) in
    omega (arith, one, forms.lines_few)

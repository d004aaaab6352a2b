-- The numbers of a walk are at most that of its events.
use Rattle.std.proofs.Common.{◌≡◌, ℕ, suc, ◌+◌, ◌<◌, ◌≤◌, ◌^◌, Bool, true, false, length, Option, Some, None, ap, sym, subst, ◌∙◌, arith}
use Rattle.report_read.specs.words.declared.event.Deed.{Deed}
use Rattle.report_read.specs.words.declared.event.Deed.TheVariants as deed
use Rattle.report_read.specs.words.declared.event.Event.{Event}
use Rattle.report_read.specs.words.declared.event.Kind.{Kind}
use Rattle.report_read.specs.words.declared.event.Outcome.{Outcome}
use Rattle.report_read.specs.words.declared.event.Outcome.TheVariants as outcome
use Rattle.view_journal.specs.declared.kinds.Collection.{Collection}
use Rattle.view_journal.specs.Files.{dropped, is_exec, is_reader, is_writer, opened}
use Rattle.view_journal.specs.State.{collecting_after, one_more, touched}
use Rattle.view_journal.specs.Walk.{IsSmall, Walk, cleared, kind_at, one, passes, pieces_of, recounted, start, walked}
use Rattle.view_journal.proofs.WalkLemmas.{length-cleared, length-push}

one_small : (b : Bool) → one b ≤ 1
one_small true = omega arith
one_small false = omega arith

recounted_small : (x y : Bool) (count n : ℕ) → count ≤ n → recounted x y count ≤ n + 1
recounted_small x y count n h = omega (arith, h, one_small y)

more_small : (complete : Bool) (c : Option Collection)
    → pieces_of (one_more complete c) ≤ pieces_of c + 1
more_small complete None = omega arith
more_small complete (Some c) = omega arith

touched_small : (from : ℕ) (c : Option Collection) → pieces_of (touched from c) ≤ pieces_of c + 1
touched_small from None = omega arith
touched_small from (Some c) = omega arith

pieces_small : (d : Deed) (o : Outcome) (c : Option Collection)
    → pieces_of (collecting_after d o c) ≤ pieces_of c + 1
pieces_small (deed.Take file) outcome.Begun c = omega arith
pieces_small (deed.CloseTake file) outcome.Begun c = omega arith
pieces_small (deed.Chunk file) outcome.More c = more_small false c
pieces_small (deed.Chunk file) outcome.Last c = more_small true c
pieces_small (deed.CloseChunk file) outcome.More c = more_small false c
pieces_small (deed.CloseChunk file) outcome.Last c = more_small true c
pieces_small (deed.Finish file) o c = omega arith
pieces_small (deed.CloseFinish file) o c = omega arith
pieces_small (deed.Write file from len) outcome.Done c = touched_small from c
pieces_small (deed.Trunc file len) outcome.Done c = touched_small len c
pieces_small d o c = omega arith

pub length-held : (e : Event) (w : Walk) → length (walked e w).held ≡ length w.held + 1
length-held e w =
    length-push (cleared w.held (dropped e.deed e.outcome)) (opened e.deed e.outcome)
    ∙ (ap suc (length-cleared (dropped e.deed e.outcome) w.held) ∙ omega arith)

pub walked_small : (e : Event) (w : Walk) → IsSmall w → length w.held + 1 < 2 ^ 32
    → IsSmall (walked e w)
walked_small e w s room =
    let drop : Option Kind = kind_at w.held (dropped e.deed e.outcome) in
    let new : Option Kind = opened e.deed e.outcome in
    let size : length (walked e w).held ≡ length w.held + 1 = length-held e w in
    record {
      readers = rw size
          (recounted_small (passes is_reader drop) (passes is_reader new) w.readers (length w.held)
          s.readers);
      writers = rw size
          (recounted_small (passes is_writer drop) (passes is_writer new) w.writers (length w.held)
          s.writers);
      execs = rw size
          (recounted_small (passes is_exec drop) (passes is_exec new) w.execs (length w.held)
          s.execs);
      pieces = omega (arith, size, s.pieces, pieces_small e.deed e.outcome w.collecting);
      held = omega (arith, size, room);
    }

pub starts_small : IsSmall start
starts_small = record {
  readers = omega arith;
  writers = omega arith;
  execs = omega arith;
  pieces = omega arith;
  held = omega arith;
}

-- the same, if the walk is given by an equation
pub small_next : (w next : Walk) (e : Event) → next ≡ walked e w → IsSmall w
    → length w.held + 1 < 2 ^ 32 → IsSmall next
small_next w next e is s room = subst IsSmall (sym is) (walked_small e w s room)

pub held_next : (w next : Walk) (e : Event) → next ≡ walked e w
    → length next.held ≡ length w.held + 1
held_next w next e is = ap (λ (x : Walk). length x.held) is ∙ length-held e w

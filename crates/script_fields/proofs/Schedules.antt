-- The turns of a schedule, one word after another.
use Rattle.std.proofs.Common.{◌≡◌, ℕ, List, [], ◌∷◌, ◌++◌, Result, Ok, Err}
use Rattle.std.proofs.Common.{refl, sym, ap, append_assoc}
use Rattle.text_forms.specs.Lines.{◌>>=◌}
use Rattle.script_words.specs.declared.fault.LineCause.{LineCause}
use Rattle.script_words.specs.declared.fault.LineErr.{LineErr}
use Rattle.script_words.specs.declared.fault.LineErr.TheVariants as err
use Rattle.script_words.specs.Gives.{LineFails}
use Rattle.script_fields.specs.TaskFields.{turn_of, turns_from}

-- turns put before others
abbrev pub onto : List ℕ → Result (List ℕ) LineCause → Result (List ℕ) LineCause
onto ts (Ok us) = Ok (ts ++ us)
onto ts (Err c) = Err c

-- turns may be put before others in two steps, the last of them first
onto_again : (ts : List ℕ) (t : ℕ) (r : Result (List ℕ) LineCause) → onto (ts ++ t ∷ []) r
    ≡ onto ts (onto (t ∷ []) r)
onto_again ts t (Ok us) = ap Ok (append_assoc ts (t ∷ []) us)
onto_again ts t (Err c) = refl

-- a turn that is read before others is put before them
again : (t : ℕ) (r : Result (List ℕ) LineCause) → (r >>= λ ts. Ok (t ∷ ts)) ≡ onto (t ∷ []) r
again t (Ok us) = refl
again t (Err c) = refl

-- if the first word says a turn, the turn is put before those of the other words
one_more : (tasks t : ℕ) (w : List ℕ) (ws : List (List ℕ)) → turn_of tasks w ≡ Ok t
    → turns_from tasks (w ∷ ws) ≡ onto (t ∷ []) (turns_from tasks ws)
one_more tasks t w ws h = rw h (again t (turns_from tasks ws))

module _ (tasks : ℕ) (turns : List ℕ) (w : List ℕ) (ws : List (List ℕ))
    (whole : Result (List ℕ) LineCause)
    (so_far : onto turns (turns_from tasks (w ∷ ws)) ≡ whole) where
  -- if the next word says a turn, it joins the turns so far, and the schedule is the same
  pub turn_on : (t : ℕ) → turn_of tasks w ≡ Ok t → onto (turns ++ t ∷ []) (turns_from tasks ws)
      ≡ whole
  turn_on t h =
      rw (onto_again turns t (turns_from tasks ws)) (rw (one_more tasks t w ws h) at so_far)

  -- if the next word fails, so does the schedule
  pub turn_stops : (e : LineErr LineCause) → LineFails e (turn_of tasks w) → LineFails e whole
  turn_stops (err.Refused c) h = sym (rw h at so_far)
  turn_stops err.OutOfMemory h = tt

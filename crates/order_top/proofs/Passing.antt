-- Answers and refusals that a call passes on.
use Rattle.std.proofs.Common.{◌≡◌, ℕ, List, ap, ◌∙◌}
use Rattle.std.specs.Prelude.{Result, Ok, Err, IsOkAnd}
use Rattle.order_runs.specs.Plays.{IsScriptOf}
use Rattle.order_runs.specs.Stops.{HasTooMany}
use Rattle.order_runs.specs.declared.rows.Row.{Row}
use Rattle.order_runs.specs.outcomes.reports.model.Scene.{Scene}
use Rattle.order_runs.specs.outcomes.scripts.Grammar.{script_of}
use Rattle.order_runs.specs.outcomes.scripts.ScriptValue.{ScriptValue}
use Rattle.order_runs.specs.outcomes.scripts.script_lines.declared.fault.Fault.{Fault}
use Rattle.order_runs.specs.outcomes.scripts.script_lines.declared.fault.LineCause.{LineCause}
use Rattle.order_top.specs.Served.{Answers, AreSortedRows, IsMade, IsTableText, IsTextOf, IsTooMuch}
use Rattle.order_top.specs.Text.{table_text}
use Rattle.order_top.specs.Words.{AskedValue}
use Rattle.order_top.specs.declared.not_done.NotDone.{NotDone}
use Rattle.order_top.specs.declared.not_done.NotDone.TheVariants.{Usage, Refused, TooMany, ReadFault, WriteFault, TooLong, OutOfMemory}

-- the text of sorted rows
pub text_is : (scene : Scene) (first : List ℕ) (rows : List Row) (text : List ℕ)
    → AreSortedRows scene first rows → text ≡ table_text first rows
    → IsTableText scene first text
text_is scene first rows text h is = (h.0, (h.1.0, is ∙ ap (table_text first) h.1.1))

-- the text of the rows of a script's scene is that of the script's rows
text_of : (scene : Scene) (first text : List ℕ) (said : Result ScriptValue (Fault LineCause))
    → IsOkAnd said (IsScriptOf scene) → IsTableText scene first text
    → IsOkAnd said (IsTextOf first text)
text_of scene first text (Ok s) is table = (scene, (is, table))
text_of scene first text (Err fault) is table = absurd is

-- a scene that has too much is that of a script that does
stopped_of : (scene : Scene) (asked : AskedValue) (said : Result ScriptValue (Fault LineCause))
    → IsOkAnd said (IsScriptOf scene) → HasTooMany scene asked.first asked.most
    → IsOkAnd said (IsTooMuch asked)
stopped_of scene asked (Ok s) is many = (scene, (is, many))
stopped_of scene asked (Err fault) is many = absurd is

pub passes : (scene : Scene) (asked : AskedValue) (input : List ℕ) (r : Result (List ℕ) NotDone)
    → IsOkAnd (script_of input) (IsScriptOf scene)
    → IsMade scene asked (IsTableText scene asked.first) r → Answers asked input r
passes scene asked input (Ok text) is made =
    text_of scene asked.first text (script_of input) is made
passes scene asked input (Err Usage) is made = absurd made
passes scene asked input (Err (Refused line)) is made = absurd made
passes scene asked input (Err (TooMany line)) is made =
    (made.0, stopped_of scene asked (script_of input) is made.1)
passes scene asked input (Err ReadFault) is made = absurd made
passes scene asked input (Err WriteFault) is made = absurd made
passes scene asked input (Err TooLong) is made = absurd made
passes scene asked input (Err OutOfMemory) is made = tt

-- The report of a run of the script that was read, and a text about that run after it.
use Rattle.std.proofs.Common.{◌≡◌, ℕ, Bool, List, ◌++◌, Option, Result, Ok, Err, refl, sym, ap, ◌∙◌, subst}
use Rattle.std.specs.Prelude.{IsOkAnd}
use Rattle.report_text.specs.Report.{report_of}
use Rattle.script_run.specs.Run.{HasRun}
use Rattle.script_run.specs.model.EndedValue.{EndedValue, ended_of}
use Rattle.script_run.specs.scenes.Scene.{scene_of}
use Rattle.script_text.specs.Grammar.{script_of}
use Rattle.script_text.specs.ScriptValue.{ScriptValue}
use Rattle.script_words.specs.declared.fault.Fault.{Fault}
use Rattle.script_words.specs.declared.fault.LineCause.{LineCause}
use Rattle.ima_top.specs.Answered.{Answers}
use Rattle.ima_top.specs.commands.BadLine.{refusal_of}
use Rattle.ima_top.specs.commands.Ran.{IsReportAnd, IsTextOf, RunText, script_refusal}
use Rattle.ima_top.specs.commands.Run.{run_refusal, run_refusal_of}
use Rattle.ima_top.specs.declared.not_done.NotDone.{NotDone}
use Rattle.ima_top.specs.declared.not_done.NotDone.TheVariants as why

-- what holds of this value holds of the one that was read, if it is this one
pub of_read : {A E : Type 0} (P : A → Type 0) (r : Result A E) (a : A) → r ≡ Ok a → P a
    → IsOkAnd r P
of_read {A = A} {E = E} P r a is holds =
    subst (λ (x : Result A E). IsOkAnd x P) (sym is) holds

-- the report and the text of a run of a script, one after the other
pub joined : (text_of : RunText) (s : ScriptValue) (e : EndedValue) (text : List ℕ) (stuck : Bool)
    (output : List ℕ) → HasRun s e → IsTextOf text_of s e text → stuck ≡ e.stuck
    → output ≡ report_of e ++ text → IsReportAnd text_of s stuck output
joined text_of s e text stuck output has is is_stuck both =
    let whole : output ≡ report_of e ++ text_of s has.for_files e =
    both ∙ ap (λ (l : List ℕ). report_of e ++ l) (is has.for_files) in record {
      ended = e;
      has_run = has;
      is_stuck = sym is_stuck;
      text = whole;
      only = λ other shown same. has.only other
          (text_of s has.for_files (ended_of (scene_of s has.for_files) other))
          (text_of s has.for_files e) shown (same ∙ whole);
    }

-- a script is refused by the same line, whether or not it is to be run alone
refused_alike : (r : Result ScriptValue (Fault LineCause)) → run_refusal_of r ≡ refusal_of r
refused_alike (Ok s) = refl
refused_alike (Err fault) = refl

-- `run` refuses what the other commands of scripts refuse, by the same lines
pub run_refuses : (input : List ℕ) → run_refusal input ≡ script_refusal input
unfolding run_refusal script_refusal
run_refuses input = refused_alike (script_of input)

-- a reason that answers an input answers it whatever an output for it is
pub same_reason : {A B : Type 0} (w : NotDone) (l m : Option (List ℕ)) (P : A → Type 0)
    (Q : B → Type 0) → m ≡ l → Answers (Err w) l P → Answers (Err w) m Q
same_reason (why.Refused line) l m P Q same h = same ∙ h
same_reason why.OutOfMemory l m P Q same h = tt
same_reason why.Usage l m P Q same h = absurd h
same_reason why.Stuck l m P Q same h = absurd h
same_reason why.ReadFault l m P Q same h = absurd h
same_reason why.WriteFault l m P Q same h = absurd h
same_reason why.TooLong l m P Q same h = absurd h

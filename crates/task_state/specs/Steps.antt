-- The steps and deeds that the task's own types stand for.
use Rattle.run_model.specs.events.declared.deed.Deed.{Deed}
use Rattle.run_model.specs.events.declared.deed.Deed.TheVariants as deed
use Rattle.run_model.specs.steps.CallState as call_states
use Rattle.task_state.specs.declared.step.DueDeed.{DueDeed}
use Rattle.task_state.specs.declared.step.DueDeed.TheVariants as due
use Rattle.task_state.specs.declared.step.Step.{Step}
use Rattle.task_state.specs.declared.step.Step.TheVariants as step

abbrev pub deed_in : DueDeed → Deed
deed_in due.Birth = deed.Birth
deed_in (due.Count how) = deed.Count how
deed_in (due.Take file) = deed.Take file
deed_in (due.Chunk file) = deed.Chunk file
deed_in (due.Finish file) = deed.Finish file
deed_in (due.Read file from len) = deed.Read file from len
deed_in (due.Write file from bytes) = deed.Write file from bytes.now
deed_in (due.Trunc file len) = deed.Trunc file len
deed_in (due.SetAttr name value admin) = deed.SetAttr name.now value.now admin
deed_in (due.SetMeta change) = deed.SetMeta change
deed_in (due.Close file) = deed.Close file
deed_in (due.CloseTake file) = deed.CloseTake file
deed_in (due.CloseChunk file) = deed.CloseChunk file
deed_in (due.CloseFinish file) = deed.CloseFinish file

abbrev pub step_in : Step → call_states.Step
step_in step.Nothing = call_states.Nothing
step_in (step.Does inode d) = call_states.Does inode (deed_in d)
step_in (step.Checks inode file func mask) = call_states.Checks inode file func mask
step_in (step.Posts sem) = call_states.Signals (deed.Post sem)
step_in (step.Waits sem) = call_states.Signals (deed.Wait sem)
step_in (step.Appends rule) = call_states.Appends rule.now

-- Lines at which memory runs out.
use Rattle.std.proofs.Common.{◌≡◌, Result}
use Rattle.std.specs.Result.{IsErrAnd}
use Rattle.std.proofs.lemmas.Result.{err_from_is_err_and}
use Rattle.script_words.specs.declared.fault.LineCause.{LineCause}
use Rattle.script_words.specs.declared.fault.LineErr.{LineErr}
use Rattle.script_words.specs.declared.fault.LineErr.TheVariants.{OutOfMemory}
use Rattle.script_words.specs.Gives.{LineMakes}
use Rattle.script_text.specs.Draft.{Draft}
use Rattle.script_text.specs.Settings.{Made}

-- nothing is said of a line at which memory runs out
pub out_of_memory : (r : Result (Unit {0}) (LineErr LineCause)) (said : Made) (new : Draft)
    → IsErrAnd r (λ e. e ≡ OutOfMemory) → LineMakes r said new
out_of_memory r said new h = let p = err_from_is_err_and r h in rw (p.1, p.2) tt

-- The errors of a run in words.
use Rattle.std.specs.Prelude.{ℕ, List, codes}
use Rattle.runs.specs.declared.runner.RunError.{RunError}
use Rattle.runs.specs.declared.runner.RunError.TheVariants.{ProcessCount, NoSuchProcess, NothingWaiting, Unsettled, Memory}

abbrev pub error_text : RunError → List ℕ
error_text ProcessCount = codes "a run has 1 to 8 processes"
error_text NoSuchProcess = codes "there is no such process"
error_text NothingWaiting = codes "no message waits there"
error_text Unsettled = codes "messages still wait"
error_text Memory = codes "out of memory"

-- The layer, number and place of each refusal.
use Rattle.histories.specs.Calls as calls
use Rattle.histories.specs.Calls.{by_host, by_store}
use Rattle.checks.specs.declared.refusal.Layer.{Layer}
use Rattle.checks.specs.declared.refusal.Layer.TheVariants as layer
use Rattle.checks.specs.declared.refusal.Refusal.{Refusal}
use Rattle.checks.specs.declared.refusal.Refusal.TheVariants as is

abbrev pub layer_of : Layer → calls.Layer
layer_of layer.Host = calls.host
layer_of layer.Store = calls.store

-- an argument is refused at its position, the store at its record count, all else at 0
abbrev pub refusal : Refusal → calls.Refusal
refusal (is.NoProcess position) = by_host 1 position
refusal (is.OutOfRange position) = by_host 2 position
refusal is.ProcessCount = by_host 3 0
refusal is.UsedStore = by_host 4 0
refusal is.Dark = by_host 10 0
refusal is.NotDark = by_host 11 0
refusal is.Down = by_host 12 0
refusal is.NoneDown = by_host 13 0
refusal is.OldInput = by_host 14 0
refusal is.EarlyInput = by_host 15 0
refusal is.NoneWaits = by_host 16 0
refusal is.RowFull = by_host 17 0
refusal (is.NoRoom records) = by_store 18 records
refusal is.NotCommitted = by_host 19 0
refusal (is.StoreDied died) = by_store 20 died.records

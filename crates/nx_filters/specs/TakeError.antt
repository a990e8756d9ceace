-- Why a run stops, where something that it uses fails.
use Rattle.nx_host.specs.declared.input.InputError.{InputError}
use Rattle.nx_host.specs.declared.input.InputError.TheVariants as input
use Rattle.nx_pyx.specs.declared.error.ReadError.{ReadError}
use Rattle.nx_pyx.specs.declared.error.ReadError.TheVariants as read
use Rattle.nx_partition.specs.declared.error.PlanError.{PlanError}
use Rattle.nx_partition.specs.declared.error.PlanError.TheVariants as plan
use Rattle.nx_bounds.specs.declared.error.BoundsError.{BoundsError}
use Rattle.nx_bounds.specs.declared.error.BoundsError.TheVariants as bounds
use Rattle.nx_script.specs.declared.error.ScriptError.{ScriptError}
use Rattle.nx_script.specs.declared.error.ScriptError.TheVariants as script
use Rattle.nx_filters.specs.declared.status.Status.{Status}
use Rattle.nx_filters.specs.declared.status.Status.TheVariants as status
use Rattle.nx_filters.specs.declared.give.GiveError.{GiveError}
use Rattle.nx_filters.specs.declared.give.GiveError.TheVariants as give_error
use Rattle.nx_filters.specs.declared.refusal.Refusal.TheVariants.{Pyx, TooHeavy, Bounds}
use Rattle.nx_filters.specs.declared.take_error.TakeError.{TakeError}
use Rattle.nx_filters.specs.declared.take_error.TakeError.TheVariants.{Refused, ReadFault, TooMuch, NoMemory}

abbrev pub take_error_of : ReadError → TakeError
take_error_of (read.Pyx error) = Refused (Pyx error)
take_error_of read.Memory = NoMemory

abbrev pub take_error_of_plan : PlanError → TakeError
take_error_of_plan (plan.TooHeavy path slots) = Refused (TooHeavy path slots)
take_error_of_plan plan.Memory = NoMemory

abbrev pub take_error_of_bounds : BoundsError → TakeError
take_error_of_bounds bounds.Memory = NoMemory
take_error_of_bounds error = Refused (Bounds error)

abbrev pub take_error_of_input : InputError → TakeError
take_error_of_input input.Read = ReadFault
take_error_of_input input.TooMuch = TooMuch

abbrev pub status_of_script : ScriptError → Status
status_of_script script.Read = status.ReadFault
status_of_script script.TooMuch = status.TooMuch
status_of_script script.Memory = status.NoMemory

abbrev pub status_of_give_error : GiveError → Status
status_of_give_error give_error.WriteFault = status.WriteFault
status_of_give_error give_error.NoMemory = status.NoMemory

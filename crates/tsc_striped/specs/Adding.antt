-- What an Add that waits answers. (For private contracts.)
use Rattle.std.specs.Prelude.{◌≡◌, Result, Ok, Err}
use Rattle.tsc_striped.specs.declared.answers.Receipt.{Receipt}
use Rattle.tsc_striped.specs.declared.answers.AddFault.{AddFault}
use Rattle.tsc_striped.specs.declared.answers.TryAddFault.{TryAddFault}
use Rattle.tsc_striped.specs.declared.answers.TryAddFault.TheVariants.{Busy, Refused}

-- What an Add that waits answers is what it would answer if it could give up, since it never did.
abbrev pub IsWaited : Result Receipt TryAddFault → Result Receipt AddFault → Type 0
IsWaited (Ok receipt) result = result ≡ Ok receipt
IsWaited (Err Busy) result = ⊥
IsWaited (Err (Refused fault)) result = result ≡ Err fault

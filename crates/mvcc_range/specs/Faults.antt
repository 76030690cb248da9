-- Why a call on a range is refused, by why its cache refused one.
use Rattle.tsc_cache.specs.declared.fault.CacheFault.{CacheFault}
use Rattle.tsc_cache.specs.declared.fault.CacheFault.TheVariants as cache
use Rattle.mvcc_range.specs.declared.fault.RangeFault.{RangeFault}
use Rattle.mvcc_range.specs.declared.fault.RangeFault.TheVariants.{TooLarge, NoMemory}

-- the fault of a range for one of its cache
abbrev pub fault_of : CacheFault → RangeFault
fault_of cache.TooLarge = TooLarge
fault_of cache.NoMemory = NoMemory

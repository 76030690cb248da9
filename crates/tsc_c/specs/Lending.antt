-- How the store of a pointer is lent.
use Rattle.std.specs.Borrow.{Fml, MutBor, LendsIf}
use Rattle.std.specs.declared.option.Option.{Option}
use Rattle.std.specs.declared.option.Option.TheVariants.{Some}
use Rattle.std.specs.Prelude.{List}
use Rattle.tsc_ffi_store.specs.declared.store.Slot.{Slot}
use Rattle.tsc_c.specs.Owning.{Kept}
use Rattle.tsc_c.specs.declared.store_ptr.StorePtr.{StorePtr}
use Rattle.tsc_c.specs.contracts.store_ptr.StorePtr.{the_row}

-- a pointer that owns this store
abbrev pub with_store : StorePtr → List Slot → StorePtr
with_store ptr store = record ptr { owned = Some store }

-- The pointer ends with the last store behind the reference, and as it was where there is none.
abbrev pub LendsStore : MutBor StorePtr → Option (MutBor (List Slot)) → Fml
LendsStore ptr result = LendsIf the_row Kept ptr result (with_store ptr.now) ptr.now

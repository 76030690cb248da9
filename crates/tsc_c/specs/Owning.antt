-- What a pointer in the memory of a program in C owns: nothing at null, and else the box of a
-- store.
use Rattle.std.specs.Prelude.{◌≡◌}
use base.Fml.{Fml, ftrue, fsep, fex}
use mir.Syntax.{Ty}
use denote.RattleType.{RattleType}
use denote.RawPtr.{Ptr, block_ptr, null_ptr}
use Rattle.std.specs.declared.alloc.Global.{Global}
use Rattle.std.specs.contracts.impls.GlobalAllocator.TheImpl.{ghosts}
use Rattle.std.specs.declared.option.Option.{Option}
use Rattle.std.specs.declared.option.Option.TheVariants.{None, Some}
use Rattle.std.specs.Box.Ownership.{box_owns}
use Rattle.tsc_ffi_store.specs.contracts.store.Store.{the_row}

abbrev pub Kept : RattleType
Kept = the_row

-- the heap of the C library, of which there is one
abbrev pub heap : Global
heap = record { memory = record { seal = tt } }

-- what it takes to free memory of a type there
abbrev pub freeable : Ty → Ptr → Fml
freeable = ghosts.dealloc_token heap

abbrev pub boxed : Ptr → Kept.Denot → Fml
boxed = box_owns freeable Kept

abbrev pub ptr_owns : Ptr → Option Kept.Denot → Fml
ptr_owns null_ptr c = fex (c ≡ None) (λ _. ftrue)
ptr_owns (block_ptr b o) c = fex Kept.Denot
    (λ x. fsep (fex (c ≡ Some x) (λ _. ftrue)) (boxed (block_ptr b o) x))

-- Where the search finds no place, the handle is none of those that are open.
use Rattle.std.proofs.Common.{inr, subst}
use Rattle.std.specs.List.Sorted.{IsBinarySearchResult}
use Rattle.std.specs.Ordering.{nat_cmp}
use Rattle.tsc_ffi_store.proofs.OpenHandles.{place_missed}
use Rattle.tsc_ffi_store.proofs.open_handles.place_among.Goals as goal

pub returns-in-Err : goal.returns-in-Err
returns-in-Err c = inr (place_missed c.args.handles.now c.args.handle c.in-Err.field-0
    c.requires.rises
    (subst (IsBinarySearchResult (λ y. nat_cmp y c.args.handle) c.args.handles.now) c.in-Err.is
    c.binary_search.ensures.position))

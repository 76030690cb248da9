-- All seats were collected, and the cache ended with them.
use Rattle.std.proofs.Common.{◌≡◌, ◌∙◌, sym, ap, subst}
use Rattle.tsc_ffi_store.specs.declared.seats.kinds.AnyCache.{AnyCache}
use Rattle.tsc_ffi_store.specs.Kinds.{seats_of}
use Rattle.tsc_ffi_store.specs.Owners.{EndsSo}
use Rattle.tsc_ffi_store.specs.Seating.{SharedHandleView}
use Rattle.tsc_ffi_store.proofs.SeatsOfKind.{ends_so}
use Rattle.tsc_ffi_store.proofs.seats.owner.SharedHandle.end.Goals as goal

pub returns : goal.returns
returns c =
    let same : c.self.inside.cache ≡ c.args.self.now.cache =
    ap (λ (v : SharedHandleView). v.cache) c.self.view_is in
    subst (λ (k : AnyCache). EndsSo k c.args.keeper.me.0.back c.end.result) same
    (ends_so c.self.inside.cache c.collect_seats-all.result.items c.args.keeper.me.0.back
    c.end.result
    (c.collect_seats-all.ensures.all ∙ c.requires.known.all ∙ ap seats_of (sym same))
    c.collect_seats-all.ensures.back c.end.ensures)

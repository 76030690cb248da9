-- All fit where those of the lists that are left do.
use Rattle.std.proofs.Common.{◌≡◌, drop, map}
use Rattle.tsc_trace_fast.specs.Kept.{each_fits}
use Rattle.tsc_trace_fast.proofs.quick.head.all_fit.Given as goal

abbrev pub invariant-loop-list : goal.invariant-loop-list
invariant-loop-list l = each_fits l.config (map (λ calls. calls.items) (drop l.list-index l.lists))
    ≡ each_fits l.config (map (λ calls. calls.items) l.lists)

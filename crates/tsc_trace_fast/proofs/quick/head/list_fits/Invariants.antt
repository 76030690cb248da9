-- All fit where those that are left do.
use Rattle.std.proofs.Common.{◌≡◌, drop}
use Rattle.std.specs.List.{list_all}
use Rattle.tsc_trace_format.specs.Calls.{call_fits}
use Rattle.tsc_trace_fast.proofs.quick.head.list_fits.Given as goal

abbrev pub invariant-loop-call : goal.invariant-loop-call
invariant-loop-call l = list_all (call_fits l.config) (drop l.call-index l.calls) ≡
    list_all (call_fits l.config) l.calls

-- Proves the loop invariants of `has_only`. Whether each member has one of these names.
use Rattle.std.proofs.Common.{◌≡◌, map}
use Rattle.serde_json.specs.View.{members_view}
use Rattle.tsc_trace_format.specs.TraceText.{names_only}
use Rattle.tsc_trace_format.proofs.read.json.has_only.Given as goal

abbrev pub invariant-loop-name : goal.invariant-loop-name
invariant-loop-name l = names_only (map (λ name. name.now) l.names) (members_view l.name-iterator) ≡
    names_only (map (λ name. name.now) l.names) (members_view l.fn.members.entries)

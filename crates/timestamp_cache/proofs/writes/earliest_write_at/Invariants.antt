-- So many spans are asked of.
use Rattle.std.proofs.Common.{drop}
use Rattle.timestamp_cache.proofs.AskingAll.{HasAsked}
use Rattle.timestamp_cache.proofs.writes.earliest_write_at.Given as goal

abbrev pub invariant-loop-span : goal.invariant-loop-span
invariant-loop-span g l = HasAsked g.C.Lookup.kind l.fn.seat l.seat l.spans
    (drop l.span-index l.spans) l.by l.fn.at l.time

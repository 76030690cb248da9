-- What is read so far, with what is left, is all.
use Rattle.std.proofs.Common.{◌≡◌, ◌-◌}
use Rattle.timestamp_cache.specs.SummaryReading.{marks_at}
use Rattle.timestamp_cache.proofs.SummaryMarks.{with_front}
use Rattle.timestamp_cache.proofs.summary_reading.Reader.marks.Given as goal

abbrev pub invariant-loop : goal.invariant-loop
invariant-loop l = with_front l.marks.items (marks_at (l.count - l.counter) l.self.rest.now) ≡
    marks_at l.count l.fn.self.rest.now

-- Proves the contract of `put_time`. Appends a time.
use Rattle.std.proofs.Common.{◌≡◌, ◌++◌, rules}
use Rattle.std.specs.Int.{w32, w64, to_be_bytes}
use Rattle.timestamp_cache.proofs.SummaryMarks.{in_two}
use Rattle.timestamp_cache.proofs.summary_writing.put_time.Goals as goal

pub returns-clause-written : goal.returns-clause-written
returns-clause-written c =
    let first : c.extend_from_slice.new.self.items ≡ c.args.out.now.items ++ to_be_bytes w64
    c.args.time.wall = search rules in
    let second : c.extend_from_slice-2.new.self.items ≡ c.extend_from_slice.new.self.items ++
    to_be_bytes w32 c.args.time.logical = search rules in
    in_two c.args.out.now.items c.extend_from_slice.new.self.items
    c.extend_from_slice-2.new.self.items (to_be_bytes w64 c.args.time.wall)
    (to_be_bytes w32 c.args.time.logical) first second

-- Proves the contract of `read_input`. All that a reader has left.
use Rattle.std.proofs.Common.{◌≡◌, ◌+◌, ◌≤◌, length, take, rules, arith}
use Rattle.tsc_stream.proofs.ReadSoFar.{CouldNotRead-filled, HasFilled-more, HasReadTooMuch-filled}
use Rattle.tsc_stream.proofs.input.read_input.Goals as goal

pub loop-input-preserved-else-filled-gt-LONGEST_INPUT :
    goal.loop-input-preserved-else-filled-gt-LONGEST_INPUT
loop-input-preserved-else-filled-gt-LONGEST_INPUT g c =
    let filled = c.loop-input.filled in
    let shown = c.deref_mut.result.now in
    let front : take filled shown ≡ take filled c.loop-input.input.items = search rules in
    let within : filled ≤ length shown = search rules in
    let room : filled + c.in-Ok.count ≤ c.make_room.new.input.len = search rules in
    HasFilled-more _ _ _ _ shown c.read.new.buf _ _ filled c.in-Ok.count _ c.loop-input.invariant
    front within c.in-Ok.ensures.bound c.in-Ok.ensures.bytes.0 room
    (omega arith) (search rules) c.in-Ok.ensures.after (search rules)

pub returns-then-filled-gt-LONGEST_INPUT-clause-err :
    goal.returns-then-filled-gt-LONGEST_INPUT-clause-err
returns-then-filled-gt-LONGEST_INPUT-clause-err g c =
    HasReadTooMuch-filled _ _ _ _ c.read.new.buf _ _ c.loop-input.invariant c.in-Ok.ensures.bound
    c.in-Ok.ensures.bytes.0 (omega arith) (search rules)

pub returns-in-Err-Failed-clause-err : goal.returns-in-Err-Failed-clause-err
returns-in-Err-Failed-clause-err g c =
    let reported = c.in-Err-Failed.ensures in
    CouldNotRead-filled _ _ (g.R.Source.known c.read.new.self) _ _ _ (search rules)
    c.loop-input.invariant reported.bytes reported.after reported.why

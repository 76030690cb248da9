-- Proves the contract of `CallParts::read`. Reads the members up to the end of their object.
use Rattle.std.proofs.Common.{◌≡◌, Some, None}
use Rattle.json.specs.Json.{read_key}
use Rattle.serde_json.specs.Data.{no_members, put}
use Rattle.tsc_trace_fast.proofs.TokenLemmas.{members_begin, members_go_on, member_shorter}
use Rattle.tsc_trace_fast.proofs.quick.call.CallParts.read.Goals as goal

pub members-init : goal.members-init
members-init c = (no_members, members_begin 3 _, c.requires.none)

pub members-preserved : goal.members-preserved
members-preserved c =
    let inv = c.members.invariant in
    let took = c.in_ok-take.ensures in
    let key : read_key c.members.reader ≡ Some (Some c.in-Some.name.now, c.next_name.new.reader) =
    rw c.in-Some.is at c.in_ok-name.ensures in (
      put c.in-Some.name.now took.0 inv.0,
      members_go_on 3 c.args.reader.now c.members.reader c.next_name.new.reader c.take.new.reader
          inv.0 c.in-Some.name.now took.0 inv.1 key took.1,
      took.2 inv.0 inv.2,
    )

pub members-smaller : goal.members-smaller
members-smaller c =
    let took = c.in_ok-take.ensures in
    let key : read_key c.members.reader ≡ Some (Some c.in-Some.name.now, c.next_name.new.reader) =
    rw c.in-Some.is at c.in_ok-name.ensures in
    member_shorter 3 c.members.reader c.next_name.new.reader c.take.new.reader c.in-Some.name.now
    took.0 key took.1

pub returns : goal.returns
returns c =
    let inv = c.members.invariant in
    let over : read_key c.members.reader ≡ Some (None, c.next_name.new.reader) =
    rw c.in_default.is at c.in_ok-name.ensures in
    (inv.0, record { last = c.members.reader; read = inv.1; over = over }, inv.2)

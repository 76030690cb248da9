-- Proves the contract of `trace`. The trace that an object is.
use Rattle.std.proofs.Common.{◌≡◌, Some, None}
use Rattle.json.specs.Json.{read_key}
use Rattle.serde_json.specs.Data.{no_members, put}
use Rattle.tsc_trace_fast.proofs.TokenLemmas.{members_begin, members_go_on, member_shorter}
use Rattle.tsc_trace_fast.proofs.HeadMembers.{no_head_yet, trace_got}
use Rattle.tsc_trace_fast.proofs.quick.head.trace.Goals as goal

pub loop-parts-init : goal.loop-parts-init
loop-parts-init c = (no_members, members_begin 6 _, no_head_yet)

pub loop-parts-preserved : goal.loop-parts-preserved
loop-parts-preserved c =
    let inv = c.loop-parts.invariant in
    let took = c.in_ok-take.ensures in
    let key : read_key c.loop-parts.reader ≡ Some (Some c.in-Some.name.now, c.next_name.new.reader)
    = rw c.in-Some.is at c.in_ok-name.ensures in (
      put c.in-Some.name.now took.0 inv.0,
      members_go_on 6 c.open_object.new.reader c.loop-parts.reader c.next_name.new.reader
          c.take.new.reader inv.0 c.in-Some.name.now took.0 inv.1 key took.1,
      took.2 inv.0 inv.2,
    )

pub loop-parts-smaller : goal.loop-parts-smaller
loop-parts-smaller c =
    let took = c.in_ok-take.ensures in
    let key : read_key c.loop-parts.reader ≡ Some (Some c.in-Some.name.now, c.next_name.new.reader)
    = rw c.in-Some.is at c.in_ok-name.ensures in
    member_shorter 6 c.loop-parts.reader c.next_name.new.reader c.take.new.reader c.in-Some.name.now
    took.0 key took.1

pub returns : goal.returns
returns c =
    let inv = c.loop-parts.invariant in
    let over : read_key c.loop-parts.reader ≡ Some (None, c.next_name.new.reader) =
    rw c.in_default.is at c.in_ok-name.ensures in
    trace_got c.args.reader.now c.open_object.new.reader c.loop-parts.reader c.next_name.new.reader
    inv.0 c.loop-parts.parts c.trace.result c.in_ok-open_object.ensures inv.1 inv.2 over
    c.trace.ensures

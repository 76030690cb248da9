-- Proves the contract of `push_line`. Lays one more, and seven empty slots behind it.
use Rattle.std.proofs.Common.{arith}
use Rattle.tsc_left_right.proofs.FirstSlots.{line_more, line_full}
use Rattle.tsc_left_right.proofs.opening.push_line.Goals as goal

pub loop-beside-init : goal.loop-beside-init
loop-beside-init g c = c.in_ok-push.ensures.items

pub loop-beside-preserved : goal.loop-beside-preserved
loop-beside-preserved g c = line_more c.args.slots.now.items c.loop-beside.slots.items
    c.push-in-loop-beside.new.self.items c.args.slot c.loop-beside._beside c.loop-beside.invariant
    c.in_ok-push-2.ensures.items

pub returns : goal.returns
returns g c = line_full c.args.slots.now.items c.loop-beside.slots.items c.args.slot
    c.loop-beside._beside c.loop-beside.invariant (omega (
      arith,
      c.loop-beside.auto._beside-end,
      c.loop-beside-test.false,
    ))

-- Proves the contract of `read`. What is found in the active copy, and after how long a history
-- that is.
use Rattle.tsc_left_right.proofs.FrontCalls.{looked}
use Rattle.tsc_left_right.proofs.reader.read.Goals as goal

pub returns-clause-looked : goal.returns-clause-looked
returns-clause-looked g c =
    let s = c.pin-side.ensures.sees in
    looked g.P.Replicated (λ copy. g.L.Look.finds c.args.look.now copy c.look_at-found.result.0)
    c.args.who.now.me c.pin-side.new.who.me c.unpin.new.who.me s.1 c.args.number
    c.pin-side.result c.side_slot.result c.look_at-found.result.1 s.0 c.slot_mut-slot.result.now
    c.requires.rest s.3 s.4 c.slot_mut-slot.ensures.value c.look_at-found.ensures
    c.unpin.ensures.unpinned

-- Proves the contract of `gather`. What all tellers did, and their clients.
use Rattle.example_bank.proofs.Serving.{one_more}
use Rattle.example_bank.proofs.gather.Goals as goal

pub loop-end-preserved : goal.loop-end-preserved
loop-end-preserved c =
    one_more c.args.bank.now c.loop-end.end-iterator.rest.items c.next.new.self.rest.items
    c.in-Some.end c.loop-end.clients.items c.push.new.self.items c.in_ok-teller.teller
    c.in-Some.ensures.steps.0 c.in_ok-teller.was c.in_ok-push.ensures.items c.loop-end.invariant

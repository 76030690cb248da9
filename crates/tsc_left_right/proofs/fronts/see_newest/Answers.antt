-- Proves the contract of `see_newest`. The seat has then seen the whole history, which begins with
-- what a front says.
use Rattle.tsc_left_right.proofs.FrontCalls.{caught_up_rests, newest_then}
use Rattle.tsc_left_right.proofs.fronts.see_newest.Goals as goal

pub read-requires-clause-rest : goal.read-requires-clause-rest
read-requires-clause-rest g c =
    caught_up_rests g.P.Replicated c.args.who.now.me c.see_front.new.who.me
    c.args.front.me.0.front c.requires.rest c.see_front.ensures.seen

pub returns-clause-seen : goal.returns-clause-seen
returns-clause-seen g c =
    newest_then g.P.Replicated c.args.who.now.me c.see_front.new.who.me c.read.new.who.me
    c.args.front.me.0.front c.read.result.1 c.read.ensures.looked.0 c.requires.rest
    c.see_front.ensures.seen c.read.ensures.looked.1

-- Proves the contract of `merge`. The states of another participant come to this one, behind its
-- own.
use Rattle.tsc_left_right.proofs.FrontCalls.{merge_at}
use Rattle.tsc_left_right.proofs.closing.merge.Goals as goal

pub join_seat-requires : goal.join_seat-requires
join_seat-requires g c = (
  c.requires.table.0,
  c.requires.table.1,
  c.requires.free,
  c.requires.words,
  merge_at g.P.Replicated c.args.shared.now.key c.args.who.now.id c.args.who.now.me.0
      c.args.other.id
      c.args.other.me.0 c.requires.states.0 c.requires.states.1,
)

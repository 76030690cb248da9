-- Proves the contract of `see_front`. The seat has then seen what a front says, if that is longer
-- than what it had seen.
use Rattle.std.proofs.Common.{◌∙◌, ap, arith}
use mathlib.Core.Option as maybe
use Rattle.atomic_table.specs.Table.{step}
use Rattle.tsc_left_right.specs.Steps.{number_of, seen_of, count_of}
use Rattle.tsc_left_right.proofs.FrontCalls.{join_at, joined_then, catch_up_at, caught_up_then}
use Rattle.tsc_left_right.proofs.fronts.see_front.Goals as goal

pub join_seat-requires : goal.join_seat-requires
join_seat-requires g c = (
  c.requires.of.table,
  c.requires.table,
  ap (λ m. m.1) c.requires.front,
  omega (arith, c.requires.of.sized.words),
  join_at g.P.Replicated c.args.shared.now.key c.args.who.now.id c.args.who.now.me c.args.front.id
      c.args.front.me c.requires.rest c.requires.front,
)

pub load-requires : goal.load-requires
load-requires g c =
    let me = c.args.who.now.me in (
      c.join_seat.ensures.0 ∙ c.requires.of.table,
      omega (arith, c.requires.of.sized.words),
      catch_up_at g.P.Replicated c.args.shared.now.key c.args.shared.now.table_id.slots
          (step c.args.shared.now.table_id.slots 0 0 0 maybe.none) c.join_seat.new.seat.id
          c.join_seat.new.seat.me
          me.0.setup (number_of me.0) (seen_of me.0) (count_of me.0) c.args.front.me.0.front
          (joined_then g.P.Replicated me c.join_seat.new.seat.me c.args.front.me c.requires.rest
          c.join_seat.ensures.2),
    )

pub returns-clause-seen : goal.returns-clause-seen
returns-clause-seen g c =
    let me = c.args.who.now.me in
    caught_up_then g.P.Replicated (step c.args.shared.now.table_id.slots 0 0 0 maybe.none)
    c.load.result me
    c.join_seat.new.seat.me c.load.new.seat.me c.args.front.me.0.front
    (joined_then g.P.Replicated me c.join_seat.new.seat.me c.args.front.me c.requires.rest
    c.join_seat.ensures.2)
    c.requires.rest c.load.ensures.2

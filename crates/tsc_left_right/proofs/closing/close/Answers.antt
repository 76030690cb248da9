-- Proves the contract of `close`. Closes the table when one participant keeps the states of all
-- seats, and gives what lay there.
use Rattle.std.proofs.Common.{sym, subst}
use Rattle.std.specs.Slots.{slots_items}
use Rattle.tsc_left_right.specs.Closing.{IsEnd}
use Rattle.tsc_left_right.proofs.closing.close.Goals as goal
use Rattle.tsc_left_right.proofs.Endings.{home_at, end_of}

pub unreachable-requires : goal.unreachable-requires
unreachable-requires g c =
    let end_ = c.close_with-closed.ensures.values.2 in
    let home = home_at g.P.Replicated c.args.replicas.shared.key end_.0 end_.1.0 c.args.all.id
    c.args.all.me.0
    end_.1.1 c.requires.none c.requires.states (slots_items c.close_with-closed.result.slots)
    end_.4 c.take-state.result c.take-state.ensures.value in
    c.in_default.not-Writer home.0 home.1

pub returns : goal.returns
returns g c =
    let end_ = c.close_with-closed.ensures.values.2 in
    let home = home_at g.P.Replicated c.args.replicas.shared.key end_.0 end_.1.0 c.args.all.id
    c.args.all.me.0
    end_.1.1 c.requires.none c.requires.states (slots_items c.close_with-closed.result.slots)
    end_.4 c.take-state.result c.take-state.ensures.value in
    subst (IsEnd g.P.Replicated c.args.replicas.shared.key c.args.all.me.0.states)
    (sym c.into_inner.ensures)
    (end_of g.P.Replicated c.args.replicas.shared.key c.args.all.me.0.states c.take-state.result
    home.0
    c.in-Writer.state home.1 home.2 c.in-Writer.is)

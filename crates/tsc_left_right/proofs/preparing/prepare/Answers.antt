-- Proves the contract of `prepare`. Prepares an operation that is to be published.
use Rattle.std.proofs.Common.{refl}
use Rattle.tsc_left_right.proofs.Outcomes.{may_take, back_leaves}
use Rattle.tsc_left_right.proofs.preparing.prepare.Goals as goal

pub next-requires : goal.next-requires
next-requires g c = record {
  may = may_take g.P.Replicated c.args.who.now.me c.args.context.now.setup.now.seats
      c.args.state.now c.args.operation c.args.context.now.number c.requires.may
      c.requires.seat.number_is;
}

pub returns-then-not-install_handles-clause-left : goal.returns-then-not-install_handles-clause-left
returns-then-not-install_handles-clause-left g c =
    back_leaves g.P.Replicated c.args.who.now.me c.install_handles.new.who.me
    c.args.context.now.setup.now.seats c.args.state.now
    (record c.args.state.now { copies = c.next.new.copies }) c.args.operation c.requires.may
    c.install_handles.ensures.cleared c.in_ok-copy.ensures.taken.0 c.in_ok-copy.ensures.taken.1
    refl refl refl

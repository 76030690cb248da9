-- Proves the contract of `prepare_copy`. Prepares an operation by a copy of what is asked for,
-- which is made only if the history is not full.
use Rattle.std.proofs.Common.{arith, ap}
use Rattle.tsc_left_right.specs.Participating.{released_in}
use Rattle.tsc_left_right.proofs.Seating.{seat_cleared}
use Rattle.tsc_left_right.proofs.Outcomes.{leaves_at, new_writes, may_prepare, left_for}
use Rattle.tsc_left_right.proofs.Outcomes.{made_of_copy}
use Rattle.tsc_left_right.proofs.preparing.prepare_copy.Goals as goal

pub returns-then-deref-setup-clause-left : goal.returns-then-deref-setup-clause-left
returns-then-deref-setup-clause-left g c =
    let me = c.args.who.now.me in
    let state = c.args.state.value in record {
      leave = leaves_at g.P.Replicated me me 0 state c.requires.writer
          (new_writes g.P.Replicated me state c.requires.writer);
      why = omega (
        arith,
        c.if-deref-setup.true,
        ap (λ s. s.length) c.deref.ensures,
        c.requires.writer.is_after.length,
        ap (λ t. t.limit) c.requires.seat.setup_is,
      );
    }

pub returns-in_default-clause-left : goal.returns-in_default-clause-left
returns-in_default-clause-left g c =
    let me = c.args.who.now.me in
    let state = c.args.state.value in record {
      leave = leaves_at g.P.Replicated me me 0 state c.requires.writer
          (new_writes g.P.Replicated me state c.requires.writer);
      why = omega (
        arith,
        c.if-deref-setup.false,
        ap (λ s. s.length) c.deref.ensures,
        c.requires.writer.is_after.length,
        ap (λ t. t.limit) c.requires.seat.setup_is,
      );
    }

pub returns-then-not-wait_for_readers-clause-left :
    goal.returns-then-not-wait_for_readers-clause-left
returns-then-not-wait_for_readers-clause-left g c =
    let me = c.args.who.now.me in
    let state = c.args.state.value in
    let p = c.wait_for_readers.ensures.pinned c.if-not-wait_for_readers.true in record {
      leave = leaves_at g.P.Replicated me c.wait_for_readers.new.who.me p.0.0 state
          c.requires.writer p.0.1;
      why = (
        omega (
          arith,
          c.if-deref-setup.false,
          ap (λ s. s.length) c.deref.ensures,
          c.requires.writer.is_after.length,
          ap (λ t. t.limit) c.requires.seat.setup_is,
        ),
        p.1,
      );
    }

pub prepare_boxed-requires-clause-seat : goal.prepare_boxed-requires-clause-seat
prepare_boxed-requires-clause-seat g c =
    let cleared = c.wait_for_readers.ensures.cleared c.if-not-wait_for_readers.false in
    seat_cleared c.args.context.now.shared.now.table_id c.args.context.now.setup.now
    c.args.context.now.number c.args.who.now c.wait_for_readers.new.who
    c.args.context.now.setup.now.seats c.requires.seat c.wait_for_readers.ensures.table cleared

pub prepare_boxed-requires-clause-may : goal.prepare_boxed-requires-clause-may
prepare_boxed-requires-clause-may g c =
    let me = c.args.who.now.me in
    let setup = c.args.context.now.setup.now in
    let cleared = c.wait_for_readers.ensures.cleared c.if-not-wait_for_readers.false in
    may_prepare g.P.Replicated me c.wait_for_readers.new.who.me setup c.args.state.value
    c.in-Ok.operation setup.seats c.requires.writer cleared c.requires.seat.setup_is
    (c.requires.make c.in-Ok.operation c.in-Ok.ensures)
    (omega (arith, c.if-deref-setup.false, ap (λ s. s.length) c.deref.ensures))

pub returns-clause-made : goal.returns-clause-made
returns-clause-made g c =
    let w = c.wait_for_readers.ensures.cleared c.if-not-wait_for_readers.false in
    made_of_copy g.P.Replicated g.P.Replicate.answer (g.Q.Ask.is c.args.asked.now)
    c.wait_for_readers.new.who.me.0 c.args.who.now.me.0 c.prepare_boxed.new.who.me
    c.in-Ok.operation c.prepare_boxed.result (ap (λ m. released_in m.0) w.is) c.in-Ok.ensures
    c.prepare_boxed.ensures.made

pub returns-clause-left : goal.returns-clause-left
returns-clause-left g c =
    let w = c.wait_for_readers.ensures.cleared c.if-not-wait_for_readers.false in
    left_for g.P.Replicated (g.W.WaitPolicy.tries c.args.policy.now)
    c.wait_for_readers.new.who.me.0 c.args.who.now.me.0 c.prepare_boxed.new.who.me
    c.prepare_boxed.result (ap (λ m. released_in m.0) w.is) c.prepare_boxed.ensures.left

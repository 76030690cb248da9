-- One handle more was made.
use Rattle.std.proofs.Common.{◌≡◌, ◌∙◌, ◌∷◌, [], ◌++◌, ◌+◌, ◌<◌, ℕ, Some, sym, ap, subst, arith, rules}
use Rattle.std.specs.Arc.{arc_value}
use Rattle.std.specs.Vec.Iter.{into_iter_items}
use Rattle.tsc_ffi_store.specs.Kinds.{number_of}
use Rattle.tsc_ffi_store.specs.Owners.{handle_of}
use Rattle.tsc_ffi_store.specs.ReturnSlots.{dealing}
use Rattle.tsc_ffi_store.proofs.Handles.{next_dealt, next_cache, next_number, next_low, all_dealt}
use Rattle.tsc_ffi_store.proofs.seats.opening.seat_all.Goals as goal

pub seat_one-requires-clause-cache : goal.seat_one-requires-clause-cache
seat_one-requires-clause-cache c =
    next_cache (arc_value c.args.shared.now).cache (arc_value c.args.shared.now).table
    c.args.seats c.loop-seat.dealer.me c.loop-seat.handles.items
    (into_iter_items c.loop-seat.seat-iterator) (into_iter_items c.next.new.self) c.in-Some.seat
    c.loop-seat.invariant.3 (search rules)

pub seat_one-requires-clause-dealer : goal.seat_one-requires-clause-dealer
seat_one-requires-clause-dealer c =
    let same = next_number (arc_value c.args.shared.now).cache (arc_value c.args.shared.now).table
    c.args.seats c.loop-seat.dealer.me c.loop-seat.handles.items
    (into_iter_items c.loop-seat.seat-iterator) (into_iter_items c.next.new.self) c.in-Some.seat
    c.loop-seat.invariant.3 (search rules) in
    record {
      its_table = c.loop-seat.invariant.2;
      sized = c.requires.dealer.sized;
      others = c.loop-seat.invariant.3.tokens
          ∙ ap (λ (n : ℕ). (
            dealing (Some (arc_value c.args.shared.now).cache) n (c.args.seats + c.args.seats) 0,
            [],
          )) (sym same)
          ∙ ap (λ (n : ℕ). (
            dealing (Some (arc_value c.args.shared.now).cache) (number_of c.in-Some.seat) (n + n) 0,
            [],
          )) c.requires.seats;
    }

pub seat_one-requires-clause-low : goal.seat_one-requires-clause-low
seat_one-requires-clause-low c =
    subst (λ (n : ℕ). number_of c.in-Some.seat < n) c.requires.seats
    (next_low (arc_value c.args.shared.now).cache (arc_value c.args.shared.now).table
    c.args.seats c.loop-seat.dealer.me c.loop-seat.handles.items
    (into_iter_items c.loop-seat.seat-iterator) (into_iter_items c.next.new.self) c.in-Some.seat
    c.loop-seat.invariant.3 (search rules))

pub loop-seat-preserved : goal.loop-seat-preserved
loop-seat-preserved c =
    let left : into_iter_items c.loop-seat.seat-iterator ≡ c.in-Some.seat ∷
    into_iter_items c.next.new.self = search rules in
    let pushed : c.push.new.self.items ≡ c.loop-seat.handles.items ++
    handle_of (arc_value c.args.shared.now).table c.in-Some.seat ∷ [] = search rules in
    let same = c.requires.seats in (
      search rules,
      search rules,
      search rules,
      next_dealt (arc_value c.args.shared.now).cache (arc_value c.args.shared.now).table
          c.args.seats c.loop-seat.dealer.me
          c.seat_one.new.dealer.me c.loop-seat.handles.items c.push.new.self.items
          (into_iter_items c.loop-seat.seat-iterator) (into_iter_items c.next.new.self)
          c.in-Some.seat
          c.loop-seat.invariant.3 left pushed (search rules),
    )

pub returns-clause-keeper : goal.returns-clause-keeper
returns-clause-keeper c =
    let all = all_dealt (arc_value c.args.shared.now).cache (arc_value c.args.shared.now).table
    c.args.seats c.loop-seat.dealer.me c.loop-seat.handles.items
    (into_iter_items c.loop-seat.seat-iterator) c.loop-seat.invariant.3 (search rules) in (
      record {
        its_table = c.loop-seat.invariant.2;
        all = c.requires.seats;
        known = all.1;
        some = omega arith;
        any = c.requires.any;
      },
      all.2,
    )

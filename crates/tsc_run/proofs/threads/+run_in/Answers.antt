-- Proves the contract of `run_in`.
use Rattle.std.proofs.Common.{◌≡◌, ◌∙◌, [], ap, subst, arith, ◌<◌, length, rules}
use Rattle.tsc_shared.specs.Seats.{SeatView}
use Rattle.tsc_trace_format.specs.Traces.{AllFit, EachFits}
use Rattle.std.proofs.lemmas.List.{length-map}
use Rattle.tsc_run.specs.Runs.{EndsList}
use Rattle.tsc_run.proofs.Running.{as_many_seats, calls_in, seat_taken, last_fits, first_fits, fewer, first_all, last_all}
use Rattle.tsc_run.proofs.Seating.{one_list_joined, no_lists}
use Rattle.tsc_run.proofs.threads.+run_in.Goals as goal

pub start_list-requires : goal.start_list-requires
start_list-requires g t c =
    let cache = c.args.run.now.cache.now in
    let others = c.in-Some-split_last.others.now in
    let calls = c.in-Some-split_last.calls.now in
    let parted = c.in-Some-split_last.ensures.some in
    let taken = seat_taken cache c.args.seats.items c.pop.new.self.items c.in-Some.seat
    c.args.lists.now others calls c.requires.seats c.in-Some.ensures.items parted in (
      search rules,
      (
        search rules,
        record {
          cache = ap (λ (s : SeatView). s.cache) taken.1;
          calls = last_fits (calls_in c.args.lists.now) (calls_in others) calls parted c.requires.calls;
          fits = last_all (EachFits cache.config) (calls_in others) calls
              (subst (AllFit cache.config) parted c.requires.fits);
        },
      ),
    )

pub run_in-runs-requires : goal.run_in-runs-requires
run_in-runs-requires g t c κs within =
    let lists = c.args.lists.now in let others = c.in-Some-split_last.others.now in let calls =
    c.in-Some-split_last.calls.now in let parted = c.in-Some-split_last.ensures.some in
    let taken = seat_taken c.args.run.now.cache.now c.args.seats.items c.pop.new.self.items c.in-Some.seat
    lists others calls c.requires.seats c.in-Some.ensures.items parted in
    let config = c.args.run.now.cache.now.config in
    let few = first_fits (calls_in lists) (calls_in others) calls parted c.requires.calls in
    let fit = first_all (EachFits config) (calls_in others) calls
    (subst (AllFit config) parted c.requires.fits) in
    let less = subst (λ n. length others < n) c.decreases (fewer lists others calls parted) in (
      less,
      (
        search rules,
        (
          search rules,
          (search rules, (search rules, (search rules, record { seats = taken.0; calls = few; fits = fit }))),
        ),
      ),
    )

pub unreachable-requires-in_default-push : goal.unreachable-requires-in_default-push
unreachable-requires-in_default-push g t c =
    let others = c.in-Some-split_last.others.now in
    let fewer_lists = fewer c.args.lists.now others c.in-Some-split_last.calls.now
    c.in-Some-split_last.ensures.some in
    let all : length c.args.seats.items ≡ length c.args.lists.now = ap length c.requires.seats ∙
    as_many_seats c.args.run.now.cache.now 0 (length c.args.lists.now) in
    let back = c.in_ok-seats.ensures.runs.as_many ∙ length-map others (λ calls. calls.items) in
    omega (
      arith,
      all,
      back,
      fewer_lists,
      c.in_default-push.ensures.full,
      c.in_ok-seats.ensures.room,
      c.pop.ensures.capacity,
    )

pub returns-clause-runs : goal.returns-clause-runs
returns-clause-runs g t c =
    let others = c.in-Some-split_last.others.now in let calls =
    c.in-Some-split_last.calls.now in let parted = c.in-Some-split_last.ensures.some in
    let taken = seat_taken c.args.run.now.cache.now c.args.seats.items c.pop.new.self.items c.in-Some.seat
    c.args.lists.now others calls c.requires.seats c.in-Some.ensures.items parted in
    let from = c.in_ok-child.child.promise.seat.value in let run = c.join-last.result in
    let end = subst (λ calls. EndsList from calls run.reported run.seat) c.in_ok-child.ensures.calls
    c.join-last.ensures in
    one_list_joined c.args.run.now.cache.now c.args.lists.now others calls c.in_ok-seats.field-0.reported
    run.reported c.joined.result c.in_ok-seats.field-0.seats.items c.push.new.self.items from
    run.seat
    parted (c.in_ok-child.ensures.seat ∙ taken.1) c.in_ok-seats.ensures.runs end c.joined.ensures
    c.in-Ok.ensures.items

pub returns-in_default-clause-runs : goal.returns-in_default-clause-runs
returns-in_default-clause-runs g t c =
    let none : c.pop.new.self.items ≡ [] = search rules in
    no_lists c.args.run.now.cache.now c.args.lists.now c.new.result c.args.seats.items c.pop.new.self.items
    c.requires.seats c.in_default.ensures.items none c.new.ensures.items

pub returns-clause-room : goal.returns-clause-room
returns-clause-room g t c = omega (
  arith,
  c.pop.ensures.capacity,
  c.in_ok-seats.ensures.room,
  c.in-Ok.ensures.capacity,
)

-- Proves the contract of `SharedCache::add_fitting`. Makes an Add that fits.
use Rattle.std.proofs.Common.{◌≡◌, ◌∙◌, refl, sym, ap, subst, arith}
use Rattle.tsc_cache.specs.History.{CanAllBeAdded}
use Rattle.tsc_shared.specs.Copying.{marks_asked}
use Rattle.tsc_left_right.specs.Steps.{seen_of}
use Rattle.tsc_shared.specs.declared.answers.Receipt.{Receipt}
use Rattle.tsc_shared.specs.Seats.{SharedView, SeatView, IsSeat}
use Rattle.tsc_shared.specs.Keeping.{cache_of, seat_view}
use Rattle.tsc_shared.specs.Answers.{Accepts, GoesOn}
use Rattle.tsc_shared.proofs.SeatSteps.{rests_added, rests_unadded, kept_added, kept_unadded, kept_same, same_seat, goes_nowhere, count_below, place_below}
use Rattle.tsc_shared.proofs.Endings.{terms_of}
use Rattle.tsc_shared.proofs.Holding.{of_table, accepts_made, why_refused, gives_up, not_too_large, fault_fits}
use Rattle.tsc_shared.proofs.Replicating.{can_copy}
use Rattle.tsc_shared.proofs.shared.SharedCache.add_fitting.Goals as goal

pub apply_by-outcome-requires-clause-seat : goal.apply_by-outcome-requires-clause-seat
apply_by-outcome-requires-clause-seat g c =
    let cache : c.seat.inside.participant.table_id ≡ c.self.inside.replicas.shared.table_id =
    ap (λ (s : SeatView). s.cache.table) c.seat.view_is ∙
    ap (λ (x : SharedView). x.table) (c.requires.cache ∙ sym c.self.view_is) in (
      record {
        of = of_table c.seat.inside.participant c.self.inside.replicas.shared.table_id cache
            c.seat.invariant.sized;
        setup_is = ap terms_of (c.self.view_is ∙ sym c.requires.cache ∙
            sym (ap (λ (s : SeatView). s.cache) c.seat.view_is));
        number_is = (
          c.seat.invariant.number_kept,
          omega (arith, c.seat.invariant.number_kept, c.seat.invariant.seat.number),
        );
      },
      c.seat.invariant.rest,
    )

pub apply_by-outcome-requires-clause-make : goal.apply_by-outcome-requires-clause-make
apply_by-outcome-requires-clause-make g c =
    can_copy c.self.inside.setup (marks_asked c.args.asked.now.marks) c.args.asked.now.moment
    (subst (λ (x : SharedView). CanAllBeAdded x.config (marks_asked c.args.asked.now.marks)
    c.args.asked.now.moment) (sym c.self.view_is) c.requires.made)

pub apply_by-outcome-requires-clause-unreported : goal.apply_by-outcome-requires-clause-unreported
apply_by-outcome-requires-clause-unreported g c = c.requires.unreported

pub invariant_of-seat : goal.invariant_of-seat
invariant_of-seat g c =
    kept_same c.seat.inside.participant c.apply_by-outcome.new.who c.seat.inside.number
    c.seat.inside.count c.seat.inside.seen c.seat.invariant c.apply_by-outcome.ensures.table
    (c.in-Busy.ensures.outcome.is.0 ∙ sym c.seat.invariant.rest)

pub overflow_add-seat : goal.overflow_add-seat
overflow_add-seat g c =
    let a = c.in-Made.ensures.outcome.is in
    omega (
      arith,
      count_below c.seat.inside.participant c.apply_by-outcome.new.who.me a.0
          c.in-Made.place c.in-Made.added c.seat.inside.number c.seat.inside.count
          c.seat.inside.seen
          c.seat.invariant a.2,
      ap (λ (s : SeatView). s.cache.limit) c.seat.view_is ∙
          ap (λ (x : SharedView). x.limit) (c.requires.cache ∙ sym c.self.view_is),
    )

pub overflow_add-seat-in-Made : goal.overflow_add-seat-in-Made
overflow_add-seat-in-Made g c =
    let a = c.in-Made.ensures.outcome.is in
    omega (
      arith,
      place_below c.seat.inside.participant c.apply_by-outcome.new.who.me a.0
          c.in-Made.place c.in-Made.added a.2,
      ap (λ (s : SeatView). s.cache.limit) c.seat.view_is ∙
          ap (λ (x : SharedView). x.limit) (c.requires.cache ∙ sym c.self.view_is),
    )

pub invariant_of-seat-in-Made : goal.invariant_of-seat-in-Made
invariant_of-seat-in-Made g c =
    let a = c.in-Made.ensures.outcome.is in
    kept_added c.seat.inside.participant c.apply_by-outcome.new.who a.0 c.in-Made.place
    c.in-Made.added c.seat.inside.number c.seat.inside.count c.seat.inside.seen c.seat.invariant
    c.apply_by-outcome.ensures.table a.2

pub receipt-requires : goal.receipt-requires
receipt-requires g c =
    let a = c.in-Made.ensures.outcome.is in
    let r = rests_added c.seat.inside.participant c.apply_by-outcome.new.who a.0 c.in-Made.place
    c.in-Made.added c.seat.invariant.seat c.apply_by-outcome.ensures.table a.2 in
    record { cache = r.cache ∙ ap (λ (s : SeatView). s.cache) c.seat.view_is ∙ c.requires.cache }

pub invariant_of-seat-in-Refused : goal.invariant_of-seat-in-Refused
invariant_of-seat-in-Refused g c =
    kept_unadded c.seat.inside.participant c.apply_by-outcome.new.who _ c.in-Refused.seen
    c.in-Refused.why c.seat.inside.number c.seat.inside.count c.seat.inside.seen
    c.seat.invariant c.apply_by-outcome.ensures.table c.in-Refused.ensures.outcome.is

pub fault-requires : goal.fault-requires
fault-requires g c =
    let r = rests_unadded c.seat.inside.participant c.apply_by-outcome.new.who _ c.in-Refused.seen
    c.in-Refused.why c.seat.invariant.seat c.apply_by-outcome.ensures.table
    c.in-Refused.ensures.outcome.is in
    record { cache = r.cache ∙ ap (λ (s : SeatView). s.cache) c.seat.view_is ∙ c.requires.cache }

pub returns-in-Busy : goal.returns-in-Busy
returns-in-Busy g c =
    let same = same_seat c.seat.inside.participant c.apply_by-outcome.new.who
    c.apply_by-outcome.ensures.table
    (c.in-Busy.ensures.outcome.is.0 ∙ sym c.seat.invariant.rest) ∙ c.seat.view_is in record {
      reported_is = c.in-Busy.ensures.outcome.reported_is;
      gate = tt;
      accepted = tt;
      seat = subst (λ (new : SeatView). GoesOn c.args.seat.now new) (sym same)
          (goes_nowhere c.args.seat.now (subst IsSeat c.seat.view_is c.seat.invariant.seat));
      refused = record { count = ap (λ (s : SeatView). s.count) same };
      why = same;
      fits = not_too_large _ refl;
      ended = c.in-Busy.ensures.outcome.is.1;
      no_tries = λ none. refl;
    }

pub returns-in-Made : goal.returns-in-Made
returns-in-Made g c =
    let a = c.in-Made.ensures.outcome.is in
    let r = rests_added c.seat.inside.participant c.apply_by-outcome.new.who a.0 c.in-Made.place
    c.in-Made.added c.seat.invariant.seat c.apply_by-outcome.ensures.table a.2 in
    let receipt : Receipt = record {
      place = c.in-Made.place;
      added = c.in-Made.added;
      front = record {
        cache = cache_of c.apply_by-outcome.new.who;
        seen = seen_of c.apply_by-outcome.new.who.me.0;
      };
    } in record {
      reported_is = c.in-Made.ensures.outcome.reported_is;
      gate = subst (g.G.Gate.HasReported c.args.notice.now.gate.now)
          (c.seat.invariant.number_kept ∙ ap (λ (s : SeatView). s.number) c.seat.view_is)
          (c.in-Made.ensures.outcome.gate refl);
      accepted = subst (λ (r : Receipt). Accepts c.args.seat.now c.receipt.new.seat
          (marks_asked c.args.asked.now.marks) c.args.asked.now.moment r)
          (sym c.receipt.ensures.receipt)
          (accepts_made c.seat.inside.participant c.apply_by-outcome.new.who
          (marks_asked c.args.asked.now.marks) c.args.asked.now.moment a.0
          receipt c.args.seat.now c.receipt.new.seat c.seat.view_is c.receipt.ensures.same
          c.seat.invariant.seat c.apply_by-outcome.ensures.table a.1 a.2 refl);
      seat = subst (λ (new : SeatView). GoesOn c.args.seat.now new) (sym c.receipt.ensures.same)
          (subst (λ (old : SeatView). GoesOn old (seat_view c.apply_by-outcome.new.who))
          c.seat.view_is r.goes_on);
      refused = tt;
      why = tt;
      fits = not_too_large _ refl;
      ended = tt;
      no_tries = λ none. absurd (c.in-Made.ensures.no_tries none);
    }

pub returns-in-Refused : goal.returns-in-Refused
returns-in-Refused g c =
    let n = c.in-Refused.ensures.outcome.is in
    let r = rests_unadded c.seat.inside.participant c.apply_by-outcome.new.who _ c.in-Refused.seen
    c.in-Refused.why c.seat.invariant.seat c.apply_by-outcome.ensures.table n in record {
      reported_is = c.in-Refused.ensures.outcome.reported_is;
      gate = tt;
      accepted = tt;
      seat = subst (λ (new : SeatView). GoesOn c.args.seat.now new) (sym c.fault.ensures.same)
          (subst (λ (old : SeatView). GoesOn old (seat_view c.apply_by-outcome.new.who))
          c.seat.view_is r.goes_on);
      refused = record {
        count = ap (λ (s : SeatView). s.count) c.fault.ensures.same ∙ r.counted ∙
            ap (λ (s : SeatView). s.count) c.seat.view_is;
      };
      why = why_refused c.seat.inside.participant c.apply_by-outcome.new.who _ c.in-Refused.seen
          c.in-Refused.why c.fault.result c.args.seat.now c.fault.new.seat c.seat.view_is
          c.fault.ensures.same c.apply_by-outcome.ensures.table c.seat.invariant.seat n
          c.fault.ensures.fault;
      fits = fault_fits c.in-Refused.why _ c.fault.result c.fault.ensures.fault;
      ended = gives_up c.seat.inside.participant.me.0 c.apply_by-outcome.new.who.me _
          c.in-Refused.seen c.in-Refused.why _ c.fault.result n c.fault.ensures.fault;
      no_tries = λ none. absurd (c.in-Refused.ensures.no_tries none);
    }

-- What the cache said of the Add that was tried, or would have said where there was no memory.
use Rattle.std.proofs.Common.{◌≡◌, sym, subst, true, rules}
use Rattle.std.specs.Prelude.{Result, Err}
use Rattle.tsc_span.specs.Span.{SpanView}
use Rattle.tsc_cache.specs.ConfigView.{fits}
use Rattle.tsc_ffi_store.specs.declared.refusal.Refusal.{Refusal}
use Rattle.tsc_ffi_store.specs.Decode.{asked_add, added_of, NamesAdd}
use Rattle.tsc_ffi_store.specs.Kinds.{ByKind, config_of}
use Rattle.tsc_ffi_store.specs.SeatCalls.{AnswersTriedAdd}
use Rattle.tsc_ffi_store.specs.StripedCalls.{AnswersStripedTriedAdd}
use Rattle.tsc_ffi_store.proofs.Adding.{one_lacks, one_refused}
use Rattle.tsc_ffi_store.proofs.SpansAsked.{the_same}
use Rattle.tsc_ffi_store.proofs.seat_requests.try_add_to_seat.Goals as goal

pub returns-in_default-clause-answers : goal.returns-in_default-clause-answers
returns-in_default-clause-answers c =
    let span = c.in_ok-added_span.field-0 in
    let names : NamesAdd (asked_add c.args.args.now) span = record {
      value_time = c.in_ok-value.ensures.in_range;
      moment = c.in_ok-moment.ensures.in_range;
      names = c.in_ok-added_span.ensures.names;
    } in
    let fit : fits (config_of c.args.seat.now.seat) span ≡ true = search rules in
    one_lacks (asked_add c.args.args.now) span c.without_memory.result c.args.place.now
    (added_of c.args.out.now) c.args.seat.now.seat c.without_memory.new.self.seat names fit
    c.without_memory.ensures.lacks

pub returns-in_err-placed-clause-answers : goal.returns-in_err-placed-clause-answers
returns-in_err-placed-clause-answers c =
    let asked = asked_add c.args.args.now in
    let looked_at : fits (config_of c.args.seat.now.seat) c.in_ok-added_span.field-0 ≡ true =
    search rules in
    let same : c.in_ok-added_span.field-0 ≡ c.in-Ok.span =
    the_same c.in_ok-added_span.ensures.names.named c.in-Ok.ensures.names.named in
    let fit : fits (config_of c.args.seat.now.seat) c.in-Ok.span ≡ true =
    subst (λ (s : SpanView). fits (config_of c.args.seat.now.seat) s ≡ true) same looked_at in
    let names : NamesAdd asked c.in-Ok.span = record {
      value_time = c.in_ok-value.ensures.in_range;
      moment = c.in_ok-moment.ensures.in_range;
      names = c.in-Ok.ensures.names;
    } in
    let is : c.from_residual-in_err-placed.result ≡ Err c.in_err-placed.field-0.0 = search rules in
    subst (λ (r : Result (Unit {0}) Refusal). ByKind
    (AnswersTriedAdd asked c.args.place.now (added_of c.args.out.now))
    (AnswersStripedTriedAdd asked c.args.place.now (added_of c.args.out.now)) c.args.seat.now.seat
    c.try_add.new.self.seat r) (sym is)
    (one_refused asked c.in-Ok.span c.in_ok-value.value c.in_ok-moment.moment c.args.tries
    c.in_err-placed.field-0.0 c.args.place.now (added_of c.args.out.now) c.args.seat.now.seat
    c.try_add.new.self.seat names fit c.in_err-placed.ensures.answers)

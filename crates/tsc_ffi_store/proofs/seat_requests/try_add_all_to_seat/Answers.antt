-- What the cache said of the Add that was tried, or would have said where there was no memory.
use Rattle.std.proofs.Common.{◌≡◌, sym, subst, List, true, rules}
use Rattle.std.specs.Prelude.{Result, Ok, Err}
use Rattle.tsc_time.specs.Time.{Time}
use Rattle.tsc_page_model.specs.Page.{Mark}
use Rattle.tsc_cache.specs.ConfigView.{ConfigView}
use Rattle.tsc_cache.specs.Batch.{all_fit}
use Rattle.tsc_ffi_store.specs.declared.refusal.Refusal.{Refusal}
use Rattle.tsc_ffi_store.specs.Decode.{asked_batch, added_of}
use Rattle.tsc_ffi_store.specs.Marks.{AreMarks, NamesAddAll}
use Rattle.tsc_ffi_store.specs.Kinds.{ByKind, config_of}
use Rattle.tsc_ffi_store.specs.SeatCalls.{AnswersTriedAddAll}
use Rattle.tsc_ffi_store.specs.StripedCalls.{AnswersStripedTriedAll}
use Rattle.tsc_ffi_store.proofs.Adding.{TriesAll, all_added, all_lacks, all_refused}
use Rattle.tsc_ffi_store.proofs.MarksMade.{same_marks}
use Rattle.tsc_ffi_store.proofs.seat_requests.try_add_all_to_seat.Goals as goal

pub returns-in_default-clause-answers : goal.returns-in_default-clause-answers
returns-in_default-clause-answers c =
    let asks = c.in_ok-check_marks.ensures.fit in
    let names : NamesAddAll (asked_batch c.args.args.now) asks.marks =
    record { moment = c.in_ok-moment.ensures.in_range; are = asks.are } in
    let fit : all_fit (config_of c.args.seat.now.seat) asks.marks ≡ true =
    subst (λ (s : ConfigView). all_fit s asks.marks ≡ true) c.config.ensures asks.fit_is in
    all_lacks (asked_batch c.args.args.now) asks.marks c.without_memory.result c.args.place.now
    (added_of c.args.out.now) c.args.seat.now.seat c.without_memory.new.self.seat names fit
    c.without_memory.ensures.lacks

pub returns-in_err-placed-clause-answers : goal.returns-in_err-placed-clause-answers
returns-in_err-placed-clause-answers c =
    let asked = asked_batch c.args.args.now in
    let asks = c.in_ok-check_marks.ensures.fit in
    let are = subst (AreMarks c.args.args.now.keys.now c.args.args.now.marks.now)
    (sym c.deref.ensures.value) c.in-Ok.ensures.value in
    let names : NamesAddAll asked c.deref.result.now =
    record { moment = c.in_ok-moment.ensures.in_range; are = are } in
    let looked_at : all_fit (config_of c.args.seat.now.seat) asks.marks ≡ true =
    subst (λ (s : ConfigView). all_fit s asks.marks ≡ true) c.config.ensures asks.fit_is in
    let fit = subst (λ (ms : List Mark). all_fit (config_of c.args.seat.now.seat) ms ≡ true)
    (same_marks c.args.args.now.keys.now c.args.args.now.marks.now asks.marks c.deref.result.now
    asks.are are) looked_at in
    let is : c.from_residual-in_err-placed.result ≡ Err c.in_err-placed.field-0.0 = search rules in
    subst (λ (r : Result (Unit {0}) Refusal). ByKind
    (AnswersTriedAddAll asked c.args.place.now (added_of c.args.out.now))
    (AnswersStripedTriedAll asked c.args.place.now (added_of c.args.out.now)) c.args.seat.now.seat
    c.try_add_all.new.self.seat r) (sym is)
    (all_refused asked c.deref.result.now c.in_ok-moment.moment c.args.tries
    c.in_err-placed.field-0.0 c.args.place.now (added_of c.args.out.now) c.args.seat.now.seat
    c.try_add_all.new.self.seat names fit c.in_err-placed.ensures.answers)

pub returns-clause-answers : goal.returns-clause-answers
returns-clause-answers c =
    let asked = asked_batch c.args.args.now in
    let asks = c.in_ok-check_marks.ensures.fit in
    let are = subst (AreMarks c.args.args.now.keys.now c.args.args.now.marks.now)
    (sym c.deref.ensures.value) c.in-Ok.ensures.value in
    let names : NamesAddAll asked c.deref.result.now =
    record { moment = c.in_ok-moment.ensures.in_range; are = are } in
    let looked_at : all_fit (config_of c.args.seat.now.seat) asks.marks ≡ true =
    subst (λ (s : ConfigView). all_fit s asks.marks ≡ true) c.config.ensures asks.fit_is in
    let fit = subst (λ (ms : List Mark). all_fit (config_of c.args.seat.now.seat) ms ≡ true)
    (same_marks c.args.args.now.keys.now c.args.args.now.marks.now asks.marks c.deref.result.now
    asks.are are) looked_at in
    let did : TriesAll c.deref.result.now asked.moment c.args.tries c.args.seat.now.seat
    c.try_add_all.new.self.seat (Ok c.in_ok-placed.placed) =
    subst (λ (t : Time). TriesAll c.deref.result.now t c.args.tries c.args.seat.now.seat
    c.try_add_all.new.self.seat (Ok c.in_ok-placed.placed)) c.in_ok-moment.ensures.value
    c.in_ok-placed.ensures.answers in
    all_added asked c.deref.result.now c.args.tries c.in_ok-placed.placed
    (added_of c.words_of_added.result) c.args.seat.now.seat c.try_add_all.new.self.seat names fit
    c.words_of_added.ensures did

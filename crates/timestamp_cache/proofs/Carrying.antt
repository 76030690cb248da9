-- What one seat added is in what another has seen that learned a front of it.
use Rattle.std.proofs.Common.{sym, subst, List}
use Rattle.std.specs.List.{Contains}
use Rattle.std.proofs.lemmas.List.Elements.{Contains-append_left}
use Rattle.tsc_time.specs.ValueView.{ValueView}
use Rattle.tsc_span.specs.Span.{SpanView}
use Rattle.tsc_page_model.specs.Page.{Mark}
use Rattle.tsc_cache.specs.declared.history.Entry.{Entry}
use Rattle.tsc_cache.specs.History.{History, BeginsWith}
use Rattle.tsc_shared.specs.Seats.{SeatView, FrontView}
use Rattle.tsc_shared.specs.Answers.{entry_by}
use Rattle.timestamp_cache.specs.Laws.{Carries, ReadsAreCarried}

-- an entry of a beginning is one of the whole
still_there : (h start : History) (e : Entry) → BeginsWith h start → Contains start e → Contains h e
still_there h start e begins there =
    subst (λ (g : History). Contains g e) (sym begins.1)
    (Contains-append_left start begins.0 e there)

-- the entry of an Add is there where its front was learned
carried : (adder added guest reported later : SeatView) (ms : List Mark) (span : SpanView)
    (answer : ValueView) → (c : Carries adder added guest reported later ms span answer) →
    Contains later.seen (entry_by adder ms c.now)
carried adder added guest reported later ms span answer c =
    let e : Entry = entry_by adder ms c.now in
    let shown : Contains c.receipt.front.seen e =
    subst (λ (f : FrontView). Contains f.seen e) (sym c.adds.front) c.adds.there in
    still_there later.seen reported.seen e c.goes_on.begins
    (still_there reported.seen c.front.seen e c.learns.begins
    (still_there c.front.seen c.receipt.front.seen e c.shows shown))

pub reads_are_carried : ReadsAreCarried
reads_are_carried = record {
  bounded = λ adder added guest reported later ms span answer m c own over.
      c.above.adds (entry_by adder ms c.now) m
      (carried adder added guest reported later ms span answer c) own over;
  clear = λ adder added guest reported later ms span answer m by at c own over clear.
      c.above.clear by at clear (entry_by adder ms c.now) m
      (carried adder added guest reported later ms span answer c) own over;
}

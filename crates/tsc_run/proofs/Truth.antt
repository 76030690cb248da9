-- The lines of lists' runs are a run of the trace, where one legal history begins with all that the
-- seats have seen, and has just their Adds.
use Rattle.std.proofs.Common.{◌≡◌, ◌≢◌, ◌⊎◌, ◌∙◌, inl, inr, refl, sym, ap, subst, Bool, true, false, ℕ, zero, suc, ◌+◌, ◌<◌, ◌≤◌, List, [], ◌∷◌, ◌++◌, length, append_assoc, append-nil, length-append, Some, arith, All}
use Rattle.std.specs.Prelude.{◌==◌, cond}
use Rattle.std.proofs.lemmas.Bool.Decides.{nat_tests}
use Rattle.std.proofs.lemmas.List.Sums.{sum_by-cons}
use Rattle.std.proofs.lemmas.List.Elements.{All-head, All-tail}
use Rattle.tsc_cache.specs.ConfigView.{ConfigView}
use Rattle.tsc_cache.specs.declared.history.Entry.{Entry}
use Rattle.tsc_cache.specs.History.{History, own_count, state_of, BeginsWith, IsLegal}
use Rattle.tsc_trace_format.specs.Calls.{Addition, one_mark, several_marks, adds}
use Rattle.tsc_trace_format.specs.declared.trace.Call.{Call}
use Rattle.tsc_trace_format.specs.declared.trace.Call.TheVariants.{Add, Batch, Get, Low}
use Rattle.tsc_trace_format.specs.Traces.{Trace}
use Rattle.tsc_trace.specs.Log.{made, said_after, entry_after, with_addition, after_call}
use Rattle.tsc_trace.specs.declared.log.Line.{Line}
use Rattle.tsc_trace.specs.declared.log.CallAnswer.{CallAnswer}
use Rattle.tsc_trace.specs.declared.log.CallAnswer.TheVariants as said
use Rattle.tsc_check.specs.Verdict.{reach}
use Rattle.tsc_check.specs.TrueLog.{AreTrueLines, AreTrueLists, IsRunOf, adds_of_list, adds_of_lists}
use Rattle.tsc_shared.specs.Seats.{SharedView, SeatView, new_seat}
use Rattle.tsc_shared.specs.Answers.{GoesOn, Accepts, Closes, entry_by}
use Rattle.tsc_shared.specs.declared.answers.Receipt.{Receipt}
use Rattle.tsc_shared.specs.declared.answers.Closed.{Closed}
use Rattle.tsc_cache.proofs.Beginnings.{begins_itself, begins_on}
use Rattle.tsc_left_right.proofs.Prefixes.{begins_length, own_append, own_of_one, own_of_other}
use Rattle.tsc_shared.specs.Caches.{caches}
use Rattle.tsc_run.specs.Runs.{AnswersCall, Runs, RunsAll}

-- ---- each line

same_line : (line : Line) (thread index : ℕ) (answer : CallAnswer) → line.thread ≡ thread →
    line.index ≡ index → line.said ≡ answer →
    line ≡ record { thread = thread; index = index; said = answer }
same_line line thread index answer a b c =
    ap (λ (t : ℕ). record { thread = t; index = line.index; said = line.said }) a ∙
    ap (λ (i : ℕ). record { thread = thread; index = i; said = line.said }) b
    ∙ ap (λ (s : CallAnswer). record { thread = thread; index = index; said = s }) c

-- an addition whose answer has this place, after a first part of what its seat has seen then
record IsTaken (old mid : SeatView) (a : Addition) (receipt : Receipt) : Type 0 where
  before : History
  place : receipt.place ≡ length before
  added : receipt.added ≡ (made old.cache.config (state_of old.cache.config before) a).added
  part : BeginsWith mid.seen (with_addition old.number before (Some a))
  later : length old.seen ≤ length before
  reached : suc receipt.place ≡ length mid.seen

taken : (old mid : SeatView) (a : Addition) (receipt : Receipt) → GoesOn old mid →
    Accepts old mid a.marks a.now receipt → IsTaken old mid a receipt
taken old mid a receipt goes acc =
    let e : Entry = entry_by old a.marks a.now in
    let next = goes.is_seat.legal acc.before e
    ([], acc.seen ∙ sym (append-nil (acc.before ++ e ∷ []))) in
    let own : Entry = entry_after old.number acc.before a in
    record {
      before = acc.before;
      place = acc.place;
      added = acc.added;
      part = (
        [],
        acc.seen ∙ ap (λ (n : ℕ). acc.before ++
            record { seat = old.number; number = n; marks = a.marks; now = a.now } ∷ []) next.number ∙
            sym (append-nil (acc.before ++ own ∷ [])),
      );
      later = begins_length acc.before old.seen acc.begins;
      reached = omega (arith, acc.place, ap length acc.seen, length-append acc.before (e ∷ []));
    }

-- What a call was answered is what it answers after a first part of what its seat has seen then,
-- and reaches just what it has seen then.
record IsReported (old mid : SeatView) (call : Call) (answer : CallAnswer) : Type 0 where
  before : History
  reported : answer ≡ said_after old.cache.config before call
  part : BeginsWith mid.seen (after_call old.number before call)
  later : length old.seen ≤ length before
  reached : reach answer ≡ length mid.seen
  count : mid.count ≡ old.count + cond (adds call) 1 0

is_reported : (old mid : SeatView) (call : Call) (answer : CallAnswer) → GoesOn old mid →
    AnswersCall old mid call answer → IsReported old mid call answer
is_reported old mid (Add span value now) (said.Add place added) goes says =
    let t = taken old mid (one_mark span value now)
    (record { place = place; added = added; front = says.0 }) goes says.1 in
    let at = t.place in
    let what = t.added in
    record {
      before = t.before;
      reported = λ i. said.Add (at i) (what i);
      part = t.part;
      later = t.later;
      reached = t.reached;
      count = says.1.count;
    }
is_reported old mid (Batch marks now) (said.Batch place added) goes says =
    let t = taken old mid (several_marks marks now)
    (record { place = place; added = added; front = says.0 }) goes says.1 in
    let at = t.place in
    let what = t.added in
    record {
      before = t.before;
      reported = λ i. said.Batch (at i) (what i);
      part = t.part;
      later = t.later;
      reached = t.reached;
      count = says.1.count;
    }
is_reported old mid (Get span) (said.Get front value) goes says = record {
  before = mid.seen;
  reported = ap (λ n. said.Get n value) says.front ∙ ap (said.Get (length mid.seen)) says.value;
  part = begins_itself mid.seen;
  later = begins_length mid.seen old.seen goes.begins;
  reached = says.front;
  count = omega (arith, says.count);
}
is_reported old mid Low (said.Low front time) goes says = record {
  before = mid.seen;
  reported = ap (λ n. said.Low n time) says.front ∙ ap (said.Low (length mid.seen)) says.time;
  part = begins_itself mid.seen;
  later = begins_length mid.seen old.seen goes.begins;
  reached = says.front;
  count = omega (arith, says.count);
}
is_reported old mid call answer goes says = absurd says

-- an Add that is accepted counts
pub count_after : (old mid : SeatView) (call : Call) (answer : CallAnswer) → GoesOn old mid →
    AnswersCall old mid call answer → mid.count ≡ old.count + cond (adds call) 1 0
count_after old mid call answer goes says = (is_reported old mid call answer goes says).count

-- ---- each list

went_on : (start seat : SeatView) (index : ℕ) (calls : List Call) (lines : List Line) →
    Runs start index calls lines seat → BeginsWith seat.seen start.seen
went_on start seat index [] [] run =
    subst (λ s. BeginsWith s.seen start.seen) (sym run) (begins_itself start.seen)
went_on start seat index [] (line ∷ lines) run = absurd run
went_on start seat index (call ∷ calls) [] run = absurd run
went_on start seat index (call ∷ calls) (line ∷ lines) run =
    begins_on seat.seen run.2.seen start.seen (went_on run.2 seat (suc index) calls lines run.5)
    run.3.begins

true_lines : (config : ConfigView) (h : History) (start seat : SeatView) (thread index : ℕ)
    (calls : List Call) (lines : List Line) → start.cache.config ≡ config →
    start.number ≡ thread → BeginsWith h seat.seen
    → Runs start index calls lines seat →
    AreTrueLines config h thread index (length start.seen) calls lines
true_lines config h start seat thread index [] [] set num begins run = tt
true_lines config h start seat thread index [] (line ∷ lines) set num begins run = run
true_lines config h start seat thread index (call ∷ calls) [] set num begins run = run
true_lines config h start seat thread index (call ∷ calls) (line ∷ lines) set num begins run =
    let mid = run.2 in
    let reported = is_reported start mid call line.said run.3 run.4 in
    let seen : BeginsWith h mid.seen =
    begins_on h seat.seen mid.seen begins (went_on mid seat (suc index) calls lines run.5) in
    let rest = true_lines config h mid seat thread (suc index) calls lines
    (ap (λ (c : SharedView). c.config) run.3.cache ∙ set) (run.3.number ∙ num) begins run.5 in (
      record {
        before = reported.before;
        reported = same_line line thread index (said_after config reported.before call)
            (run.0 ∙ num)
            run.1 (reported.reported ∙ ap (λ s. said_after s reported.before call) set);
        part = begins_on h mid.seen (after_call thread reported.before call) seen
            (subst (λ n. BeginsWith mid.seen (after_call n reported.before call)) num
            reported.part);
        later = reported.later;
      },
      subst (λ n. AreTrueLines config h thread (suc index) n calls lines) (sym reported.reached)
          rest,
    )

true_lists : (cache : SharedView) (h : History) (thread : ℕ) (lists : List (List Call))
    (lines : List Line) (seats : List SeatView) →
    All (λ (seat : SeatView). BeginsWith h seat.seen) seats
    → RunsAll cache thread lists lines seats → AreTrueLists cache.config h thread lists lines
true_lists cache h thread [] lines [] begin runs = runs
true_lists cache h thread [] lines (s ∷ seats) begin runs = absurd runs
true_lists cache h thread (calls ∷ lists) lines [] begin runs = absurd runs
true_lists cache h thread (calls ∷ lists) lines (s ∷ seats) begin runs = (
  runs.0,
  runs.1,
  runs.2,
  true_lines cache.config h (new_seat cache thread) s thread 0 calls runs.0 refl refl
      (All-head (λ (seat : SeatView). BeginsWith h seat.seen) s seats begin) runs.3,
  true_lists cache h (suc thread) lists runs.1 seats
      (All-tail (λ (seat : SeatView). BeginsWith h seat.seen) s seats begin) runs.4,
)

-- ---- how many Adds there are

-- how many entries so many seats have, from a number on
abbrev of_seats : ℕ → ℕ → History → ℕ
of_seats from zero h = 0
of_seats from (suc others) h = own_count from h + of_seats (suc from) others h

none_at_all : (from n : ℕ) → of_seats from n [] ≡ 0
none_at_all from zero = refl
none_at_all from (suc n) = omega (arith, none_at_all (suc from) n)

same_or_not : (a b : ℕ) → (a ≡ b) ⊎ (a ≢ b)
same_or_not a b = by_test (a == b) refl
  where
    by_test : (t : Bool) → (a == b) ≡ t → (a ≡ b) ⊎ (a ≢ b)
    by_test true is = inl (grind (arith, nat_tests))
    by_test false is = inr (grind (arith, nat_tests))

of_later_seats : (from n : ℕ) (e : Entry) (h : History) → e.seat < from →
    of_seats from n (e ∷ h) ≡ of_seats from n h
of_later_seats from zero e h below = refl
of_later_seats from (suc n) e h below =
    omega (
      arith,
      own_append caches from (e ∷ []) h,
      own_of_other caches from e (λ same. omega (arith, same)),
      of_later_seats (suc from) n e h (omega arith),
    )

of_one_of_them : (from n : ℕ) (e : Entry) (h : History) → from ≤ e.seat → e.seat < from + n →
    of_seats from n (e ∷ h) ≡ suc (of_seats from n h)
of_one_of_them from zero e h low high = absurd (omega arith)
of_one_of_them from (suc n) e h low high =
    elim (same_or_not e.seat from) [
      | inl same ↦ omega (
        arith,
        own_append caches from (e ∷ []) h,
        own_of_one caches from e same,
        of_later_seats (suc from) n e h (omega (arith, same)),
      )
      | inr other ↦ omega (
        arith,
        own_append caches from (e ∷ []) h,
        own_of_other caches from e other,
        of_one_of_them (suc from) n e h (omega (arith, other)) (omega arith),
      )
    ]

-- a legal history has no entries but those of its seats
all_are_of_seats : (config : ConfigView) (seats : ℕ) (done left : History) →
    IsLegal config seats (done ++ left) → length left ≡ of_seats 0 seats left
all_are_of_seats config seats done [] legal = sym (none_at_all 0 seats)
all_are_of_seats config seats done (e ∷ left) legal =
    let next = legal done e (left, sym (append_assoc done (e ∷ []) left)) in
    let rest = all_are_of_seats config seats (done ++ e ∷ []) left
    (subst (IsLegal config seats) (sym (append_assoc done (e ∷ []) left)) legal) in
    omega (arith, rest, of_one_of_them 0 seats e left (omega arith) (omega (arith, next.seat)))

counted : (start seat : SeatView) (index : ℕ) (calls : List Call) (lines : List Line) →
    Runs start index calls lines seat → (seat.number ≡ start.number) ×
    (seat.count ≡ start.count + adds_of_list calls)
counted start seat index [] [] run =
    (ap (λ s. s.number) run, omega (arith, ap (λ (s : SeatView). s.count) run))
counted start seat index [] (line ∷ lines) run = absurd run
counted start seat index (call ∷ calls) [] run = absurd run
counted start seat index (call ∷ calls) (line ∷ lines) run =
    let rest = counted run.2 seat (suc index) calls lines run.5 in (
      rest.0 ∙ run.3.number,
      omega (
        arith,
        rest.1,
        (is_reported start run.2 call line.said run.3 run.4).count,
        sum_by-cons (λ (c : Call). cond (adds c) 1 0) call calls,
      ),
    )

adds_of_seats : (cache : SharedView) (h : History) (thread : ℕ) (lists : List (List Call))
    (lines : List Line) (seats : List SeatView) →
    All (λ (seat : SeatView). own_count seat.number h ≡ seat.count) seats
    → RunsAll cache thread lists lines seats →
    of_seats thread (length lists) h ≡ adds_of_lists lists
adds_of_seats cache h thread [] lines [] own runs = refl
adds_of_seats cache h thread [] lines (s ∷ seats) own runs = absurd runs
adds_of_seats cache h thread (calls ∷ lists) lines [] own runs = absurd runs
adds_of_seats cache h thread (calls ∷ lists) lines (s ∷ seats) own runs =
    let one = counted (new_seat cache thread) s 0 calls runs.0 runs.3 in
    let mine : own_count thread h ≡ s.count =
    subst (λ n. own_count n h ≡ s.count) one.0
    (All-head (λ (seat : SeatView). own_count seat.number h ≡ seat.count) s seats own) in
    omega (
      arith,
      mine,
      one.1,
      adds_of_seats cache h (suc thread) lists runs.1 seats
          (All-tail (λ (seat : SeatView). own_count seat.number h ≡ seat.count) s seats own) runs.4,
    )

-- ---- the log

pub run_of : (trace : Trace) (cache : SharedView) (lines : List Line) (seats : List SeatView)
    (closed : Closed) → cache.config ≡ trace.config → cache.seats ≡ length trace.threads
    → RunsAll cache 0 trace.threads lines seats → Closes cache seats closed →
    (h : History) × IsRunOf trace lines h
run_of trace cache lines seats closed config count runs closes = (
  closes.history,
  record {
    size = all_are_of_seats cache.config (length trace.threads) [] closes.history
        (subst (λ n. IsLegal cache.config n closes.history) count closes.legal) ∙
        adds_of_seats cache closes.history 0 trace.threads lines seats closes.own runs;
    lines_are_true = subst (λ s. AreTrueLists s closes.history 0 trace.threads lines) config
        (true_lists cache closes.history 0 trace.threads lines seats closes.begins runs);
  },
)

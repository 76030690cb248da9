-- How many Adds the seats of lists' runs count: no more than the lists have, and fewer where an Add
-- was refused. So a history that may have as many Adds as the lists is never full.
use Rattle.std.proofs.Common.{◌≡◌, ◌∙◌, refl, sym, ap, subst, Bool, true, ℕ, ◌+◌, ◌<◌, ◌≤◌, List, [], ◌∷◌, ◌++◌, length, drop, get_or, length-append, arith, Vec, Global}
use Rattle.std.specs.Prelude.{cond, Ok, Err, IfOk, IfErr}
use Rattle.std.proofs.lemmas.List.{length-map}
use Rattle.std.proofs.lemmas.List.Sums.{sum_by-cons, sum_by_push}
use Rattle.std.proofs.lemmas.List.Elements.{All-append, All-cons, All-nil, All-contains, Contains-append_left, Contains-push}
use Rattle.tsc_left_right.proofs.Prefixes.{begins_length}
use Rattle.tsc_cache.specs.History.{BeginsWith}
use Rattle.tsc_trace_format.specs.Calls.{adds, call_fits}
use Rattle.tsc_trace_format.specs.Traces.{EachFits}
use Rattle.tsc_trace_format.specs.declared.trace.Call.{Call}
use Rattle.tsc_trace.specs.declared.log.Line.{Line}
use Rattle.tsc_trace.specs.declared.log.CallAnswer.{CallAnswer}
use Rattle.tsc_check.specs.TrueLog.{adds_of_list, adds_of_lists}
use Rattle.tsc_shared.specs.Seats.{SharedView, SeatView, new_seat, new_seats}
use Rattle.tsc_shared.specs.Answers.{GoesOn, Closes}
use Rattle.tsc_shared.specs.declared.answers.Closed.{Closed}
use Rattle.tsc_run.specs.declared.fault.RunFault.{RunFault}
use Rattle.tsc_run.specs.declared.fault.RunFault.TheVariants as fault
use Rattle.tsc_run.specs.Ending.{CanEndRun}
use Rattle.tsc_run.specs.Runs.{AnswersCall, IsRefusedAs, Runs, RunsAll, RunResult, StopsList, EndsList, IsFullEarly, StopsLists, EndsLists, Joins, counted}
use Rattle.tsc_run.proofs.Running.{left_from, one_list_more, calls_in}
use Rattle.tsc_run.proofs.Truth.{count_after}

-- ---- one list

-- The seat's Adds so far, with those of the calls that are left, are all that the list has.
abbrev pub IsLeft : SeatView → List Call → SeatView → ℕ → Type 0
IsLeft start calls seat index = seat.count + adds_of_list (drop index calls) ≡
    start.count + adds_of_list calls

adds_left : (calls : List Call) (index : ℕ) (call : Call) → index < length calls →
    call ≡ get_or calls index call →
    adds_of_list (drop index calls) ≡ cond (adds call) 1 0 + adds_of_list (drop (index + 1) calls)
adds_left calls index call within here = ap adds_of_list (left_from calls index call within here) ∙
    sum_by-cons (λ (c : Call). cond (adds c) 1 0) call (drop (index + 1) calls)

-- one call more
pub one_less_left : (start seat seat' : SeatView) (calls : List Call) (index : ℕ) (call : Call)
    (answer : CallAnswer) → index < length calls → call ≡ get_or calls index call →
    GoesOn seat seat' →
    AnswersCall seat seat' call answer
    → IsLeft start calls seat index → IsLeft start calls seat' (index + 1)
one_less_left start seat seat' calls index call answer within here goes says left =
    omega (
      arith,
      left,
      adds_left calls index call within here,
      count_after seat seat' call answer goes says,
    )

-- all calls were made
pub ends_whole : (start seat : SeatView) (calls : List Call) (lines : Vec Line Global) (index : ℕ) →
    seat.cache ≡ start.cache → IsLeft start calls seat index → Runs start 0 calls lines.items seat →
    EndsList start calls (Ok lines) seat
ends_whole start seat calls lines index same left run =
    record { cache = same; few = omega (arith, left); ran = run; stopped = tt }

-- each call fits a page of the seat's cache
pub fits_here : (cache : SharedView) (seat : SeatView) (calls : List Call) (index : ℕ) (call : Call)
    → EachFits cache.config calls → seat.cache ≡ cache → index < length calls →
    call ≡ get_or calls index call → call_fits seat.cache.config call ≡ true
fits_here cache seat calls index call each same within here =
    ap (λ (c : SharedView). call_fits c.config call) same ∙
    ap (λ (it : Call). call_fits cache.config it) here ∙ each index call within

-- memory was refused between two calls
pub ends_without_memory : (start seat : SeatView) (calls : List Call) (index : ℕ) →
    seat.cache ≡ start.cache → IsLeft start calls seat index →
    EndsList start calls (Err fault.NoMemory) seat
ends_without_memory start seat calls index same left =
    record { cache = same; few = omega (arith, left); ran = tt; stopped = tt }

-- a call was refused
pub ends_refused : (start seat seat' : SeatView) (calls : List Call) (index : ℕ) (call : Call)
    (why : RunFault) → index < length calls → call ≡ get_or calls index call →
    seat.cache ≡ start.cache → GoesOn seat seat' → IsRefusedAs why call seat seat'
    → IsLeft start calls seat index → EndsList start calls (Err why) seat'
ends_refused start seat seat' calls index call fault.HistoryFull within here same goes refused left
    = record {
      cache = goes.cache ∙ same;
      few = omega (arith, left, refused.1);
      ran = tt;
      stopped = (
        omega (
          arith,
          left,
          adds_left calls index call within here,
          ap {B = ℕ} (λ (is : Bool). cond is 1 0) refused.0,
          refused.1,
        ),
        refused.2 ∙ ap (λ (cache : SharedView). cache.limit) same,
      );
    }
ends_refused start seat seat' calls index call fault.NoMemory within here same goes refused left =
    record {
      cache = goes.cache ∙ same;
      few = omega (arith, left, refused.0);
      ran = tt;
      stopped = tt;
    }
ends_refused start seat seat' calls index call (fault.Open why) within here same goes refused left =
    absurd refused
ends_refused start seat seat' calls index call fault.Gone within here same goes refused left =
    absurd refused
ends_refused start seat seat' calls index call fault.NoThread within here same goes refused left =
    absurd refused

-- ---- lists

adds_push : (lists : List (List Call)) (calls : List Call) →
    adds_of_lists (lists ++ calls ∷ []) ≡ adds_of_lists lists + adds_of_list calls
adds_push [] calls = omega arith
adds_push (first ∷ lists) calls = omega (arith, adds_push lists calls)

module _ (cache : SharedView) (others : List (List Call)) (calls : List Call)
    (seats : List SeatView) (seat : SeatView) where
  abbrev all_lists : List (List Call)
  all_lists = others ++ calls ∷ []

  abbrev all_seats : List SeatView
  all_seats = seats ++ seat ∷ []

  count_push : counted all_seats ≡ counted seats + seat.count
  count_push = sum_by_push (λ (s : SeatView). s.count) seats seat

  list_stopped : (why : RunFault) → StopsList why (new_seat cache (length others)) calls seat →
      counted seats ≤ adds_of_lists others → StopsLists why cache all_lists all_seats
  list_stopped fault.HistoryFull stopped few =
      record {
        seat = seat;
        there = Contains-push seats seat;
        full = stopped.1;
        fewer = omega (arith, stopped.0, few, count_push, adds_push others calls);
      }
  list_stopped fault.NoMemory stopped few = tt
  list_stopped (fault.Open why) stopped few = absurd stopped
  list_stopped fault.Gone stopped few = absurd stopped
  list_stopped fault.NoThread stopped few = absurd stopped

  others_stopped : (why : RunFault) → StopsLists why cache others seats →
      seat.count ≤ adds_of_list calls → StopsLists why cache all_lists all_seats
  others_stopped fault.HistoryFull stopped few =
      record {
        seat = stopped.seat;
        there = Contains-append_left seats (seat ∷ []) stopped.seat stopped.there;
        full =
            stopped.full;
        fewer = omega
            (arith, stopped.fewer, few, count_push, adds_push others calls);
      }
  others_stopped fault.NoMemory stopped few = tt
  others_stopped (fault.Open why) stopped few = absurd stopped
  others_stopped fault.Gone stopped few = absurd stopped
  others_stopped fault.NoThread stopped few = absurd stopped

  both_ran : (reported more joined : RunResult) → Joins reported more joined →
      IfOk reported (λ lines. RunsAll cache 0 others lines.items seats) →
      IfOk more (λ lines. Runs (new_seat cache (length others)) 0 calls lines.items seat)
      → IfOk joined (λ lines. RunsAll cache 0 all_lists lines.items all_seats)
  both_ran (Ok reported) (Ok more) (Ok joined) same runs run =
      subst (λ ls. RunsAll cache 0 all_lists ls all_seats) (sym same)
      (one_list_more cache 0 others reported.items more.items seats calls seat runs
      (subst (λ n. Runs (new_seat cache n) 0 calls more.items seat) (omega arith) run))
  both_ran (Ok reported) (Ok more) (Err why) same runs run = tt
  both_ran (Ok reported) (Err why) joined same runs run =
      subst (λ (t : RunResult). IfOk t (λ lines. RunsAll cache 0 all_lists lines.items all_seats))
      (sym same) tt
  both_ran (Err why) more joined same runs run =
      subst (λ (t : RunResult). IfOk t (λ lines. RunsAll cache 0 all_lists lines.items all_seats))
      (sym same) tt

  one_stopped : (reported more joined : RunResult) → Joins reported more joined →
      IfErr reported (λ why. StopsLists why cache others seats) →
      IfErr more (λ why. StopsList why (new_seat cache (length others)) calls seat)
      → counted seats ≤ adds_of_lists others → seat.count ≤ adds_of_list calls →
      IfErr joined (λ why. StopsLists why cache all_lists all_seats)
  one_stopped (Ok reported) (Ok more) (Ok joined) same stop stopped few own = tt
  one_stopped (Ok reported) (Ok more) (Err why) same stop stopped few own =
      subst (λ w. StopsLists w cache all_lists all_seats) (sym same) tt
  one_stopped (Ok reported) (Err why) joined same stop stopped few own =
      subst (λ (t : RunResult). IfErr t (λ w. StopsLists w cache all_lists all_seats)) (sym same)
      (list_stopped why stopped few)
  one_stopped (Err why) more joined same stop stopped few own =
      subst (λ (t : RunResult). IfErr t (λ w. StopsLists w cache all_lists all_seats)) (sym same)
      (others_stopped why stop own)

  list_joined : (reported more joined : RunResult) → EndsLists cache others reported seats →
      EndsList (new_seat cache (length others)) calls more seat → Joins reported more joined →
      EndsLists cache all_lists joined all_seats
  list_joined reported more joined ends end same = record {
    of_cache = All-append (λ (s : SeatView). s.cache ≡ cache) seats (seat ∷ []) ends.of_cache
        (All-cons (λ (s : SeatView). s.cache ≡ cache) seat [] end.cache
        (All-nil (λ (s : SeatView). s.cache ≡ cache)));
    as_many = omega (
      arith,
      ends.as_many,
      length-append seats (seat ∷ []),
      length-append others (calls ∷ []),
    );
    few = omega (arith, ends.few, end.few, count_push, adds_push others calls);
    ran = both_ran reported more joined same ends.ran end.ran;
    stopped = one_stopped reported more joined same ends.stopped end.stopped ends.few
        (omega (arith, end.few));
  }

-- there are no lists
pub no_lists : (cache : SharedView) (lists : List (Vec Call Global)) (lines : Vec Line Global)
    (before seats : List SeatView) → before ≡ new_seats cache 0 (length lists) →
    before ≡ seats ++ [] → seats ≡ [] → lines.items ≡ []
    → EndsLists cache (calls_in lists) (Ok lines) seats
no_lists cache [] lines before seats new parted none empty =
    rw none record {
      of_cache = All-nil (λ (s : SeatView). s.cache ≡ cache);
      as_many = refl;
      few = omega arith;
      ran = empty;
      stopped = tt;
    }
no_lists cache (calls ∷ lists) lines before seats new parted none empty =
    absurd (omega (arith, ap length new, ap length parted, length-append seats [], ap length none))

-- the runs with that of the last list
pub one_list_joined : (cache : SharedView) (lists others : List (Vec Call Global))
    (calls : List Call) (reported more joined : RunResult) (seats seats' : List SeatView)
    (from seat : SeatView)
    → calls_in lists ≡ calls_in others ++ calls ∷ [] → from ≡ new_seat cache (length others) →
    EndsLists cache (calls_in others) reported seats → EndsList from calls more seat →
    Joins reported more joined
    → seats' ≡ seats ++ seat ∷ [] → EndsLists cache (calls_in lists) joined seats'
one_list_joined cache lists others calls reported more joined seats seats' from seat parted new ends
    end same pushed =
    let long : length others ≡ length (calls_in others) =
    sym (length-map others (λ (calls : Vec Call Global). calls.items)) in
    let at : EndsList (new_seat cache (length (calls_in others))) calls more seat =
    subst (λ s. EndsList s calls more seat) (new ∙ ap (new_seat cache) long) end in
    rw (parted, pushed) (list_joined cache (calls_in others) calls seats seat reported more joined
    ends at same)

-- ---- closing

-- Where there may be as many Adds as the lists have, none finds the history full.
pub never_full : (cache : SharedView) (lists : List (List Call)) (seats : List SeatView)
    (closed : Closed) → cache.limit ≡ adds_of_lists lists → IsFullEarly cache lists seats →
    Closes cache seats closed → ⊥
never_full cache lists seats closed limit early closes =
    let begins = All-contains (λ (s : SeatView). BeginsWith closes.history s.seen) seats early.seat
    closes.begins early.there in
    omega (
      arith,
      limit,
      early.full,
      early.fewer,
      closes.counted,
      closes.adds,
      begins_length closes.history early.seat.seen begins,
    )

-- so a run does not end with that
pub can_end : (why : RunFault) (cache : SharedView) (lists : List (List Call))
    (seats : List SeatView) (closed : Closed) → cache.limit ≡ adds_of_lists lists →
    StopsLists why cache lists seats → Closes cache seats closed → CanEndRun why
can_end fault.HistoryFull cache lists seats closed limit stopped closes =
    never_full cache lists seats closed limit stopped closes
can_end fault.NoMemory cache lists seats closed limit stopped closes = tt
can_end (fault.Open why) cache lists seats closed limit stopped closes = absurd stopped
can_end fault.Gone cache lists seats closed limit stopped closes = absurd stopped
can_end fault.NoThread cache lists seats closed limit stopped closes = absurd stopped

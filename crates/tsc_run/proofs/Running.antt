-- A list's run, call after call, and the runs of lists, one list after another.
use Rattle.std.proofs.Common.{◌≡◌, ◌∙◌, refl, sym, ap, subst, ℕ, zero, suc, ◌+◌, ◌<◌, ◌≤◌, List, [], ◌∷◌, ◌++◌, length, drop, get_or, drop-cons, append_assoc, append-nil, length-append, add-one, arith, All, map, Vec, Global}
use Rattle.std.specs.List.{sum_by}
use Rattle.std.proofs.lemmas.List.Sums.{sum_by-append, sum_by-cons}
use Rattle.std.proofs.lemmas.List.Elements.{All-cons, All-nil, All-head, All-tail}
use Rattle.tsc_trace_format.specs.Limits.{most_calls}
use Rattle.std.proofs.lemmas.List.{drop_all, length-map}
use Rattle.tsc_shared.specs.Seats.{SharedView, SeatView, new_seat, new_seats}
use Rattle.tsc_shared.specs.Answers.{GoesOn}
use Rattle.tsc_trace_format.specs.declared.trace.Call.{Call}
use Rattle.tsc_trace.specs.declared.log.Line.{Line}
use Rattle.tsc_run.specs.Runs.{AnswersCall, Runs, RunsAll}

-- Whatever run is made from here makes the lines so far a run of the list.
abbrev pub IsUnderWay : SeatView → List Call → List Line → SeatView → ℕ → Type 0
IsUnderWay start calls lines seat index = (rest : List Line) (last : SeatView) →
    Runs seat index (drop index calls) rest last → Runs start 0 calls (lines ++ rest) last

pub left_from : (calls : List Call) (index : ℕ) (call : Call) → index < length calls →
    call ≡ get_or calls index call → drop index calls ≡ call ∷ drop (index + 1) calls
left_from calls index call within here =
    drop-cons calls index call within ∙ ap (λ c. c ∷ drop (suc index) calls) (sym here) ∙
    ap (λ n. call ∷ drop n calls) (sym (add-one index))

-- one call more
pub one_more : (start seat seat' : SeatView) (calls : List Call) (lines more : List Line)
    (line : Line) (index : ℕ) (call : Call)
    → index < length calls → call ≡ get_or calls index call → line.thread ≡ seat.number →
    line.index ≡ index → GoesOn seat seat' → AnswersCall seat seat' call line.said
    → more ≡ lines ++ line ∷ [] → IsUnderWay start calls lines seat index →
    IsUnderWay start calls more seat' (index + 1)
one_more start seat seat' calls lines more line index call within here thread number goes says added
    way rest last run =
    let next : Runs seat' (suc index) (drop (index + 1) calls) rest last =
    subst (λ n. Runs seat' n (drop (index + 1) calls) rest last) (add-one index) run in
    let from : Runs seat index (call ∷ drop (index + 1) calls) (line ∷ rest) last =
    (thread, number, seat', goes, says, next) in
    let whole : Runs start 0 calls (lines ++ line ∷ rest) last =
    way (line ∷ rest) last (subst (λ cs. Runs seat index cs (line ∷ rest) last)
    (sym (left_from calls index call within here)) from) in
    subst (λ ls. Runs start 0 calls ls last)
    (sym (ap (λ ls. ls ++ rest) added ∙ append_assoc lines (line ∷ []) rest)) whole

-- none are left
pub all_made : (start seat : SeatView) (calls : List Call) (lines : List Line) (index : ℕ) →
    length calls ≤ index → IsUnderWay start calls lines seat index → Runs start 0 calls lines seat
all_made start seat calls lines index past way =
    let end : Runs seat index (drop index calls) [] seat =
    subst (λ cs. Runs seat index cs [] seat) (sym (drop_all index calls past)) refl in
    subst (λ ls. Runs start 0 calls ls seat) (append-nil lines) (way [] seat end)

-- one list more, behind the others
pub one_list_more : (cache : SharedView) (thread : ℕ) (lists : List (List Call))
    (lines more : List Line) (seats : List SeatView) (calls : List Call) (seat : SeatView)
    → RunsAll cache thread lists lines seats →
    Runs (new_seat cache (thread + length lists)) 0 calls more seat →
    RunsAll cache thread (lists ++ calls ∷ []) (lines ++ more) (seats ++ seat ∷ [])
one_list_more cache thread [] lines more [] calls seat none run = (
  more,
  [],
  (ap (λ ls. ls ++ more) none ∙ sym (append-nil more)),
  subst (λ n. Runs (new_seat cache n) 0 calls more seat) (omega arith) run,
  refl,
)
one_list_more cache thread [] lines more (s ∷ seats) calls seat none run = absurd none
one_list_more cache thread (first ∷ lists) lines more [] calls seat none run = absurd none
one_list_more cache thread (first ∷ lists) lines more (s ∷ seats) calls seat runs run =
    let at : Runs (new_seat cache (suc thread + length lists)) 0 calls more seat =
    subst (λ n. Runs (new_seat cache n) 0 calls more seat) (omega arith) run in (
      runs.0,
      runs.1 ++ more,
      (ap (λ ls. ls ++ more) runs.2 ∙ append_assoc runs.0 runs.1 more),
      runs.3,
      one_list_more cache (suc thread) lists runs.1 more seats calls seat runs.4 at,
    )

-- the last of some new seats
last_seat : (cache : SharedView) (number n : ℕ) →
    new_seats cache number (suc n) ≡ new_seats cache number n ++ new_seat cache (number + n) ∷ []
last_seat cache number zero = ap (λ (k : ℕ). new_seat cache k ∷ []) (omega arith)
last_seat cache number (suc n) = ap (λ seats. new_seat cache number ∷ seats)
    (last_seat cache (suc number) n ∙
    ap (λ (k : ℕ). new_seats cache (suc number) n ++ new_seat cache k ∷ []) (omega arith))

-- as many as were asked for
pub as_many_seats : (cache : SharedView) (number n : ℕ) → length (new_seats cache number n) ≡ n
as_many_seats cache number zero = refl
as_many_seats cache number (suc n) = ap suc (as_many_seats cache (suc number) n)

abbrev other_seats : List SeatView → List SeatView
other_seats [] = []
other_seats (s ∷ seats) = seats

same_ends : (xs ys : List SeatView) (x y : SeatView) → xs ++ x ∷ [] ≡ ys ++ y ∷ [] →
    (xs ≡ ys) × (x ≡ y)
same_ends [] [] x y e = (refl, ap (λ seats. get_or seats 0 x) e)
same_ends [] (z ∷ ys) x y e = absurd (omega (arith, ap length e, length-append ys (y ∷ [])))
same_ends (z ∷ xs) [] x y e = absurd (omega (arith, ap length e, length-append xs (x ∷ [])))
same_ends (z ∷ xs) (w ∷ ys) x y e =
    let both = same_ends xs ys x y (ap other_seats e) in
    let first : z ≡ w = ap (λ seats. get_or seats 0 z) e in
    (ap (λ s. s ∷ xs) first ∙ ap (λ seats. w ∷ seats) both.0, both.1)

-- the calls of lists, as the code has them
abbrev pub calls_in : List (Vec Call Global) → List (List Call)
calls_in lists = map (λ calls. calls.items) lists

-- the last seat is taken from new ones
pub seat_taken : (cache : SharedView) (seats rest : List SeatView) (seat : SeatView)
    (lists others : List (Vec Call Global)) (calls : List Call)
    → seats ≡ new_seats cache 0 (length lists) → seats ≡ rest ++ seat ∷ [] →
    calls_in lists ≡ calls_in others ++ calls ∷ []
    → (rest ≡ new_seats cache 0 (length others)) × (seat ≡ new_seat cache (length others))
seat_taken cache seats rest seat lists others calls new last parted =
    let long : length lists ≡ suc (length others) =
    omega (
      arith,
      ap length parted,
      length-append (calls_in others) (calls ∷ []),
      length-map lists (λ (calls : Vec Call Global). calls.items),
      length-map others (λ (calls : Vec Call Global). calls.items),
    ) in
    let both = same_ends rest (new_seats cache 0 (length others)) seat
    (new_seat cache (0 + length others))
    (sym last ∙ new ∙ ap (new_seats cache 0) long ∙ last_seat cache 0 (length others)) in
    (both.0, both.1 ∙ ap (new_seat cache) (omega arith))

-- there is one list more than those before the last
pub fewer : (lists others : List (Vec Call Global)) (calls : List Call) →
    calls_in lists ≡ calls_in others ++ calls ∷ [] → length others < length lists
fewer lists others calls parted =
    omega (
      arith,
      ap length parted,
      length-append (calls_in others) (calls ∷ []),
      length-map lists (λ (calls : Vec Call Global). calls.items),
      length-map others (λ (calls : Vec Call Global). calls.items),
    )

-- the last list has no more calls than all
pub last_fits : (lists others : List (List Call)) (calls : List Call) →
    lists ≡ others ++ calls ∷ [] → sum_by length lists ≤ most_calls → length calls ≤ most_calls
last_fits lists others calls parted few =
    omega (
      arith,
      ap (sum_by length) parted,
      sum_by-append length others (calls ∷ []),
      sum_by-cons length calls [],
    )

-- and those before the last are no more than all
pub first_fits : (lists others : List (List Call)) (calls : List Call) →
    lists ≡ others ++ calls ∷ [] → sum_by length lists ≤ most_calls →
    sum_by length others ≤ most_calls
first_fits lists others calls parted few =
    omega (arith, ap (sum_by length) parted, sum_by-append length others (calls ∷ []))

-- what holds of each list holds of those before the last
pub first_all : {X : Type 0} (P : X → Type 0) (xs : List X) (y : X) → All P (xs ++ y ∷ []) →
    All P xs
first_all P [] y all = All-nil P
first_all P (x ∷ xs) y all = All-cons P x xs (All-head P x (xs ++ y ∷ []) all)
    (first_all P xs y (All-tail P x (xs ++ y ∷ []) all))

-- and of the last
pub last_all : {X : Type 0} (P : X → Type 0) (xs : List X) (y : X) → All P (xs ++ y ∷ []) → P y
last_all P [] y all = All-head P y [] all
last_all P (x ∷ xs) y all = last_all P xs y (All-tail P x (xs ++ y ∷ []) all)

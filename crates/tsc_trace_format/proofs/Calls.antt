-- Reading one after the other, as a loop does.
use Rattle.std.proofs.Common.{◌≡◌, ◌⊎◌, inl, inr, ℕ, ◌+◌, ◌<◌, ◌≤◌, List, [], ◌∷◌, ◌++◌, length, map, get_or, drop, drop-cons, add-one, Result, Ok, Err, Bor, refl, sym, ap, ◌∙◌, append_assoc}
use Rattle.std.specs.Prelude.{suc, true, sum}
use Rattle.std.specs.List.{sum_by}
use Rattle.tsc_trace_format.specs.Lists.{fits_trace}
use Rattle.std.proofs.lemmas.List.{append-nil, length-map}
use Rattle.std.proofs.lemmas.List.Sums.{sum_by-cons, sum-map}
use Rattle.std.proofs.Math.ListN.{drop_of_length-le}
use Rattle.serde_json.specs.Data.{Data}
use Rattle.serde_json.specs.View.{view}
use Rattle.serde_json.specs.declared.value.Value.{Value}
use Rattle.tsc_cache.specs.ConfigView.{ConfigView}
use Rattle.tsc_trace_format.specs.declared.trace.Call.{Call}
use Rattle.tsc_trace_format.specs.declared.read.TraceFault.{TraceFault}
use Rattle.tsc_trace_format.specs.declared.read.TraceFault.TheVariants.{NoMemory}
use Rattle.tsc_trace_format.specs.declared.read.part.Refusal.{Refusal}
use Rattle.tsc_trace_format.specs.declared.read.part.Refusal.TheVariants as refusal
use Rattle.tsc_trace_format.specs.Reading.{Refuses}
use Rattle.tsc_trace_format.specs.Rows.{rows_view}
use Rattle.tsc_trace_format.specs.TraceParts.{Part, ◌>>=◌, at_call}
use Rattle.tsc_trace_format.specs.TraceText.{array_of, lists_in, fitting_call, calls_of, threads_of}

-- what was read before, and what is still read
abbrev pub with_front : {A F : Type 0} → List A → Result (List A) F → Result (List A) F
with_front front (Ok xs) = Ok (front ++ xs)
with_front front (Err fault) = Err fault

-- one more, and then the rest
abbrev pub one_and_rest : {A F : Type 0} → Result A F → Result (List A) F → Result (List A) F
one_and_rest one rest = one >>= λ x. rest >>= λ xs. Ok (x ∷ xs)

regroup : {A F : Type 0} (front : List A) (one : Result A F) (rest : Result (List A) F) (x : A) →
    one ≡ Ok x → with_front front (one_and_rest one rest) ≡ with_front (front ++ x ∷ []) rest
regroup front one (Ok xs) x is = rw is (simp append_assoc)
regroup front one (Err fault) x is = rw is refl

refused : {A F : Type 0} (front : List A) (one : Result A F) (rest : Result (List A) F) (fault : F)
    → one ≡ Err fault → with_front front (one_and_rest one rest) ≡ Err fault
refused front one rest fault is = rw is refl

-- what is left from a place on begins with what stands there
pub here : {V D : Type 0} (f : V → D) (vs : List V) (i : ℕ) (v : V) → i < length vs →
    v ≡ get_or vs i v → map f (drop i vs) ≡ f v ∷ map f (drop (i + 1) vs)
here f vs i v lt is = ap (map f) (drop-cons vs i v lt) ∙ rw (add-one, ← is) refl

pub past : {V D : Type 0} (f : V → D) (vs : List V) (i : ℕ) → length vs ≤ i → map f (drop i vs) ≡ []
past f vs i le = ap (map f) (drop_of_length-le vs le)

-- ---- lists

lists_step : (d : Data) (ds : List Data) →
    lists_in (d ∷ ds) ≡ one_and_rest (array_of d) (lists_in ds)
unfolding lists_in
lists_step d ds = refl

pub lists_go_on : (front : List (List Data)) (vs : List Value) (i : ℕ) (v : Value)
    (list : List Data) (total : Part (List (List Data))) → i < length vs → v ≡ get_or vs i v →
    array_of (view v) ≡ Ok list
    → with_front front (lists_in (map view (drop i vs))) ≡ total →
    with_front (front ++ list ∷ []) (lists_in (map view (drop (i + 1) vs))) ≡ total
lists_go_on front vs i v list total lt at is so_far =
    sym (ap (λ ds. with_front front (lists_in ds)) (here view vs i v lt at) ∙
    ap (with_front front) (lists_step (view v) _) ∙ regroup front _ _ list is) ∙ so_far

pub lists_end : (e : Refusal) (front : List (List Data)) (vs : List Value) (i : ℕ) (v : Value)
    (total : Part (List (List Data))) → i < length vs → v ≡ get_or vs i v →
    Refuses e (array_of (view v))
    → with_front front (lists_in (map view (drop i vs))) ≡ total → Refuses e total
lists_end refusal.Memory front vs i v total lt at is so_far = tt
lists_end (refusal.Fault fault) front vs i v total lt at is so_far =
    sym so_far ∙ ap (λ ds. with_front front (lists_in ds)) (here view vs i v lt at) ∙
    ap (with_front front) (lists_step (view v) _) ∙ refused front _ _ fault is

pub lists_are_done : (front : List (List Data)) (vs : List Value) (i : ℕ)
    (total : Part (List (List Data))) → length vs ≤ i →
    with_front front (lists_in (map view (drop i vs))) ≡ total → total ≡ Ok front
unfolding lists_in
lists_are_done front vs i total le so_far =
    let none : with_front front (lists_in (map view (drop i vs))) ≡ Ok front =
    rw (past view vs i le) (ap (λ (ls : List (List Data)). Ok ls) (append-nil front)) in
    sym so_far ∙ none

-- ---- calls

calls_step : (config : ConfigView) (first : ℕ) (d : Data) (ds : List Data) →
    calls_of config first (d ∷ ds) ≡ one_and_rest (at_call first (fitting_call config d))
    (calls_of config (first + 1) ds)
unfolding calls_of
calls_step config first d ds = rw add-one refl

pub calls_go_on : (config : ConfigView) (front : List Call) (vs : List Value) (i first : ℕ)
    (v : Value) (call : Call) (total : Result (List Call) TraceFault) → i < length vs →
    v ≡ get_or vs i v → at_call first (fitting_call config (view v)) ≡ Ok call
    → with_front front (calls_of config first (map view (drop i vs))) ≡ total →
    with_front (front ++ call ∷ []) (calls_of config (first + 1) (map view (drop (i + 1) vs)))
    ≡ total
calls_go_on config front vs i first v call total lt at is so_far =
    sym (ap (λ ds. with_front front (calls_of config first ds)) (here view vs i v lt at) ∙
    ap (with_front front) (calls_step config first (view v) _) ∙ regroup front _ _ call is)
    ∙ so_far

pub calls_end : (config : ConfigView) (fault : TraceFault) (front : List Call) (vs : List Value)
    (i first : ℕ) (v : Value) (total : Result (List Call) TraceFault) → i < length vs →
    v ≡ get_or vs i v
    → (fault ≡ NoMemory) ⊎ (at_call first (fitting_call config (view v)) ≡ Err fault) →
    with_front front (calls_of config first (map view (drop i vs))) ≡ total →
    (fault ≡ NoMemory) ⊎ (total ≡ Err fault)
calls_end config fault front vs i first v total lt at (inl memory) so_far = inl memory
calls_end config fault front vs i first v total lt at (inr is) so_far =
    inr (sym so_far ∙ ap (λ ds. with_front front (calls_of config first ds))
    (here view vs i v lt at) ∙ ap (with_front front) (calls_step config first (view v) _) ∙
    refused front _ _ fault is)

pub calls_are_done : (config : ConfigView) (front : List Call) (vs : List Value) (i first : ℕ)
    (total : Result (List Call) TraceFault) → length vs ≤ i →
    with_front front (calls_of config first (map view (drop i vs))) ≡ total → total ≡ Ok front
unfolding calls_of
calls_are_done config front vs i first total le so_far =
    let none : with_front front (calls_of config first (map view (drop i vs))) ≡ Ok front =
    rw (past view vs i le) (ap (λ (cs : List Call). Ok cs) (append-nil front)) in
    sym so_far ∙ none

-- ---- the calls of lists

-- the data of one list
abbrev pub row : Bor (List Value) → List Data
row r = map view r.now

threads_step : (config : ConfigView) (first : ℕ) (ds : List Data) (lists : List (List Data)) →
    threads_of config first (ds ∷ lists) ≡ one_and_rest (calls_of config first ds)
    (threads_of config (first + length ds) lists)
unfolding threads_of
threads_step config first ds lists = refl

pub threads_go_on : (config : ConfigView) (front : List (List Call))
    (rows : List (Bor (List Value))) (i first : ℕ) (r : Bor (List Value)) (calls : List Call)
    (total : Result (List (List Call)) TraceFault) → i < length rows → r ≡ get_or rows i r
    → calls_of config first (row r) ≡ Ok calls
    → with_front front (threads_of config first (rows_view (drop i rows))) ≡ total →
    with_front (front ++ calls ∷ [])
    (threads_of config (first + length r.now) (rows_view (drop (i + 1) rows))) ≡ total
threads_go_on config front rows i first r calls total lt at is so_far =
    let more = with_front (front ++ calls ∷ []) in
    ap (λ n. more (threads_of config (first + n) (map row (drop (i + 1) rows))))
    (sym (length-map r.now view))
    ∙ sym (ap (λ ls. with_front front (threads_of config first ls)) (here row rows i r lt at) ∙
    ap (with_front front) (threads_step config first (row r) _) ∙ regroup front _ _ calls is)
    ∙ so_far

pub threads_end : (config : ConfigView) (fault : TraceFault) (front : List (List Call))
    (rows : List (Bor (List Value))) (i first : ℕ) (r : Bor (List Value))
    (total : Result (List (List Call)) TraceFault) → i < length rows → r ≡ get_or rows i r
    → (fault ≡ NoMemory) ⊎ (calls_of config first (row r) ≡ Err fault) →
    with_front front (threads_of config first (rows_view (drop i rows))) ≡ total →
    (fault ≡ NoMemory) ⊎ (total ≡ Err fault)
threads_end config fault front rows i first r total lt at (inl memory) so_far = inl memory
threads_end config fault front rows i first r total lt at (inr is) so_far =
    inr (sym so_far ∙ ap (λ ls. with_front front (threads_of config first ls))
    (here row rows i r lt at) ∙ ap (with_front front) (threads_step config first (row r) _) ∙
    refused front _ _ fault is)

pub threads_are_done : (config : ConfigView) (front : List (List Call))
    (rows : List (Bor (List Value))) (i first : ℕ) (total : Result (List (List Call)) TraceFault) →
    length rows ≤ i
    → with_front front (threads_of config first (rows_view (drop i rows))) ≡ total →
    total ≡ Ok front
unfolding threads_of
threads_are_done config front rows i first total le so_far =
    let none : with_front front (threads_of config first (rows_view (drop i rows))) ≡ Ok front =
    rw (past row rows i le) (ap (λ (cs : List (List Call)). Ok cs) (append-nil front)) in
    sym so_far ∙ none

-- the calls of the lists that are left, of which the first is this one
pub sum_here : (rows : List (Bor (List Value))) (i : ℕ) (r : Bor (List Value)) → i < length rows →
    r ≡ get_or rows i r
    → sum_by length (rows_view (drop i rows)) ≡ length (row r) + sum_by length
    (rows_view (drop (i + 1) rows))
sum_here rows i r lt at = ap (sum_by length) (here row rows i r lt at) ∙
    sum_by-cons length (row r) (map row (drop (i + 1) rows))

-- ---- how many

one_longer : {A F : Type 0} (one : Result A F) (rest : Result (List A) F) (xs : List A) (n : ℕ) →
    one_and_rest one rest ≡ Ok xs → ((ys : List A) → rest ≡ Ok ys → length ys ≡ n) →
    length xs ≡ suc n
one_longer (Ok x) (Ok ys) xs n h many = let e : x ∷ ys ≡ xs = cc in ap length (sym e) ∙
    ap suc (many ys refl)
one_longer (Ok x) (Err fault) xs n h many = absurd cc
one_longer (Err fault) rest xs n h many = absurd cc

-- there are as many calls as JSON values
as_many_calls : (config : ConfigView) (first : ℕ) (ds : List Data) (calls : List Call) →
    calls_of config first ds ≡ Ok calls → length calls ≡ length ds
unfolding calls_of
as_many_calls config first [] calls is = let e : [] ≡ calls = cc in ap length (sym e)
as_many_calls config first (d ∷ ds) calls is =
    one_longer (at_call first (fitting_call config d)) (calls_of config (suc first) ds) calls
    (length ds) is (λ ys. as_many_calls config (suc first) ds ys)

lengths_of : {F : Type 0} (one : Result (List Call) F) (rest : Result (List (List Call)) F)
    (threads : List (List Call)) (n : ℕ) (ns : List ℕ) → one_and_rest one rest ≡ Ok threads
    → ((calls : List Call) → one ≡ Ok calls → length calls ≡ n) →
    ((ts : List (List Call)) → rest ≡ Ok ts → map length ts ≡ ns) → map length threads ≡ n ∷ ns
lengths_of (Ok calls) (Ok ts) threads n ns h first then = let e : calls ∷ ts ≡ threads =
    cc in ap (map length) (sym e) ∙ rw (first calls refl, then ts refl) refl
lengths_of (Ok calls) (Err fault) threads n ns h first then = absurd cc
lengths_of (Err fault) rest threads n ns h first then = absurd cc

-- the lists of calls are as long as those of JSON values
same_lengths : (config : ConfigView) (first : ℕ) (lists : List (List Data))
    (threads : List (List Call)) → threads_of config first lists ≡ Ok threads →
    map length threads ≡ map length lists
unfolding threads_of
same_lengths config first [] threads is = let e : [] ≡ threads = cc in ap (map length) (sym e)
same_lengths config first (ds ∷ lists) threads is =
    lengths_of (calls_of config first ds) (threads_of config (first + length ds) lists) threads
    (length ds) (map length lists) is (λ calls. as_many_calls config first ds calls)
    (λ ts. same_lengths config (first + length ds) lists ts)

-- so a trace may have the ones where it may have the others
pub threads_fit : (config : ConfigView) (first : ℕ) (lists : List (List Data))
    (threads : List (List Call)) → threads_of config first lists ≡ Ok threads →
    fits_trace lists ≡ true → fits_trace threads ≡ true
threads_fit config first lists threads is fit =
    let lengths : map length threads ≡ map length lists =
    same_lengths config first lists threads is in
    let many : length threads ≡ length lists = sym (length-map threads length) ∙ ap length lengths ∙
    length-map lists length in
    let calls : sum_by length threads ≡ sum_by length lists = sym (sum-map length threads) ∙
    ap sum lengths ∙ sum-map length lists in
    rw (many, calls) fit

-- and the other way round
pub fits_threads : (config : ConfigView) (first : ℕ) (lists : List (List Data))
    (threads : List (List Call)) → threads_of config first lists ≡ Ok threads →
    fits_trace threads ≡ true → fits_trace lists ≡ true
fits_threads config first lists threads is fit =
    let lengths : map length threads ≡ map length lists =
    same_lengths config first lists threads is in
    let many : length threads ≡ length lists = sym (length-map threads length) ∙ ap length lengths ∙
    length-map lists length in
    let calls : sum_by length threads ≡ sum_by length lists = sym (sum-map length threads) ∙
    ap sum lengths ∙ sum-map length lists in
    rw (← many, ← calls) fit

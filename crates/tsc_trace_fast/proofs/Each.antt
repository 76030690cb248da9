-- Lists of which each item is read in the same way.
use Rattle.std.proofs.Common.{◌≡◌, ℕ, ◌≤◌, true, List, [], ◌∷◌, ◌++◌, length, Option, Some, None, Result, Ok, Err, IfSome, refl, sym, ap, ◌∙◌}
use Rattle.std.specs.Prelude.{suc, SomeIff, nat_le}
use Rattle.std.proofs.lemmas.Bool.{le-leb}
use Rattle.json.specs.Token.{Token}
use Rattle.json.specs.Json.{after_end_array}
use Rattle.serde_json.specs.Data.{Data}
use Rattle.serde_json.specs.View.{items_of}
use Rattle.tsc_page_model.specs.Page.{Mark}
use Rattle.tsc_trace_format.specs.declared.trace.Call.{Call}
use Rattle.tsc_trace_format.specs.Limits.{most_marks}
use Rattle.tsc_trace_format.specs.Lists.{fits_trace}
use Rattle.tsc_trace_format.specs.TraceData.{list_data}
use Rattle.tsc_trace_format.specs.TraceParts.{Part, ◌>>=◌}
use Rattle.tsc_trace_format.specs.TraceText.{listed, array_of, mark_of, marks_in, with_others, few_of, marks_of}
use Rattle.tsc_trace_format.proofs.Calls.{one_and_rest}
use Rattle.tsc_trace_fast.specs.TokenReads.{Got, HasItems}
use Rattle.tsc_trace_fast.specs.Kept.{each, list_of, call_list, threads_in}
use Rattle.tsc_trace_fast.proofs.TokenLemmas.{items_begin, items_go_on, items_over}

-- ---- one and the rest

pub step_ok : {A F : Type 0} (one : Result A F) (rest : Result (List A) F) (xs : List A) →
    one_and_rest one rest ≡ Ok xs → (x : A) × (ys : List A) × (one ≡ Ok x) × (rest ≡ Ok ys) ×
    (xs ≡ x ∷ ys)
step_ok (Ok x) (Ok ys) xs h = (x, ys, refl, refl, cc)
step_ok (Ok x) (Err f) xs h = absurd cc
step_ok (Err f) rest xs h = absurd cc

pub rest_ok : {A F : Type 0} (one : Result A F) (rest : Result (List A) F) (x : A) (ys xs : List A)
    → one ≡ Ok x → rest ≡ Ok ys → xs ≡ x ∷ ys → one_and_rest one rest ≡ Ok xs
rest_ok one rest x ys xs h k is = rw (h, k, is) refl

each_step : {A : Type 0} (f : Data → Part A) (d : Data) (ds : List Data) →
    each f (d ∷ ds) ≡ one_and_rest (f d) (each f ds)
unfolding each
each_step f d ds = refl

pub each_of_none : {A : Type 0} (f : Data → Part A) → each f [] ≡ Ok []
unfolding each
each_of_none f = refl

-- the first item, and those behind it
pub each_first : {A : Type 0} (f : Data → Part A) (d : Data) (ds : List Data) (xs : List A) →
    each f (d ∷ ds) ≡ Ok xs → (x : A) × (ys : List A) × (f d ≡ Ok x) × (each f ds ≡ Ok ys) ×
    (xs ≡ x ∷ ys)
each_first f d ds xs h = step_ok (f d) (each f ds) xs (sym (each_step f d ds) ∙ h)

-- no items give no list but the empty one
pub each_nothing : {A : Type 0} (f : Data → Part A) (xs : List A) → each f [] ≡ Ok xs → [] ≡ xs
each_nothing f xs h = let same : Ok [] ≡ Ok xs = sym (each_of_none f) ∙ h in cc

each_more : {A : Type 0} (f : Data → Part A) (ds : List Data) (d : Data) (xs : List A) (x : A) →
    each f ds ≡ Ok xs → f d ≡ Ok x → each f (ds ++ d ∷ []) ≡ Ok (xs ++ x ∷ [])
each_more f [] d xs x h k = let none = each_nothing f xs h in each_step f d [] ∙
    rest_ok (f d) (each f []) x [] (xs ++ x ∷ []) k (each_of_none f)
    (ap (λ ys. ys ++ x ∷ []) (sym none))
each_more f (e ∷ ds) d xs x h k =
    let s = each_first f e ds xs h in
    each_step f e (ds ++ d ∷ []) ∙
    rest_ok (f e) (each f (ds ++ d ∷ [])) s.0 (s.1 ++ x ∷ []) (xs ++ x ∷ []) s.2
    (each_more f ds d s.1 x s.3 k) (ap (λ ys. ys ++ x ∷ []) s.4)

-- as many are read as there are
each_length : {A : Type 0} (f : Data → Part A) (ds : List Data) (xs : List A) → each f ds ≡ Ok xs →
    length xs ≡ length ds
each_length f [] xs h = ap length (sym (each_nothing f xs h))
each_length f (d ∷ ds) xs h = let s = each_first f d ds xs h in ap length s.4 ∙
    ap suc (each_length f ds s.1 s.3)

-- ---- a loop over an array

listed_back : (ds : List Data) → listed (items_of ds) ≡ ds
listed_back [] = refl
listed_back (d ∷ ds) = ap (λ xs. d ∷ xs) (listed_back ds)

array_back : (ds : List Data) → array_of (list_data ds) ≡ Ok ds
unfolding array_of
array_back ds = rw (listed_back ds) refl

-- Of the tokens `all`, which follow the bracket that opens an array, items were read as these, and
-- `now` are left.
abbrev pub HasRead : {A : Type 0} → ℕ → (Data → Part A) → List Token → List A → List Token → Type 0
HasRead deep f all xs now = (ds : List Data) × HasItems deep all ds now × (each f ds ≡ Ok xs)

pub each_begin : {A : Type 0} (deep : ℕ) (f : Data → Part A) (all : List Token) (xs : List A) →
    xs ≡ [] → HasRead deep f all xs all
each_begin deep f all xs none = ([], items_begin deep all, each_of_none f ∙ ap Ok (sym none))

pub each_go_on : {A : Type 0} (deep : ℕ) (f : Data → Part A) (all now new : List Token)
    (xs ys : List A) (x : A) → HasRead deep f all xs now → Got deep f now x new →
    ys ≡ xs ++ x ∷ [] → HasRead deep f all ys new
each_go_on deep f all now new xs ys x h g is = (
  h.0 ++ g.0 ∷ [],
  items_go_on deep all now new h.0 g.0 h.1 g.1,
  each_more f h.0 g.0 xs x h.2 g.2 ∙ ap Ok (sym is),
)

pub each_over : {A : Type 0} (deep : ℕ) (f : Data → Part A) (old all now new : List Token)
    (xs : List A) → old ≡ Token.begin_array ∷ all → HasRead deep f all xs now →
    after_end_array now ≡ Some new → Got (suc deep) (list_of f) old xs new
each_over deep f old all now new xs is h over = (
  list_data h.0,
  items_over deep old all now new h.0 is h.1 over,
  ap (λ r. r >>= each f) (array_back h.0) ∙ h.2,
)

-- the items of an array of which each was read
pub array_ok : {A : Type 0} (f : Data → Part A) (d : Data) (xs : List A) → list_of f d ≡ Ok xs →
    (ds : List Data) × (array_of d ≡ Ok ds) × (each f ds ≡ Ok xs)
array_ok {A} f d xs h = by (array_of d) h
  where
    by : (r : Part (List Data)) → (r >>= each f) ≡ Ok xs → (ds : List Data) × (r ≡ Ok ds) ×
        (each f ds ≡ Ok xs)
    by (Ok ds) e = (ds, refl, e)
    by (Err f) e = absurd cc

-- ---- marks

one_mark_more : (one : Part Mark) (rest : Part (List Mark)) (x : Mark) (ys xs : List Mark) →
    one ≡ Ok x → rest ≡ Ok ys → xs ≡ x ∷ ys → with_others one rest ≡ Ok xs
one_mark_more one rest x ys xs h k is = rw (h, k, is) refl

marks_each : (ds : List Data) (marks : List Mark) → each mark_of ds ≡ Ok marks →
    marks_in ds ≡ Ok marks
unfolding marks_in
marks_each [] marks h = ap Ok (each_nothing mark_of marks h)
marks_each (d ∷ ds) marks h = let s =
    each_first mark_of d ds marks h in one_mark_more (mark_of d) (marks_in ds) s.0 s.1 marks s.2
    (marks_each ds s.1 s.3) s.4

few_marks : (d : Data) (ds : List Data) (marks : List Mark) → array_of d ≡ Ok ds →
    nat_le (length ds) most_marks ≡ true → marks_in ds ≡ Ok marks → marks_of d ≡ Ok marks
unfolding marks_of few_of
few_marks d ds marks is few read = rw (is, few) read

marks_are : (d : Data) (marks : List Mark) → list_of mark_of d ≡ Ok marks →
    length marks ≤ most_marks → marks_of d ≡ Ok marks
marks_are d marks h few =
    let a = array_ok mark_of d marks h in
    let as_many = each_length mark_of a.0 marks a.2 in
    few_marks d a.0 marks a.1 (ap (λ n. nat_le n most_marks) (sym as_many) ∙
    le-leb (length marks) most_marks few) (marks_each a.0 marks a.2)

-- a list of marks that are not too many
pub marks_got : (old new : List Token) (marks : List Mark) (o : Option (List Mark)) →
    Got 3 (list_of mark_of) old marks new → SomeIff o (length marks ≤ most_marks) marks →
    IfSome o (λ few. Got 3 marks_of old few new)
marks_got old new marks None g h = tt
marks_got old new marks (Some few) g h = (g.0, g.1, marks_are g.0 marks g.2 h.0 ∙ ap Ok (sym h.1))

-- ---- lists of calls

threads_are : (d : Data) (threads : List (List Call)) → list_of call_list d ≡ Ok threads →
    fits_trace threads ≡ true → threads_in d ≡ Ok threads
threads_are d threads h fit = rw (h, fit) refl

-- lists of calls that a trace may have
pub threads_got : (old new : List Token) (lists : List (List Call)) (o : Option (List (List Call)))
    → Got 6 (list_of call_list) old lists new → SomeIff o (fits_trace lists ≡ true) lists →
    IfSome o (λ threads. Got 6 threads_in old threads new)
threads_got old new lists None g h = tt
threads_got old new lists (Some threads) g h =
    (g.0, g.1, threads_are g.0 lists g.2 h.0 ∙ ap Ok (sym h.1))

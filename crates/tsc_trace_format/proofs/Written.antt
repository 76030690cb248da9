-- What is written is read again, part by part.
use Rattle.std.proofs.Common.{◌≡◌, inl, inr, ◌∙◌, refl, sym, ap, ℕ, zero, suc, ◌+◌, ◌^◌, ◌<◌, ◌≤◌, ◌&&◌, Bool, true, false, List, [], ◌∷◌, ◌++◌, map, length, Some, None, Ok, arith}
use Rattle.std.specs.Prelude.{slice_index, sum, nat_lt, nat_le, All}
use Rattle.std.specs.List.{sum_by}
use Rattle.std.proofs.lemmas.Bool.{leb-true, lt-ltb, and_parts}
use Rattle.std.proofs.lemmas.Bool.Decides.{nat_tests}
use Rattle.std.proofs.lemmas.List.{length-map}
use Rattle.std.proofs.lemmas.List.Elements.{All-nil}
use Rattle.std.proofs.lemmas.List.Sums.{sum-map}
use Rattle.hex.specs.Hex.{decode_of, encode_lower}
use Rattle.hex.proofs.HexLemmas.{decode_of-encode_lower}
use Rattle.uuid.specs.Text.{parsed, hyphenated_text, lower}
use Rattle.uuid.proofs.RoundTrips.{parses_hyphenated}
use Rattle.serde_json.specs.Data.{Data, unsigned, number, string}
use Rattle.serde_json.specs.View.{items_of}
use Rattle.tsc_time.specs.Time.{Time, is_in_range}
use Rattle.tsc_time.specs.ValueView.{IsMadeOwner}
use Rattle.tsc_span.proofs.MadeSpans.{only_less, less_before, less_or_equal}
use Rattle.tsc_span.specs.Span.{KeyBytes, key_cmp, before, after, last, SpanView, nothing, between}
use Rattle.tsc_span.specs.MadeSpan.{IsKey, IsMadeSpan}
use Rattle.tsc_span.proofs.CutsTotal.{key_cmp-same}
use Rattle.tsc_span.proofs.Ranges.{range_of_less, range_of_equal}
use Rattle.tsc_page_model.specs.declared.TheConstants.{LEAST_SIZE, MOST_SIZE}
use Rattle.tsc_cache.specs.declared.config.TheConstants.{LEAST_MIN_PAGES, MOST_MIN_PAGES, LONGEST_RETENTION}
use Rattle.tsc_cache.specs.ConfigView.{ConfigView, are_page_sizes, IsWithinLimits}
use Rattle.tsc_page_model.specs.Page.{Mark}
use Rattle.tsc_trace_format.specs.Limits.{most_marks}
use Rattle.tsc_trace_format.specs.Lists.{fits_trace}
use Rattle.tsc_trace_format.specs.declared.trace.Call.{Call}
use Rattle.tsc_trace_format.specs.declared.trace.Call.TheVariants.{Add, Batch, Get, Low}
use Rattle.tsc_trace_format.specs.Calls.{call_fits}
use Rattle.tsc_trace_format.specs.Traces.{Trace, EachFits, AllFit}
use Rattle.tsc_trace_format.specs.declared.read.head.Numbers.{Numbers}
use Rattle.tsc_trace_format.specs.declared.read.span.SpanForm.{SpanForm}
use Rattle.tsc_trace_format.specs.declared.read.span.SpanForm.TheVariants.{Range, Onward}
use Rattle.tsc_trace_format.specs.TraceText.{listed, array_of, object_of, text_of, unsigned_of, number_below, needed, two_of, time_in_range, time_of, key_of, owner_in, owner_member, ends_in, ends_of, excluded_in, excluded_of, range_form, onward_form, form_of, span_form, span_of_form, added_span, looked_up_span, add_of, mark_of, marks_in, few_of, marks_of, batch_of, get_of, low_of, call_by_name, call_of, fitting_call, numbers_in, lists_in, lists_of, head_of, config_in, calls_of, threads_of, trace_of}
use Rattle.tsc_trace_format.specs.TraceData.{list_data, key_data, time_data, owner_data, start_bracket, end_bracket, range_data, onward_data, span_data, mark_data, call_data, trace_data, IsTracedMark, IsMadeCall, IsMadeTrace}
use Rattle.tsc_trace_format.specs.TraceLaws.{ReadsWhatIsWritten}

-- ---- keys, times and owners

bytes_everywhere : (xs : List ℕ) → All (λ b. b < 256) xs → (i : ℕ) → slice_index xs i < 256
bytes_everywhere [] h i = omega arith
bytes_everywhere (x ∷ xs) h zero = h 0 0 (omega arith)
bytes_everywhere (x ∷ xs) h (suc i) = bytes_everywhere xs (λ k d lt. h (suc k) d (omega arith)) i

key_back : (k : KeyBytes) → IsKey k → key_of (key_data k) ≡ Ok k
unfolding key_of text_of
key_back k made =
    let decoded : decode_of (encode_lower k) ≡ Ok k =
    decode_of-encode_lower k (bytes_everywhere k made.bytes) in
    rw (decoded, made.fits) refl

time_back : (t : Time) → is_in_range t ≡ true → time_of (time_data t) ≡ Ok t
unfolding time_of array_of two_of unsigned_of time_in_range
time_back t within = rw within refl

owner_back : (o : _) → IsMadeOwner o → owner_member (Some (owner_data o)) ≡ Ok o
unfolding owner_member owner_in
owner_back None made = refl
owner_back (Some uuid) made =
    let read : parsed (hyphenated_text lower uuid) ≡ Some uuid =
    sym (parses_hyphenated lower uuid (inl refl) made.0 made.1) in
    rw (read, made.2) refl

-- ---- spans

ends_back : (x y : Bool) → ends_of (string (start_bracket x ++ end_bracket y)) ≡
    Ok (record { exclude_from = x; exclude_to = y })
unfolding ends_of ends_in text_of
ends_back true true = refl
ends_back true false = refl
ends_back false true = refl
ends_back false false = refl

excluded_back : (x : Bool) → excluded_of (string (start_bracket x)) ≡ Ok x
unfolding excluded_of excluded_in text_of
excluded_back true = refl
excluded_back false = refl

range_back : (k m : KeyBytes) (x y : Bool) → IsKey k → IsKey m →
    span_form (range_data k m x y) ≡ Ok (Range k m (record { exclude_from = x; exclude_to = y }))
unfolding span_form object_of needed form_of range_form
range_back k m x y of_k of_m = rw (key_back k of_k, key_back m of_m, ends_back x y) refl

onward_back : (k : KeyBytes) (x : Bool) → IsKey k → span_form (onward_data k x) ≡ Ok (Onward k x)
unfolding span_form object_of needed form_of onward_form
onward_back k x of_k = rw (key_back k of_k, excluded_back x) refl

empty_key : IsKey []
empty_key = record { fits = refl; bytes = All-nil (λ b. b < 256) }

-- a span is written in a form that is read again, and is the span of that form
pub record IsBack (s : SpanView) : Type 0 where
  pub form : SpanForm
  pub read : span_form (span_data s) ≡ Ok form
  pub span : span_of_form form ≡ Some s

span_back : (s : SpanView) → IsMadeSpan s → IsBack s
unfolding span_of_form
span_back nothing made = record {
  form =
      Range [] [] (record { exclude_from = true; exclude_to = true });
  read =
      range_back [] [] true true empty_key empty_key;
  span = refl;
}
span_back (between (before k) (before m)) made =
    record {
      form = Range k m (record { exclude_from = false; exclude_to = true });
      read = range_back k m false true made.0 made.1;
      span = range_of_less k m false true (only_less (key_cmp k m) made.2);
    }
span_back (between (before k) (after m)) made =
    record {
      form = Range k m (record { exclude_from = false; exclude_to = false });
      read = range_back k m false false made.0 made.1;
      span = elim (less_or_equal (key_cmp k m) made.2) [
        | inl less ↦ range_of_less k m false false less
        | inr equal ↦ range_of_equal k m false false equal ∙
            ap (λ n. Some (between (before k) (after n))) (key_cmp-same k m equal)
      ];
    }
span_back (between (after k) (before m)) made =
    record {
      form = Range k m (record { exclude_from = true; exclude_to = true });
      read = range_back k m true true made.0 made.1;
      span = range_of_less k m true true (less_before (key_cmp k m) made.2);
    }
span_back (between (after k) (after m)) made =
    record {
      form = Range k m (record { exclude_from = true; exclude_to = false });
      read = range_back k m true false made.0 made.1;
      span = range_of_less k m true false (only_less (key_cmp k m) made.2);
    }
span_back (between (before k) last) made =
    record { form = Onward k false; read = onward_back k false made.0; span = refl }
span_back (between (after k) last) made =
    record { form = Onward k true; read = onward_back k true made.0; span = refl }
span_back (between last (before m)) made = absurd (let e = made.2 in cc)
span_back (between last (after m)) made = absurd (let e = made.2 in cc)
span_back (between last last) made = absurd (let e = made.2 in cc)

added_back : (s : SpanView) → IsMadeSpan s → added_span (span_data s) ≡ Ok s
unfolding added_span
added_back s made = let back = span_back s made in rw (back.read, back.span) refl

looked_up_back : (s : SpanView) → IsMadeSpan s → looked_up_span (span_data s) ≡ Ok s
unfolding looked_up_span
looked_up_back s made = let back = span_back s made in rw (back.read, back.span) refl

-- ---- lists

listed_back : (ds : List Data) → listed (items_of ds) ≡ ds
listed_back [] = refl
listed_back (d ∷ ds) = ap (λ xs. d ∷ xs) (listed_back ds)

array_back : (ds : List Data) → array_of (list_data ds) ≡ Ok ds
unfolding array_of
array_back ds = rw (listed_back ds) refl

-- ---- batches

mark_back : (m : Mark) → IsTracedMark m → mark_of (mark_data m) ≡ Ok m
unfolding mark_of object_of needed
mark_back m made = rw (
  added_back m.span made.span,
  time_back m.value.time made.value.time,
  owner_back m.value.owner made.value.owner,
) refl

marks_in_back : (ms : List Mark) → All IsTracedMark ms → marks_in (map mark_data ms) ≡ Ok ms
unfolding marks_in
marks_in_back [] made = refl
marks_in_back (m ∷ ms) made = rw (
  mark_back m (made 0 m (omega arith)),
  marks_in_back ms (λ k d lt. made (suc k) d (omega arith)),
) refl

few_enough : (n most : ℕ) → n ≤ most → nat_le n most ≡ true
few_enough n most few = grind (arith, nat_tests)

marks_back : (ms : List Mark) → All IsTracedMark ms → length ms ≤ most_marks →
    marks_of (list_data (map mark_data ms)) ≡ Ok ms
unfolding marks_of few_of
marks_back ms made few =
    let test : nat_le (length (map mark_data ms)) most_marks ≡ true =
    rw (length-map ms mark_data) (few_enough (length ms) most_marks few) in
    rw (array_back (map mark_data ms), test, marks_in_back ms made) refl

-- ---- calls

call_back : (c : Call) → IsMadeCall c → call_of (call_data c) ≡ Ok c
unfolding call_of object_of needed text_of call_by_name add_of batch_of get_of low_of
call_back (Add span value now) made =
    rw (
      added_back span made.0,
      time_back value.time made.1.time,
      owner_back value.owner made.1.owner,
      time_back now made.2,
    ) refl
call_back (Batch marks now) made =
    rw (marks_back marks made.each made.few, time_back now made.moment) refl
call_back (Get span) made = rw (looked_up_back span made) refl
call_back Low made = refl

fitting_back : (config : ConfigView) (c : Call) → IsMadeCall c → call_fits config c ≡ true →
    fitting_call config (call_data c) ≡ Ok c
unfolding fitting_call
fitting_back config c made fit = rw (call_back c made, fit) refl

calls_back : (config : ConfigView) (first : ℕ) (cs : List Call) → All IsMadeCall cs →
    EachFits config cs → calls_of config first (map call_data cs) ≡ Ok cs
unfolding calls_of
calls_back config first [] made fit = refl
calls_back config first (c ∷ cs) made fit =
    rw (
      fitting_back config c (made 0 c (omega arith)) (fit 0 c (omega arith)),
      calls_back config (suc first) cs (λ k d lt. made (suc k) d (omega arith))
          (λ k d lt. fit (suc k) d (omega arith)),
    ) refl

-- the calls of each list
abbrev pub rows_of : List (List Call) → List (List Data)
rows_of threads = map (λ calls. map call_data calls) threads

lists_back : (threads : List (List Call)) →
    lists_in (map (λ calls. list_data (map call_data calls)) threads) ≡ Ok (rows_of threads)
unfolding lists_in
lists_back [] = refl
lists_back (calls ∷ threads) = rw (array_back (map call_data calls), lists_back threads) refl

threads_back : (config : ConfigView) (first : ℕ) (threads : List (List Call)) →
    All (λ calls. All IsMadeCall calls) threads → AllFit config threads →
    threads_of config first (rows_of threads) ≡ Ok threads
unfolding threads_of
threads_back config first [] made fit = refl
threads_back config first (calls ∷ threads) made fit =
    let others = threads_back config (first + length (map call_data calls)) threads
    (λ k d lt. made (suc k) d (omega arith)) (λ k d lt. fit (suc k) d (omega arith)) in
    rw (
      calls_back config first calls (made 0 calls (omega arith)) (fit 0 calls (omega arith)),
      others,
    ) refl

same_lengths : (threads : List (List Call)) → map length (rows_of threads) ≡ map length threads
same_lengths [] = refl
same_lengths (calls ∷ threads) = rw (length-map calls call_data, same_lengths threads) refl

rows_fit : (threads : List (List Call)) → fits_trace threads ≡ true →
    fits_trace (rows_of threads) ≡ true
rows_fit threads fit =
    let many : length (rows_of threads) ≡ length threads =
    length-map threads (λ calls. map call_data calls) in
    let calls : sum_by length (rows_of threads) ≡ sum_by length threads =
    sym (sum-map length (rows_of threads)) ∙ ap sum (same_lengths threads) ∙
    sum-map length threads in
    rw (many, calls) fit

-- ---- the head

number_back : (limit n : ℕ) → nat_lt n limit ≡ true →
    number_below limit (number (unsigned n)) ≡ Ok n
unfolding number_below unsigned_of
number_back limit n below = rw below refl

-- a number between two limits fits 32 bits
fits_32_bits : (least n most : ℕ) → nat_le least n && nat_le n most ≡ true → most < 2 ^ 32 →
    nat_lt n (2 ^ 32) ≡ true
fits_32_bits least n most within small =
    let most_at : n ≤ most = leb-true n most
    (and_parts (nat_le least n) (nat_le n most) within).1 in
    lt-ltb n (2 ^ 32) (omega arith)

-- the sizes of pages, of which the first is no larger than the largest
record AreOf32Bits (first most : ℕ) : Type 0 where
  first_below : nat_lt first (2 ^ 32) ≡ true
  most_below : nat_lt most (2 ^ 32) ≡ true

sizes_fit : (first most : ℕ) → are_page_sizes first most ≡ true → AreOf32Bits first most
sizes_fit first most within =
    let parts = and_parts (nat_le LEAST_SIZE first) (nat_le first most && nat_le most MOST_SIZE)
    within in
    let others = and_parts (nat_le first most) (nat_le most MOST_SIZE) parts.1 in
    let below : first ≤ most = leb-true first most others.0 in
    let largest : most ≤ MOST_SIZE = leb-true most MOST_SIZE others.1 in
    record {
      first_below = lt-ltb first (2 ^ 32) (omega arith);
      most_below = lt-ltb most (2 ^ 32) (omega arith);
    }

fits_64_bits : (n most : ℕ) → nat_le n most ≡ true → most < 2 ^ 64 → nat_lt n (2 ^ 64) ≡ true
fits_64_bits n most within small =
    let most_at : n ≤ most = leb-true n most within in
    lt-ltb n (2 ^ 64) (omega arith)

-- the numbers of a configuration
abbrev pub numbers_of : ConfigView → Numbers
numbers_of s = record {
  page_first = s.page_first;
  page_max = s.page_max;
  min_pages = s.min_pages;
  retention = s.retention;
  low_water = s.low_water;
}

head_back : (t : Trace) → IsMadeTrace t →
    head_of (trace_data t) ≡ Ok (numbers_of t.config, rows_of t.threads)
unfolding head_of object_of needed numbers_in lists_of
head_back t made =
    let limits = made.limits in
    let sizes = sizes_fit t.config.page_first t.config.page_max limits.sizes in
    let page_first : number_below (2 ^ 32) (number (unsigned t.config.page_first)) ≡
    Ok t.config.page_first = number_back _ _ sizes.first_below in
    let page_max : number_below (2 ^ 32) (number (unsigned t.config.page_max)) ≡
    Ok t.config.page_max = number_back _ _ sizes.most_below in
    let min_pages : number_below (2 ^ 32) (number (unsigned t.config.min_pages)) ≡
    Ok t.config.min_pages = number_back _ _
    (fits_32_bits LEAST_MIN_PAGES t.config.min_pages MOST_MIN_PAGES limits.min_pages
    (omega arith)) in
    let retention : number_below (2 ^ 64) (number (unsigned t.config.retention)) ≡
    Ok t.config.retention = number_back _ _
    (fits_64_bits t.config.retention LONGEST_RETENTION limits.retention (omega arith)) in
    rw (
      page_first,
      page_max,
      min_pages,
      retention,
      time_back t.config.low_water made.low_water,
      array_back (map (λ calls. list_data (map call_data calls)) t.threads),
      lists_back t.threads,
    ) refl

config_back : (s : ConfigView) → IsWithinLimits s → config_in (numbers_of s) ≡ Ok s
unfolding config_in
config_back s limits = rw (limits.sizes, limits.min_pages, limits.retention) refl

pub written_is_read : ReadsWhatIsWritten
unfolding trace_of
written_is_read t made = rw (
  head_back t made,
  config_back t.config made.limits,
  rows_fit t.threads made.fits,
  threads_back t.config 1 t.threads made.calls made.each_fits,
) refl

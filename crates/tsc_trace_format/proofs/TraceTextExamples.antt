-- Traces as files write them, as JSON values and as bytes, and what is refused.
use Rattle.std.specs.Prelude.{◌≡◌, ℕ, List, [], ◌∷◌, ◌++◌, Some, Ok, Err, codes, refl}
use Rattle.std.specs.Str.{is_utf8, chars}
use Rattle.hex.proofs.OnLiterals.{hex_on_literals}
use Rattle.uuid.proofs.OnLiterals.{uuid_on_literals}
use Rattle.serde_json.proofs.OnLiterals.{serde_json_on_literals}
use Rattle.serde_json.specs.Data.{unsigned, Data, number, string, array, object, Items, no_items, item, no_members, member}
use Rattle.tsc_time.specs.Time.{Time}
use Rattle.tsc_time.specs.ValueView.{unowned}
use Rattle.tsc_span.specs.Span.{nothing, between, before, after, last, point}
use Rattle.tsc_trace_format.specs.declared.trace.Call.TheVariants.{Add, Batch, Get}
use Rattle.tsc_trace_format.specs.declared.read.TraceFault.TheVariants.{NotJson, Shape, Number, Hex, Uuid, Config, TooLarge}
use Rattle.tsc_trace_format.specs.declared.read.part.PartFault.TheVariants as part
use Rattle.tsc_trace_format.specs.TraceText.{json_of, trace_of_bytes}
use Rattle.tsc_trace_format.specs.TraceText.{array_of, object_of, text_of, unsigned_of, number_below, needed, two_of, time_in_range, time_of, key_of, owner_in, owner_member, ends_in, ends_of, excluded_in, excluded_of, start_form, start_to_end_form, range_form, onward_form, form_of, span_form, span_of_form, added_span, looked_up_span, add_of, mark_of, marks_in, few_of, marks_of, batch_of, get_of, low_of, call_by_name, call_of, fitting_call, numbers_in, lists_in, lists_of, head_of, config_in, calls_of, threads_of, trace_of}
use Rattle.tsc_trace_format.proofs.ExampleTraces.{ended, example_trace}

-- a time: its wall time and its logical count
abbrev pub time : ℕ → ℕ → Data
time wall logical = array (item (number (unsigned wall))
    (item (number (unsigned logical)) no_items))

abbrev pub point_span : List ℕ → Data
point_span start = object (member (codes "start") (string start) no_members)

abbrev pub range_span : List ℕ → List ℕ → Data
range_span start end = object (member (codes "end") (string end)
    (member (codes "start") (string start) no_members))

-- a range with the brackets of its ends
abbrev pub bracketed_span : List ℕ → List ℕ → List ℕ → Data
bracketed_span start end ends = object
    (member (codes "end") (string end)
    (member (codes "ends") (string ends) (member (codes "start") (string start) no_members)))

abbrev pub onward_span : List ℕ → List ℕ → Data
onward_span start side = object (member (codes "onward") (string side)
    (member (codes "start") (string start) no_members))

abbrev pub timed_add_call : Data → List ℕ → Data → Data
timed_add_call span owner at =
    object
    (member (codes "now") (time 20 0)
    (member (codes "op") (string (codes "add"))
    (member (codes "owner") (string owner)
    (member (codes "span") span
    (member (codes "time") at no_members)))))

abbrev pub add_call : Data → List ℕ → Data
add_call span owner = timed_add_call span owner (time 20 0)

abbrev pub get_call : Data → Data
get_call span = object (member (codes "op") (string (codes "get"))
    (member (codes "span") span no_members))

abbrev pub low_call : Data
low_call = object (member (codes "op") (string (codes "low")) no_members)

-- a batch of these marks
abbrev pub batch_call : Items → Data
batch_call marks =
    object
    (member (codes "marks") (array marks)
    (member (codes "now") (time 20 0)
    (member (codes "op") (string (codes "batch")) no_members)))

-- a mark of a batch, without an owner
abbrev pub batch_mark : Data → Data → Data
batch_mark span at = object (member (codes "span") span (member (codes "time") at no_members))

-- a call with a member that no call has
abbrev pub low_call_and_more : Data
low_call_and_more = object (member (codes "op") (string (codes "low"))
    (member (codes "x") (number (unsigned 1)) no_members))

abbrev pub first_owner : List ℕ
first_owner = codes "11111111-1111-4111-8111-111111111111"

abbrev pub nil_owner : List ℕ
nil_owner = codes "00000000-0000-0000-0000-000000000000"

abbrev pub calls_data : Items
calls_data =
    item (add_call (range_span (codes "61") (codes "63")) first_owner)
    (item (get_call (point_span (codes "62")))
    (item (get_call (point_span (codes "63")))
    (item (add_call (point_span (codes "62")) (codes "22222222-2222-4222-8222-222222222222"))
    (item (get_call (point_span (codes "62")))
    (item low_call no_items)))))

-- the members of a trace, in the order of their names
abbrev pub trace_on_pages : ℕ → ℕ → Items → Data
trace_on_pages page_first page_max threads =
    object
    (member (codes "low_water") (time 5 0)
    (member (codes "min_pages") (number (unsigned 2))
    (member (codes "page_first") (number (unsigned page_first))
    (member (codes "page_max") (number (unsigned page_max))
    (member (codes "retention") (number (unsigned 10))
    (member (codes "threads") (array threads) no_members))))))

abbrev pub trace_data : Items → Data
trace_data threads = trace_on_pages 132 132 threads

abbrev pub one_list : Items → Items
one_list calls = item (array calls) no_items

abbrev pub one_call : Data → Items
one_call call = item call no_items

-- what an Add of a point at 20.0 is read as
abbrev pub twenty : Time
twenty = record { wall = 20; logical = 0 }

pub the_trace_of_a_json_value : trace_of (trace_data (one_list calls_data)) ≡ Ok example_trace
unfolding array_of object_of text_of unsigned_of number_below needed two_of time_in_range time_of
    key_of owner_in owner_member ends_in ends_of excluded_in excluded_of start_form
    start_to_end_form range_form onward_form form_of span_form span_of_form added_span
    looked_up_span add_of get_of low_of call_by_name call_of fitting_call numbers_in lists_in
    lists_of head_of config_in calls_of threads_of trace_of hex_on_literals uuid_on_literals
the_trace_of_a_json_value = refl

-- ---- spans

pub ends_that_are_kept : call_of (get_call (bracketed_span (codes "61") (codes "63") (codes "[]")))
    ≡ Ok (Get (between (before (97 ∷ [])) (after (99 ∷ []))))
unfolding array_of object_of text_of needed key_of ends_in ends_of range_form form_of span_form
    span_of_form looked_up_span get_of call_by_name call_of hex_on_literals
ends_that_are_kept = refl

pub a_start_that_is_excluded : call_of
    (get_call (bracketed_span (codes "61") (codes "63") (codes "(]"))) ≡
    Ok (Get (between (after (97 ∷ [])) (after (99 ∷ []))))
unfolding array_of object_of text_of needed key_of ends_in ends_of range_form form_of span_form
    span_of_form looked_up_span get_of call_by_name call_of hex_on_literals
a_start_that_is_excluded = refl

pub an_end_that_is_excluded : call_of
    (get_call (bracketed_span (codes "61") (codes "63") (codes "[)"))) ≡
    Ok (Get (between (before (97 ∷ [])) (before (99 ∷ []))))
unfolding array_of object_of text_of needed key_of ends_in ends_of range_form form_of span_form
    span_of_form looked_up_span get_of call_by_name call_of hex_on_literals
an_end_that_is_excluded = refl

pub onward_without_the_start : call_of (get_call (onward_span (codes "61") (codes "("))) ≡
    Ok (Get (between (after (97 ∷ [])) last))
unfolding array_of object_of text_of needed key_of excluded_in excluded_of onward_form form_of
    span_form span_of_form looked_up_span get_of call_by_name call_of hex_on_literals
onward_without_the_start = refl

pub an_inverted_lookup_is_empty : call_of (get_call (range_span (codes "63") (codes "61"))) ≡
    Ok (Get nothing)
unfolding array_of object_of text_of needed key_of start_to_end_form form_of span_form span_of_form
    looked_up_span get_of call_by_name call_of hex_on_literals
an_inverted_lookup_is_empty = refl

-- ---- calls that are refused

pub an_inverted_add : call_of (add_call (range_span (codes "63") (codes "61")) first_owner) ≡
    Err part.Span
unfolding array_of object_of text_of unsigned_of needed two_of time_in_range time_of key_of owner_in
    owner_member start_to_end_form form_of span_form span_of_form added_span add_of call_by_name
    call_of hex_on_literals uuid_on_literals
an_inverted_add = refl

pub odd_digits : call_of (get_call (point_span (codes "6"))) ≡ Err part.Hex
unfolding array_of object_of text_of needed key_of start_form form_of span_form span_of_form
    looked_up_span get_of call_by_name call_of hex_on_literals
odd_digits = refl

pub a_wrong_owner : call_of (add_call (point_span (codes "61")) (codes "xyz")) ≡ Err part.Uuid
unfolding array_of object_of text_of unsigned_of needed two_of time_in_range time_of key_of owner_in
    owner_member start_form form_of span_form span_of_form added_span add_of call_by_name call_of
    hex_on_literals uuid_on_literals
a_wrong_owner = refl

-- of wrong digits and a number out of range the number is told
pub the_least_fault : call_of (timed_add_call (point_span (codes "6")) (codes "xyz")
    (time 20 2147483648)) ≡ Err part.Number
unfolding array_of object_of text_of unsigned_of needed two_of time_in_range time_of key_of owner_in
    owner_member start_form form_of span_form span_of_form added_span add_of call_by_name call_of
    hex_on_literals uuid_on_literals
the_least_fault = refl

pub the_nil_owner_is_none : call_of (add_call (point_span (codes "61")) nil_owner) ≡
    Ok (Add (point (97 ∷ [])) (unowned twenty) twenty)
unfolding array_of object_of text_of unsigned_of needed two_of time_in_range time_of key_of owner_in
    owner_member start_form form_of span_form span_of_form added_span add_of call_by_name call_of
    hex_on_literals uuid_on_literals
the_nil_owner_is_none = refl

-- ---- batches

pub a_batch_of_one_mark : call_of (batch_call
    (item (batch_mark (point_span (codes "61")) (time 20 0)) no_items)) ≡
    Ok (Batch (record { span = point (97 ∷ []); value = unowned twenty } ∷ []) twenty)
unfolding array_of object_of text_of unsigned_of needed two_of time_in_range time_of key_of
    owner_member start_form form_of span_form span_of_form added_span mark_of marks_in few_of
    marks_of batch_of call_by_name call_of hex_on_literals
a_batch_of_one_mark = refl

pub a_batch_of_no_marks : call_of (batch_call no_items) ≡ Ok (Batch [] twenty)
unfolding array_of object_of text_of unsigned_of needed two_of time_in_range time_of marks_in few_of
    marks_of batch_of call_by_name call_of
a_batch_of_no_marks = refl

-- of wrong digits in one mark and a number out of range in the next the number is told
pub the_least_fault_of_a_batch : call_of
    (batch_call (item (batch_mark (point_span (codes "6g")) (time 20 0))
    (item (batch_mark (point_span (codes "61")) (time 20 2147483648)) no_items))) ≡ Err part.Number
unfolding array_of object_of text_of unsigned_of needed two_of time_in_range time_of key_of
    owner_member start_form form_of span_form span_of_form added_span mark_of marks_in few_of
    marks_of batch_of call_by_name call_of hex_on_literals
the_least_fault_of_a_batch = refl

-- ---- traces that are refused

-- calls are numbered on through all lists, and the first that has a fault decides
pub the_first_wrong_call : trace_of
    (trace_data (item (array (one_call low_call))
    (one_list (item low_call (item (get_call (point_span (codes "6g")))
    (one_call low_call_and_more)))))) ≡ Err (Hex 3)
unfolding array_of object_of text_of unsigned_of number_below needed two_of time_in_range time_of
    key_of start_form form_of span_form span_of_form looked_up_span get_of low_of call_by_name
    call_of fitting_call numbers_in lists_in lists_of head_of config_in calls_of threads_of
    trace_of hex_on_literals
the_first_wrong_call = refl

-- the configuration is tested before the calls
pub a_configuration_before_calls : trace_of
    (trace_on_pages 63 132 (one_list (one_call low_call_and_more))) ≡ Err Config
unfolding array_of object_of text_of unsigned_of number_below needed two_of time_in_range time_of
    numbers_in lists_in lists_of head_of config_in trace_of
a_configuration_before_calls = refl

pub a_number_of_the_head : trace_of (trace_on_pages 4294967296 132 (one_list no_items)) ≡
    Err (Number 0)
unfolding array_of object_of text_of unsigned_of number_below needed two_of time_in_range time_of
    numbers_in lists_in lists_of head_of config_in trace_of
a_number_of_the_head = refl

-- in the head too the shape comes before the numbers
pub a_shape_of_the_head : trace_of (trace_on_pages 4294967296 132 (one_call low_call)) ≡
    Err (Shape 0)
unfolding array_of object_of text_of unsigned_of number_below needed two_of time_in_range time_of
    numbers_in lists_in lists_of head_of config_in trace_of
a_shape_of_the_head = refl

-- pages on which two keys of one byte have no place together
abbrev pub narrow_trace : Data → Data
narrow_trace call = trace_on_pages 64 64 (one_list (one_call call))

pub an_add_that_is_too_large : trace_of
    (narrow_trace (add_call (range_span (codes "61") (codes "63")) first_owner)) ≡ Err (TooLarge 1)
unfolding array_of object_of text_of unsigned_of number_below needed two_of time_in_range time_of
    key_of owner_in owner_member start_form start_to_end_form form_of span_form span_of_form
    added_span looked_up_span add_of get_of call_by_name call_of fitting_call numbers_in lists_in
    lists_of head_of config_in calls_of threads_of trace_of hex_on_literals uuid_on_literals
an_add_that_is_too_large = refl

-- one mark of a batch is enough
pub a_batch_with_a_mark_that_is_too_large : trace_of
    (narrow_trace (batch_call (item (batch_mark (point_span (codes "61")) (time 20 0))
    (item (batch_mark (range_span (codes "61") (codes "63")) (time 20 0)) no_items)))) ≡
    Err (TooLarge 1)
unfolding array_of object_of text_of unsigned_of number_below needed two_of time_in_range time_of
    key_of owner_member start_form start_to_end_form form_of span_form span_of_form added_span
    mark_of marks_in few_of marks_of batch_of call_by_name call_of fitting_call numbers_in lists_in
    lists_of head_of config_in calls_of threads_of trace_of hex_on_literals
a_batch_with_a_mark_that_is_too_large = refl

-- what else is wrong with a call comes before that
pub a_wrong_owner_of_one_that_is_too_large : trace_of
    (narrow_trace (add_call (range_span (codes "61") (codes "63")) (codes "xyz"))) ≡ Err (Uuid 1)
unfolding array_of object_of text_of unsigned_of number_below needed two_of time_in_range time_of
    key_of owner_in owner_member start_form start_to_end_form form_of span_form span_of_form
    added_span looked_up_span add_of get_of call_by_name call_of fitting_call numbers_in lists_in
    lists_of head_of config_in calls_of threads_of trace_of hex_on_literals uuid_on_literals
a_wrong_owner_of_one_that_is_too_large = refl

-- of any size
pub a_lookup_is_never_too_large : trace_of
    (narrow_trace (get_call (range_span (codes "61") (codes "63")))) ≡
    Ok (record {
      config = record {
        page_first = 64;
        page_max = 64;
        min_pages = 2;
        retention = 10;
        low_water = record { wall = 5; logical = 0 };
      };
      threads =
          (Get (between (before (97 ∷ [])) (before (99 ∷ []))) ∷ []) ∷ [];
    })
unfolding array_of object_of text_of unsigned_of number_below needed two_of time_in_range time_of
    key_of owner_in owner_member start_form start_to_end_form form_of span_form span_of_form
    added_span looked_up_span add_of get_of call_by_name call_of fitting_call numbers_in lists_in
    lists_of head_of config_in calls_of threads_of trace_of hex_on_literals uuid_on_literals
a_lookup_is_never_too_large = refl

pub no_list : trace_of (trace_data no_items) ≡ Err Config
unfolding array_of object_of text_of unsigned_of number_below needed two_of time_in_range time_of
    numbers_in lists_in lists_of head_of config_in trace_of
no_list = refl

-- ---- the bytes of a file

abbrev pub example_trace_text : List ℕ
example_trace_text =
    ended
    (codes
    "{\"page_first\":132,\"page_max\":132,\"min_pages\":2,\"retention\":10,\"low_water\":[5,0],\"threads\":[[")
    ++
    ended (codes "{\"op\":\"add\",\"span\":{\"start\":\"61\",\"end\":\"63\"},\"time\":[20,0],\"owner\":\"11111111-1111-4111-8111-111111111111\",\"now\":[20,0]},")
    ++ ended (codes "{\"op\":\"get\",\"span\":{\"start\":\"62\"}},")
    ++ ended (codes "{\"op\":\"get\",\"span\":{\"start\":\"63\"}},")
    ++
    ended (codes "{\"op\":\"add\",\"span\":{\"start\":\"62\"},\"time\":[20,0],\"owner\":\"22222222-2222-4222-8222-222222222222\",\"now\":[20,0]},")
    ++ ended (codes "{\"op\":\"get\",\"span\":{\"start\":\"62\"}},")
    ++ ended (codes "{\"op\":\"low\"}]]}")

pub the_json_value_of_a_file : json_of example_trace_text ≡ Some (trace_data (one_list calls_data))
unfolding serde_json_on_literals is_utf8 chars
the_json_value_of_a_file = refl

pub the_trace_of_a_file : trace_of_bytes example_trace_text ≡ Ok example_trace
unfolding array_of object_of text_of unsigned_of number_below needed two_of time_in_range time_of
    key_of owner_in owner_member ends_in ends_of excluded_in excluded_of start_form
    start_to_end_form range_form onward_form form_of span_form span_of_form added_span
    looked_up_span add_of get_of low_of call_by_name call_of fitting_call numbers_in lists_in
    lists_of head_of config_in calls_of threads_of trace_of serde_json_on_literals hex_on_literals
    uuid_on_literals is_utf8 chars
the_trace_of_a_file = refl

pub a_text_that_stops_early_is_not_json : trace_of_bytes (codes "{\"page_first\":132") ≡ Err NotJson
unfolding serde_json_on_literals is_utf8 chars
a_text_that_stops_early_is_not_json = refl

pub no_bytes_are_not_json : trace_of_bytes [] ≡ Err NotJson
unfolding serde_json_on_literals is_utf8 chars
no_bytes_are_not_json = refl

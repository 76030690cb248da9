-- The trace that a text is, or why it is none: one JSON text, in the form that docs/FORMATS.md
-- describes.
use Rattle.std.specs.Prelude.{ℕ, suc, ◌+◌, ◌^◌, ◌&&◌, List, [], ◌∷◌, length, nat_le, nat_lt, Bool, true, false, Option, Some, None, option_map, unwrap_or, Result, Ok, Err, ok_or, codes, if◌then◌else◌}
use Rattle.std.specs.Result.{result_ok}
use Rattle.std.specs.List.{list_any}
use Rattle.std.specs.Str.{bytes_eq, is_utf8}
use Rattle.hex.specs.Hex.{decode_of}
use Rattle.uuid.specs.Text.{parsed}
use Rattle.serde_json.specs.Data.{Data, null, boolean, number, string, array, object, Items, no_items, item, Members, no_members, member}
use Rattle.serde_json.specs.Read.{read}
use Rattle.serde_json.specs.Find.{get_member, as_number, as_u64, as_str, as_array, as_object}
use Rattle.tsc_time.specs.Time.{Time, is_in_range}
use Rattle.tsc_time.specs.ValueView.{Owner, owner_of}
use Rattle.tsc_span.specs.declared.span.Ends.{Ends}
use Rattle.tsc_span.specs.Span.{KeyBytes, SpanView, nothing, point, range, onward, start_to_end, fits_key}
use Rattle.tsc_cache.specs.ConfigView.{ConfigView, made_config}
use Rattle.tsc_page_model.specs.Page.{Mark}
use Rattle.tsc_trace_format.specs.Limits.{most_marks}
use Rattle.tsc_trace_format.specs.Lists.{fits_trace}
use Rattle.tsc_trace_format.specs.TraceParts.{Part, both, ◌>>=◌, where_holds, at_call}
use Rattle.tsc_trace_format.specs.declared.trace.Call.{Call}
use Rattle.tsc_trace_format.specs.declared.trace.Call.TheVariants.{Add, Batch, Get, Low}
use Rattle.tsc_trace_format.specs.Calls.{call_fits}
use Rattle.tsc_trace_format.specs.Traces.{Trace}
use Rattle.tsc_trace_format.specs.declared.read.TraceFault.{TraceFault}
use Rattle.tsc_trace_format.specs.declared.read.TraceFault.TheVariants.{NotJson, Config}
use Rattle.tsc_trace_format.specs.declared.read.part.PartFault.TheVariants.{Shape, Number, Hex, Uuid, Span, TooLarge}
use Rattle.tsc_trace_format.specs.declared.read.head.Numbers.{Numbers}
use Rattle.tsc_trace_format.specs.declared.read.span.SpanForm.{SpanForm}
use Rattle.tsc_trace_format.specs.declared.read.span.SpanForm.TheVariants.{Start, StartToEnd, Range, Onward}

-- ---- the kinds of JSON values, of which another is a fault of the shape

-- the items of an array, as a list
abbrev pub listed : Items → List Data
listed no_items = []
listed (item d ds) = d ∷ listed ds

-- the items of a value that has to be an array
unfoldable pub array_of : Data → Part (List Data)
array_of d = ok_or (option_map listed (as_array d)) Shape

-- the members of a value that has to be an object
unfoldable pub object_of : Data → Part Members
object_of d = ok_or (as_object d) Shape

-- the bytes of a value that has to be a string
unfoldable pub text_of : Data → Part (List ℕ)
text_of d = ok_or (as_str d) Shape

-- A number that serde_json keeps as an unsigned integer: `20` is one. Another number, as `-1`,
-- `20.0`, `2e1` or `-0`, is out of range.
unfoldable pub unsigned_of : Data → Part ℕ
unsigned_of d = do
  n ← ok_or (as_number d) Shape
  ok_or (as_u64 n) Number

-- a number that serde_json keeps as an unsigned integer, below a limit
unfoldable pub number_below : ℕ → Data → Part ℕ
number_below limit d = do
  n ← unsigned_of d
  where_holds Number (nat_lt n limit) n

-- ---- members of objects

-- whether an object has no member but those named
abbrev pub names_only : List (List ℕ) → Members → Bool
names_only names no_members = true
names_only names (member k d ms) = list_any (bytes_eq k) names && names_only names ms

-- the members, none of which may have another name than these
abbrev pub only_named : List (List ℕ) → Members → Part Members
only_named names ms = where_holds Shape (names_only names ms) ms

-- a member that has to be there
unfoldable pub needed : List ℕ → Members → Part Data
needed name ms = ok_or (get_member name ms) Shape

-- a member that has to be there, as what it is read as
abbrev pub needed_as : {A : Type 0} → List ℕ → (Data → Part A) → Members → Part A
needed_as name f ms = needed name ms >>= f

-- ---- times, keys and owners

-- a list of exactly two
unfoldable pub two_of : List Data → Part (Data × Data)
two_of [] = Err Shape
two_of (a ∷ []) = Err Shape
two_of (a ∷ b ∷ []) = Ok (a, b)
two_of (a ∷ b ∷ c ∷ ds) = Err Shape

-- the time of a wall time and a logical count
unfoldable pub time_in_range : ℕ → ℕ → Part Time
time_in_range wall logical = where_holds Number
    (is_in_range (record { wall = wall; logical = logical }))
    (record { wall = wall; logical = logical })

-- a time: a list of its two numbers
unfoldable pub time_of : Data → Part Time
time_of d = do
  ds ← array_of d
  two ← two_of ds
  numbers ← both (unsigned_of two.0) (unsigned_of two.1)
  time_in_range numbers.0 numbers.1

-- a key: a text of hexadecimal digits
unfoldable pub key_of : Data → Part KeyBytes
key_of d = do
  text ← text_of d
  bytes ← ok_or (result_ok (decode_of text)) Hex
  where_holds Span (fits_key bytes) bytes

-- the owner that a text names, of which the nil UUID names none
unfoldable pub owner_in : List ℕ → Part (Option Owner)
owner_in text = ok_or (option_map owner_of (parsed text)) Uuid

-- an owner that may be left out or null, which then is none
unfoldable pub owner_member : Option Data → Part (Option Owner)
owner_member None = Ok None
owner_member (Some null) = Ok None
owner_member (Some (boolean b)) = Err Shape
owner_member (Some (number n)) = Err Shape
owner_member (Some (string text)) = owner_in text
owner_member (Some (array ds)) = Err Shape
owner_member (Some (object ms)) = Err Shape

-- ---- spans

-- which ends a text of two brackets excludes: those with a round one
unfoldable pub ends_in : List ℕ → Part Ends
ends_in text =
    if bytes_eq text (codes "[]") then Ok (record { exclude_from = false; exclude_to = false })
    else if bytes_eq text (codes "[)") then Ok (record { exclude_from = false; exclude_to = true })
    else if bytes_eq text (codes "(]") then Ok (record { exclude_from = true; exclude_to = false })
    else if bytes_eq text (codes "()") then Ok (record { exclude_from = true; exclude_to = true })
    else Err Shape

-- the ends that a JSON value excludes
unfoldable pub ends_of : Data → Part Ends
ends_of d = text_of d >>= ends_in

-- whether a text of one bracket excludes the start
unfoldable pub excluded_in : List ℕ → Part Bool
excluded_in text =
    if bytes_eq text (codes "[") then Ok false
    else if bytes_eq text (codes "(") then Ok true
    else Err Shape

-- whether a JSON value excludes the start
unfoldable pub excluded_of : Data → Part Bool
excluded_of d = text_of d >>= excluded_in

-- a start alone
unfoldable pub start_form : Data → Part SpanForm
start_form start = do
  start ← key_of start
  Ok (Start start)

-- a start and an end
unfoldable pub start_to_end_form : Data → Data → Part SpanForm
start_to_end_form start end = do
  keys ← both (key_of start) (key_of end)
  Ok (StartToEnd keys.0 keys.1)

-- a start, an end and the brackets of both
unfoldable pub range_form : Data → Data → Data → Part SpanForm
range_form start end ends = do
  parts ← both (both (key_of start) (key_of end)) (ends_of ends)
  Ok (Range parts.0.0 parts.0.1 parts.1)

-- a start and its bracket
unfoldable pub onward_form : Data → Data → Part SpanForm
onward_form start side = do
  parts ← both (key_of start) (excluded_of side)
  Ok (Onward parts.0 parts.1)

-- the form of a span, by its start and by which of `end`, `ends` and `onward` are there
unfoldable pub form_of : Data → Option Data → Option Data → Option Data → Part SpanForm
form_of start None None None = start_form start
form_of start (Some end) None None = start_to_end_form start end
form_of start (Some end) (Some ends) None = range_form start end ends
form_of start None None (Some side) = onward_form start side
form_of start None (Some ends) _ = Err Shape
form_of start (Some end) None (Some side) = Err Shape
form_of start (Some end) (Some ends) (Some side) = Err Shape

-- the members that a span may have
abbrev pub span_names : List (List ℕ)
span_names = codes "start" ∷ codes "end" ∷ codes "ends" ∷ codes "onward" ∷ []

-- the form of a span with these members
abbrev pub form_in : Members → Part SpanForm
form_in ms = do
  start ← needed (codes "start") ms
  form_of start (get_member (codes "end") ms) (get_member (codes "ends") ms)
      (get_member (codes "onward") ms)

-- the form of the span that a JSON value is
unfoldable pub span_form : Data → Part SpanForm
span_form d = do
  ms ← object_of d
  ms ← only_named span_names ms
  form_in ms

-- the span of a form, unless it is inverted
unfoldable pub span_of_form : SpanForm → Option SpanView
span_of_form (Start start) = Some (point start)
span_of_form (StartToEnd start end) = start_to_end start end
span_of_form (Range start end ends) = range start end ends.exclude_from ends.exclude_to
span_of_form (Onward start excluded) = Some (onward start excluded)

-- the span of an Add, which may not be inverted
unfoldable pub added_span : Data → Part SpanView
added_span d = do
  form ← span_form d
  ok_or (span_of_form form) Span

-- the span of a lookup, where an inverted one is the empty span
unfoldable pub looked_up_span : Data → Part SpanView
looked_up_span d = do
  form ← span_form d
  Ok (unwrap_or (span_of_form form) nothing)

-- ---- calls

-- the members that an Add may have
abbrev pub add_names : List (List ℕ)
add_names = codes "op" ∷ codes "span" ∷ codes "time" ∷ codes "owner" ∷ codes "now" ∷ []

-- the span and the time of an Add
abbrev pub span_and_time : Members → Part (SpanView × Time)
span_and_time ms = both (needed_as (codes "span") added_span ms)
    (needed_as (codes "time") time_of ms)

-- the owner and the moment of an Add
abbrev pub owner_and_now : Members → Part (Option Owner × Time)
owner_and_now ms = both (owner_member (get_member (codes "owner") ms))
    (needed_as (codes "now") time_of ms)

-- the Add with these members
abbrev pub add_in : Members → Part Call
add_in ms = do
  parts ← both (span_and_time ms) (owner_and_now ms)
  Ok (Add parts.0.0 (record { time = parts.0.1; owner = parts.1.0 }) parts.1.1)

-- an Add, by its members
unfoldable pub add_of : Members → Part Call
add_of ms = do
  ms ← only_named add_names ms
  add_in ms

-- the members that a mark of a batch may have
abbrev pub mark_names : List (List ℕ)
mark_names = codes "span" ∷ codes "time" ∷ codes "owner" ∷ []

-- the span, the time and the owner of a mark
abbrev pub mark_parts : Members → Part ((SpanView × Time) × Option Owner)
mark_parts ms = both (span_and_time ms) (owner_member (get_member (codes "owner") ms))

-- the mark with these members
abbrev pub mark_in : Members → Part Mark
mark_in ms = do
  parts ← mark_parts ms
  Ok (record { span = parts.0.0; value = record { time = parts.0.1; owner = parts.1 } })

-- a mark of a batch
unfoldable pub mark_of : Data → Part Mark
mark_of d = do
  ms ← object_of d
  ms ← only_named mark_names ms
  mark_in ms

-- a mark, and those after it
abbrev pub with_others : Part Mark → Part (List Mark) → Part (List Mark)
with_others mark others = do
  parts ← both mark others
  Ok (parts.0 ∷ parts.1)

-- marks, of which each has to be one
unfoldable pub marks_in : List Data → Part (List Mark)
marks_in [] = Ok []
marks_in (d ∷ ds) = with_others (mark_of d) (marks_in ds)

-- a list of not too many
unfoldable pub few_of : List Data → Part (List Data)
few_of ds = where_holds Shape (nat_le (length ds) most_marks) ds

-- the marks of a batch
unfoldable pub marks_of : Data → Part (List Mark)
marks_of d = do
  ds ← array_of d
  ds ← few_of ds
  marks_in ds

-- the members that a batch may have
abbrev pub batch_names : List (List ℕ)
batch_names = codes "op" ∷ codes "marks" ∷ codes "now" ∷ []

-- the marks and the moment of a batch
abbrev pub marks_and_now : Members → Part (List Mark × Time)
marks_and_now ms = both (needed_as (codes "marks") marks_of ms) (needed_as (codes "now") time_of ms)

-- the batch with these members
abbrev pub batch_in : Members → Part Call
batch_in ms = do
  parts ← marks_and_now ms
  Ok (Batch parts.0 parts.1)

-- a batch, by its members
unfoldable pub batch_of : Members → Part Call
batch_of ms = do
  ms ← only_named batch_names ms
  batch_in ms

-- the members that a lookup may have
abbrev pub get_names : List (List ℕ)
get_names = codes "op" ∷ codes "span" ∷ []

-- the lookup with these members
abbrev pub get_in : Members → Part Call
get_in ms = do
  span ← needed_as (codes "span") looked_up_span ms
  Ok (Get span)

-- a lookup, by its members
unfoldable pub get_of : Members → Part Call
get_of ms = do
  ms ← only_named get_names ms
  get_in ms

-- a call for the floor, which has no member beside its name
unfoldable pub low_of : Members → Part Call
low_of ms = do
  ms ← only_named (codes "op" ∷ []) ms
  Ok Low

-- a call by the name of its operation
unfoldable pub call_by_name : List ℕ → Members → Part Call
call_by_name op ms =
    if bytes_eq op (codes "add") then add_of ms
    else if bytes_eq op (codes "batch") then batch_of ms
    else if bytes_eq op (codes "get") then get_of ms
    else if bytes_eq op (codes "low") then low_of ms
    else Err Shape

-- a call: an object whose member `op` is the name of its operation
unfoldable pub call_of : Data → Part Call
call_of d = do
  ms ← object_of d
  op ← needed_as (codes "op") text_of ms
  call_by_name op ms

-- A call, all of which has to fit a page. Nothing else of it may be wrong where that is looked at.
unfoldable pub fitting_call : ConfigView → Data → Part Call
fitting_call config d = do
  call ← call_of d
  where_holds TooLarge (call_fits config call) call

-- ---- the head

-- `page_first` and `page_max`
abbrev pub page_sizes : Members → Part (ℕ × ℕ)
page_sizes ms = both (needed_as (codes "page_first") (number_below (2 ^ 32)) ms)
    (needed_as (codes "page_max") (number_below (2 ^ 32)) ms)

-- `page_first`, `page_max` and `min_pages`
abbrev pub page_numbers : Members → Part ((ℕ × ℕ) × ℕ)
page_numbers ms = both (page_sizes ms) (needed_as (codes "min_pages") (number_below (2 ^ 32)) ms)

-- `retention` and `low_water`
abbrev pub head_times : Members → Part (ℕ × Time)
head_times ms = both (needed_as (codes "retention") (number_below (2 ^ 64)) ms)
    (needed_as (codes "low_water") time_of ms)

-- the numbers of a head
unfoldable pub numbers_in : Members → Part Numbers
numbers_in ms = do
  parts ← both (page_numbers ms) (head_times ms)
  Ok (record {
    page_first = parts.0.0.0;
    page_max = parts.0.0.1;
    min_pages = parts.0.1;
    retention = parts.1.0;
    low_water = parts.1.1;
  })

-- lists of which each has to be one
unfoldable pub lists_in : List Data → Part (List (List Data))
lists_in [] = Ok []
lists_in (d ∷ ds) = do
  list ← array_of d
  lists ← lists_in ds
  Ok (list ∷ lists)

-- a list of lists
unfoldable pub lists_of : Data → Part (List (List Data))
lists_of d = array_of d >>= lists_in

-- the members that a head may have
abbrev pub head_names : List (List ℕ)
head_names = codes "page_first" ∷ codes "page_max" ∷ codes "min_pages" ∷ codes "retention" ∷
    codes "low_water" ∷ codes "threads" ∷ []

-- the head with these members: its numbers, and its lists of what should be calls
abbrev pub head_in : Members → Part (Numbers × List (List Data))
head_in ms = both (numbers_in ms) (needed_as (codes "threads") lists_of ms)

-- the head of a trace
unfoldable pub head_of : Data → Part (Numbers × List (List Data))
head_of d = do
  ms ← object_of d
  ms ← only_named head_names ms
  head_in ms

-- the configuration of the numbers of a head
unfoldable pub config_in : Numbers → Result ConfigView TraceFault
config_in numbers = ok_or (result_ok
    (made_config numbers.page_first numbers.page_max numbers.min_pages numbers.retention
    numbers.low_water)) Config

-- ---- the trace

-- the calls of a list, of which the first has this number
unfoldable pub calls_of : ConfigView → ℕ → List Data → Result (List Call) TraceFault
calls_of config first [] = Ok []
calls_of config first (d ∷ ds) = do
  call ← at_call first (fitting_call config d)
  calls ← calls_of config (suc first) ds
  Ok (call ∷ calls)

-- the calls of lists, of which the first call has this number
unfoldable pub threads_of : ConfigView → ℕ → List (List Data) → Result (List (List Call)) TraceFault
threads_of config first [] = Ok []
threads_of config first (ds ∷ lists) = do
  calls ← calls_of config first ds
  threads ← threads_of config (first + length ds) lists
  Ok (calls ∷ threads)

-- The trace of a JSON value: the head comes first, and counts as call 0, then its bounds, and then
-- the calls in their order.
unfoldable pub trace_of : Data → Result Trace TraceFault
trace_of d = do
  head ← at_call 0 (head_of d)
  config ← config_in head.0
  lists ← where_holds Config (fits_trace head.1) head.1
  threads ← threads_of config 1 lists
  Ok (record { config = config; threads = threads })

-- the JSON value that bytes are
abbrev pub json_of : List ℕ → Option Data
json_of bytes = if is_utf8 bytes then read bytes else None

-- the trace that bytes are, or why they are none
abbrev pub trace_of_bytes : List ℕ → Result Trace TraceFault
trace_of_bytes bytes = ok_or (json_of bytes) NotJson >>= trace_of

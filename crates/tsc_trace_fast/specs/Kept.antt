-- What is kept of the members of a span, a mark, a call and a head while they are read in one pass.
use Rattle.std.specs.Prelude.{◌≡◌, ◌^◌, ℕ, List, [], ◌∷◌, Bool, true, Option, Some, codes, option_map, Result, Ok}
use Rattle.std.specs.List.{list_all}
use Rattle.serde_json.specs.Data.{Data, Members}
use Rattle.tsc_time.specs.ValueView.{Owner, owner_of}
use Rattle.tsc_cache.specs.ConfigView.{ConfigView}
use Rattle.tsc_trace_format.specs.Calls.{call_fits}
use Rattle.tsc_trace_format.specs.Lists.{fits_trace}
use Rattle.tsc_trace_format.specs.TraceParts.{Part, ◌>>=◌, where_holds, at_call}
use Rattle.tsc_trace_format.specs.TraceText.{names_only, array_of, span_names, key_of, ends_of, excluded_of, text_of, span_form, added_span, time_of, owner_member, mark_names, marks_of, call_of, head_names, number_below}
use Rattle.tsc_trace_format.specs.declared.trace.Call.{Call}
use Rattle.tsc_trace_format.specs.declared.read.TraceFault.{TraceFault}
use Rattle.tsc_trace_format.specs.declared.read.TraceFault.TheVariants.{Config}
use Rattle.tsc_trace_fast.specs.TokenReads.{Keeps}
use Rattle.tsc_trace_fast.specs.declared.quick.span.SpanParts.{SpanParts}
use Rattle.tsc_trace_fast.specs.declared.quick.mark.MarkParts.{MarkParts}
use Rattle.tsc_trace_fast.specs.declared.quick.call.CallParts.{CallParts}
use Rattle.tsc_trace_fast.specs.declared.quick.head.HeadParts.{HeadParts}

-- the members of a span
pub record KeepsSpan (found : Members) (parts : SpanParts) : Type 0 where
  pub named : names_only span_names found ≡ true
  pub start : Keeps key_of (codes "start") found parts.start
  pub end : Keeps key_of (codes "end") found parts.end
  pub ends : Keeps ends_of (codes "ends") found parts.ends
  pub onward : Keeps excluded_of (codes "onward") found parts.onward

-- an owner that is there
abbrev pub owner_there : Data → Part (Option Owner)
owner_there d = owner_member (Some d)

-- the members of a mark
pub record KeepsMark (found : Members) (parts : MarkParts) : Type 0 where
  pub named : names_only mark_names found ≡ true
  pub span : Keeps added_span (codes "span") found parts.span
  pub time : Keeps time_of (codes "time") found parts.time
  pub owner : Keeps owner_there (codes "owner") found (option_map owner_of parts.owner)

-- the members that a call of some kind may have
abbrev pub call_names : List (List ℕ)
call_names = codes "op" ∷ codes "span" ∷ codes "time" ∷ codes "owner" ∷ codes "marks" ∷
    codes "now" ∷ []

-- the members of a call
pub record KeepsCall (found : Members) (parts : CallParts) : Type 0 where
  pub named : names_only call_names found ≡ true
  pub op : Keeps text_of (codes "op") found (option_map (λ op. op.now) parts.op)
  pub span : Keeps span_form (codes "span") found parts.span
  pub time : Keeps time_of (codes "time") found parts.time
  pub owner : Keeps owner_there (codes "owner") found (option_map owner_of parts.owner)
  pub marks : Keeps marks_of (codes "marks") found parts.marks
  pub now : Keeps time_of (codes "now") found parts.now

-- ---- lists, of which each item is read in one way

-- what each of these JSON values is read as
unfoldable pub each : {A : Type 0} → (Data → Part A) → List Data → Part (List A)
each f [] = Ok []
each f (d ∷ ds) = do
  x ← f d
  xs ← each f ds
  Ok (x ∷ xs)

-- the items of an array, each read in one way
abbrev pub list_of : {A : Type 0} → (Data → Part A) → Data → Part (List A)
list_of f d = array_of d >>= each f

-- a list of calls, of which it isn't asked yet whether they fit a page
abbrev pub call_list : Data → Part (List Call)
call_list = list_of call_of

-- lists of such calls that a trace may have
abbrev pub threads_in : Data → Result (List (List Call)) TraceFault
threads_in d = do
  threads ← at_call 0 (list_of call_list d)
  where_holds Config (fits_trace threads) threads

-- whether all calls of some lists fit a page
abbrev pub each_fits : ConfigView → List (List Call) → Bool
each_fits config threads = list_all (λ calls. list_all (call_fits config) calls) threads

-- the members of a head
pub record KeepsHead (found : Members) (parts : HeadParts) : Type 0 where
  pub named : names_only head_names found ≡ true
  pub page_first : Keeps (number_below (2 ^ 32)) (codes "page_first") found parts.page_first
  pub page_max : Keeps (number_below (2 ^ 32)) (codes "page_max") found parts.page_max
  pub min_pages : Keeps (number_below (2 ^ 32)) (codes "min_pages") found parts.min_pages
  pub retention : Keeps (number_below (2 ^ 64)) (codes "retention") found parts.retention
  pub low_water : Keeps time_of (codes "low_water") found parts.low_water
  pub threads : Keeps threads_in (codes "threads") found parts.threads

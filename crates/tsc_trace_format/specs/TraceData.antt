-- A trace as a JSON value, in one of the forms that it may have.
use Rattle.std.specs.Prelude.{◌≡◌, ℕ, ◌++◌, List, [], ◌∷◌, map, length, ◌≤◌, Bool, true, false, All, Option, Some, None, codes, if◌then◌else◌}
use Rattle.hex.specs.Hex.{encode_lower}
use Rattle.uuid.specs.Text.{hyphenated_text, lower}
use Rattle.serde_json.specs.Data.{Data, null, unsigned, number, string, array, object, no_members, member}
use Rattle.serde_json.specs.View.{items_of}
use Rattle.tsc_time.specs.Time.{Time, is_in_range}
use Rattle.tsc_time.specs.ValueView.{Owner, IsMadeValue}
use Rattle.tsc_span.specs.Span.{KeyBytes, before, after, last, SpanView, nothing, between}
use Rattle.tsc_span.specs.MadeSpan.{IsMadeSpan}
use Rattle.tsc_cache.specs.ConfigView.{IsWithinLimits}
use Rattle.tsc_page_model.specs.Page.{Mark}
use Rattle.tsc_trace_format.specs.Limits.{most_marks}
use Rattle.tsc_trace_format.specs.Lists.{fits_trace}
use Rattle.tsc_trace_format.specs.declared.trace.Call.{Call}
use Rattle.tsc_trace_format.specs.declared.trace.Call.TheVariants.{Add, Batch, Get, Low}
use Rattle.tsc_trace_format.specs.Traces.{Trace, AllFit}

-- a list of JSON values
abbrev pub list_data : List Data → Data
list_data ds = array (items_of ds)

-- a key, in hexadecimal digits of lower case
abbrev pub key_data : KeyBytes → Data
key_data k = string (encode_lower k)

-- a time
abbrev pub time_data : Time → Data
time_data t = list_data (number (unsigned t.wall) ∷ number (unsigned t.logical) ∷ [])

-- an owner, or null
abbrev pub owner_data : Option Owner → Data
owner_data None = null
owner_data (Some uuid) = string (hyphenated_text lower uuid)

-- the bracket of a start: a round one excludes it
abbrev pub start_bracket : Bool → List ℕ
start_bracket excluded = if excluded then codes "(" else codes "["

-- the bracket of an end
abbrev pub end_bracket : Bool → List ℕ
end_bracket excluded = if excluded then codes ")" else codes "]"

-- a start, an end, and which of them are excluded
abbrev pub range_data : KeyBytes → KeyBytes → Bool → Bool → Data
range_data start end start_excluded end_excluded =
    object
    (member (codes "end") (key_data end)
    (member (codes "ends") (string (start_bracket start_excluded ++ end_bracket end_excluded))
    (member (codes "start") (key_data start) no_members)))

-- all keys from a start on
abbrev pub onward_data : KeyBytes → Bool → Data
onward_data start excluded =
    object
    (member (codes "onward") (string (start_bracket excluded))
    (member (codes "start") (key_data start) no_members))

-- A span: the empty one as a key between two round brackets. Nothing begins at the last cut.
abbrev pub span_data : SpanView → Data
span_data nothing = range_data [] [] true true
span_data (between (before k) (before m)) = range_data k m false true
span_data (between (before k) (after m)) = range_data k m false false
span_data (between (after k) (before m)) = range_data k m true true
span_data (between (after k) (after m)) = range_data k m true false
span_data (between (before k) last) = onward_data k false
span_data (between (after k) last) = onward_data k true
span_data (between last to) = null

-- a mark of a batch
abbrev pub mark_data : Mark → Data
mark_data m =
    object
    (member (codes "owner") (owner_data m.value.owner)
    (member (codes "span") (span_data m.span)
    (member (codes "time") (time_data m.value.time) no_members)))

-- a call
abbrev pub call_data : Call → Data
call_data (Add span value now) =
    object
    (member (codes "now") (time_data now)
    (member (codes "op") (string (codes "add"))
    (member (codes "owner") (owner_data value.owner)
    (member (codes "span") (span_data span)
    (member (codes "time") (time_data value.time) no_members)))))
call_data (Batch marks now) =
    object
    (member (codes "marks") (list_data (map mark_data marks))
    (member (codes "now") (time_data now)
    (member (codes "op") (string (codes "batch")) no_members)))
call_data (Get span) = object (member (codes "op") (string (codes "get"))
    (member (codes "span") (span_data span) no_members))
call_data Low = object (member (codes "op") (string (codes "low")) no_members)

-- a trace
abbrev pub trace_data : Trace → Data
trace_data trace =
    object
    (member (codes "low_water") (time_data trace.config.low_water)
    (member (codes "min_pages") (number (unsigned trace.config.min_pages))
    (member (codes "page_first") (number (unsigned trace.config.page_first))
    (member (codes "page_max") (number (unsigned trace.config.page_max))
    (member (codes "retention") (number (unsigned trace.config.retention))
    (member (codes "threads") (list_data
    (map (λ calls. list_data (map call_data calls)) trace.threads)) no_members))))))

-- a mark whose parts can be made
pub record IsTracedMark (m : Mark) : Type 0 where
  pub span : IsMadeSpan m.span
  pub value : IsMadeValue m.value

-- a batch whose parts can be made, and which is not too large
pub record IsMadeBatch (marks : List Mark) (now : Time) : Type 0 where
  pub each : All IsTracedMark marks
  pub few : length marks ≤ most_marks
  pub moment : is_in_range now ≡ true

-- a call whose parts can be made
abbrev pub IsMadeCall : Call → Type 0
IsMadeCall (Add span value now) = IsMadeSpan span × IsMadeValue value × (is_in_range now ≡ true)
IsMadeCall (Batch marks now) = IsMadeBatch marks now
IsMadeCall (Get span) = IsMadeSpan span
IsMadeCall Low = Unit {0}

-- a trace whose parts can be made, whose calls fit its pages, and which is not too large
pub record IsMadeTrace (trace : Trace) : Type 0 where
  pub limits : IsWithinLimits trace.config
  pub low_water : is_in_range trace.config.low_water ≡ true
  pub fits : fits_trace trace.threads ≡ true
  pub calls : All (λ calls. All IsMadeCall calls) trace.threads
  pub each_fits : AllFit trace.config trace.threads

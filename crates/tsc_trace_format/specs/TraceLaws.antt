-- What follows from the definitions of reading, for every trace and every JSON value.
use Rattle.std.specs.Prelude.{◌≡◌, ℕ, List, Some, Ok}
use Rattle.serde_json.specs.Data.{Data, object, Members}
use Rattle.serde_json.specs.Find.{get_member}
use Rattle.tsc_trace_format.specs.Traces.{Trace}
use Rattle.tsc_trace_format.specs.MemberOrder.{IsReordered}
use Rattle.tsc_trace_format.specs.TraceText.{span_form, call_of, trace_of, json_of, trace_of_bytes}
use Rattle.tsc_trace_format.specs.TraceData.{trace_data, IsMadeTrace}

-- Each trace that can be made is read again from the JSON value that it is written as.
abbrev pub ReadsWhatIsWritten : Type 0
ReadsWhatIsWritten = (trace : Trace) → IsMadeTrace trace → trace_of (trace_data trace) ≡ Ok trace

-- JSON values that differ only in the order of members, of any object in them, are read alike: as
-- spans, as calls and as traces. Texts that hold such values are read alike too. Objects in which
-- each name finds equal values are such values.
pub record ReadsInAnyOrder : Type 0 where
  pub spans : (d e : Data) → IsReordered d e → span_form d ≡ span_form e
  pub calls : (d e : Data) → IsReordered d e → call_of d ≡ call_of e
  pub traces : (d e : Data) → IsReordered d e → trace_of d ≡ trace_of e
  pub texts : (a b : List ℕ) (d e : Data) → json_of a ≡ Some d → json_of b ≡ Some e →
      IsReordered d e → trace_of_bytes a ≡ trace_of_bytes b
  pub one_object : (ms ns : Members) → ((name : List ℕ) → get_member name ms ≡ get_member name ns) →
      IsReordered (object ms) (object ns)

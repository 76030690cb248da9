-- The calls of a trace by their kinds, and by what they add.
use Rattle.std.specs.Prelude.{Bool, true, false, List, [], ◌∷◌, Option, Some, None, is_some}
use Rattle.tsc_time.specs.Time.{Time}
use Rattle.tsc_time.specs.ValueView.{ValueView}
use Rattle.tsc_span.specs.Span.{SpanView}
use Rattle.tsc_page_model.specs.Page.{Mark}
use Rattle.tsc_cache.specs.ConfigView.{ConfigView}
use Rattle.tsc_cache.specs.Batch.{all_fit}
use Rattle.tsc_trace_format.specs.declared.trace.Call.{Call}
use Rattle.tsc_trace_format.specs.declared.trace.Call.TheVariants.{Add, Batch, Get, Low}
use Rattle.tsc_trace_format.specs.declared.trace.Kind.{Kind}
use Rattle.tsc_trace_format.specs.declared.trace.Kind.TheVariants as kind

-- the kind of a call
abbrev pub kind_of : Call → Kind
kind_of (Add span value now) = kind.Add
kind_of (Batch marks now) = kind.Batch
kind_of (Get span) = kind.Get
kind_of Low = kind.Low

-- whether two kinds are one
abbrev pub is_same_kind : Kind → Kind → Bool
is_same_kind kind.Add kind.Add = true
is_same_kind kind.Batch kind.Batch = true
is_same_kind kind.Get kind.Get = true
is_same_kind kind.Low kind.Low = true
is_same_kind k other = false

-- what is added: marks, one after another, at a moment
pub record Addition : Type 0 where
  pub marks : List Mark
  pub now : Time

-- one mark: a span with its value
abbrev pub one_mark : SpanView → ValueView → Time → Addition
one_mark span value now = record { marks = record { span = span; value = value } ∷ []; now = now }

-- several marks
abbrev pub several_marks : List Mark → Time → Addition
several_marks marks now = record { marks = marks; now = now }

-- what a call adds, where it is one that adds
abbrev pub addition_of : Call → Option Addition
addition_of (Add span value now) = Some (one_mark span value now)
addition_of (Batch marks now) = Some (several_marks marks now)
addition_of (Get span) = None
addition_of Low = None

-- whether it is one
abbrev pub adds : Call → Bool
adds call = is_some (addition_of call)

-- whether each mark of what may be added fits a page
abbrev pub addition_fits : ConfigView → Option Addition → Bool
addition_fits config None = true
addition_fits config (Some addition) = all_fit config addition.marks

-- whether all that a call adds fits a page
abbrev pub call_fits : ConfigView → Call → Bool
call_fits config call = addition_fits config (addition_of call)

-- A trace that the worked examples read and play.
use Rattle.std.specs.Prelude.{ℕ, List, [], ◌∷◌, ◌++◌, codes}
use Rattle.tsc_span.specs.Span.{point}
use Rattle.tsc_cache.proofs.ExampleConfig.{of_first, of_second, usual, twenty, without_end}
use Rattle.tsc_trace_format.specs.declared.trace.Call.{Call}
use Rattle.tsc_trace_format.specs.declared.trace.Call.TheVariants.{Add, Get, Low}
use Rattle.tsc_trace_format.specs.Traces.{Trace}

-- a range of one transaction, a point of the other inside it, and lookups
abbrev pub example_calls : List Call
example_calls =
    Add (without_end (codes "a") (codes "c")) (of_first twenty) twenty
    ∷ Get (point (codes "b"))
    ∷ Get (point (codes "c"))
    ∷ Add (point (codes "b")) (of_second twenty) twenty
    ∷ Get (point (codes "b"))
    ∷ Low
    ∷ []

abbrev pub example_trace : Trace
example_trace = record { config = usual; threads = example_calls ∷ [] }

-- a text with a line feed behind it
abbrev pub ended : List ℕ → List ℕ
ended text = text ++ 10 ∷ []

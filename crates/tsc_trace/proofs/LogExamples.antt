-- A whole run: a trace, the log that it gives, and the text of that log.
use Rattle.std.specs.Prelude.{◌≡◌, ℕ, List, [], ◌∷◌, ◌++◌, true, false, codes, refl}
use Rattle.tsc_time.specs.ValueView.{unowned}
use Rattle.tsc_span.specs.Span.{point}
use Rattle.tsc_cache.proofs.ExampleConfig.{at, of_first, of_second, usual, twenty, added}
use Rattle.tsc_trace_format.proofs.ExampleTraces.{ended, example_trace}
use Rattle.tsc_trace.specs.Log.{log_of}
use Rattle.tsc_trace.specs.LogText.{log_text}
use Rattle.tsc_trace_format.specs.declared.trace.Call.TheVariants.{Add, Batch, Get, Low}
use Rattle.tsc_trace_format.specs.Traces.{Trace}
use Rattle.tsc_trace.specs.declared.log.Line.{Line}
use Rattle.tsc_trace.specs.declared.log.CallAnswer.TheVariants as said
use Rattle.std.specs.Fmt.{digits}
use Rattle.uuid.specs.Text.{by_index}

abbrev pub example_log : List Line
example_log =
    record { thread = 0; index = 0; said = said.Add 0 (added true false 0) }
    ∷ record { thread = 0; index = 1; said = said.Get 1 (of_first twenty) }
    ∷ record { thread = 0; index = 2; said = said.Get 1 (unowned (at 5 0)) }
    ∷ record { thread = 0; index = 3; said = said.Add 1 (added true false 0) }
    ∷ record { thread = 0; index = 4; said = said.Get 2 (unowned twenty) }
    ∷ record { thread = 0; index = 5; said = said.Low 2 (at 5 0) }
    ∷ []

pub the_log_of_a_trace : log_of example_trace ≡ example_log
the_log_of_a_trace = refl

abbrev pub example_log_text : List ℕ
example_log_text =
    ended (codes "0 0 add 0 1 0 0")
    ++ ended (codes "0 1 get 1 20.0 11111111-1111-4111-8111-111111111111")
    ++ ended (codes "0 2 get 1 5.0 none")
    ++ ended (codes "0 3 add 1 1 0 0")
    ++ ended (codes "0 4 get 2 20.0 none")
    ++ ended (codes "0 5 low 2 5.0")

pub the_text_of_a_log : log_text example_log ≡ example_log_text
unfolding digits by_index
the_text_of_a_log = refl

-- ---- several lists

-- An Add, a later Add of another transaction, and a lookup, each in a list of its own.
abbrev pub three_lists : Trace
three_lists = record {
  config = usual;
  threads = (Add (point (codes "a")) (of_first twenty) twenty ∷ [])
      ∷ (Add (point (codes "a")) (of_second (at 30 0)) twenty ∷ [])
      ∷ (Get (point (codes "a")) ∷ [])
      ∷ [];
}

pub lists_are_played_one_after_another :
    log_of three_lists
    ≡ record { thread = 0; index = 0; said = said.Add 0 (added true false 0) }
    ∷ record { thread = 1; index = 0; said = said.Add 1 (added true false 0) }
    ∷ record { thread = 2; index = 0; said = said.Get 2 (of_second (at 30 0)) }
    ∷ []
lists_are_played_one_after_another = refl

pub a_trace_of_one_empty_list_has_no_lines : log_of
    (record { config = usual; threads = [] ∷ [] }) ≡ []
a_trace_of_one_empty_list_has_no_lines = refl

-- ---- batches

-- Two points at one moment, a batch without marks, and a lookup and the floor after each.
abbrev pub batches : Trace
batches = record {
  config = usual;
  threads = (Batch (record { span = point (codes "a"); value = of_first twenty } ∷
      record { span = point (codes "a"); value = of_second twenty } ∷ []) twenty
      ∷ Get (point (codes "a"))
      ∷ Batch [] twenty
      ∷ Low
      ∷ []) ∷ [];
}

pub a_batch_counts_as_one :
    log_of batches
    ≡ record { thread = 0; index = 0; said = said.Batch 0 (added true false 0) }
    ∷ record { thread = 0; index = 1; said = said.Get 1 (unowned twenty) }
    ∷ record { thread = 0; index = 2; said = said.Batch 1 (added false false 0) }
    ∷ record { thread = 0; index = 3; said = said.Low 2 (at 5 0) }
    ∷ []
a_batch_counts_as_one = refl

pub the_text_of_a_batch : log_text
    (record { thread = 0; index = 0; said = said.Batch 0 (added true false 0) } ∷ []) ≡
    ended (codes "0 0 batch 0 1 0 0")
unfolding digits by_index
the_text_of_a_batch = refl

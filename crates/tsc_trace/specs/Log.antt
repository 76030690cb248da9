-- The log of a trace: what each call answers where one thread takes list after list.
use Rattle.std.specs.Prelude.{ℕ, suc, List, [], ◌∷◌, ◌++◌, length, Option, Some, None}
use Rattle.tsc_cache.specs.ConfigView.{ConfigView}
use Rattle.tsc_cache.specs.State.{CacheState, Stepped, step_all, look}
use Rattle.tsc_cache.specs.declared.history.Entry.{Entry}
use Rattle.tsc_cache.specs.History.{History, own_count, state_of}
use Rattle.tsc_trace_format.specs.Calls.{Addition, one_mark, several_marks, addition_of}
use Rattle.tsc_trace_format.specs.declared.trace.Call.{Call}
use Rattle.tsc_trace_format.specs.declared.trace.Call.TheVariants.{Add, Batch, Get, Low}
use Rattle.tsc_trace_format.specs.Traces.{Trace}
use Rattle.tsc_trace.specs.declared.log.Line.{Line}
use Rattle.tsc_trace.specs.declared.log.CallAnswer.{CallAnswer}
use Rattle.tsc_trace.specs.declared.log.CallAnswer.TheVariants as said

-- what an addition makes of a state, and what it answers
abbrev pub made : ConfigView → CacheState → Addition → Stepped
made config s a = step_all config s a.marks a.now

-- what a call answers in a state, where `front` Adds came before
abbrev pub said_in : ConfigView → CacheState → ℕ → Call → CallAnswer
said_in config s front (Add span value now) =
    said.Add front (made config s (one_mark span value now)).added
said_in config s front (Batch marks now) =
    said.Batch front (made config s (several_marks marks now)).added
said_in config s front (Get span) = said.Get front (look s span)
said_in config s front Low = said.Low front s.floor

-- what a call answers after a history, from the state that the history leaves of the opening one
abbrev pub said_after : ConfigView → History → Call → CallAnswer
said_after config h call = said_in config (state_of config h) (length h) call

-- the entry that an addition makes after a history, by the list with this number, which is its seat
abbrev pub entry_after : ℕ → History → Addition → Entry
entry_after thread h a = record {
  seat = thread;
  number = own_count thread h;
  marks = a.marks;
  now = a.now;
}

-- a history with the entry of what may be added
abbrev pub with_addition : ℕ → History → Option Addition → History
with_addition thread h None = h
with_addition thread h (Some a) = h ++ entry_after thread h a ∷ []

-- the history after a call of the list with this number
abbrev pub after_call : ℕ → History → Call → History
after_call thread h call = with_addition thread h (addition_of call)

-- the history after some calls of one list
abbrev pub after_calls : ℕ → History → List Call → History
after_calls thread h [] = h
after_calls thread h (call ∷ calls) = after_calls thread (after_call thread h call) calls

-- the lines of one list, from a place in it on
abbrev pub lines_of_list : ConfigView → ℕ → ℕ → History → List Call → List Line
lines_of_list config thread index h [] = []
lines_of_list config thread index h (call ∷ calls) =
    record { thread = thread; index = index; said = said_after config h call } ∷
    lines_of_list config thread (suc index) (after_call thread h call) calls

-- the lines of the lists, from the list with this number on
abbrev pub lines_of_lists : ConfigView → ℕ → History → List (List Call) → List Line
lines_of_lists config thread h [] = []
lines_of_lists config thread h (calls ∷ lists) =
    lines_of_list config thread 0 h calls ++
    lines_of_lists config (suc thread) (after_calls thread h calls) lists

-- the log of a trace
abbrev pub log_of : Trace → List Line
log_of trace = lines_of_lists trace.config 0 [] trace.threads

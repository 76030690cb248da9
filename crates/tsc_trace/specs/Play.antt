-- A replay that goes on from where it stands, in place of making each state anew.
use Rattle.std.specs.Prelude.{ℕ, suc, List, [], ◌∷◌, ◌++◌, Option, Some, None}
use Rattle.tsc_cache.specs.ConfigView.{ConfigView}
use Rattle.tsc_cache.specs.State.{CacheState}
use Rattle.tsc_trace_format.specs.Calls.{Addition, addition_of}
use Rattle.tsc_trace_format.specs.declared.trace.Call.{Call}
use Rattle.tsc_trace.specs.Log.{made, said_in}
use Rattle.tsc_trace.specs.declared.log.Line.{Line}
use Rattle.tsc_trace.specs.declared.log.CallAnswer.{CallAnswer}

-- where a replay stands: the state of the cache, and how many Adds there were
pub record Standing : Type 0 where
  pub state : CacheState
  pub adds : ℕ

-- what a call answers where a replay stands
abbrev pub said_at : ConfigView → Standing → Call → CallAnswer
said_at config at call = said_in config at.state at.adds call

-- where the replay stands with what may be added
abbrev pub with_made : ConfigView → Standing → Option Addition → Standing
with_made config at None = at
with_made config at (Some a) = record {
  state = (made config at.state a).state;
  adds = suc at.adds;
}

-- where the replay stands after a call
abbrev pub next : ConfigView → Standing → Call → Standing
next config at call = with_made config at (addition_of call)

-- where the replay stands after some calls
abbrev pub next_all : ConfigView → Standing → List Call → Standing
next_all config at [] = at
next_all config at (call ∷ calls) = next_all config (next config at call) calls

-- the lines of one list, from a place in it on
abbrev pub played : ConfigView → ℕ → ℕ → Standing → List Call → List Line
played config thread index at [] = []
played config thread index at (call ∷ calls) =
    record { thread = thread; index = index; said = said_at config at call } ∷
    played config thread (suc index) (next config at call) calls

-- the lines of lists, from the list with this number on
abbrev pub played_lists : ConfigView → ℕ → Standing → List (List Call) → List Line
played_lists config thread at [] = []
played_lists config thread at (calls ∷ lists) =
    played config thread 0 at calls ++
    played_lists config (suc thread) (next_all config at calls) lists

-- A trace: a configuration, and lists of calls that fit its pages.
use Rattle.std.specs.Prelude.{◌≡◌, List, All, true}
use Rattle.tsc_cache.specs.ConfigView.{ConfigView}
use Rattle.tsc_trace_format.specs.Calls.{call_fits}
use Rattle.tsc_trace_format.specs.declared.trace.Call.{Call}

-- how a cache is set up, and lists of calls
pub record Trace : Type 0 where
  pub config : ConfigView
  pub threads : List (List Call)

-- all that each of these calls adds fits a page
abbrev pub EachFits : ConfigView → List Call → Type 0
EachFits config calls = All (λ call. call_fits config call ≡ true) calls

-- each call of each list fits
abbrev pub AllFit : ConfigView → List (List Call) → Type 0
AllFit config threads = All (λ calls. EachFits config calls) threads

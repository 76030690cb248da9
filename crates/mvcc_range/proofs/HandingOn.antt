-- A new cache that takes over what a summary of another one tells of a span.
use Rattle.std.proofs.Common.{◌≡◌, refl, sym, subst, ℕ, [], ◌∷◌}
use Rattle.std.specs.Prelude.{◌↔◌, Result, Ok, Err, IsErrOf}
use Rattle.tsc_time.proofs.RatchetOrder.{IsAtMost-transitive}
use Rattle.tsc_cache.specs.State.{opening, step_all}
use Rattle.tsc_cache.proofs.StatesSeen.{answers_look}
use Rattle.timestamp_cache.specs.Words.{Time, IsAtMost, SpanView, point, ConfigView, CacheState, look, Entry, CacheView, RepresentsState}
use Rattle.timestamp_cache.specs.HandOver.{
  Summary,
  summary_answer,
  IsWithin,
  marks_reported,
  Summarizes,
  TakesOver as Learns,
}
use Rattle.timestamp_cache.proofs.Rising.{summaries_report_no_less}
use Rattle.mvcc_range.specs.Steps.{TakesOver}

pub taken : (old made new : CacheView) (span : SpanView) (config : ConfigView) (most : ℕ)
    (reported : Summary) (now : Time) → Summarizes old span most reported
    → RepresentsState made config (opening config)
    → ((config : ConfigView) (s : CacheState) → RepresentsState made config s
    → RepresentsState new config (step_all config s (marks_reported reported) now).state)
    → ((config : ConfigView) (s : CacheState) → RepresentsState made config s
    → Learns s (step_all config s (marks_reported reported) now).state reported) → TakesOver config span old new
taken old made new span config most reported now sums opened stands learns =
    let e : Entry = record { seat = 0; number = 0; marks = marks_reported reported; now = now } in
    let next : CacheState = (step_all config (opening config) (marks_reported reported) now).state
    in
    let is : RepresentsState new config next = stands config (opening config) opened in
    record {
      history = e ∷ [];
      cache = is;
      no_less = λ others s k c was. let within : IsWithin (point k) reported.span =
          subst (IsWithin (point k)) (sym sums.span) (summaries_report_no_less.keys span k c) in
          subst (IsAtMost (look s (point k))) (sym (answers_look new config next (point k) is))
          (IsAtMost-transitive (look s (point k)) (summary_answer reported (point k))
          (look next (point k)) (summaries_report_no_less.no_less s reported (point k)
          (sums.answers others s was) within)
          ((learns config (opening config) opened).learned (point k) within));
    }

pub never_refused : {U E : Type 0} (r : Result U E) (u : U) (e : E) → r ≡ Ok u → r ≡ Err e → ⊥
never_refused r u e is was = cc

-- no success is a refusal, whatever it returns
pub no_refusal : {T U E : Type 0} (t : T) (u : U) (e : E) (P : Type 0)
    → IsErrOf {T = T} {E = E} (Ok t) e ↔ P
    → IsErrOf {T = U} {E = E} (Ok u) e ↔ P
no_refusal t u e P h = (
  λ never. absurd (never_refused (Ok u) u e refl never),
  λ p. absurd (never_refused (Ok t) t e refl (h.1 p)),
)

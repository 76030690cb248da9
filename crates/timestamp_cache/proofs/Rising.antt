-- What a store rests on that keeps no history: answers that don't sink, and summaries that tell no
-- less.
use Rattle.std.proofs.Common.{
  ◌≡◌,
  sym,
  subst,
  List,
  [],
  ◌∷◌,
  ◌++◌,
  Bool,
  true,
  false,
  not,
  ◌&&◌,
  refl,
}
use Rattle.std.proofs.lemmas.List.Elements.{Contains-push}
use Rattle.tsc_time.specs.Time.{Time}
use Rattle.tsc_time.specs.ValueView.{ValueView}
use Rattle.tsc_time.specs.Joint.{IsAtMost}
use Rattle.tsc_span.specs.Span.{KeyBytes, SpanView, nothing, between, before, after, is_below, point, covers}
use Rattle.tsc_span.proofs.CutsTotal.{sides_in_order}
use Rattle.tsc_page_model.specs.Page.{Mark}
use Rattle.tsc_cache.specs.ConfigView.{ConfigView}
use Rattle.tsc_cache.specs.State.{look}
use Rattle.tsc_cache.specs.declared.history.Entry.{Entry}
use Rattle.tsc_cache.specs.History.{History, state_of}
use Rattle.tsc_cache.specs.CacheView.{CacheView, RepresentsState, StandsAfterAll, cache_answer}
use Rattle.tsc_cache.proofs.FloorJoints.{above_each}
use Rattle.tsc_cache.proofs.Histories.{state_of-push, kept_up, rising}
use Rattle.tsc_cache.proofs.StatesSeen.{answers_look}
use Rattle.timestamp_cache.specs.HandOver.{IsWithin}
use Rattle.timestamp_cache.specs.Laws.{AnswersRise, SummariesReportNoLess}

-- ---- answers

-- what is added together, as an entry
abbrev entry_of : List Mark → Time → Entry
entry_of ms now = record { seat = 0; number = 0; marks = ms; now = now }

-- a cache to which more is added stands for a history with one entry more
pub stands_longer : (old new : CacheView) (config : ConfigView) (h : History) (ms : List Mark)
    (now : Time) → RepresentsState old config (state_of config h)
    → StandsAfterAll old new ms now
    → RepresentsState new config (state_of config (h
    ++ (record { seat = 0; number = 0; marks = ms; now = now }) ∷ []))
stands_longer old new config h ms now was adds =
    subst (RepresentsState new config) (sym (state_of-push config h (entry_of ms now)))
    (adds config (state_of config h) was)

pub answers_rise : AnswersRise
answers_rise = record {
  no_less = λ old new config h ms now span was adds. let longer : History = h ++ entry_of ms now
      ∷ [] in
      let is : RepresentsState new config (state_of config longer) =
      stands_longer old new config h ms now was adds in
      let rises : IsAtMost (look (state_of config h) span) (look (state_of config longer) span)
      = rising.answers config h longer span (entry_of ms now ∷ [], refl) in
      subst (λ (v : ValueView). IsAtMost v (cache_answer new span))
      (sym (answers_look old config (state_of config h) span was))
      (subst (IsAtMost (look (state_of config h) span))
      (sym (answers_look new config (state_of config longer) span is)) rises);
  kept = λ old new config h ms now m span was adds own over. let longer : History = h
      ++ entry_of ms now ∷ [] in
      let is : RepresentsState new config (state_of config longer) =
      stands_longer old new config h ms now was adds in
      subst (IsAtMost m.value) (sym (answers_look new config (state_of config longer) span is))
      (kept_up config longer (entry_of ms now) m span (Contains-push h (entry_of ms now)) own
      over);
}

-- ---- summaries

-- a key of a span lies within it
key_within : (span : SpanView) (k : KeyBytes) → covers span k ≡ true → IsWithin (point k) span
key_within nothing k c = absurd (let never : false ≡ true = c in cc)
key_within (between from to) k c = (
  sides_in_order k,
  low (is_below (before k) from) (is_below to (after k)) c,
  high (is_below (before k) from) (is_below to (after k)) c,
)
  where
    low : (a b : Bool) → (not a && not b) ≡ true → a ≡ false
    low true b h = absurd (let never : false ≡ true = h in cc)
    low false b h = refl

    high : (a b : Bool) → (not a && not b) ≡ true → b ≡ false
    high true b h = absurd (let never : false ≡ true = h in cc)
    high false true h = absurd (let never : false ≡ true = h in cc)
    high false false h = refl

pub summaries_report_no_less : SummariesReportNoLess
summaries_report_no_less = record {
  no_less = λ s reported inner reports within. subst (IsAtMost (look s inner))
      (sym (reports inner within))
      (above_each reported.floor (look s inner ∷ []) (look s inner)
      (Contains-push [] (look s inner)));
  keys = key_within;
}

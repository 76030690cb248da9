-- Spans that words ask for, one after another, and that none of these is refused.
use Rattle.std.proofs.Common.{◌≡◌, ◌∙◌, inl, inr, sym, ap, subst, arith, ℕ, zero, suc, ◌+◌, ◌<◌, ◌≤◌, List, [], ◌∷◌, length, get_or, drop, Bool}
use Rattle.std.specs.Prelude.{Option, Some, None, if◌then◌else◌}
use Rattle.std.proofs.lemmas.List.{drop_more, drop_all}
use Rattle.tsc_span.specs.Span.{KeyBytes, SpanView, from_to}
use Rattle.tsc_ffi_store.specs.declared.ctypes.TscSpan.{TscSpan}
use Rattle.tsc_ffi_store.specs.declared.refusal.Refusal.{Refusal}
use Rattle.tsc_ffi_store.specs.Decode.{AskedSpan, span_asked, add_span, formed_to_add, IsInverted, RefusesWrittenSpan}
use Rattle.tsc_ffi_store.specs.Writes.{IsSpan, AreSpans, AllSpans, RefusesSpan}

-- So far: whatever the words that are left ask for, all words ask for spans with that.
pub record AsksOn (keys : List ℕ) (words left : List TscSpan) : Type 0 where
  pub goes_on : (rest : List SpanView) → AreSpans keys left rest → AllSpans keys words

pub none_asked_yet : (keys : List ℕ) (words : List TscSpan) → AsksOn keys words words
none_asked_yet keys words = record { goes_on = λ rest are. (rest, are) }

pub one_asked_more : (keys : List ℕ) (words : List TscSpan) (i : ℕ) (d : TscSpan) (s : SpanView) →
    i < length words → IsSpan keys (get_or words i d) s → AsksOn keys words (drop i words) →
    AsksOn keys words (drop (i + 1) words)
one_asked_more keys words i d s lt is so_far = record {
  goes_on = λ rest are. so_far.goes_on (s ∷ rest)
      (subst (λ (ws : List TscSpan). AreSpans keys ws (s ∷ rest)) (sym (drop_more words i d lt))
      (is, are));
}

pub all_asked_for : (keys : List ℕ) (words : List TscSpan) (i : ℕ) → length words ≤ i →
    AsksOn keys words (drop i words) → AllSpans keys words
all_asked_for keys words i le so_far =
    so_far.goes_on [] (subst (λ (ws : List TscSpan). AreSpans keys ws [])
    (sym (drop_all i words le)) tt)

-- ---- no span that is asked for is refused

asked_at : (keys : List ℕ) (words : List TscSpan) (spans : List SpanView) (i : ℕ) (d : TscSpan) →
    AreSpans keys words spans → i < length words → (s : SpanView) × IsSpan keys (get_or words i d) s
asked_at keys [] spans i d are lt = absurd (omega (arith, lt))
asked_at keys (w ∷ ws) [] i d are lt = absurd are
asked_at keys (w ∷ ws) (s ∷ ss) zero d are lt = (s, are.0)
asked_at keys (w ∷ ws) (s ∷ ss) (suc i) d are lt =
    asked_at keys ws ss i d are.1 (omega (arith, lt))

none_is_some : {X : Type 0} {x : X} {o : Option X} → o ≡ None → o ≡ Some x → ⊥
none_is_some {X} {x} {o} none some = let never : None ≡ Some x = sym none ∙ some in cc

pub the_same : {X : Type 0} {a b : X} {o : Option X} → o ≡ Some a → o ≡ Some b → a ≡ b
the_same {X} {a} {b} {o} first second = let is : Some a ≡ Some b = sym first ∙ second in cc

inverted_is_none : (asked : AskedSpan) → IsInverted asked → add_span asked ≡ None
inverted_is_none asked inverted =
    ap (formed_to_add asked.from asked.to) inverted.1 ∙
    ap (λ (b : Bool). if b then None else Some (from_to asked.from asked.to inverted.0.exclude_from inverted.0.exclude_to)) inverted.2

refused_is_none : (why : Refusal) (asked : AskedSpan) → RefusesWrittenSpan why asked →
    add_span asked ≡ None
refused_is_none why asked (inl ends) = ap (formed_to_add asked.from asked.to) ends.1
refused_is_none why asked (inr inverted) = inverted_is_none asked inverted.1

not_refused : (why : Refusal) (keys : List ℕ) (words : TscSpan) (s : SpanView) →
    IsSpan keys words s → RefusesSpan why keys words → ⊥
not_refused why keys words s is (inl part) = none_is_some part.1 is.from_lies
not_refused why keys words s is (inr (inl part)) = none_is_some part.1 is.to_lies
not_refused why keys words s is (inr (inr r)) =
    let from : r.from ≡ is.from = the_same r.from_lies is.from_lies in
    let to : r.to ≡ is.to = the_same r.to_lies is.to_lies in
    none_is_some (refused_is_none why (span_asked is.from is.to words.ends)
    (subst (λ (k : KeyBytes). RefusesWrittenSpan why (span_asked k is.to words.ends)) from
    (subst (λ (k : KeyBytes). RefusesWrittenSpan why (span_asked r.from k words.ends)) to
    r.refused))) is.span

pub none_refused : (why : Refusal) (keys : List ℕ) (words : List TscSpan) (i : ℕ) (d : TscSpan) →
    AllSpans keys words → i < length words → RefusesSpan why keys (get_or words i d) → ⊥
none_refused why keys words i d all lt refused =
    let at = asked_at keys words all.0 i d all.1 lt in
    not_refused why keys (get_or words i d) at.0 at.1 refused

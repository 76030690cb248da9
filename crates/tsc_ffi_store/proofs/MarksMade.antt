-- The marks that an array asks for are checked, and then made, one after another.
use Rattle.std.proofs.Common.{◌≡◌, ◌∙◌, refl, sym, ap, subst, inl, inr, ℕ, ◌+◌, ◌<◌, ◌≤◌, List, [], ◌∷◌, ◌++◌, length, drop, get_or, Bool, true, false}
use Rattle.std.specs.Prelude.{◌⊎◌, ◌&&◌}
use Rattle.std.proofs.lemmas.List.{drop_more, drop_all, append_assoc, append-nil}
use Rattle.std.proofs.lemmas.List.Elements.{Contains-get_or}
use Rattle.tsc_time.specs.ValueView.{ValueView}
use Rattle.tsc_span.specs.Span.{KeyBytes, SpanView}
use Rattle.tsc_page_model.specs.Page.{Mark}
use Rattle.tsc_cache.specs.ConfigView.{ConfigView, fits}
use Rattle.tsc_cache.specs.Batch.{all_fit}
use Rattle.tsc_ffi_store.specs.declared.ctypes.TscMark.{TscMark}
use Rattle.tsc_ffi_store.specs.declared.refusal.Refusal.{Refusal}
use Rattle.tsc_ffi_store.specs.declared.refusal.Refusal.TheVariants as refusal
use Rattle.tsc_ffi_store.specs.Decode.{span_asked, add_span}
use Rattle.tsc_ffi_store.specs.Marks.{IsMark, AreMarks, AskForMarks, RefusesMark, RefusesMarks}
use Rattle.tsc_ffi_store.proofs.SpansAsked.{the_same}

-- Marks are those of the words before an index: with those of the words from there on they are all.
pub record ReadsOn (keys : List ℕ) (words : List TscMark) (i : ℕ) (made : List Mark) : Type 0 where
  pub with_rest : (rest : List Mark) → AreMarks keys (drop i words) rest →
      AreMarks keys words (made ++ rest)

pub none_made : (keys : List ℕ) (words : List TscMark) → ReadsOn keys words 0 []
none_made keys words = record { with_rest = λ rest are. are }

pub one_made : (keys : List ℕ) (words : List TscMark) (i : ℕ) (w : TscMark) (made : List Mark)
    (m : Mark)
    → i < length words → w ≡ get_or words i w → IsMark keys w m → ReadsOn keys words i made →
    ReadsOn keys words (i + 1) (made ++ m ∷ [])
one_made keys words i w made m lt at is so_far = record {
  with_rest = λ rest are.
      let from : drop i words ≡ w ∷ drop (i + 1) words = drop_more words i w lt ∙
      ap (λ (x : TscMark). x ∷ drop (i + 1) words) (sym at) in
      subst (AreMarks keys words) (sym (append_assoc made (m ∷ []) rest))
      (so_far.with_rest (m ∷ rest)
      (subst (λ (ws : List TscMark). AreMarks keys ws (m ∷ rest)) (sym from) (is, are)));
}

pub all_made : (keys : List ℕ) (words : List TscMark) (i : ℕ) (made : List Mark) →
    length words ≤ i → ReadsOn keys words i made → AreMarks keys words made
all_made keys words i made le so_far =
    subst (AreMarks keys words) (append-nil made)
    (so_far.with_rest [] (subst (λ (ws : List TscMark). AreMarks keys ws [])
    (sym (drop_all i words le)) tt))

-- where one is refused, all are
pub one_refused : (why : Refusal) (keys : List ℕ) (words : List TscMark) (i : ℕ) (d : TscMark) →
    i < length words → RefusesMark why keys (get_or words i d) → RefusesMarks why keys words
one_refused why keys words i d lt refused =
    (get_or words i d, Contains-get_or words i d lt, refused)

pub one_not_copied : (why : Refusal) (keys : List ℕ) (words : List TscMark) (i : ℕ) (d : TscMark)
    → i < length words → RefusesMark why keys (get_or words i d) ⊎ (why ≡ refusal.NoMemory)
    → RefusesMarks why keys words ⊎ (why ≡ refusal.NoMemory)
one_not_copied why keys words i d lt (inl refused) =
    inl (one_refused why keys words i d lt refused)
one_not_copied why keys words i d lt (inr memory) = inr memory

-- ---- whether all fit

-- So far: whatever marks the words that are left ask for, all words ask for marks with these, and
-- `fit` says whether those before fit.
pub record ChecksOn (config : ConfigView) (keys : List ℕ) (words left : List TscMark) (fit : Bool) :
    Type 0 where
  pub goes_on : (rest : List Mark) → AreMarks keys left rest →
      AskForMarks config keys words (fit && all_fit config rest)

pub none_checked : (config : ConfigView) (keys : List ℕ) (words : List TscMark) →
    ChecksOn config keys words words true
none_checked config keys words = record {
  goes_on = λ rest are. record { marks = rest; are = are; fit_is = refl };
}

and_assoc : (a b c : Bool) → (a && (b && c)) ≡ ((a && b) && c)
and_assoc true b c = refl
and_assoc false b c = refl

pub one_checked : (config : ConfigView) (keys : List ℕ) (words : List TscMark) (i : ℕ)
    (d : TscMark) (m : Mark) (fit does : Bool)
    → i < length words → IsMark keys (get_or words i d) m → does ≡ fits config m.span
    → ChecksOn config keys words (drop i words) fit
    → ChecksOn config keys words (drop (i + 1) words) (fit && does)
one_checked config keys words i d m fit does lt is same so_far = record {
  goes_on = λ rest are. subst (AskForMarks config keys words)
      (and_assoc fit (fits config m.span) (all_fit config rest) ∙
      ap (λ (b : Bool). (fit && b) && all_fit config rest) (sym same))
      (so_far.goes_on (m ∷ rest)
      (subst (λ (ws : List TscMark). AreMarks keys ws (m ∷ rest)) (sym (drop_more words i d lt))
      (is, are)));
}

and_true : (b : Bool) → (b && true) ≡ b
and_true true = refl
and_true false = refl

pub all_checked : (config : ConfigView) (keys : List ℕ) (words : List TscMark) (i : ℕ) (fit : Bool)
    → length words ≤ i → ChecksOn config keys words (drop i words) fit
    → AskForMarks config keys words fit
all_checked config keys words i fit le so_far =
    subst (AskForMarks config keys words) (and_true fit)
    (so_far.goes_on [] (subst (λ (ws : List TscMark). AreMarks keys ws [])
    (sym (drop_all i words le)) tt))

-- ---- words ask for no other marks

same_mark : (keys : List ℕ) (w : TscMark) (a b : Mark) → IsMark keys w a → IsMark keys w b → a ≡ b
same_mark keys w a b one other =
    let from : one.from ≡ other.from = the_same one.from_lies other.from_lies in
    let to : one.to ≡ other.to = the_same one.to_lies other.to_lies in
    let spans : a.span ≡ b.span = the_same one.names.named
    (ap (λ (k : KeyBytes). add_span (span_asked k one.to w.ends)) from
    ∙ ap (λ (k : KeyBytes). add_span (span_asked other.from k w.ends)) to ∙ other.names.named) in
    ap (λ (s : SpanView). record { span = s; value = a.value }) spans
    ∙ ap (λ (v : ValueView). record { span = b.span; value = v }) (one.value ∙ sym other.value)

pub same_marks : (keys : List ℕ) (words : List TscMark) (ms ns : List Mark)
    → AreMarks keys words ms → AreMarks keys words ns → ms ≡ ns
same_marks keys [] [] [] one other = refl
same_marks keys [] [] (n ∷ ns) one other = absurd other
same_marks keys [] (m ∷ ms) ns one other = absurd one
same_marks keys (w ∷ words) [] ns one other = absurd one
same_marks keys (w ∷ words) (m ∷ ms) [] one other = absurd other
same_marks keys (w ∷ words) (m ∷ ms) (n ∷ ns) one other =
    ap (λ (x : Mark). x ∷ ms) (same_mark keys w m n one.0 other.0)
    ∙ ap (λ (xs : List Mark). n ∷ xs) (same_marks keys words ms ns one.1 other.1)

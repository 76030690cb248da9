-- The least key above a cut, page by page.
use Rattle.std.proofs.Common.{◌≡◌, ◌⊎◌, inl, inr, refl, ◌∙◌, sym, ap, subst, Bool, true, false, List, [], ◌∷◌, ◌++◌, ◌||◌, length, map, append_assoc, append-nil, arith}
use mathlib.Core.Bool.{true≢false}
use Rattle.std.specs.Prelude.{Option, Some, None}
use Rattle.std.specs.Str.{bytes_eq}
use Rattle.std.proofs.lemmas.Bool.{cases_Bool}
use Rattle.std.proofs.lemmas.List.Folds.{list_any-append}
use Rattle.tsc_span.specs.Span.{KeyBytes, Cut, before, is_below}
use Rattle.tsc_page_model.specs.Page.{PageMarks, marked_keys}
use Rattle.tsc_page_model.specs.PageView.{PageView, is_in}
use Rattle.tsc_page_model.specs.KeysAbove.{IsLeastAbove}
use Rattle.tsc_span.proofs.CutOrder.{Le-from_Lt, Le-chain}
use Rattle.tsc_cache.specs.CacheView.{EachRepresents}
use Rattle.tsc_cache.specs.Keys.{keys_on, keys_seen, lesser}

-- a key of two lists is in one of them
pub in_both : (k : KeyBytes) (ks ls : List KeyBytes) →
    is_in k (ks ++ ls) ≡ (is_in k ks || is_in k ls)
in_both k ks ls = list_any-append (bytes_eq k) ks ls

in_either : (k : KeyBytes) (ks ls : List KeyBytes) → is_in k (ks ++ ls) ≡ true →
    (is_in k ks ≡ true) ⊎ (is_in k ls ≡ true)
in_either k ks ls h = by (is_in k ks) (is_in k ls) (sym (in_both k ks ls) ∙ h)
  where
    by : (a b : Bool) → (a || b) ≡ true → (a ≡ true) ⊎ (b ≡ true)
    by true b e = inl refl
    by false b e = inr e

in_first : (k : KeyBytes) (ks ls : List KeyBytes) → is_in k ks ≡ true → is_in k (ks ++ ls) ≡ true
in_first k ks ls h = in_both k ks ls ∙ rw h refl

in_second : (k : KeyBytes) (ks ls : List KeyBytes) → is_in k ls ≡ true → is_in k (ks ++ ls) ≡ true
in_second k ks ls h = in_both k ks ls ∙ rw h (or_true (is_in k ks))
  where
    or_true : (b : Bool) → (b || true) ≡ true
    or_true true = refl
    or_true false = refl

-- of two lists the lesser of their least keys is the least one
pub lesser_is_least : (c : Cut) (ks ls : List KeyBytes) (a b : Option KeyBytes) →
    IsLeastAbove c ks a → IsLeastAbove c ls b → IsLeastAbove c (ks ++ ls) (lesser a b)
lesser_is_least c ks ls None None none others =
    λ k h. elim (in_either k ks ls h) [ inl i ↦ none k i | inr i ↦ others k i ]
lesser_is_least c ks ls None (Some m) none other = record {
  member = in_second m ks ls other.member;
  above = other.above;
  least = λ k h a. elim (in_either k ks ls h)
      [ inl i ↦ absurd (true≢false (sym a ∙ none k i)) | inr i ↦ other.least k i a ];
}
lesser_is_least c ks ls (Some m) None one none = record {
  member = in_first m ks ls one.member;
  above = one.above;
  least = λ k h a. elim (in_either k ks ls h)
      [ inl i ↦ one.least k i a | inr i ↦ absurd (true≢false (sym a ∙ none k i)) ];
}
lesser_is_least c ks ls (Some m) (Some n) one other =
    elim (cases_Bool (is_below (before n) (before m))) [
      | inl h ↦ rw h (record {
        member = in_second n ks ls other.member;
        above = other.above;
        least = λ k i a. elim (in_either k ks ls i) [
          | inl j ↦ Le-chain (before n) (before m) (before k) (Le-from_Lt (before n) (before m) h)
              (one.least k j a)
          | inr j ↦ other.least k j a
        ];
      })
      | inr h ↦ rw h (record {
        member = in_first m ks ls one.member;
        above = one.above;
        least = λ k i a. elim (in_either k ks ls i) [
          | inl j ↦ one.least k j a
          | inr j ↦ Le-chain (before m) (before n) (before k) h
              (other.least k j a)
        ];
      })
    ]

-- What the pages tell that were asked so far, with those that are left.
pub record Asking (pages rest : List PageView) (c : Cut) (reported : Option KeyBytes) : Type 0 where
  pub asked : List PageView
  pub parts : pages ≡ asked ++ rest
  pub least : IsLeastAbove c (keys_seen asked) reported

seen-append : (ps : List PageView) (p : PageView) →
    keys_seen (ps ++ p ∷ []) ≡ keys_seen ps ++ p.keys
seen-append [] p = append-nil p.keys
seen-append (q ∷ ps) p = ap (λ (ks : List KeyBytes). q.keys ++ ks) (seen-append ps p) ∙
    sym (append_assoc q.keys (keys_seen ps) p.keys)

pub asking-start : (front : PageView) (older : List PageView) (c : Cut) (reported : Option KeyBytes)
    → IsLeastAbove c front.keys reported → Asking (front ∷ older) older c reported
asking-start front older c reported is = record {
  asked = front ∷ [];
  parts = refl;
  least = subst (λ (ks : List KeyBytes). IsLeastAbove c ks reported) (sym (append-nil front.keys))
      is;
}

pub asking-more : (pages : List PageView) (p : PageView) (rest : List PageView) (c : Cut)
    (reported more : Option KeyBytes) → Asking pages (p ∷ rest) c reported →
    IsLeastAbove c p.keys more → Asking pages rest c (lesser reported more)
asking-more pages p rest c reported more so_far is = record {
  asked = so_far.asked ++ p ∷ [];
  parts = so_far.parts ∙ sym (append_assoc so_far.asked (p ∷ []) rest);
  least = subst (λ (ks : List KeyBytes). IsLeastAbove c ks (lesser reported more))
      (sym (seen-append so_far.asked p))
      (lesser_is_least c (keys_seen so_far.asked) p.keys reported more so_far.least is);
}

pub asking-end : {A : Type 0} (f : A → PageView) (pages : List PageView) (rest : List A) (c : Cut)
    (reported : Option KeyBytes) → length rest ≡ 0 → Asking pages (map f rest) c reported →
    IsLeastAbove c (keys_seen pages) reported
asking-end f pages [] c reported none all =
    subst (λ (ps : List PageView). IsLeastAbove c (keys_seen ps) reported)
    (sym (all.parts ∙ append-nil all.asked)) all.least
asking-end f pages (a ∷ rest) c reported none all = absurd (omega (arith, none))

-- pages that stand for others have the same keys
pub same_keys : (vs : List PageView) (ps : List PageMarks) → EachRepresents vs ps → (k : KeyBytes) →
    is_in k (keys_seen vs) ≡ is_in k (keys_on ps)
same_keys [] [] each k = refl
same_keys [] (p ∷ ps) each k = absurd each
same_keys (v ∷ vs) [] each k = absurd each
same_keys (v ∷ vs) (p ∷ ps) each k =
    in_both k v.keys (keys_seen vs)
    ∙ ap (λ b. b || is_in k (keys_seen vs)) (each.0.keys k)
    ∙ ap (λ b. is_in k (marked_keys p.marks) || b) (same_keys vs ps each.1 k)
    ∙ sym (in_both k (marked_keys p.marks) (keys_on ps))

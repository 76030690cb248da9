-- Old versions that are dropped: how many of a key are kept, and what each key has then.
use Rattle.std.proofs.Common.{◌≡◌, ◌∙◌, ap, sym, refl, subst, inl, inr, ℕ, zero, suc, ◌+◌, take, length, List, [], ◌∷◌, ◌++◌, append-nil, append_assoc, add-one, Bool, true, false, not, ◌==◌, Some, None, arith}
use Rattle.std.specs.Prelude.{cond}
use Rattle.std.specs.List.{AllByRecursion}
use Rattle.std.specs.Map.{keys_of}
use Rattle.std.specs.Map.Calls.{RetainsPairs}
use Rattle.std.specs.Ordering.{is_eq}
use Rattle.std.proofs.lemmas.Bool.{cases_Bool}
use Rattle.std.proofs.lemmas.Bool.Decides.{nat_tests}
use Rattle.std.proofs.lemmas.Slice.Eq.{bytes_eq-Decides}
use Rattle.std.proofs.lemmas.Map.Keys.{sorted_tail}
use Rattle.tsc_span.specs.Span.{key_cmp}
use Rattle.timestamp_cache.specs.Words.{Time, is_before, KeyBytes}
use Rattle.mvcc_versions.specs.Versions.{Content, Version, Chains, chain_of, kept_from, unless_deletion}
use Rattle.mvcc_versions.proofs.RowsAsOf.{lower, above_other, is_at-same, AreSorted, above_first}

-- ---- how many are kept

pub take_next : (count : ℕ) (vs rest : List Version) (v : Version) → take count vs ++ v ∷ rest ≡ vs
    → take (suc count) vs ≡ take count vs ++ v ∷ []
take_next zero vs rest v is = ap (λ (xs : List Version). take 1 xs) (sym is)
take_next (suc n) [] rest v is = absurd (let never : v ∷ rest ≡ [] = is in cc)
take_next (suc n) (x ∷ vs) rest v is = let tail : take n vs ++ v ∷ rest ≡ vs = cc in
    ap (λ (xs : List Version). x ∷ xs) (take_next n vs rest v tail)

-- one version more is kept, where it is not earlier
pub saturating_inc : (vs rest next : List Version) (v : Version) (count : ℕ) (from : Time)
    → rest ≡ v ∷ next → is_before v.at from ≡ false
    → count + length rest ≡ length vs → take count vs ++ rest ≡ vs → take count vs
    ++ kept_from from rest ≡ kept_from from vs
    → (count + 1 + length next ≡ length vs) × (take (count + 1) vs ++ next ≡ vs)
    × (take (count + 1) vs ++ kept_from from next ≡ kept_from from vs)
saturating_inc vs rest next v count from e late counted parts kept =
    let whole : take count vs ++ v ∷ next ≡ vs = subst (λ (xs : List Version). take count vs
    ++ xs ≡ vs) e parts in
    let step : take (count + 1) vs ≡ take count vs ++ v ∷ [] =
    rw add-one (take_next count vs next v whole) in
    let first : kept_from from rest ≡ v ∷ kept_from from next = ap (kept_from from) e
    ∙ not_earlier from v next late in (
      (let long : length rest ≡ suc (length next) = ap (λ (xs : List Version). length xs) e in
          omega arith),
      ap (λ (xs : List Version). xs ++ next) step ∙ (append_assoc (take count vs) (v ∷ []) next
          ∙ whole),
      ap (λ (xs : List Version). xs ++ kept_from from next) step
          ∙ (append_assoc (take count vs) (v ∷ []) (kept_from from next)
          ∙ (ap (λ (xs : List Version). take count vs ++ xs) (sym first) ∙ kept)),
    )
  where
    not_earlier : (from : Time) (v : Version) (next : List Version) → is_before v.at from ≡ false
        → kept_from from (v ∷ next) ≡ v ∷ kept_from from next
    not_earlier from v next late = rw late refl

-- the newest of the earlier ones is the last, unless it is a deletion
pub kept_last : (vs rest next : List Version) (v : Version) (count : ℕ) (from : Time)
    → rest ≡ v ∷ next → is_before v.at from ≡ true
    → take count vs ++ rest ≡ vs → take count vs ++ kept_from from rest ≡ kept_from from vs
    → take (count + length (unless_deletion v v.content)) vs ≡ kept_from from vs
kept_last vs rest next v count from e early parts kept =
    let whole : take count vs ++ v ∷ next ≡ vs = subst (λ (xs : List Version). take count vs
    ++ xs ≡ vs) e parts in
    let first : kept_from from rest ≡ unless_deletion v v.content = ap (kept_from from) e
    ∙ earlier from v next early in
    oldest whole v.content ∙ (ap (λ (xs : List Version). take count vs ++ xs) (sym first) ∙ kept)
  where
    earlier : (from : Time) (v : Version) (next : List Version) → is_before v.at from ≡ true
        → kept_from from (v ∷ next) ≡ unless_deletion v v.content
    earlier from v next early = rw early refl

    oldest : take count vs ++ v ∷ next ≡ vs → (c : Content)
        → take (count + length (unless_deletion v c)) vs ≡ take count vs ++ unless_deletion v c
    oldest whole None = let same : count + 0 ≡ count = omega arith in ap (λ (n : ℕ). take n vs) same
        ∙ sym (append-nil (take count vs))
    oldest whole (Some b) = rw add-one (take_next count vs next v whole)

-- ---- key by key

none_above : (k : KeyBytes) (es : Chains) → AllByRecursion (λ (q : KeyBytes). lower k q ≡ true)
    (keys_of es) → chain_of es k ≡ []
none_above k [] all = refl
none_above k (e ∷ es) all = let test : is_eq (key_cmp k e.0) ≡ false = is_at-same k e.0
    ∙ above_other k e.0 all.0 in rw test (none_above k es all.1)

first_chain : (k : KeyBytes) (e : KeyBytes × List Version) (es : Chains)
    → is_eq (key_cmp k e.0) ≡ true → chain_of (e ∷ es) k ≡ e.1
first_chain k e es test = rw test refl

other_chain : (k : KeyBytes) (e : KeyBytes × List Version) (es : Chains)
    → is_eq (key_cmp k e.0) ≡ false → chain_of (e ∷ es) k ≡ chain_of es k
other_chain k e es test = rw test refl

no_length : (n : ℕ) → false ≡ not (n == 0) → n ≡ 0
no_length n h = grind (arith, nat_tests)

nothing : (vs : List Version) → false ≡ not (length vs == 0) → vs ≡ []
nothing [] h = refl
nothing (v ∷ vs) h = absurd (let never : suc (length vs) ≡ 0 = no_length (suc (length vs)) h in
    omega arith)

-- Each key has what is kept of its versions, where a map's test keeps that, and drops the keys that
-- have none left.
pub retained : {F : Type 0} (T : F → KeyBytes → List Version → Bool → List Version → F
    → Type 0) (from : Time) (f : F)
    → ((k : KeyBytes) (vs : List Version) (b : Bool) (w : List Version) (g : F) → T f k vs b w g
    → (b ≡ not (length w == 0)) × (w ≡ kept_from from vs) × (g ≡ f))
    → (es left : Chains) → AreSorted es → RetainsPairs T f es left → (k : KeyBytes)
    → chain_of left k ≡ kept_from from (chain_of es k)
retained T from f call [] left sorted is k = ap (λ (xs : Chains). chain_of xs k) is
retained {F} T from f call (e ∷ es) left sorted (b, w, g, rest, called, more, is) k =
    let c = call e.0 e.1 b w g called in
    let so_far = retained T from f call es rest (sorted_tail key_cmp e.0 (keys_of es) sorted)
    (subst (λ (h : F). RetainsPairs T h es rest) c.2 more) k in
    elim (cases_Bool (is_eq (key_cmp k e.0))) [
      | inl test ↦ own b test c.0 c.1 is so_far
          ∙ sym (ap (kept_from from) (first_chain k e es test))
      | inr test ↦ other b test is ∙ (so_far ∙ sym (ap (kept_from from) (other_chain k e es test)))
    ]
  where
    own : (b : Bool) → is_eq (key_cmp k e.0) ≡ true → b ≡ not (length w == 0)
        → w ≡ kept_from from e.1 → left ≡ cond b ((e.0, w) ∷ rest) rest
        → chain_of rest k ≡ kept_from from (chain_of es k) → chain_of left k ≡ kept_from from e.1
    own true test some kept is so_far = ap (λ (xs : Chains). chain_of xs k) is
        ∙ (first_chain k (e.0, w) rest test ∙ kept)
    own false test none kept is so_far =
        let same : e.0 ≡ k = (bytes_eq-Decides e.0 k).0 (sym (is_at-same k e.0) ∙ test) in
        let gone : chain_of es k ≡ [] =
        none_above k es (subst (λ (q : KeyBytes). AllByRecursion (λ (p : KeyBytes). lower q p
        ≡ true) (keys_of es)) same (above_first e es sorted)) in
        ap (λ (xs : Chains). chain_of xs k) is
        ∙ (so_far ∙ (ap (kept_from from) gone ∙ (sym (nothing w none) ∙ kept)))

    other : (b : Bool) → is_eq (key_cmp k e.0) ≡ false → left ≡ cond b ((e.0, w) ∷ rest) rest
        → chain_of left k ≡ chain_of rest k
    other true test is = ap (λ (xs : Chains). chain_of xs k) is ∙ other_chain k (e.0, w) rest test
    other false test is = ap (λ (xs : Chains). chain_of xs k) is

-- What the order of cuts gives, as steps from one comparison to the next.
use Rattle.std.proofs.Common.{◌≡◌, ◌⊎◌, inl, inr, ◌∙◌, refl, sym, ap, true, false, ◌&&◌}
use mathlib.Core.Bool.{true≢false}
use Rattle.std.specs.declared.cmp.Ordering.{Ordering}
use Rattle.std.specs.declared.cmp.Ordering.TheVariants.{Less, Equal, Greater}
use Rattle.std.specs.Ordering.{is_lt, ordering_then, ordering_reverse}
use Rattle.std.proofs.lemmas.Bool.{cases_Bool, and_parts}
use Rattle.tsc_span.specs.Span.{KeyBytes, key_cmp, Cut, before, after, last, is_below, between, overlaps}
use Rattle.tsc_span.proofs.CutsTotal.{sides_in_order, key_cmp_back}
use Rattle.tsc_span.proofs.Overlaps.{is_below-opposite, is_below-transitive, no_lower-transitive, overlaps-each}

-- one cut is below another
abbrev pub Lt : Cut → Cut → Type 0
Lt a b = is_below a b ≡ true

-- one cut is not above another
abbrev pub Le : Cut → Cut → Type 0
Le a b = is_below b a ≡ false

pub Lt-or_Le : (a b : Cut) → Lt a b ⊎ Le b a
Lt-or_Le a b = cases_Bool (is_below a b)

pub Lt-not_Le : (a b : Cut) → Lt a b → Le b a → ⊥
Lt-not_Le a b h g = true≢false (sym h ∙ g)

pub Le-from_Lt : (a b : Cut) → Lt a b → Le a b
Le-from_Lt a b h = is_below-opposite a b h

pub Le-itself : (a : Cut) → Le a a
Le-itself a = elim (Lt-or_Le a a) [ inl h ↦ Le-from_Lt a a h | inr h ↦ h ]

pub Le-chain : (a b c : Cut) → Le a b → Le b c → Le a c
Le-chain a b c h g = no_lower-transitive a b c h g

pub Lt-chain : (a b c : Cut) → Lt a b → Lt b c → Lt a c
Lt-chain a b c h g = is_below-transitive a b c h g

pub Le_Lt-chain : (a b c : Cut) → Le a b → Lt b c → Lt a c
Le_Lt-chain a b c h g = elim (Lt-or_Le a c)
    [ inl l ↦ l | inr l ↦ absurd (Lt-not_Le b c g (Le-chain c a b l h)) ]

pub Lt_Le-chain : (a b c : Cut) → Lt a b → Le b c → Lt a c
Lt_Le-chain a b c h g = elim (Lt-or_Le a c)
    [ inl l ↦ l | inr l ↦ absurd (Lt-not_Le a b h (Le-chain b c a g l)) ]

-- a key's two cuts
pub before-after : (k : KeyBytes) → Lt (before k) (after k)
before-after k = sides_in_order k

-- both stand below those of a greater key
pub after-before : (k m : KeyBytes) → key_cmp k m ≡ Less → Lt (after k) (before m)
after-before k m h = ap (λ o. is_lt (ordering_then o Greater)) h

-- no cut of two keys is the same on different sides
pub Lt-from_Le_sides : (k m : KeyBytes) → Le (after k) (before m) → Lt (after k) (before m)
Lt-from_Le_sides k m = by (key_cmp m k) (key_cmp k m) (key_cmp_back m k)
  where
    by : (back forth : Ordering) → forth ≡ ordering_reverse back →
        is_lt (ordering_then back Less) ≡ false → is_lt (ordering_then forth Greater) ≡ true
    by Less forth e h = absurd (true≢false h)
    by Equal forth e h = absurd (true≢false h)
    by Greater forth e h = rw e refl

pub below_last : (k : KeyBytes) → Lt (after k) last
below_last k = refl

pub none_above_last : (a : Cut) → Le a last
none_above_last (before k) = refl
none_above_last (after k) = refl
none_above_last last = refl

-- each of two spans begins before either stops
abbrev pub Meet : Cut → Cut → Cut → Cut → Type 0
Meet from to first end = Lt from to × Lt from end × Lt first to × Lt first end

pub overlaps-from : (from to first end : Cut) → Meet from to first end →
    overlaps (between from to) (between first end) ≡ true
overlaps-from from to first end m = overlaps-each from to first end ∙ rw (m.0, m.1, m.2, m.3) refl

pub overlaps-reports : (from to first end : Cut) →
    overlaps (between from to) (between first end) ≡ true → Meet from to first end
overlaps-reports from to first end h =
    let all = and_parts (is_below from to && is_below from end)
    (is_below first to && is_below first end) (sym (overlaps-each from to first end) ∙ h) in
    let one = and_parts (is_below from to) (is_below from end) all.0 in
    let two = and_parts (is_below first to) (is_below first end) all.1 in
    (one.0, one.1, two.0, two.1)

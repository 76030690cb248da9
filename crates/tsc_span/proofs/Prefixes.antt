-- Prefixes stand to one another as the keys do, where they differ.
use Rattle.std.proofs.Common.{◌≡◌, ◌⊎◌, inl, inr, ◌∙◌, refl, sym, ap, subst, ℕ, zero, suc, ◌+◌, ◌*◌, ◌-◌, ◌<◌, ◌≤◌, ◌^◌, true, false, [], ◌∷◌, length, take, drop, min, length-drop, arith}
use Rattle.std.specs.declared.cmp.Ordering.{Ordering}
use Rattle.std.specs.declared.cmp.Ordering.TheVariants.{Less, Equal, Greater}
use Rattle.std.specs.Ordering.{nat_cmp, is_lt, ordering_then, ordering_reverse}
use Rattle.std.specs.Cmp.{nat_cmp_is}
use Rattle.std.proofs.lemmas.List.{take_all}
use Rattle.tsc_span.specs.Span.{KeyBytes, key_cmp, Cut, before, after, last, is_below}
use Rattle.tsc_span.specs.Prefixes.{spelled, prefix_of, IsPrefixOf, IsCutPrefix}
use Rattle.tsc_span.proofs.CutsTotal.{key_cmp_back}
use Rattle.tsc_span.proofs.Spelling.{Small, tail_small, rises, which, spelled_order, same_byte, same_behind, behind_same}
use Rattle.tsc_span.proofs.CutOrder.{Lt, Le-from_Lt}

-- of keys that spell the same a shorter one is a beginning of the other, where it has no more bytes
-- than are spelled
pub tied_by_length : (more n : ℕ) (j k : KeyBytes) → Small j → Small k →
    min (length j) (length k) ≤ more → spelled more n j ≡ spelled more n k →
    nat_cmp (length j) (length k) ≡ key_cmp j k
tied_by_length more n [] [] sj sk short h = sym (nat_cmp_is 0 0 Equal refl)
tied_by_length more n [] (c ∷ k) sj sk short h =
    sym (nat_cmp_is 0 (length (c ∷ k)) Less (omega arith))
tied_by_length more n (b ∷ j) [] sj sk short h =
    sym (nat_cmp_is (length (b ∷ j)) 0 Greater (omega arith))
tied_by_length zero n (b ∷ j) (c ∷ k) sj sk short h = absurd (omega (arith, short))
tied_by_length (suc more) n (b ∷ j) (c ∷ k) sj sk short h =
    let e : b ≡ c = same_byte more n b c j k sj sk h in
    longer (length j) (length k) ∙
    tied_by_length more (n * 256 + b) j k (tail_small b j sj) (tail_small c k sk)
    (omega (arith, short)) (same_behind more n b c j k e h) ∙ sym (behind_same b c j k e)
  where
    longer : (x y : ℕ) → nat_cmp (suc x) (suc y) ≡ nat_cmp x y
    longer x y = elim (which x y) [
      | inl l ↦ sym (nat_cmp_is (suc x) (suc y) Less (omega arith)) ∙ nat_cmp_is x y Less l
      | inr r ↦ elim r [
        | inl e ↦ sym (nat_cmp_is (suc x) (suc y) Equal (ap suc e)) ∙ nat_cmp_is x y Equal e
        | inr l ↦ sym (nat_cmp_is (suc x) (suc y) Greater (omega arith)) ∙ nat_cmp_is x y Greater l
      ]
    ]

-- what comes behind twenty-four bytes, as a slice of a key has it
pub rest_of : (k : KeyBytes) → take (length k - 24) (drop 24 k) ≡ drop 24 k
rest_of k = take_all (length k - 24) (drop 24 k) (omega (arith, length-drop 24 k))

-- and so of the keys of two prefixes
pub prefix_order : (m n : ℕ) (j k : KeyBytes) → IsPrefixOf m j → IsPrefixOf n k → m < n →
    key_cmp j k ≡ Less
prefix_order m n j k at_j at_k h =
    spelled_order 24 0 j k at_j.small at_k.small
    (subst (λ (x : ℕ). x < prefix_of k) at_j.prefix (subst (λ (x : ℕ). m < x) at_k.prefix h))

-- no key has a prefix above that of the last cut
past : (m n : ℕ) (k : KeyBytes) → m ≡ 2 ^ 192 - 1 → IsPrefixOf n k → m < n → ⊥
past m n k at_m at_n h = let up : prefix_of k < 2 ^ 192 =
    rises 24 0 1 k [] at_n.small (omega arith) in omega (arith, at_m, at_n.prefix)

-- the other way round too
pub comparison_reported : (m n : ℕ) (j k : KeyBytes) (o : Ordering) → IsPrefixOf m j →
    IsPrefixOf n k → o ≡ nat_cmp m n → (o ≡ Equal → ⊥) → o ≡ key_cmp j k
comparison_reported m n j k o at_j at_k e apart = elim (which m n) [
  | inl l ↦ e ∙ sym (nat_cmp_is m n Less l) ∙ sym (prefix_order m n j k at_j at_k l)
  | inr r ↦ elim r [
    | inl q ↦ absurd (apart (e ∙ sym (nat_cmp_is m n Equal q)))
    | inr l ↦ e ∙ sym (nat_cmp_is m n Greater l) ∙
        sym (key_cmp_back k j ∙ ap ordering_reverse (prefix_order n m k j at_k at_j l))
  ]
]

-- and so of cuts
cut_order : (m n : ℕ) (a b : Cut) → IsCutPrefix m a → IsCutPrefix n b → m < n → Lt a b
cut_order m n (before j) (before k) at_a at_b h = ap is_lt (prefix_order m n j k at_a at_b h)
cut_order m n (before j) (after k) at_a at_b h =
    ap (λ o. is_lt (ordering_then o Less)) (prefix_order m n j k at_a at_b h)
cut_order m n (before j) last at_a at_b h = refl
cut_order m n (after j) (before k) at_a at_b h =
    ap (λ o. is_lt (ordering_then o Greater)) (prefix_order m n j k at_a at_b h)
cut_order m n (after j) (after k) at_a at_b h = ap is_lt (prefix_order m n j k at_a at_b h)
cut_order m n (after j) last at_a at_b h = refl
cut_order m n last (before k) at_a at_b h = absurd (past m n k at_a at_b h)
cut_order m n last (after k) at_a at_b h = absurd (past m n k at_a at_b h)
cut_order m n last last at_a at_b h = absurd (omega (arith, at_a, at_b))

-- a cut has one prefix
pub one_prefix : (m n : ℕ) (c : Cut) → IsCutPrefix m c → IsCutPrefix n c → m ≡ n
one_prefix m n (before k) at_m at_n = at_m.prefix ∙ sym at_n.prefix
one_prefix m n (after k) at_m at_n = at_m.prefix ∙ sym at_n.prefix
one_prefix m n last at_m at_n = at_m ∙ sym at_n

-- so that which is smaller is another one's
pub not_its_prefix : (m n : ℕ) (c : Cut) → IsCutPrefix m c → (m < n) ⊎ (n < m) → IsCutPrefix n c → ⊥
not_its_prefix m n c at_m apart at_n =
    let e = one_prefix m n c at_m at_n in
    elim apart [ inl h ↦ omega arith | inr h ↦ omega arith ]

-- a cut of a smaller prefix lies below
pub below_reported : (m n : ℕ) (a b : Cut) → IsCutPrefix m a → IsCutPrefix n b → m < n →
    true ≡ is_below a b
below_reported m n a b at_a at_b l = sym (cut_order m n a b at_a at_b l)

-- and one of a greater prefix doesn't
pub not_below_reported : (m n : ℕ) (a b : Cut) → IsCutPrefix m a → IsCutPrefix n b → n < m →
    false ≡ is_below a b
not_below_reported m n a b at_a at_b l = sym (Le-from_Lt b a (cut_order n m b a at_b at_a l))

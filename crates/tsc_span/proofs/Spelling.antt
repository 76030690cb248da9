-- The order of what the first bytes of texts spell is that of the texts, where it tells them apart.
use Rattle.std.proofs.Common.{◌≡◌, ◌⊎◌, inl, inr, ◌∙◌, refl, sym, ap, subst, ℕ, zero, suc, ◌+◌, ◌*◌, ◌-◌, ◌<◌, ◌≤◌, [], ◌∷◌, length, take, drop, length-drop, arith}
use Rattle.std.specs.declared.cmp.Ordering.{Ordering}
use Rattle.std.specs.declared.cmp.Ordering.TheVariants.{Less, Equal, Greater}
use Rattle.std.specs.Ordering.{nat_cmp, ordering_then, ordering_reverse}
use Rattle.std.specs.Cmp.{nat_cmp_is}
use Rattle.std.specs.List.{All}
use Rattle.std.proofs.lemmas.List.{take_all}
use Rattle.tsc_span.specs.Span.{KeyBytes, key_cmp}
use Rattle.tsc_span.specs.Spelled.{spelled}
use Rattle.tsc_span.proofs.CutsTotal.{key_cmp_back}

-- each byte is one
abbrev pub Small : KeyBytes → Type 0
Small k = All (λ b. b < 256) k

pub head_small : (b : ℕ) (k : KeyBytes) → Small (b ∷ k) → b < 256
head_small b k small = small 0 0 (omega arith)

pub tail_small : (b : ℕ) (k : KeyBytes) → Small (b ∷ k) → Small k
tail_small b k small = λ i d h. small (suc i) d (omega arith)

pub none_small : Small []
none_small = λ i d h. absurd (omega arith)

-- what is spelled behind a smaller number is smaller
pub rises : (more m n : ℕ) (j k : KeyBytes) → Small j → m < n → spelled more m j < spelled more n k
rises zero m n j k small h = h
rises (suc more) m n [] [] small h = rises more (m * 256) (n * 256) [] [] small (omega arith)
rises (suc more) m n [] (c ∷ k) small h =
    rises more (m * 256) (n * 256 + c) [] k small (omega arith)
rises (suc more) m n (b ∷ j) [] small h =
    rises more (m * 256 + b) (n * 256) j [] (tail_small b j small)
    (omega (arith, head_small b j small))
rises (suc more) m n (b ∷ j) (c ∷ k) small h =
    rises more (m * 256 + b) (n * 256 + c) j k (tail_small b j small)
    (omega (arith, head_small b j small))

-- no key spells less than the empty one
pub none_lower : (more n : ℕ) (k : KeyBytes) → spelled more n k < spelled more n [] → ⊥
none_lower zero n k h = omega arith
none_lower (suc more) n [] h = none_lower more (n * 256) [] h
none_lower (suc more) n (zero ∷ k) h = let e : n * 256 + 0 ≡ n * 256 =
    omega arith in none_lower more (n * 256) k
    (subst (λ (m : ℕ). spelled more m k < spelled more (n * 256) []) e h)
none_lower (suc more) n (suc b ∷ k) h = let up =
    rises more (n * 256) (n * 256 + suc b) [] k none_small (omega arith) in omega arith

-- each way that two numbers may stand
pub which : (b c : ℕ) → (b < c) ⊎ (b ≡ c) ⊎ (c < b)
which zero zero = inr (inl refl)
which zero (suc c) = inl (omega arith)
which (suc b) zero = inr (inr (omega arith))
which (suc b) (suc c) = elim (which b c) [
  | inl h ↦ inl (omega arith)
  | inr r ↦ elim r
      [ inl h ↦ inr (inl (ap suc h)) | inr h ↦ inr (inr (omega arith)) ]
]

-- of two keys the one that spells less is the smaller one
pub spelled_order : (more n : ℕ) (j k : KeyBytes) → Small j → Small k →
    spelled more n j < spelled more n k → key_cmp j k ≡ Less
spelled_order zero n j k sj sk h = absurd (omega arith)
spelled_order (suc more) n [] [] sj sk h = absurd (none_lower (suc more) n [] h)
spelled_order (suc more) n [] (c ∷ k) sj sk h = refl
spelled_order (suc more) n (b ∷ j) [] sj sk h = absurd (none_lower (suc more) n (b ∷ j) h)
spelled_order (suc more) n (b ∷ j) (c ∷ k) sj sk h = elim (which b c) [
  | inl l ↦ ap (λ o. ordering_then o (key_cmp j k)) (sym (nat_cmp_is b c Less l))
  | inr r ↦ elim r [
    | inl e ↦ ap (λ o. ordering_then o (key_cmp j k)) (sym (nat_cmp_is b c Equal e)) ∙
        spelled_order more (n * 256 + b) j k (tail_small b j sj) (tail_small c k sk)
        (subst (λ (x : ℕ). spelled more (n * 256 + b) j < spelled more (n * 256 + x) k) (sym e) h)
    | inr l ↦ absurd (let up = rises more (n * 256 + c) (n * 256 + b) k j (tail_small c k sk)
        (omega arith) in omega arith)
  ]
]

-- keys that spell the same begin with the same byte
pub same_byte : (more n b c : ℕ) (j k : KeyBytes) → Small (b ∷ j) → Small (c ∷ k) →
    spelled (suc more) n (b ∷ j) ≡ spelled (suc more) n (c ∷ k) → b ≡ c
same_byte more n b c j k sj sk h = elim (which b c) [
  | inl l ↦ absurd (let up = rises more (n * 256 + b) (n * 256 + c) j k (tail_small b j sj)
      (omega arith) in omega (arith, h))
  | inr r ↦ elim r [
    | inl e ↦ e
    | inr l ↦ absurd (let up = rises more (n * 256 + c) (n * 256 + b) k j (tail_small c k sk)
        (omega arith) in omega (arith, h))
  ]
]

-- what they spell behind it is the same too
pub same_behind : (more n b c : ℕ) (j k : KeyBytes) → b ≡ c →
    spelled (suc more) n (b ∷ j) ≡ spelled (suc more) n (c ∷ k) →
    spelled more (n * 256 + b) j ≡ spelled more (n * 256 + b) k
same_behind more n b c j k e h = subst (λ (x : ℕ). spelled more (n * 256 + b) j ≡
    spelled more (n * 256 + x) k) (sym e) h

-- and their order is that of what stands behind it
pub behind_same : (b c : ℕ) (j k : KeyBytes) → b ≡ c → key_cmp (b ∷ j) (c ∷ k) ≡ key_cmp j k
behind_same b c j k e = ap (λ o. ordering_then o (key_cmp j k)) (sym (nat_cmp_is b c Equal e))

-- and where they have as many bytes, what comes behind these tells
pub tied_by_rest : (more n : ℕ) (j k : KeyBytes) → Small j → Small k → more ≤ length j →
    more ≤ length k → spelled more n j ≡ spelled more n k →
    key_cmp (drop more j) (drop more k) ≡ key_cmp j k
tied_by_rest zero n j k sj sk lj lk h = refl
tied_by_rest (suc more) n [] k sj sk lj lk h = absurd (omega (arith, lj))
tied_by_rest (suc more) n (b ∷ j) [] sj sk lj lk h = absurd (omega (arith, lk))
tied_by_rest (suc more) n (b ∷ j) (c ∷ k) sj sk lj lk h =
    let e : b ≡ c = same_byte more n b c j k sj sk h in
    tied_by_rest more (n * 256 + b) j k (tail_small b j sj) (tail_small c k sk) (omega (arith, lj))
    (omega (arith, lk)) (same_behind more n b c j k e h) ∙ sym (behind_same b c j k e)

-- where what is spelled differs, its order is that of the texts
pub order_by_spelled : (more : ℕ) (j k : KeyBytes) (o : Ordering) → Small j → Small k →
    (spelled more 0 j ≡ spelled more 0 k → ⊥) → o ≡ nat_cmp (spelled more 0 j) (spelled more 0 k) →
    o ≡ key_cmp j k
order_by_spelled more j k o sj sk apart e = elim (which (spelled more 0 j) (spelled more 0 k)) [
  | inl l ↦ e ∙ sym (nat_cmp_is (spelled more 0 j) (spelled more 0 k) Less l) ∙
      sym (spelled_order more 0 j k sj sk l)
  | inr r ↦ elim r [
    | inl q ↦ absurd (apart q)
    | inr l ↦ e ∙ sym (nat_cmp_is (spelled more 0 j) (spelled more 0 k) Greater l) ∙
        sym (key_cmp_back k j ∙ ap ordering_reverse (spelled_order more 0 k j sk sj l))
  ]
]

-- what comes behind the first eight bytes, as a slice of a key has it
pub behind : (k : KeyBytes) → take (length k - 8) (drop 8 k) ≡ drop 8 k
behind k = take_all (length k - 8) (drop 8 k) (omega (arith, length-drop 8 k))

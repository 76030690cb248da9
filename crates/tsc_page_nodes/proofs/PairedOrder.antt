-- Keys and values in two lists that stay in order.
use Rattle.std.proofs.Common.{◌≡◌, refl, sym, subst, ℕ, zero, suc, List, [], ◌∷◌, length, take, drop, arith}
use Rattle.std.specs.Prelude.{Option, Some, None, Result, Err, OnErr}
use Rattle.std.proofs.lemmas.List.{length-drop}
use Rattle.tsc_time.specs.Time.{zero_time}
use Rattle.tsc_time.specs.ValueView.{ValueView, unowned}
use Rattle.tsc_span.specs.Span.{KeyBytes, SpanView, before, after}
use Rattle.tsc_page_nodes.specs.declared.nodes.Values.{Values}
use Rattle.tsc_page_nodes.specs.Nodes.{Node, paired, IsSorted, ArePaired, FitsIn, with_new, node_in_gap, gap_value, next_cut, node_stretches, raise_nodes}
use Rattle.tsc_span.proofs.CutOrder.{Lt}
use Rattle.tsc_page_nodes.proofs.Edits.{raise_nodes-sorted, insert-sorted}
use Rattle.tsc_page_nodes.proofs.Apart.{paired-take, paired-drop}

-- the same lists are paired as well
pub paired_as : (ks ls : List KeyBytes) (vs ws : List Values) → ks ≡ ls → vs ≡ ws →
    ArePaired ls ws → ArePaired ks vs
paired_as ks ls vs ws keys values are =
    subst (λ (ms : List KeyBytes). ArePaired ms vs) (sym keys)
    (subst (λ (us : List Values). ArePaired ls us) (sym values) are)

-- what is in order in one way is so however it is kept
pub paired_by : (ks : List KeyBytes) (vs : List Values) (ns : List Node) → length ks ≡ length vs →
    paired ks vs ≡ ns → IsSorted ns → ArePaired ks vs
paired_by ks vs ns same is sorted = record { same = same; sorted = subst IsSorted (sym is) sorted }

pub paired_raised : (ks : List KeyBytes) (vs : List Values) (m : SpanView) (v : ValueView)
    (ns : List Node) → length ks ≡ length vs → paired ks vs ≡ raise_nodes m v ns → IsSorted ns →
    ArePaired ks vs
paired_raised ks vs m v ns same is sorted =
    paired_by ks vs (raise_nodes m v ns) same is (raise_nodes-sorted m v ns sorted)

-- new nodes keep the order
pub with_new-sorted : (ns : List Node) (f : Option (ℕ × KeyBytes)) → IsSorted ns → FitsIn ns f →
    IsSorted (with_new ns f)
with_new-sorted ns None sorted fits = sorted
with_new-sorted ns (Some f) sorted fits =
    insert-sorted (node_in_gap f.1 (gap_value (unowned zero_time) ns f.0)) ns f.0 (before []) sorted
    fits.0

-- and so do those before a place, and those from there on
take-sorted : (n : ℕ) (ns : List Node) → IsSorted ns → IsSorted (take n ns)
take-sorted zero ns sorted = tt
take-sorted (suc n) [] sorted = tt
take-sorted (suc n) (o ∷ ns) sorted = (first n ns sorted.0, take-sorted n ns sorted.1)
  where
    first : (j : ℕ) (os : List Node) → Lt (after o.key) (next_cut (node_stretches os)) →
        Lt (after o.key) (next_cut (node_stretches (take j os)))
    first zero os up = refl
    first (suc j) [] up = up
    first (suc j) (p ∷ os) up = up

drop-sorted : (n : ℕ) (ns : List Node) → IsSorted ns → IsSorted (drop n ns)
drop-sorted zero ns sorted = sorted
drop-sorted (suc n) [] sorted = tt
drop-sorted (suc n) (o ∷ ns) sorted = drop-sorted n ns sorted.1

take-same : (n : ℕ) (ks : List KeyBytes) (vs : List Values) → length ks ≡ length vs →
    length (take n ks) ≡ length (take n vs)
take-same zero ks vs same = refl
take-same (suc n) [] [] same = refl
take-same (suc n) [] (v ∷ vs) same = absurd (omega (arith, same))
take-same (suc n) (k ∷ ks) [] same = absurd (omega (arith, same))
take-same (suc n) (k ∷ ks) (v ∷ vs) same =
    omega (arith, take-same n ks vs (omega (arith, same)))

pub paired_take : (n : ℕ) (ks : List KeyBytes) (vs : List Values) → ArePaired ks vs →
    ArePaired (take n ks) (take n vs)
paired_take n ks vs are = record {
  same = take-same n ks vs are.same;
  sorted = subst IsSorted (sym (paired-take n ks vs)) (take-sorted n (paired ks vs) are.sorted);
}

pub paired_drop : (n : ℕ) (ks : List KeyBytes) (vs : List Values) → ArePaired ks vs →
    ArePaired (drop n ks) (drop n vs)
paired_drop n ks vs are = record {
  same = omega (arith, length-drop n ks, length-drop n vs, are.same);
  sorted = subst IsSorted (sym (paired-drop n ks vs are.same))
      (drop-sorted n (paired ks vs) are.sorted);
}

-- one key, with its values
pub paired_single : (ks : List KeyBytes) (vs : List Values) → length ks ≡ 1 → length vs ≡ 1 →
    ArePaired ks vs
paired_single [] vs keys values = absurd (omega (arith, keys))
paired_single (k ∷ []) [] keys values = absurd (omega (arith, values))
paired_single (k ∷ []) (v ∷ []) keys values = record { same = refl; sorted = (refl, tt) }
paired_single (k ∷ []) (v ∷ w ∷ vs) keys values = absurd (omega (arith, values))
paired_single (k ∷ m ∷ ks) vs keys values = absurd (omega (arith, keys))

-- other values, which are those raised
pub raised_pair : (ks ls : List KeyBytes) (vs ws : List Values) (m : SpanView) (v : ValueView) →
    ls ≡ ks → length ls ≡ length ws → paired ls ws ≡ raise_nodes m v (paired ls vs) →
    ArePaired ks vs → ArePaired ks ws
raised_pair ks ls vs ws m v keys same raised are =
    subst (λ (ms : List KeyBytes). ArePaired ms ws) keys
    (paired_raised ls ws m v (paired ls vs) same raised
    (subst (λ (ms : List KeyBytes). IsSorted (paired ms vs)) (sym keys) are.sorted))

-- what holds of a refusal
pub on_err : {T E : Type 0} (r : Result T E) (e : E) (P : Type 0) → r ≡ Err e → OnErr r P → P
on_err {T = T} r e P is p = subst (λ (q : Result T _). OnErr q P) is p

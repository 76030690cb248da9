-- What a search for a key finds: its node, or the place for it.
use Rattle.std.proofs.Common.{◌≡◌, ◌∙◌, refl, sym, ap, subst, true, ℕ, zero, suc, ◌+◌, ◌<◌, ◌≤◌, List, [], ◌∷◌, length, get_or, Result, Ok, Err, arith}
use mathlib.Core.Bool.{true≢false}
use Rattle.std.specs.declared.cmp.Ordering.{Ordering}
use Rattle.std.specs.declared.cmp.Ordering.TheVariants.{Less, Equal, Greater}
use Rattle.std.specs.Ordering.{is_lt, is_le, is_gt, is_eq, ordering_reverse, ordering_then}
use Rattle.std.specs.Prelude.{Some, None, is_err, not}
use Rattle.std.specs.Str.{bytes_eq}
use Rattle.std.proofs.lemmas.Cmp.{nat_list_cmp_total}
use Rattle.std.proofs.lemmas.List.{get_or_default}
use Rattle.std.proofs.lemmas.Map.Text.{is_eq-slice_cmp}
use Rattle.std.proofs.lemmas.Slice.Eq.{bytes_eq-Decides}
use Rattle.std.proofs.Math.Bool.{or-true}
use Rattle.tsc_span.specs.Span.{KeyBytes, key_cmp, Cut, before, after, last}
use Rattle.tsc_page_model.specs.PageView.{is_in}
use Rattle.tsc_span.specs.Prefixes.{IsKeyAt}
use Rattle.tsc_page_nodes.specs.Nodes.{Node, node_keys, IsSorted, FitsAt, HasKeysBelow, StandsAt, FallsAt, IsCutAt, IsFoundAt, IsNewKey}
use Rattle.tsc_span.proofs.CutOrder.{Lt, Le, Le-from_Lt, after-before, below_last}
use Rattle.tsc_page_nodes.proofs.Cuts.{lowest}
use Rattle.tsc_page_nodes.proofs.Edits.{FitsAt-absent}
use Rattle.tsc_page_nodes.proofs.Indices.{sorted_at, some_node, all_smaller, falls_before}

-- a key before another is less
less_from_Lt : (k m : KeyBytes) → Lt (after k) (before m) → key_cmp k m ≡ Less
less_from_Lt k m h = by (key_cmp k m) h
  where
    by : (o : Ordering) → is_lt (ordering_then o Greater) ≡ true → o ≡ Less
    by Less e = refl
    by Equal e = absurd (true≢false (sym e))
    by Greater e = absurd (true≢false (sym e))

pub turned : (k m : KeyBytes) → key_cmp k m ≡ Greater → key_cmp m k ≡ Less
turned k m h = nat_list_cmp_total.antisymm m k ∙ ap ordering_reverse h

-- a key that stands at some place is in the list
is_in_at : (ns : List Node) (i : ℕ) (d : Node) (k : KeyBytes) → i < length ns →
    k ≡ (get_or ns i d).key → is_in k (node_keys ns) ≡ true
is_in_at [] i d k h e = absurd (omega arith)
is_in_at (n ∷ ns) zero d k h e = rw ((bytes_eq-Decides k n.key).1 e) refl
is_in_at (n ∷ ns) (suc i) d k h e =
    rw (is_in_at ns i d k (omega arith) e) (or-true (bytes_eq k n.key))

-- smaller keys below a place and greater ones from there on make room for a key there
fits_from : (ns : List Node) (i : ℕ) (low : Cut) (k : KeyBytes) → i ≤ length ns →
    Le low (before k) → ((j : ℕ) (d : Node) → j < i → Lt (after (get_or ns j d).key) (before k)) →
    ((j : ℕ) (d : Node) → i ≤ j → j < length ns → Lt (after k) (before (get_or ns j d).key)) →
    FitsAt k low ns i
fits_from [] zero low k h up smaller greater = (up, below_last k)
fits_from (n ∷ ns) zero low k h up smaller greater =
    (up, greater zero some_node (omega arith) (omega arith))
fits_from [] (suc i) low k h up smaller greater = absurd (omega arith)
fits_from (n ∷ ns) (suc i) low k h up smaller greater =
    fits_from ns i (after n.key) k (omega arith)
    (Le-from_Lt (after n.key) (before k) (smaller zero some_node (omega arith)))
    (λ j d g. smaller (suc j) d (omega arith))
    (λ j d g l. greater (suc j) d (omega arith) (omega arith))

-- a key that stands somewhere has a node
pub known_at : (ns : List Node) (k : KeyBytes) (i : ℕ) → StandsAt ns k i →
    is_in k (node_keys ns) ≡ true
known_at ns k i at = is_in_at ns i some_node k at.bound (sym (at.key some_node))

-- one that stands nowhere fits where it falls
pub fits_at : (ns : List Node) (k : KeyBytes) (i : ℕ) → FallsAt ns k i → FitsAt k (before []) ns i
fits_at ns k i at = fits_from ns i (before []) k at.low.bound (lowest (before k)) at.low.below
    at.high

-- so a search tells whether a key is new
pub found_reported : (k : KeyBytes) (ns : List Node) (r : Result ℕ ℕ) → IsSorted ns →
    IsFoundAt ns k r → is_err r ≡ not (is_in k (node_keys ns))
found_reported k ns (Ok i) sorted at = rw (known_at ns k i at) refl
found_reported k ns (Err i) sorted at =
    rw (FitsAt-absent k ns i (before []) sorted (fits_at ns k i at)) refl

-- and a copy of a new one is a new key there
pub new_at : (ns : List Node) (k : KeyBytes) (i : ℕ) (copy : KeyBytes) → copy ≡ k → FallsAt ns k i →
    IsNewKey ns (Some k) (Some (i, copy))
new_at ns k i copy same at = (same, fits_at ns k i at, at.low.bound)

-- a key that compares as the same is the same
pub stands_here : (ns : List Node) (k : KeyBytes) (i : ℕ) (e : Node) → i < length ns →
    key_cmp (get_or ns i e).key k ≡ Equal → StandsAt ns k i
stands_here ns k i e inside same = record {
  bound = inside;
  key = λ d. ap (λ (n : Node). n.key) (get_or_default ns i d e inside) ∙
      (bytes_eq-Decides (get_or ns i e).key k).0
      (sym (is_eq-slice_cmp (get_or ns i e).key k) ∙ ap is_eq same);
}

-- a smaller one lies below, with all before it
pub smaller_here : (ns : List Node) → IsSorted ns → (k : KeyBytes) (i : ℕ) (e : Node) →
    i < length ns → key_cmp (get_or ns i e).key k ≡ Less → HasKeysBelow ns k (i + 1)
smaller_here ns sorted k i e inside less =
    all_smaller ns sorted k i e inside (after-before (get_or ns i e).key k less)

-- and a greater one above, with all behind it
pub greater_here : (ns : List Node) → IsSorted ns → (k : KeyBytes) (i : ℕ) (e : Node) →
    HasKeysBelow ns k i → i < length ns → key_cmp (get_or ns i e).key k ≡ Greater → FallsAt ns k i
greater_here ns sorted k i e low inside greater =
    falls_before ns sorted k i e low inside
    (after-before k (get_or ns i e).key (turned (get_or ns i e).key k greater))

-- below one that isn't greater are all before it
pub not_greater_here : (ns : List Node) → IsSorted ns → (k : KeyBytes) (i : ℕ) (e : Node) →
    i < length ns → is_le (key_cmp (get_or ns i e).key k) ≡ true → HasKeysBelow ns k i
not_greater_here ns sorted k i e inside reports = by (key_cmp (get_or ns i e).key k) refl reports
  where
    by : (o : Ordering) → key_cmp (get_or ns i e).key k ≡ o → is_le o ≡ true → HasKeysBelow ns k i
    by Less is t =
        let more = smaller_here ns sorted k i e inside is in
        record { bound = omega (arith, inside); below = λ j d h. more.below j d (omega (arith, h)) }
    by Equal is t =
        let at = stands_here ns k i e inside is in
        record {
          bound = omega (arith, inside);
          below = λ j d h. subst (λ (m : KeyBytes). Lt (after (get_or ns j d).key) (before m))
              (at.key d) (sorted_at ns sorted j i d h inside);
        }
    by Greater is t = absurd (true≢false (sym t))

-- one key in two options
same : (j k : KeyBytes) → Some k ≡ Some j → k ≡ j
same j k h = cc

-- a cut lies where its key is found
pub lies_at_key : (ns : List Node) (c : Cut) (k : KeyBytes) (r : Result ℕ ℕ) → IsKeyAt c (Some k) →
    IsFoundAt ns k r → IsCutAt ns c r
lies_at_key ns (before j) k r h at = subst (λ (m : KeyBytes). IsFoundAt ns m r) (same j k h) at
lies_at_key ns (after j) k r h at = subst (λ (m : KeyBytes). IsFoundAt ns m r) (same j k h) at
lies_at_key ns last k r h at = absurd (clash h)
  where
    clash : Some k ≡ None → ⊥
    clash e = cc

-- and behind all nodes without one
pub lies_behind : (ns : List Node) (c : Cut) (n : ℕ) → IsKeyAt c None → n ≡ length ns →
    IsCutAt ns c (Err n)
lies_behind ns (before k) n h e = absurd (clash h)
  where
    clash : None ≡ Some k → ⊥
    clash g = cc
lies_behind ns (after k) n h e = absurd (clash h)
  where
    clash : None ≡ Some k → ⊥
    clash g = cc
lies_behind ns last n h e = ap Err e

pub is_greater : (o : Ordering) → is_gt o ≡ true → o ≡ Greater
is_greater Less h = absurd (true≢false (sym h))
is_greater Equal h = absurd (true≢false (sym h))
is_greater Greater h = refl

pub is_equal : (o : Ordering) → is_eq o ≡ true → o ≡ Equal
is_equal Less h = absurd (true≢false (sym h))
is_equal Equal h = refl
is_equal Greater h = absurd (true≢false (sym h))

-- and the same key compares so
pub compares_same : (j k : KeyBytes) → j ≡ k → is_eq (key_cmp j k) ≡ true
compares_same j k e = is_eq-slice_cmp j k ∙ (bytes_eq-Decides j k).1 e

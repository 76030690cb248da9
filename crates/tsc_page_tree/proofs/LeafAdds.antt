-- An Add over leaves that change in place, one leaf after another.
use Rattle.std.proofs.Common.{◌≡◌, ◌⊎◌, inl, inr, ◌∙◌, refl, sym, ap, subst, Bool, true, false, cond, ℕ, zero, suc, ◌+◌, ◌≤◌, List, [], ◌∷◌, ◌++◌, length, drop, arith}
use mathlib.Core.Bool.{true≢false}
use Rattle.std.specs.Prelude.{Option, Some, None, is_some, slice_get}
use Rattle.std.specs.Option.{option_to_list}
use Rattle.std.specs.List.{insert}
use Rattle.std.specs.Str.{bytes_eq}
use Rattle.std.specs.declared.cmp.Ordering.{Ordering}
use Rattle.std.specs.declared.cmp.Ordering.TheVariants.{Less, Equal, Greater}
use Rattle.std.specs.Ordering.{is_lt, is_eq, ordering_reverse}
use Rattle.std.proofs.Math.Bool.{or-true}
use Rattle.std.proofs.lemmas.Bool.{cases_Bool}
use Rattle.std.proofs.lemmas.List.{append_assoc, length-append}
use Rattle.std.proofs.lemmas.Map.Text.{is_eq-slice_cmp}
use Rattle.std.proofs.lemmas.Slice.Eq.{bytes_eq-Decides}
use Rattle.tsc_time.specs.Time.{zero_time}
use Rattle.tsc_time.specs.ValueView.{ValueView, unowned}
use Rattle.tsc_span.specs.Span.{KeyBytes, key_cmp, Cut, before, after, last, SpanView, between, end_keys, is_below}
use Rattle.tsc_span.proofs.CutsTotal.{key_cmp_back}
use Rattle.tsc_page_model.specs.PageView.{AreLeafSizes, is_in}
use Rattle.tsc_page_nodes.specs.Nodes.{Node, node_keys, IsSorted, FitsAt, IsNewKey, IsInOrder, IsSplitAt, MakesNodes, AddsNodes, with_new, node_in_gap, gap_value, raise_nodes}
use Rattle.tsc_page_nodes.specs.Insertions.{LiesAt}
use Rattle.tsc_page_tree.specs.Leaves.{nodes_of, leaf_sizes, AreLeaves, AreSome, start_of, AddsTo, key_below}
use Rattle.tsc_span.proofs.CutOrder.{Lt, Le, Lt-or_Le, Lt-not_Le, Le-chain, Le-from_Lt, Lt-from_Le_sides, none_above_last, before-after}
use Rattle.tsc_page_nodes.proofs.Edits.{raise_nodes-length, raise_nodes-sorted}
use Rattle.tsc_page_nodes.proofs.NewKeys.{with_new_splits, with_new-length, new_fits, still_new, splits_chain, makes_sorted}
use Rattle.tsc_page_tree.proofs.Joins.{sorted_left, sorted_right, raises_left, raises_right, up_to_last}
use Rattle.tsc_page_tree.proofs.LeafLists.{lowest_below}
use Rattle.tsc_page_tree.proofs.LeafKeys.{wholly_below, is_in-append, shift, shift_bound, insert_left, insert_right, gap_value_left, gap_value_right, fits_left, fits_right}

pub same_some : (k m : KeyBytes) → Some k ≡ Some m → k ≡ m
same_some k m e = cc

-- nodes that begin no higher than after a key begin no higher than before it
no_higher : (ns : List Node) (k : KeyBytes) → Le (start_of ns) (after k) →
    Le (start_of ns) (before k)
no_higher ns k h = elim (Lt-or_Le (before k) (start_of ns))
    [ inl g ↦ absurd (Lt-not_Le (after k) (start_of ns) (wholly_below k ns g) h) | inr g ↦ g ]

same_key : (k m : KeyBytes) → Le (before k) (before m) → Le (before m) (before k) → k ≡ m
same_key k m one two = by (key_cmp m k) (key_cmp k m) refl (key_cmp_back m k) one two
  where
    by : (back forth : Ordering) → key_cmp m k ≡ back → forth ≡ ordering_reverse back →
        is_lt back ≡ false → is_lt forth ≡ false → k ≡ m
    by Less forth e r h g = absurd (true≢false h)
    by Equal forth e r h g = sym ((bytes_eq-Decides m k).0 (sym (is_eq-slice_cmp m k) ∙ ap is_eq e))
    by Greater forth e r h g = absurd (true≢false (sym (ap is_lt r) ∙ g))

-- an end key that doesn't lie below the nodes behind is the first of them
pub known_low : (ys : List Node) (f : Cut) (o : Option KeyBytes) → Lt f (start_of ys) → LiesAt o f →
    (k : KeyBytes) → o ≡ Some k → Lt (after k) (start_of ys)
known_low ys f None start lies k e = absurd (none e)
  where
    none : None ≡ Some k → ⊥
    none h = cc
known_low ys f (Some m) start (inl at) k e =
    subst (λ (q : KeyBytes). Lt (after q) (start_of ys)) (same_some m k e)
    (wholly_below m ys (subst (λ (c : Cut). Lt c (start_of ys)) at start))
known_low ys f (Some m) start (inr at) k e =
    subst (λ (q : KeyBytes). Lt (after q) (start_of ys)) (same_some m k e)
    (subst (λ (c : Cut). Lt c (start_of ys)) at start)

pub known_high : (ys : List Node) (t : Cut) (k : KeyBytes) → Le t (start_of ys) →
    (t ≡ before k) ⊎ (t ≡ after k) → is_below (after k) (start_of ys) ≡ false →
    is_in k (node_keys ys) ≡ true
known_high [] t k high at h = absurd (true≢false h)
known_high (m ∷ ys) t k high (inl e) h =
    rw ((bytes_eq-Decides k m.key).1
    (same_key k m.key (subst (λ (c : Cut). Le c (before m.key)) e high)
    (no_higher (m ∷ ys) k h))) refl
known_high (m ∷ ys) t k high (inr e) h =
    absurd (Lt-not_Le (after k) (before m.key)
    (Lt-from_Le_sides k m.key (subst (λ (c : Cut). Le c (before m.key)) e high)) h)

pub order_below : (c : Cut) (o p : Option KeyBytes) → IsInOrder o p →
    IsInOrder (key_below c o) (key_below c p)
order_below c None p h = tt
order_below c (Some k) None h = by (is_below (after k) c)
  where
    by : (b : Bool) → IsInOrder (cond b (Some k) None) None
    by true = tt
    by false = tt
order_below c (Some k) (Some m) h = by (is_below (after k) c) (is_below (after m) c)
  where
    by : (a b : Bool) → IsInOrder (cond a (Some k) None) (cond b (Some m) None)
    by true true = h
    by true false = tt
    by false b = tt

-- A new key in the first of two lists is new in both, in the same place.
module _ (l ys : List Node) where
  pub new_left : (o : Option KeyBytes) (g : Option (ℕ × KeyBytes)) →
      ((k : KeyBytes) → o ≡ Some k → Lt (after k) (start_of ys)) → IsNewKey l o g →
      IsNewKey (l ++ ys) o g × (with_new (l ++ ys) g ≡ with_new l g ++ ys)
  new_left None None high new = (tt, refl)
  new_left None (Some f) high new = absurd new
  new_left (Some k) None high new = (is_in-append k l ys ∙ rw new refl, refl)
  new_left (Some k) (Some f) high new =
      let v = gap_value (unowned zero_time) (l ++ ys) f.0 in (
        (
          new.0,
          fits_left k (before []) l ys f.0 new.2 (high k refl) new.1,
          omega (arith, length-append l ys, new.2),
        ),
        ap (λ (w : ValueView). insert (l ++ ys) f.0 (node_in_gap f.1 w))
            (gap_value_left (unowned zero_time) l ys f.0 new.2) ∙
            insert_left l ys f.0 (node_in_gap f.1 (gap_value (unowned zero_time) l f.0)) new.2,
      )

  -- also where one that lies in the second list is known there
  pub new_below : (o : Option KeyBytes) (g : Option (ℕ × KeyBytes)) →
      ((k : KeyBytes) → o ≡ Some k → is_below (after k) (start_of ys) ≡ false →
      is_in k (node_keys ys) ≡ true) → IsNewKey l (key_below (start_of ys) o) g
      → IsNewKey (l ++ ys) o g × (with_new (l ++ ys) g ≡ with_new l g ++ ys)
  new_below None g known new = new_left None g (λ k e. absurd (none k e)) new
    where
      none : (k : KeyBytes) → None ≡ Some k → ⊥
      none k h = cc
  new_below (Some k) g known new = by (cases_Bool (is_below (after k) (start_of ys))) g new
    where
      by : (is_below (after k) (start_of ys) ≡ true) ⊎ (is_below (after k) (start_of ys) ≡ false) →
          (f : Option (ℕ × KeyBytes)) → IsNewKey l (key_below (start_of ys) (Some k)) f →
          IsNewKey (l ++ ys) (Some k) f × (with_new (l ++ ys) f ≡ with_new l f ++ ys)
      by (inl h) f is = new_left (Some k) f
          (λ m e. subst (λ (q : KeyBytes). Lt (after q) (start_of ys)) (same_some k m e) h)
          (rw h at is)
      by (inr h) None is = (
        is_in-append k l ys ∙
            rw (known k refl h) (or-true (is_in k (node_keys l))),
        refl,
      )
      by (inr h) (Some f) is = absurd (rw h at is)

-- the place of a new key after as many nodes more
abbrev pub shifted : List Node → Option (ℕ × KeyBytes) → Option (ℕ × KeyBytes)
shifted xs None = None
shifted xs (Some f) = Some (shift xs f.0, f.1)

-- A new key in the second of two lists is new in both.
pub new_right : (xs ys : List Node) (o : Option KeyBytes) (g : Option (ℕ × KeyBytes)) →
    1 ≤ length ys → ((k : KeyBytes) → o ≡ Some k → (xs ≡ []) ⊎ Le (start_of ys) (before k)) →
    IsNewKey ys o g
    → IsNewKey (xs ++ ys) o (shifted xs g) ×
    (with_new (xs ++ ys) (shifted xs g) ≡ xs ++ with_new ys g)
new_right xs ys None None some low new = (tt, refl)
new_right xs ys None (Some f) some low new = absurd new
new_right xs ys (Some k) None some low new =
    (is_in-append k xs ys ∙ rw new (or-true (is_in k (node_keys xs))), refl)
new_right xs ys (Some k) (Some f) some low new = elim (low k refl) [
  | inl none ↦ subst (λ (zs : List Node). IsNewKey (zs ++ ys) (Some k) (shifted zs (Some f)) ×
      (with_new (zs ++ ys) (shifted zs (Some f)) ≡ zs ++ with_new ys (Some f))) (sym none)
      (new, refl)
  | inr high ↦ by ys f.0 some high new
]
  where
    by : (zs : List Node) (i : ℕ) → 1 ≤ length zs → Le (start_of zs) (before k) →
        IsNewKey zs (Some k) (Some (i, f.1)) →
        IsNewKey (xs ++ zs) (Some k) (Some (shift xs i, f.1)) ×
        (with_new (xs ++ zs) (Some (shift xs i, f.1)) ≡ xs ++ with_new zs (Some (i, f.1)))
    by [] i much high is = absurd (omega (arith, much))
    by (n ∷ ns) zero much high is =
        absurd (Lt-not_Le (after k) (before n.key) is.1.1
        (Le-chain (before n.key) (before k) (after k) high
        (Le-from_Lt (before k) (after k) (before-after k))))
    by (n ∷ ns) (suc i) much high is = (
      (
        is.0,
        fits_right k (before []) (before []) xs n ns i is.1,
        shift_bound xs (n ∷ ns) (suc i) is.2,
      ),
      ap (λ (w : ValueView). insert (xs ++ n ∷ ns) (shift xs (suc i)) (node_in_gap f.1 w))
          (gap_value_right (unowned zero_time) (unowned zero_time) xs n ns i)
          ∙ insert_right xs (n ∷ ns) (suc i)
          (node_in_gap f.1 (gap_value (unowned zero_time) (n ∷ ns) (suc i))),
    )

-- nodes with a key that is not below them begin where they did
pub start_with : (ys : List Node) (o : Option KeyBytes) (g : Option (ℕ × KeyBytes)) →
    ((k : KeyBytes) → o ≡ Some k → Le (start_of ys) (before k)) → 1 ≤ length ys → IsNewKey ys o g →
    start_of (with_new ys g) ≡ start_of ys
start_with ys None None low some new = refl
start_with ys None (Some f) low some new = absurd new
start_with ys (Some k) None low some new = refl
start_with ys (Some k) (Some f) low some new = by ys f.0 some (low k refl) new.1
  where
    by : (zs : List Node) (i : ℕ) → 1 ≤ length zs → Le (start_of zs) (before k) →
        FitsAt k (before []) zs i →
        start_of (insert zs i (node_in_gap f.1 (gap_value (unowned zero_time) zs i))) ≡ start_of zs
    by [] i much high fits = absurd (omega (arith, much))
    by (n ∷ ns) zero much high fits =
        absurd (Lt-not_Le (after k) (before n.key) fits.1
        (Le-chain (before n.key) (before k) (after k) high
        (Le-from_Lt (before k) (after k) (before-after k))))
    by (n ∷ ns) (suc i) much high fits = refl

-- a key at a cut that is not below where nodes begin, and is not below them itself
pub low_end : (c : Cut) (o : Option KeyBytes) (ys : List Node) → Le (start_of ys) c → LiesAt o c →
    (k : KeyBytes) → o ≡ Some k → Le (start_of ys) (before k)
low_end c None ys low lies k e = absurd (none e)
  where
    none : None ≡ Some k → ⊥
    none h = cc
low_end c (Some m) ys low (inl at) k e =
    subst (λ (q : KeyBytes). Le (start_of ys) (before q)) (same_some m k e)
    (subst (Le (start_of ys)) at low)
low_end c (Some m) ys low (inr at) k e =
    subst (λ (q : KeyBytes). Le (start_of ys) (before q)) (same_some m k e)
    (no_higher ys m (subst (Le (start_of ys)) at low))

-- An Add that stops in the first of two lists, or where the second begins.
pub adds_left : (l ys new : List Node) (f t : Cut) (v : ValueView) (o q : Option KeyBytes)
    (h g : Option (ℕ × KeyBytes)) → IsSorted (l ++ ys) → Lt f t → Lt f (start_of ys) →
    Le t (start_of ys) → LiesAt o f → LiesAt q t → IsInOrder o q
    → IsNewKey l (key_below (start_of ys) o) h → IsNewKey l (key_below (start_of ys) q) g →
    new ≡ raise_nodes (between f t) v (with_new (with_new l g) h) →
    AddsNodes (l ++ ys) (new ++ ys) o q (between f t) v
adds_left l ys new f t v o q h g sorted up low high first second order has_lower has_upper is =
    let lower = new_below l ys o h
    (λ k e z. absurd (true≢false (sym (known_low ys f o low first k e) ∙ z))) has_lower in
    let upper = new_below l ys q g (known q second) has_upper in
    let once = with_new_splits (l ++ ys) q g sorted upper.0 in
    let still = still_new l (key_below (start_of ys) o) (key_below (start_of ys) q) h g
    (sorted_left l ys sorted) (order_below (start_of ys) o q order) has_lower has_upper in
    let both = new_below (with_new l g) ys o h
    (λ k e z. absurd (true≢false (sym (known_low ys f o low first k e) ∙ z))) still in
    let made : MakesNodes (l ++ ys) (with_new (with_new l g) h ++ ys) o q = record {
      lower = h;
      upper = g;
      has_upper = upper.0;
      has_lower = lower.0;
      nodes = sym (ap (λ (ns : List Node). with_new ns h) upper.1 ∙ both.1);
    } in
    record {
      mid = with_new (with_new l g) h ++ ys;
      made = made;
      raised = ap (λ (ns : List Node). ns ++ ys) is ∙
          sym (raises_left f t up ys high v (with_new (with_new l g) h)
          (makes_sorted (l ++ ys) (with_new (with_new l g) h ++ ys) o q sorted order made));
    }
  where
    known : (p : Option KeyBytes) → LiesAt p t → (k : KeyBytes) → p ≡ Some k →
        is_below (after k) (start_of ys) ≡ false → is_in k (node_keys ys) ≡ true
    known None lies k e z = absurd (none e)
      where
        none : None ≡ Some k → ⊥
        none w = cc
    known (Some m) lies k e z = known_high ys t k high
        (subst (λ (x : KeyBytes). (t ≡ before x) ⊎ (t ≡ after x)) (same_some m k e) lies) z

-- and the first key of one that begins before them is
pub all_below : (ys : List Node) (f : Cut) (o : Option KeyBytes) → Lt f (start_of ys) → LiesAt o f →
    key_below (start_of ys) o ≡ o
all_below ys f None low lies = refl
all_below ys f (Some k) low lies = rw (known_low ys f (Some k) low lies k refl) refl

-- An Add that begins in the second of two lists, or anywhere where that is all.
pub adds_right : (xs ys ys' : List Node) (f t : Cut) (v : ValueView) (o q : Option KeyBytes) →
    IsSorted (xs ++ ys) → Lt f t → (xs ≡ []) ⊎ Le (start_of ys) f → LiesAt o f → LiesAt q t →
    IsInOrder o q
    → AddsNodes ys ys' o q (between f t) v → AddsNodes (xs ++ ys) (xs ++ ys') o q (between f t) v
adds_right xs ys ys' f t v o q sorted up low first second order adds = elim low [
  | inl none ↦ subst (λ (zs : List Node). AddsNodes (zs ++ ys) (zs ++ ys') o q (between f t) v)
      (sym none) adds
  | inr high ↦
      let some : 1 ≤ length ys = nonempty ys high in
      let u = adds.made.upper in
      let h = adds.made.lower in
      let o_low = low_end f o ys high first in
      let q_low = low_end t q ys (Le-chain (start_of ys) f t high (Le-from_Lt f t up)) second in
      let upper = new_right xs ys q u some (λ k e. inr (q_low k e)) adds.made.has_upper in
      let lower = new_right xs ys o h some (λ k e. inr (o_low k e)) adds.made.has_lower in
      let starts : start_of (with_new ys u) ≡ start_of ys =
      start_with ys q u q_low some adds.made.has_upper in
      let still = still_new ys o q h u (sorted_right xs ys sorted) order adds.made.has_lower
      adds.made.has_upper in
      let more : 1 ≤ length (with_new ys u) =
      omega (arith, some, with_new-length ys u (new_fits ys q u adds.made.has_upper)) in
      let both = new_right xs (with_new ys u) o h more
      (λ k e. inr (subst (λ (c : Cut). Le c (before k)) (sym starts) (o_low k e))) still in
      let made : MakesNodes (xs ++ ys) (xs ++ adds.mid) o q = record {
        lower = shifted xs h;
        upper = shifted xs u;
        has_upper = upper.0;
        has_lower = lower.0;
        nodes = ap (λ (ns : List Node). xs ++ ns) adds.made.nodes ∙
            sym (ap (λ (ns : List Node). with_new ns (shifted xs h)) upper.1 ∙ both.1);
      } in
      let start_mid : start_of adds.mid ≡ start_of ys =
      ap (λ (ns : List Node). start_of ns) adds.made.nodes ∙
      start_with (with_new ys u) o h
      (λ k e. subst (λ (c : Cut). Le c (before k)) (sym starts) (o_low k e)) more still ∙
      starts in
      record {
        mid = xs ++ adds.mid;
        made = made;
        raised = ap (λ (ns : List Node). xs ++ ns) adds.raised ∙
            sym (raises_right f t adds.mid (subst (λ (c : Cut). Le c f) (sym start_mid) high) v xs
            (makes_sorted (xs ++ ys) (xs ++ adds.mid) o q sorted order made));
      }
]
  where
    nonempty : (ns : List Node) → Le (start_of ns) f → 1 ≤ length ns
    nonempty [] z = absurd (Lt-not_Le f last (up_to_last f t up) z)
    nonempty (n ∷ ns) z = omega arith

-- how many nodes an Add makes
pub adds_few : (old new : List Node) (o q : Option KeyBytes) (s : SpanView) (v : ValueView) →
    IsSorted old → IsInOrder o q → AddsNodes old new o q s v → (length new ≤ length old + 2) ×
    (length old ≤ length new)
adds_few old new o q s v sorted order adds =
    let one = with_new-length old adds.made.upper
    (new_fits old q adds.made.upper adds.made.has_upper) in
    let still = still_new old o q adds.made.lower adds.made.upper sorted order adds.made.has_lower
    adds.made.has_upper in
    let two = with_new-length (with_new old adds.made.upper) adds.made.lower
    (new_fits (with_new old adds.made.upper) o adds.made.lower still) in
    let same = ap length adds.raised ∙ raise_nodes-length s v adds.mid ∙
    ap length adds.made.nodes in
    let bits = λ (b : Bool). bit b in (
      omega (arith, one, two, same, bits (is_some adds.made.upper), bits (is_some adds.made.lower)),
      omega (arith, one, two, same),
    )
  where
    bit : (b : Bool) → cond b 1 0 ≤ 1
    bit true = omega arith
    bit false = omega arith

-- what an Add makes of nodes, by the span's end keys
pub adds_to : (old new : List Node) (o q : Option KeyBytes) (s : SpanView) (v : ValueView) →
    IsSorted old → IsInOrder o q → option_to_list o ++ option_to_list q ≡ end_keys s →
    AddsNodes old new o q s v → AddsTo old new s v × IsSorted new
adds_to old new o q s v sorted order keys adds =
    let once = with_new_splits old q adds.made.upper sorted adds.made.has_upper in
    let twice = with_new_splits (with_new old adds.made.upper) o adds.made.lower once.sorted
    (still_new old o q adds.made.lower adds.made.upper sorted order adds.made.has_lower
    adds.made.has_upper) in
    let both = splits_chain old (with_new old adds.made.upper)
    (with_new (with_new old adds.made.upper) adds.made.lower) (option_to_list q)
    (option_to_list o) once twice in
    let split = subst (λ ks. IsSplitAt old adds.mid ks) keys
    (subst (λ (ns : List Node). IsSplitAt old ns (option_to_list o ++ option_to_list q))
    (sym adds.made.nodes) both) in (
      record { mid = adds.mid; split = split; raised = adds.raised },
      subst IsSorted (sym adds.raised) (raise_nodes-sorted s v adds.mid split.sorted),
    )

-- leaves in a row
pub nodes_append : (ls ms : List (List Node)) → nodes_of (ls ++ ms) ≡ nodes_of ls ++ nodes_of ms
nodes_append [] ms = refl
nodes_append (l ∷ ls) ms = ap (λ (ns : List Node). l ++ ns) (nodes_append ls ms) ∙
    sym (append_assoc l (nodes_of ls) (nodes_of ms))

-- where the keys of a span lie
pub ends_lie : (f t : Cut) → Lt f t → LiesAt (slice_get (end_keys (between f t)) 0) f ×
    LiesAt (slice_get (end_keys (between f t)) 1) t
ends_lie (before k) last up = (inl refl, tt)
ends_lie (after k) last up = (inr refl, tt)
ends_lie (before k) (before m) up =
    elim (cases_Bool (bytes_eq k m))
    [ inl h ↦ rw h (inl refl, tt) | inr h ↦ rw h (inl refl, inl refl) ]
ends_lie (before k) (after m) up =
    elim (cases_Bool (bytes_eq k m))
    [ inl h ↦ rw h (inl refl, tt) | inr h ↦ rw h (inl refl, inr refl) ]
ends_lie (after k) (before m) up =
    elim (cases_Bool (bytes_eq k m))
    [ inl h ↦ rw h (inr refl, tt) | inr h ↦ rw h (inr refl, inl refl) ]
ends_lie (after k) (after m) up = elim (cases_Bool (bytes_eq k m))
    [ inl h ↦ rw h (inr refl, tt) | inr h ↦ rw h (inr refl, inr refl) ]
ends_lie last t up = absurd (Lt-not_Le last t up (none_above_last t))

no_key : (b : Bool) (q : Option KeyBytes) → q ≡ None → q ≡ cond b q None
no_key true q none = refl
no_key false q none = none

-- a key at a cut is wholly below nodes where the cut is
pub reported_below : (ys : List Node) (t : Cut) (q : Option KeyBytes) → LiesAt q t →
    key_below (start_of ys) q ≡ cond (is_below t (start_of ys)) q None
reported_below ys t None lies = no_key (is_below t (start_of ys)) None refl
reported_below ys t (Some k) (inl at) =
    ap (λ (b : Bool). cond b (Some k) None)
    (same ∙ ap (λ (c : Cut). is_below c (start_of ys)) (sym at))
  where
    same : is_below (after k) (start_of ys) ≡ is_below (before k) (start_of ys)
    same = elim (cases_Bool (is_below (before k) (start_of ys))) [
      | inl h ↦ wholly_below k ys h ∙ sym h
      | inr h ↦ Le-chain (start_of ys) (before k) (after k) h
          (Le-from_Lt (before k) (after k) (before-after k)) ∙ sym h
    ]
reported_below ys t (Some k) (inr at) =
    ap (λ (c : Cut). cond (is_below c (start_of ys)) (Some k) None) (sym at)

pub some_leaves : (ls : List (List Node)) → AreLeafSizes (leaf_sizes ls) → AreSome ls
some_leaves [] sizes = tt
some_leaves (l ∷ ls) sizes = (sizes.0, some_leaves ls sizes.2)

-- the leaves behind the first one, where a span goes on to them
pub behind : (leaf : List Node) (ms : List (List Node)) → AreLeaves (leaf ∷ ms) →
    AreLeaves ms × Lt (before []) (start_of (nodes_of (drop 1 ms)))
behind leaf ms leaves = (
  record { sizes = leaves.sizes.2; sorted = sorted_right leaf (nodes_of ms) leaves.sorted },
  lowest_below (leaf ∷ ms) (some_leaves (leaf ∷ ms) leaves.sizes) leaves.sorted 1,
)

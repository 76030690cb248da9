-- Nodes in which the keys of some places are raised, and the gaps of some.
use Rattle.std.proofs.Common.{◌≡◌, inl, inr, ◌∙◌, refl, sym, ap, subst, Bool, true, false, cond, ℕ, zero, suc, ◌+◌, ◌<◌, ◌≤◌, List, [], ◌∷◌, length, get_or, set, arith}
use Rattle.std.proofs.lemmas.List.{get_or_default, get_or-set_same, get_or-set_other, length-set, same_lists}
use Rattle.tsc_time.specs.ValueView.{ValueView}
use Rattle.tsc_time.specs.Joint.{joint}
use Rattle.tsc_span.specs.Span.{SpanView, overlaps}
use Rattle.tsc_page_nodes.specs.Nodes.{Node, key_span, gap_span, raise_nodes, HoldsKeysOn, HoldsGapsOn}
use Rattle.tsc_page_nodes.proofs.Edits.{raise_nodes-length}
use Rattle.tsc_page_nodes.proofs.Indices.{before_or_past}

-- a node with its key's value raised
abbrev pub key_raised : ValueView → Node → Node
key_raised v n = record { key = n.key; value = joint n.value (v ∷ []); gap = n.gap }

abbrev pub gap_raised : ValueView → Node → Node
gap_raised v n = record { key = n.key; value = n.value; gap = joint n.gap (v ∷ []) }

-- the places from first up to i are changed, and no other
pub record ChangesIndices (change : Node → Node) (old new : List Node) (first i : ℕ) : Type 0 where
  pub as_long : length new ≡ length old
  pub changed : (j : ℕ) (d : Node) → first ≤ j → j < i → j < length old →
      get_or new j d ≡ change (get_or old j d)
  pub below : (j : ℕ) (d : Node) → j < first → get_or new j d ≡ get_or old j d
  pub above : (j : ℕ) (d : Node) → i ≤ j → get_or new j d ≡ get_or old j d

pub none_changed : (change : Node → Node) (ns : List Node) (first : ℕ) →
    ChangesIndices change ns ns first first
none_changed change ns first = record {
  as_long = refl;
  changed = λ j d h g l. absurd (omega (arith, h, g));
  below = λ j d h. refl;
  above =
      λ j d h. refl;
}

-- one more place is changed
pub one_changed : (change : Node → Node) (old now : List Node) (first i : ℕ) (n d : Node) →
    first ≤ i → i < length old → n ≡ change (get_or now i d) →
    ChangesIndices change old now first i → ChangesIndices change old (set now i n) first (i + 1)
one_changed change old now first i n d low within is so_far = record {
  as_long = length-set now i n ∙ so_far.as_long;
  changed = λ j e h g l. elim (before_or_past j i) [
    | inl k ↦ get_or-set_other now i j n e (λ q. omega (arith, k, q)) ∙ so_far.changed j e h k l
    | inr k ↦
        let here : j ≡ i = omega (arith, g) in
        let at_i : get_or now i e ≡ get_or old i e = so_far.above i e (omega arith) in
        let in_now : i < length now = omega (arith, so_far.as_long) in
        subst (λ (q : ℕ). get_or (set now i n) q e ≡ change (get_or old q e)) (sym here)
        (get_or-set_same now i n e in_now ∙ is ∙
        ap change (get_or_default now i d e in_now ∙ at_i))
  ];
  below = λ j e h. get_or-set_other now i j n e (λ q. omega (arith, h, q)) ∙ so_far.below j e h;
  above = λ j e h. get_or-set_other now i j n e (λ q. omega (arith, h, q)) ∙
      so_far.above j e (omega (arith, h));
}

raise_nodes-at : (m : SpanView) (v : ValueView) (ns : List Node) (j : ℕ) (d : Node) → j < length ns
    → get_or (raise_nodes m v ns) j d ≡ record {
      key = (get_or ns j d).key;
      value = cond (overlaps (key_span (get_or ns j d)) m) (joint (get_or ns j d).value (v ∷ []))
          (get_or ns j d).value;
      gap = cond (overlaps (gap_span ns j (get_or ns j d)) m) (joint (get_or ns j d).gap (v ∷ []))
          (get_or ns j d).gap;
    }
raise_nodes-at m v [] j d h = absurd (omega arith)
raise_nodes-at m v (n ∷ ns) zero d h = refl
raise_nodes-at m v (n ∷ ns) (suc j) d h = raise_nodes-at m v ns j d (omega arith)

-- a place that is changed where a test says so
changed_where : (change : Node → Node) (old new : List Node) (first past j : ℕ) (d : Node)
    (b : Bool) → ChangesIndices change old new first past → j < length old
    → (first ≤ j → j < past → b ≡ true) → (j < first → b ≡ false) → (past ≤ j → b ≡ false) →
    get_or new j d ≡ cond b (change (get_or old j d)) (get_or old j d)
changed_where change old new first past j d b changes h within below above =
    elim (before_or_past j first) [
      | inl l ↦ rw (below l) (changes.below j d l)
      | inr l ↦ elim (before_or_past j past) [
        | inl k ↦ rw (within l k) (changes.changed j d l k h)
        | inr k ↦ rw (above k) (changes.above j d k)
      ]
    ]

-- where the keys that overlap a span are raised, and then the gaps, the nodes are raised
pub both_changed : (s : SpanView) (v : ValueView) (old mid new : List Node)
    (first past start end : ℕ) → HoldsKeysOn old s first past → HoldsGapsOn old s start end →
    ChangesIndices (key_raised v) old mid first past →
    ChangesIndices (gap_raised v) mid new start end → new ≡ raise_nodes s v old
both_changed s v old mid new first past start end keys gaps keys_changed gaps_changed =
    same_lists new (raise_nodes s v old)
    (gaps_changed.as_long ∙ keys_changed.as_long ∙ sym (raise_nodes-length s v old)) at
  where
    joined : (n : Node) (k g : Bool) →
        cond g (gap_raised v (cond k (key_raised v n) n)) (cond k (key_raised v n) n) ≡
        record {
          key = n.key;
          value = cond k (joint n.value (v ∷ [])) n.value;
          gap = cond g (joint n.gap (v ∷ [])) n.gap;
        }
    joined n true true = refl
    joined n true false = refl
    joined n false true = refl
    joined n false false = refl

    at : (j : ℕ) (d : Node) → j < length new → get_or new j d ≡ get_or (raise_nodes s v old) j d
    at j d h =
        let within : j < length old =
        omega (arith, h, gaps_changed.as_long, keys_changed.as_long) in
        let in_mid : j < length mid = omega (arith, h, gaps_changed.as_long) in
        let n : Node = get_or old j d in
        let k : Bool = overlaps (key_span n) s in
        let g : Bool = overlaps (gap_span old j n) s in
        let mid_is : get_or mid j d ≡ cond k (key_raised v n) n =
        changed_where (key_raised v) old mid first past j d k keys_changed within
        (λ l q. keys.within j d l q) (λ l. keys.below j d l) (λ l. keys.above j d l within) in
        let new_is : get_or new j d ≡ cond g (gap_raised v (get_or mid j d)) (get_or mid j d) =
        changed_where (gap_raised v) mid new start end j d g gaps_changed in_mid
        (λ l q. gaps.within j d l q) (λ l. gaps.below j d l) (λ l. gaps.above j d l within) in
        new_is ∙ ap (λ (x : Node). cond g (gap_raised v x) x) mid_is ∙ joined n k g ∙
        sym (raise_nodes-at s v old j d within)

-- of equal parts the same is made
pub with_both : {A B C : Type 0} (f : A → B → C) {a b : A} {x y : B} → a ≡ b → x ≡ y → f a x ≡ f b y
with_both f {a} {b} {x} {y} p q = ap (λ c. f c x) p ∙ ap (f b) q

-- The cuts of nodes: a span whose end keys are nodes goes over no stretch.
use Rattle.std.proofs.Common.{◌≡◌, ◌⊎◌, inl, inr, ◌∙◌, refl, sym, ap, subst, true, false, cond, List, [], ◌∷◌}
use mathlib.Core.Bool.{true≢false}
use Rattle.std.specs.Str.{bytes_eq}
use Rattle.std.proofs.lemmas.Slice.Eq.{bytes_eq-Decides}
use Rattle.tsc_time.specs.Time.{zero_time}
use Rattle.tsc_time.specs.ValueView.{ValueView, unowned}
use Rattle.tsc_time.specs.Joint.{joint, joint_above}
use Rattle.std.proofs.lemmas.Bool.{cases_Bool}
use Rattle.tsc_span.specs.Span.{KeyBytes, Cut, before, after, last, SpanView, between, overlaps}
use Rattle.tsc_page_model.specs.PageView.{is_in}
use Rattle.tsc_page_nodes.specs.Nodes.{Node, Stretch, next_cut, node_stretches, stretches, below_nodes, node_keys, IsSorted, raised, raise, raise_nodes, answer_of}
use Rattle.tsc_span.proofs.CutOrder.{Le, Lt-not_Le, Le-chain, Le-from_Lt, Le-itself, before-after, overlaps-reports}
use Rattle.tsc_page_nodes.proofs.Answers.{values_over-is, answer_over}
use Rattle.tsc_page_nodes.proofs.Raises.{Parts, last_parts, raise_answers}

-- the place before the empty key is the lowest
pub lowest : (c : Cut) → Le (before []) c
lowest (before []) = refl
lowest (before (b ∷ bs)) = refl
lowest (after []) = refl
lowest (after (b ∷ bs)) = refl
lowest last = refl

-- each stretch begins where the next one does or below it
pub Rising : List Stretch → Type 0
Rising [] = Unit {0}
Rising (x ∷ xs) = Le x.from (next_cut xs) × Rising xs

-- a stretch begins at the cut
abbrev pub HasCut : Cut → List Stretch → Type 0
HasCut c [] = ⊥
HasCut c (x ∷ xs) = (x.from ≡ c) ⊎ HasCut c xs

pub rising_nodes : (ns : List Node) → IsSorted ns → Rising (node_stretches ns)
unfolding Rising
rising_nodes [] sorted = tt
rising_nodes (n ∷ ns) sorted = (
  Le-from_Lt (before n.key) (after n.key) (before-after n.key),
  (Le-from_Lt (after n.key) (next_cut (node_stretches ns)) sorted.0, rising_nodes ns sorted.1),
)

-- the first cut is no higher than any
pub first_low : (c : Cut) (xs : List Stretch) → Rising xs → HasCut c xs → Le (next_cut xs) c
unfolding Rising
first_low c [] up has = absurd has
first_low c (x ∷ xs) up (inl e) = rw e (Le-itself c)
first_low c (x ∷ xs) up (inr has) = Le-chain x.from (next_cut xs) c up.0 (first_low c xs up.1 has)

all_above : (c : Cut) (xs : List Stretch) → Rising xs → Le c (next_cut xs) → Parts c xs
unfolding Rising
all_above c [] up low = tt
all_above c (x ∷ xs) up low = (
  inl low,
  all_above c xs up.1 (Le-chain c x.from (next_cut xs) low up.0),
)

parts_at : (c : Cut) (xs : List Stretch) → Rising xs → HasCut c xs → Parts c xs
unfolding Rising
parts_at c [] up has = absurd has
parts_at c (x ∷ xs) up (inl e) = (inl (rw e (Le-itself c)), all_above c xs up.1 (rw (← e) up.0))
parts_at c (x ∷ xs) up (inr has) = (inr (first_low c xs up.1 has), parts_at c xs up.1 has)

-- a node's key has two cuts
pub cuts_of_key : (k : KeyBytes) (ns : List Node) → is_in k (node_keys ns) ≡ true →
    HasCut (before k) (node_stretches ns) × HasCut (after k) (node_stretches ns)
cuts_of_key k [] h = absurd (true≢false (sym h))
cuts_of_key k (n ∷ ns) h = by (cases_Bool (bytes_eq k n.key)) (λ g. cuts_of_key k ns g)
  where
    by : (bytes_eq k n.key ≡ true) ⊎ (bytes_eq k n.key ≡ false) →
        (is_in k (node_keys ns) ≡ true → HasCut (before k) (node_stretches ns) ×
        HasCut (after k) (node_stretches ns)) → HasCut (before k) (node_stretches (n ∷ ns)) ×
        HasCut (after k) (node_stretches (n ∷ ns))
    by (inl e) rest = let same : n.key ≡ k =
        sym ((bytes_eq-Decides k n.key).0 e) in (inl (ap before same), inr (inl (ap after same)))
    by (inr e) rest = let r = rest (rw e at h) in (inr (inr r.0), inr (inr r.1))

-- raising moves no cut of the nodes: they begin where they did
pub raise_nodes-start : (m : SpanView) (v : ValueView) (ns : List Node) →
    next_cut (node_stretches (raise_nodes m v ns)) ≡ next_cut (node_stretches ns)
raise_nodes-start m v [] = refl
raise_nodes-start m v (n ∷ ns) = refl

raise_nodes-stretches : (m : SpanView) (v : ValueView) (ns : List Node) →
    raise m v (node_stretches ns) ≡ node_stretches (raise_nodes m v ns)
raise_nodes-stretches m v [] = refl
raise_nodes-stretches m v (n ∷ ns) =
    ap (λ (xs : List Stretch). record {
      from = before n.key;
      value = raised m v (record { from = before n.key; value = n.value }) (after n.key);
    } ∷
    record {
      from = after n.key;
      value = raised m v (record { from = after n.key; value = n.gap })
          (next_cut (node_stretches ns));
    } ∷ xs) (raise_nodes-stretches m v ns)

-- A value added to a span whose cuts are nodes' joins the answer to each span that overlaps it, and
-- changes no other.
pub raise_nodes_answers : (f t : Cut) (v : ValueView) (ns : List Node) → IsSorted ns →
    HasCut f (node_stretches ns) → (t ≡ last) ⊎ HasCut t (node_stretches ns) → (s : SpanView)
    → answer_of (raise_nodes (between f t) v ns) s ≡ cond (overlaps (between f t) s)
    (joint (answer_of ns s) (v ∷ [])) (answer_of ns s)
raise_nodes_answers f t v ns sorted at_start at_end s =
    ap (joint_above zero_time) (sym (values_over-is s (stretches (raise_nodes m v ns))))
    ∙ ap (answer_over s) (sym all)
    ∙ raise_answers f t v below_nodes (node_stretches ns) (parts f at_start) end_parts (lowest f) s
    ∙ ap (λ (w : ValueView). cond (overlaps (between f t) s) (joint w (v ∷ [])) w)
    (ap (joint_above zero_time) (values_over-is s (stretches ns)))
  where
    m : SpanView
    m = between f t

    up : Rising (node_stretches ns)
    up = rising_nodes ns sorted

    parts : (c : Cut) → HasCut c (node_stretches ns) → Parts c (stretches ns)
    parts c has = (
      inr (first_low c (node_stretches ns) up has),
      parts_at c (node_stretches ns) up has,
    )

    end_parts : Parts t (stretches ns)
    end_parts = elim at_end [
      | inl e ↦ subst (λ (c : Cut). Parts c (stretches ns)) (sym e)
          (last_parts (stretches ns))
      | inr has ↦ parts t has
    ]

    -- below the nodes nothing is raised
    kept : raised m v below_nodes (next_cut (node_stretches ns)) ≡ unowned zero_time
    kept = elim (cases_Bool (overlaps (between (before []) (next_cut (node_stretches ns))) m)) [
      | inl h ↦ absurd (Lt-not_Le f (next_cut (node_stretches ns))
          (overlaps-reports (before []) (next_cut (node_stretches ns)) f t h).2
          (first_low f (node_stretches ns) up at_start))
      | inr h ↦ rw h refl
    ]

    all : raise m v (stretches ns) ≡ stretches (raise_nodes m v ns)
    all = ap (λ (w : ValueView). record { from = before []; value = w } ∷
        raise m v (node_stretches ns)) kept ∙
        ap (λ (xs : List Stretch). below_nodes ∷ xs) (raise_nodes-stretches m v ns)

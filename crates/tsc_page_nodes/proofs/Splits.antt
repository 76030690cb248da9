-- A stretch cut in two, with its value on both sides, answers as before.
use Rattle.std.proofs.Common.{◌≡◌, ◌⊎◌, inl, inr, ◌∙◌, refl, sym, ap, ℕ, zero, suc, List, [], ◌∷◌}
use Rattle.std.specs.List.{insert}
use Rattle.tsc_time.specs.Time.{zero_time}
use Rattle.tsc_time.specs.ValueView.{ValueView, unowned}
use Rattle.tsc_time.specs.Joint.{joint_above}
use Rattle.tsc_time.proofs.RatchetOrder.{IsAtMost-antisymmetric}
use Rattle.tsc_span.specs.Span.{KeyBytes, Cut, before, after, SpanView, nothing, between}
use Rattle.tsc_page_nodes.specs.Nodes.{Node, Stretch, next_cut, node_stretches, stretches, below_nodes, answer_of, gap_value, FitsAt, node_in_gap}
use Rattle.tsc_span.proofs.CutOrder.{Le, Meet, Lt-or_Le, Le_Lt-chain, Lt_Le-chain, Le-from_Lt, before-after, overlaps-from, overlaps-reports}
use Rattle.tsc_page_nodes.proofs.Answers.{values_over-is, Meets, answer_over, answer-above, answer-above_zero, answer-least}

-- two lists meet the same values
abbrev pub MeetsSame : List Stretch → List Stretch → Type 0
MeetsSame xs ys = (s : SpanView) (v : ValueView) → (Meets s xs v → Meets s ys v) ×
    (Meets s ys v → Meets s xs v)

-- and so they answer the same
pub same_answer : (xs ys : List Stretch) → MeetsSame xs ys → (s : SpanView) →
    answer_over s xs ≡ answer_over s ys
same_answer xs ys same s =
    IsAtMost-antisymmetric (answer_over s xs) (answer_over s ys)
    (answer-least s xs (answer_over s ys) (answer-above_zero s ys)
    (λ v m. answer-above s ys v ((same s v).0 m)))
    (answer-least s ys (answer_over s xs) (answer-above_zero s xs)
    (λ v m. answer-above s xs v ((same s v).1 m)))

pub MeetsSame-chain : (xs ys zs : List Stretch) → MeetsSame xs ys → MeetsSame ys zs →
    MeetsSame xs zs
MeetsSame-chain xs ys zs h g s v = (λ m. (g s v).0 ((h s v).0 m), λ m. (h s v).1 ((g s v).1 m))

-- the same stretch before lists that begin at one cut
pub MeetsSame-after : (x : Stretch) (xs ys : List Stretch) → next_cut xs ≡ next_cut ys →
    MeetsSame xs ys → MeetsSame (x ∷ xs) (x ∷ ys)
MeetsSame-after x xs ys e same s v = (
  λ m. elim m [ inl h ↦ inl (rw (← e) h.0, h.1) | inr h ↦ inr ((same s v).0 h) ],
  λ m. elim m [ inl h ↦ inl (rw e h.0, h.1) | inr h ↦ inr ((same s v).1 h) ],
)

-- the first part of a span between two cuts overlaps, or the second
parted : (c d n a b : Cut) → Le c d → Le d n → Meet c n a b → Meet c d a b ⊎ Meet d n a b
parted c d n a b low high m = elim (Lt-or_Le c d) [
  | inl h ↦ elim (Lt-or_Le a d) [
    | inl g ↦ inl (h, m.1, g, m.3)
    | inr g ↦ inr (Le_Lt-chain d a n g m.2, Le_Lt-chain d a b g m.3, m.2, m.3)
  ]
  | inr h ↦ inr (Le_Lt-chain d c n h m.0, Le_Lt-chain d c b h m.1, m.2, m.3)
]

joined_first : (c d n a b : Cut) → Le d n → Meet c d a b → Meet c n a b
joined_first c d n a b high m = (Lt_Le-chain c d n m.0 high, m.1, Lt_Le-chain a d n m.2 high, m.3)

joined_second : (c d n a b : Cut) → Le c d → Meet d n a b → Meet c n a b
joined_second c d n a b low m = (Le_Lt-chain c d n low m.0, Le_Lt-chain c d b low m.1, m.2, m.3)

-- a cut within a stretch parts it
pub split_once : (x : Stretch) (d : Cut) (rest : List Stretch) → Le x.from d →
    Le d (next_cut rest) → MeetsSame (x ∷ rest) (x ∷ record { from = d; value = x.value } ∷ rest)
split_once x d rest low high nothing v = (
  λ m. elim m [ inl h ↦ inl h | inr h ↦ inr (inr h) ],
  λ m. elim m [ inl h ↦ inl h | inr h ↦ elim h [ inl g ↦ inl g | inr g ↦ inr g ] ],
)
split_once x d rest low high (between a b) v = (
  λ m. elim m [
    | inl h ↦ elim (parted x.from d (next_cut rest) a b low high
        (overlaps-reports x.from (next_cut rest) a b h.0)) [
          | inl p ↦ inl (overlaps-from x.from d a b p, h.1)
          | inr p ↦ inr (inl (overlaps-from d (next_cut rest) a b p, h.1))
        ]
    | inr h ↦ inr (inr h)
  ],
  λ m. elim m [
    | inl h ↦ inl (
      overlaps-from x.from (next_cut rest) a b
          (joined_first x.from d (next_cut rest) a b high (overlaps-reports x.from d a b h.0)),
      h.1,
    )
    | inr h ↦ elim h [
      | inl g ↦ inl (
        overlaps-from x.from (next_cut rest) a b
            (joined_second x.from d (next_cut rest) a b low
            (overlaps-reports d (next_cut rest) a b g.0)),
        g.1,
      )
      | inr g ↦ inr g
    ]
  ],
)

-- a new node splits its gap, and changes no answer
split_after : (x : Stretch) (nodes : List Node) (i : ℕ) (k : KeyBytes) → FitsAt k x.from nodes i →
    MeetsSame (x ∷ node_stretches nodes)
    (x ∷ node_stretches (insert nodes i (node_in_gap k (gap_value x.value nodes i))))
split_after x nodes zero k fits =
    let rest : List Stretch = node_stretches nodes in
    let y : Stretch = record { from = before k; value = x.value } in
    let z : Stretch = record { from = after k; value = x.value } in
    let past : Le (after k) (next_cut rest) = Le-from_Lt (after k) (next_cut rest) fits.1 in
    let up : Le (before k) (next_cut rest) =
    Le-from_Lt (before k) (next_cut rest)
    (Lt_Le-chain (before k) (after k) (next_cut rest) (before-after k) past) in
    let once : MeetsSame (x ∷ rest) (x ∷ y ∷ rest) = split_once x (before k) rest fits.0 up in
    let twice : MeetsSame (y ∷ rest) (y ∷ z ∷ rest) =
    split_once y (after k) rest (Le-from_Lt (before k) (after k) (before-after k)) past in
    MeetsSame-chain (x ∷ rest) (x ∷ y ∷ rest) (x ∷ y ∷ z ∷ rest) once
    (MeetsSame-after x (y ∷ rest) (y ∷ z ∷ rest) refl twice)
split_after x [] (suc i) k fits = absurd fits
split_after x (n ∷ ns) (suc i) k fits =
    let y : Stretch = record { from = before n.key; value = n.value } in
    let z : Stretch = record { from = after n.key; value = n.gap } in
    let more : List Node = insert ns i (node_in_gap k (gap_value n.gap ns i)) in
    let rest : MeetsSame (z ∷ node_stretches ns) (z ∷ node_stretches more) =
    split_after z ns i k fits in
    MeetsSame-after x (y ∷ z ∷ node_stretches ns) (y ∷ z ∷ node_stretches more) refl
    (MeetsSame-after y (z ∷ node_stretches ns) (z ∷ node_stretches more) refl rest)

pub split_answers : (nodes : List Node) (i : ℕ) (k : KeyBytes) → FitsAt k (before []) nodes i →
    (s : SpanView) → answer_of nodes s ≡
    answer_of (insert nodes i (node_in_gap k (gap_value (unowned zero_time) nodes i))) s
split_answers nodes i k fits s =
    let xs : List Stretch = stretches nodes in
    let ys : List Stretch = stretches
    (insert nodes i (node_in_gap k (gap_value (unowned zero_time) nodes i))) in
    ap (joint_above zero_time) (sym (values_over-is s xs)) ∙
    same_answer xs ys (split_after below_nodes nodes i k fits) s ∙
    ap (joint_above zero_time) (values_over-is s ys)

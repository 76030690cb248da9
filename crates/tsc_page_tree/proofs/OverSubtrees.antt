-- Subtrees in which a span starts and stops, among others.
use Rattle.std.proofs.Common.{◌≡◌, ◌⊎◌, inl, inr, ◌∙◌, refl, sym, ap, subst, Bool, true, false, cond, ℕ, zero, suc, ◌+◌, ◌-◌, ◌<◌, ◌≤◌, List, [], ◌∷◌, ◌++◌, length, map, take, drop, get_or, set, arith}
use Rattle.std.specs.Prelude.{None, not}
use Rattle.std.specs.List.{All}
use Rattle.std.proofs.lemmas.List.{append_assoc, length-append, length-map, length-set, map-append}
use Rattle.tsc_span.specs.Span.{Cut, last, is_below}
use Rattle.tsc_page_nodes.specs.Nodes.{Node, IsSorted, raise_nodes}
use Rattle.tsc_page_nodes.specs.Insertions.{InsertionView, before_second}
use Rattle.tsc_page_tree.specs.Leaves.{nodes_of, start_of, AreSome, AreSubtrees, IsLeafAt}
use Rattle.tsc_page_nodes.specs.declared.nodes.Growth.{Growth}
use Rattle.tsc_page_tree.specs.Lazy.{everything, AddsSome}
use Rattle.tsc_page_tree.specs.Across.{AreRaisedAcross, IsLastReached}
use Rattle.tsc_page_tree.specs.Copies.{KeepsSizes, AllKeepSizes}
use Rattle.tsc_span.proofs.CutOrder.{Lt, Le, Lt-not_Le, none_above_last}
use Rattle.tsc_page_tree.proofs.Joins.{up_to_last, sorted_left, sorted_right}
use Rattle.tsc_page_tree.proofs.LeafLists.{starts_low, ends_high, all_set, some_nodes}
use Rattle.tsc_page_nodes.specs.Insertions.{IsInsertionView}
use Rattle.tsc_page_tree.proofs.SubtreeAdds.{not_true, not_false}
use Rattle.tsc_page_tree.proofs.SubtreeAcross.{reached_before}
use Rattle.tsc_page_tree.proofs.EndAdds.{reported_over, reported_two}
use Rattle.tsc_page_tree.proofs.SubtreeLists.{nodes_of_both}
use Rattle.tsc_page_tree.proofs.SubtreeLoops.{same_by}

take_low : {X : Type 0} (f : X → List Node) (xs ys : List X) (p : ℕ) → p ≤ length xs →
    take p (map f (xs ++ ys)) ≡ map f (take p xs)
take_low f xs ys zero h = refl
take_low f [] ys (suc p) h = absurd (omega (arith, h))
take_low f (x ∷ xs) ys (suc p) h =
    ap (λ (ls : List (List Node)). f x ∷ ls) (take_low f xs ys p (omega (arith, h)))

drop_low : {X : Type 0} (f : X → List Node) (xs ys : List X) (p : ℕ) → length xs ≡ p →
    drop p (map f (xs ++ ys)) ≡ map f ys
drop_low f [] ys zero h = refl
drop_low f (x ∷ xs) ys zero h = absurd (omega (arith, h))
drop_low f [] ys (suc p) h = absurd (omega (arith, h))
drop_low f (x ∷ xs) ys (suc p) h = drop_low f xs ys p (omega (arith, h))

pub read_low : {X : Type 0} (f : X → List Node) (xs ys : List X) (p : ℕ) (d : X) → p < length xs →
    get_or (map f (xs ++ ys)) p [] ≡ f (get_or xs p d)
read_low f [] ys p d h = absurd (omega (arith, h))
read_low f (x ∷ xs) ys zero d h = refl
read_low f (x ∷ xs) ys (suc p) d h = read_low f xs ys p d (omega (arith, h))

-- the last of the first subtrees by itself
pub low_whole : {X : Type 0} (f : X → List Node) (xs ys : List X) (p : ℕ) (d : X) →
    length xs ≡ suc p → nodes_of (map f (xs ++ ys)) ≡ nodes_of (map f (take p xs)) ++
    (f (get_or xs p d) ++ nodes_of (map f ys))
low_whole f [] ys p d h = absurd (omega (arith, h))
low_whole f (z ∷ []) ys zero d h = refl
low_whole f (z ∷ y ∷ zs) ys zero d h = absurd (omega (arith, h))
low_whole f (z ∷ zs) ys (suc p) d h =
    ap (λ (ns : List Node). f z ++ ns) (low_whole f zs ys p d (omega (arith, h))) ∙
    sym (append_assoc (f z) (nodes_of (map f (take p zs)))
    (f (get_or zs p d) ++ nodes_of (map f ys)))

-- and the first of the last ones
pub high_whole : {X : Type 0} (f : X → List Node) (xs ys : List X) (e : X) → 1 ≤ length ys →
    nodes_of (map f (xs ++ ys)) ≡ nodes_of (map f xs) ++
    (f (get_or ys 0 e) ++ nodes_of (map f (drop 1 ys)))
high_whole f xs [] e h = absurd (omega (arith, h))
high_whole f xs (y ∷ ys) e h = nodes_of_both f xs (y ∷ ys)

-- A span starts in the last of the first subtrees of a list.
pub record StartsIn {X : Type 0} (f : X → List Node) (xs ys : List X) (p : ℕ) (d : X) (c : Cut) :
    Type 0 where
  pub whole : nodes_of (map f (xs ++ ys)) ≡ nodes_of (map f (take p xs)) ++
      (f (get_or xs p d) ++ nodes_of (map f ys))
  pub start : (nodes_of (map f (take p xs)) ≡ []) ⊎
      Le (start_of (f (get_or xs p d) ++ nodes_of (map f ys))) c
  pub below : Lt c (start_of (nodes_of (map f ys)))

pub starts_in : {X : Type 0} (f : X → List Node) (xs ys : List X) (p : ℕ) (d : X) (c : Cut) →
    AreSome (map f (xs ++ ys)) → length xs ≡ suc p → Lt c last → IsLeafAt (map f (xs ++ ys)) c p →
    StartsIn f xs ys p d c
starts_in {X = X} f xs ys p d c some long up at = record {
  whole = low_whole f xs ys p d long;
  start = elim (starts_low ls c p some at) [
    | inl none ↦ inl (ap (λ (ks : List (List Node)). nodes_of ks)
        (sym (take_low f xs ys p (omega (arith, long)))) ∙ none)
    | inr low ↦ inr (subst (λ (ns : List Node). Le (start_of ns) c) rest low)
  ];
  below = subst (λ (ks : List (List Node)). Lt c (start_of (nodes_of ks)))
      (drop_low f xs ys (suc p) long) (ends_high ls c p some up at);
}
  where
    ls : List (List Node)
    ls = map f (xs ++ ys)

    rest : nodes_of (drop p (map f (xs ++ ys))) ≡ f (get_or xs p d) ++ nodes_of (map f ys)
    rest = by xs p long
      where
        by : (zs : List X) (q : ℕ) → length zs ≡ suc q →
            nodes_of (drop q (map f (zs ++ ys))) ≡ f (get_or zs q d) ++ nodes_of (map f ys)
        by [] q h = absurd (omega (arith, h))
        by (z ∷ []) zero h = refl
        by (z ∷ y ∷ zs) zero h = absurd (omega (arith, h))
        by (z ∷ zs) (suc q) h = by zs q (omega (arith, h))

-- there are nodes where one can be reached
some_reached : (ns : List Node) (t : Cut) → Lt (start_of ns) t → 1 ≤ length ns
some_reached [] t h = absurd (Lt-not_Le last t h (none_above_last t))
some_reached (n ∷ ns) t h = omega arith

-- and in each subtree
some_of : {X : Type 0} (f : X → List Node) (xs ys : List X) (p : ℕ) (d : X) →
    AreSome (map f (xs ++ ys)) → length xs ≡ suc p → 1 ≤ length (f (get_or xs p d))
some_of f xs ys p d some long =
    subst (λ (ns : List Node). 1 ≤ length ns) (read_low f xs ys p d (omega (arith, long)))
    (some_nodes (map f (xs ++ ys)) some p []
    (omega (arith, long, length-map (xs ++ ys) f, length-append xs ys)))

-- another in its place
pub set_low : {X : Type 0} (f : X → List Node) (xs ys : List X) (p : ℕ) (x : X) →
    length xs ≡ suc p → nodes_of (map f (set xs p x ++ ys)) ≡ nodes_of (map f (take p xs)) ++
    (f x ++ nodes_of (map f ys))
set_low f [] ys p x h = absurd (omega (arith, h))
set_low f (z ∷ []) ys zero x h = refl
set_low f (z ∷ y ∷ zs) ys zero x h = absurd (omega (arith, h))
set_low f (z ∷ zs) ys (suc p) x h =
    ap (λ (ns : List Node). f z ++ ns) (set_low f zs ys p x (omega (arith, h))) ∙
    sym (append_assoc (f z) (nodes_of (map f (take p zs))) (f x ++ nodes_of (map f ys)))

-- A span stops in the first of the last subtrees of a list.
pub record StopsIn {X : Type 0} (f : X → List Node) (xs ys : List X) (e : X) (t : Cut) : Type
    0 where
  pub subtree : Lt (start_of (f (get_or ys 0 e))) t
  pub reaches : Lt (start_of (f (get_or ys 0 e) ++ nodes_of (map f (drop 1 ys)))) t
  pub stops : Le t (start_of (nodes_of (map f (drop 1 ys))))
  pub behind : nodes_of (drop (suc (length xs)) (map f (xs ++ ys))) ≡ nodes_of (map f (drop 1 ys))

start_front : (ns ms : List Node) → 1 ≤ length ns → start_of (ns ++ ms) ≡ start_of ns
start_front [] ms h = absurd (omega (arith, h))
start_front (n ∷ ns) ms h = refl

pub set_high : {X : Type 0} (f : X → List Node) (xs ys : List X) (y : X) → 1 ≤ length ys →
    nodes_of (map f (xs ++ set ys 0 y)) ≡ nodes_of (map f xs) ++
    (f y ++ nodes_of (map f (drop 1 ys)))
set_high f xs [] y h = absurd (omega (arith, h))
set_high f xs (z ∷ ys) y h = nodes_of_both f xs (y ∷ ys)

pub stops_in : {X : Type 0} (f : X → List Node) (xs ys : List X) (e : X) (t : Cut) →
    AreSome (map f (xs ++ ys)) → 1 ≤ length ys →
    (length xs ≡ 0 → Lt (start_of (nodes_of (map f (xs ++ ys)))) t) →
    IsLastReached (map f (xs ++ ys)) t (length xs) → StopsIn f xs ys e t
stops_in f xs [] e t some h all at = absurd (omega (arith, h))
stops_in {X = X} f xs (y ∷ ys) e t some h all at = record {
  subtree = subtree;
  reaches = subst (λ (c : Cut). Lt c t)
      (sym (start_front (f y) (nodes_of (map f ys)) (has xs some))) subtree;
  stops = subst (λ (ns : List Node). Le t (start_of ns)) (behind xs) at.stops;
  behind = behind xs;
}
  where
    behind : (zs : List X) → nodes_of (drop (suc (length zs)) (map f (zs ++ y ∷ ys))) ≡
        nodes_of (map f ys)
    behind [] = refl
    behind (z ∷ zs) = behind zs

    has : (zs : List X) → AreSome (map f (zs ++ y ∷ ys)) → 1 ≤ length (f y)
    has [] g = g.0
    has (z ∷ zs) g = has zs g.1

    read : (zs : List X) → get_or (map f (zs ++ y ∷ ys)) (length zs) [] ≡ f y
    read [] = refl
    read (z ∷ zs) = read zs

    subtree : Lt (start_of (f y)) t
    subtree = by xs refl
      where
        by : (zs : List X) → zs ≡ xs → Lt (start_of (f y)) t
        by [] is = subst (λ (c : Cut). Lt c t)
            (start_front (f y) (nodes_of (map f ys)) (has xs some))
            (subst (λ (ws : List X). Lt (start_of (nodes_of (map f (ws ++ y ∷ ys)))) t) (sym is)
            (all (subst (λ (ws : List X). length ws ≡ 0) is refl)))
        by (z ∷ zs) is = subst (λ (ns : List Node). Lt (start_of ns) t) (read xs)
            (at.reaches (subst (λ (ws : List X). 1 ≤ length ws) is (omega arith)))

-- what holds of all of two lists
pub all_two : {X : Type 0} (Q : X → Type 0) (xs ys : List X) → All Q xs → All Q ys →
    All Q (xs ++ ys)
all_two Q [] ys first second i d h = second i d h
all_two Q (x ∷ xs) ys first second zero d h = first 0 d (omega arith)
all_two Q (x ∷ xs) ys first second (suc i) d h =
    all_two Q xs ys (λ j e g. first (suc j) e (omega (arith, g))) second i d (omega (arith, h))

pub all_first : {X : Type 0} (Q : X → Type 0) (xs ys : List X) → All Q (xs ++ ys) → All Q xs
all_first Q [] ys all i d h = absurd (omega (arith, h))
all_first Q (x ∷ xs) ys all zero d h = all 0 d (omega arith)
all_first Q (x ∷ xs) ys all (suc i) d h =
    all_first Q xs ys (λ j e g. all (suc j) e (omega (arith, g))) i d (omega (arith, h))

pub all_second : {X : Type 0} (Q : X → Type 0) (xs ys : List X) → All Q (xs ++ ys) → All Q ys
all_second Q [] ys all = all
all_second Q (x ∷ xs) ys all = all_second Q xs ys (λ j e g. all (suc j) e (omega (arith, g)))

sizes_same : {X Y : Type 0} (s : X → Y) (xs : List X) (p : ℕ) (d x : X) → p < length xs →
    s x ≡ s (get_or xs p d) → map s (set xs p x) ≡ map s xs
sizes_same s xs p d x inside same = same_by s xs p d x inside same

-- The first subtrees of a list, those in the middle, and the last ones: a span starts in the last
-- of the first and stops in the first of the last.
module _ {X : Type 0} (f : X → List Node) (bl md ab : List X) (p : ℕ) (d x e y : X)
    (long : length bl ≡ suc p) (one : 1 ≤ length ab) where
  abbrev pub all : List X
  all = bl ++ (md ++ ab)

  abbrev pub behind : List Node
  behind = nodes_of (map f (drop 1 ab))

  whole : nodes_of (map f all) ≡ nodes_of (map f (take p bl)) ++
      (f (get_or bl p d) ++ (nodes_of (map f md) ++ (f (get_or ab 0 e) ++ behind)))
  whole = low_whole f bl (md ++ ab) p d long ∙
      ap (λ (ns : List Node). nodes_of (map f (take p bl)) ++ (f (get_or bl p d) ++ ns))
      (high_whole f md ab e one)

  changed : (mn : List X) → nodes_of (map f (set bl p x ++ (mn ++ set ab 0 y))) ≡
      nodes_of (map f (take p bl)) ++ (f x ++ (nodes_of (map f mn) ++ (f y ++ behind)))
  changed mn = set_low f bl (mn ++ set ab 0 y) p x long ∙
      ap (λ (ns : List Node). nodes_of (map f (take p bl)) ++ (f x ++ ns)) (set_high f mn ab y one)

  -- where both stay, all do
  pub stays_over : f x ≡ f (get_or bl p d) → f y ≡ f (get_or ab 0 e) →
      nodes_of (map f (set bl p x ++ (md ++ set ab 0 y))) ≡ nodes_of (map f all)
  stays_over low high =
      changed md ∙ ap (λ (ns : List Node). nodes_of (map f (take p bl)) ++
      (ns ++ (nodes_of (map f md) ++ (f y ++ behind)))) low
      ∙ ap (λ (ns : List Node). nodes_of (map f (take p bl)) ++
      (f (get_or bl p d) ++ (nodes_of (map f md) ++ (ns ++ behind)))) high ∙ sym whole

  module _ (a : InsertionView) (some : AreSome (map f all)) (fits : IsInsertionView a)
      (at : IsLeafAt (map f all) a.from p)
      (reached : IsLastReached (map f all) a.to (length bl + length md)) where
    starts : StartsIn f bl (md ++ ab) p d a.from
    starts = starts_in f bl (md ++ ab) p d a.from some long (up_to_last a.from a.to fits.0) at

    pub stops_over : StopsIn f (bl ++ md) ab e a.to
    stops_over =
        let same : (bl ++ md) ++ ab ≡ bl ++ (md ++ ab) = append_assoc bl md ab in
        let many : length (bl ++ md) ≡ length bl + length md = length-append bl md in
        stops_in f (bl ++ md) ab e a.to
        (subst (λ (xs : List X). AreSome (map f xs)) (sym same) some) one
        (λ none. absurd (omega (arith, none, many, long)))
        (subst (λ (n : ℕ). IsLastReached (map f ((bl ++ md) ++ ab)) a.to n) (sym many)
        (subst (λ (xs : List X). IsLastReached (map f xs) a.to (length bl + length md))
        (sym same) reached))

    behind_over : nodes_of (drop (suc (length bl + length md)) (map f all)) ≡ behind
    behind_over =
        let many : length (bl ++ md) ≡ length bl + length md = length-append bl md in
        ap (λ (xs : List X). nodes_of (drop (suc (length bl + length md)) (map f xs)))
        (sym (append_assoc bl md ab)) ∙
        ap (λ (n : ℕ). nodes_of (drop (suc n) (map f ((bl ++ md) ++ ab)))) (sym many) ∙
        stops_over.behind

    pub raises_over : (mn : List X) (stop : Bool) (room : ℕ) (more : Growth) → IsSorted (nodes_of (map f all)) →
        stop ≡ not (is_below a.to (start_of
        (nodes_of (drop (suc (length bl + length md)) (map f all)))))
        → AreRaisedAcross (f (get_or bl p d)) (f x) (f (get_or ab 0 e)) (f y)
        (cond stop (before_second a) a) more → more.bytes ≤ room →
        nodes_of (map f mn) ≡ raise_nodes everything a.value (nodes_of (map f md))
        → AddsSome (nodes_of (map f all)) (nodes_of (map f (set bl p x ++ (mn ++ set ab 0 y)))) a room
        more
    raises_over mn stop room more sorted is reported within wholly =
        subst (λ (ns : List Node). AddsSome ns (nodes_of (map f (set bl p x ++ (mn ++ set ab 0 y))))
        a room more) (sym whole)
        (subst (λ (ns : List Node). AddsSome
        (nodes_of (map f (take p bl)) ++
        (f (get_or bl p d) ++ (nodes_of (map f md) ++ (f (get_or ab 0 e) ++ behind)))) ns a room
        more) (sym (changed mn)) (by stop here reported))
      where
        low_some : 1 ≤ length (f (get_or bl p d))
        low_some = some_of f bl (md ++ ab) p d some long

        high_some : 1 ≤ length (f (get_or ab 0 e))
        high_some = some_reached (f (get_or ab 0 e)) a.to stops_over.subtree

        here : stop ≡ not (is_below a.to (start_of behind))
        here = is ∙ ap (λ (ns : List Node). not (is_below a.to (start_of ns))) behind_over

        inner : nodes_of (map f (md ++ ab)) ≡ nodes_of (map f md) ++ (f (get_or ab 0 e) ++ behind)
        inner = high_whole f md ab e one

        start : (nodes_of (map f (take p bl)) ≡ []) ⊎
            Le (start_of (f (get_or bl p d) ++
            (nodes_of (map f md) ++ (f (get_or ab 0 e) ++ behind)))) a.from
        start = elim starts.start [
          | inl h ↦ inl h
          | inr h ↦ inr
              (subst (λ (ns : List Node). Le (start_of (f (get_or bl p d) ++ ns)) a.from) inner h)
        ]

        below : Lt a.from (start_of (nodes_of (map f md) ++ (f (get_or ab 0 e) ++ behind)))
        below = subst (λ (ns : List Node). Lt a.from (start_of ns)) inner starts.below

        by : (b : Bool) → b ≡ not (is_below a.to (start_of behind)) →
            AreRaisedAcross (f (get_or bl p d)) (f x) (f (get_or ab 0 e)) (f y)
            (cond b (before_second a) a) more
            → AddsSome (nodes_of (map f (take p bl)) ++
            (f (get_or bl p d) ++ (nodes_of (map f md) ++ (f (get_or ab 0 e) ++ behind))))
            (nodes_of (map f (take p bl)) ++ (f x ++ (nodes_of (map f mn) ++ (f y ++ behind))))
            a room more
        by true h g = reported_over (nodes_of (map f (take p bl))) (f (get_or bl p d))
            (nodes_of (map f md)) (f (get_or ab 0 e)) behind (f x) (nodes_of (map f mn)) (f y) a
            None room more low_some high_some (subst IsSorted whole sorted) start below stops_over.reaches
            stops_over.stops fits.1 fits.2
            (ap (λ (c : Bool). cond c a.second None)
            (sym (not_true (is_below a.to (start_of behind)) (sym h)))) g within wholly
        by false h g = reported_over (nodes_of (map f (take p bl))) (f (get_or bl p d))
            (nodes_of (map f md)) (f (get_or ab 0 e)) behind (f x) (nodes_of (map f mn)) (f y) a
            a.second room more low_some high_some (subst IsSorted whole sorted) start below stops_over.reaches
            stops_over.stops fits.1 fits.2
            (ap (λ (c : Bool). cond c a.second None)
            (sym (not_false (is_below a.to (start_of behind)) (sym h)))) g within wholly

-- The same over two lists: the first subtrees of one, and those behind them; the last subtrees of
-- the other, and those before them.
module _ {X : Type 0} (f : X → List Node) (bl md ot ab : List X) (p : ℕ) (d x e y : X)
    (long : length bl ≡ suc p) (one : 1 ≤ length ab) where
  pub stays_low : f x ≡ f (get_or bl p d) →
      nodes_of (map f (set bl p x ++ md)) ≡ nodes_of (map f (bl ++ md))
  stays_low same = set_low f bl md p x long ∙
      ap (λ (ns : List Node). nodes_of (map f (take p bl)) ++ (ns ++ nodes_of (map f md))) same ∙
      sym (low_whole f bl md p d long)

  pub stays_high : f y ≡ f (get_or ab 0 e) →
      nodes_of (map f (ot ++ set ab 0 y)) ≡ nodes_of (map f (ot ++ ab))
  stays_high same = set_high f ot ab y one ∙
      ap (λ (ns : List Node). nodes_of (map f ot) ++ (ns ++ nodes_of (map f (drop 1 ab)))) same ∙
      sym (high_whole f ot ab e one)

  module _ (a : InsertionView) (some_low : AreSome (map f (bl ++ md)))
      (some_high : AreSome (map f (ot ++ ab))) (fits : IsInsertionView a)
      (at : IsLeafAt (map f (bl ++ md)) a.from p)
      (reaches : Lt (start_of (nodes_of (map f (ot ++ ab)))) a.to)
      (reached : IsLastReached (map f (ot ++ ab)) a.to (length ot)) where
    starts_two : StartsIn f bl md p d a.from
    starts_two = starts_in f bl md p d a.from some_low long (up_to_last a.from a.to fits.0) at

    pub stops_two : StopsIn f ot ab e a.to
    stops_two = stops_in f ot ab e a.to some_high one (λ none. reaches) reached

    pub raises_two : (mn on : List X) (stop : Bool) (more : Growth) → IsSorted (nodes_of (map f (bl ++ md))) →
        IsSorted (nodes_of (map f (ot ++ ab))) →
        stop ≡ not (is_below a.to (start_of (nodes_of (drop (suc (length ot)) (map f (ot ++ ab))))))
        → AreRaisedAcross (f (get_or bl p d)) (f x) (f (get_or ab 0 e)) (f y)
        (cond stop (before_second a) a) more →
        nodes_of (map f mn) ≡ raise_nodes everything a.value (nodes_of (map f md)) →
        nodes_of (map f on) ≡ raise_nodes everything a.value (nodes_of (map f ot))
        → AreRaisedAcross (nodes_of (map f (bl ++ md))) (nodes_of (map f (set bl p x ++ mn)))
        (nodes_of (map f (ot ++ ab))) (nodes_of (map f (on ++ set ab 0 y))) a more
    raises_two mn on stop more low_sorted high_sorted is reported wholly others =
        subst (λ (ns : List Node). AreRaisedAcross ns (nodes_of (map f (set bl p x ++ mn)))
        (nodes_of (map f (ot ++ ab))) (nodes_of (map f (on ++ set ab 0 y))) a more) (sym low_is)
        (subst (λ (ns : List Node). AreRaisedAcross old_low ns (nodes_of (map f (ot ++ ab)))
        (nodes_of (map f (on ++ set ab 0 y))) a more) (sym (set_low f bl mn p x long))
        (subst (λ (ns : List Node). AreRaisedAcross old_low
        (nodes_of (map f (take p bl)) ++ (f x ++ nodes_of (map f mn))) ns
        (nodes_of (map f (on ++ set ab 0 y))) a more) (sym high_is)
        (subst (λ (ns : List Node). AreRaisedAcross old_low
        (nodes_of (map f (take p bl)) ++ (f x ++ nodes_of (map f mn))) old_high ns a more)
        (sym (set_high f on ab y one)) (by stop here reported))))
      where
        low_some : 1 ≤ length (f (get_or bl p d))
        low_some = some_of f bl md p d some_low long

        high_some : 1 ≤ length (f (get_or ab 0 e))
        high_some = some_reached (f (get_or ab 0 e)) a.to stops_two.subtree

        old_low : List Node
        old_low = nodes_of (map f (take p bl)) ++ (f (get_or bl p d) ++ nodes_of (map f md))

        old_high : List Node
        old_high = nodes_of (map f ot) ++ (f (get_or ab 0 e) ++ nodes_of (map f (drop 1 ab)))

        low_is : nodes_of (map f (bl ++ md)) ≡ nodes_of (map f (take p bl)) ++
            (f (get_or bl p d) ++ nodes_of (map f md))
        low_is = low_whole f bl md p d long

        high_is : nodes_of (map f (ot ++ ab)) ≡ nodes_of (map f ot) ++
            (f (get_or ab 0 e) ++ nodes_of (map f (drop 1 ab)))
        high_is = high_whole f ot ab e one

        here : stop ≡ not (is_below a.to (start_of (nodes_of (map f (drop 1 ab)))))
        here = is ∙ ap (λ (ns : List Node). not (is_below a.to (start_of ns))) stops_two.behind

        by : (b : Bool) → b ≡ not (is_below a.to (start_of (nodes_of (map f (drop 1 ab))))) →
            AreRaisedAcross (f (get_or bl p d)) (f x) (f (get_or ab 0 e)) (f y)
            (cond b (before_second a) a) more
            → AreRaisedAcross (nodes_of (map f (take p bl)) ++
            (f (get_or bl p d) ++ nodes_of (map f md)))
            (nodes_of (map f (take p bl)) ++ (f x ++ nodes_of (map f mn)))
            (nodes_of (map f ot) ++ (f (get_or ab 0 e) ++ nodes_of (map f (drop 1 ab))))
            (nodes_of (map f on) ++ (f y ++ nodes_of (map f (drop 1 ab)))) a more
        by true h g = reported_two (nodes_of (map f (take p bl))) (f (get_or bl p d))
            (nodes_of (map f md)) (nodes_of (map f ot)) (f (get_or ab 0 e))
            (nodes_of (map f (drop 1 ab))) (f x) (nodes_of (map f mn)) (nodes_of (map f on))
            (f y) a None more low_some high_some
            (subst IsSorted low_is low_sorted) (subst IsSorted high_is high_sorted) starts_two.start
            starts_two.below stops_two.reaches stops_two.stops fits.1 fits.2
            (ap (λ (c : Bool). cond c a.second None)
            (sym (not_true (is_below a.to (start_of (nodes_of (map f (drop 1 ab))))) (sym h))))
            g wholly others
        by false h g = reported_two (nodes_of (map f (take p bl))) (f (get_or bl p d))
            (nodes_of (map f md)) (nodes_of (map f ot)) (f (get_or ab 0 e))
            (nodes_of (map f (drop 1 ab))) (f x) (nodes_of (map f mn)) (nodes_of (map f on)) (f y) a
            a.second more low_some high_some
            (subst IsSorted low_is low_sorted) (subst IsSorted high_is high_sorted) starts_two.start
            starts_two.below stops_two.reaches stops_two.stops fits.1 fits.2
            (ap (λ (c : Bool). cond c a.second None)
            (sym (not_false (is_below a.to (start_of (nodes_of (map f (drop 1 ab))))) (sym h))))
            g wholly others

-- subtrees that stay keep all
pub keep_same : {X : Type 0} (s : X → List ℕ) (Q : X → Type 0) (xs : List X)
    (done : Bool) → All Q xs → AllKeepSizes s Q xs xs done
keep_same s Q xs done all = record { sizes = λ h. refl; whole = all; len = refl }

-- the first subtrees, with another in the place of one of them, and those behind them
pub keeps_low : {X : Type 0} (s : X → List ℕ) (Q : X → Type 0) (bl md mn : List X) (p : ℕ)
    (d x : X) (done : Bool) → length bl ≡ suc p → All Q bl →
    KeepsSizes s Q (get_or bl p d) x done → AllKeepSizes s Q md mn done →
    AllKeepSizes s Q (bl ++ md) (set bl p x ++ mn) done
keeps_low s Q bl md mn p d x done long all low mid = record {
  sizes = λ h. map-append s (set bl p x) mn ∙
      ap (λ (ls : List (List ℕ)). ls ++ map s mn)
      (sizes_same s bl p d x (omega (arith, long)) (low.sizes h)) ∙
      ap (λ (ls : List (List ℕ)). map s bl ++ ls) (mid.sizes h) ∙ sym (map-append s bl md);
  whole = all_two Q (set bl p x) mn (all_set Q bl p x all low.whole) mid.whole;
  len = omega (
    arith,
    length-append (set bl p x) mn,
    length-set bl p x,
    length-append bl md,
    mid.len,
  );
}

-- the last subtrees, with another in the place of the first, and those before them
pub keeps_high : {X : Type 0} (s : X → List ℕ) (Q : X → Type 0) (ot on ab : List X) (e y : X)
    (done : Bool) → 1 ≤ length ab → All Q ab → KeepsSizes s Q (get_or ab 0 e) y done →
    AllKeepSizes s Q ot on done → AllKeepSizes s Q (ot ++ ab) (on ++ set ab 0 y) done
keeps_high s Q ot on ab e y done one all high others = record {
  sizes = λ h. map-append s on (set ab 0 y) ∙
      ap (λ (ls : List (List ℕ)). ls ++ map s (set ab 0 y)) (others.sizes h) ∙
      ap (λ (ls : List (List ℕ)). map s ot ++ ls) (sizes_same s ab 0 e y one (high.sizes h)) ∙
      sym (map-append s ot ab);
  whole = all_two Q on (set ab 0 y) others.whole (all_set Q ab 0 y all high.whole);
  len = omega (
    arith,
    length-append on (set ab 0 y),
    length-set ab 0 y,
    length-append ot ab,
    others.len,
  );
}

-- the subtree before the one of a cut is the last one reached
pub last_before : (ls : List (List Node)) (t : Cut) (q : ℕ) → AreSome ls → IsSorted (nodes_of ls) →
    1 ≤ q → q < length ls → IsLeafAt ls t q → is_below (start_of (get_or ls q [])) t ≡ false →
    IsLastReached ls t (q - 1)
last_before ls t zero some sorted h inside at not_reached = absurd (omega (arith, h))
last_before ls t (suc p) some sorted h inside at not_reached =
    let same : p ≡ suc p - 1 = omega arith in
    subst (λ (n : ℕ). IsLastReached ls t n) same
    (reached_before ls t p some sorted (omega (arith, inside)) at inside not_reached)

-- subtrees in two lists
pub subtrees_first : {X : Type 0} (f : X → List Node) (Q : X → Type 0) (xs ys : List X) →
    AreSubtrees f Q (xs ++ ys) → AreSubtrees f Q xs
subtrees_first f Q xs ys subtrees = record {
  whole = all_first Q xs ys subtrees.whole;
  sorted = sorted_left (nodes_of (map f xs)) (nodes_of (map f ys))
      (subst IsSorted (nodes_of_both f xs ys) subtrees.sorted);
}

pub subtrees_second : {X : Type 0} (f : X → List Node) (Q : X → Type 0) (xs ys : List X) →
    AreSubtrees f Q (xs ++ ys) → AreSubtrees f Q ys
subtrees_second f Q xs ys subtrees = record {
  whole = all_second Q xs ys subtrees.whole;
  sorted = sorted_right (nodes_of (map f xs)) (nodes_of (map f ys))
      (subst IsSorted (nodes_of_both f xs ys) subtrees.sorted);
}

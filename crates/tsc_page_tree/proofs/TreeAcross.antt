-- Subtrees of two lists, of which a span starts in one and stops in the other.
use Rattle.std.proofs.Common.{◌≡◌, inl, inr, ◌∙◌, sym, ap, subst, Bool, true, false, cond, ℕ, suc, ◌<◌, List, [], ◌∷◌, length, drop, get_or, arith}
use mathlib.Core.Bool.{true≢false}
use Rattle.std.specs.Prelude.{Option, Some, None, is_some}
use Rattle.tsc_time.specs.ValueView.{ValueView}
use Rattle.tsc_time.specs.Joint.{joint}
use Rattle.tsc_span.specs.Span.{KeyBytes, Cut, before, last, between, is_below}
use Rattle.tsc_page_nodes.specs.Nodes.{Node, IsSorted, raise_nodes}
use Rattle.tsc_span.specs.Prefixes.{IsCutPrefix}
use Rattle.tsc_page_nodes.specs.Insertions.{InsertionView}
use Rattle.tsc_page_tree.specs.Leaves.{nodes_of, start_of, AreSome}
use Rattle.tsc_page_tree.specs.Lazy.{with_lazy, all_joint, IsReportedOf}
use Rattle.tsc_page_tree.specs.Across.{HasKey, IsAcrossReported, MakesOne}
use Rattle.tsc_page_nodes.specs.declared.nodes.Growth.{Growth}
use Rattle.tsc_span.proofs.CutOrder.{Lt, Le, Lt-not_Le, Le_Lt-chain, none_above_last}
use Rattle.tsc_page_nodes.proofs.Cuts.{lowest, raise_nodes-start}
use Rattle.tsc_page_nodes.proofs.Edits.{raise_nodes-length}
use Rattle.std.proofs.lemmas.Bool.{cases_Bool}
use Rattle.tsc_page_tree.proofs.Joins.{up_to_last}
use Rattle.tsc_page_tree.proofs.LeafLists.{starts_rise, start_at, start_past}
use Rattle.tsc_page_nodes.proofs.Indices.{before_or_past}
use Rattle.tsc_page_tree.proofs.Lazy.{raise_lazy, lazy-start, lazy-is_in, sorted_without}
use Rattle.tsc_page_tree.proofs.AllJoint.{all_joint_kept, starts_below_last}
use Rattle.tsc_page_tree.proofs.Reported.{reported_some}
use Rattle.tsc_page_tree.proofs.SubtreeAcross.{reported_reached}
use Rattle.tsc_page_tree.proofs.EndNodes.{start_one, sorted_one, one_lazy, reported_one}

-- what is told of nodes that are raised below the lazy value
pub reported_raised_below : (n : ℕ) (all v : ValueView) (p : Option ValueView) (f t : Cut)
    (ns : List Node) (b : Bool) → IsSorted (with_lazy p ns) → Lt f t →
    b ≡ is_below (start_of (raise_nodes (between f t) v ns)) t → IsReportedOf n all p ns
    → IsReportedOf n (cond b (joint all (v ∷ [])) all) p (raise_nodes (between f t) v ns)
reported_raised_below n all v p f t ns b sorted up reached reported =
    elim (cases_Bool (is_below (start_of ns) t)) [
      | inl h ↦ subst (λ (q : Bool). IsReportedOf n (cond q (joint all (v ∷ [])) all) p
          (raise_nodes (between f t) v ns)) (sym (same ∙ h))
          (reported_reached n all v p f t ns sorted up
          (subst (λ (c : Cut). Lt c t) (sym (lazy-start p ns)) h) reported)
      | inr h ↦ subst (λ (q : Bool). IsReportedOf n (cond q (joint all (v ∷ [])) all) p
          (raise_nodes (between f t) v ns)) (sym (same ∙ h)) (record {
            some = omega (arith, reported.some, raise_nodes-length (between f t) v ns);
            start = subst (IsCutPrefix n) (sym (raise_nodes-start (between f t) v ns))
                reported.start;
            joint = reported.joint ∙ sym (ap (λ (ms : List Node). all_joint ms)
                (raise_lazy p (between f t) v ns) ∙
                all_joint_kept f t v (with_lazy p ns) sorted
                (subst (λ (c : Cut). Le t c) (sym (lazy-start p ns)) h));
          })
    ]
  where
    same : b ≡ is_below (start_of ns) t
    same = reached ∙ ap (λ (c : Cut). is_below c t) (raise_nodes-start (between f t) v ns)

-- a key has a node whatever the lazy value is
pub has_lazy : (o : Option KeyBytes) (p : Option ValueView) (ns : List Node) → HasKey o ns →
    HasKey o (with_lazy p ns)
has_lazy None p ns has = tt
has_lazy (Some k) p ns has = lazy-is_in p k ns ∙ has

-- what is raised across stays so below the lazy value
pub across_lazy : (r : Option Growth) (low new_low high new_high : List Node) (a : InsertionView)
    (room : ℕ) (p q : Option ValueView) → IsSorted (with_lazy p low) → IsSorted (with_lazy q high) →
    IsAcrossReported low new_low high new_high a room r →
    IsAcrossReported (with_lazy p low) (with_lazy p new_low) (with_lazy q high)
    (with_lazy q new_high) a room r
across_lazy (Some more) low new_low high new_high a room p q low_sorted high_sorted reported =
    let is = reported.0 in (
      record {
        mid_low = with_lazy p is.mid_low;
        mid_high = with_lazy q is.mid_high;
        lower = is.lower;
        upper = is.upper;
        more_low = is.more_low;
        more_high = is.more_high;
        first = one_lazy p low is.mid_low a.first is.lower is.more_low
            (sorted_without p low low_sorted) is.first;
        second = one_lazy q high is.mid_high a.second is.upper is.more_high
            (sorted_without q high high_sorted) is.second;
        raised_low = ap (with_lazy p) is.raised_low ∙
            raise_lazy p (between a.from last) a.value is.mid_low;
        raised_high = ap (with_lazy q) is.raised_high ∙
            raise_lazy q (between (before []) a.to) a.value is.mid_high;
        grown = is.grown;
      },
      reported.1,
    )
across_lazy None low new_low high new_high a room p q low_sorted high_sorted reported =
    (ap (with_lazy p) reported.0, ap (with_lazy q) reported.1)

-- what is told of nodes with one more, that are raised where the span reaches the first
pub reported_raised_one : (n : ℕ) (all v : ValueView) (p : Option ValueView) (f t : Cut)
    (old mid : List Node) (o : Option KeyBytes) (g : Option (ℕ × KeyBytes)) (more : Growth) →
    IsSorted (with_lazy p old) → Lt f t → Lt (start_of (with_lazy p old)) t →
    MakesOne old mid o g more → IsReportedOf n all p old →
    IsReportedOf n (joint all (v ∷ [])) p (raise_nodes (between f t) v mid)
reported_raised_one n all v p f t old mid o g more sorted up reaches made reported =
    let start = lazy-start p mid ∙ start_one old mid o g more reported.some made ∙
    sym (lazy-start p old) in
    reported_reached n all v p f t mid (sorted_one (with_lazy p old) (with_lazy p mid) o g more
    sorted (one_lazy p old mid o g more (sorted_without p old sorted) made)) up
    (subst (λ (c : Cut). Lt c t) (sym start) reaches)
    (reported_one n all p old mid o g more sorted made reported)

-- and what is told of the lower one
pub reported_across_low : (r : Option Growth) (n : ℕ) (all : ValueView)
    (low new_low high new_high : List Node) (a : InsertionView) (room : ℕ) (p : Option ValueView) →
    IsSorted (with_lazy p low) → Lt a.from a.to →
    IsAcrossReported low new_low high new_high a room r → IsReportedOf n all p low
    → IsReportedOf n (cond (is_some r) (joint all (a.value ∷ [])) all) p new_low
reported_across_low (Some more) n all low new_low high new_high a room p sorted up across reported =
    subst (λ (ns : List Node). IsReportedOf n (joint all (a.value ∷ [])) p ns)
    (sym across.0.raised_low)
    (reported_raised_one n all a.value p a.from last low across.0.mid_low a.first across.0.lower
    across.0.more_low sorted (up_to_last a.from a.to up)
    (starts_below_last (with_lazy p low) (reported_some n all p low reported)) across.0.first
    reported)
reported_across_low None n all low new_low high new_high a room p sorted up across reported =
    subst (λ (ns : List Node). IsReportedOf n all p ns) (sym across.0) reported

-- and of the upper one
pub reported_across_high : (r : Option Growth) (n : ℕ) (all : ValueView)
    (low new_low high new_high : List Node) (a : InsertionView) (room : ℕ) (p : Option ValueView) →
    IsSorted (with_lazy p high) → Lt a.from a.to →
    Lt (start_of (with_lazy p high)) a.to → IsAcrossReported low new_low high new_high a room r →
    IsReportedOf n all p high
    → IsReportedOf n (cond (is_some r) (joint all (a.value ∷ [])) all) p new_high
reported_across_high (Some more) n all low new_low high new_high a room p sorted up reaches across reported =
    subst (λ (ns : List Node). IsReportedOf n (joint all (a.value ∷ [])) p ns)
    (sym across.0.raised_high)
    (reported_raised_one n all a.value p (before []) a.to high across.0.mid_high a.second
    across.0.upper across.0.more_high sorted
    (Le_Lt-chain (before []) a.from a.to (lowest a.from) up) reaches across.0.second reported)
reported_across_high None n all low new_low high new_high a room p sorted up reaches across reported
    =
    subst (λ (ns : List Node). IsReportedOf n all p ns) (sym across.1) reported

-- the last subtree that is reached comes behind one that the span goes on beyond
pub later_reached : (ls : List (List Node)) (t : Cut) (p q : ℕ) → AreSome ls →
    IsSorted (nodes_of ls) → is_below (start_of (nodes_of (drop (suc p) ls))) t ≡ true →
    is_below (start_of (nodes_of (drop (suc q) ls))) t ≡ false → p < q
later_reached ls t p q some sorted goes stops = elim (before_or_past p q) [
  | inl h ↦ h
  | inr h ↦ elim (before_or_past (suc p) (length ls)) [
    | inr g ↦ absurd (Lt-not_Le last t (subst (λ (c : Cut). Lt c t) (start_past ls (suc p) g) goes)
        (none_above_last t))
    | inl g ↦
        let rise = starts_rise ls some sorted (suc q) (suc p) [] (omega (arith, h)) g in
        let here = subst (λ (c : Cut). Lt c t) (start_at ls some (suc p) [] g) goes in
        let there = Le_Lt-chain (start_of (get_or ls (suc q) [])) (start_of (get_or ls (suc p) []))
        t rise here in
        absurd (true≢false (sym (subst (λ (c : Cut). Lt c t)
        (sym (start_at ls some (suc q) [] (omega (arith, h, g)))) there) ∙ stops))
  ]
]

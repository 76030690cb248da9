-- Two leaves, to which the end keys of a span come.
use Rattle.std.proofs.Common.{◌≡◌, refl, sym, ap, subst, false, ℕ, ◌<◌, List, [], length, arith}
use Rattle.std.specs.Prelude.{Option, Some, None, Ok, is_some}
use Rattle.tsc_time.specs.ValueView.{ValueView}
use Rattle.tsc_span.specs.Span.{KeyBytes, Cut, before, last, between}
use Rattle.tsc_page_nodes.specs.declared.nodes.Growth.{Growth}
use Rattle.tsc_page_nodes.specs.Nodes.{Node, nodes_cost, IsNewKey, IsInOrder, GrowsBy, raise_nodes, with_new}
use Rattle.tsc_page_nodes.specs.Insertions.{InsertionView, IsInsertionView, LiesAt, AddsWithin, AddsToBoth, IsBothReported}
use Rattle.tsc_page_tree.specs.Leaves.{start_of, IsLeaf}
use Rattle.tsc_page_tree.specs.Lazy.{IsAddReported}
use Rattle.tsc_page_tree.specs.Across.{HasKey, LiesBehind, MakesOne, AreRaisedKnown, IsAcrossReported, IsOverReported}
use Rattle.tsc_span.proofs.CutOrder.{Lt, Le, Le-from_Lt}
use Rattle.tsc_page_nodes.proofs.Costs.{cost-raised}
use Rattle.tsc_page_nodes.proofs.Edits.{raise_nodes-length}
use Rattle.tsc_page_tree.proofs.Joins.{up_to_last}
use Rattle.tsc_page_tree.proofs.LeafAdds.{low_end}
use Rattle.tsc_page_tree.proofs.SubtreeAcross.{not_new}

-- what is added to the leaf in which a span starts, and to that in which it stops
abbrev pub low_part : InsertionView → InsertionView
low_part a = record { first = a.first; second = None; from = a.from; to = last; value = a.value }

abbrev pub high_part : InsertionView → InsertionView
high_part a = record {
  first = None;
  second = a.second;
  from = before [];
  to = a.to;
  value = a.value;
}

-- both are as they have to be
order_none : (o : Option KeyBytes) → IsInOrder o None
order_none None = tt
order_none (Some k) = tt

pub low_fits : (a : InsertionView) → IsInsertionView a → IsInsertionView (low_part a)
low_fits a fits = (up_to_last a.from a.to fits.0, fits.1, tt, order_none a.first)

-- a key at a cut that isn't below where nodes begin comes in behind that
behind_at : (old : List Node) (c : Cut) (o : Option KeyBytes) (g : Option (ℕ × KeyBytes)) →
    Le (start_of old) c → LiesAt o c → IsNewKey old o g → LiesBehind old g
behind_at old c o None low lies new = tt
behind_at old c None (Some f) low lies new = absurd new
behind_at old c (Some k) (Some f) low lies new =
    subst (λ (q : KeyBytes). Le (start_of old) (before q)) (sym new.0)
    (low_end c (Some k) old low lies k refl)

-- raising makes nothing come in
grown_mid : (old new mid : List Node) (f t : Cut) (v : ValueView) (more : Growth) →
    new ≡ raise_nodes (between f t) v mid → GrowsBy old new more → GrowsBy old mid more
grown_mid old new mid f t v more raised grown = record {
  count = omega (
    arith,
    ap length raised,
    raise_nodes-length (between f t) v mid,
    grown.count,
  );
  cost = omega (arith, ap nodes_cost raised, cost-raised (between f t) v mid, grown.cost);
}

-- the first key comes in in the lower leaf
one_first : (old new : List Node) (a : InsertionView) (room more : Growth) →
    Le (start_of old) a.from → LiesAt a.first a.from →
    (w : AddsWithin old new (low_part a) room more) →
    MakesOne old w.adds.mid a.first w.adds.made.lower more
one_first old new a room more low lies w =
    by w.adds.made.upper w.adds.made.has_upper w.adds.made.nodes
  where
    by : (u : Option (ℕ × KeyBytes)) → IsNewKey old None u →
        w.adds.mid ≡ with_new (with_new old u) w.adds.made.lower →
        MakesOne old w.adds.mid a.first w.adds.made.lower more
    by (Some f) none nodes = absurd none
    by None none nodes = record {
      is_new = w.adds.made.has_lower;
      behind = behind_at old a.from a.first w.adds.made.lower low lies w.adds.made.has_lower;
      nodes = nodes;
      grown = grown_mid old new w.adds.mid a.from last a.value more w.adds.raised w.grown;
    }

-- and the second key in the upper one
one_second : (old new : List Node) (a : InsertionView) (room more : Growth) →
    Le (start_of old) a.to → LiesAt a.second a.to →
    (w : AddsWithin old new (high_part a) room more) →
    MakesOne old w.adds.mid a.second w.adds.made.upper more
one_second old new a room more low lies w =
    by w.adds.made.lower w.adds.made.has_lower w.adds.made.nodes
  where
    by : (u : Option (ℕ × KeyBytes)) → IsNewKey old None u →
        w.adds.mid ≡ with_new (with_new old w.adds.made.upper) u →
        MakesOne old w.adds.mid a.second w.adds.made.upper more
    by (Some f) none nodes = absurd none
    by None none nodes = record {
      is_new = w.adds.made.has_upper;
      behind = behind_at old a.to a.second w.adds.made.upper low lies w.adds.made.has_upper;
      nodes = nodes;
      grown = grown_mid old new w.adds.mid (before []) a.to a.value more w.adds.raised w.grown;
    }

pub ends_across : (low new_low high new_high : List Node) (a : InsertionView) (room : ℕ)
    (more : Growth) → IsInsertionView a → Le (start_of low) a.from → Lt (start_of high) a.to →
    AddsToBoth low new_low high new_high (low_part a) (high_part a) room more →
    IsAcrossReported low new_low high new_high a room (Some more)
ends_across low new_low high new_high a room more fits starts reaches both = (
  record {
    mid_low = both.adds_low.adds.mid;
    mid_high = both.adds_high.adds.mid;
    lower = both.adds_low.adds.made.lower;
    upper = both.adds_high.adds.made.upper;
    more_low = both.more_low;
    more_high = both.more_high;
    first = one_first low new_low a (record { nodes = 1; bytes = room }) both.more_low starts fits.1
        both.adds_low;
    second = one_second high new_high a (record { nodes = 1; bytes = room }) both.more_high
        (Le-from_Lt (start_of high) a.to reaches) fits.2 both.adds_high;
    raised_low = both.adds_low.adds.raised;
    raised_high = both.adds_high.adds.raised;
    grown = record { nodes = both.nodes; bytes = both.bytes };
  },
  both.within,
)

-- what is told where something comes in
pub both_reported : (E : Type 0) (low new_low high new_high : List Node) (a b : InsertionView) (room : ℕ)
    (o : Option Growth) (more : Growth) → o ≡ Some more →
    IsBothReported {E = E} low new_low high new_high a b room (Ok o) →
    AddsToBoth low new_low high new_high a b room more
both_reported E low new_low high new_high a b room o more is reported =
    subst (λ (q : Option Growth). IsBothReported {E = E} low new_low high new_high a b room (Ok q))
    is
    reported

-- with no more than fit
pub few_with_one : (old new : List Node) (a : InsertionView) (room : ℕ) (more : Growth) →
    IsLeaf old → length old < 64 →
    AddsWithin old new a (record { nodes = 1; bytes = room }) more → IsLeaf new
few_with_one old new a room more leaf few w =
    (omega (arith, leaf.0, w.grown.count), omega (arith, few, w.grown.count, w.within.0))

-- a key that has a node needs none
one_known : (ns : List Node) (o : Option KeyBytes) → HasKey o ns →
    MakesOne ns ns o None (record { nodes = 0; bytes = 0 })
one_known ns o has = record {
  is_new = not_new o ns has;
  behind = tt;
  nodes = refl;
  grown = record { count = omega arith; cost = omega arith };
}

-- where both have nodes nothing comes in
pub known_across : (low new_low high new_high : List Node) (a : InsertionView) (room : ℕ) →
    AreRaisedKnown low new_low high new_high a →
    IsAcrossReported low new_low high new_high a room (Some (record { nodes = 0; bytes = 0 }))
known_across low new_low high new_high a room reported = (
  record {
    mid_low = low;
    mid_high = high;
    lower = None;
    upper = None;
    more_low = record { nodes = 0; bytes = 0 };
    more_high = record { nodes = 0; bytes = 0 };
    first = one_known low a.first reported.first;
    second = one_known high a.second reported.second;
    raised_low = reported.raised_low;
    raised_high = reported.raised_high;
    grown = record { nodes = omega arith; bytes = omega arith };
  },
  omega arith,
)

-- an Add over several subtrees is one to all of them
pub over_reported : (E : Type 0) (r : Option Growth) (old new : List Node) (was now : List ℕ)
    (a : InsertionView) (room : ℕ) → IsOverReported old new a room r →
    (is_some r ≡ false → now ≡ was) → IsAddReported {E = E} old new was now a room (Ok r)
over_reported E (Some more) old new was now a room reported sizes = reported
over_reported E None old new was now a room reported sizes = (reported, sizes refl)

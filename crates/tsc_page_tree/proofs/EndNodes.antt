-- Nodes of the end keys of a span, of which each comes in behind the first node of a subtree.
use Rattle.std.proofs.Common.{◌≡◌, inr, ◌∙◌, refl, sym, ap, subst, Bool, true, false, cond, ℕ, ◌≤◌, List, [], ◌∷◌, ◌++◌, length, arith}
use Rattle.std.specs.Prelude.{Option, Some, None}
use Rattle.std.proofs.Math.Bool.{or-true}
use Rattle.std.proofs.lemmas.List.{length-append}
use Rattle.tsc_time.specs.ValueView.{ValueView}
use Rattle.tsc_span.specs.Span.{KeyBytes, Cut, before, after, is_below}
use Rattle.tsc_page_model.specs.PageView.{is_in}
use Rattle.tsc_page_nodes.specs.declared.nodes.Growth.{Growth}
use Rattle.tsc_page_nodes.specs.Nodes.{Node, node_keys, IsSorted, IsNewKey, GrowsBy, with_new}
use Rattle.tsc_span.specs.Prefixes.{IsCutPrefix}
use Rattle.tsc_page_nodes.specs.Insertions.{InsertionView, LiesAt}
use Rattle.tsc_page_tree.specs.Leaves.{start_of}
use Rattle.tsc_page_tree.specs.Lazy.{everything, with_lazy, all_joint, IsReportedOf}
use Rattle.tsc_page_tree.specs.Across.{LiesBehind, MakesOne}
use Rattle.tsc_span.proofs.CutOrder.{Lt, Le, Le-chain}
use Rattle.tsc_page_nodes.proofs.Costs.{cost-append}
use Rattle.tsc_page_nodes.proofs.NewKeys.{with_new_splits}
use Rattle.tsc_page_tree.proofs.LeafKeys.{is_in-append}
use Rattle.tsc_page_tree.proofs.LeafAdds.{new_left, new_right, shifted, start_with, same_some, known_low}
use Rattle.tsc_page_tree.proofs.Lazy.{lazy-start, lazy-length, lazy-is_in, sorted_without}
use Rattle.tsc_page_tree.proofs.KeyAdds.{new_lazy, lazy_cost}
use Rattle.tsc_page_tree.proofs.SubtreeAcross.{starts_first, has_right, has_at_start, not_new}

-- the key that comes in is the one that was asked for
found_key : (ns : List Node) (k : KeyBytes) (f : ℕ × KeyBytes) → IsNewKey ns (Some k) (Some f) →
    LiesBehind ns (Some f) → (m : KeyBytes) → Some k ≡ Some m → Le (start_of ns) (before m)
found_key ns k f new low m e =
    subst (λ (q : KeyBytes). Le (start_of ns) (before q)) (new.0 ∙ same_some k m e) low

-- nodes begin where they did
pub start_one : (old new : List Node) (o : Option KeyBytes) (g : Option (ℕ × KeyBytes))
    (more : Growth) → 1 ≤ length old → MakesOne old new o g more → start_of new ≡ start_of old
start_one old new o None more some made = ap (λ (ns : List Node). start_of ns) made.nodes
start_one old new None (Some f) more some made = absurd made.is_new
start_one old new (Some k) (Some f) more some made =
    ap (λ (ns : List Node). start_of ns) made.nodes ∙ start_with old (Some k) (Some f)
    (found_key old k f made.is_new made.behind) some made.is_new

-- and are in order
pub sorted_one : (old new : List Node) (o : Option KeyBytes) (g : Option (ℕ × KeyBytes))
    (more : Growth) → IsSorted old → MakesOne old new o g more → IsSorted new
sorted_one old new o g more sorted made = subst IsSorted (sym made.nodes)
    (with_new_splits old o g sorted made.is_new).sorted

-- as many and as costly
grown_left : (l new ys : List Node) (more : Growth) → GrowsBy l new more →
    GrowsBy (l ++ ys) (new ++ ys) more
grown_left l new ys more grown = record {
  count = omega (arith, length-append l ys, length-append new ys, grown.count);
  cost = omega (arith, cost-append l ys, cost-append new ys, grown.cost);
}

grown_right : (xs l new : List Node) (more : Growth) → GrowsBy l new more →
    GrowsBy (xs ++ l) (xs ++ new) more
grown_right xs l new more grown = record {
  count = omega (arith, length-append xs l, length-append xs new, grown.count);
  cost = omega (arith, cost-append xs l, cost-append xs new, grown.cost);
}

-- A node of a key comes in in the first of two lists.
pub one_left : (l new ys : List Node) (o : Option KeyBytes) (g : Option (ℕ × KeyBytes))
    (more : Growth) → 1 ≤ length l → ((k : KeyBytes) → o ≡ Some k → Lt (after k) (start_of ys)) →
    MakesOne l new o g more → MakesOne (l ++ ys) (new ++ ys) o g more
one_left l new ys o g more some high made =
    let both = new_left l ys o g high made.is_new in
    record {
      is_new = both.0;
      behind = by g made.behind;
      nodes = ap (λ (ns : List Node). ns ++ ys) made.nodes ∙ sym both.1;
      grown = grown_left l new ys more made.grown;
    }
  where
    front : (ns : List Node) → 1 ≤ length ns → start_of (ns ++ ys) ≡ start_of ns
    front [] h = absurd (omega (arith, h))
    front (n ∷ ns) h = refl

    by : (f : Option (ℕ × KeyBytes)) → LiesBehind l f → LiesBehind (l ++ ys) f
    by None low = tt
    by (Some f) low = subst (λ (c : Cut). Le c (before f.1)) (sym (front l some)) low

-- One comes in in the second.
pub one_right : (xs ys new : List Node) (o : Option KeyBytes) (g : Option (ℕ × KeyBytes))
    (more : Growth) → 1 ≤ length ys → IsSorted (xs ++ ys) → MakesOne ys new o g more →
    MakesOne (xs ++ ys) (xs ++ new) o (shifted xs g) more
one_right xs ys new None None more some sorted made = record {
  is_new = tt;
  behind = tt;
  nodes = ap (λ (ns : List Node). xs ++ ns) made.nodes;
  grown = grown_right xs ys new more made.grown;
}
one_right xs ys new None (Some f) more some sorted made = absurd made.is_new
one_right xs ys new (Some k) None more some sorted made = record {
  is_new = is_in-append k xs ys ∙ rw made.is_new (or-true (is_in k (node_keys xs)));
  behind = tt;
  nodes = ap (λ (ns : List Node). xs ++ ns) made.nodes;
  grown = grown_right xs ys new more made.grown;
}
one_right xs ys new (Some k) (Some f) more some sorted made =
    let both = new_right xs ys (Some k) (Some f) some
    (λ m e. inr (found_key ys k f made.is_new made.behind m e)) made.is_new in
    record {
      is_new = both.0;
      behind = Le-chain (start_of (xs ++ ys)) (start_of ys) (before f.1)
          (starts_first xs ys sorted) made.behind;
      nodes = ap (λ (ns : List Node). xs ++ ns) made.nodes ∙ sym both.1;
      grown = grown_right xs ys new more made.grown;
    }

-- the second key comes in in a subtree, or is the first of those behind
pub second_left : (a : InsertionView) (q : Option KeyBytes) (high new behind : List Node)
    (g : Option (ℕ × KeyBytes)) (more : Growth) (b : Bool) → 1 ≤ length high →
    is_below a.to (start_of behind) ≡ b → q ≡ cond b a.second None → LiesAt a.second a.to →
    Le a.to (start_of behind) → MakesOne high new q g more →
    MakesOne (high ++ behind) (new ++ behind) a.second g more
second_left a q high new behind g more true some h is lies stops made =
    one_left high new behind a.second g more some (known_low behind a.to a.second h lies)
    (subst (λ (o : Option KeyBytes). MakesOne high new o g more) is made)
second_left a q high new behind g more false some h is lies stops made =
    by g (subst (λ (o : Option KeyBytes). MakesOne high new o g more) is made)
  where
    by : (f : Option (ℕ × KeyBytes)) → MakesOne high new None f more →
        MakesOne (high ++ behind) (new ++ behind) a.second f more
    by (Some f) none = absurd none.is_new
    by None none = record {
      is_new = not_new a.second (high ++ behind)
          (has_right a.second high behind (has_at_start a.second a.to behind lies stops h));
      behind = tt;
      nodes = ap (λ (ns : List Node). ns ++ behind) none.nodes;
      grown = grown_left high new behind more none.grown;
    }

-- a node comes in below the lazy value as above it
pub one_lazy : (p : Option ValueView) (old new : List Node) (o : Option KeyBytes)
    (g : Option (ℕ × KeyBytes)) (more : Growth) → IsSorted old → MakesOne old new o g more →
    MakesOne (with_lazy p old) (with_lazy p new) o g more
one_lazy p old new o g more sorted made = by o g made.is_new made.behind made.nodes
  where
    grown : GrowsBy (with_lazy p old) (with_lazy p new) more
    grown = record {
      count = omega (arith, lazy-length p old, lazy-length p new, made.grown.count);
      cost = omega (arith, lazy_cost p old, lazy_cost p new, made.grown.cost);
    }

    by : (q : Option KeyBytes) (f : Option (ℕ × KeyBytes)) → IsNewKey old q f → LiesBehind old f →
        new ≡ with_new old f → MakesOne (with_lazy p old) (with_lazy p new) q f more
    by None None is low nodes = record {
      is_new = tt;
      behind = tt;
      nodes = ap (with_lazy p) nodes;
      grown = grown;
    }
    by None (Some f) is low nodes = absurd is
    by (Some k) None is low nodes = record {
      is_new = lazy-is_in p k old ∙ is;
      behind = tt;
      nodes = ap (with_lazy p) nodes;
      grown = grown;
    }
    by (Some k) (Some f) is low nodes =
        let at = found_key old k f is low k refl in
        let below = new_lazy p old k (Some f) sorted at is in
        record {
          is_new = below.0;
          behind = subst (λ (c : Cut). Le c (before f.1)) (sym (lazy-start p old)) low;
          nodes = ap (with_lazy p) nodes ∙ below.1;
          grown = grown;
        }

-- what is told of nodes is told of them with one more
pub reported_one : (n : ℕ) (all : ValueView) (p : Option ValueView) (old new : List Node)
    (o : Option KeyBytes) (g : Option (ℕ × KeyBytes)) (more : Growth) → IsSorted (with_lazy p old) →
    MakesOne old new o g more → IsReportedOf n all p old → IsReportedOf n all p new
reported_one n all p old new o g more sorted made reported =
    let above = one_lazy p old new o g more (sorted_without p old sorted) made in
    let split = with_new_splits (with_lazy p old) o g sorted above.is_new in
    record {
      some = omega (arith, reported.some, made.grown.count);
      start = subst (IsCutPrefix n) (sym (start_one old new o g more reported.some made))
          reported.start;
      joint = reported.joint ∙ sym (ap (λ (ns : List Node). all_joint ns) above.nodes ∙
          split.answers everything);
    }

-- The upper nodes get what they have room for, once the lower ones have theirs.
use Rattle.std.proofs.Common.{◌≡◌, ◌∙◌, ap, refl, sym, subst, ◌+◌, ◌-◌, ◌≤◌, List, length, arith}
use Rattle.std.specs.Prelude.{Option, Some, Ok, option_map}
use Rattle.tsc_time.specs.declared.memory.NoMemory.{NoMemory}
use Rattle.tsc_span.specs.Span.{KeyBytes, between}
use Rattle.tsc_page_nodes.specs.declared.nodes.Growth.{Growth}
use Rattle.tsc_page_nodes.specs.Nodes.{Node, IsNewKey, with_new, raise_nodes, nodes_cost, IsSorted}
use Rattle.tsc_page_nodes.specs.Insertions.{InsertionView, AreReady, AddsWithin, IsReported}
use Rattle.tsc_page_nodes.proofs.Apart.{kept_pair}
use Rattle.tsc_page_nodes.proofs.Edits.{raise_nodes-length}
use Rattle.tsc_page_nodes.proofs.Costs.{cost-raised, cost-made}
use Rattle.tsc_page_nodes.proofs.NewKeys.{new_fits, made_length, made_ready}
use Rattle.tsc_page_nodes.proofs.PairedOrder.{paired_raised}
use Rattle.tsc_page_nodes.proofs.nodes.Nodes.insert_across.Goals as goal

-- what is told where something comes in
lower_reported : (E : Type 0) (old new : List Node) (a : InsertionView) (room : Growth)
    (o : Option Growth) (more : Growth) → o ≡ Some more → IsReported {E = E} old new a room (Ok o) →
    AddsWithin old new a room more
lower_reported E old new a room o more is reported =
    subst (λ (q : Option Growth). IsReported {E = E} old new a room (Ok q)) is reported

pub insert_between-requires-clause-ready : goal.insert_between-requires-clause-ready
insert_between-requires-clause-ready c =
    let ns : List Node = c.args.high.now in
    let h = c.in_ok-new.new.first in
    let g = c.in_ok-new.new.second in
    let o : Option KeyBytes = option_map (λ k. k.now) c.stops.inside.first in
    let q : Option KeyBytes = option_map (λ k. k.now) c.stops.inside.second in
    let kept = kept_pair _ c.reserve.new.keys.items _ c.reserve.new.values.items ns
    (c.in_ok-reserve.ensures.keys ∙ ap (λ v. v.items) c.in-Some.ensures.value)
    c.in_ok-reserve.ensures.values c.high.view_is in
    let ready = made_ready ns o q h g (subst IsSorted c.high.view_is c.high.invariant.sorted)
    c.stops.invariant.3 c.in_ok-new.ensures.first c.in_ok-new.ensures.second in
    subst (λ (ms : List Node). AreReady ms h g) (sym kept)
    (record {
      second = new_fits ns q g c.in_ok-new.ensures.second;
      first = ready.1;
      sorted = ready.0;
    })

pub returns : goal.returns
returns c =
    let ns : List Node = c.args.high.now in
    let a : InsertionView = c.args.stops.now in
    let h = c.in_ok-new.new.first in
    let g = c.in_ok-new.new.second in
    let o : Option KeyBytes = option_map (λ k. k.now) c.stops.inside.first in
    let q : Option KeyBytes = option_map (λ k. k.now) c.stops.inside.second in
    let first = subst (λ (b : InsertionView). IsNewKey ns b.first h) c.stops.view_is
    c.in_ok-new.ensures.first in
    let second = subst (λ (b : InsertionView). IsNewKey ns b.second g) c.stops.view_is
    c.in_ok-new.ensures.second in
    let both : List Node = with_new (with_new ns g) h in
    let kept = kept_pair _ c.reserve.new.keys.items _ c.reserve.new.values.items ns
    (c.in_ok-reserve.ensures.keys ∙ ap (λ v. v.items) c.in-Some.ensures.value)
    c.in_ok-reserve.ensures.values c.high.view_is in
    let raised = c.insert_between.ensures.added ∙
    ap (λ (ms : List Node). raise_nodes (between a.from a.to) a.value
    (with_new (with_new ms g) h)) kept in
    let made = made_length ns o q h g (subst IsSorted c.high.view_is c.high.invariant.sorted)
    c.stops.invariant.3 c.in_ok-new.ensures.first c.in_ok-new.ensures.second in
    let lower : AddsWithin c.args.low.now c.insert_in_place.new.self c.args.starts.now
    (record { nodes = 1; bytes = c.args.room - c.grown-made.result.bytes }) c.in-Some-2.more =
    lower_reported NoMemory c.args.low.now c.insert_in_place.new.self c.args.starts.now
    (record { nodes = 1; bytes = c.args.room - c.grown-made.result.bytes }) _ c.in-Some-2.more
    c.in-Some-2.is c.in_ok-more.ensures.reported in
    let one : 1 ≤ 1 = omega arith in
    record {
      reported = record {
        more_low = c.in-Some-2.more;
        more_high = c.grown-made.result;
        adds_low = record {
          adds = lower.adds;
          grown = lower.grown;
          within = (lower.within.0, omega (arith, lower.within.1));
        };
        adds_high = record {
          adds = record {
            mid = both;
            made = record {
              lower = h;
              upper = g;
              has_upper = second;
              has_lower = first;
              nodes = refl;
            };
            raised = raised;
          };
          grown = record {
            count = ap length raised ∙ raise_nodes-length (between a.from a.to) a.value both ∙ made ∙
                ap (λ n. length ns + n) (sym c.grown-made.ensures.nodes);
            cost = ap nodes_cost raised ∙ cost-raised (between a.from a.to) a.value both ∙
                cost-made ns h g ∙ ap (λ n. nodes_cost ns + n) (sym c.grown-made.ensures.bytes);
          };
          within = (omega (arith, c.if-made-gt1.false), omega (arith, c.if-made-room.false));
        };
        nodes = refl;
        bytes = refl;
        within = omega (arith, lower.within.1, c.if-made-room.false);
      };
    }

pub invariant_of-high-2 : goal.invariant_of-high-2
invariant_of-high-2 c =
    let ns : List Node = c.args.high.now in
    let a : InsertionView = c.args.stops.now in
    let h = c.in_ok-new.new.first in
    let g = c.in_ok-new.new.second in
    let o : Option KeyBytes = option_map (λ k. k.now) c.stops.inside.first in
    let q : Option KeyBytes = option_map (λ k. k.now) c.stops.inside.second in
    let kept = kept_pair _ c.reserve.new.keys.items _ c.reserve.new.values.items ns
    (c.in_ok-reserve.ensures.keys ∙ ap (λ v. v.items) c.in-Some.ensures.value)
    c.in_ok-reserve.ensures.values c.high.view_is in
    let raised = c.insert_between.ensures.added ∙
    ap (λ (ms : List Node). raise_nodes (between a.from a.to) a.value
    (with_new (with_new ms g) h)) kept in
    let ready = made_ready ns o q h g (subst IsSorted c.high.view_is c.high.invariant.sorted)
    c.stops.invariant.3 c.in_ok-new.ensures.first c.in_ok-new.ensures.second in
    paired_raised _ _ (between a.from a.to) a.value (with_new (with_new ns g) h)
    c.insert_between.ensures.same raised ready.0

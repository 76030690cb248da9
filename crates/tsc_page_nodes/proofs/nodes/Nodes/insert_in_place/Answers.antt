-- The new keys fit in the nodes, and as many come in.
use Rattle.std.proofs.Common.{◌∙◌, ap, refl, sym, subst, ◌+◌, List, length, arith}
use Rattle.std.specs.Prelude.{Option, option_map}
use Rattle.tsc_span.specs.Span.{KeyBytes, between}
use Rattle.tsc_page_nodes.specs.Nodes.{Node, IsNewKey, with_new, raise_nodes, nodes_cost, IsSorted}
use Rattle.tsc_page_nodes.specs.Insertions.{InsertionView, AddsWithin, AreReady}
use Rattle.tsc_page_nodes.proofs.Apart.{kept_pair}
use Rattle.tsc_page_nodes.proofs.Edits.{raise_nodes-length}
use Rattle.tsc_page_nodes.proofs.Costs.{cost-raised, cost-made}
use Rattle.tsc_page_nodes.proofs.NewKeys.{new_fits, made_length, made_ready, none_in}
use Rattle.std.specs.Arc.{arc_value}
use Rattle.tsc_page_nodes.proofs.PairedOrder.{paired_as, paired_raised}
use Rattle.tsc_page_nodes.proofs.nodes.Nodes.insert_in_place.Goals as goal

pub returns-then-made-eq0 : goal.returns-then-made-eq0
returns-then-made-eq0 c =
    let ns : List Node = c.args.self.now in
    let h = c.in_ok-new.new.first in
    let g = c.in_ok-new.new.second in
    let none = none_in ns h g (omega (arith, c.grown-made.ensures.nodes, c.if-made-eq0.true)) in
    record {
      reported = subst (λ (b : InsertionView). AddsWithin ns c.raise_hinted.new.self b c.args.room
          (record { nodes = 0; bytes = 0 })) c.add.view_is (record {
            adds = record {
              mid = ns;
              made =
                  record {
                    lower = h;
                    upper = g;
                    has_upper = c.in_ok-new.ensures.second;
                    has_lower = c.in_ok-new.ensures.first;
                    nodes = sym none;
                  };
              raised =
                  c.raise_hinted.ensures;
            };
            grown = record {
              count = omega (
                arith,
                ap length c.raise_hinted.ensures,
                raise_nodes-length (between c.add.inside.from.now c.add.inside.to.now)
                    c.add.inside.value ns,
              );
              cost = omega (
                arith,
                ap nodes_cost c.raise_hinted.ensures,
                cost-raised (between c.add.inside.from.now c.add.inside.to.now)
                    c.add.inside.value ns,
              );
            };
            within = (omega (arith, c.if-made-room.false), omega (arith, c.if-made-room-2.false));
          });
    }

pub insert_between-requires-clause-ready : goal.insert_between-requires-clause-ready
insert_between-requires-clause-ready c =
    let ns : List Node = c.args.self.now in
    let h = c.in_ok-new.new.first in
    let g = c.in_ok-new.new.second in
    let o : Option KeyBytes = option_map (λ k. k.now) c.add.inside.first in
    let q : Option KeyBytes = option_map (λ k. k.now) c.add.inside.second in
    let kept = kept_pair _ c.reserve.new.keys.items _ c.reserve.new.values.items ns
    (c.in_ok-reserve.ensures.keys ∙ ap (λ v. v.items) c.in-Some.ensures.value)
    c.in_ok-reserve.ensures.values c.self.view_is in
    let ready = made_ready ns o q h g (subst IsSorted c.self.view_is c.self.invariant.sorted) c.add.invariant.3 c.in_ok-new.ensures.first
    c.in_ok-new.ensures.second in
    subst (λ (ms : List Node). AreReady ms h g) (sym kept)
    (record {
      second = new_fits ns q g c.in_ok-new.ensures.second;
      first = ready.1;
      sorted = ready.0;
    })

pub insert_between-requires-clause-room : goal.insert_between-requires-clause-room
insert_between-requires-clause-room c =
    record {
      key_room = c.in_ok-reserve.ensures.key_room;
      value_room = c.in_ok-reserve.ensures.value_room;
    }

pub returns : goal.returns
returns c =
    let ns : List Node = c.args.self.now in
    let a : InsertionView = c.args.add.now in
    let h = c.in_ok-new.new.first in
    let g = c.in_ok-new.new.second in
    let o : Option KeyBytes = option_map (λ k. k.now) c.add.inside.first in
    let q : Option KeyBytes = option_map (λ k. k.now) c.add.inside.second in
    let first = subst (λ (b : InsertionView). IsNewKey ns b.first h) c.add.view_is
    c.in_ok-new.ensures.first in
    let second = subst (λ (b : InsertionView). IsNewKey ns b.second g) c.add.view_is
    c.in_ok-new.ensures.second in
    let both : List Node = with_new (with_new ns g) h in
    let kept = kept_pair _ c.reserve.new.keys.items _ c.reserve.new.values.items ns
    (c.in_ok-reserve.ensures.keys ∙ ap (λ v. v.items) c.in-Some.ensures.value)
    c.in_ok-reserve.ensures.values c.self.view_is in
    let raised = c.insert_between.ensures.added ∙
    ap (λ (ms : List Node). raise_nodes (between a.from a.to) a.value
    (with_new (with_new ms g) h)) kept in
    let made = made_length ns o q h g (subst IsSorted c.self.view_is c.self.invariant.sorted) c.add.invariant.3 c.in_ok-new.ensures.first
    c.in_ok-new.ensures.second in
    record {
      reported = record {
        adds = record {
          mid = both;
          made = record {
            lower = h;
            upper = g;
            has_upper = second;
            has_lower = first;
            nodes = refl;
          };
          raised = raised;
        };
        grown = record {
          count = ap length raised ∙ raise_nodes-length (between a.from a.to) a.value both ∙ made ∙
              ap (λ n. length ns + n) (sym c.grown-made.ensures.nodes);
          cost = ap nodes_cost raised ∙ cost-raised (between a.from a.to) a.value both ∙
              cost-made ns h g ∙ ap (λ n. nodes_cost ns + n) (sym c.grown-made.ensures.bytes);
        };
        within = (omega (arith, c.if-made-room.false), omega (arith, c.if-made-room-2.false));
      };
    }

pub invariant_of-self-in_err-reserve : goal.invariant_of-self-in_err-reserve
invariant_of-self-in_err-reserve c = paired_as _ (arc_value c.self.inside.keys).items _
    c.self.inside.values.items
    (c.reserve.ensures.keys ∙ ap (λ v. v.items) c.in-Some.ensures.value)
    c.reserve.ensures.values c.self.invariant

pub invariant_of-self-2 : goal.invariant_of-self-2
invariant_of-self-2 c =
    let ns : List Node = c.args.self.now in
    let a : InsertionView = c.args.add.now in
    let h = c.in_ok-new.new.first in
    let g = c.in_ok-new.new.second in
    let o : Option KeyBytes = option_map (λ k. k.now) c.add.inside.first in
    let q : Option KeyBytes = option_map (λ k. k.now) c.add.inside.second in
    let kept = kept_pair _ c.reserve.new.keys.items _ c.reserve.new.values.items ns
    (c.in_ok-reserve.ensures.keys ∙ ap (λ v. v.items) c.in-Some.ensures.value)
    c.in_ok-reserve.ensures.values c.self.view_is in
    let raised = c.insert_between.ensures.added ∙
    ap (λ (ms : List Node). raise_nodes (between a.from a.to) a.value
    (with_new (with_new ms g) h)) kept in
    let ready = made_ready ns o q h g (subst IsSorted c.self.view_is c.self.invariant.sorted)
    c.add.invariant.3 c.in_ok-new.ensures.first c.in_ok-new.ensures.second in
    paired_raised _ _ (between a.from a.to) a.value (with_new (with_new ns g) h)
    c.insert_between.ensures.same raised ready.0

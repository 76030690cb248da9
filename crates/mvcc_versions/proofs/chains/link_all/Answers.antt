-- Proves the contract of `link_all`. Lays down versions that were made for writes, each at the
-- front of its key's chain.
use Rattle.std.proofs.Common.{◌≡◌, ◌∙◌, ◌∷◌, ◌+◌, ap, sym, subst, drop, [], Some, List}
use Rattle.std.specs.BTreeMap.{BTreeMap}
use Rattle.timestamp_cache.specs.Words.{KeyBytes}
use Rattle.mvcc_versions.specs.Versions.{Version, Write, stored, chain_of}
use Rattle.mvcc_versions.specs.Maps.{HaveRoom, nodes_of}
use Rattle.mvcc_versions.proofs.Linking.{next_write, popped, room_on, stored_on}
use Rattle.mvcc_versions.proofs.chains.link_all.Goals as goal
use Rattle.mvcc_versions.proofs.chains.link_all.Goals.{in-Some, in_default}

pub loop-write-preserved : goal.loop-write-preserved
loop-write-preserved c =
    let ws = c.args.writes.now in
    let at = c.args.at in
    let by = c.args.by in
    let i = c.loop-write.write-index in
    let w = c.write-item.result in
    let old = c.args.chains.now in
    let m = c.loop-write.chains in
    let d = next_write ws i w c.loop-write-test.true (sym c.write-item.is) in
    let first : List Version = record { at = at; by = by; content = w.content } ∷ [] in
    let left : c.loop-write.rest ≡ first ∷ nodes_of at by (drop (i + 1) ws) =
    c.loop-write.invariant.left ∙ ap (λ (xs : List Write). nodes_of at by xs) d in
    let pop = popped c.pop_front.result c.loop-write.rest c.pop_front.new.self
    (nodes_of at by (drop (i + 1) ws)) first c.pop_front.ensures.items left
    c.pop_front.ensures.cases in
    elim c.match-pop_front.branch [
      | in-Some b ↦ let same : Some b.in-Some.node ≡ Some first = sym b.in-Some.is ∙ pop.0 in
          let node : b.in-Some.node ≡ first = cc in
          record {
            left = pop.1;
            room = subst (λ (x : BTreeMap KeyBytes (List Version)). HaveRoom _ x.entries ws)
                (sym b.chains-is)
                (room_on ws i w m b.link_write.new.chains d b.link_write.ensures.room
                c.loop-write.invariant.room);
            chains = subst (λ (x : BTreeMap KeyBytes (List Version)). (k : KeyBytes)
                → stored k at by (drop (i + 1) ws) (chain_of x.entries k) ≡ stored k at by ws
                (chain_of old.entries k)) (sym b.chains-is)
                (stored_on ws i w at by old m b.link_write.new.chains b.in-Some.node d node
                b.link_write.ensures.chains c.loop-write.invariant.chains);
          }
      | in_default b ↦ absurd (b.in_default.not-Some first pop.0)
    ]

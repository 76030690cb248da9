-- The element comes before the others, whether these became a chunk or not.
use Rattle.std.proofs.Common.{◌≡◌, ◌∷◌, ◌∙◌, ap, ◌+◌, ◌++◌, map, take, rules, arith}
use Rattle.std.proofs.lemmas.List.{length-map}
use Rattle.std.specs.Arc.{arc_value}
use Rattle.tsc_chunks.specs.Chunks.{in_chunk, in_chunks, joined}
use Rattle.tsc_chunks.specs.contracts.list.ChunkedList.{the_view}
use Rattle.tsc_chunks.proofs.FullChunks.{take_behind}
use Rattle.tsc_chunks.proofs.list.ChunkedList.push_front.Goals as goal
use Rattle.tsc_chunks.proofs.list.ChunkedList.push_front.Goals.{then-len-ge-CHUNK+else-self-ge-MOST+in_ok-push_chunk, else-len-ge-CHUNK}

pub returns-clause-pushed : goal.returns-clause-pushed
returns-clause-pushed g c =
    let b = c.if-len-ge-CHUNK.self-inside in
    let items : c.push_front.new.self.items ≡ c.args.element ∷ b.newest.items = search rules in
    let o = c.self.inside in
    let held = length-map o.newest.items (λ p. arc_value p) in
    let all = o.newest.ok.0 in
    let count = c.len.ensures in
    let most = c.self.invariant.0 in
    let rest : the_view g.row.T b ≡ c.args.self.now = elim c.if-len-ge-CHUNK.branch [
      | then-len-ge-CHUNK+else-self-ge-MOST+in_ok-push_chunk w ↦ let full =
          w.if-len-ge-CHUNK.true in
          ap (the_view g.row.T) w.self-inside-is
          ∙ ap (λ ps. map (λ p. arc_value p) ps ++
          take (o.chunked + 256) (joined (in_chunks (arc_value w.push_chunk.new.chunks))))
          w.clear.ensures.items
          ∙ ap (λ kss. take (o.chunked + 256) (joined kss)) w.in_ok-push_chunk.ensures.pushed
          ∙ take_behind (in_chunk o.newest) (joined (in_chunks (arc_value o.chunks))) o.chunked
          (omega arith)
          ∙ c.self.view_is
      | else-len-ge-CHUNK w ↦ ap (the_view g.row.T) w.self-inside-is ∙ c.self.view_is
    ] in
    ap (λ ps. map (λ p. arc_value p) ps ++ take b.chunked (joined (in_chunks (arc_value b.chunks))))
    items ∙ ap (λ ps. arc_value c.args.element ∷ ps) rest

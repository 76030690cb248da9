-- The chunk in which a position stands, and the place there.
use Rattle.std.proofs.Common.{◌≡◌, ◌∙◌, sym, ap, subst, ◌<◌, ◌/◌, ◌%◌, List, length, get_or, arith}
use Rattle.std.proofs.lemmas.List.{length-map}
use Rattle.std.proofs.Math.ListN.{get_or-map}
use Rattle.std.specs.Arc.{arc_value}
use Rattle.tsc_chunks.specs.Chunks.{in_chunk, in_chunks}
use Rattle.tsc_chunks.proofs.FullChunks.{stands_in}
use Rattle.tsc_chunks.proofs.list.get_in.Goals as goal

pub index-chunk-requires : goal.index-chunk-requires
index-chunk-requires g c =
    let stands = stands_in (in_chunks c.args.chunks.now) c.args.at c.requires.full
    c.requires.within in
    let chunk = stands.chunk in
    let long = length-map c.args.chunks.now.items (λ k. in_chunk (arc_value k)) in
    let all = c.args.chunks.now.ok.0 in
    omega arith

pub index-requires : goal.index-requires
index-requires g c =
    let stands = stands_in (in_chunks c.args.chunks.now) c.args.at c.requires.full
    c.requires.within in
    let d = c.index-chunk.result.now in
    let is : get_or (in_chunks c.args.chunks.now) (c.args.at / 256) (in_chunk (arc_value d)) ≡
    in_chunk c.deref.result.now =
    get_or-map (λ k. in_chunk (arc_value k)) c.args.chunks.now.items (c.args.at / 256) d ∙
    ap (λ k. in_chunk (arc_value k)) (sym c.index-chunk.ensures) ∙
    ap in_chunk (sym c.deref.ensures) in
    let within : c.args.at % 256 < length (in_chunk c.deref.result.now) =
    subst (λ ps. c.args.at % 256 < length ps) is (stands.within (in_chunk (arc_value d))) in
    let long = length-map c.deref.result.now.items (λ p. arc_value p) in
    let all = c.deref.result.now.ok.0 in
    omega arith

pub returns : goal.returns
returns g c =
    let stands = stands_in (in_chunks c.args.chunks.now) c.args.at c.requires.full
    c.requires.within in
    let d = c.index-chunk.result.now in
    let q = c.deref.result.now in
    let element = c.deref-2.result.now in
    let is : get_or (in_chunks c.args.chunks.now) (c.args.at / 256) (in_chunk (arc_value d)) ≡
    in_chunk q =
    get_or-map (λ k. in_chunk (arc_value k)) c.args.chunks.now.items (c.args.at / 256) d ∙
    ap (λ k. in_chunk (arc_value k)) (sym c.index-chunk.ensures) ∙
    ap in_chunk (sym c.deref.ensures) in
    let item : element ≡ get_or (in_chunk q) (c.args.at % 256) (arc_value c.index.result.now) =
    c.deref-2.ensures ∙ ap (λ p. arc_value p) c.index.ensures ∙
    sym (get_or-map (λ p. arc_value p) q.items (c.args.at % 256) c.index.result.now) in
    let same : get_or (in_chunk q) (c.args.at % 256) (arc_value c.index.result.now) ≡
    get_or (in_chunk q) (c.args.at % 256) element =
    ap (get_or (in_chunk q) (c.args.at % 256)) (sym c.deref-2.ensures) in
    item ∙ same ∙ sym (stands.is (in_chunk (arc_value d)) element ∙
    ap (λ (ps : List g.row.T.Denot). get_or ps (c.args.at % 256) element) is)

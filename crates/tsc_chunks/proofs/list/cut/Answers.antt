-- Chunks behind the elements that stay go, and then what stands behind these elements in the last chunk.
use Rattle.std.proofs.Common.{◌≡◌, ◌⊎◌, ◌∙◌, refl, sym, ap, subst, ◌/◌, ◌%◌, length, map, take, get_or, arith}
use Rattle.std.proofs.lemmas.List.{length-map, take-map, map-set}
use Rattle.std.proofs.Math.ListN.{get_or-map, set}
use Rattle.std.specs.Arc.{arc_value}
use Rattle.tsc_chunks.specs.Chunks.{in_chunk, in_chunks, IsCutTo}
use Rattle.tsc_chunks.proofs.FullChunks.{cut_chunks, cut_whole}
use Rattle.tsc_chunks.proofs.list.cut.Goals as goal

pub returns-in_default : goal.returns-in_default
returns-in_default g c =
    let n = c.div_ceil.result in
    let is = c.div_ceil.ensures in
    let left : in_chunks c.truncate.new.self ≡ take n (in_chunks c.args.chunks.now) =
    ap (map (λ k. in_chunk (arc_value k))) c.truncate.ensures.items ∙
    sym (take-map (λ k. in_chunk (arc_value k)) n c.args.chunks.now.items) in
    subst (IsCutTo c.args.kept (in_chunks c.args.chunks.now)) (sym left)
    (cut_chunks c.args.kept n (in_chunks c.args.chunks.now) c.requires.full c.requires.within
    (omega arith))

pub returns-in-Some : goal.returns-in-Some
returns-in-Some g c =
    let n = c.div_ceil.result in
    let q = c.truncate.new.self in
    let w = c.args.kept / 256 in
    let old = c.in-Some.oldest.now in
    let new = in_chunk (arc_value c.cut_chunk.new.chunk) in
    let left : in_chunks q ≡ take n (in_chunks c.args.chunks.now) =
    ap (map (λ k. in_chunk (arc_value k))) c.truncate.ensures.items ∙
    sym (take-map (λ k. in_chunk (arc_value k)) n c.args.chunks.now.items) in
    let here : in_chunk (arc_value old) ≡ get_or (take n (in_chunks c.args.chunks.now)) w
    (in_chunk (arc_value old)) =
    ap (λ k. in_chunk (arc_value k)) c.in-Some.ensures.value ∙
    sym (get_or-map (λ k. in_chunk (arc_value k)) q.items w old) ∙
    ap (λ ks. get_or ks w (in_chunk (arc_value old))) left in
    let reported = subst (λ ps. (new ≡ ps) ⊎ (new ≡ take (c.args.kept % 256) ps)) here
    c.cut_chunk.ensures in
    let all = q.ok.0 in
    let long : length (in_chunks q) ≡ length q.items =
    length-map q.items (λ k. in_chunk (arc_value k)) in
    let same : length (in_chunks q) ≡ length (take n (in_chunks c.args.chunks.now)) =
    ap length left in
    let some = c.in-Some.ensures.variant.0 refl in
    let done = cut_whole c.args.kept n (in_chunks c.args.chunks.now) new (in_chunk (arc_value old))
    c.requires.full c.requires.within c.div_ceil.ensures (omega arith) reported in
    subst (IsCutTo c.args.kept (in_chunks c.args.chunks.now))
    (sym (map-set (λ k. in_chunk (arc_value k)) q.items w c.cut_chunk.new.chunk ∙
    ap (λ ks. set ks w new) left)) done

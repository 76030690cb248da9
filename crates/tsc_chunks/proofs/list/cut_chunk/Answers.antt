-- A chunk that is one's own has the elements that it had.
use Rattle.std.proofs.Common.{◌≡◌, inl, inr, ◌∙◌, sym, ap, take, map, rules}
use Rattle.std.proofs.lemmas.List.{take-map}
use Rattle.std.specs.Arc.{arc_value}
use Rattle.tsc_chunks.specs.Chunks.{in_chunk}
use Rattle.tsc_chunks.proofs.FullChunks.{clones_same, unless_ok}
use Rattle.tsc_chunks.proofs.list.cut_chunk.Goals as goal

pub returns-in-Ok : goal.returns-in-Ok
returns-in-Ok g c =
    let old = arc_value c.args.chunk.now in
    let own = c.in-Ok.elements.now in
    let same : in_chunk own ≡ in_chunk old =
    elim c.in-Ok.ensures.value [
      | inl h ↦ ap in_chunk h
      | inr h ↦ clones_same (λ p. arc_value p) (λ p. p) old.items
          own.items h.0
    ] in
    let kept = c.make_mut.follows.holds c.truncate.new.self (search rules) in
    inr (ap in_chunk kept ∙ ap (map (λ p. arc_value p)) c.truncate.ensures.items ∙
    sym (take-map (λ p. arc_value p) c.args.kept own.items) ∙ ap (take c.args.kept) same)

pub returns-in_default : goal.returns-in_default
returns-in_default g c =
    let old = arc_value c.args.chunk.now in
    let left = unless_ok c.make_mut.result _ c.in_default.not-Ok c.make_mut.follows.holds-at-none in
    inl (elim left [
      | inl h ↦ ap in_chunk h
      | inr h ↦ clones_same (λ p. arc_value p) (λ p. p)
          old.items _ h.0
    ])

-- A list of chunks that is one's own has the chunks that it had.
use Rattle.std.proofs.Common.{◌≡◌, inl, inr, sym, ap, subst, ◌≤◌, List, length, rules}
use Rattle.std.specs.Arc.{arc_value}
use Rattle.tsc_chunks.specs.Chunks.{in_chunk, in_chunks, joined, AreFull, IsCutTo}
use Rattle.tsc_chunks.proofs.FullChunks.{clones_same, unless_ok, cut_nothing}
use Rattle.tsc_chunks.proofs.list.trim_chunks.Goals as goal

pub cut-requires-clause-full : goal.cut-requires-clause-full
cut-requires-clause-full g c =
    let old = arc_value c.args.chunks.now in
    let own = c.in-Ok.chunks.now in
    let same : in_chunks own ≡ in_chunks old =
    elim c.in-Ok.ensures.value [
      | inl h ↦ ap in_chunks h
      | inr h ↦ clones_same (λ k. arc_value k) in_chunk old.items
          own.items h.0
    ] in
    subst AreFull (sym same) c.requires.full

pub cut-requires-clause-within : goal.cut-requires-clause-within
cut-requires-clause-within g c =
    let old = arc_value c.args.chunks.now in
    let own = c.in-Ok.chunks.now in
    let same : in_chunks own ≡ in_chunks old =
    elim c.in-Ok.ensures.value [
      | inl h ↦ ap in_chunks h
      | inr h ↦ clones_same (λ k. arc_value k) in_chunk old.items
          own.items h.0
    ] in
    subst (λ (kss : List (List g.row.T.Denot)). c.args.kept ≤ length (joined kss)) (sym same)
    c.requires.within

pub returns-in-Ok : goal.returns-in-Ok
returns-in-Ok g c =
    let old = arc_value c.args.chunks.now in
    let own = c.in-Ok.chunks.now in
    let same : in_chunks own ≡ in_chunks old =
    elim c.in-Ok.ensures.value [
      | inl h ↦ ap in_chunks h
      | inr h ↦ clones_same (λ k. arc_value k) in_chunk old.items
          own.items h.0
    ] in
    let held = c.make_mut.follows.holds c.cut.new.chunks (search rules) in
    subst (IsCutTo c.args.kept (in_chunks old)) (sym (ap in_chunks held))
    (subst (λ (kss : List (List g.row.T.Denot)). IsCutTo c.args.kept kss (in_chunks c.cut.new.chunks))
    same c.cut.ensures)

pub returns-in_default : goal.returns-in_default
returns-in_default g c =
    let old = arc_value c.args.chunks.now in
    let left = unless_ok c.make_mut.result _ c.in_default.not-Ok c.make_mut.follows.holds-at-none in
    cut_nothing c.args.kept (in_chunks old) _ c.requires.full c.requires.within
    (elim left [
      | inl h ↦ ap in_chunks h
      | inr h ↦ clones_same (λ k. arc_value k) in_chunk
          old.items _ h.0
    ])

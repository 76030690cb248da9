-- A list of chunks that is one's own has the chunks that it had.
use Rattle.std.proofs.Common.{◌≡◌, ◌∷◌, inl, inr, ◌∙◌, sym, ap, map, rules}
use Rattle.std.specs.Prelude.{Ok, Err}
use Rattle.std.specs.Arc.{arc_value}
use Rattle.tsc_chunks.specs.Chunks.{in_chunk, in_chunks}
use Rattle.tsc_chunks.proofs.FullChunks.{clones_same, unless_ok, stays_at_err}
use Rattle.tsc_chunks.proofs.list.push_chunk.Goals as goal

pub returns-in_err-chunks-clause-unchanged : goal.returns-in_err-chunks-clause-unchanged
returns-in_err-chunks-clause-unchanged g c =
    let old = arc_value c.args.chunks.now in
    let left = unless_ok c.make_mut.result _
    (λ x is. absurd (err_is_not_ok (sym c.in_err-chunks.was ∙ is)))
    c.make_mut.follows.holds-at-none in
    stays_at_err c.from_residual-in_err-chunks.result
    (elim left [
      | inl h ↦ ap in_chunks h
      | inr h ↦ clones_same (λ k. arc_value k) in_chunk
          old.items _ h.0
    ])
  where
    err_is_not_ok : {T E : Type 0} {e : E} {x : T} → Err e ≡ Ok x → ⊥
    err_is_not_ok h = cc

pub returns-in_err-push_front-clause-unchanged : goal.returns-in_err-push_front-clause-unchanged
returns-in_err-push_front-clause-unchanged g c =
    let old = arc_value c.args.chunks.now in
    let own = c.in_ok-chunks.chunks.now in
    let same : in_chunks own ≡ in_chunks old =
    elim c.in_ok-chunks.ensures.value [
      | inl h ↦ ap in_chunks h
      | inr h ↦ clones_same (λ k. arc_value k) in_chunk old.items
          own.items h.0
    ] in
    let held = c.make_mut.follows.holds c.push_front.new.self (search rules) in
    let items : c.push_front.new.self.items ≡ own.items = search rules in
    stays_at_err c.from_residual-in_err-push_front.result
    (ap in_chunks held ∙ ap (map (λ k. in_chunk (arc_value k))) items ∙ same)

pub returns-clause-pushed : goal.returns-clause-pushed
returns-clause-pushed g c =
    let old = arc_value c.args.chunks.now in
    let own = c.in_ok-chunks.chunks.now in
    let same : in_chunks own ≡ in_chunks old =
    elim c.in_ok-chunks.ensures.value [
      | inl h ↦ ap in_chunks h
      | inr h ↦ clones_same (λ k. arc_value k) in_chunk old.items
          own.items h.0
    ] in
    let held = c.make_mut.follows.holds c.push_front.new.self (search rules) in
    let items : c.push_front.new.self.items ≡ c.in_ok-chunk.chunk ∷ own.items = search rules in
    let made : in_chunk (arc_value c.in_ok-chunk.chunk) ≡ in_chunk c.args.elements.now =
    ap in_chunk c.in_ok-chunk.ensures.ok ∙ c.in_ok-copy_of.ensures in
    ap in_chunks held ∙ ap (map (λ k. in_chunk (arc_value k))) items ∙
    ap (λ ks. in_chunk (arc_value c.in_ok-chunk.chunk) ∷ ks) same ∙
    ap (λ ps. ps ∷ in_chunks old) made

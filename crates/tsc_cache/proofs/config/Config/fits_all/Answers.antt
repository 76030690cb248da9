-- A mark that is too large tells that not all fit.
use Rattle.std.proofs.Common.{◌≡◌, ◌∙◌, sym, ap, ℕ, zero, suc, ◌<◌, List, [], ◌∷◌, length, drop, get_or, false, refl, arith}
use Rattle.tsc_page_model.specs.Page.{Mark}
use Rattle.tsc_cache.specs.ConfigView.{ConfigView, fits}
use Rattle.tsc_cache.specs.Batch.{all_fit}
use Rattle.tsc_cache.proofs.config.Config.fits_all.Goals as goal

too_large : (config : ConfigView) (ms : List Mark) (i : ℕ) (m : Mark) → i < length ms →
    m ≡ get_or ms i m → fits config m.span ≡ false → false ≡ all_fit config (drop i ms)
too_large config [] i m few is large = absurd (omega arith)
too_large config (n ∷ ms) zero m few is large =
    rw (ap (λ (x : Mark). fits config x.span) (sym is) ∙ large) refl
too_large config (n ∷ ms) (suc i) m few is large =
    too_large config ms i m (omega arith) is large

pub returns-then-not-fits-clause-value : goal.returns-then-not-fits-clause-value
returns-then-not-fits-clause-value c =
    let large = ap (λ (m : Mark). fits c.args.self.now m.span) (sym c.mark.view_is) ∙
    sym c.fits.ensures ∙ c.if-not-fits.true in
    too_large c.args.self.now c.args.marks.now c.loop-mark.mark-index c.mark-item.result
    c.loop-mark-test.true c.mark-item.is large ∙ c.loop-mark.invariant

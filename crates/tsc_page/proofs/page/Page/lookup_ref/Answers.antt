-- Nothing overlaps the empty span.
use Rattle.std.proofs.Common.{◌∙◌, sym, ap}
use Rattle.tsc_page_model.specs.PageView.{answer}
use Rattle.tsc_page_model.proofs.Standing.{nothing_answered}
use Rattle.tsc_page.proofs.page.Page.lookup_ref.Goals as goal

pub returns-in-None-clause-value : goal.returns-in-None-clause-value
returns-in-None-clause-value c = c.unowned.ensures ∙ sym (nothing_answered c.args.self.now) ∙
    ap (answer c.args.self.now) c.in-None.ensures.value

pub returns-in-None-clause-stands : goal.returns-in-None-clause-stands
returns-in-None-clause-stands c p stands = c.unowned.ensures ∙
    sym (nothing_answered c.args.self.now) ∙ ap (answer c.args.self.now) c.in-None.ensures.value ∙
    stands.answers c.args.span.now

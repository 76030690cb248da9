-- Lists with the same keys cost the same.
use Rattle.std.proofs.Common.{◌∙◌, ap}
use Rattle.tsc_page_model.specs.Page.{marked_keys, cost_distinct}
use Rattle.tsc_page_model.specs.PageView.{bytes_of}
use Rattle.tsc_page_model.proofs.Standing.{same_bytes}
use Rattle.tsc_page_model.proofs.plain_page.PlainPageIntervalPage.bytes.Goals as goal

pub returns-clause-stands : goal.returns-clause-stands
returns-clause-stands c p stands = c.cost_keys.ensures ∙
    ap (λ ms. cost_distinct (marked_keys ms)) c.as_slice.ensures.value ∙
    ap bytes_of c.self.view_is ∙ same_bytes c.args.self.now p stands

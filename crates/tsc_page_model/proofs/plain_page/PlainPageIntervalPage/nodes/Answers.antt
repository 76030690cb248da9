-- Lists with the same keys have as many different ones, each of which costs 32 bytes at the least.
use Rattle.std.proofs.Common.{◌∙◌, ap, arith}
use Rattle.tsc_page_model.specs.Page.{marked_keys, count_distinct}
use Rattle.tsc_page_model.specs.PageView.{PageView}
use Rattle.tsc_page_model.proofs.DistinctKeys.{count-costs}
use Rattle.tsc_page_model.proofs.Standing.{same_count}
use Rattle.tsc_page_model.proofs.plain_page.PlainPageIntervalPage.nodes.Goals as goal

pub overflow_cast-result : goal.overflow_cast-result
overflow_cast-result c =
    let all = ap (λ ms. count_distinct (marked_keys ms)) c.as_slice.ensures.value in
    omega (
      arith,
      c.count_keys.ensures,
      all,
      count-costs (marked_keys c.self.inside.marks.items),
      c.self.invariant.0,
      c.self.invariant.2,
    )

pub returns-clause-few : goal.returns-clause-few
returns-clause-few c =
    let all = ap (λ ms. count_distinct (marked_keys ms)) c.as_slice.ensures.value in
    omega (
      arith,
      c.count_keys.ensures,
      all,
      count-costs (marked_keys c.self.inside.marks.items),
      c.self.invariant.0,
      ap (λ (v : PageView). v.size) c.self.view_is,
    )

pub returns-clause-stands : goal.returns-clause-stands
returns-clause-stands c p stands = c.count_keys.ensures ∙
    ap (λ ms. count_distinct (marked_keys ms)) c.as_slice.ensures.value ∙
    ap (λ (v : PageView). count_distinct v.keys) c.self.view_is ∙
    same_count c.args.self.now p stands

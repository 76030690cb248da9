-- The next mark's time is the latest one so far, or below it; no answer comes after them all.
use Rattle.std.proofs.Common.{◌∙◌, sym, ap, List, get_or}
use Rattle.std.specs.Ordering.{ord_max}
use Rattle.tsc_time.specs.Time.{Time, time_cmp, later}
use Rattle.tsc_page_model.specs.Page.{Mark}
use Rattle.tsc_page_model.proofs.Standing.{later-max}
use Rattle.tsc_page_model.proofs.PlainMarks.{latest_more}
use Rattle.tsc_page_model.proofs.Tops.{plain_covers}
use Rattle.tsc_page_model.proofs.plain_page.PlainPageIntervalPage.top.Goals as goal

pub loop-mark-preserved : goal.loop-mark-preserved
loop-mark-preserved c =
    let marks : List Mark = c.deref-mark-items.result.now in
    let next : Time = (get_or marks c.loop-mark.mark-index c.mark-item.result).value.time in
    let at = ap (λ (m : Mark). m.value.time) (c.mark.view_is ∙ c.mark-item.is) in
    c.max-top.ensures ∙ ap (ord_max time_cmp c.loop-mark.top) (c.time.ensures ∙ at) ∙
    later-max c.loop-mark.top next
    ∙ ap (λ (t : Time). later t next) c.loop-mark.invariant
    ∙ sym (latest_more c.self.inside.base marks c.loop-mark.mark-index c.mark-item.result
    c.loop-mark-test.true)

pub returns-clause-covers : goal.returns-clause-covers
returns-clause-covers c = plain_covers c.args.self.now
    (record {
      size = c.self.inside.size;
      base = c.self.inside.base;
      marks = c.self.inside.marks.items;
    }) c.self.view_is

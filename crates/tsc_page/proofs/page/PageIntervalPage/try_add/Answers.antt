-- What is told of a span over keys that lie elsewhere.
use Rattle.std.proofs.Common.{◌∙◌, ap, subst}
use Rattle.tsc_span.specs.Span.{SpanView, is_empty_span}
use Rattle.tsc_page_model.specs.PageAdds.{IsMarkReported}
use Rattle.tsc_page_model.proofs.PageAdds.{reported_room, reported_try}
use Rattle.tsc_page.proofs.page.PageIntervalPage.try_add.Goals as goal

pub add_span-requires : goal.add_span-requires
add_span-requires c = record {
  not_empty = ap is_empty_span c.for_add.ensures ∙
      c.requires.not_empty;
}

pub returns-clause-room : goal.returns-clause-room
returns-clause-room c = reported_room c.args.self.now c.add_span.new.self c.args.span.now
    c.args.value
    c.add_span.result (subst (λ (s : SpanView). IsMarkReported c.args.self.now c.add_span.new.self s
    c.args.value c.add_span.result) c.for_add.ensures c.add_span.ensures.reported)

pub returns-clause-reported : goal.returns-clause-reported
returns-clause-reported c = reported_try c.args.self.now c.add_span.new.self c.args.span.now
    c.args.value
    c.add_span.result (subst (λ (s : SpanView). IsMarkReported c.args.self.now c.add_span.new.self s
    c.args.value c.add_span.result) c.for_add.ensures c.add_span.ensures.reported)

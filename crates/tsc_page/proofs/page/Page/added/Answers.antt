-- What is told of a span over keys that lie elsewhere.
use Rattle.std.proofs.Common.{◌∙◌, ap, subst}
use Rattle.tsc_span.specs.Span.{SpanView, is_empty_span}
use Rattle.tsc_page_model.specs.PageAdds.{IsMarkedReported}
use Rattle.tsc_page_model.proofs.PageAdds.{marked_made}
use Rattle.tsc_page.proofs.page.Page.added.Goals as goal

pub added_span-requires : goal.added_span-requires
added_span-requires c = record {
  not_empty = ap is_empty_span c.for_add.ensures ∙
      c.requires.not_empty;
}

pub returns : goal.returns
returns c = record {
  reported = marked_made c.args.self.now c.args.span.now c.args.value c.added_span.result
      (subst (λ (s : SpanView). IsMarkedReported c.args.self.now s c.args.value c.added_span.result)
      c.for_add.ensures c.added_span.ensures.reported);
}

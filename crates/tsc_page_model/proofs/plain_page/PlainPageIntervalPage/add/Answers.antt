-- The mark comes last.
use Rattle.std.proofs.Common.{◌∙◌, sym, ap, subst, cond, List, [], ◌∷◌, ◌++◌, ◌||◌}
use Rattle.tsc_time.specs.Time.{later}
use Rattle.tsc_time.specs.Joint.{joint}
use Rattle.tsc_span.specs.Span.{SpanView, overlaps, end_keys}
use Rattle.tsc_page_model.specs.Page.{Mark, PageMarks, with_mark, top, marked_keys}
use Rattle.tsc_page_model.specs.PageView.{PageView, Represents, answer, is_in, view_of}
use Rattle.tsc_page_model.proofs.Standing.{top_with}
use Rattle.tsc_page_model.proofs.PlainMarks.{mark_of, answers_push, in_push, push_stands}
use Rattle.tsc_page_model.proofs.plain_page.PlainPageIntervalPage.add.Goals as goal

pub returns : goal.returns
returns c =
    let q : PageMarks = record {
      size = c.self.inside.size;
      base = c.self.inside.base;
      marks = c.self.inside.marks.items;
    } in
    let m : Mark = record { span = c.args.span.now; value = c.args.value } in
    let pushed = c.in_ok-push.ensures.items ∙
    ap (λ (s : SpanView). c.self.inside.marks.items ++ mark_of s c.args.value ∷ [])
    c.in_ok-span.ensures.value in
    record {
      reported = record {
        stands = λ p stands. subst (λ (ms : List Mark). Represents
            (view_of (record { size = c.self.inside.size; base = c.self.inside.base; marks = ms }))
            (with_mark p m)) (sym pushed)
            (push_stands q p m (subst (λ (v : PageView). Represents v p)
            (sym c.self.view_is) stands));
        size = ap (λ (v : PageView). v.size) c.self.view_is;
        top = ap (λ (ms : List Mark). top (record {
          size = c.self.inside.size;
          base = c.self.inside.base;
          marks = ms;
        })) pushed ∙ top_with q m ∙
            ap (λ (v : PageView). later v.top c.args.value.time) c.self.view_is;
        keys = λ k. ap (λ (ms : List Mark). is_in k (marked_keys ms)) pushed ∙
            in_push k c.self.inside.marks.items m ∙
            ap (λ (v : PageView). is_in k v.keys || is_in k (end_keys c.args.span.now))
            c.self.view_is;
        answers = λ s. ap (λ (ms : List Mark). answer
            (view_of (record { size = c.self.inside.size; base = c.self.inside.base; marks = ms }))
            s) pushed ∙ answers_push c.self.inside.marks.items m s ∙
            ap (λ (v : PageView). cond (overlaps c.args.span.now s)
            (joint (answer v s) (c.args.value ∷ [])) (answer v s)) c.self.view_is;
        unchanged = tt;
      };
    }

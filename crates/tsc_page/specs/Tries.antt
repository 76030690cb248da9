-- What a page tells of an Add that it tries in place.
use Rattle.std.specs.Prelude.{◌≡◌, Bool, true, false, Result, Ok, Err}
use Rattle.tsc_time.specs.ValueView.{ValueView}
use Rattle.tsc_span.specs.Span.{SpanView}
use Rattle.tsc_page_model.specs.PageView.{PageView}
use Rattle.tsc_page_model.specs.PageAdds.{AddsMark}

-- what a call to a page tells that adds, or may leave all as it is where there is room too
abbrev pub IsMarkTried : {E : Type 0} → (old new : PageView) → SpanView → ValueView →
    Result Bool E → Type 0
IsMarkTried old new span value (Ok true) = AddsMark old new span value
IsMarkTried old new span value (Ok false) = new ≡ old
IsMarkTried old new span value (Err e) = new ≡ old

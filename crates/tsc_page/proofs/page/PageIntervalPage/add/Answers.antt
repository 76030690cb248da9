-- A page that has room for the span tries to add it, and does.
use Rattle.std.proofs.Common.{◌∙◌}
use Rattle.tsc_page.proofs.page.PageIntervalPage.add.Goals as goal

pub returns : goal.returns
returns c =
    let has = c.in_ok-try_add.ensures.room ∙ c.requires.room in
    let reported = c.in_ok-try_add.ensures.reported in
    record {
      reported = record {
        stands = reported.stands has;
        size = reported.size;
        top = reported.top has;
        keys = reported.keys has;
        answers = reported.answers has;
        unchanged = tt;
      };
    }

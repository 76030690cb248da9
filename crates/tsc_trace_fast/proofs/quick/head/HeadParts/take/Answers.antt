-- Proves the contract of `HeadParts::take`. Reads the member of this name. (Each member has a goal
-- with names of its own, so the six answers have one form and no lemma makes them shorter.)
use Rattle.std.proofs.Common.{arith}
use Rattle.tsc_trace_fast.proofs.TokenLemmas.{deeper}
use Rattle.tsc_trace_fast.proofs.HeadMembers.{head_page_first, head_page_max, head_min_pages, head_retention, head_low_water, head_threads}
use Rattle.tsc_trace_fast.proofs.quick.head.HeadParts.take.Goals as goal

pub returns-in_ok-number_32-in-page_first : goal.returns-in_ok-number_32-in-page_first
returns-in_ok-number_32-in-page_first c = let got =
    c.in_ok-number_32-in-page_first.ensures
    in (
      got.0,
      deeper 0 6 _ _ _ (omega arith) got.1,
      λ found h. rw c.in-page_first.is
          (head_page_first found c.args.self.now got.0 h c.in_ok-number_32-in-page_first.field-0 got.2),
    )

pub returns-in_ok-number_32-in-page_max : goal.returns-in_ok-number_32-in-page_max
returns-in_ok-number_32-in-page_max c = let got =
    c.in_ok-number_32-in-page_max.ensures
    in (
      got.0,
      deeper 0 6 _ _ _ (omega arith) got.1,
      λ found h. rw c.in-page_max.is
          (head_page_max found c.args.self.now got.0 h c.in_ok-number_32-in-page_max.field-0 got.2),
    )

pub returns-in_ok-number_32-in-min_pages : goal.returns-in_ok-number_32-in-min_pages
returns-in_ok-number_32-in-min_pages c = let got =
    c.in_ok-number_32-in-min_pages.ensures
    in (
      got.0,
      deeper 0 6 _ _ _ (omega arith) got.1,
      λ found h. rw c.in-min_pages.is
          (head_min_pages found c.args.self.now got.0 h c.in_ok-number_32-in-min_pages.field-0 got.2),
    )

pub returns-in_ok-number_64-in-retention : goal.returns-in_ok-number_64-in-retention
returns-in_ok-number_64-in-retention c = let got =
    c.in_ok-number_64-in-retention.ensures
    in (
      got.0,
      deeper 0 6 _ _ _ (omega arith) got.1,
      λ found h. rw c.in-retention.is
          (head_retention found c.args.self.now got.0 h c.in_ok-number_64-in-retention.field-0 got.2),
    )

pub returns-in_ok-time-in-low_water : goal.returns-in_ok-time-in-low_water
returns-in_ok-time-in-low_water c = let got =
    c.in_ok-time-in-low_water.ensures
    in (
      got.0,
      deeper 1 6 _ _ _ (omega arith) got.1,
      λ found h. rw c.in-low_water.is
          (head_low_water found c.args.self.now got.0 h c.in_ok-time-in-low_water.field-0 got.2),
    )

pub returns-in_ok-threads-in-threads : goal.returns-in_ok-threads-in-threads
returns-in_ok-threads-in-threads c = let got =
    c.in_ok-threads-in-threads.ensures
    in (
      got.0,
      got.1,
      λ found h. rw c.in-threads.is
          (head_threads found c.args.self.now got.0 h c.in_ok-threads-in-threads.field-0 got.2),
    )

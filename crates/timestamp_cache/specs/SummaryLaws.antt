-- What follows for summaries as bytes.
use Rattle.std.specs.Prelude.{◌≡◌, ℕ, ◌<◌, length, take, Ok, Err}
use Rattle.timestamp_cache.specs.declared.summary_fault.SummaryFault.TheVariants.{Length}
use Rattle.timestamp_cache.specs.HandOver.{Summary}
use Rattle.timestamp_cache.specs.SummaryBytes.{summary_bytes, IsMadeSummary}
use Rattle.timestamp_cache.specs.SummaryReading.{summary_of}

-- Each summary that can be made is read back as it is. Of its bytes no beginning is read but all of
-- them: it is told that bytes are missing.
pub record SummariesAreReadBack : Type 0 where
  pub whole : (reported : Summary) → IsMadeSummary reported →
      summary_of (summary_bytes reported) ≡ Ok reported
  pub cut : (reported : Summary) (n : ℕ) → IsMadeSummary reported →
      n < length (summary_bytes reported) →
      summary_of (take n (summary_bytes reported)) ≡ Err Length

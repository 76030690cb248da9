pub mod Limits
pub mod Page
pub mod PageView
pub mod PageAdds
pub mod KeysAbove
pub use Rattle.tsc_time.specs.Time
pub use Rattle.tsc_time.specs.Joint
pub use Rattle.tsc_span.specs.Span

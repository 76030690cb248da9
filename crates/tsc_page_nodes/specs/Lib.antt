pub mod Nodes
pub mod KeyAdds
pub mod Insertions
pub use Rattle.tsc_time.specs.Time
pub use Rattle.tsc_time.specs.Joint
pub use Rattle.tsc_span.specs.Span

pub mod Leases
pub mod Merging
pub mod StripedSeats

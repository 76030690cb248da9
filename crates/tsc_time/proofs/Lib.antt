pub mod TimeOrder
pub mod Members
pub mod SharedOwner
pub mod RatchetOrder
pub mod JointLemmas
pub mod ZeroBytes
pub mod SameNumber

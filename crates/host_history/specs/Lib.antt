-- What the types of a call's arguments say of an event, and hosts that call exports only.
pub mod Arguments
pub mod Results
pub mod Hosts
pub mod Meaning
pub mod Refusal
pub mod HostClaim
pub mod HandedUp
pub mod HostReads
pub mod HostBooks
pub mod HostDemand

-- One client and one server, every list of events, and what then holds.
pub mod Lists
pub mod World
pub mod Events
pub mod Steps
pub mod Fairness
pub mod Freshness
pub mod Dispatches
pub mod Replies
pub mod Timers
pub mod Numbers
pub mod Cancels
pub mod Claim

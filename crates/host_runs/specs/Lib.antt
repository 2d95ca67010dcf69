-- Runs of a host that calls exports only.
pub mod HostRuns

-- The log of one node, compared with that node's own run.
pub mod Entries
pub mod Heads
pub mod Reports
pub mod Runs
pub mod Steps
pub mod Verdicts

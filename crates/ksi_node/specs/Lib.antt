pub mod Inlet
pub mod Saying
pub mod Serving
pub mod CoreOutcomes
pub mod RoundOutcomes
pub mod RoundSaying
pub mod Failures
pub mod Program

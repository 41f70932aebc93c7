pub mod RoundFacts
pub mod Aggregators
pub mod Cores
pub mod Crashed
pub mod AsNode
pub mod Headline

pub mod Missing
pub mod Knowing
pub mod CalendarLemmas
pub mod SideLemmas

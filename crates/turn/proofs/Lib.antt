pub mod ItemLaws
pub mod TurnCounts
pub mod TurnLaws
pub mod TurnCases
pub mod TurnKept

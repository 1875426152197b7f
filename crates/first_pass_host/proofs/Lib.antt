pub mod HeldLines
pub mod ItemLines
mod WordLemmas
pub mod TimingLemmas
mod TaskWords

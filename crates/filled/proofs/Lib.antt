-- Laws of the answers over filled pages, and of page capacity's.
pub mod FilledAnswers
pub mod Setting

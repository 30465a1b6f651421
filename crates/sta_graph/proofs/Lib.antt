pub mod TrailLaws
pub mod CycleLaws
pub mod TimeLaws
pub mod PassLaws
pub mod AnswerLaws
pub mod LeftLaws
pub mod PeelLaws
pub mod BeginLaws

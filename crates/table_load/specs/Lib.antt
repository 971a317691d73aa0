pub mod SpanChecks
pub mod OpeningSteps
pub mod Opening
pub mod Moving
pub mod Files

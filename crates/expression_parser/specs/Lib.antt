pub mod ExpressionReading
pub mod RepeatReading
pub mod OperatorReading
pub mod LeafReading
pub mod SpecReading

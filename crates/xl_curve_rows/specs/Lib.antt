pub mod CurveRows
pub mod SetRows

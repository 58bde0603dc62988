pub mod Curves
pub mod CurveRun
pub mod CurveLines
pub mod CurveComputing

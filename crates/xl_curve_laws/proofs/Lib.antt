mod Common
mod CurveArrayLemmas
mod CurveLawLemmas

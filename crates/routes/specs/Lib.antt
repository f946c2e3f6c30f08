pub mod Routes
pub mod PreferenceExamples
pub mod Table
pub mod Room
pub mod RouteExamples

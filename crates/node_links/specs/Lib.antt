pub mod FormerLink
pub mod NodeLinks
pub mod LinkRoom
pub mod NetworkRoom

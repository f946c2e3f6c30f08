pub mod Alike
pub mod Anew
pub mod Ends
pub mod Hops
pub mod Mated
pub mod MatedRuns
pub mod Sums

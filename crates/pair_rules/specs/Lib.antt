pub mod Pairs
pub mod Promises
pub mod Laws
pub mod Awaiting
pub mod Deliveries
pub mod Accepting
pub mod Sharing
pub mod OneEndFirst

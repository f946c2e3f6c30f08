pub mod Permutation
pub mod Tags
pub mod Inside
pub mod Hmac
pub mod Cookies
pub mod Nonces

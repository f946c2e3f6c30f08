pub mod Permuting
pub mod Drawing
pub mod Sameness
pub mod CookieTexts

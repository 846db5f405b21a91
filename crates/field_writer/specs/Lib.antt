pub mod Scanned
pub mod RoundTrip
pub mod Sizes
pub mod Examples
pub mod Again

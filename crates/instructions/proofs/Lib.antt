mod Reading
pub mod Places
pub mod RoundTrip

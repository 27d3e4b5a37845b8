-- Laws of listing and writing.
pub mod Numbers
pub mod Fields
pub mod Requests
pub mod Trips
pub mod Texts
pub mod Each
pub mod Cuts
pub mod Back
pub mod InParts
pub mod Tried

pub mod Printed
pub mod Listing

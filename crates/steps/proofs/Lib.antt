pub mod AtNumbers

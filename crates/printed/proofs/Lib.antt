pub mod AsPromised

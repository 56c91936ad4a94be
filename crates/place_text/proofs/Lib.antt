pub mod Printing
pub mod Numerals
pub mod Lengths
pub mod ReadBack

pub mod Counting
pub mod Words
pub mod Trees
pub mod Ranking
pub mod Heaps
pub mod Sifting
pub mod Dating
pub mod Taking

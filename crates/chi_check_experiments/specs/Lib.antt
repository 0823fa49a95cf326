pub mod Experiments

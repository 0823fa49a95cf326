pub mod Defaults
pub mod Faults
pub mod Names
pub mod Predefined
pub mod Typed
pub mod TypeLaws
pub mod TypeRules

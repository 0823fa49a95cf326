pub mod Traces
pub mod There
pub mod Channels
pub mod Laws
pub mod Tracing

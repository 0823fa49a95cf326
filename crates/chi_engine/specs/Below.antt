-- Private to imports: crates below, passed on to those above, which name them by this module and needn't list them in crates.txt.
pub use Rattle.chi_machine_traces

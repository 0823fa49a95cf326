-- Private to imports: crates below, passed on to those above, which name them by this module and needn't list them in crates.txt.
pub use Rattle.chi_check
pub use Rattle.chi_check_places
pub use Rattle.chi_check.specs.Below.chi_check_experiments
pub use Rattle.chi_check.specs.Below.chi_check_headers
pub use Rattle.chi_check.specs.Below.chi_check_stat
pub use Rattle.chi_check.specs.Below.chi_check_stat_lines
pub use Rattle.chi_check.specs.Below.chi_check_stat_rules
pub use Rattle.chi_check.specs.Below.chi_check_streams

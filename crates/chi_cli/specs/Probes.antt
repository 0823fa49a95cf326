-- What the value of `--probe` looks for: a filter of events.
use Rattle.std.specs.Prelude.{bytes_eq, codes, Option, Some, None, option_and_then, option_map, if◌then◌else◌}
use Rattle.chi_trace.specs.declared.filter.EventKind.{EventKind}
use Rattle.chi_trace.specs.declared.filter.EventKind.TheVariants as kind
use Rattle.chi_trace.specs.declared.filter.Filter.{Filter}
use Rattle.chi_trace.specs.declared.filter.Filter.TheVariants as filter
use Rattle.chi_cli.specs.Commands.{Text}
use Rattle.chi_cli.specs.Numbers.{number_sought}
use Rattle.chi_cli.specs.Splitting.{name_in, value_in}

-- the kind of events that a word names
abbrev pub kind_named : Text → Option EventKind
kind_named name =
    if bytes_eq name (codes "local") then Some kind.Local
    else if bytes_eq name (codes "pair") then Some kind.Pair
    else if bytes_eq name (codes "wake") then Some kind.Wake
    else if bytes_eq name (codes "join") then Some kind.Join
    else if bytes_eq name (codes "advance") then Some kind.Advance
    else None

-- What is looked for, by the name of what it is and the word that tells which. There is none in another form; and in
-- this form none again, where the number isn't one.
abbrev pub sought : Text → Text → Option (Option Filter)
sought name which =
    if bytes_eq name (codes "instance") then Some (option_map (λ n. filter.Instance n) (number_sought which))
    else if bytes_eq name (codes "channel") then Some (option_map (λ n. filter.Channel n) (number_sought which))
    else if bytes_eq name (codes "kind") then option_map (λ k. Some (filter.Kind k)) (kind_named which)
    else None

-- with a `=` between the two
abbrev pub probe_in : Text → Option (Option Filter)
probe_in word = option_and_then (sought (name_in word)) (value_in word)

-- of an option's value, or all events where the option isn't given
abbrev pub probe_or_all : Option Text → Option (Option Filter)
probe_or_all None = Some (Some filter.All)
probe_or_all (Some word) = probe_in word

-- What is told of an instance that is there, and of its process.
use Rattle.std.proofs.Common.{◌≡◌, ℕ, List, [], ◌++◌, Some, None, sym, ap, ◌∙◌}
use Rattle.std.specs.Prelude.{codes}
use Rattle.std.specs.Fmt.{decimal}
use Rattle.std.specs.List.{slice_get}
use Rattle.std.specs.Option.{option_map, unwrap_or}
use Rattle.std.proofs.lemmas.Option.{slice_get_within}
use Rattle.chi_core.specs.declared.program.Core.{Core}
use Rattle.chi_core.specs.declared.program.ProcDef.{ProcDef}
use Rattle.chi_core.specs.Config.{Config, Instance, State}
use Rattle.chi_explain.specs.Excerpts.{ended}
use Rattle.chi_explain_waiting.specs.Whereabouts.{at_line, line_at}
use Rattle.chi_explain_waiting.specs.WaitingText.{head_told, instance_told, name_told, state_told}

pub told-some : (core : Core) (source lines : List ℕ) (config : Config) (p : ℕ) (i : Instance) (n line : ℕ) (name none head text : List ℕ) (s : State)
    → text ≡ head ++ state_told config p s
    → head ≡ none ++ ended (codes "instance " ++ decimal p ++ codes " " ++ name ++ at_line source line)
    → none ≡ [] → slice_get config.instances p ≡ Some i → name ≡ name_told core n → n ≡ i.definition → line ≡ line_at lines p i → s ≡ i.state
    → text ≡ instance_told core source lines config p (slice_get config.instances p)
told-some core source lines config p i n line name none head text s is heads empty at named defines stands in_state =
    is ∙ ap (λ (h : List ℕ). h ++ state_told config p s) heads
    ∙ ap (λ (e : List ℕ). (e ++ ended (codes "instance " ++ decimal p ++ codes " " ++ name ++ at_line source line)) ++ state_told config p s) empty
    ∙ ap (λ (m : List ℕ). ended (codes "instance " ++ decimal p ++ codes " " ++ m ++ at_line source line) ++ state_told config p s)
    (named ∙ ap (name_told core) defines)
    ∙ ap (λ (l : ℕ). ended (codes "instance " ++ decimal p ++ codes " " ++ name_told core i.definition ++ at_line source l) ++ state_told config p s) stands
    ∙ ap (λ (t : State). head_told core source lines config p i ++ state_told config p t) in_state
    ∙ sym (ap (instance_told core source lines config p) at)

pub told-none : (core : Core) (source lines : List ℕ) (config : Config) (p : ℕ) (text : List ℕ) → slice_get config.instances p ≡ None → text ≡ []
    → text ≡ instance_told core source lines config p (slice_get config.instances p)
told-none core source lines config p text at is = is ∙ sym (ap (instance_told core source lines config p) at)

pub named-some : (core : Core) (n : ℕ) (d : ProcDef) (name : List ℕ) → slice_get core.procs n ≡ Some d → name ≡ d.name → name ≡ name_told core n
named-some core n d name at is = is ∙ sym (ap (λ o. unwrap_or (option_map (λ e. e.name) o) []) at)

pub named-none : (core : Core) (n : ℕ) (name : List ℕ) → slice_get core.procs n ≡ None → name ≡ [] → name ≡ name_told core n
named-none core n name at is = is ∙ sym (ap (λ o. unwrap_or (option_map (λ e. e.name) o) []) at)

pub ruleset telling = (told-some, told-none, named-some, named-none, slice_get_within)

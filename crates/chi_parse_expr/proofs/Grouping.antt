-- Runs of chains and links of any level, and what is shown of their trees.
use Rattle.std.proofs.Common.{◌≡◌, ℕ, Bool, List, [], map, slice_get, refl, sym, ap, subst, ◌∙◌}
use Rattle.chi_grammar.specs.declared.fault.ParseFault.{ParseFault}
use Rattle.chi_grammar.specs.declared.room.Room.{Room}
use Rattle.chi_grammar.specs.Rules.{leaf, node, pair, part, many, Rule, ◌▸◌}
use Rattle.chi_grammar.specs.Lookahead.{Next, starts_in}
use Rattle.chi_grammar.specs.RuleRuns.{Outcome, Done, Fail, RuleRuns}
use Rattle.chi_token.specs.declared.keyword.Keyword.TheVariants.{AndWord, OrWord}
use Rattle.chi_token.specs.declared.place.Spanned.{Spanned}
use Rattle.chi_tree.specs.declared.class.Class.{Class}
use Rattle.chi_tree.specs.declared.class.Class.TheVariants as class
use Rattle.chi_tree.specs.Begins.{begins}
use Rattle.chi_tree.specs.Classes.{number_of}
use Rattle.chi_tree.specs.Parts.{Part}
use Rattle.chi_tree.specs.Rules.{grammar, keyword, sum_sign, product_sign}
use Rattle.chi_tree.specs.Tables.{table}
use Rattle.chi_tree.specs.Words.{sum_signs, product_signs}
use Rattle.chi_tree.specs.View.{operator_shown, Built, expr_of, links_of, link_of, chained}
use Rattle.chi_parse_expr.specs.declared.level.ChainLevel.{ChainLevel}
use Rattle.chi_parse_expr.specs.declared.level.ChainLevel.TheVariants.{Or, And, Sum, Product}
use Rattle.chi_parse_expr.specs.Grouping.{chain_part, link_part, operand_part}
use Rattle.chi_parse_look.specs.Taking.{OneAt, NoneAt}
use Rattle.chi_parse_look.proofs.Words.{run_one_of, run_none_of}

-- an operator of the level
abbrev pub operator_rule : ChainLevel → Rule Spanned Part
operator_rule Or = keyword OrWord
operator_rule And = keyword AndWord
operator_rule Sum = sum_sign
operator_rule Product = product_sign

-- the measure of `operand`, which falls from a level to those that bind more
abbrev pub height : ChainLevel → ℕ
height Or = 27
height And = 23
height Sum = 16
height Product = 12

pub chain_rule : (level : ChainLevel) → grammar.rule_of (chain_part level) ≡ part (operand_part level) ▸ many (part (link_part level))
chain_rule Or = refl
chain_rule And = refl
chain_rule Sum = refl
chain_rule Product = refl

pub link_rule : (level : ChainLevel) → grammar.rule_of (link_part level) ≡ operator_rule level ▸ part (operand_part level)
link_rule Or = refl
link_rule And = refl
link_rule Sum = refl
link_rule Product = refl

pub chain_shows : (level : ChainLevel) (first links : Built) → expr_of (node (chain_part level) (pair first links)) ≡ chained (expr_of first) (links_of links)
chain_shows Or first links = refl
chain_shows And first links = refl
chain_shows Sum first links = refl
chain_shows Product first links = refl

pub link_shows : (level : ChainLevel) (x : Spanned) (right : Built)
    → link_of (node (link_part level) (pair (leaf x) right)) ≡ record { operator = operator_shown x.token; place = x.place; operand = expr_of right }
link_shows Or x right = refl
link_shows And x right = refl
link_shows Sum x right = refl
link_shows Product x right = refl

module _ {tokens : List Spanned} {room : Room} {at : ℕ} where
  -- a run of a rule, by what the rule is
  pub run_by : {rule is : Rule Spanned Part} {o : Outcome Spanned Part} → rule ≡ is
      → RuleRuns grammar table tokens room is at o → RuleRuns grammar table tokens room rule at o
  run_by {o = o} same run = subst (λ r. RuleRuns grammar table tokens room r at o) (sym same) run

  run_begun : (level : ChainLevel) {end : ℕ} {x : Spanned} → OneAt tokens (begins (link_part level)) at x end
      → RuleRuns grammar table tokens room (operator_rule level) at (Done (leaf x) end)
  run_begun Or t = run_one_of (class.Word OrWord) [] t
  run_begun And t = run_one_of (class.Word AndWord) [] t
  run_begun Sum t = run_one_of sum_signs.first sum_signs.more t
  run_begun Product t = run_one_of product_signs.first product_signs.more t

  run_not_begun : (level : ChainLevel) {fault : ParseFault} → NoneAt tokens (begins (link_part level)) at fault
      → RuleRuns grammar table tokens room (operator_rule level) at (Fail fault)
  run_not_begun Or t = run_none_of (class.Word OrWord) [] t
  run_not_begun And t = run_none_of (class.Word AndWord) [] t
  run_not_begun Sum t = run_none_of sum_signs.first sum_signs.more t
  run_not_begun Product t = run_none_of product_signs.first product_signs.more t

  -- The classes that a function was given are those of the level's operators.
  module _ (level : ChainLevel) {classes : List Class} (are : classes ≡ begins (link_part level)) where
    pub run_operator : {end : ℕ} {x : Spanned} → OneAt tokens classes at x end
        → RuleRuns grammar table tokens room (operator_rule level) at (Done (leaf x) end)
    run_operator {end} {x} t = run_begun level (subst (λ cs. OneAt tokens cs at x end) are t)

    pub run_no_operator : {fault : ParseFault} → NoneAt tokens classes at fault
        → RuleRuns grammar table tokens room (operator_rule level) at (Fail fault)
    run_no_operator {fault} t = run_not_begun level (subst (λ cs. NoneAt tokens cs at fault) are t)

-- whether an operator of the level is next
pub link_next : (tokens : List Spanned) (i : ℕ) {said is : Bool} (level : ChainLevel) {classes : List Class} → classes ≡ begins (link_part level)
    → Next grammar tokens i (map number_of classes) said → said ≡ is → Next grammar tokens i (table.begins (link_part level)) is
link_next tokens i level are next same =
    ap (λ cs. starts_in grammar.class_of (map number_of cs) (slice_get tokens i)) (sym are) ∙ (next ∙ same)

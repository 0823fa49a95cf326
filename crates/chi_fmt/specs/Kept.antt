-- The tree with the `;` that the layout keeps: one after each statement that another follows, and no other.
use Rattle.std.specs.Prelude.{false, List, [], ◌∷◌, map}
use Rattle.chi_tree.specs.declared.statement.Step.{Step, Step-F, fold-Step}
use Rattle.chi_tree.specs.declared.statement.Statement.{Statement, Statement-F, fold-Statement, roll-Statement}
use Rattle.chi_tree.specs.declared.statement.Branch.{Branch, Branch-F, fold-Branch, roll-Branch}
use Rattle.chi_tree.specs.declared.statement.Alternative.{Alternative, Alternative-F, fold-Alternative, roll-Alternative}
use Rattle.chi_tree.specs.declared.definition.Definition.{Definition}
use Rattle.chi_tree.specs.declared.definition.Definition.TheVariants as definition
use Rattle.chi_tree.specs.declared.definition.Item.{Item}
use Rattle.chi_tree.specs.declared.definition.Program.{Program}
use Rattle.chi_tree.specs.Statements.{step}
use Rattle.chi_fmt.specs.Lines.{is_some}

-- statements in turn: a `;` after each but the last
abbrev pub separated : List Step → List Step
separated [] = []
separated (first ∷ more) = step first.statement (is_some more) ∷ separated more

abbrev pub kept_statement_step : Statement-F Alternative Statement Branch Step → Statement
kept_statement_step (Statement-F.If place branches otherwise) = roll-Statement (Statement-F.If place branches (separated otherwise))
kept_statement_step (Statement-F.While place condition block) = roll-Statement (Statement-F.While place condition (separated block))
kept_statement_step (Statement-F.For place walk block) = roll-Statement (Statement-F.For place walk (separated block))
kept_statement_step other = roll-Statement other

abbrev pub kept_step_step : Step-F Alternative Statement Branch Step → Step
kept_step_step s = step s.statement s.semicolon

abbrev pub kept_branch_step : Branch-F Alternative Statement Branch Step → Branch
kept_branch_step b = roll-Branch (record { condition = b.condition; block = separated b.block })

abbrev pub kept_alternative_step : Alternative-F Alternative Statement Branch Step → Alternative
kept_alternative_step (Alternative-F.Guarded guard communication block) =
    roll-Alternative (Alternative-F.Guarded guard communication (separated block))
kept_alternative_step other = roll-Alternative other

abbrev pub kept_step : Step → Step
kept_step = fold-Step Alternative Statement Branch Step kept_alternative_step kept_statement_step kept_branch_step kept_step_step

abbrev pub kept_statement : Statement → Statement
kept_statement = fold-Statement Alternative Statement Branch Step kept_alternative_step kept_statement_step kept_branch_step kept_step_step

abbrev pub kept_branch : Branch → Branch
kept_branch = fold-Branch Alternative Statement Branch Step kept_alternative_step kept_statement_step kept_branch_step kept_step_step

abbrev pub kept_alternative : Alternative → Alternative
kept_alternative = fold-Alternative Alternative Statement Branch Step kept_alternative_step kept_statement_step kept_branch_step kept_step_step

abbrev pub kept_block : List Step → List Step
kept_block block = separated (map kept_step block)

abbrev pub kept_definition : Definition → Definition
kept_definition (definition.Func place ty name parameters block) = definition.Func place ty name parameters (kept_block block)
kept_definition (definition.Proc place ty name parameters block) = definition.Proc place ty name parameters (kept_block block)
kept_definition (definition.Model place ty name parameters block) = definition.Model place ty name parameters (kept_block block)
kept_definition (definition.Xper place name block) = definition.Xper place name (kept_block block)
kept_definition other = other

-- no `;` after a definition
abbrev pub kept_item : Item → Item
kept_item item = record { definition = kept_definition item.definition; semicolon = false }

-- the place of the last token stays, since places are no part of the layout
abbrev pub kept : Program → Program
kept program = record { items = map kept_item program.items; last = program.last }

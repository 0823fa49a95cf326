-- Programs, blocks, expressions and types are each what the rule of a part builds.
use Rattle.std.proofs.Common.{map, refl, ap, sym, ◌∙◌}
use Rattle.chi_tree.specs.declared.definition.Program.{Program}
use Rattle.chi_tree.specs.Parts as s
use Rattle.chi_tree.specs.Statements.{block_of, program_of}
use Rattle.chi_tree.specs.View.{type_of, expr_of}
use Rattle.chi_tree_spell.specs.Expressions.{spelled_expr, spelled_type}
use Rattle.chi_tree_spell.specs.Statements.{spelled, spelled_block, spelled_item}
use Rattle.chi_tree_spell.specs.Words.{all}
use Rattle.chi_tree_spell.proofs.ProgramSpelling.{program_spelling, block_spelling, expr_spelling, type_spelling}
use Rattle.chi_tree_laws.specs.Answers.{ExprWithin, TypeWithin}
use Rattle.chi_tree_laws.specs.Definitions.{FormedProgram}
use Rattle.chi_tree_laws.specs.ExprNestings.{expr_nestings, type_nestings}
use Rattle.chi_tree_laws.specs.StatementNestings.{block_nestings, nestings}
use Rattle.chi_tree_laws.specs.Statements.{FormedBlock}
use Rattle.chi_tree_laws.proofs.BlocksBuilt.{build_block}
use Rattle.chi_tree_laws.proofs.DefinitionsBuilt.{build_program}
use Rattle.chi_tree_laws.proofs.ExprBuilt.{build_type, build_expr}
use Rattle.chi_tree_laws.proofs.ExprLaw.{formed_types, formed_exprs}
use Rattle.chi_tree_laws.proofs.FormedPart.{FormedPart}
use Rattle.chi_tree_laws.proofs.StatementLaw.{formed_blocks, formed_items}

pub types : FormedPart TypeWithin spelled_type type_nestings type_of s.AnyType
types = record {
  built = λ room ty p.
      let u = build_type room.blocks p in record {
        tree = u.tree;
        is = u.built;
        nests = u.nests;
        spells = sym (type_spelling room u.tree u.built) ∙ ap spelled_type u.shown;
        again = λ other q. (formed_types other ty).1 (u.tree, q, u.shown);
      };
  shown = λ room t p. (formed_types room (type_of t)).1 (t, p, refl);
  spells = type_spelling;
}

pub exprs : FormedPart ExprWithin spelled_expr expr_nestings expr_of s.Expr
exprs = record {
  built = λ room e p.
      let u = build_expr room.blocks p in record {
        tree = u.tree;
        is = u.built;
        nests = u.nests;
        spells = sym (expr_spelling room u.tree u.built) ∙ ap spelled_expr u.shown;
        again = λ other q. (formed_exprs other e).1 (u.tree, q, u.shown);
      };
  shown = λ room t p. (formed_exprs room (expr_of t)).1 (t, p, refl);
  spells = expr_spelling;
}

pub blocks : FormedPart FormedBlock spelled_block block_nestings block_of s.Block
blocks = record {
  built = λ room block p.
      let u = build_block room.blocks p in record {
        tree = u.tree;
        is = u.built;
        nests = u.nests;
        spells = sym (block_spelling room u.tree u.built) ∙ ap spelled_block u.shown;
        again = λ other q. (formed_blocks other block).1 (u.tree, q, u.shown);
      };
  shown = λ room t p. (formed_blocks room (block_of t)).1 (t, p, refl);
  spells = block_spelling;
}

pub programs : FormedPart FormedProgram spelled nestings program_of s.Program
programs = record {
  built = λ room program p.
      let u = build_program room.blocks p in record {
        tree = u.tree;
        is = u.built;
        nests = u.nests;
        spells = sym (program_spelling room u.tree u.built) ∙ ap (λ items. all (map spelled_item items)) u.shown;
        again = λ other q. (formed_items other program.items).1 (u.tree, q, u.shown);
      };
  shown = λ room t p. let program : Program = program_of t in (formed_items room program.items).1 (t, p, refl);
  spells = program_spelling;
}

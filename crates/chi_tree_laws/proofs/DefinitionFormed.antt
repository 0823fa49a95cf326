-- What the grammar builds as a definition or a program is shown as a formed one: part by part.
use Rattle.std.proofs.Common.{◌≡◌, ℕ, suc, List, ◌∷◌, sym, subst}
use Rattle.chi_grammar.specs.declared.room.Room.{Room}
use Rattle.chi_grammar.specs.Rules.{node, part, many}
use Rattle.chi_token.specs.declared.place.Place.{Place}
use Rattle.chi_tree.specs.declared.type_tree.Name.{Name}
use Rattle.chi_tree.specs.declared.type_tree.Formal.{Formal}
use Rattle.chi_tree.specs.declared.statement.Step.{Step}
use Rattle.chi_tree.specs.declared.definition.Definition.TheVariants as definition
use Rattle.chi_tree.specs.declared.definition.Item.{Item}
use Rattle.chi_tree.specs.Parts as s
use Rattle.chi_tree.specs.Rules.{rule_of}
use Rattle.chi_tree.specs.View.{Built}
use Rattle.chi_tree.specs.Statements.{items_of}
use Rattle.chi_tree_laws.specs.Expressions as formed
use Rattle.chi_tree_laws.specs.Statements.{FormedInner}
use Rattle.chi_tree_laws.specs.Definitions.{FormedParameters, FormedDefinition, FormedItems}
use Rattle.chi_tree_laws.specs.Definitions as defined
use Rattle.chi_tree.proofs.Made as made
use Rattle.chi_tree_laws.proofs.ShownStatements.{Stated, ItemFormed}
use Rattle.chi_tree_laws.proofs.StatementFormed.{G}

-- with as many levels

parameters_at : {c d : ℕ} {fs : List Formal} → c ≡ d → FormedParameters d fs → FormedParameters c fs
parameters_at {fs = fs} is p = subst (λ d. FormedParameters d fs) (sym is) p

enumerated : {b c d : ℕ} {place : Place} {name first : Name} {names more : List Name} → c ≡ suc d → names ≡ first ∷ more
    → FormedDefinition b c (definition.Enum place name names)
enumerated {b = b} {d = d} {place = place} {name = name} {names = names} is are =
    subst (λ d. FormedDefinition b d (definition.Enum place name names)) (sym is)
    (subst (λ names. FormedDefinition b (suc d) (definition.Enum place name names)) (sym are) defined.enumeration)

experimented : {b c d : ℕ} {place : Place} {name : Name} {block : List Step} → c ≡ suc d → FormedInner b c block
    → FormedDefinition b c (definition.Xper place name block)
experimented {b = b} {place = place} {name = name} {block = block} is p =
    subst (λ d. FormedDefinition b d (definition.Xper place name block)) (sym is)
    (defined.experiment (subst (λ d. FormedInner b d block) is p))

-- the parts of definitions

pub parameters : {room : Room} {t : Built} → G room (rule_of s.Parameters) t → Stated room s.Parameters (node s.Parameters t)
parameters (made.deeper i (made.both l (made.both made.never r))) = parameters_at i.1 defined.no_parameters
parameters (made.deeper i (made.both l (made.both (made.once (made.part p)) r))) = parameters_at i.1 (defined.parameters p)

pub head : {room : Room} {t : Built} → G room (rule_of s.Head) t → Stated room s.Head (node s.Head t)
head (made.left (made.both (made.part p) n)) = defined.exit_type p
head (made.right (made.both (made.word e) made.never)) = defined.no_exit_type
head (made.right (made.both (made.word e) (made.once (made.word f)))) = defined.exit_type formed.named

-- definitions

pub enum_def : {room : Room} {t : Built} → G room (rule_of s.EnumDef) t → Stated room s.EnumDef (node s.EnumDef t)
enum_def (made.both w (made.both n (made.both eq (made.deeper i (made.both l (made.both (made.part p) r)))))) = enumerated i.1 p.are

pub const_def : {room : Room} {t : Built} → G room (rule_of s.ConstDef) t → Stated room s.ConstDef (node s.ConstDef t)
const_def (made.both w (made.both (made.part p) (made.both n (made.both eq (made.part q))))) = defined.constant p q

pub type_def : {room : Room} {t : Built} → G room (rule_of s.TypeDef) t → Stated room s.TypeDef (node s.TypeDef t)
type_def (made.both w (made.both n (made.both eq (made.part p)))) = defined.type_name p

pub func_def : {room : Room} {t : Built} → G room (rule_of s.FuncDef) t → Stated room s.FuncDef (node s.FuncDef t)
func_def (made.both w (made.both (made.part p) (made.both n (made.both (made.part q) (made.part r))))) = defined.function p q r

pub proc_def : {room : Room} {t : Built} → G room (rule_of s.ProcDef) t → Stated room s.ProcDef (node s.ProcDef t)
proc_def (made.both w (made.both (made.part p) (made.both (made.part q) (made.part r)))) = defined.process p q r

pub model_def : {room : Room} {t : Built} → G room (rule_of s.ModelDef) t → Stated room s.ModelDef (node s.ModelDef t)
model_def (made.both w (made.both (made.part p) (made.both (made.part q) (made.part r)))) = defined.model p q r

pub xper_def : {room : Room} {t : Built} → G room (rule_of s.XperDef) t → Stated room s.XperDef (node s.XperDef t)
xper_def (made.both w (made.both n (made.both (made.deeper i p) (made.part q)))) = experimented i.1 q

pub any_definition : {room : Room} {t : Built} → G room (rule_of s.Defined) t → Stated room s.Defined (node s.Defined t)
any_definition (made.left (made.part p)) = p
any_definition (made.right (made.left (made.part p))) = p
any_definition (made.right (made.right (made.left (made.part p)))) = p
any_definition (made.right (made.right (made.right (made.left (made.part p))))) = p
any_definition (made.right (made.right (made.right (made.right (made.left (made.part p)))))) = p
any_definition (made.right (made.right (made.right (made.right (made.right (made.left (made.part p))))))) = p
any_definition (made.right (made.right (made.right (made.right (made.right (made.right (made.part p))))))) = p

pub definition_formed : {room : Room} {t : Built} → G room (rule_of s.Definition) t → Stated room s.Definition (node s.Definition t)
definition_formed (made.both (made.part p) q) = record { last = defined.one_item p; next = λ more r. defined.items p r }

with_items : {room : Room} {t : Built} {x : Item} → ItemFormed room x → G room (many (part s.Definition)) t
    → FormedItems room.blocks room.expressions (x ∷ items_of t)
with_items p made.enough = p.last
with_items p (made.more (made.part q) qs) = p.next _ (with_items q qs)

pub program : {room : Room} {t : Built} → G room (rule_of s.Program) t → Stated room s.Program (node s.Program t)
program (made.both (made.part p) ps) = with_items p ps

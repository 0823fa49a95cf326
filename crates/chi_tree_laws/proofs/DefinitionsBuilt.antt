-- Formed definitions and programs are what the grammar builds of some tokens.
use Rattle.std.proofs.Common.{◌≡◌, ℕ, Bool, true, false, List, [], ◌∷◌, ◌++◌, map, Option, Some, None, refl, ap, sym, ◌∙◌}
use Rattle.chi_grammar.specs.declared.room.Room.{Room}
use Rattle.chi_grammar.specs.Rules.{node, pair, none, part, many}
use Rattle.chi_grammar.specs.Trees.{Is}
use Rattle.chi_grammar.specs.Trees as is
use Rattle.chi_token.specs.declared.keyword.Keyword.TheVariants.{ConstWord, EnumWord, FuncWord, ModelWord, ProcWord, TypeWord, XperWord}
use Rattle.chi_token.specs.declared.place.Place.{Place}
use Rattle.chi_token.specs.declared.sign.Sign.TheVariants.{LeftParen, RightParen, LeftBrace, RightBrace, Assign, Comma, Semicolon}
use Rattle.chi_tree.specs.declared.type_tree.Name.{Name}
use Rattle.chi_tree.specs.declared.type_tree.TypeTree.{TypeTree}
use Rattle.chi_tree.specs.declared.type_tree.Formal.{Formal}
use Rattle.chi_tree.specs.declared.statement.Step.{Step}
use Rattle.chi_tree.specs.declared.definition.Definition.{Definition}
use Rattle.chi_tree.specs.declared.definition.Definition.TheVariants as definition
use Rattle.chi_tree.specs.declared.definition.Item.{Item}
use Rattle.chi_tree.specs.Parts as s
use Rattle.chi_tree.specs.Rules.{grammar}
use Rattle.chi_tree.specs.View.{Built, name_in, type_of, formals_of, more_formals_of}
use Rattle.chi_tree.specs.Statements.{body_of, head_of, parameters_of, definition_of, item_of, items_of, program_of}
use Rattle.chi_tree_laws.specs.Expressions.{FormedFormals, MoreFormals, formal}
use Rattle.chi_tree_laws.specs.Expressions as expression
use Rattle.chi_tree_laws.specs.Definitions.{FormedParameters, FormedExitType, FormedDefinition, FormedItems, item}
use Rattle.chi_tree_laws.specs.Definitions as formed
use Rattle.chi_tree_laws.specs.Nestings.{outside, bracketed, all}
use Rattle.chi_tree_laws.specs.ExprNestings.{type_nestings, formal_nestings}
use Rattle.chi_tree_laws.specs.StatementNestings.{to_end, step_nestings, head_nestings, definition_nestings, item_nestings}
use Rattle.chi_tree_laws.proofs.ExprNestingsIn.{type-Defined, more_formals, formals-first, further-bare, further-typed}
use Rattle.chi_tree_laws.proofs.Leaves.{mark, mark_at, word_at, name_leaf, Builds}
use Rattle.chi_tree_laws.proofs.ExprBuilt.{build_type, build_expr}
use Rattle.chi_tree_laws.proofs.TargetsBuilt.{build_names}
use Rattle.chi_tree_laws.proofs.StatementsBuilt.{Typed, by_name, by_word, typed}
use Rattle.chi_tree_laws.proofs.BlocksBuilt.{build_inner, bodied}

-- parameters

build_more_formals : (b : ℕ) {d : ℕ} {fs : List Formal} → MoreFormals d fs → Builds b d (many (part s.MoreFormal)) more_formals_of fs (more_formals fs)
build_more_formals b expression.no_more = record { tree = none; built = is.enough; shown = refl; nests = refl }
build_more_formals b (expression.comma {name = n} q) = let v = build_more_formals b q in record {
  tree = pair (node s.MoreFormal (pair (mark Comma) (name_leaf n))) v.tree;
  built = is.more (is.part (is.left (is.both (is.word refl) (is.word refl)))) v.built;
  shown = ap (λ fs. formal None n ∷ fs) v.shown;
  nests = λ i. further-bare n i ++ v.nests i;
}
build_more_formals b (expression.semicolon {name = n} p q) = let u = build_type b p in let v = build_more_formals b q in record {
  tree = pair (node s.MoreFormal (pair (mark Semicolon) (pair u.tree (name_leaf n)))) v.tree;
  built = is.more (is.part (is.right (is.both (is.word refl) (is.both u.built (is.word refl))))) v.built;
  shown = λ i. formal (Some (u.shown i)) n ∷ v.shown i;
  nests = let x = further-typed _ n _ u.nests in (λ i. x i ++ v.nests i);
}

build_formals : (b : ℕ) {d : ℕ} {fs : List Formal} → FormedFormals d fs → Builds b d (part s.Formals) formals_of fs (formal_nestings fs)
build_formals b (expression.formals {name = n} {more = fs} p q) = let u = build_type b p in let v = build_more_formals b q in record {
  tree = node s.Formals (pair u.tree (pair (name_leaf n) v.tree));
  built = is.part (is.both u.built (is.both (is.word refl) v.built));
  shown = λ i. formal (Some (u.shown i)) n ∷ v.shown i;
  nests = (λ i. u.nests i ++ outside ∷ v.nests i) ∙ sym (formals-first _ n fs);
}

build_parameters : (b : ℕ) {d : ℕ} {fs : List Formal} → FormedParameters d fs → Builds b d (part s.Parameters) parameters_of fs (bracketed (formal_nestings fs))
build_parameters b formed.no_parameters = record {
  tree = node s.Parameters (pair (mark LeftParen) (pair none (mark RightParen)));
  built = is.part (is.deeper (refl, refl) (is.both (is.word refl) (is.both is.never (is.word refl))));
  shown = refl;
  nests = refl;
}
build_parameters b (formed.parameters p) = let u = build_formals b p in record {
  tree = node s.Parameters (pair (mark LeftParen) (pair u.tree (mark RightParen)));
  built = is.part (is.deeper (refl, refl) (is.both (is.word refl) (is.both (is.once u.built) (is.word refl))));
  shown = u.shown;
  nests = ap bracketed u.nests;
}

-- the type that is exited with, and the name

abbrev BuildsHead : ℕ → ℕ → Option TypeTree → Name → Type 0
BuildsHead b d t n = Builds {T = Option TypeTree × Name} b d (part s.Head) head_of (t, n) (head_nestings t)

head_typed : {room : Room} {t : Built} → Is grammar room (part s.BuiltType) t → (n : Built)
    → head_of (node s.Head (pair t n)) ≡ (Some (type_of t), name_in n)
head_typed (is.part p) n = refl

typed_head : {b d : ℕ} {t : TypeTree} → Typed b d t → (n : Name) → BuildsHead b d (Some t) n
typed_head (by_name m e) n = record {
  tree = node s.Head (pair (name_leaf m) (name_leaf n));
  built = is.part (is.right (is.both (is.word refl) (is.once (is.word refl))));
  shown = λ i. (Some (e i), n);
  nests = ap (λ ns. ns ++ outside ∷ []) (sym (type-Defined m) ∙ ap type_nestings e);
}
typed_head (by_word u) n = record {
  tree = node s.Head (pair u.tree (name_leaf n));
  built = is.part (is.left (is.both u.built (is.word refl)));
  shown = head_typed u.built (name_leaf n) ∙ (λ i. (Some (u.shown i), n));
  nests = ap (λ ns. ns ++ outside ∷ []) u.nests;
}

build_head : (b : ℕ) {d : ℕ} {t : Option TypeTree} → FormedExitType d t → (n : Name) → BuildsHead b d t n
build_head b formed.no_exit_type n = record {
  tree = node s.Head (pair (name_leaf n) none);
  built = is.part (is.right (is.both (is.word refl) is.never));
  shown = refl;
  nests = refl;
}
build_head b (formed.exit_type p) n = typed_head (typed b p) n

-- definitions

proc_built : {b d : ℕ} {t : Option TypeTree} {n : Name} {fs : List Formal} {block : List Step} (place : Place) → BuildsHead b d t n
    → Builds b d (part s.Parameters) parameters_of fs (bracketed (formal_nestings fs)) → Builds b d (part s.Body) body_of block (to_end (map step_nestings block))
    → Builds b d (part s.Defined) definition_of (definition.Proc place t n fs block) (definition_nestings (definition.Proc place t n fs block))
proc_built place h u v = record {
  tree = node s.Defined (node s.ProcDef (pair (word_at place ProcWord) (pair h.tree (pair u.tree v.tree))));
  built = is.part (is.right (is.right (is.right (is.right (is.left (is.part (is.both (is.word refl) (is.both h.built (is.both u.built v.built)))))))));
  shown = λ i. definition.Proc place (h.shown i).0 (h.shown i).1 (u.shown i) (v.shown i);
  nests = λ i. outside ∷ h.nests i ++ (u.nests i ++ v.nests i);
}

model_built : {b d : ℕ} {t : Option TypeTree} {n : Name} {fs : List Formal} {block : List Step} (place : Place) → BuildsHead b d t n
    → Builds b d (part s.Parameters) parameters_of fs (bracketed (formal_nestings fs)) → Builds b d (part s.Body) body_of block (to_end (map step_nestings block))
    → Builds b d (part s.Defined) definition_of (definition.Model place t n fs block) (definition_nestings (definition.Model place t n fs block))
model_built place h u v = record {
  tree = node s.Defined (node s.ModelDef (pair (word_at place ModelWord) (pair h.tree (pair u.tree v.tree))));
  built = is.part (is.right (is.right (is.right (is.right (is.right (is.left (is.part (is.both (is.word refl)
      (is.both h.built (is.both u.built v.built))))))))));
  shown = λ i. definition.Model place (h.shown i).0 (h.shown i).1 (u.shown i) (v.shown i);
  nests = λ i. outside ∷ h.nests i ++ (u.nests i ++ v.nests i);
}

build_definition : (b : ℕ) {d : ℕ} {x : Definition} → FormedDefinition b d x → Builds b d (part s.Defined) definition_of x (definition_nestings x)
build_definition b (formed.enumeration {d = d} {place = place} {name = n} {first = first} {more = more}) =
    let u = build_names b d first more in record {
      tree = node s.Defined (node s.EnumDef (pair (word_at place EnumWord) (pair (name_leaf n) (pair (mark Assign)
          (pair (mark LeftBrace) (pair u.tree (mark RightBrace)))))));
      built = is.part (is.left (is.part (is.both (is.word refl) (is.both (is.word refl) (is.both (is.word refl)
          (is.deeper (refl, refl) (is.both (is.word refl) (is.both u.built (is.word refl)))))))));
      shown = ap (λ ns. definition.Enum place n ns) u.shown;
      nests = ap (λ ns. outside ∷ outside ∷ outside ∷ bracketed ns) u.nests;
    }
build_definition b (formed.constant {place = place} {at = at} {name = n} p q) = let u = build_type b p in let v = build_expr b q in record {
  tree = node s.Defined (node s.ConstDef (pair (word_at place ConstWord) (pair u.tree (pair (name_leaf n) (pair (mark_at at Assign) v.tree)))));
  built = is.part (is.right (is.left (is.part (is.both (is.word refl) (is.both u.built (is.both (is.word refl) (is.both (is.word refl) v.built)))))));
  shown = λ i. definition.Const place (u.shown i) n at (v.shown i);
  nests = λ i. outside ∷ u.nests i ++ outside ∷ outside ∷ v.nests i;
}
build_definition b (formed.type_name {place = place} {name = n} p) = let u = build_type b p in record {
  tree = node s.Defined (node s.TypeDef (pair (word_at place TypeWord) (pair (name_leaf n) (pair (mark Assign) u.tree))));
  built = is.part (is.right (is.right (is.left (is.part (is.both (is.word refl) (is.both (is.word refl) (is.both (is.word refl) u.built)))))));
  shown = ap (λ t. definition.TypeWord place n t) u.shown;
  nests = ap (λ ns. outside ∷ outside ∷ outside ∷ ns) u.nests;
}
build_definition b (formed.function {place = place} {name = n} p q r) =
    let u = build_type b p in let v = build_parameters b q in let w = bodied (build_inner r) in record {
      tree = node s.Defined (node s.FuncDef (pair (word_at place FuncWord) (pair u.tree (pair (name_leaf n) (pair v.tree w.tree)))));
      built = is.part (is.right (is.right (is.right (is.left (is.part (is.both (is.word refl) (is.both u.built (is.both (is.word refl)
          (is.both v.built w.built)))))))));
      shown = λ i. definition.Func place (u.shown i) n (v.shown i) (w.shown i);
      nests = λ i. outside ∷ u.nests i ++ outside ∷ (v.nests i ++ w.nests i);
    }
build_definition b (formed.process {place = place} {name = n} p q r) =
    proc_built place (build_head b p n) (build_parameters b q) (bodied (build_inner r))
build_definition b (formed.model {place = place} {name = n} p q r) =
    model_built place (build_head b p n) (build_parameters b q) (bodied (build_inner r))
build_definition b (formed.experiment {place = place} {name = n} p) = let u = bodied (build_inner p) in record {
  tree = node s.Defined (node s.XperDef (pair (word_at place XperWord) (pair (name_leaf n) (pair (pair (mark LeftParen) (mark RightParen)) u.tree))));
  built = is.part (is.right (is.right (is.right (is.right (is.right (is.right (is.part (is.both (is.word refl) (is.both (is.word refl)
      (is.both (is.deeper (refl, refl) (is.both (is.word refl) (is.word refl))) u.built))))))))));
  shown = ap (λ block. definition.Xper place n block) u.shown;
  nests = ap (λ ns. outside ∷ outside ∷ bracketed [] ++ ns) u.nests;
}

-- programs

item_built : {b d : ℕ} {x : Definition} (semicolon : Bool) → Builds b d (part s.Defined) definition_of x (definition_nestings x)
    → Builds b d (part s.Definition) item_of (item x semicolon) (item_nestings (item x semicolon))
item_built true u = record {
  tree = node s.Definition (pair u.tree (mark Semicolon));
  built = is.part (is.both u.built (is.once (is.word refl)));
  shown = ap (λ x. item x true) u.shown;
  nests = ap (λ ns. ns ++ outside ∷ []) u.nests;
}
item_built false u = record {
  tree = node s.Definition (pair u.tree none);
  built = is.part (is.both u.built is.never);
  shown = ap (λ x. item x false) u.shown;
  nests = ap (λ ns. ns ++ []) u.nests;
}

build_items : (b : ℕ) {d : ℕ} {items : List Item} → FormedItems b d items → Builds b d (many (part s.Definition)) items_of items (all (map item_nestings items))
build_items b (formed.one_item {semicolon = semicolon} p) = let u = item_built semicolon (build_definition b p) in record {
  tree = pair u.tree none;
  built = is.more u.built is.enough;
  shown = ap (λ x. x ∷ []) u.shown;
  nests = λ i. u.nests i ++ [];
}
build_items b (formed.items {semicolon = semicolon} p ps) = let u = item_built semicolon (build_definition b p) in let v = build_items b ps in record {
  tree = pair u.tree v.tree;
  built = is.more u.built v.built;
  shown = λ i. u.shown i ∷ v.shown i;
  nests = λ i. u.nests i ++ v.nests i;
}

pub build_program : (b : ℕ) {d : ℕ} {items : List Item} → FormedItems b d items → Builds b d (part s.Program) (λ t. (program_of t).items) items (all (map item_nestings items))
build_program b (formed.one_item {semicolon = semicolon} p) = let u = item_built semicolon (build_definition b p) in record {
  tree = node s.Program (pair u.tree none);
  built = is.part (is.both u.built is.enough);
  shown = ap (λ x. x ∷ []) u.shown;
  nests = λ i. u.nests i ++ [];
}
build_program b (formed.items {semicolon = semicolon} p ps) = let u = item_built semicolon (build_definition b p) in let v = build_items b ps in record {
  tree = node s.Program (pair u.tree v.tree);
  built = is.part (is.both u.built v.built);
  shown = λ i. u.shown i ∷ v.shown i;
  nests = λ i. u.nests i ++ v.nests i;
}

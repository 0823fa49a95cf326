-- Formed blocks, with the statements and alternatives that hold blocks, are what the grammar builds of some tokens.
use Rattle.std.proofs.Common.{◌≡◌, ℕ, suc, Bool, true, false, List, [], ◌∷◌, ◌++◌, map, Option, refl, ap, sym, ◌∙◌, append_assoc, append-nil}
use Rattle.chi_grammar.specs.declared.room.Room.{Room}
use Rattle.chi_grammar.specs.Rules.{node, pair, none, part, ◌▸◌, maybe, many}
use Rattle.chi_grammar.specs.Trees.{Is}
use Rattle.chi_grammar.specs.Trees as is
use Rattle.chi_token.specs.declared.keyword.Keyword.TheVariants.{AltWord, ElifWord, ElseWord, EndWord, ForWord, IfWord, SelectWord, UnwindWord, WhileWord}
use Rattle.chi_token.specs.declared.place.Place.{Place}
use Rattle.chi_token.specs.declared.sign.Sign.TheVariants.{Colon, Semicolon}
use Rattle.chi_tree.specs.declared.expr.Expr.{Expr}
use Rattle.chi_tree.specs.declared.statement.Walk.{Walk}
use Rattle.chi_tree.specs.declared.statement.Communication.{Communication}
use Rattle.chi_tree.specs.declared.statement.Branch.{Branch}
use Rattle.chi_tree.specs.declared.statement.Alternative.{Alternative}
use Rattle.chi_tree.specs.declared.statement.Alternative.TheVariants as alternative
use Rattle.chi_tree.specs.declared.statement.Step.{Step}
use Rattle.chi_tree.specs.declared.statement.Statement.{Statement}
use Rattle.chi_tree.specs.declared.statement.Statement.TheVariants as statement
use Rattle.chi_tree.specs.Parts.{Part}
use Rattle.chi_tree.specs.Parts as s
use Rattle.chi_tree.specs.Rules.{grammar, keyword}
use Rattle.chi_tree.specs.View.{Built, nowhere, expr_of}
use Rattle.chi_tree.specs.Statements.{walk_of, step, statement_of, ends_in_end, block_of, followed, inner_of, body_of, branch_of, elifs_of, else_of, alternatives_of, more_alternatives_of, alternative_of}
use Rattle.chi_tree_laws.specs.Statements.{FormedBlock, FormedInner, FormedStatement, FormedBranches, FormedAlternatives, FormedAlternative, branch}
use Rattle.chi_tree_laws.specs.Statements as formed
use Rattle.chi_tree_laws.specs.Nestings.{Nestings, outside, in_block, each_after, separated}
use Rattle.chi_tree_laws.specs.ExprNestings.{expr_nestings}
use Rattle.chi_tree_laws.specs.StatementNestings.{semicolon_if, walk_nestings, body_nestings, else_nestings, to_end, alternative_nestings, statement_nestings, branch_nestings, step_nestings, block_nestings}
use Rattle.chi_tree_laws.proofs.StatementNestingsIn.{statement-Select, statement-If, statement-While, statement-For, alternative-Guarded, alternative-Unwind, step-in, branch-in}
use Rattle.chi_tree_laws.proofs.Leaves.{mark, word_at, Builds}
use Rattle.chi_tree_laws.proofs.ExprBuilt.{build_expr}
use Rattle.chi_tree_laws.proofs.TargetsBuilt.{build_walk}
use Rattle.chi_tree_laws.proofs.OffersBuilt.{BuildsOffer, build_offer, offer_nestings}
use Rattle.chi_tree_laws.proofs.StatementsBuilt.{Stated, closed, open_ended, launch, build_declare, build_assign, build_communicate, build_pass, build_break, build_continue, build_return, build_exit, build_finish, build_write, build_run, build_start}

-- a statement and what stands after it

-- the part that may stand after a statement whose last token is "end", or is not
abbrev after : Bool → Part
after true = s.AfterEnd
after false = s.AfterOpen

abbrev BuildsAfter : ℕ → ℕ → Bool → Nestings → (Statement → List Step) → Type 0
BuildsAfter b d ends ns steps = Builds {T = Statement → List Step} b d (maybe (part (after ends))) (λ t st. followed st t) steps ns

-- a launch is followed by what its last token allows
launched : {b d : ℕ} (ends : Bool) {st : Statement} {ns : Nestings} {steps : Statement → List Step} (u : Builds b d (part s.Launch) statement_of st (statement_nestings st))
    → ends_in_end u.tree ≡ ends → BuildsAfter b d ends ns steps → statement_nestings st ++ ns ≡ block_nestings (steps st)
    → Builds b d (part s.Block) block_of (steps st) (block_nestings (steps st))
launched true u e v same = record {
  tree = node s.Block (pair u.tree v.tree);
  built = is.part (is.right (is.left (is.chosen u.built e v.built)));
  shown = λ i. v.shown i (u.shown i);
  nests = (λ i. u.nests i ++ v.nests i) ∙ same;
}
launched false u e v same = record {
  tree = node s.Block (pair u.tree v.tree);
  built = is.part (is.right (is.left (is.otherwise u.built e v.built)));
  shown = λ i. v.shown i (u.shown i);
  nests = (λ i. u.nests i ++ v.nests i) ∙ same;
}

with_after : {b d : ℕ} {ends : Bool} {st : Statement} {ns : Nestings} {steps : Statement → List Step} → Stated b d ends st → BuildsAfter b d ends ns steps
    → statement_nestings st ++ ns ≡ block_nestings (steps st) → Builds b d (part s.Block) block_of (steps st) (block_nestings (steps st))
with_after (closed u) v same = record {
  tree = node s.Block (pair u.tree v.tree);
  built = is.part (is.left (is.both u.built v.built));
  shown = λ i. v.shown i (u.shown i);
  nests = (λ i. u.nests i ++ v.nests i) ∙ same;
}
with_after (open_ended u) v same = record {
  tree = node s.Block (pair u.tree v.tree);
  built = is.part (is.right (is.right (is.both u.built v.built)));
  shown = λ i. v.shown i (u.shown i);
  nests = (λ i. u.nests i ++ v.nests i) ∙ same;
}
with_after {ends = ends} (launch u e) v same = launched ends u e v same

-- nothing more, the next statement after a ";", or the next statement at once

at_last : {b d : ℕ} (ends semicolon : Bool) → BuildsAfter b d ends (semicolon_if semicolon) (λ st. step st semicolon ∷ [])
at_last ends false = record { tree = none; built = is.never; shown = refl; nests = refl }
at_last true true = record {
  tree = node s.AfterEnd (pair (mark Semicolon) none);
  built = is.once (is.part (is.left (is.both (is.word refl) is.never)));
  shown = refl;
  nests = refl;
}
at_last false true = record {
  tree = node s.AfterOpen (pair (mark Semicolon) none);
  built = is.once (is.part (is.both (is.word refl) is.never));
  shown = refl;
  nests = refl;
}

then_more : {b d : ℕ} {more : List Step} (ends : Bool) → Builds b d (part s.Block) block_of more (block_nestings more) → BuildsAfter b d ends (outside ∷ block_nestings more) (λ st. step st true ∷ more)
then_more true u = record {
  tree = node s.AfterEnd (pair (mark Semicolon) u.tree);
  built = is.once (is.part (is.left (is.both (is.word refl) (is.once u.built))));
  shown = λ i st. step st true ∷ u.shown i;
  nests = ap (λ ns. outside ∷ ns) u.nests;
}
then_more false u = record {
  tree = node s.AfterOpen (pair (mark Semicolon) u.tree);
  built = is.once (is.part (is.both (is.word refl) (is.once u.built)));
  shown = λ i st. step st true ∷ u.shown i;
  nests = ap (λ ns. outside ∷ ns) u.nests;
}

followed_block : {room : Room} {t : Built} → Is grammar room (part s.Block) t → (st : Statement)
    → followed st (node s.AfterEnd t) ≡ step st false ∷ block_of t
followed_block (is.part p) st = refl

at_once : {b d : ℕ} {more : List Step} → Builds b d (part s.Block) block_of more (block_nestings more) → BuildsAfter b d true (block_nestings more) (λ st. step st false ∷ more)
at_once u = record {
  tree = node s.AfterEnd u.tree;
  built = is.once (is.part (is.right u.built));
  shown = λ i st. (followed_block u.built st ∙ ap (λ more. step st false ∷ more) u.shown) i;
  nests = u.nests;
}

-- what is left out

no_branches : {b d : ℕ} → Builds b d (many (part s.Elif)) elifs_of [] (each_after (map branch_nestings []))
no_branches = record { tree = none; built = is.enough; shown = refl; nests = refl }

no_otherwise : {b d : ℕ} → Builds b d (maybe (part s.Else)) else_of [] (else_nestings (map step_nestings []))
no_otherwise = record { tree = none; built = is.never; shown = refl; nests = refl }

no_alternatives : {b d : ℕ} → Builds b d (many (keyword AltWord ▸ part s.Alternative)) more_alternatives_of [] (each_after (map alternative_nestings []))
no_alternatives = record { tree = none; built = is.enough; shown = refl; nests = refl }

-- statements and alternatives, by the blocks in them

pub bodied : {b d : ℕ} {block : List Step} → Builds b d (part s.Inner) inner_of block (in_block (block_nestings block)) → Builds b d (part s.Body) body_of block (to_end (map step_nestings block))
bodied u = record {
  tree = node s.Body (pair (mark Colon) (pair u.tree (word_at nowhere EndWord)));
  built = is.part (is.both (is.word refl) (is.both u.built (is.word refl)));
  shown = u.shown;
  nests = ap (λ ns. outside ∷ ns ++ outside ∷ []) u.nests;
}

while_stated : {b d : ℕ} {e : Expr} {block : List Step} (place : Place) → Builds b d (part s.Expr) expr_of e (expr_nestings e)
    → Builds b d (part s.Body) body_of block (to_end (map step_nestings block)) → Stated b d true (statement.While place e block)
while_stated place u v = closed (record {
  tree = node s.Closed (node s.While (pair (word_at place WhileWord) (pair u.tree v.tree)));
  built = is.part (is.right (is.right (is.left (is.part (is.both (is.word refl) (is.both u.built v.built))))));
  shown = λ i. statement.While place (u.shown i) (v.shown i);
  nests = (λ i. outside ∷ u.nests i ++ v.nests i) ∙ sym (statement-While place _ _);
})

for_stated : {b d : ℕ} {walk : Walk} {block : List Step} (place : Place) → Builds b d (part s.Walk) walk_of walk (walk_nestings walk)
    → Builds b d (part s.Body) body_of block (to_end (map step_nestings block)) → Stated b d true (statement.For place walk block)
for_stated place u v = closed (record {
  tree = node s.Closed (node s.For (pair (word_at place ForWord) (pair u.tree v.tree)));
  built = is.part (is.right (is.right (is.right (is.part (is.both (is.word refl) (is.both u.built v.built))))));
  shown = λ i. statement.For place (u.shown i) (v.shown i);
  nests = (λ i. outside ∷ u.nests i ++ v.nests i) ∙ sym (statement-For place _ _);
})

select_stated : {b d : ℕ} {xs : List Alternative} (place : Place) → Builds b d (part s.Alternatives) alternatives_of xs (separated (map alternative_nestings xs))
    → Stated b d true (statement.Select place xs)
select_stated place u = closed (record {
  tree = node s.Closed (node s.Select (pair (word_at place SelectWord) (pair u.tree (word_at nowhere EndWord))));
  built = is.part (is.left (is.part (is.both (is.word refl) (is.both u.built (is.word refl)))));
  shown = ap (λ xs. statement.Select place xs) u.shown;
  nests = ap (λ ns. outside ∷ ns ++ outside ∷ []) u.nests ∙ sym (statement-Select place _);
})

branched : {b d : ℕ} {e : Expr} {block : List Step} → Builds b d (part s.Expr) expr_of e (expr_nestings e) → Builds b d (part s.Inner) inner_of block (in_block (block_nestings block))
    → Builds b d (part s.Branch) branch_of (branch e block) (branch_nestings (branch e block))
branched u v = record {
  tree = node s.Branch (pair u.tree (pair (mark Colon) v.tree));
  built = is.part (is.both u.built (is.both (is.word refl) v.built));
  shown = λ i. branch (u.shown i) (v.shown i);
  nests = (λ i. u.nests i ++ outside ∷ v.nests i) ∙ sym (branch-in _ _);
}

more_branches : {b d : ℕ} {x : Branch} {xs : List Branch} → Builds b d (part s.Branch) branch_of x (branch_nestings x)
    → Builds b d (many (part s.Elif)) elifs_of xs (each_after (map branch_nestings xs)) → Builds b d (many (part s.Elif)) elifs_of (x ∷ xs) (each_after (map branch_nestings (x ∷ xs)))
more_branches u v = record {
  tree = pair (node s.Elif (pair (word_at nowhere ElifWord) u.tree)) v.tree;
  built = is.more (is.part (is.both (is.word refl) u.built)) v.built;
  shown = λ i. u.shown i ∷ v.shown i;
  nests = λ i. outside ∷ u.nests i ++ v.nests i;
}

-- a branch and those after it
record BuildsBranches (b d : ℕ) (bs : List Branch) : Type 0 where
  first : Branch
  more : List Branch
  are : first ∷ more ≡ bs
  first_built : Builds b d (part s.Branch) branch_of first (branch_nestings first)
  more_built : Builds b d (many (part s.Elif)) elifs_of more (each_after (map branch_nestings more))

otherwise_built : {b d : ℕ} {block : List Step}
    → else_nestings (map step_nestings block) ≡ outside ∷ outside ∷ in_block (block_nestings block) → Builds b d (part s.Inner) inner_of block (in_block (block_nestings block)) → Builds b d (maybe (part s.Else)) else_of block (else_nestings (map step_nestings block))
otherwise_built same u = record {
  tree = node s.Else (pair (word_at nowhere ElseWord) (pair (mark Colon) u.tree));
  built = is.once (is.part (is.both (is.word refl) (is.both (is.word refl) u.built)));
  shown = u.shown;
  nests = ap (λ ns. outside ∷ outside ∷ ns) u.nests ∙ sym same;
}

if_in : (place : Place) (bs : List Branch) (block : List Step) (first : Branch) (more : List Branch) → first ∷ more ≡ bs → (ns ms ks : Nestings)
    → ns ≡ branch_nestings first → ms ≡ each_after (map branch_nestings more) → ks ≡ else_nestings (map step_nestings block)
    → outside ∷ ns ++ (ms ++ (ks ++ outside ∷ [])) ≡ statement_nestings (statement.If place bs block)
if_in place bs block first more are ns ms ks e f g =
    (λ i. outside ∷ e i ++ (f i ++ (g i ++ outside ∷ [])))
    ∙ ap (λ xs. outside ∷ xs)
    (sym (append_assoc (branch_nestings first) (each_after (map branch_nestings more)) (else_nestings (map step_nestings block) ++ outside ∷ [])))
    ∙ sym (statement-If place (first ∷ more) block) ∙ ap (λ bs. statement_nestings (statement.If place bs block)) are

if_stated : {b d : ℕ} {bs : List Branch} {block : List Step} (place : Place) → BuildsBranches b d bs
    → Builds b d (maybe (part s.Else)) else_of block (else_nestings (map step_nestings block)) → Stated b d true (statement.If place bs block)
if_stated {bs = bs} {block = block} place p w = let u = p.first_built in let v = p.more_built in closed (record {
  tree = node s.Closed (node s.If (pair (word_at place IfWord) (pair u.tree (pair v.tree (pair w.tree (word_at nowhere EndWord))))));
  built = is.part (is.right (is.left (is.part (is.both (is.word refl) (is.both u.built (is.both v.built (is.both w.built (is.word refl))))))));
  shown = (λ i. statement.If place (u.shown i ∷ v.shown i) (w.shown i)) ∙ ap (λ bs. statement.If place bs block) p.are;
  nests = if_in place bs block p.first p.more p.are _ _ _ u.nests v.nests w.nests;
})

unwound : {b d : ℕ} {walk : Walk} {xs : List Alternative} (place : Place) → Builds (suc b) d (part s.Walk) walk_of walk (walk_nestings walk)
    → Builds b d (part s.Alternatives) alternatives_of xs (separated (map alternative_nestings xs)) → Builds (suc b) d (part s.Alternative) alternative_of (alternative.Unwind place walk xs) (alternative_nestings (alternative.Unwind place walk xs))
unwound place u v = record {
  tree = node s.Alternative (node s.UnwoundAlternatives (pair (word_at place UnwindWord) (pair u.tree (pair (mark Colon) (pair v.tree (word_at nowhere EndWord))))));
  built = is.part (is.left (is.part (is.both (is.word refl) (is.both u.built (is.both (is.word refl)
      (is.both (is.deeper (refl, refl) v.built) (is.word refl)))))));
  shown = λ i. alternative.Unwind place (u.shown i) (v.shown i);
  nests = (λ i. outside ∷ u.nests i ++ (outside ∷ in_block (v.nests i) ++ outside ∷ [])) ∙ sym (alternative-Unwind place _ _);
}

offer_built : {b d : ℕ} {guard : Option Expr} {c : Communication} → BuildsOffer b d guard c
    → Builds b d (part s.Alternative) alternative_of (alternative.Guarded guard c []) (alternative_nestings (alternative.Guarded guard c []))
offer_built u = record {
  tree = node s.Alternative (node s.GuardedAlternative (pair u.tree none));
  built = is.part (is.right (is.part (is.both u.built is.never)));
  shown = ap (λ o. alternative.Guarded o.0 o.1 []) u.shown;
  nests = append-nil _ ∙ u.nests ∙ sym (append-nil _) ∙ sym (alternative-Guarded _ _ []);
}

offer_with : {b d : ℕ} {guard : Option Expr} {c : Communication} {block : List Step} → BuildsOffer b d guard c
    → body_nestings (map step_nestings block) ≡ outside ∷ in_block (block_nestings block)
    → Builds b d (part s.Inner) inner_of block (in_block (block_nestings block)) → Builds b d (part s.Alternative) alternative_of (alternative.Guarded guard c block) (alternative_nestings (alternative.Guarded guard c block))
offer_with {guard = guard} {c = c} {block = block} u same v = record {
  tree = node s.Alternative (node s.GuardedAlternative (pair u.tree (node s.AlternativeBody (pair (mark Colon) v.tree))));
  built = is.part (is.right (is.part (is.both u.built (is.once (is.part (is.both (is.word refl) v.built))))));
  shown = λ i. alternative.Guarded (u.shown i).0 (u.shown i).1 (v.shown i);
  nests = (λ i. u.nests i ++ outside ∷ v.nests i) ∙ ap (λ ns. offer_nestings guard c ++ ns) (sym same) ∙ sym (alternative-Guarded guard c block);
}

alternatives_built : {b d : ℕ} {x : Alternative} {xs : List Alternative} → Builds b d (part s.Alternative) alternative_of x (alternative_nestings x)
    → Builds b d (many (keyword AltWord ▸ part s.Alternative)) more_alternatives_of xs (each_after (map alternative_nestings xs)) → Builds b d (part s.Alternatives) alternatives_of (x ∷ xs) (separated (map alternative_nestings (x ∷ xs)))
alternatives_built u v = record {
  tree = node s.Alternatives (pair u.tree v.tree);
  built = is.part (is.both u.built v.built);
  shown = λ i. u.shown i ∷ v.shown i;
  nests = λ i. u.nests i ++ v.nests i;
}

more_alternatives : {b d : ℕ} {x : Alternative} {xs : List Alternative} → Builds b d (part s.Alternative) alternative_of x (alternative_nestings x)
    → Builds b d (many (keyword AltWord ▸ part s.Alternative)) more_alternatives_of xs (each_after (map alternative_nestings xs))
    → Builds b d (many (keyword AltWord ▸ part s.Alternative)) more_alternatives_of (x ∷ xs) (each_after (map alternative_nestings (x ∷ xs)))
more_alternatives u v = record {
  tree = pair (pair (word_at nowhere AltWord) u.tree) v.tree;
  built = is.more (is.both (is.word refl) u.built) v.built;
  shown = λ i. u.shown i ∷ v.shown i;
  nests = λ i. outside ∷ u.nests i ++ v.nests i;
}

inner_built : {b d : ℕ} {block : List Step} → Builds b d (part s.Block) block_of block (block_nestings block) → Builds (suc b) d (part s.Inner) inner_of block (in_block (block_nestings block))
inner_built u = record {
  tree = node s.Inner u.tree;
  built = is.part (is.deeper (refl, refl) u.built);
  shown = u.shown;
  nests = ap in_block u.nests;
}

-- the nestings in a statement and what stands after it

last_in : (st : Statement) (semicolon : Bool) → statement_nestings st ++ semicolon_if semicolon ≡ block_nestings (step st semicolon ∷ [])
last_in st semicolon = sym (step-in (step st semicolon)) ∙ sym (append-nil (step_nestings (step st semicolon)))

next_in : (st : Statement) (more : List Step) → statement_nestings st ++ outside ∷ block_nestings more ≡ block_nestings (step st true ∷ more)
next_in st more =
    sym (append_assoc (statement_nestings st) (outside ∷ []) (block_nestings more))
    ∙ ap (λ ns. ns ++ block_nestings more) (sym (step-in (step st true)))

at_once_in : (st : Statement) (more : List Step) → statement_nestings st ++ block_nestings more ≡ block_nestings (step st false ∷ more)
at_once_in st more =
    ap (λ ns. ns ++ block_nestings more) (sym (append-nil (statement_nestings st)) ∙ sym (step-in (step st false)))

-- a block has a statement

else_in : {b d : ℕ} {block : List Step} → FormedInner b d block
    → else_nestings (map step_nestings block) ≡ outside ∷ outside ∷ in_block (block_nestings block)
else_in (formed.inner (formed.last p)) = refl
else_in (formed.inner (formed.next p ps)) = refl
else_in (formed.inner (formed.after_end p ps)) = refl

body_in : {b d : ℕ} {block : List Step} → FormedInner b d block
    → body_nestings (map step_nestings block) ≡ outside ∷ in_block (block_nestings block)
body_in (formed.inner (formed.last p)) = refl
body_in (formed.inner (formed.next p ps)) = refl
body_in (formed.inner (formed.after_end p ps)) = refl

mutual
  block_built : {b d : ℕ} {ss : List Step} → FormedBlock b d ss → Builds b d (part s.Block) block_of ss (block_nestings ss)
  block_built (formed.last {ends = ends} {semicolon = semicolon} p) = with_after (build_statement p) (at_last ends semicolon) (last_in _ semicolon)
  block_built (formed.next {ends = ends} p ps) = with_after (build_statement p) (then_more ends (block_built ps)) (next_in _ _)
  block_built (formed.after_end p ps) = with_after (build_statement p) (at_once (block_built ps)) (at_once_in _ _)

  pub build_inner : {b d : ℕ} {ss : List Step} → FormedInner b d ss → Builds b d (part s.Inner) inner_of ss (in_block (block_nestings ss))
  build_inner (formed.inner p) = inner_built (block_built p)

  build_statement : {ends : Bool} {b d : ℕ} {st : Statement} → FormedStatement ends b d st → Stated b d ends st
  build_statement (formed.declare {b = b} p q) = build_declare b p q
  build_statement (formed.assign {b = b} {place = place} p q) = build_assign b place p q
  build_statement (formed.communicate {b = b} p) = build_communicate b p
  build_statement (formed.pass {b = b} {d = d} {place = place}) = build_pass b d place
  build_statement (formed.leave {b = b} {d = d} {place = place}) = build_break b d place
  build_statement (formed.continue {b = b} {d = d} {place = place}) = build_continue b d place
  build_statement (formed.select {place = place} ps) = select_stated place (build_alternatives ps)
  build_statement (formed.if_branches {place = place} ps) = if_stated place (build_branches ps) no_otherwise
  build_statement (formed.if_else {place = place} ps q) = if_stated place (build_branches ps) (otherwise_built (else_in q) (build_inner q))
  build_statement (formed.while {b = b} {place = place} p q) = while_stated place (build_expr b p) (bodied (build_inner q))
  build_statement (formed.for_each {b = b} {place = place} p q) = for_stated place (build_walk b p) (bodied (build_inner q))
  build_statement (formed.return {b = b} {place = place} p) = build_return b place p
  build_statement (formed.exit {b = b} {place = place} p) = build_exit b place p
  build_statement (formed.run {place = place} ps) = build_run place ps
  build_statement (formed.start {place = place} ps) = build_start place ps
  build_statement (formed.finish {b = b} {place = place} ps) = build_finish b place ps
  build_statement (formed.write {b = b} {place = place} {line = line} {text = text} {at = at} ps) = build_write b place line text at ps

  build_branches : {b d : ℕ} {bs : List Branch} → FormedBranches b d bs → BuildsBranches b d bs
  build_branches (formed.one_branch {b = b} p q) = record {
    first = _;
    more = [];
    are = refl;
    first_built = branched (build_expr b p) (build_inner q);
    more_built = no_branches;
  }
  build_branches (formed.branches {b = b} p q ps) = record {
    first = _;
    more = _;
    are = refl;
    first_built = branched (build_expr b p) (build_inner q);
    more_built = build_elifs ps;
  }

  build_elifs : {b d : ℕ} {bs : List Branch} → FormedBranches b d bs → Builds b d (many (part s.Elif)) elifs_of bs (each_after (map branch_nestings bs))
  build_elifs (formed.one_branch {b = b} p q) = more_branches (branched (build_expr b p) (build_inner q)) no_branches
  build_elifs (formed.branches {b = b} p q ps) = more_branches (branched (build_expr b p) (build_inner q)) (build_elifs ps)

  build_alternatives : {b d : ℕ} {xs : List Alternative} → FormedAlternatives b d xs → Builds b d (part s.Alternatives) alternatives_of xs (separated (map alternative_nestings xs))
  build_alternatives (formed.one_alternative p) = alternatives_built (build_alternative p) no_alternatives
  build_alternatives (formed.alternatives p ps) = alternatives_built (build_alternative p) (build_more_alternatives ps)

  build_more_alternatives : {b d : ℕ} {xs : List Alternative} → FormedAlternatives b d xs
      → Builds b d (many (keyword AltWord ▸ part s.Alternative)) more_alternatives_of xs (each_after (map alternative_nestings xs))
  build_more_alternatives (formed.one_alternative p) = more_alternatives (build_alternative p) no_alternatives
  build_more_alternatives (formed.alternatives p ps) = more_alternatives (build_alternative p) (build_more_alternatives ps)

  build_alternative : {b d : ℕ} {x : Alternative} → FormedAlternative b d x → Builds b d (part s.Alternative) alternative_of x (alternative_nestings x)
  build_alternative (formed.offer {b = b} p q) = offer_built (build_offer b p q)
  build_alternative (formed.offer_block {b = b} p q r) = offer_with (build_offer b p q) (body_in r) (build_inner r)
  build_alternative (formed.unwind {b = b} {place = place} p ps) = unwound place (build_walk (suc b) p) (build_alternatives ps)

pub build_block : (b : ℕ) {d : ℕ} {ss : List Step} → FormedBlock b d ss → Builds b d (part s.Block) block_of ss (block_nestings ss)
build_block b p = block_built p

-- What a rule that was read keeps to: declared symbols, at most 15 of them, and no empty group.
use Prim.Native.Nat.{ℕ, ◌≤◌}
use mathlib.Core.Path.{◌≡◌, sym, subst}
use mathlib.Core.List.{List, [], ◌∷◌, ◌++◌}
use mathlib.Core.Bool.{Bool, false}
use native.Mathlib.Omega.{arith}
use borrow.Author.Tests.{not-false}
use lib.Dec.{eqb}
use lib.ListN.{length}
use Rattle.language.specs.Grammar.{Grammar, Rule, concat}
use Rattle.language.specs.Sentence.{In, here, there}
use Rattle.language.specs.WellFormed.{RuleFormed}
use Rattle.language.specs.Tests.{any}
use Rattle.range.proofs.TestLaws.{all_cond}
use Rattle.symbol.specs.Symbol.{is_declared}
use Rattle.symbol.proofs.KindLaws.{is_nonterminal_lem, is_declared_lem}
use Rattle.reply.specs.declared.Kind.TheVariants as kind
use Rattle.text.specs.Field.{field_at}
use Rattle.text.proofs.ElseLaws.{all_number, all_letter}
use Rattle.grammar_rule.specs.Parts.{Part, Rest, parts, broken, symbol, caret, cut, parts_at, symbols_of}
use Rattle.grammar_rule.specs.Marks.{Shape, before, at_caret, in_group, at_cut, misplaced, with_part, shape_from, shape_of, on_marked}
use Rattle.grammar_rule.specs.RuleLine.{Line, read, refused, refused_at, undeclared, over_limits, some_undeclared, rule_of, is_rule, rule_at}
use Rattle.grammar_rule.proofs.SeenLaws.{Seen, seen}
use Rattle.grammar_rule.proofs.KeepLaws.{either_false}
use Rattle.grammar_rule.proofs.LineLaws.{few, left_declared, all_declared_lem}

-- ---- no group is empty
abbrev NoneEmpty : List (List ℕ) → Type 0
NoneEmpty γs = (γ : List ℕ) → In γ γs → γ ≡ [] → ⊥

filled_more : (γs : List (List ℕ)) (Y : ℕ) (γ : List ℕ) → NoneEmpty γs → NoneEmpty (γs ++ (Y ∷ γ) ∷ [])
filled_more [] Y γ f δ here e = let z : ◌≡◌ {A = ℕ} 0 1 = cc in omega arith
filled_more [] Y γ f δ (there i) e = elim i [ ]
filled_more (β ∷ γs) Y γ f δ here e = f β here e
filled_more (β ∷ γs) Y γ f δ (there i) e = filled_more γs Y γ (λ ε j. f ε (there j)) δ i e

FilledShape : Shape → Type 0
FilledShape (before α) = Unit {0}
FilledShape (at_caret α) = Unit {0}
FilledShape (in_group α γs Y γ) = NoneEmpty γs
FilledShape (at_cut α γs) = NoneEmpty γs
FilledShape misplaced = Unit {0}

none_filled : NoneEmpty []
none_filled γ i e = elim i [ ]

shape_part : (h : Shape) (p : Part) → FilledShape h → FilledShape (with_part h p)
unfolding FilledShape
shape_part (before α) (symbol X) f = tt
shape_part (before α) caret f = tt
shape_part (before α) cut f = tt
shape_part (at_caret α) (symbol X) f = none_filled
shape_part (at_caret α) caret f = tt
shape_part (at_caret α) cut f = tt
shape_part (in_group α γs Y γ) (symbol X) f = f
shape_part (in_group α γs Y γ) caret f = tt
shape_part (in_group α γs Y γ) cut f = filled_more γs Y γ f
shape_part (at_cut α γs) (symbol X) f = f
shape_part (at_cut α γs) caret f = tt
shape_part (at_cut α γs) cut f = tt
shape_part misplaced p f = tt

shape_parts : (h : Shape) (ps : List Part) → FilledShape h → FilledShape (shape_from h ps)
shape_parts h [] f = f
shape_parts h (p ∷ ps) f = shape_parts (with_part h p) ps (shape_part h p f)

-- ---- every symbol is declared
none_undeclared : (f : ℕ → Bool) (α : List ℕ) → any f α ≡ false → (X : ℕ) → In X α → f X ≡ false
none_undeclared f [] e X i = elim i [ ]
none_undeclared f (Y ∷ α) e X here = (either_false (f Y) (any f α) e).0
none_undeclared f (Y ∷ α) e X (there i) = none_undeclared f α (either_false (f Y) (any f α) e).1 X i

-- ---- a line that was read, in a grammar of these terminals and nonterminals
module _ (g : Grammar) where
  Formed : Line → Type 0
  Formed (read r next) = RuleFormed g r
  Formed (refused x) = Unit {0}

  rest_formed : (at : ℕ) (unit : Bool) (left : ℕ) (r : Rest) → Formed (rule_of at g.terminals g.nonterminals unit left r)
  unfolding rule_of Formed FilledShape
  rest_formed at unit left broken = tt
  rest_formed at unit left (parts ps next) =
      all_cond Formed (over_limits left (symbols_of ps)) (λ e. tt) (λ o.
      all_cond Formed (some_undeclared g.terminals g.nonterminals left (symbols_of ps)) (λ e. tt) (λ x.
      go o x (shape_of ps) (seen ps) (shape_parts (before []) ps tt)))
    where
      α : List ℕ
      α = symbols_of ps

      formed : over_limits left α ≡ false → some_undeclared g.terminals g.nonterminals left α ≡ false → (β : List ℕ) (γs : List (List ℕ)) → β ++ concat γs ≡ α
          → NoneEmpty γs → RuleFormed g (record { unit = unit; left = left; before = β; groups = γs })
      formed o x β γs e f =
          record {
            left_declared = is_nonterminal_lem g left (left_declared g.terminals g.nonterminals left α x);
            short = subst (λ (δ : List ℕ). length δ ≤ 15) (sym e) (few left α o);
            declared = λ X i. is_declared_lem g X (not-false (is_declared g.terminals g.nonterminals X)
                (none_undeclared (undeclared g.terminals g.nonterminals) α (all_declared_lem g.terminals g.nonterminals left α x) X
                (subst (In X) e i)));
            filled = f;
          }

      go : over_limits left α ≡ false → some_undeclared g.terminals g.nonterminals left α ≡ false → (h : Shape) → Seen h α → FilledShape h
          → Formed (on_marked h (λ β γs. read (record { unit = unit; left = left; before = β; groups = γs }) next) (refused_at at kind.MisplacedMark))
      go o x (before β) e f = tt
      go o x (at_caret β) e f = formed o x β [] (e tt) none_filled
      go o x (in_group β γs Y γ) e f = formed o x β (γs ++ (Y ∷ γ) ∷ []) (e tt) (filled_more γs Y γ f)
      go o x (at_cut β γs) e f = tt
      go o x misplaced e f = tt

  all_formed : (s : List ℕ) (at : ℕ) → Formed (rule_at s g.terminals g.nonterminals at)
  unfolding rule_at Formed
  all_formed s at =
      all_letter Formed (field_at s (record { at = at; ended = false })) (λ k c e. all_cond Formed (is_rule k) (λ h.
      all_number Formed (field_at s c) (λ left d f. rest_formed at (eqb k 85) left (parts_at s d)) tt)
      (λ h. tt)) tt

  pub rule_formed : (s : List ℕ) (at : ℕ) (r : Rule) (next : ℕ) → rule_at s g.terminals g.nonterminals at ≡ read r next → RuleFormed g r
  unfolding Formed
  rule_formed s at r next e = subst Formed e (all_formed s at)

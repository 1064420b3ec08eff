-- The tests of a symbol's kind decide the kinds of the crate `language`.
use Prim.Native.Nat.{ℕ, ◌+◌}
use mathlib.Core.Bool.{Bool, true, false, ◌||◌}
use mathlib.Core.Logic.{◌⊎◌, inl, inr}
use mathlib.Core.Path.{◌≡◌, refl}
use Rattle.language.specs.Grammar.{Grammar, IsTerminal, IsNonterminal}
use Rattle.range.proofs.RangeLaws.{within-true, true-within}
use Rattle.symbol.specs.Symbol.{is_terminal, is_nonterminal, is_declared}

module _ (g : Grammar) (X : ℕ) where
  pub is_terminal_lem : is_terminal g.terminals X ≡ true → IsTerminal g X
  is_terminal_lem e = within-true 1 X g.terminals e

  pub terminal_is : IsTerminal g X → is_terminal g.terminals X ≡ true
  terminal_is h = true-within 1 X g.terminals h.0 h.1

  pub is_nonterminal_lem : is_nonterminal g.nonterminals X ≡ true → IsNonterminal g X
  is_nonterminal_lem e = within-true 64 X (63 + g.nonterminals) e

  pub nonterminal_is : IsNonterminal g X → is_nonterminal g.nonterminals X ≡ true
  nonterminal_is h = true-within 64 X (63 + g.nonterminals) h.0 h.1

  pub is_declared_lem : is_declared g.terminals g.nonterminals X ≡ true → IsTerminal g X ⊎ IsNonterminal g X
  unfolding is_declared
  is_declared_lem e = go (is_terminal g.terminals X) refl e
    where
      go : (b : Bool) → is_terminal g.terminals X ≡ b → b || is_nonterminal g.nonterminals X ≡ true → IsTerminal g X ⊎ IsNonterminal g X
      go true p q = inl (is_terminal_lem p)
      go false p q = inr (is_nonterminal_lem q)

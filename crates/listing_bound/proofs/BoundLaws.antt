-- What the call answers, case by case.
use Prim.Native.Nat.{ℕ, ◌-◌, ◌*◌, ◌≤◌, ◌<◌}
use mathlib.Core.Path.{◌≡◌}
use mathlib.Core.Bool.{true, false}
use mathlib.Core.List.{List}
use borrow.Author.Tests.{lt-ltb, le-ltb}
use Rattle.language.specs.Grammar.{Grammar}
use Rattle.reply.specs.declared.Kind.TheVariants.{LimitExceeded}
use Rattle.grammar.specs.Book.{Book, grammar_of}
use Rattle.listing_bound.specs.declared.ListingBound.TheVariants.{Rules, Unbounded, Refused}
use Rattle.listing_bound.specs.Bound.{has_empty, of_grammar, from_book, bound_of}

module _ (g : Grammar) (k : ℕ) where
  pub of_empty : has_empty g.rules ≡ true → of_grammar g k ≡ Unbounded
  unfolding of_grammar
  of_empty e = simp e

  pub of_filled : has_empty g.rules ≡ false → of_grammar g k ≡ Rules (g.nonterminals * (2 * k - 1))
  unfolding of_grammar
  of_filled e = simp e

module _ (gs : List ℕ) (k : ℕ) where
  pub too_many : 65535 < k → bound_of gs k ≡ Refused (record { kind = LimitExceeded; place = 0 })
  unfolding bound_of
  too_many h = simp (lt-ltb 65535 k h)

  pub bound_book : k ≤ 65535 → {b : Book} → grammar_of gs ≡ b → bound_of gs k ≡ from_book b k
  unfolding bound_of
  bound_book h e = simp (le-ltb 65535 k h, e)

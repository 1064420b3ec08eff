-- A chain of rules that add no token cannot come back to a left side: a tree that grew without a token would give one sentence
-- two derivations of different size.
use Prim.Native.Nat.{ℕ, zero, suc, ◌≤◌, ◌<◌}
use native.Mathlib.Omega.{arith}
use mathlib.Core.Logic.{◌⊎◌, inl, inr}
use mathlib.Core.Path.{◌≡◌, refl, sym, ap, ◌∙◌, subst}
use mathlib.Core.List.{List, [], ◌∷◌, ◌++◌, map, append-nil}
use mathlib.Core.Option.{some, none}
use Rattle.language.specs.Grammar.{Grammar, Rule, at, rule_at, right}
use Rattle.language.specs.Derivation.{Tree, Forest, node, cons, yield, yields, IsTree, IsForest}
use Rattle.language.proofs.Forests.{size, but_first}
use Rattle.language.specs.Sentence.{In, here, there}
use Rattle.language.proofs.Member.{without, in_without}
use Rattle.leftcorner.specs.Machine.{Automaton}
use Rattle.leftcorner.proofs.Adequate.{Source, behind, Complete, Exact}
use Rattle.leftcorner.proofs.Whole.{one_derivation}
use Rattle.leftcorner.proofs.Stack.{ahead, ahead_at, Expects, Stack, live}

-- ---- the left sides that a chain may still come to: a list from which one is removed at each step

unfoldable pub lefts : List Rule → List ℕ
lefts rs = map (λ (r : Rule). r.left) rs

none-some : {A : Type 0} {r : Rule} → none ≡ some r → A
none-some e = let f : ◌≡◌ {A = ℕ} 0 1 = cc in absurd (omega (arith, f))

left_in : (rs : List Rule) (n : ℕ) (r : Rule) → at rs n ≡ some r → In r.left (lefts rs)
unfolding lefts
left_in [] n r e = none-some e
left_in (x ∷ rs) zero r e = let f : x ≡ r = cc in subst (λ (y : Rule). In y.left (lefts (x ∷ rs))) f here
left_in (x ∷ rs) (suc n) r e = there (left_in rs n r e)

module _ (g : Grammar) where
  rule_in : (i : ℕ) (r : Rule) → rule_at g i ≡ some r → In r.left (lefts g.rules)
  rule_in zero r e = none-some e
  rule_in (suc i) r e = left_in g.rules i r e

  -- ---- growth

  -- X's trees grow into Z's, with the same yield
  Grows : ℕ → ℕ → Type 0
  Grows X Z = (M : Tree) → IsTree g M X → (W : Tree) × IsTree g W Z × (yield W ≡ yield M) × (size M ≤ size W)

  grows_refl : (X : ℕ) → Grows X X
  unfolding Grows
  grows_refl X M h = (M, h, refl, omega arith)

  -- rule i derives its left side from a tree of Z and nothing more
  pub record Alone (i : ℕ) (r : Rule) (Z : ℕ) : Type 0 where
    pub is : rule_at g i ≡ some r
    pub rest : List ℕ
    pub right_is : right r ≡ Z ∷ rest
    pub forest : Forest
    pub forest_is : IsForest g forest rest
    pub silent : yields forest ≡ []

  grown : (i : ℕ) (r : Rule) (Z : ℕ) → Alone i r Z → (X : ℕ) → Grows X Z → (M : Tree) → IsTree g M X
      → (W : Tree) × IsTree g W r.left × (yield W ≡ yield M) × (size M < size W)
  unfolding Grows
  grown i r Z a X G M h =
      let x = G M h in (
        node i (cons x.0 a.forest),
        (r, a.is, refl, rw a.right_is (x.1, a.forest_is)),
        ap (λ (l : List ℕ). yield x.0 ++ l) a.silent ∙ append-nil (yield x.0) ∙ x.2,
        omega (arith, x.3),
      )

  -- every left side is one that the chain may still come to, or one whose trees have grown into Z's
  pub Chain : ℕ → List ℕ → Type 0
  Chain Z l = (Y : ℕ) → In Y (lefts g.rules) → In Y l ⊎ Grows Y Z

  pub chain_start : (Z : ℕ) → Chain Z (lefts g.rules)
  unfolding Chain
  chain_start Z Y y = inl y

  chain_next : (i : ℕ) (r : Rule) (Z : ℕ) (l : List ℕ) → Alone i r Z → (k : In r.left l) → Chain Z l → Chain r.left (without k)
  unfolding Chain Grows
  chain_next i r Z l a k inv Y y = pick (inv Y y)
    where
      now : (Y ≡ r.left) ⊎ In Y (without k) → In Y (without k) ⊎ Grows Y r.left
      now (inl x) = inr (subst (λ (X : ℕ). Grows Y X) x (grows_refl Y))
      now (inr x) = inl x

      pick : In Y l ⊎ Grows Y Z → In Y (without k) ⊎ Grows Y r.left
      pick (inl x) = now (in_without k x)
      pick (inr x) = inr (λ N hN. let o = grown i r Z a Y x N hN in (o.0, o.1, o.2, omega (arith, o.3)))

module _ {g : Grammar} {string : ℕ → List ℕ} {Kernel : ℕ → Source → ℕ → ℕ → Type 0} {m : Automaton}
    (C : Complete g string Kernel m) (E : Exact g string Kernel m) where
  -- a tree of X cannot grow where X is expected on a stack
  no_growth : (b : ℕ) (U v : List ℕ) (X : ℕ) → Stack C E (b ∷ U) v → Expects C E b X
      → (M W : Tree) → IsTree g M X → IsTree g W X → yield W ≡ yield M → size M < size W → ⊥
  no_growth b U v X s p M W hM hW y lt =
      let F = live C E b U v s p.source p.dot p.code p.holds in
      let e = ahead_at C E p.source p.dot X p.rest p.there in
      let R = but_first g F.rest X (p.rest ++ behind g string p.source) (rw e at F.rest_is) in
      let iM : IsForest g (cons M R.0) (ahead C E p.source p.dot) = rw e (hM, R.1) in
      let iW : IsForest g (cons W R.0) (ahead C E p.source p.dot) = rw e (hW, R.1) in
      let a = F.fits (cons M R.0) iM in
      let c = F.fits (cons W R.0) iW in
      let same : a.tree ≡ c.tree
      = one_derivation C E a.tree c.tree a.derives c.derives
      (a.yields_it ∙ ap (λ (l : List ℕ). v ++ ((l ++ yields R.0) ++ F.tail)) (sym y) ∙ sym c.yields_it) in
      omega (arith, lt, ap size same, F.weighs (cons M R.0) iM, F.weighs (cons W R.0) iW)

  -- so a chain at Z that goes on by rule i, whose left side b expects, comes to a left side that it had not met
  pub onward : (b : ℕ) (U v : List ℕ) (Z : ℕ) (l : List ℕ) → Stack C E (b ∷ U) v → Chain g Z l
      → (i : ℕ) (r : Rule) → Alone g i r Z → Expects C E b r.left → (k : In r.left l) × Chain g r.left (without k)
  unfolding Chain
  onward b U v Z l s inv i r a p = pick (inv r.left (rule_in g i r a.is))
    where
      pick : In r.left l ⊎ Grows g r.left Z → (k : In r.left l) × Chain g r.left (without k)
      pick (inl k) = (k, chain_next g i r Z l a k inv)
      pick (inr x) =
          let R = E.rich i r a.is in
          let hN : IsTree g (node i R.0) r.left = (r, a.is, refl, R.1) in
          let o = grown g i r Z a r.left x (node i R.0) hN in
          absurd (no_growth b U v r.left s p (node i R.0) o.0 hN o.1 o.2 o.3)

-- How many rules a derivation lists that is the only one of its terminals, where no right side is empty. While nodes have one child, from
-- the root down, no left side comes twice: a lower node would derive the same terminals from it. So at most n of them make a chain, which
-- ends over a leaf or at a node that parts the terminals, and of k terminals there are k leaves and at most k - 1 such nodes.
use Prim.Native.Nat.{ℕ, zero, suc, ◌+◌, ◌-◌, ◌*◌, ◌≤◌, ◌<◌}
use native.Mathlib.Omega.{arith}
use mathlib.Core.Logic.{◌⊎◌, inl, inr}
use mathlib.Core.Path.{◌≡◌, refl, sym, ap, ◌∙◌, subst}
use mathlib.Core.List.{List, [], ◌∷◌, ◌++◌, append-nil}
use mathlib.Core.Option.{Option, some}
use lib.ListN.{length, length-append, take, drop, take-append-drop}
use Rattle.language.specs.Grammar.{Grammar, Rule, rule_at, right, concat, IsNonterminal}
use Rattle.language.specs.Derivation.{Tree, node, Forest, nil, cons, yield, yields, IsTree, IsForest}
use Rattle.language.specs.Listing.{around, listing, listings}
use Rattle.language.specs.Sentence.{In}
use Rattle.language.proofs.Forests.{All, tree_ind}
use Rattle.language.proofs.Lists.{concat-++}
use Rattle.language.proofs.Member.{without, without-length, in_without}
use Rattle.build_states.specs.States.{range}
use Rattle.build_states.proofs.Lists.{in_range, range_length}

-- n * (2k - 1), without the minus
pub times_less : (n k : ℕ) → 1 ≤ k → n * (2 * k - 1) + n ≡ n * (k + k)
times_less n zero h = absurd (omega (arith, h))
times_less n (suc k) h = let e : 2 * suc k - 1 ≡ k + suc k = omega arith in omega (arith, ap (λ (m : ℕ). n * m) e)

module _ (g : Grammar) where
  abbrev pub rules : Tree → ℕ
  rules T = length (listing g T)

  abbrev rules_all : Forest → ℕ
  rules_all F = length (concat (listings g F))

  node-rules : (i : ℕ) (r : Rule) (F : Forest) → rule_at g i ≡ some r → rules (node i F) ≡ suc (rules_all F)
  node-rules i r F e = ap (λ (o : Option Rule). length (around o i (listings g F))) e ∙ parts (length r.before) (listings g F)
    where
      parts : (n : ℕ) (ls : List (List ℕ)) → length (concat (take n ls) ++ i ∷ concat (drop n ls)) ≡ suc (length (concat ls))
      parts n ls =
          omega (
            arith,
            length-append (concat (take n ls)) (i ∷ concat (drop n ls)),
            length-append (concat (take n ls)) (concat (drop n ls)),
            ap length (sym (concat-++ (take n ls) (drop n ls))),
            ap (λ (l : List (List ℕ)). length (concat l)) (take-append-drop n ls),
          )

  cons-rules : (T : Tree) (F : Forest) → rules_all (cons T F) ≡ rules T + rules_all F
  cons-rules T F = length-append (listing g T) (concat (listings g F))

  -- ---- T is the only derivation of X with its terminals, and so are its parts
  abbrev pub Only : Tree → ℕ → Type 0
  Only T X = (M : Tree) → IsTree g M X → yield M ≡ yield T → M ≡ T

  abbrev OnlyAll : Forest → List ℕ → Type 0
  OnlyAll F β = (H : Forest) → IsForest g H β → yields H ≡ yields F → H ≡ F

  only_node : (i : ℕ) (F : Forest) (X : ℕ) (r : Rule) → rule_at g i ≡ some r → r.left ≡ X → Only (node i F) X → OnlyAll F (right r)
  only_node i F X r e l o H h y = same (o (node i H) (r, e, l, h) y)
    where
      same : node i H ≡ node i F → H ≡ F
      same z = cc

  only_first : (T : Tree) (F : Forest) (X : ℕ) (β : List ℕ) → IsForest g F β → OnlyAll (cons T F) (X ∷ β) → Only T X
  only_first T F X β h o M k y = same (o (cons M F) (k, h) (ap (λ (l : List ℕ). l ++ yields F) y))
    where
      same : cons M F ≡ cons T F → M ≡ T
      same z = cc

  only_rest : (T : Tree) (F : Forest) (X : ℕ) (β : List ℕ) → IsTree g T X → OnlyAll (cons T F) (X ∷ β) → OnlyAll F β
  only_rest T F X β h o H k y = same (o (cons T H) (h, k) (ap (λ (l : List ℕ). yield T ++ l) y))
    where
      same : cons T H ≡ cons T F → H ≡ F
      same z = cc

  -- ---- the nonterminals that a chain may still come to
  -- T stands in the chain under Y: in the only derivation of Y with T's terminals, and it is not all of it
  record Under (Y : ℕ) (T : Tree) : Type 0 where
    whole : Tree
    derives : IsTree g whole Y
    only : Only whole Y
    same : yield whole ≡ yield T
    more : rules T < rules whole

  -- those of l, where all others are above T
  abbrev Ahead : List ℕ → Tree → Type 0
  Ahead l T = (Y : ℕ) → IsNonterminal g Y → In Y l ⊎ Under Y T

  -- a left side is not above itself
  left_ahead : (l : List ℕ) (T : Tree) (X : ℕ) → Ahead l T → IsTree g T X → IsNonterminal g X → In X l
  left_ahead l T X a h n = go (a X n)
    where
      go : In X l ⊎ Under X T → In X l
      go (inl m) = m
      go (inr u) = absurd (omega (arith, u.more, ap rules (u.only T h (sym u.same))))

  -- so the one child of a node has one less ahead
  child_ahead : (l : List ℕ) (i : ℕ) (T : Tree) (X : ℕ) (m : In X l) → IsTree g (node i (cons T nil)) X → Only (node i (cons T nil)) X
      → Ahead l (node i (cons T nil)) → Ahead (without m) T
  child_ahead l i T X m h o a Y n = go (a Y n)
    where
      above : (W : Tree) → IsTree g W Y → Only W Y → yield W ≡ yield (node i (cons T nil)) → rules (node i (cons T nil)) ≤ rules W → Under Y T
      above W d q y le = record {
        whole = W;
        derives = d;
        only = q;
        same = y ∙ append-nil (yield T);
        more = omega (arith, le, node-rules i h.0 (cons T nil) h.1, cons-rules T nil);
      }

      next : (Y ≡ X) ⊎ In Y (without m) → In Y (without m) ⊎ Under Y T
      next (inl e) = inr (above (node i (cons T nil)) (subst (IsTree g (node i (cons T nil))) (sym e) h) (subst (Only (node i (cons T nil))) (sym e) o) refl (omega arith))
      next (inr k) = inl k

      go : In Y l ⊎ Under Y (node i (cons T nil)) → In Y (without m) ⊎ Under Y T
      go (inl k) = next (in_without m k)
      go (inr u) = inr (above u.whole u.derives u.only u.same (omega (arith, u.more)))

  module _ (left_kind : (i : ℕ) (r : Rule) → rule_at g i ≡ some r → IsNonterminal g r.left)
      (filled : (i : ℕ) (r : Rule) → rule_at g i ≡ some r → right r ≡ [] → ⊥) where
    abbrev n : ℕ
    n = g.nonterminals

    -- ---- every derivation has a terminal
    Some : Tree → Type 0
    Some T = (X : ℕ) → IsTree g T X → 1 ≤ length (yield T)

    pub some_yield : (T : Tree) (X : ℕ) → IsTree g T X → 1 ≤ length (yield T)
    unfolding Some
    some_yield = tree_ind Some (λ a X h. omega arith) (λ i F a X h. first F (right h.0) a h.3 (filled i h.0 h.1))
      where
        first : (F : Forest) (β : List ℕ) → All Some F → IsForest g F β → (β ≡ [] → ⊥) → 1 ≤ length (yields F)
        first nil [] a h f = absurd (f refl)
        first nil (Y ∷ β) a h f = absurd h
        first (cons T F) [] a h f = absurd h
        first (cons T F) (Y ∷ β) a h f = omega (arith, a.0 Y h.0, length-append (yield T) (yields F))

    -- ---- the bound, by what is ahead
    Bound : Tree → Type 0
    Bound T = (X : ℕ) → IsTree g T X → Only T X → (l : List ℕ) → Ahead l T → rules T + (n + n) ≤ length l + n * (length (yield T) + length (yield T))

    -- where a chain begins, all nonterminals are
    from_start : (T : Tree) (X : ℕ) → Bound T → IsTree g T X → Only T X → rules T + n ≤ n * (length (yield T) + length (yield T))
    unfolding Bound
    from_start T X b h o = omega (arith, b X h o (range 64 n) (λ Y k. inl (in_range 64 n Y k.0 (omega (arith, k.1)))), range_length 64 n)

    forest_bound : (F : Forest) → All Bound F → (β : List ℕ) → IsForest g F β → OnlyAll F β → rules_all F ≤ n * (length (yields F) + length (yields F))
    forest_bound nil a β h o = omega arith
    forest_bound (cons T F) a [] h o = absurd h
    forest_bound (cons T F) a (Y ∷ β) h o =
        let t = from_start T Y a.0 h.0 (only_first T F Y β h.1 o) in
        let f = forest_bound F a.1 β h.1 (only_rest T F Y β h.0 o) in
        omega (arith, t, f, cons-rules T F, ap (λ (k : ℕ). n * k) (length-append (yield T) (yields F)))

    bound : (T : Tree) → Bound T
    unfolding Bound
    bound = tree_ind Bound (λ a X h o l p. omega arith) on_node
      where
        by_children : (i : ℕ) (F : Forest) (X : ℕ) (β : List ℕ) → All Bound F → (β ≡ [] → ⊥) → IsForest g F β → OnlyAll F β
            → IsTree g (node i F) X → Only (node i F) X → (l : List ℕ) → Ahead l (node i F) → In X l
            → suc (rules_all F) + (n + n) ≤ length l + n * (length (yields F) + length (yields F))
        by_children i nil X [] a e h f t o l p m = absurd (e refl)
        by_children i nil X (Y ∷ β) a e h f t o l p m = absurd h
        by_children i (cons T F) X [] a e h f t o l p m = absurd h
        by_children i (cons T nil) X (Y ∷ β) a e h f t o l p m =
            let b = a.0 Y h.0 (only_first T nil Y β h.1 f) (without m) (child_ahead l i T X m t o p) in
            omega (arith, b, without-length m, cons-rules T nil, ap (λ (u : List ℕ). n * (length u + length u)) (append-nil (yield T)))
        by_children i (cons T (cons U F)) X (Y ∷ []) a e h f t o l p m = absurd h.1
        by_children i (cons T (cons U F)) X (Y ∷ (Z ∷ β)) a e h f t o l p m =
            let f' = only_rest T (cons U F) Y (Z ∷ β) h.0 f in
            let first = from_start T Y a.0 h.0 (only_first T (cons U F) Y (Z ∷ β) h.1 f) in
            let second = from_start U Z a.1.0 h.1.0 (only_first U F Z β h.1.1 f') in
            let others = forest_bound F a.1.1 β h.1.1 (only_rest U F Z β h.1.0 f') in
            omega (
              arith,
              first,
              second,
              others,
              without-length m,
              cons-rules T (cons U F),
              cons-rules U F,
              ap (λ (k : ℕ). n * k) (length-append (yield T) (yield U ++ yields F)),
              ap (λ (k : ℕ). n * k) (length-append (yield U) (yields F)),
            )

        on_node : (i : ℕ) (F : Forest) → All Bound F → (X : ℕ) → IsTree g (node i F) X → Only (node i F) X → (l : List ℕ) → Ahead l (node i F)
            → rules (node i F) + (n + n) ≤ length l + n * (length (yields F) + length (yields F))
        on_node i F a X t o l p =
            let r = t.0 in
            let m = left_ahead l (node i F) X p t (subst (IsNonterminal g) t.2 (left_kind i r t.1)) in
            let b = by_children i F X (right r) a (filled i r t.1) t.3 (only_node i F X r t.1 t.2 o) t o l p m in
            omega (arith, b, node-rules i r F t.1)

    pub few_rules : (T : Tree) (X : ℕ) → IsTree g T X → Only T X → rules T ≤ n * (2 * length (yield T) - 1)
    few_rules T X h o = omega (arith, from_start T X (bound T) h o, times_less n (length (yield T)) (some_yield T X h))

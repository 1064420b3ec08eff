-- A right side grown symbol by symbol, and what a node has listed when k of its subtrees are done.
use Prim.Native.Nat.{ℕ, suc, ◌+◌, ◌≤◌, ◌<◌}
use mathlib.Core.Path.{◌≡◌, refl, sym, ap, ◌∙◌}
use mathlib.Core.Bool.{Bool, true, false, cond}
use mathlib.Core.List.{List, [], ◌∷◌, ◌++◌, append_assoc, append-nil}
use mathlib.Core.Option.{some}
use native.Mathlib.Omega.{arith}
use lib.ListN.{length, take, drop, length-append, take-append-drop}
use lib.Seq.{take_all, take-append-le, drop-append-le, drop-length}
use lib.Dec.{ltb}
use borrow.Author.Tests.{lt-ltb, le-ltb, eq-eqb, ne_eqb, ltb-true, ltb-false}
use native.Mathlib.Decide.{ℕ_discrete}
use Rattle.language.specs.Grammar.{Rule, concat}
use Rattle.language.specs.Derivation.{Forest, cons}
use Rattle.language.proofs.Forests.{◌⧺◌}
use Rattle.language.specs.Listing.{around}
use Rattle.language.proofs.Lists.{concat-++}
use Rattle.generate_loads.specs.Load.{Grown, grow_all}
use Rattle.generate_steps.specs.Put.{at_mark}

-- ---- the forest of a string in two parts
pub forest-++ : (f : ℕ → ℕ → Grown) (α β : List ℕ) (s : ℕ) → (grow_all f (α ++ β) s).forest ≡ (grow_all f α s).forest ⧺ (grow_all f β (grow_all f α s).state).forest
forest-++ f [] β s = refl
forest-++ f (X ∷ α) β s = ap (λ (F : Forest). cons (f X s).tree F) (forest-++ f α β (f X s).state)

pub state_++ : (f : ℕ → ℕ → Grown) (α β : List ℕ) (s : ℕ) → (grow_all f (α ++ β) s).state ≡ (grow_all f β (grow_all f α s).state).state
state_++ f [] β s = refl
state_++ f (X ∷ α) β s = state_++ f α β (f X s).state

-- ---- a node's listing so far
abbrev pub progress : ℕ → ℕ → ℕ → List (List ℕ) → List ℕ
progress i mark k ls = cond (ltb mark k) (concat (take mark ls) ++ i ∷ concat (drop mark ls)) (concat ls)

pub progress_none : (i mark : ℕ) → progress i mark 0 [] ≡ []
progress_none i mark = simp (le-ltb mark 0 (omega arith))

-- the rule is listed when as many subtrees are done as stand left of its mark
pub progress_mark : (i mark k : ℕ) (ls : List (List ℕ)) → length ls ≡ k → progress i mark k ls ++ at_mark i k mark ≡ progress i mark (suc k) ls
progress_mark i mark k ls e = go (ℕ_discrete k mark)
  where
    all_left : k ≡ mark → take mark ls ≡ ls
    all_left h = take_all mark ls (omega arith)

    none_right : k ≡ mark → drop mark ls ≡ []
    none_right h = ap (λ (n : ℕ). drop n ls) (sym h ∙ sym e) ∙ drop-length ls

    off : (k ≡ mark → ⊥) → ltb mark k ≡ ltb mark (suc k)
    off h = pick (ltb mark k) refl
      where
        pick : (b : Bool) → ltb mark k ≡ b → ltb mark k ≡ ltb mark (suc k)
        pick true q = q ∙ sym (lt-ltb mark (suc k) (omega (arith, ltb-true mark k q)))
        pick false q = q ∙ sym (le-ltb mark (suc k) (omega (arith, ltb-false mark k q, h)))

    go : Dec (k ≡ mark) → progress i mark k ls ++ at_mark i k mark ≡ progress i mark (suc k) ls
    go (yes h) = simp (le-ltb mark k (omega arith), lt-ltb mark (suc k) (omega arith), eq-eqb k mark h, all_left h, none_right h)
    go (no h) = simp (ne_eqb k mark h, append-nil, off h)

-- a subtree more
pub progress_more : (i mark k : ℕ) (ls : List (List ℕ)) (l : List ℕ) → k ≤ suc (length ls) → progress i mark k (ls ++ l ∷ []) ≡ progress i mark k ls ++ l
progress_more i mark k ls l h = go (ltb mark k) refl
  where
    behind : (ns : List (List ℕ)) → concat (ns ++ l ∷ []) ≡ concat ns ++ l
    behind ns = concat-++ ns (l ∷ []) ∙ ap (λ (x : List ℕ). concat ns ++ x) (append-nil l)

    go : (b : Bool) → ltb mark k ≡ b → progress i mark k (ls ++ l ∷ []) ≡ progress i mark k ls ++ l
    go true q =
        let lt : mark < k = ltb-true mark k q in
        let le : mark ≤ length ls = omega arith in
        simp (q, take-append-le mark ls (l ∷ []) le, drop-append-le mark ls (l ∷ []) le, behind, append_assoc)
    go false q = simp (q, behind)

-- ---- how long they are
parts_length : (n : ℕ) (ls : List (List ℕ)) → length (concat (take n ls)) + length (concat (drop n ls)) ≡ length (concat ls)
parts_length n ls = sym (length-append (concat (take n ls)) (concat (drop n ls))) ∙ ap length (sym (concat-++ (take n ls) (drop n ls)) ∙ ap concat (take-append-drop n ls))

-- with i between the parts
between_length : (n i : ℕ) (ls : List (List ℕ)) → length (concat (take n ls) ++ i ∷ concat (drop n ls)) ≡ length (concat ls) + 1
between_length n i ls = omega (arith, length-append (concat (take n ls)) (i ∷ concat (drop n ls)), parts_length n ls)

pub progress_short : (i mark k : ℕ) (ls : List (List ℕ)) → length (progress i mark k ls) ≤ length (concat ls) + 1
progress_short i mark k ls = go (ltb mark k)
  where
    go : (b : Bool) → length (cond b (concat (take mark ls) ++ i ∷ concat (drop mark ls)) (concat ls)) ≤ length (concat ls) + 1
    go true = omega (arith, between_length mark i ls)
    go false = omega arith

pub around-length : (r : Rule) (i : ℕ) (ls : List (List ℕ)) → length (around (some r) i ls) ≡ length (concat ls) + 1
around-length r i ls = between_length (length r.before) i ls

-- What the meaning of a grammar book says, in the terms of derivations and rules.
use Prim.Native.Nat.{ℕ, ◌+◌, ◌<◌}
use mathlib.Core.Path.{◌≡◌, refl, sym, subst}
use mathlib.Core.Logic.{◌⊎◌, inl, inr}
use mathlib.Core.List.{List}
use native.Mathlib.Omega.{arith}
use Rattle.language.specs.Grammar.{Grammar, IsNonterminal}
use Rattle.language.specs.Sentence.{Productive, Reachable, AllProductive}
use Rattle.language.specs.WellFormed.{WellFormed}
use Rattle.fixpoint.specs.declared.Found.{Found}
use Rattle.fixpoint.specs.Lowest.{Lowest, lowest_one}
use Rattle.grammar_reduction.specs.Reduced.{AllReachable, lowest_unproductive, lowest_unreachable, lowest_unproductive_lem, lowest_unreachable_lem, none_unproductive, none_unreachable, all_productive, all_reachable}
use Rattle.reply.specs.declared.Kind.TheVariants as kind
use Rattle.grammar.specs.Book.{Book, accepted, rejected, rejected_at, on_found, on_accepted, book_of, reduced_of, grammar_of}
use Rattle.grammar.proofs.FormLaws.{accepted_formed}
use Rattle.grammar.proofs.ReducedLaws.{reduced_unproductive, reduced_unreachable, reduced_accepted}

-- X is the lowest nonterminal of g that lacks P
pub record LowestLacking (g : Grammar) (P : ℕ → Type 0) (X : ℕ) : Type 0 where
  pub nonterminal : IsNonterminal g X
  pub lacks : P X → ⊥
  pub lower : (Y : ℕ) → IsNonterminal g Y → Y < X → (P Y → ⊥) → ⊥

-- ---- the two tests, by what they found
module _ (g : Grammar) (P : ℕ → Type 0) where
  found_lacking : (X : ℕ) → Lowest (λ Y. P Y → ⊥) 64 (64 + g.nonterminals) (Found.At X) → LowestLacking g P X
  found_lacking X h =
      record {
        nonterminal = (h.0, omega (arith, h.1));
        lacks = h.2;
        lower = λ Y n l f. h.3 Y n.0 l f;
      }

  lacking_found : (X : ℕ) → LowestLacking g P X → Lowest (λ Y. P Y → ⊥) 64 (64 + g.nonterminals) (Found.At X)
  lacking_found X k =
      (k.nonterminal.0, omega (arith, k.nonterminal.1), k.lacks, λ Y a b f. k.lower Y (a, omega (arith, k.nonterminal.1)) b f)

module _ (g : Grammar) where
  -- refused as unproductive at X exactly when X is the lowest nonterminal that derives no string of terminals
  pub unproductive_lacks : (X : ℕ) → lowest_unproductive g ≡ Found.At X → LowestLacking g (Productive g) X
  unproductive_lacks X e = found_lacking g (Productive g) X (subst (Lowest (λ Y. Productive g Y → ⊥) 64 (64 + g.nonterminals)) e (lowest_unproductive_lem g))

  pub lacks_unproductive : (X : ℕ) → LowestLacking g (Productive g) X → reduced_of g ≡ rejected_at kind.Unproductive X
  lacks_unproductive X k =
      reduced_unproductive g
      (lowest_one (λ Y. Productive g Y → ⊥) 64 (64 + g.nonterminals) (lowest_unproductive g) (Found.At X) (lowest_unproductive_lem g) (lacking_found g (Productive g) X k))

  -- refused as unreachable at X exactly when all are productive and X is the lowest nonterminal that is not reached
  pub unreachable_lacks : (X : ℕ) → lowest_unreachable g ≡ Found.At X → LowestLacking g (Reachable g) X
  unreachable_lacks X e = found_lacking g (Reachable g) X (subst (Lowest (λ Y. Reachable g Y → ⊥) 64 (64 + g.nonterminals)) e (lowest_unreachable_lem g))

  pub lacks_unreachable : AllProductive g → (X : ℕ) → LowestLacking g (Reachable g) X → reduced_of g ≡ rejected_at kind.Unreachable X
  lacks_unreachable a X k =
      reduced_unreachable g (all_productive g a)
      (lowest_one (λ Y. Reachable g Y → ⊥) 64 (64 + g.nonterminals) (lowest_unreachable g) (Found.At X) (lowest_unreachable_lem g) (lacking_found g (Reachable g) X k))

  pub reduced_is_accepted : AllProductive g → AllReachable g → reduced_of g ≡ accepted g
  reduced_is_accepted a b = reduced_accepted g (all_productive g a) (all_reachable g b)

  -- ---- and back, from the answer
  unfoldable pub Tells : Book → Type 0
  Tells (accepted k) = (k ≡ g) × AllProductive g × AllReachable g
  Tells (rejected x) =
      ((x.kind ≡ kind.Unproductive) × LowestLacking g (Productive g) x.place)
      ⊎ ((x.kind ≡ kind.Unreachable) × AllProductive g × LowestLacking g (Reachable g) x.place)

  pub answer_tells : (b : Book) → reduced_of g ≡ b → Tells b
  unfolding reduced_of Tells
  answer_tells b e = subst Tells e (go (lowest_unproductive g) refl (lowest_unreachable g) refl)
    where
      go : (p : Found) → lowest_unproductive g ≡ p → (q : Found) → lowest_unreachable g ≡ q
          → Tells (on_found p (rejected_at kind.Unproductive) (on_found q (rejected_at kind.Unreachable) (accepted g)))
      go (Found.At X) e q f = inl (refl, unproductive_lacks X e)
      go Found.Nothing e (Found.At X) f = inr (refl, none_unproductive g e, unreachable_lacks X f)
      go Found.Nothing e Found.Nothing f = (refl, none_unproductive g e, none_unreachable g f)

-- ---- a grammar that was read: what later crates may count on
pub record Reduced (g : Grammar) : Type 0 where
  pub formed : WellFormed g
  pub productive : AllProductive g
  pub reachable : AllReachable g

pub accepted_reduced : (s : List ℕ) (g : Grammar) → grammar_of s ≡ accepted g → Reduced g
unfolding grammar_of Tells
accepted_reduced s g e = go (book_of s) refl e
  where
    same : (k : Grammar) → book_of s ≡ accepted k → (g ≡ k) × AllProductive k × AllReachable k → Reduced g
    same k f h =
        let q : k ≡ g = sym h.0 in
        record {
          formed = subst WellFormed q (accepted_formed s k f);
          productive = subst AllProductive q h.1;
          reachable = subst AllReachable q h.2;
        }

    go : (b : Book) → book_of s ≡ b → on_accepted b reduced_of rejected ≡ accepted g → Reduced g
    go (accepted k) f h = same k f (answer_tells k (accepted g) h)
    go (rejected x) f h = let z : ◌≡◌ {A = ℕ} 0 1 = cc in absurd (omega arith)

-- What is known of a letters book that is good.
use Prim.Native.Nat.{ℕ, ◌≤◌}
use mathlib.Core.Path.{◌≡◌, refl, ap, subst, ◌∙◌}
use mathlib.Core.List.{List}
use mathlib.Core.Bool.{true, false, ◌&&◌}
use borrow.Author.Tests.{leb-true, ltb-false, eqb-true}
use lib.Dec.{leb, ltb, eqb}
use lib.ListN.{length}
use Rattle.fixpoint.specs.declared.Found.{Found}
use Rattle.range.specs.Range.{within}
use Rattle.range.proofs.TestLaws.{both, all_cond}
use Rattle.table_lines.specs.Line.{TextLine, line_at, all_at_most}
use Rattle.table_lines.specs.Line as line
use Rattle.letters.specs.Shared.{lowest_shared}
use Rattle.letters.specs.Letters.{Letters, codes, refused, unless_shared, by_line, letters_of}

pub record Good (t : ℕ) (s l : List ℕ) : Type 0 where
  pub few : within 1 t 63 ≡ true
  pub short : length s ≤ 65536
  pub end : ℕ
  pub line_is : line_at s 0 ≡ line.whole 76 l end
  pub one_line : length s ≤ end
  pub long : length l ≡ 26
  pub small : all_at_most 65535 l ≡ true
  pub declared : all_at_most t l ≡ true
  pub unshared : lowest_shared l ≡ Found.Nothing

module _ (t : ℕ) (s : List ℕ) where
  abbrev GoodIf : Letters → Type 0
  GoodIf (codes l) = Good t s l
  GoodIf (refused x) = Unit {0}

  if_good : GoodIf (letters_of t s)
  unfolding letters_of by_line
  if_good = all_cond GoodIf (within 1 t 63 && leb (length s) 65536) (λ a. by_line_lem (both _ _ a) (line_at s 0) refl) (λ a. tt)
    where
      by_line_lem : (within 1 t 63 ≡ true) × (leb (length s) 65536 ≡ true) → (x : TextLine) → line_at s 0 ≡ x → GoodIf (by_line t (length s) x)
      by_line_lem a line.broken e = tt
      by_line_lem a (line.whole letter l next) e =
          all_cond GoodIf (eqb letter 76 && eqb (length l) 26)
          (λ b. all_cond GoodIf (all_at_most 65535 l)
          (λ c. all_cond GoodIf (all_at_most t l)
          (λ d. all_cond GoodIf (ltb next (length s)) (λ f. tt) (λ f. unshared (both _ _ b) c d f (lowest_shared l) refl)) (λ d. tt)) (λ c. tt)) (λ b. tt)
        where
          unshared : (eqb letter 76 ≡ true) × (eqb (length l) 26 ≡ true) → all_at_most 65535 l ≡ true → all_at_most t l ≡ true → ltb next (length s) ≡ false
              → (f : Found) → lowest_shared l ≡ f → GoodIf (unless_shared f l)
          unshared b c d f (Found.At i) q = tt
          unshared b c d f Found.Nothing q = record {
            few = a.0;
            short = leb-true _ _ a.1;
            end = next;
            line_is = e ∙ ap (λ (k : ℕ). line.whole k l next) (eqb-true _ _ b.0);
            one_line = ltb-false _ _ f;
            long = eqb-true _ _ b.1;
            small = c;
            declared = d;
            unshared = q;
          }

  pub letters_good : {l : List ℕ} → letters_of t s ≡ codes l → Good t s l
  letters_good e = subst GoodIf e if_good

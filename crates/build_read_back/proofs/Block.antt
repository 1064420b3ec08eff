-- A block of lines that were written one after the other is read as these lines, where each is taken after those before it.
use Prim.Native.Nat.{ℕ, zero, suc, ◌+◌, ◌-◌, ◌≤◌}
use native.Mathlib.Omega.{arith}
use native.Mathlib.Nat.{add-zero}
use mathlib.Core.Path.{◌≡◌, refl, sym, ◌∙◌}
use mathlib.Core.Bool.{true}
use mathlib.Core.List.{List, [], ◌∷◌, ◌++◌, map, append_assoc, append-nil}
use borrow.Author.Tests.{le-leb}
use lib.ListN.{length}
use lib.Seq.{append_snoc}
use Rattle.language.specs.Grammar.{concat}
use Rattle.language.specs.Sentence.{In, here, there}
use Rattle.table_lines.specs.Line.{all_at_most}
use Rattle.table_lines.specs.Block.{Outcome, takes, stops, read, lines_from}
use Rattle.build_read_back.proofs.Line.{Rest, rest_past, rest_same, rest_as}

pub all_at_most_lem : (m : ℕ) (l : List ℕ) → ((v : ℕ) → In v l → v ≤ m) → all_at_most m l ≡ true
all_at_most_lem m [] h = refl
all_at_most_lem m (v ∷ l) h = simp (le-leb v m (h v here), all_at_most_lem m l (λ w n. h w (there n)))

module _ {A : Type 0} (s : List ℕ) (text : A → List ℕ) (next : ℕ → List A → Outcome A) (all : List A)
    (taken : (earlier : List A) (x : A) (later : List A) → all ≡ earlier ++ x ∷ later → (at past : ℕ) (w : List ℕ) → Rest s at (text x ++ w) → Rest s past w
    → next at earlier ≡ takes x past) where
  lines_on : (later earlier : List A) (n k at : ℕ) (w : List ℕ) {end : ℕ} → n ≡ k + length later → all ≡ earlier ++ later → Rest s at (concat (map text later) ++ w) → Rest s end w
      → lines_from n next at earlier ≡ lines_from k next end all
  unfolding lines_from
  lines_on [] earlier n k at w c e r q = rw (c ∙ add-zero k, rest_same r q, e ∙ append-nil earlier)
  lines_on (x ∷ later) earlier zero k at w c e r q = absurd (omega arith)
  lines_on (x ∷ later) earlier (suc n) k at w c e r q =
      let first = rest_as (append_assoc (text x) (concat (map text later)) w) r in
      let past = rest_past s (text x) first in
      simp (taken earlier x later e at (at + length (text x)) (concat (map text later) ++ w) first past)
      (lines_on later (earlier ++ x ∷ []) n k (at + length (text x)) w (omega arith) (e ∙ sym (append_snoc earlier x later)) past q)

  module _ {at end : ℕ} (w : List ℕ) (r : Rest s at (concat (map text all) ++ w)) (q : Rest s end w) where
    -- as many lines as may be
    pub lines_full : lines_from (length all) next at [] ≡ read all end
    unfolding lines_from
    lines_full = lines_on all [] (length all) 0 at w (omega arith) refl r q

    -- or none after them
    pub lines_stopped : (k : ℕ) → length all ≤ k → next end all ≡ stops → lines_from k next at [] ≡ read all end
    unfolding lines_from
    lines_stopped k h e = lines_on all [] k (k - length all) at w (omega arith) refl r q ∙ stop (k - length all)
      where
        stop : (n : ℕ) → lines_from n next end all ≡ read all end
        stop zero = refl
        stop (suc n) = simp e
